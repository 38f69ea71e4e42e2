use Rattle.std.proofs.Common.{rules, arith, refl, []}
use Rattle.std.proofs.KnownBytes.{Consumes-nil, Consumes-kept}
use Rattle.std.proofs.lemmas.List.Elements.{All-nil}
use Rattle.std.proofs.lemmas.Result.{on_ok_weaker, IfErr-weaker}
use Rattle.wl_script.specs.declared.fault.ScriptFault.TheVariants.{Read, TooManyTurns}
use Rattle.wl_script.proofs.Pieces.{handed_on, Fed-none}
use Rattle.wl_script.proofs.Ends.{ends_well, world_after, leaves_at_end, leaves_in_piece, leaves_between}
use Rattle.wl_script.proofs.AtOnce.{at_once_in_piece, at_once_between, at_once_at_end, fed_more, nothing_more}
use Rattle.wl_script.proofs.AtOnce.{one_more_read, short_piece}
use Rattle.wl_script.proofs.Entries.{counted_all}
use Rattle.wl_script.proofs.running.run_reads.Goals as goal

pub loop-turn-init : goal.loop-turn-init
loop-turn-init g c = record {
  fed = (
    [],
    Consumes-nil _,
    rw c.new.ensures.items (Fed-none _ _ (All-nil _)),
    omega arith,
    rw c.new.ensures.items
        (record { same = λ key rest. refl }),
  );
  short = search rules;
  count = omega arith;
  reads = search rules;
  none_read = refl;
  none_written = refl;
}

pub returns-in-Ok-eq0-clause-ok : goal.returns-in-Ok-eq0-clause-ok
returns-in-Ok-eq0-clause-ok g c =
    let (bytes, read, fed, _, _) = c.loop-turn.invariant.fed in
    let end = nothing_more _ _ _ bytes c.read.new.buf c.in-Ok-eq0.field-0 read c.in-Ok-eq0.field-0-test (search rules)
    c.in-Ok-eq0.ensures.bytes in
    ends_well _ _ _ _ _ _ _ _ _ end fed c.loop-turn.invariant.short c.finish.ensures.count c.finish.ensures.written

pub returns-in-Ok-eq0-clause-world : goal.returns-in-Ok-eq0-clause-world
returns-in-Ok-eq0-clause-world g c =
    let (bytes, read, fed, _, _) = c.loop-turn.invariant.fed in
    let end = nothing_more _ _ _ bytes c.read.new.buf c.in-Ok-eq0.field-0 read c.in-Ok-eq0.field-0-test (search rules)
    c.in-Ok-eq0.ensures.bytes in
    on_ok_weaker c.finish.result (λ e. world_after _ _ _ _ _ _ _ _ end fed e) c.finish.ensures.world

pub returns-in-Ok-eq0-clause-entries : goal.returns-in-Ok-eq0-clause-entries
returns-in-Ok-eq0-clause-entries g c =
    let (bytes, read, fed, _, counts) = c.loop-turn.invariant.fed in
    let end = nothing_more _ _ _ bytes c.read.new.buf c.in-Ok-eq0.field-0 read c.in-Ok-eq0.field-0-test
    (search rules) c.in-Ok-eq0.ensures.bytes in
    on_ok_weaker c.finish.result
    (λ grew. counted_all _ _ _ _ _ _ _ _ _ end fed.open_end counts grew) c.finish.ensures.entries

pub returns-in-Ok-eq0-clause-err : goal.returns-in-Ok-eq0-clause-err
returns-in-Ok-eq0-clause-err g c =
    let (bytes, read, fed, _, _) = c.loop-turn.invariant.fed in
    let end = nothing_more _ _ _ bytes c.read.new.buf c.in-Ok-eq0.field-0 read c.in-Ok-eq0.field-0-test (search rules)
    c.in-Ok-eq0.ensures.bytes in
    IfErr-weaker c.finish.result _ _ (λ fault s. leaves_at_end _ _ _ _ _ _ _ _ fault end fed c.loop-turn.invariant.short
    s) c.finish.ensures.err

pub returns-in-Ok-eq0-clause-at_once : goal.returns-in-Ok-eq0-clause-at_once
returns-in-Ok-eq0-clause-at_once g c =
    let (bytes, read, fed, _, _) = c.loop-turn.invariant.fed in
    let end = nothing_more _ _ _ bytes c.read.new.buf c.in-Ok-eq0.field-0 read c.in-Ok-eq0.field-0-test (search rules)
    c.in-Ok-eq0.ensures.bytes in
    IfErr-weaker c.finish.result _ _ (λ fault s. at_once_at_end _ _ _ _ _ _ _ _ fault end fed s) c.finish.ensures.err

pub returns-in-Ok-eq0-clause-reads : goal.returns-in-Ok-eq0-clause-reads
returns-in-Ok-eq0-clause-reads g c = one_more_read _ _ _ _ _ c.loop-turn.invariant.reads c.read.ensures.made
    (search rules)

pub returns-in_err-feed-in-Ok-clause-err : goal.returns-in_err-feed-in-Ok-clause-err
returns-in_err-feed-in-Ok-clause-err g c =
    let (bytes, read, fed, _, _) = c.loop-turn.invariant.fed in
    handed_on c.from_residual.result c.in_err-feed-in-Ok.field-0.0 _ c.from_residual.ensures.1
    (leaves_in_piece _ _ _ _ _ _ _ _ _ _ _ read c.in-Ok.ensures.bytes.0 fed c.in_err-feed-in-Ok.ensures.breaks)

pub returns-in_err-feed-in-Ok-clause-at_once : goal.returns-in_err-feed-in-Ok-clause-at_once
returns-in_err-feed-in-Ok-clause-at_once g c =
    let (bytes, read, fed, _, _) = c.loop-turn.invariant.fed in
    handed_on c.from_residual.result c.in_err-feed-in-Ok.field-0.0 _ c.from_residual.ensures.1
    (at_once_in_piece _ _ _ _ _ _ _ _ _ _ _ read c.in-Ok.ensures.bytes.0 fed c.in_err-feed-in-Ok.ensures.breaks
    (short_piece _ _ (search rules)))

pub returns-in_err-feed-in-Ok-clause-reads : goal.returns-in_err-feed-in-Ok-clause-reads
returns-in_err-feed-in-Ok-clause-reads g c = one_more_read _ _ _ _ _ c.loop-turn.invariant.reads c.read.ensures.made
    (search rules)

pub returns-in-Err-clause-err : goal.returns-in-Err-clause-err
returns-in-Err-clause-err g c =
    let (bytes, read, fed, _, _) = c.loop-turn.invariant.fed in
    leaves_between _ _ _ _ _ _ _ (Consumes-kept _ _ _ _ read c.in-Err.ensures.bytes) fed

pub returns-in-Err-clause-at_once : goal.returns-in-Err-clause-at_once
returns-in-Err-clause-at_once g c =
    let (bytes, read, fed, _, _) = c.loop-turn.invariant.fed in
    at_once_between _ _ _ _ _ _ _ (Read c.loop-turn.progress.answered)
    (Consumes-kept _ _ _ _ read c.in-Err.ensures.bytes) fed refl

pub returns-in-Err-clause-reads : goal.returns-in-Err-clause-reads
returns-in-Err-clause-reads g c = one_more_read _ _ _ _ _ c.loop-turn.invariant.reads c.read.ensures.made (search rules)

pub loop-turn-preserved : goal.loop-turn-preserved
loop-turn-preserved g c =
    let (bytes, read, fed, few, counts) = c.loop-turn.invariant.fed in
    record {
      fed = fed_more _ _ _ _ _ _ _ _ _ _ _ _ _ _ _ _ _ read c.in-Ok.ensures.bytes.0 fed c.in_ok-feed-in-Ok.ensures.fed
          few
          (search rules) counts c.in_ok-feed-in-Ok.ensures.entries;
      short = search rules;
      count = search rules;
      reads = search rules;
      none_read = search rules;
      none_written = search rules;
    }

pub returns-clause-err : goal.returns-clause-err
returns-clause-err g c =
    let (bytes, read, fed, _, _) = c.loop-turn.invariant.fed in
    leaves_between _ _ _ _ _ _ _ read fed

pub returns-clause-at_once : goal.returns-clause-at_once
returns-clause-at_once g c =
    let (bytes, read, fed, _, _) = c.loop-turn.invariant.fed in
    at_once_between _ _ _ _ _ _ _ (TooManyTurns c.loop-turn.progress.answered) read fed refl
