use Rattle.std.proofs.Common.{rules, arith, refl, [], ◌++◌, subst, sym}
use Rattle.wl_script.proofs.Pieces.{handed_on, Fed-none, fed_line, broken_line, fed_rest, broken_rest, shorter}
use Rattle.std.proofs.lemmas.Result.{on_ok_weaker, IfErr-weaker}
use Rattle.wl_script.specs.inner.Progress.{CountsOn}
use Rattle.wl_script.proofs.Entries.{counted_more}
use Rattle.wl_script.proofs.feeding.feed.Goals as goal

pub loop-line-init : goal.loop-line-init
loop-line-init g c = record {
  fed = ([], refl, Fed-none _ _ c.requires.open_end);
  entries = record { same = λ key rest. refl };
  open_end = c.requires.open_end;
  count = omega arith;
  same = refl;
}

pub returns-in_err-end_line-clause-breaks : goal.returns-in_err-end_line-clause-breaks
returns-in_err-end_line-clause-breaks g c =
    let (front, split, fed) = c.loop-line.invariant.fed in
    let (no_lf, found) = c.in-Some.ensures.some in
    handed_on c.from_residual.result c.in_err-end_line.field-0.0 _ c.from_residual.ensures.1
    (broken_line _ _ _ _ _ _ _ _ _ _ split found fed c.in_err-end_line.ensures.breaks)

pub loop-line-preserved : goal.loop-line-preserved
loop-line-preserved g c =
    let (front, split, fed) = c.loop-line.invariant.fed in
    let (no_lf, found) = c.in-Some.ensures.some in
    record {
      fed = fed_line _ _ _ _ _ _ _ _ _ split found fed c.in_ok-end_line.ensures.fed;
      entries = counted_more _ _ _ _ _ _ _ _ _ _ _ _ found c.loop-line.invariant.entries
          c.in_ok-end_line.ensures.entries;
      open_end = search rules;
      count = omega (arith, c.loop-line.invariant.count, c.in_ok-end_line.ensures.one, shorter _ _ _ found);
      same = search rules;
    }

pub returns-clause-fed : goal.returns-clause-fed
returns-clause-fed g c =
    let (front, split, fed) = c.loop-line.invariant.fed in
    on_ok_weaker c.keep.result (λ kept. fed_rest _ _ _ _ _ _ _ _ split c.loop-line.invariant.open_end (search rules)
    kept (search rules) fed) c.keep.ensures.kept

pub returns-clause-breaks : goal.returns-clause-breaks
returns-clause-breaks g c =
    let (front, split, fed) = c.loop-line.invariant.fed in
    IfErr-weaker c.keep.result _ _ (λ fault h. broken_rest _ _ _ _ _ _ fault split c.loop-line.invariant.open_end
    (search rules) fed h) c.keep.ensures.err

pub returns-clause-entries : goal.returns-clause-entries
returns-clause-entries g c =
    on_ok_weaker c.keep.result
    (λ kept. subst (CountsOn (g.A.Answerer.world c.args.answerer.now) (g.A.Answerer.journals c.args.answerer.now)
    (c.args.progress.now.unfinished.items ++ c.args.piece.now)
    (g.A.Answerer.world c.loop-line.answerer) (g.A.Answerer.journals c.loop-line.answerer))
    (sym kept) c.loop-line.invariant.entries) c.keep.ensures.kept
