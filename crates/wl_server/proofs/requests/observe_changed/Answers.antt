use Rattle.std.proofs.Common.{slice_index_or}
use Rattle.std.proofs.lemmas.List.Elements.{All-push}
use Rattle.wl_session.specs.LastReported.{Fits}
use Rattle.wl_server.proofs.Observed.{one_more, none_more, taken_more}
use Rattle.wl_server.proofs.requests.observe_changed.Goals.{in-Some+in_ok-push, in_default}
use Rattle.wl_server.proofs.requests.observe_changed.Goals as goal

pub loop-number-preserved : goal.loop-number-preserved
loop-number-preserved c = elim c.match-change_of.branch [
  | in-Some+in_ok-push w ↦ (
      let both = one_more c.loop-number.observed.items c.args.numbers.now c.loop-number.number-index w.in-Some.phase
      c.requires c.loop-number-test.true c.loop-number.invariant.by_number c.loop-number.invariant.below in
      record {
        by_number = rw (w.observed-is, w.in_ok-push.ensures.items) both.0;
        below = rw (w.observed-is, w.in_ok-push.ensures.items) both.1;
        fit = rw (w.observed-is, w.in_ok-push.ensures.items)
            (All-push (Fits c.args.outcome.now c.args.session.now.last_reported) c.loop-number.observed.items
            (slice_index_or c.args.numbers.now c.loop-number.number-index 0, w.in-Some.phase)
            c.loop-number.invariant.fit
            w.in-Some.ensures.0);
        taken = rw (w.observed-is, w.in_ok-push.ensures.items)
            (taken_more c.loop-number.observed.items (slice_index_or c.args.numbers.now c.loop-number.number-index 0)
            w.in-Some.phase c.loop-number.invariant.taken w.in-Some.ensures.1);
      })
  | in_default w ↦ record {
    by_number = rw w.observed-is c.loop-number.invariant.by_number;
    below = rw w.observed-is (none_more c.loop-number.observed.items c.args.numbers.now c.loop-number.number-index
        c.loop-number.invariant.below);
    fit = rw w.observed-is c.loop-number.invariant.fit;
    taken = rw w.observed-is c.loop-number.invariant.taken;
  }
]
