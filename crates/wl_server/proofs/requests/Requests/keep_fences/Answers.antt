use Rattle.std.proofs.Common.{refl}
use Rattle.wl_types.specs.declared.phases.Phase.TheVariants.{Pending}
use Rattle.wl_server.proofs.Observed.{fenced_more}
use Rattle.wl_server.proofs.requests.Requests.keep_fences.Goals.{in-Some+in_ok-push, in_default-token_of}
use Rattle.wl_server.proofs.requests.Requests.keep_fences.Goals as goal

pub loop-number-preserved : goal.loop-number-preserved
loop-number-preserved c = elim c.match-token_of.branch [
  | in-Some+in_ok-push w ↦ rw (w.self-is, w.in_ok-push.ensures.items)
      (fenced_more c.args.observed.now c.loop-number.self.fences.items c.loop-number.number-index (0, Pending) _
      c.loop-number.invariant c.loop-number-test.true refl c.in-Taken.is)
  | in_default-token_of w ↦ rw w.self-is c.loop-number.invariant
]
