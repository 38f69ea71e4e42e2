use Rattle.std.proofs.Common.{arith, refl, ◌∙◌, append-nil}
use Rattle.wl_manager.proofs.Aborting.{tried_few}
use Rattle.wl_manager.proofs.Aborted.{publishes_aborted, kept_aborted, does_aborted, kept_unaborted, stays_unaborted}
use Rattle.wl_manager.proofs.Aborted.{refused_before}
use Rattle.wl_manager.proofs.Keeping.{ready_abort}
use Rattle.wl_manager.proofs.locked.Locked.abort.Goals as goal

pub abort_granted-taken-requires-clause-published : goal.abort_granted-taken-requires-clause-published
abort_granted-taken-requires-clause-published g c = λ id. (ready_abort _ _ _ _ c.drop_ended.new.self c.args.agent
    c.args.signal c.args.reason c.changes.result.now c.self.invariant
    (c.changes.ensures, c.drop_ended.ensures)).phases id
    ∙ append-nil _

pub invariant_of-self : goal.invariant_of-self
invariant_of-self g c =
    kept_unaborted _ _ _ _ _ c.drop_ended.new.self c.args.agent c.args.signal c.args.reason
    c.abort_granted-taken.new.book c.abort_granted-taken.ensures.0 c.in-Err.refusal c.self.invariant
    c.abort_granted-taken.ensures.1 c.in-Err.ensures.refused c.in-Err.ensures.unchanged c.in-Err.ensures.no_changes
    c.in-Err.ensures.nothing_added refl refl refl refl refl

pub returns-in-Err-clause-refused : goal.returns-in-Err-clause-refused
returns-in-Err-clause-refused g c =
    refused_before _ c.args.self.now c.drop_ended.new.self c.args.agent c.args.signal c.args.reason
    c.abort_granted-taken.new.book c.abort_granted-taken.new.keepers c.abort_granted-taken.ensures.0 c.in-Err.refusal
    c.self.view_is c.self.invariant.standing c.abort_granted-taken.ensures.1 c.in-Err.ensures.refused

pub returns-in-Err-clause-unchanged : goal.returns-in-Err-clause-unchanged
returns-in-Err-clause-unchanged g c = (
  stays_unaborted _ _ _ _ c.args.self.now _ c.drop_ended.new.self c.args.agent c.args.signal c.args.reason
      c.abort_granted-taken.new.book c.abort_granted-taken.ensures.0 c.in-Err.refusal c.changes.result.now
      c.self.view_is
      c.self.invariant (c.changes.ensures, c.drop_ended.ensures) c.abort_granted-taken.ensures.1
      c.in-Err.ensures.refused
      c.in-Err.ensures.unchanged c.in-Err.ensures.nothing_added refl refl refl,
  refl,
)

pub publish_all-requires : goal.publish_all-requires
publish_all-requires g c =
    publishes_aborted c.self.inside.book c.drop_ended.new.self c.args.agent c.args.signal c.args.reason
    c.abort_granted-taken.new.book c.abort_granted-taken.new.keepers c.abort_granted-taken.ensures.0 c.abort.new.self
    c.in-Ok.answer c.changes-2.result.now c.abort_granted-taken.ensures.1 c.in-Ok.ensures.aborted c.changes-2.ensures

pub overflow_add-taken : goal.overflow_add-taken
overflow_add-taken g c =
    let few = tried_few c.self.inside.book c.drop_ended.new.self c.args.agent c.args.signal c.args.reason
    c.abort_granted-taken.new.book c.abort_granted-taken.new.keepers c.abort_granted-taken.ensures.0 _
    c.abort_granted-taken.ensures.1 (omega arith) c.self.invariant.standing in
    let count = c.abort_granted-taken.ensures.2 in
    let own = c.entries_of-own.ensures.few in
    omega (arith, few, count, own)

pub invariant_of-self-2 : goal.invariant_of-self-2
invariant_of-self-2 g c =
    kept_aborted _ _ _ _ _ c.drop_ended.new.self c.args.agent c.args.signal c.args.reason c.abort_granted-taken.new.book
    c.abort_granted-taken.new.keepers c.abort_granted-taken.ensures.0 c.in-Ok.answer c.changes-2.result.now
    c.self.invariant c.abort_granted-taken.ensures.1 c.in-Ok.ensures.aborted c.in-Ok.ensures.added c.changes-2.ensures
    c.publish_all.ensures.phases refl refl
    (λ counts. let total = c.add.ensures.total counts in let count = c.abort_granted-taken.ensures.2
    in let own = c.entries_of-own.ensures.count in omega (arith, total, count, own)) c.self.invariant.shared

pub returns-clause-aborted : goal.returns-clause-aborted
returns-clause-aborted g c = (
  c.abort_granted-taken.ensures.0,
  does_aborted _ _ _ _ c.args.self.now _ c.drop_ended.new.self c.args.agent c.args.signal c.args.reason
      c.abort_granted-taken.new.book c.abort_granted-taken.new.keepers c.abort_granted-taken.ensures.0 c.in-Ok.answer
      c.changes.result.now c.self.view_is c.self.invariant (c.changes.ensures, c.drop_ended.ensures)
      c.abort_granted-taken.ensures.1 c.in-Ok.ensures.aborted c.in-Ok.ensures.added c.publish_all.ensures.cells,
  λ counts. let amount = c.add.ensures.amount counts in let count = c.abort_granted-taken.ensures.2
      in let own = c.entries_of-own.ensures.count in omega (arith, amount, count, own),
)
