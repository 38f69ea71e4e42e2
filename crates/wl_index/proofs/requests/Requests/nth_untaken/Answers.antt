use Rattle.std.proofs.Common.{Some, ◌≡◌, ◌∙◌, subst, sym, ◌-◌, arith}
use Rattle.std.specs.Prelude.{filter}
use Rattle.wl_index.specs.inner.Order.{first_of}
use Rattle.wl_index.specs.inner.GrantOrder.{Distinct}
use Rattle.wl_index.specs.inner.Rows.{Rows, holding, grant_seq_of}
use Rattle.wl_index.proofs.Untaken.{none_passed, one_passed, all_passed, offers, reached, first_below}
use Rattle.wl_index.proofs.requests.Requests.nth_untaken.Goals as goal

pub loop-passed-init : goal.loop-passed-init
loop-passed-init c = none_passed c.args.owner c.args.i c.args.self.now.entries

pub overflow_add-low : goal.overflow_add-low
overflow_add-low c =
    let i = c.self.inside in
    let there = subst (λ (v : Rows). first_of (offers c.loop-passed.low c.args.owner v.entries)
    ≡ Some c.in_ok-low.field-0) (sym c.self.view_is) (sym c.first_untaken.ensures ∙ c.in_ok-low.was) in
    let below = first_below c.loop-passed.low c.args.owner i.grant_seq i.requests.entries c.in_ok-low.field-0
    c.self.invariant.below_next there in
    let room = c.self.invariant.room in
    let high = c.self.invariant.high in
    omega (arith, below, room, high)

pub loop-passed-preserved : goal.loop-passed-preserved
loop-passed-preserved c =
    let apart = subst (λ (v : Rows). Distinct grant_seq_of (filter holding v.entries)) c.self.view_is
    c.self.invariant.distinct in
    one_passed c.args.owner c.args.i c.loop-passed.passed c.loop-passed.low c.args.self.now.entries c.in_ok-low.field-0
    apart c.loop-passed-test.true (sym c.first_untaken.ensures ∙ c.in_ok-low.was) c.loop-passed.invariant

pub returns-in_err-low : goal.returns-in_err-low
returns-in_err-low c =
    c.from_residual.ensures ∙ sym (all_passed c.args.owner c.args.i c.loop-passed.passed c.loop-passed.low
    c.args.self.now.entries (sym c.first_untaken.ensures ∙ c.in_err-low.was) c.loop-passed.invariant)

pub returns-in_err-first_untaken : goal.returns-in_err-first_untaken
returns-in_err-first_untaken c =
    c.from_residual-in_err-first_untaken.ensures ∙ sym (all_passed c.args.owner c.args.i c.loop-passed.passed
    c.loop-passed.low c.args.self.now.entries (sym c.first_untaken-2.ensures ∙ c.in_err-first_untaken.was)
    c.loop-passed.invariant)

pub returns : goal.returns
returns c =
    let end : c.args.i - c.loop-passed.passed ≡ 0 = omega (arith, c.loop-passed-test.false) in
    sym (reached c.args.owner c.args.i c.loop-passed.passed c.loop-passed.low c.args.self.now.entries
    c.in_ok-first_untaken.field-0 end (sym c.first_untaken-2.ensures ∙ c.in_ok-first_untaken.was)
    c.loop-passed.invariant)
