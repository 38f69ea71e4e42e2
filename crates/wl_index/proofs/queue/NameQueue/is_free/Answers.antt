use Rattle.std.proofs.Common.{rules, ◌≡◌, ◌∙◌, Bool, true, ap, sym, nat_eq}
use Rattle.std.specs.Prelude.{◌&&◌, not, is_some}
use Rattle.std.specs.Option.{option_eq}
use Rattle.wl_machine.specs.Grants.{is_empty}
use Rattle.wl_index.specs.inner.NameQueue.{Waiting, head_number, waits_from}
use Rattle.wl_index.proofs.Shared.{is_free}
use Rattle.wl_index.proofs.queue.NameQueue.is_free.Goals as goal

pub returns-then-is_none : goal.returns-then-is_none
returns-then-is_none c =
    let i = c.self.inside in
    let none : not (is_some i.holder) ≡ true = search rules in
    let heads : Bool = option_eq nat_eq (head_number i.live.entries) i.first in
    c.eq.ensures ∙ ap (λ number. option_eq nat_eq number i.first) c.first_of.ensures ∙ ap (λ b. b && heads) (sym none)
    ∙ is_free i.live.entries (waits_from i.first i.live.entries) i.first i.holder c.self.invariant
    ∙ ap (λ (v : Waiting). is_empty v.holders) c.self.view_is
