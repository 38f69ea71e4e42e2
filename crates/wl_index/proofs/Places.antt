-- The places of locks, and the order of grants.
use Rattle.std.proofs.Common.{◌≡◌, List, refl, sym, ap, ◌∙◌, map, filter}
use Rattle.wl_machine.specs.declared.rows.HeldRow.{HeldRow}
use Rattle.wl_machine.proofs.Lists.{map_twice}
use Rattle.wl_index.specs.declared.request.Place.{Place}
use Rattle.wl_index.specs.inner.GrantOrder.{by_grant_seq, Distinct}
use Rattle.wl_index.specs.inner.Rows.{Entry, holding, grant_seq_of, lock_row}
use Rattle.wl_index.specs.inner.Order.{place_of, places_of}
use Rattle.wl_index.proofs.Lists.{map_by_grant_seq}
use Rattle.wl_index.proofs.Distinct.{distinct_map}

pub places_distinct : (es : List Entry) → Distinct grant_seq_of (filter holding es)
    → Distinct (λ (p : Place). p.grant_seq) (places_of es)
places_distinct es distinct = distinct_map grant_seq_of (λ (p : Place). p.grant_seq) place_of (λ e. refl)
    (filter holding es) distinct

-- places by grant sequence are the locks in the order of their grants
pub numbers_in_order : (locks : List Entry) → map (λ (p : Place). p.number)
    (by_grant_seq (λ (p : Place). p.grant_seq) (map place_of locks))
    ≡ map (λ (lock : HeldRow). lock.number) (map lock_row (by_grant_seq grant_seq_of locks))
numbers_in_order locks =
    ap (map (λ (p : Place). p.number)) (sym (map_by_grant_seq grant_seq_of (λ (p : Place). p.grant_seq) place_of
    (λ e. refl) locks))
    ∙ map_twice (λ (p : Place). p.number) place_of (by_grant_seq grant_seq_of locks)
    ∙ sym (map_twice (λ (lock : HeldRow). lock.number) lock_row (by_grant_seq grant_seq_of locks))
