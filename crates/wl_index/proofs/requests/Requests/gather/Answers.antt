use Rattle.std.proofs.Common.{◌≡◌, ℕ, List, ◌+◌, ◌++◌, ◌∷◌, [], ap, sym, ◌∙◌, length, append_assoc, append-nil, arith}
use Rattle.std.proofs.Common.{drop, filter, get_or, map, subst}
use Rattle.std.specs.List.Sorted.{IsStrictlySortedBy}
use Rattle.std.specs.Map.{keys_of}
use Rattle.std.specs.Ordering.{nat_cmp}
use Rattle.wl_index.specs.inner.Rows.{Rows}
use Rattle.std.specs.Option.{option_to_list}
use Rattle.std.proofs.lemmas.List.{drop_all, length-append}
use Rattle.wl_index.specs.inner.Ends.{ends_entry}
use Rattle.wl_index.specs.inner.Order.{place_of}
use Rattle.wl_index.proofs.Picks.{pick, picked, all_picked, ends_fewer}
use Rattle.wl_index.proofs.Turns.{rest_next}
use Rattle.wl_index.proofs.requests.Requests.gather.Goals.{After-ending_place}
use Rattle.wl_index.proofs.requests.Requests.gather.Goals as goal

pub loop-number-init : goal.loop-number-init
loop-number-init c =
    let es = c.args.self.now.entries in
    let ordered = subst (λ (v : Rows). IsStrictlySortedBy nat_cmp (keys_of v.entries)) c.self.view_is
    c.self.invariant.ordered in
    record {
      items = ap (λ l. l ++ picked (ends_entry c.args.owner c.args.standing) es c.args.numbers.now) c.requires.none
          ∙ all_picked c.args.owner c.args.standing es ordered c.args.numbers.now c.requires.finds.0 c.requires.finds.1;
      capacity = omega arith;
    }

-- the number at hand, and the numbers behind it
abbrev at_hand : After-ending_place → ℕ
at_hand c = get_or c.args.numbers.now c.loop-number.number-index 0

abbrev behind : After-ending_place → List ℕ
behind c = drop (c.loop-number.number-index + 1) c.args.numbers.now

-- the places found, what the number adds, and those behind are all
found : (c : After-ending_place)
    → let q = ends_entry c.args.owner c.args.standing in
    let es = c.args.self.now.entries in
    c.loop-number.places.items ++ (pick q es (at_hand c) ++ picked q es (behind c)) ≡ map place_of (filter q es)
found c =
    let next : drop c.loop-number.number-index c.args.numbers.now
    ≡ at_hand c ∷ behind c = rest_next _ _ 0 c.loop-number-test.true in
    ap (λ (ns : List ℕ). c.loop-number.places.items ++ picked (ends_entry c.args.owner c.args.standing)
    c.args.self.now.entries ns) (sym next) ∙ c.loop-number.invariant.items

pub push_some-requires : goal.push_some-requires
push_some-requires c =
    let l = c.loop-number in
    let es = c.args.self.now.entries in
    let q = ends_entry c.args.owner c.args.standing in
    let total = ap length (found c) in
    let one = length-append l.places.items (pick q es (at_hand c) ++ picked q es (behind c)) in
    let two = length-append (pick q es (at_hand c)) (picked q es (behind c)) in
    let here = ap (λ o. length (option_to_list o)) c.ending_place.ensures in
    let few = ends_fewer q es in
    let room = c.requires.room in
    let wide = l.invariant.capacity in
    let len = l.places.ok.0 in
    omega (arith, total, one, two, here, few, room, wide, len)

pub loop-number-preserved : goal.loop-number-preserved
loop-number-preserved c =
    let l = c.loop-number in
    let at = (goal.at.loop-number-preserved c).After-ending_place in
    let es = c.args.self.now.entries in
    let q = ends_entry c.args.owner c.args.standing in
    let wide = l.invariant.capacity in
    let capacity = c.push_some.ensures.capacity in
    let pushed : c.push_some.new.places.items ≡ l.places.items ++ pick q es (at_hand at) = c.push_some.ensures.items
    ∙ ap (λ o. l.places.items ++ option_to_list o) c.ending_place.ensures in
    record {
      items = ap (λ ps. ps ++ picked q es (behind at)) pushed
          ∙ append_assoc l.places.items (pick q es (at_hand at)) (picked q es (behind at)) ∙ found at;
      capacity = omega (arith, wide, capacity);
    }

pub returns-clause-items : goal.returns-clause-items
returns-clause-items c =
    let l = c.loop-number in
    let q = ends_entry c.args.owner c.args.standing in
    let none : drop l.number-index c.args.numbers.now ≡ [] = drop_all l.number-index c.args.numbers.now (omega arith) in
    sym (append-nil l.places.items) ∙ ap (λ (k : List ℕ). l.places.items ++ picked q c.args.self.now.entries k)
    (sym none) ∙ l.invariant.items

pub returns-clause-capacity : goal.returns-clause-capacity
returns-clause-capacity c = c.loop-number.invariant.capacity
