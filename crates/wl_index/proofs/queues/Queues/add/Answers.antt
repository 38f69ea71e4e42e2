use Rattle.std.proofs.Common.{◌≡◌, ◌∙◌, ◌<◌, ◌∷◌, ◌++◌, [], ap, cond, subst, nat_cmp, List, ℕ, Some, rules}
use Rattle.std.specs.Str.{bytes_eq}
use Rattle.std.specs.String.{string_bytes}
use Rattle.std.specs.HashMap.{get_by_text}
use Rattle.std.specs.List.{AllByRecursion}
use Rattle.std.specs.List.Sorted.{IsStrictlySortedBy}
use Rattle.std.specs.Map.{keys_of, remove_entry}
use Rattle.std.specs.BTreeMap.{is_at}
use Rattle.std.proofs.lemmas.Map.Text.{hash_map_updates_text}
use Rattle.wl_number_map.proofs.Keyed.{entry_last, undone}
use Rattle.wl_index.specs.inner.NameQueue.{Waiting}
use Rattle.wl_index.specs.inner.Queues.{IsNames, Placed, place_of}
use Rattle.wl_index.proofs.InUse.{is_more}
use Rattle.wl_index.proofs.queues.Queues.add.Goals.{In_ok-insert, In-Ok-insert, Joined-remove}
use Rattle.wl_index.proofs.queues.Queues.add.Goals as goal

-- the queues' places are below the new one
below : (c : In_ok-insert) → AllByRecursion (λ (e : Placed). e.0 < c.args.number) c.self.inside.queues.entries
below c = rw c.self.view_is c.requires.places

-- the new name's queue is the last
abbrev queue : In_ok-insert → Waiting
queue c = record { name = c.args.name.now; waits = (c.args.number, c.args.mode) ∷ []; holders = [] }

last : (c : In_ok-insert) → c.insert.new.self.entries ≡ c.self.inside.queues.entries ++ (c.args.number, queue c) ∷ []
last c =
    let pushed : c.push.new.self ≡ queue c = search rules in
    c.in_ok-insert.ensures.entries ∙ entry_last c.self.inside.queues.entries c.args.number c.push.new.self (below c)
    ∙ ap (λ l. c.self.inside.queues.entries ++ (c.args.number, l) ∷ []) pushed

pub returns-clause-added : goal.returns-clause-added
returns-clause-added c = rw (← c.self.view_is) (last (goal.at.returns-clause-added c).In_ok-insert)

names : (c : In-Ok-insert) → IsNames (c.self.inside.queues.entries
    ++ (c.args.number, queue (goal.at.invariant_of-self-in-Ok-insert c).In_ok-insert) ∷ [])
    (get_by_text c.insert-2.new.self)
names c =
    let i = c.self.inside in
    let at = (goal.at.invariant_of-self-in-Ok-insert c).In_ok-insert in
    let named : string_bytes c.in_ok-key.key ≡ c.args.name.now = search rules in
    let updates = hash_map_updates_text (string_bytes c.in_ok-key.key) i.places c.insert-2.new.self (Some c.args.number)
    c.in-Ok-insert.ensures.updates in
    is_more i.queues.entries c.args.number (queue at) (get_by_text i.places) (get_by_text c.insert-2.new.self)
    (below at) (ap (place_of c.args.name.now) c.self.view_is ∙ c.requires.fresh) c.self.invariant
    (subst (λ l. IsStrictlySortedBy nat_cmp (keys_of l)) (last at) c.in_ok-insert.ensures.ordered)
    (subst (λ n. (q : List ℕ) → get_by_text c.insert-2.new.self q
    ≡ cond (bytes_eq n q) (Some c.args.number) (get_by_text i.places q)) named updates)

pub invariant_of-self-in-Ok-insert : goal.invariant_of-self-in-Ok-insert
invariant_of-self-in-Ok-insert c = let at = goal.at.invariant_of-self-in-Ok-insert c
    in rw (last at.In_ok-insert) (names at.In-Ok-insert)

pub returns-clause-are : goal.returns-clause-are
returns-clause-are c = let at = goal.at.returns-clause-are c in rw (last at.In_ok-insert) (names at.In-Ok-insert).are

-- taken out, the queues are as they were
same : (c : Joined-remove) → c.remove.new.self.entries ≡ c.self.inside.queues.entries
same c =
    c.remove.ensures.entries ∙ ap (remove_entry (is_at (nat_cmp c.args.number))) c.in_ok-insert.ensures.entries
    ∙ undone c.self.inside.queues.entries c.args.number c.push.new.self
    (below (goal.at.invariant_of-self-in_default-insert c).In_ok-insert)

pub invariant_of-self-in_default-insert : goal.invariant_of-self-in_default-insert
invariant_of-self-in_default-insert c =
    let stays : c.insert-2.new.self.entries ≡ c.self.inside.places.entries = search rules in
    rw (same c, stays) c.self.invariant

pub returns-in_default-insert-clause-err : goal.returns-in_default-insert-clause-err
returns-in_default-insert-clause-err c = same c ∙ c.self.view_is
