-- The live requests and the room for their changes.
use Rattle.std.proofs.Common.{◌≡◌, ℕ, ◌+◌, ◌*◌, ◌≤◌, ◌<◌, ◌==◌, List, [], ◌∷◌, ◌++◌, length, map, refl, ap, subst, sym}
use Rattle.std.proofs.Common.{◌∙◌, arith}
use Rattle.std.specs.Prelude.{filter, not, Option, Some, None}
use Rattle.std.specs.List.{AllByRecursion}
use Rattle.std.specs.List.Sorted.{IsStrictlySortedBy}
use Rattle.std.specs.Map.{keys_of}
use Rattle.std.specs.Ordering.{nat_cmp}
use Rattle.std.proofs.lemmas.List.{length-append}
use Rattle.wl_types.specs.declared.phases.Change.{Change}
use Rattle.wl_types.specs.declared.phases.Phase.{Phase}
use Rattle.wl_types.specs.declared.words.Mode.{Mode}
use Rattle.wl_index.specs.inner.NameQueue.{with_one_more}
use Rattle.wl_index.specs.inner.Queues.{Placed, with_joined, with_joined_at, place_of}
use Rattle.wl_index.proofs.Lists.{all_append, all_weaker}
use Rattle.wl_index.proofs.Processing.{below_updated}
use Rattle.wl_index.specs.declared.request.Request.{Request}
use Rattle.wl_index.specs.declared.request.Stage.TheVariants.{Pending}
use Rattle.wl_index.specs.declared.request.Place.{Place}
use Rattle.wl_index.specs.inner.Ends.{numbers_of, place_ends}
use Rattle.wl_index.specs.inner.Lists.{is_spared}
use Rattle.wl_index.specs.inner.Locks.{Board}
use Rattle.wl_machine.specs.declared.rows.HeldRow.{HeldRow}
use Rattle.wl_machine.specs.declared.rows.PendingRow.{PendingRow}
use Rattle.wl_machine.specs.Grants.{granted_lock}
use Rattle.wl_machine.proofs.Lists.{map_twice}
use Rattle.wl_index.specs.inner.Rows.{Entry, Tag, other, request_row, held_of, pending_of, tag, tags_of}
use Rattle.wl_number_map.proofs.Keyed.{Found}
use Rattle.wl_index.proofs.Counting.{length-filter-not}
use Rattle.wl_index.proofs.Ends.{held_without, one_fewer, other_lock, other_request, pending_without}
use Rattle.wl_index.proofs.Rows.{held_more, live_count, pending_more}

pub board_as : (b : Board) (es : List Entry) (next : ℕ) (names : List (List ℕ)) (changes : List Change) → es ≡ b.entries
    → next ≡ b.next → names ≡ b.names → changes ≡ b.changes → record {
      entries = es;
      next = next;
      names = names;
      changes = changes;
    } ≡ b
board_as b es next names changes one two three four = rw (one, two, three, four) refl

-- what has these places has ended
pub ended_as : (before after : Board) (ps qs : List Place) (phase : Phase) (left : List Entry) (told : List Change)
    → after ≡ record before {
      entries = filter (is_spared (numbers_of ps)) before.entries;
      changes = before.changes ++ place_ends phase ps;
    } → ps ≡ qs
    → filter (is_spared (numbers_of qs)) before.entries ≡ left → place_ends phase qs ≡ told
    → after ≡ record before { entries = left; changes = before.changes ++ told }
ended_as before after ps qs phase left told is same gone telling = is ∙ rw (same, gone, telling) refl

-- an end takes one change at least of those that are left
pub ended_room : (number : ℕ) (r : Request) (es : List Entry) → Found number es r
    → (length (held_of (filter (other number) es)) + 2 * length (pending_of (filter (other number) es))) + 1
    ≤ length (held_of es) + 2 * length (pending_of es)
ended_room number r es f =
    let fewer = one_fewer number r es f in
    let before = live_count es in
    let after = live_count (filter (other number) es) in
    let h = length-filter-not (λ lock. other_lock number lock) (held_of es) in
    let p = length-filter-not (λ request. other_request number request) (pending_of es) in
    let held = ap length (held_without number es) in
    let pending = ap length (pending_without number es) in
    omega (arith, fewer, before, after, h, p, held, pending)

-- one that comes may change twice
pub enqueued_room : (es : List Entry) (number : ℕ) (r : Request) → r.stage ≡ Pending
    → length (held_of (es ++ (number, r) ∷ [])) + 2 * length (pending_of (es ++ (number, r) ∷ []))
    ≡ (length (held_of es) + 2 * length (pending_of es)) + 2
enqueued_room es number r waits =
    let held = ap length (held_more es number r (rw waits refl)) in
    let pending = ap length (pending_more es number r (rw waits refl))
    ∙ length-append (pending_of es) (request_row (number, r) ∷ []) in
    omega (arith, held, pending)

-- places stay below the next number
pub below_joined : (name : List ℕ) (number : ℕ) (mode : Mode) (queues : List Placed)
    → AllByRecursion (λ (e : Placed). e.0 < number) queues → AllByRecursion (λ (e : Placed). e.0 < number + 1)
    (with_joined name number mode queues)
below_joined name number mode queues below = by (place_of name queues)
  where
    more : AllByRecursion (λ (e : Placed). e.0 < number + 1) queues
    more = all_weaker (λ (e : Placed). e.0 < number) (λ (e : Placed). e.0 < number + 1) queues
        (λ e less. omega (arith, less)) below

    by : (o : Option ℕ) → AllByRecursion (λ (e : Placed). e.0 < number + 1) (with_joined_at o name number mode queues)
    by None = all_append (λ (e : Placed). e.0 < number + 1) queues
        ((number, record { name = name; waits = (number, mode) ∷ []; holders = [] }) ∷ []) more (omega arith, tt)
    by (Some place) = below_updated (number + 1) place (λ w. with_one_more w number mode) queues more

-- the numbers are those of the tags
pub same_tags_ordered : (new old : List Entry) → tags_of new ≡ tags_of old → IsStrictlySortedBy nat_cmp (keys_of old)
    → IsStrictlySortedBy nat_cmp (keys_of new)
same_tags_ordered new old same sorted =
    let number : Tag → ℕ = λ t. t.number in
    subst (IsStrictlySortedBy nat_cmp) (sym (sym (map_twice number tag new) ∙ ap (map number) same
    ∙ map_twice number tag old)) sorted

-- one that waited holds: of its two changes one is left
pub seized_room : (number : ℕ) (row : PendingRow) (held held' : List HeldRow) (pending pending' : List PendingRow)
    → filter (λ (request : PendingRow). request.number == number) pending ≡ row ∷ []
    → held' ≡ held ++ map granted_lock (filter (λ (request : PendingRow). request.number == number) pending)
    → pending' ≡ filter (λ (request : PendingRow). not (request.number == number)) pending
    → (length held' + 2 * length pending') + 1 ≡ length held + 2 * length pending
seized_room number row held held' pending pending' only more less =
    let both = length-filter-not (λ (request : PendingRow). request.number == number) pending in
    let one : length (filter (λ (request : PendingRow). request.number == number) pending) ≡ 1 = ap length only in
    let h = ap length (more ∙ ap (λ l. held ++ map granted_lock l) only) ∙ length-append held (granted_lock row ∷ []) in
    let p = ap length less in
    omega (arith, both, one, h, p)
