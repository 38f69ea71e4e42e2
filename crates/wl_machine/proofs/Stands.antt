-- Where one request stands, and what events bring to it.
use Rattle.std.proofs.Common.{◌≡◌, ℕ, suc, zero, ◌≤◌, Bool, true, false, cond, List, [], ◌∷◌, ◌++◌, length, map, refl}
use Rattle.std.proofs.Common.{ap, sym, ◌∙◌, ◌==◌, arith, append-nil, subst}
use Rattle.std.proofs.lemmas.List.{map-append}
use Rattle.std.proofs.lemmas.List.Elements.{filter-append}
use Rattle.std.specs.Prelude.{not, ◌&&◌, filter, ⊤}
use Rattle.std.specs.Str.{bytes_eq}
use Rattle.wl_types.specs.Phases.{is_move}
use Rattle.wl_types.specs.declared.phases.Change.{Change}
use Rattle.wl_types.specs.declared.phases.Phase.{Phase}
use Rattle.wl_types.specs.declared.phases.Phase.TheVariants.{Pending, Granted, Taken}
use Rattle.wl_machine.specs.declared.rows.HeldRow.{HeldRow}
use Rattle.wl_machine.specs.declared.rows.PendingRow.{PendingRow}
use Rattle.wl_machine.specs.Grants.{grants, without_first, granted_lock, grant_change, locks, queue, Lists, lists_of}
use Rattle.wl_machine.specs.Grants.{process_queue, process_queues}
use Rattle.wl_machine.specs.Step.{lock_ends, request_ends}
use Rattle.wl_machine.specs.Laws.{phases_of, are_moves}
use Rattle.wl_machine.proofs.Lists.{filter_map, filters_commute, map_twice}
use Rattle.wl_machine.proofs.Fronts.{first_requests, first_granted}

-- the lock and the request of a number
abbrev pub held_of : ℕ → List HeldRow → List HeldRow
held_of id held = filter (λ lock. lock.number == id) held

abbrev pub waiting_of : ℕ → List PendingRow → List PendingRow
waiting_of id pending = filter (λ request. request.number == id) pending

abbrev pub phase_of_lock : HeldRow → Phase
phase_of_lock lock = cond lock.taken Taken Granted

-- the locks and requests of one number are these, in this phase: none, a request that waits, or a lock
abbrev pub Stands : List HeldRow → List PendingRow → Phase → Type 0
Stands [] [] phase = ⊤
Stands [] (request ∷ []) phase = phase ≡ Pending
Stands (lock ∷ []) [] phase = phase ≡ phase_of_lock lock
Stands held pending phase = true ≡ false

-- the last of some phases
abbrev pub last_phase : Phase → List Phase → Phase
last_phase phase [] = phase
last_phase phase (next ∷ phases) = last_phase next phases

-- from a phase, by moves, to where it stands now
pub record Moved (phase : Phase) (phases : List Phase) (held : List HeldRow) (pending : List PendingRow) : Type 0 where
  pub moves : are_moves phase phases ≡ true
  pub stands : Stands held pending (last_phase phase phases)

pub moves_append : (phase : Phase) (one two : List Phase) → are_moves phase one ≡ true
    → are_moves (last_phase phase one) two ≡ true → are_moves phase (one ++ two) ≡ true
moves_append phase [] two first second = second
moves_append phase (next ∷ one) two first second = at_move (is_move phase next) refl (moves_append next one two)
  where
    at_move : (b : Bool) → is_move phase next ≡ b → (are_moves next one ≡ true
        → are_moves (last_phase next one) two ≡ true → are_moves next (one ++ two) ≡ true)
        → (is_move phase next && are_moves next (one ++ two)) ≡ true
    at_move true is rest = rw is (rest (rw is at first) second)
    at_move false is rest = absurd (let no : false ≡ true = rw is at first in cc)

last_append : (phase : Phase) (one two : List Phase) → last_phase phase (one ++ two)
    ≡ last_phase (last_phase phase one) two
last_append phase [] two = refl
last_append phase (next ∷ one) two = last_append next one two

pub join : (phase : Phase) (one two : List Phase) (held held' : List HeldRow) (pending pending' : List PendingRow)
    → Moved phase one held pending → Moved (last_phase phase one) two held' pending'
    → Moved phase (one ++ two) held' pending'
join phase one two held held' pending pending' first second =
    record {
      moves = moves_append phase one two first.moves second.moves;
      stands = subst (λ p. Stands held' pending' p) (sym (last_append phase one two)) second.stands;
    }

pub stay : (phase : Phase) (held : List HeldRow) (pending : List PendingRow) → Stands held pending phase
    → Moved phase [] held pending
stay phase held pending stands = record { moves = refl; stands = stands }

-- requests end
pub end_waiting : (p : PendingRow → Bool) (end phase : Phase) (held : List HeldRow) (pending : List PendingRow)
    → is_move Pending end ≡ true → Stands held pending phase
    → Moved phase (map (λ request. end) (filter p pending)) held (filter (λ request. not (p request)) pending)
end_waiting p end phase [] [] move stands = stay phase [] [] stands
end_waiting p end phase [] (request ∷ []) move stands = at_test (p request) refl
  where
    at_test : (b : Bool) → p request ≡ b → Moved phase (map (λ request. end) (filter p (request ∷ []))) []
        (filter (λ request. not (p request)) (request ∷ []))
    at_test true is = rw is (record { moves = rw (stands, move) refl; stands = tt })
    at_test false is = rw is (stay phase [] (request ∷ []) stands)
end_waiting p end phase [] (request ∷ other ∷ pending) move stands = absurd (cc (stands))
end_waiting p end phase (lock ∷ []) [] move stands = stay phase (lock ∷ []) [] stands
end_waiting p end phase (lock ∷ []) (request ∷ pending) move stands = absurd (cc (stands))
end_waiting p end phase (lock ∷ other ∷ held) pending move stands = absurd (cc (stands))

-- locks end
pub end_held : (p : HeldRow → Bool) (end phase : Phase) (held : List HeldRow) (pending : List PendingRow)
    → ((lock : HeldRow) → p lock ≡ true → is_move (phase_of_lock lock) end ≡ true) → Stands held pending phase
    → Moved phase (map (λ lock. end) (filter p held)) (filter (λ lock. not (p lock)) held) pending
end_held p end phase [] pending moves stands = stay phase [] pending stands
end_held p end phase (lock ∷ []) [] moves stands = at_test (p lock) refl
  where
    at_test : (b : Bool) → p lock ≡ b → Moved phase (map (λ lock. end) (filter p (lock ∷ [])))
        (filter (λ lock. not (p lock)) (lock ∷ [])) []
    at_test true is = let move : is_move (phase_of_lock lock) end ≡ true = moves lock is
        in rw is (record { moves = rw (stands, move) refl; stands = tt })
    at_test false is = rw is (stay phase (lock ∷ []) [] stands)
end_held p end phase (lock ∷ []) (request ∷ pending) moves stands = absurd (cc (stands))
end_held p end phase (lock ∷ other ∷ held) pending moves stands = absurd (cc (stands))

-- a request may be granted
grant : (granted : Bool) (phase : Phase) (held : List HeldRow) (pending : List PendingRow) → Stands held pending phase
    → Moved phase (map (λ request. Granted) (cond granted pending []))
    (held ++ map granted_lock (cond granted pending [])) (cond granted [] pending)
grant false phase held pending stands = rw (append-nil held) (stay phase held pending stands)
grant true phase [] [] stands = stay phase [] [] stands
grant true phase [] (request ∷ []) stands = record { moves = rw stands refl; stands = refl }
grant true phase [] (request ∷ other ∷ pending) stands = absurd (cc (stands))
grant true phase (lock ∷ []) [] stands = stay phase (lock ∷ []) [] stands
grant true phase (lock ∷ []) (request ∷ pending) stands = absurd (cc (stands))
grant true phase (lock ∷ other ∷ held) pending stands = absurd (cc (stands))

is_short : (phase : Phase) (held : List HeldRow) (pending : List PendingRow) → Stands held pending phase
    → length pending ≤ 1
is_short phase [] [] stands = omega arith
is_short phase [] (request ∷ []) stands = omega arith
is_short phase [] (request ∷ other ∷ pending) stands = absurd (cc (stands))
is_short phase (lock ∷ []) [] stands = omega arith
is_short phase (lock ∷ []) (request ∷ pending) stands = absurd (cc (stands))
is_short phase (lock ∷ other ∷ held) pending stands = absurd (cc (stands))

-- the request of a number is among the first ones or among the others
record Parted (first others whole : List PendingRow) : Type 0 where
  granted : Bool
  first_are : first ≡ cond granted whole []
  others_are : others ≡ cond granted [] whole

none_parted : (first others whole : List PendingRow) → whole ≡ [] → Parted first others whole
    → (first ≡ []) × (others ≡ [])
none_parted first others whole none parted = at_granted parted.granted parted.first_are parted.others_are
  where
    at_granted : (b : Bool) → first ≡ cond b whole [] → others ≡ cond b [] whole → (first ≡ []) × (others ≡ [])
    at_granted true one two = (one ∙ none, two)
    at_granted false one two = (one, two ∙ none)

parted_more : (name : List ℕ) (count id : ℕ) (x : PendingRow) (xs : List PendingRow) (same number : Bool)
    → bytes_eq x.name name ≡ same → (x.number == id) ≡ number
    → length (waiting_of id (x ∷ xs)) ≤ 1
    → (length (waiting_of id xs) ≤ 1 → Parted (waiting_of id (first_requests name count xs))
    (waiting_of id (without_first name count xs)) (waiting_of id xs))
    → (length (waiting_of id xs) ≤ 1 → Parted (waiting_of id (first_requests name (suc count) xs))
    (waiting_of id (without_first name (suc count) xs)) (waiting_of id xs))
    → Parted (waiting_of id (first_requests name (suc count) (x ∷ xs)))
    (waiting_of id (without_first name (suc count) (x ∷ xs))) (waiting_of id (x ∷ xs))
parted_more name count id x xs true true is at short less more =
    let few : suc (length (waiting_of id xs)) ≤ 1 = rw at at short in
    let none : waiting_of id xs ≡ [] = length_none (waiting_of id xs) (omega arith) in
    let both = none_parted _ _ (waiting_of id xs) none (less (omega arith)) in
    rw is (rw at (record { granted = true; first_are = rw (both.0, none) refl; others_are = both.1 }))
  where
    length_none : (ys : List PendingRow) → length ys ≤ 0 → ys ≡ []
    length_none [] few = refl
    length_none (y ∷ ys) few = absurd (omega arith)
parted_more name count id x xs true false is at short less more = let few : length (waiting_of id xs)
    ≤ 1 = rw at at short in rw is (rw at (less few))
parted_more name count id x xs false true is at short less more =
    let few : suc (length (waiting_of id xs)) ≤ 1 = rw at at short in
    let none : waiting_of id xs ≡ [] = length_none (waiting_of id xs) (omega arith) in
    let both = none_parted _ _ (waiting_of id xs) none (more (omega arith)) in
    rw is (rw at (record { granted = false; first_are = both.0; others_are = rw (both.1, none) refl }))
  where
    length_none : (ys : List PendingRow) → length ys ≤ 0 → ys ≡ []
    length_none [] few = refl
    length_none (y ∷ ys) few = absurd (omega arith)
parted_more name count id x xs false false is at short less more = let few : length (waiting_of id xs)
    ≤ 1 = rw at at short in rw is (rw at (more few))

part : (name : List ℕ) (count id : ℕ) (xs : List PendingRow) → length (waiting_of id xs) ≤ 1
    → Parted (waiting_of id (first_requests name count xs)) (waiting_of id (without_first name count xs))
    (waiting_of id xs)
part name zero id xs short = record { granted = false; first_are = refl; others_are = refl }
part name (suc count) id [] short = record { granted = false; first_are = refl; others_are = refl }
part name (suc count) id (x ∷ xs) short = parted_more name count id x xs (bytes_eq x.name name) (x.number == id) refl
    refl short (part name count id xs) (part name (suc count) id xs)

-- the lists and changes so far bring the request from a phase to where it stands
abbrev pub Told : ℕ → Phase → Lists → Type 0
Told id phase lists = Moved phase (phases_of id lists.changes) (held_of id lists.held) (waiting_of id lists.pending)

pub phases_append : (id : ℕ) (one two : List Change) → phases_of id (one ++ two) ≡ phases_of id one ++ phases_of id two
phases_append id one two =
    ap (map (λ (c : Change). c.phase)) (filter-append (λ (c : Change). c.id == id) one two)
    ∙ map-append (λ (c : Change). c.phase) (filter (λ c. c.id == id) one) (filter (λ c. c.id == id) two)

pub phases_map : {X : Type 0} (id : ℕ) (f : X → Change) (xs : List X)
    → phases_of id (map f xs) ≡ map (λ x. (f x).phase) (filter (λ x. (f x).id == id) xs)
phases_map id f xs = ap (map (λ (c : Change). c.phase)) (filter_map (λ (c : Change). c.id == id) f xs)
    ∙ map_twice (λ (c : Change). c.phase) f (filter (λ x. (f x).id == id) xs)

pub moved_as : (phase : Phase) (one two : List Phase) (held held' : List HeldRow) (pending pending' : List PendingRow)
    → one ≡ two → held ≡ held' → pending ≡ pending' → Moved phase two held' pending' → Moved phase one held pending
moved_as phase one two held held' pending pending' events locks requests moved = rw (events, locks, requests) moved

process_told : (id : ℕ) (phase : Phase) (lists : Lists) (name : List ℕ) → Told id phase lists
    → Told id phase (process_queue lists name)
process_told id phase lists name told =
    let granted = grants (locks name lists.held) (queue name lists.pending) in
    let count = length granted in
    let first : first_requests name count lists.pending ≡ granted =
    first_granted name (locks name lists.held) lists.pending in
    let now = last_phase phase (phases_of id lists.changes) in
    let parted = part name count id lists.pending (is_short now (held_of id lists.held) (waiting_of id lists.pending)
    told.stands) in
    let own : waiting_of id granted ≡ cond parted.granted (waiting_of id lists.pending) [] =
    ap (waiting_of id) (sym first) ∙ parted.first_are in
    moved_as phase (phases_of id (lists.changes ++ map grant_change granted))
    (phases_of id lists.changes ++ map (λ request. Granted) (cond parted.granted (waiting_of id lists.pending) []))
    (held_of id (lists.held ++ map granted_lock granted)) (held_of id lists.held
    ++ map granted_lock (cond parted.granted (waiting_of id lists.pending) []))
    (waiting_of id (without_first name count lists.pending)) (cond parted.granted [] (waiting_of id lists.pending))
    (phases_append id lists.changes (map grant_change granted)
    ∙ ap (λ (e : List Phase). phases_of id lists.changes ++ e)
    (phases_map id grant_change granted ∙ ap (map (λ (r : PendingRow). Granted)) own))
    (filter-append (λ (l : HeldRow). l.number == id) lists.held (map granted_lock granted)
    ∙ ap (λ (h : List HeldRow). held_of id lists.held ++ h)
    (filter_map (λ (l : HeldRow). l.number == id) granted_lock granted ∙ ap (map granted_lock) own))
    parted.others_are
    (join phase (phases_of id lists.changes) (map (λ request. Granted)
    (cond parted.granted (waiting_of id lists.pending) [])) (held_of id lists.held) _ (waiting_of id lists.pending) _
    told
    (grant parted.granted now (held_of id lists.held) (waiting_of id lists.pending) told.stands))

pub processes_told : (names : List (List ℕ)) (id : ℕ) (phase : Phase) (lists : Lists) → Told id phase lists
    → Told id phase (process_queues lists names)
processes_told [] id phase lists told = told
processes_told (name ∷ names) id phase lists told = processes_told names id phase (process_queue lists name)
    (process_told id phase lists name told)

pub lock_phases : (id : ℕ) (p : HeldRow → Bool) (end : Phase) (held : List HeldRow)
    → phases_of id (lock_ends end (filter p held)) ≡ map (λ lock. end) (filter p (held_of id held))
lock_phases id p end held =
    phases_map id (λ (lock : HeldRow). record { id = lock.number; phase = end }) (filter p held)
    ∙ ap (map (λ (l : HeldRow). end)) (filters_commute (λ (l : HeldRow). l.number == id) p held)

-- requests of the whole list end
pub ended_requests : (id : ℕ) (p : PendingRow → Bool) (end phase : Phase) (held : List HeldRow)
    (pending : List PendingRow) → is_move Pending end ≡ true → Stands (held_of id held) (waiting_of id pending) phase
    → Told id phase (lists_of held (filter (λ request. not (p request)) pending) (request_ends end (filter p pending)))
ended_requests id p end phase held pending move stands =
    moved_as phase (phases_of id (request_ends end (filter p pending)))
    (map (λ request. end) (filter p (waiting_of id pending)))
    (held_of id held) (held_of id held)
    (waiting_of id (filter (λ request. not (p request)) pending))
    (filter (λ request. not (p request)) (waiting_of id pending))
    (phases_map id (λ (request : PendingRow). record { id = request.number; phase = end }) (filter p pending)
    ∙ ap (map (λ (r : PendingRow). end)) (filters_commute (λ (r : PendingRow). r.number == id) p pending))
    refl (filters_commute (λ (r : PendingRow). r.number == id) (λ request. not (p request)) pending)
    (end_waiting p end phase (held_of id held) (waiting_of id pending) move stands)

-- after some changes, locks of the whole list end
pub ended_locks : (id : ℕ) (p : HeldRow → Bool) (end phase : Phase) (lists : Lists)
    → ((lock : HeldRow) → p lock ≡ true → is_move (phase_of_lock lock) end ≡ true) → Told id phase lists
    → Told id phase (lists_of (filter (λ lock. not (p lock)) lists.held) lists.pending
    (lists.changes ++ lock_ends end (filter p lists.held)))
ended_locks id p end phase lists moves told =
    moved_as phase (phases_of id (lists.changes ++ lock_ends end (filter p lists.held)))
    (phases_of id lists.changes ++ map (λ lock. end) (filter p (held_of id lists.held)))
    (held_of id (filter (λ lock. not (p lock)) lists.held)) (filter (λ lock. not (p lock)) (held_of id lists.held))
    (waiting_of id lists.pending) (waiting_of id lists.pending)
    (phases_append id lists.changes (lock_ends end (filter p lists.held))
    ∙ ap (λ (e : List Phase). phases_of id lists.changes ++ e) (lock_phases id p end lists.held))
    (filters_commute (λ (l : HeldRow). l.number == id) (λ lock. not (p lock)) lists.held) refl
    (join phase (phases_of id lists.changes) (map (λ lock. end) (filter p (held_of id lists.held)))
    (held_of id lists.held) _ (waiting_of id lists.pending) _ told
    (end_held p end (last_phase phase (phases_of id lists.changes)) (held_of id lists.held)
    (waiting_of id lists.pending) moves told.stands))
