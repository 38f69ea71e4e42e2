-- What ends with an owner, and the machine's lists without it.
use Rattle.std.proofs.Common.{◌≡◌, ◌==◌, Bool, true, false, cond, List, [], ◌∷◌, map, refl, ap, subst, sym, ◌∙◌}
use Rattle.std.specs.Prelude.{not, ◌&&◌, filter}
use Rattle.std.specs.List.Sorted.{IsStrictlySortedBy}
use Rattle.std.specs.Map.{keys_of}
use Rattle.std.specs.Ordering.{nat_cmp}
use Rattle.wl_types.specs.declared.phases.Phase.{Phase}
use Rattle.wl_machine.specs.declared.rows.HeldRow.{HeldRow}
use Rattle.wl_machine.specs.declared.rows.PendingRow.{PendingRow}
use Rattle.wl_machine.specs.Step.{request_ends, lock_ends}
use Rattle.wl_machine.proofs.Lists.{filter_map, map_twice, any_map}
use Rattle.wl_index.specs.declared.request.Owner.{Owner}
use Rattle.wl_index.specs.declared.request.Standing.TheVariants.{Waits, Holds}
use Rattle.wl_index.specs.declared.request.Place.{Place}
use Rattle.wl_index.specs.declared.request.Stage.{Stage}
use Rattle.wl_index.specs.declared.request.Stage.TheVariants.{Pending, Held}
use Rattle.wl_index.specs.inner.GrantOrder.{Distinct, by_grant_seq}
use Rattle.wl_index.proofs.GrantOrder.{filter_by_grant_seq}
use Rattle.wl_index.specs.inner.Rows.{Entry, waits, holds, waiting, holding, grant_seq_of, request_row, lock_row}
use Rattle.wl_index.specs.inner.Rows.{pending_of, held_of}
use Rattle.wl_index.specs.inner.Lists.{is_spared}
use Rattle.wl_index.specs.inner.Order.{place_of}
use Rattle.wl_index.specs.inner.Ends.{ends_request, ends_lock, ends_entry, numbers_of, place_ends, without_ends}
use Rattle.wl_index.specs.inner.Ends.{AreLive}
use Rattle.wl_index.proofs.Lists.{filter_like, map_by_grant_seq, any_by_grant_seq}
use Rattle.wl_index.proofs.Rows.{holds_or_waits}
use Rattle.wl_index.proofs.Distinct.{distinct_filter, distinct_map}
use Rattle.wl_index.proofs.Spared.{spared_fail}
use Rattle.wl_index.proofs.Turns.{passed_in_turn, ordered_in_turn}

-- ---- filters

pub both_filters : {X : Type 0} (p q : X → Bool) (l : List X) → filter (λ x. p x && q x) l ≡ filter q (filter p l)
both_filters p q [] = refl
both_filters p q (x ∷ l) = by (p x) (both_filters p q l)
  where
    by : (b : Bool) → filter (λ x. p x && q x) l ≡ filter q (filter p l)
        → cond (b && q x) (x ∷ filter (λ x. p x && q x) l) (filter (λ x. p x && q x) l)
        ≡ filter q (cond b (x ∷ filter p l) (filter p l))
    by true rest = ap (λ t. cond (q x) (x ∷ t) t) rest
    by false rest = rest

-- of those that pass one test, without those that pass both, those are left that fail the other
left_within : {X : Type 0} (p q : X → Bool) (l : List X) → filter p (filter (λ x. not (p x && q x)) l)
    ≡ filter (λ x. not (q x)) (filter p l)
left_within p q [] = refl
left_within {X} p q (x ∷ l) = by (p x) refl (q x) refl (left_within p q l)
  where
    rest_of : List X
    rest_of = filter (λ x. not (p x && q x)) l

    by : (b : Bool) → p x ≡ b → (c : Bool) → q x ≡ c → filter p (filter (λ x. not (p x && q x)) l)
        ≡ filter (λ x. not (q x)) (filter p l)
        → filter p (cond (not (p x && q x)) (x ∷ filter (λ x. not (p x && q x)) l) (filter (λ x. not (p x && q x)) l))
        ≡ filter (λ x. not (q x)) (cond (p x) (x ∷ filter p l) (filter p l))
    by true h true k rest = rw (h, k) rest
    by true h false k rest = rw (h, k, h) (ap (λ t. x ∷ t) rest)
    by false h c k rest = rw (h, h) rest

-- and those that fail the one stay
left_beside : {X : Type 0} (p r q : X → Bool) (l : List X) → ((x : X) → r x ≡ not (p x))
    → filter r (filter (λ x. not (p x && q x)) l) ≡ filter r l
left_beside p r q [] apart = refl
left_beside {X} p r q (x ∷ l) apart = by (p x) refl (q x) refl (left_beside p r q l apart)
  where
    by : (b : Bool) → p x ≡ b → (c : Bool) → q x ≡ c → filter r (filter (λ x. not (p x && q x)) l) ≡ filter r l
        → filter r (cond (not (p x && q x)) (x ∷ filter (λ x. not (p x && q x)) l) (filter (λ x. not (p x && q x)) l))
        ≡ cond (r x) (x ∷ filter r l) (filter r l)
    by true h true k rest = rw (h, k, apart x, h) rest
    by true h false k rest = rw (h, k) (ap (λ t. cond (r x) (x ∷ t) t) rest)
    by false h c k rest = rw h (ap (λ t. cond (r x) (x ∷ t) t) rest)

waits_or_holds : (s : Stage) → waits s ≡ not (holds s)
waits_or_holds Pending = refl
waits_or_holds (Held at taken) = refl

-- the lists without the locks that pass a test
pub held_within : (q : HeldRow → Bool) (es : List Entry) → held_of (filter (λ e. not (holding e && q (lock_row e))) es)
    ≡ filter (λ lock. not (q lock)) (held_of es)
held_within q es =
    ap (λ l. map lock_row (by_grant_seq grant_seq_of l)) (left_within holding (λ e. q (lock_row e)) es)
    ∙ ap (map lock_row) (filter_by_grant_seq grant_seq_of (λ e. not (q (lock_row e))) (filter holding es))
    ∙ sym (filter_map (λ (lock : HeldRow). not (q lock)) lock_row (by_grant_seq grant_seq_of (filter holding es)))

pub pending_beside : (q : HeldRow → Bool) (es : List Entry)
    → pending_of (filter (λ e. not (holding e && q (lock_row e))) es) ≡ pending_of es
pending_beside q es = ap (map request_row) (left_beside holding waiting (λ e. q (lock_row e)) es
    (λ e. waits_or_holds e.1.stage))

-- ---- requests that wait

module _ (owner : Owner) (es : List Entry) where
  abbrev among_requests : Entry → Bool
  among_requests = ends_entry owner Waits

  requests_numbers : numbers_of (map place_of (filter among_requests es)) ≡ keys_of (filter among_requests es)
  requests_numbers = map_twice (λ (p : Place). p.number) place_of (filter among_requests es)

  pub requests_live : IsStrictlySortedBy nat_cmp (keys_of es)
      → AreLive (numbers_of (map place_of (filter among_requests es))) es
  requests_live sorted = subst (λ ns. AreLive ns es) (sym requests_numbers) (passed_in_turn among_requests es sorted)

  pub requests_gone : IsStrictlySortedBy nat_cmp (keys_of es)
      → filter (is_spared (numbers_of (map place_of (filter among_requests es)))) es ≡ without_ends owner Waits es
  requests_gone sorted = ap (λ ns. filter (is_spared ns) es) requests_numbers ∙ spared_fail among_requests es sorted

  pub requests_pending : pending_of (without_ends owner Waits es)
      ≡ filter (λ request. not (ends_request owner request)) (pending_of es)
  requests_pending =
      ap (map request_row) (left_within waiting (λ e. ends_request owner (request_row e)) es)
      ∙ sym (filter_map (λ (request : PendingRow). not (ends_request owner request)) request_row (filter waiting es))

  pub requests_held : held_of (without_ends owner Waits es) ≡ held_of es
  requests_held = ap (λ l. map lock_row (by_grant_seq grant_seq_of l))
      (left_beside waiting holding (λ e. ends_request owner (request_row e)) es (λ e. holds_or_waits e.1.stage))

  pub requests_told : (phase : Phase) → place_ends phase (map place_of (filter among_requests es))
      ≡ request_ends phase (filter (ends_request owner) (pending_of es))
  requests_told phase =
      let q : Entry → Bool = λ e. ends_request owner (request_row e) in
      map_twice (λ (p : Place). record { id = p.number; phase = phase }) place_of (filter among_requests es)
      ∙ ap (map (λ (e : Entry). record { id = e.0; phase = phase })) (both_filters waiting q es)
      ∙ sym (ap (request_ends phase) (filter_map (ends_request owner) request_row (filter waiting es))
      ∙ map_twice (λ (request : PendingRow). record { id = request.number; phase = phase }) request_row
      (filter q (filter waiting es)))

-- ---- locks, in the order of their grants

module _ (owner : Owner) (es : List Entry) where
  abbrev among_locks : Entry → Bool
  among_locks = ends_entry owner Holds

  abbrev lock_places : List Place
  lock_places = by_grant_seq (λ (p : Place). p.grant_seq) (map place_of (filter among_locks es))

  pub locks_distinct : Distinct grant_seq_of (filter holding es)
      → Distinct (λ (p : Place). p.grant_seq) (map place_of (filter among_locks es))
  locks_distinct distinct =
      let q : Entry → Bool = λ e. ends_lock owner (lock_row e) in
      distinct_map grant_seq_of (λ (p : Place). p.grant_seq) place_of (λ e. refl) (filter among_locks es)
      (subst (Distinct grant_seq_of) (sym (both_filters holding q es))
      (distinct_filter grant_seq_of q (filter holding es) distinct))

  places_sorted : lock_places ≡ map place_of (by_grant_seq grant_seq_of (filter among_locks es))
  places_sorted = sym (map_by_grant_seq grant_seq_of (λ (p : Place). p.grant_seq) place_of (λ e. refl)
      (filter among_locks es))

  locks_numbers : numbers_of lock_places ≡ keys_of (by_grant_seq grant_seq_of (filter among_locks es))
  locks_numbers = ap numbers_of places_sorted ∙ map_twice (λ (p : Place). p.number) place_of
      (by_grant_seq grant_seq_of (filter among_locks es))

  pub locks_live : IsStrictlySortedBy nat_cmp (keys_of es) → AreLive (numbers_of lock_places) es
  locks_live sorted = subst (λ ns. AreLive ns es) (sym locks_numbers)
      (ordered_in_turn grant_seq_of among_locks es sorted)

  same_spared : (e : Entry) → is_spared (keys_of (by_grant_seq grant_seq_of (filter among_locks es))) e
      ≡ is_spared (keys_of (filter among_locks es)) e
  same_spared e =
      ap not (any_map (λ n. n == e.0) (λ (x : Entry). x.0) (by_grant_seq grant_seq_of (filter among_locks es))
      ∙ any_by_grant_seq grant_seq_of (λ (x : Entry). x.0 == e.0) (filter among_locks es)
      ∙ sym (any_map (λ n. n == e.0) (λ (x : Entry). x.0) (filter among_locks es)))

  pub locks_gone : IsStrictlySortedBy nat_cmp (keys_of es) → filter (is_spared (numbers_of lock_places)) es
      ≡ without_ends owner Holds es
  locks_gone sorted =
      ap (λ ns. filter (is_spared ns) es) locks_numbers
      ∙ filter_like (is_spared (keys_of (by_grant_seq grant_seq_of (filter among_locks es))))
      (is_spared (keys_of (filter among_locks es))) same_spared es
      ∙ spared_fail among_locks es sorted

  pub locks_held : held_of (without_ends owner Holds es) ≡ filter (λ lock. not (ends_lock owner lock)) (held_of es)
  locks_held = held_within (λ lock. ends_lock owner lock) es

  pub locks_pending : pending_of (without_ends owner Holds es) ≡ pending_of es
  locks_pending = pending_beside (λ lock. ends_lock owner lock) es

  pub locks_told : (phase : Phase) → place_ends phase lock_places
      ≡ lock_ends phase (filter (ends_lock owner) (held_of es))
  locks_told phase =
      let q : Entry → Bool = λ e. ends_lock owner (lock_row e) in
      ap (place_ends phase) places_sorted
      ∙ map_twice (λ (p : Place). record { id = p.number; phase = phase }) place_of
      (by_grant_seq grant_seq_of (filter among_locks es))
      ∙ ap (λ l. map (λ (e : Entry). record { id = e.0; phase = phase }) (by_grant_seq grant_seq_of l))
      (both_filters holding q es)
      ∙ ap (map (λ (e : Entry). record { id = e.0; phase = phase }))
      (filter_by_grant_seq grant_seq_of q (filter holding es))
      ∙ sym (ap (lock_ends phase) (filter_map (ends_lock owner) lock_row
      (by_grant_seq grant_seq_of (filter holding es))) ∙ map_twice
      (λ (lock : HeldRow). record { id = lock.number; phase = phase }) lock_row
      (filter q (by_grant_seq grant_seq_of (filter holding es))))
