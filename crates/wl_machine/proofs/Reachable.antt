-- In a reachable state nothing is left to grant.
use Rattle.std.proofs.Common.{◌≡◌, ℕ, Bool, true, false, cond, List, [], ◌∷◌, ◌++◌, length, take, refl, sym, ◌∙◌, ◌==◌}
use Rattle.std.specs.Prelude.{not, ◌&&◌, ◌||◌, filter, is_some}
use Rattle.std.specs.Str.{bytes_eq}
use Rattle.std.specs.List.{list_any}
use Rattle.std.specs.Cmp.Lexicographic.{same_text}
use Rattle.std.proofs.Math.Seq.{drop-nil}
use Rattle.std.proofs.lemmas.List.Elements.{filter-append}
use Rattle.std.proofs.lemmas.List.Folds.{list_any-append}
use Rattle.wl_types.specs.declared.phases.Change.{Change}
use Rattle.wl_types.specs.declared.ask.Ask.{Ask}
use Rattle.wl_machine.specs.declared.rows.HeldRow.{HeldRow}
use Rattle.wl_machine.specs.declared.rows.PendingRow.{PendingRow}
use Rattle.wl_machine.specs.declared.command.Command.{Command}
use Rattle.wl_machine.specs.declared.command.Command.TheVariants.{Enter, SetActive, NewSignal, Request, Take, Release}
use Rattle.wl_machine.specs.declared.command.Command.TheVariants.{Abort, Terminate, Query}
use Rattle.wl_machine.specs.declared.command.Reply.{Reply}
use Rattle.wl_machine.specs.declared.command.Reply.TheVariants as reply
use Rattle.wl_machine.specs.State.{State, opening}
use Rattle.wl_machine.specs.Grants.{any_exclusive, grants, shared_prefix, locks, queue, without_first, Lists, lists_of}
use Rattle.wl_machine.specs.Grants.{process_queue, process_queues, in_use}
use Rattle.wl_machine.specs.Refusals.{reason_in}
use Rattle.wl_machine.specs.Step.{after_processing, accepted, with_name, new_request, available, is_untaken, is_lock_of}
use Rattle.wl_machine.specs.Step.{request_step, stealing_request, plain_request, unavailable, is_waiting_on}
use Rattle.wl_machine.specs.Laws.{NothingLeftToGrant}
use Rattle.wl_machine.proofs.Flagged.{grants_flagged}
use Rattle.wl_machine.proofs.Lists.{or_false, same_bytes}
use Rattle.wl_machine.proofs.Runs.{after_run, either}
use Rattle.wl_machine.proofs.Quiet.{quiet, processes_make, queue_without, queue_other}

-- whether a name is among these
abbrev pub among : List ℕ → List (List ℕ) → Bool
among m names = list_any (λ n. bytes_eq n m) names

pub record Good (s : State) : Type 0 where
  pub quiet : (m : List ℕ) → grants (locks m s.held) (queue m s.pending) ≡ []
  pub listed : (m : List ℕ) → among m s.names ≡ false → queue m s.pending ≡ []

grants_none : (h : List HeldRow) → grants h [] ≡ []
grants_none [] = refl
grants_none (l ∷ h) = elim (any_exclusive (l ∷ h)) as (λ b. cond b []
    (cond (false && false) (take 1 []) (shared_prefix [])) ≡ []) [ true ↦ refl | false ↦ refl ]

empty_at : (n m : List ℕ) (count : ℕ) (xs : List PendingRow) (b : Bool) → bytes_eq n m ≡ b → queue m xs ≡ []
    → queue m (without_first n count xs) ≡ []
empty_at n m count xs true is none = let same : n ≡ m = same_text n m (sym is)
    in rw same (queue_without m count xs ∙ rw none (drop-nil count))
empty_at n m count xs false is none = queue_other n m count xs is ∙ none

stays_empty : (names : List (List ℕ)) (lists : Lists) (m : List ℕ) → queue m lists.pending ≡ []
    → queue m (process_queues lists names).pending ≡ []
stays_empty [] lists m none = none
stays_empty (n ∷ names) lists m none = stays_empty names (process_queue lists n) m
    (empty_at n m (length (grants (locks n lists.held) (queue n lists.pending))) lists.pending (bytes_eq n m) refl none)

no_request : (m : List ℕ) (xs : List PendingRow) → list_any (λ r. bytes_eq r.name m) xs ≡ false → queue m xs ≡ []
no_request m [] none = refl
no_request m (x ∷ xs) none = at_name (bytes_eq x.name m) refl (no_request m xs)
  where
    at_name : (b : Bool) → bytes_eq x.name m ≡ b → (list_any (λ r. bytes_eq r.name m) xs ≡ false → queue m xs ≡ [])
        → queue m (x ∷ xs) ≡ []
    at_name true is rest = absurd (let no : true ≡ false = rw is at none in cc)
    at_name false is rest = rw is (rest (rw is at none))

-- a name that leaves is not in use
dropped : (p : List ℕ → Bool) (names : List (List ℕ)) (m : List ℕ) → among m names ≡ true
    → among m (filter p names) ≡ false → p m ≡ false
dropped p [] m there gone = absurd (cc)
dropped p (n ∷ names) m there gone = at_name (bytes_eq n m) refl (p n) refl (dropped p names m)
  where
    at_name : (b : Bool) → bytes_eq n m ≡ b → (k : Bool) → p n ≡ k
        → (among m names ≡ true → among m (filter p names) ≡ false → p m ≡ false) → p m ≡ false
    at_name true is true kept rest = absurd (let no : true ≡ false = rw (kept, is) at gone in cc)
    at_name true is false kept rest = let same : n ≡ m = same_text n m (sym is) in rw (← same) kept
    at_name false is true kept rest = rest (rw is at there) (rw (kept, is) at gone)
    at_name false is false kept rest = rest (rw is at there) (rw kept at gone)

processed_good : (mid : State) (ends : List Change) (reply : Reply)
    → ((m : List ℕ) → among m mid.names ≡ false → queue m mid.pending ≡ [])
    → Good (after_processing mid ends reply).state
processed_good mid ends reply listed =
    let start = lists_of mid.held mid.pending ends in
    record {
      quiet = λ m. quiet_at m (among m mid.names) refl;
      listed = λ m gone. listed_at m (among m mid.names) refl gone;
    }
  where
    quiet_at : (m : List ℕ) (b : Bool) → among m mid.names ≡ b
        → quiet (process_queues (lists_of mid.held mid.pending ends) mid.names) m ≡ []
    quiet_at m true is = processes_make mid.names (lists_of mid.held mid.pending ends) m is
    quiet_at m false is = rw (stays_empty mid.names (lists_of mid.held mid.pending ends) m (listed m is))
        (grants_none (locks m (process_queues (lists_of mid.held mid.pending ends) mid.names).held))

    listed_at : (m : List ℕ) (b : Bool) → among m mid.names ≡ b
        → among m (after_processing mid ends reply).state.names ≡ false
        → queue m (process_queues (lists_of mid.held mid.pending ends) mid.names).pending ≡ []
    listed_at m true is gone = no_request m (process_queues (lists_of mid.held mid.pending ends) mid.names).pending
        (or_false _ _ (dropped (in_use (process_queues (lists_of mid.held mid.pending ends) mid.names).held
        (process_queues (lists_of mid.held mid.pending ends) mid.names).pending) mid.names m is gone)).1
    listed_at m false is gone = stays_empty mid.names (lists_of mid.held mid.pending ends) m (listed m is)

-- a name that is not among the names with another is neither
with_name_gone : (name m : List ℕ) (names : List (List ℕ)) (b : Bool) → among name names ≡ b
    → among m (with_name name names) ≡ false → (among m names ≡ false) × (bytes_eq name m ≡ false)
with_name_gone name m names true is gone =
    let here : among m names ≡ false = rw is at gone in
    (here, at_name (bytes_eq name m) refl here)
  where
    at_name : (b : Bool) → bytes_eq name m ≡ b → among m names ≡ false → bytes_eq name m ≡ false
    at_name true eq here = absurd (let same : name ≡ m = same_text name m (sym eq)
        in let no : among name names ≡ false = rw same here in cc (no, is))
    at_name false eq here = eq
with_name_gone name m names false is gone =
    let both : (among m names || (bytes_eq name m || false))
    ≡ false = sym (list_any-append (λ n. bytes_eq n m) names (name ∷ [])) ∙ (rw is at gone) in
    let parts = or_false _ _ both in
    (parts.0, (or_false _ _ parts.1).0)

-- a name that came into use is there
pub among_added : (name : List ℕ) (names : List (List ℕ)) → among name (with_name name names) ≡ true
among_added name names = at_there (among name names) refl
  where
    at_there : (b : Bool) → among name names ≡ b → among name (with_name name names) ≡ true
    at_there true is = rw is is
    at_there false is = rw is (list_any-append (λ n. bytes_eq n name) names (name ∷ []) ∙ rw (is, same_bytes name) refl)

filter_queue : (m : List ℕ) (f : PendingRow → Bool) (xs : List PendingRow) → queue m xs ≡ []
    → queue m (filter f xs) ≡ []
filter_queue m f [] none = refl
filter_queue m f (x ∷ xs) none = at_name (bytes_eq x.name m) refl (filter_queue m f xs)
  where
    at_name : (b : Bool) → bytes_eq x.name m ≡ b → (queue m xs ≡ [] → queue m (filter f xs) ≡ [])
        → queue m (filter f (x ∷ xs)) ≡ []
    at_name true is rest = absurd (let no : (x ∷ queue m xs) ≡ [] = rw is at none in cc)
    at_name false is rest = elim (f x) as (λ b. queue m (cond b (x ∷ filter f xs) (filter f xs)) ≡ [])
        [ true ↦ rw is (rest (rw is at none)) | false ↦ rest (rw is at none) ]

pushed_listed : (s : State) (r : PendingRow) → Good s → (m : List ℕ) → among m (with_name r.name s.names) ≡ false
    → queue m (s.pending ++ r ∷ []) ≡ []
pushed_listed s r good m gone =
    let parts = with_name_gone r.name m s.names (among r.name s.names) refl gone in
    let one : queue m (r ∷ []) ≡ [] = rw parts.1 refl in
    filter-append (λ (x : PendingRow). bytes_eq x.name m) s.pending (r ∷ []) ∙ rw (good.listed m parts.0, one) refl

front_listed : (s : State) (r : PendingRow) → Good s → (m : List ℕ) → among m (with_name r.name s.names) ≡ false
    → queue m (r ∷ s.pending) ≡ []
front_listed s r good m gone =
    let parts = with_name_gone r.name m s.names (among r.name s.names) refl gone in
    rw parts.1 (good.listed m parts.0)

plain_good : (s : State) (r : PendingRow) → Good s → Good (plain_request s r).state
plain_good s r good = processed_good _ _ reply.Done (pushed_listed s r good)

steal_good : (s : State) (r : PendingRow) → Good s → Good (stealing_request s r).state
steal_good s r good = processed_good _ _ reply.Done (front_listed s r good)

unavailable_good : (s : State) (r : PendingRow) → Good s → Good (unavailable s r).state
unavailable_good s r good = record { quiet = good.quiet; listed = good.listed }

request_good : (s : State) (agent : ℕ) (ask : Ask) → Good s → Good (request_step s agent ask).state
request_good s agent ask good =
    let r = new_request s agent ask in
    elim ask.steal as (λ b. Good (cond b (stealing_request s (new_request s agent ask))
    (cond (ask.if_available && not (available s (new_request s agent ask))) (unavailable s (new_request s agent ask))
    (plain_request s (new_request s agent ask)))).state) [
      | true ↦ steal_good s (new_request s agent ask) good
      | false ↦ elim (ask.if_available && not (available s (new_request s agent ask))) as
          (λ b. Good (cond b (unavailable s (new_request s agent ask))
          (plain_request s (new_request s agent ask))).state) [
            | true ↦ unavailable_good s (new_request s agent ask) good
            | false ↦ plain_good s (new_request s agent ask)
                good
          ]
    ]

accepted_good : (s : State) (command : Command) → Good s → Good (accepted s command).state
accepted_good s (Enter kind) good = record { quiet = good.quiet; listed = good.listed }
accepted_good s (SetActive agent active) good = record { quiet = good.quiet; listed = good.listed }
accepted_good s (NewSignal agent) good = record { quiet = good.quiet; listed = good.listed }
accepted_good s (Request agent ask) good = request_good s agent ask good
accepted_good s (Take id) good = either Good (list_any (is_untaken id) s.held) _ _
    (record {
      quiet = λ m. grants_flagged (λ lock. lock.taken || lock.number == id) m s.held (queue m s.pending)
          ∙ good.quiet m;
      listed = good.listed;
    }) good
accepted_good s (Release agent id) good = either Good (list_any (is_lock_of agent id) s.held) _ _
    (processed_good _ _ reply.Done good.listed) good
accepted_good s (Abort agent signal reason) good = either Good (is_some (reason_in s.signals agent signal)) _ _ good
    (processed_good _ _ reply.Done (λ m gone. filter_queue m (λ request. not (is_waiting_on agent signal request))
    s.pending (good.listed m gone)))
accepted_good s (Terminate agent) good = processed_good _ _ reply.Done
    (λ m gone. filter_queue m _ s.pending (good.listed m gone))
accepted_good s (Query agent) good = good

pub nothing_left : NothingLeftToGrant
nothing_left next commands name = (after_run Good accepted_good commands (opening next)
    (record { quiet = λ m. refl; listed = λ m gone. refl })).quiet name
