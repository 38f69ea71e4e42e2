-- Settling names of which only some have anything to grant.
use Rattle.std.proofs.Common.{◌≡◌, ℕ, Bool, true, false, List, [], ◌∷◌, refl, ap, sym, ◌∙◌, append-nil}
use Rattle.std.specs.Prelude.{◌||◌}
use Rattle.std.specs.Str.{bytes_eq}
use Rattle.std.specs.List.{list_any}
use Rattle.std.specs.Cmp.Lexicographic.{same_text}
use Rattle.wl_machine.specs.Grants.{Lists, process_queue, process_queues}
use Rattle.wl_machine.proofs.Quiet.{quiet, processed_quiet, processes_keep}

-- processing a name with nothing to grant changes nothing
pub process_quiet : (lists : Lists) (name : List ℕ) → quiet lists name ≡ [] → process_queue lists name ≡ lists
process_quiet lists name none = rw (none, append-nil lists.held, append-nil lists.changes) refl

-- processing names with nothing to grant
pub process_all_quiet : (names : List (List ℕ)) (lists : Lists) → ((m : List ℕ) → quiet lists m ≡ [])
    → process_queues lists names ≡ lists
process_all_quiet [] lists still = refl
process_all_quiet (n ∷ names) lists still = ap (λ l. process_queues l names) (process_quiet lists n (still n))
    ∙ process_all_quiet names lists still

-- where just one name of them may have something to grant, it is processed alone
pub process_one_name : (name : List ℕ) (names : List (List ℕ)) (lists : Lists)
    → list_any (λ n. bytes_eq n name) names ≡ true
    → ((m : List ℕ) → bytes_eq m name ≡ false → quiet lists m ≡ [])
    → process_queues lists names ≡ process_queue lists name
process_one_name name [] lists there still = absurd (cc)
process_one_name name (n ∷ names) lists there still = by (bytes_eq n name) refl
    (λ later. process_one_name name names lists later still)
  where
    all_still : (m : List ℕ) (b : Bool) → bytes_eq m name ≡ b → quiet (process_queue lists name) m ≡ []
    all_still m true eq = let same : m ≡ name = same_text m name (sym eq) in rw same (processed_quiet lists name)
    all_still m false ne = processes_keep (name ∷ []) lists m (still m ne)

    by : (b : Bool) → bytes_eq n name ≡ b → (list_any (λ n. bytes_eq n name) names ≡ true
        → process_queues lists names ≡ process_queue lists name)
        → process_queues (process_queue lists n) names ≡ process_queue lists name
    by true h rest =
        let same : n ≡ name = same_text n name (sym h) in
        ap (λ m. process_queues (process_queue lists m) names) same
        ∙ process_all_quiet names (process_queue lists name) (λ m. all_still m (bytes_eq m name) refl)
    by false h rest =
        let later : list_any (λ n. bytes_eq n name) names ≡ true =
        sym (ap (λ b. b || list_any (λ n. bytes_eq n name) names) h) ∙ there in
        ap (λ l. process_queues l names) (process_quiet lists n (still n h)) ∙ rest later

-- in front of a name, nothing is left to grant
abbrev pub FrontQuiet : Lists → List ℕ → List (List ℕ) → Type 0
FrontQuiet lists name [] = Unit {0}
FrontQuiet lists name (n ∷ names) = bytes_eq n name ≡ false → (quiet lists n ≡ []) × FrontQuiet lists name names

-- such a name may be processed before all others
pub process_first : (name : List ℕ) (names : List (List ℕ)) (lists : Lists)
    → list_any (λ n. bytes_eq n name) names ≡ true → FrontQuiet lists name names
    → process_queues lists names ≡ process_queues (process_queue lists name) names
process_first name [] lists there front = absurd (cc)
process_first name (n ∷ names) lists there front = by (bytes_eq n name) refl
    (λ later rest. process_first name names lists later rest)
  where
    by : (b : Bool) → bytes_eq n name ≡ b → (list_any (λ n. bytes_eq n name) names ≡ true → FrontQuiet lists name names
        → process_queues lists names ≡ process_queues (process_queue lists name) names)
        → process_queues (process_queue lists n) names ≡ process_queues (process_queue (process_queue lists name) n)
        names
    by true h rest =
        let same : n ≡ name = same_text n name (sym h) in
        ap (λ m. process_queues (process_queue lists m) names) same
        ∙ sym (ap (λ m. process_queues (process_queue (process_queue lists name) m) names) same
        ∙ ap (λ l. process_queues l names) (process_quiet (process_queue lists name) name
        (processed_quiet lists name)))
    by false h rest =
        let f = front h in
        let later : list_any (λ n. bytes_eq n name) names ≡ true =
        sym (ap (λ b. b || list_any (λ n. bytes_eq n name) names) h) ∙ there in
        ap (λ l. process_queues l names) (process_quiet lists n f.0) ∙ rest later f.1
        ∙ sym (ap (λ l. process_queues l names) (process_quiet (process_queue lists name) n
        (processes_keep (name ∷ []) lists n f.0)))
