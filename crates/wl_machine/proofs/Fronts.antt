-- What a queue grants stands at its front.
use Rattle.std.proofs.Common.{◌≡◌, ℕ, suc, zero, true, false, cond, List, [], ◌∷◌, ◌++◌, length, take, refl, ◌∙◌, ap}
use Rattle.std.proofs.Common.{map, ◌&&◌}
use Rattle.std.specs.Prelude.{if◌then◌else◌}
use Rattle.std.specs.Str.{bytes_eq}
use Rattle.wl_machine.specs.declared.rows.PendingRow.{PendingRow}
use Rattle.wl_machine.specs.declared.rows.HeldRow.{HeldRow}
use Rattle.wl_machine.specs.Grants.{without_first, queue, grants, shared_prefix, any_exclusive, is_empty, is_exclusive}
use Rattle.wl_machine.specs.Grants.{starts_exclusive, locks, lists_of, process_queue, granted_lock, grant_change}
use Rattle.wl_types.specs.declared.phases.Change.{Change}

-- the first requests of a name, as many as count says
abbrev pub first_requests : List ℕ → ℕ → List PendingRow → List PendingRow
first_requests name zero pending = []
first_requests name (suc count) [] = []
first_requests name (suc count) (request ∷ pending) = if bytes_eq request.name name
    then request ∷ first_requests name count pending else first_requests name (suc count) pending

-- they are the first of its queue
pub first_requests_is_take : (name : List ℕ) (count : ℕ) (xs : List PendingRow)
    → first_requests name count xs ≡ take count (queue name xs)
first_requests_is_take name zero xs = refl
first_requests_is_take name (suc count) [] = refl
first_requests_is_take name (suc count) (x ∷ xs) =
    elim (bytes_eq x.name name) as (λ b. cond b (x ∷ first_requests name count xs) (first_requests name (suc count) xs)
    ≡ take (suc count) (cond b (x ∷ queue name xs) (queue name xs))) [
      | true ↦ ap (λ (rest : List PendingRow). x ∷ rest) (first_requests_is_take name count xs)
      | false ↦
          first_requests_is_take name (suc count) xs
    ]

pub take_shared : (q : List PendingRow) → take (length (shared_prefix q)) q ≡ shared_prefix q
take_shared [] = refl
take_shared (x ∷ q) =
    elim (is_exclusive x.mode) as (λ b. take (length (cond b [] (x ∷ shared_prefix q))) (x ∷ q)
    ≡ cond b [] (x ∷ shared_prefix q))
    [ true ↦ refl | false ↦ ap (λ (rest : List PendingRow). x ∷ rest) (take_shared q) ]

pub take_one : (q : List PendingRow) → take (length (take 1 q)) q ≡ take 1 q
take_one [] = refl
take_one (x ∷ q) = refl

-- what is granted is in front
pub take_grants : (h : List HeldRow) (q : List PendingRow) → take (length (grants h q)) q ≡ grants h q
take_grants h q =
    elim (any_exclusive h) as (λ b. take (length (cond b []
    (cond (is_empty h && starts_exclusive q) (take 1 q) (shared_prefix q)))) q
    ≡ cond b [] (cond (is_empty h && starts_exclusive q) (take 1 q) (shared_prefix q))) [
      | true ↦ refl
      | false ↦ elim (is_empty h && starts_exclusive q) as (λ b. take (length (cond b (take 1 q) (shared_prefix q))) q
          ≡ cond b (take 1 q) (shared_prefix q))
          [ true ↦ take_one q | false ↦ take_shared q ]
    ]

-- as many as are granted are those that are granted
pub first_granted : (name : List ℕ) (h : List HeldRow) (xs : List PendingRow)
    → first_requests name (length (grants h (queue name xs))) xs ≡ grants h (queue name xs)
first_granted name h xs = first_requests_is_take name _ xs ∙ take_grants h (queue name xs)

-- granting as many as are granted is processing the name
pub processed_by : (name : List ℕ) (h : List HeldRow) (p : List PendingRow) (c : List Change) (h' : List HeldRow)
    (p' : List PendingRow) (c' : List Change) (count : ℕ)
    → count ≡ length (grants (locks name h) (queue name p)) → h' ≡ h ++ map granted_lock (take count (queue name p))
    → p' ≡ without_first name count p → c' ≡ c ++ map grant_change (take count (queue name p))
    → lists_of h' p' c' ≡ process_queue (lists_of h p c) name
processed_by name h p c h' p' c' count counted held pending changes =
    rw (held, pending, changes, counted, take_grants (locks name h) (queue name p)) refl
