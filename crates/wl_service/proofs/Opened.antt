-- Which client is opened, from what was found of its URL and its bucket.
use Rattle.std.proofs.Common.{◌≡◌, refl, sym, subst}
use Rattle.std.specs.Prelude.{◌≢◌, ℕ, List, Bool, true, false, Option, Some, None, Result, Ok, Err, IfErr}
use Rattle.std.specs.Prelude.{if◌then◌else◌}
use Rattle.wl_types.specs.declared.words.Kind.{Kind}
use Rattle.wl_origin.specs.Bucket.{default_bucket, is_bucket}
use Rattle.wl_origin.specs.Opening.{AnswersManager, in_bucket, manager_of, with_bucket}
use Rattle.wl_origin.specs.Origin.{Tuple}
use Rattle.wl_origin.specs.Standing.{standing_of}
use Rattle.wl_origin.specs.declared.manager_key.ManagerKey.{ManagerKey}
use Rattle.wl_origin.specs.declared.opening.ManagerFault.{ManagerFault}
use Rattle.wl_origin.specs.declared.opening.ManagerFault.TheVariants as key
use Rattle.wl_origin.specs.declared.standing.KeyFault.{KeyFault}
use Rattle.wl_service.specs.Clients.{Who, Managed, Opaque}
use Rattle.wl_service.specs.Opening.{Opens}
use Rattle.wl_service.specs.declared.fault.OpenFault.{OpenFault}
use Rattle.wl_service.specs.declared.fault.OpenFault.TheVariants.{BadUrl, BadBucket, TooManyAgents, NumbersSpent}
use Rattle.wl_service.specs.declared.fault.OpenFault.TheVariants.{TooManyManagers, Memory}

-- what was found is what there was to find, or memory was wanting
pub opens_found : (expected found : Result (Option ManagerKey) ManagerFault) (kind : Kind)
    (result : Result Who OpenFault)
    → AnswersManager expected found → Opens found kind result → Opens expected kind result
opens_found expected (Ok manager) kind result is opens = subst (λ r. Opens r kind result) (sym is) opens
opens_found expected (Err key.BadUrl) kind result is opens = subst (λ r. Opens r kind result) (sym is) opens
opens_found expected (Err key.BadBucket) kind result is opens = subst (λ r. Opens r kind result) (sym is) opens
opens_found expected (Err key.Memory) kind (Ok (Managed n)) is opens = absurd opens
opens_found expected (Err key.Memory) kind (Ok (Opaque k active)) is opens = absurd (let e = opens.0 in cc)
opens_found expected (Err key.Memory) kind (Err BadUrl) is opens = absurd cc
opens_found expected (Err key.Memory) kind (Err BadBucket) is opens = absurd cc
opens_found expected (Err key.Memory) kind (Err TooManyAgents) is opens = absurd opens
opens_found expected (Err key.Memory) kind (Err NumbersSpent) is opens = absurd opens
opens_found expected (Err key.Memory) kind (Err TooManyManagers) is opens = absurd opens
opens_found expected (Err key.Memory) kind (Err Memory) is opens = tt

-- the default bucket is a bucket
default_is_one : (standing : Result (Option Tuple) KeyFault) → in_bucket standing default_bucket ≡ Err key.BadBucket → ⊥
default_is_one (Err fault) e = absurd cc
default_is_one (Ok origin) e = go (is_bucket default_bucket) refl e
  where
    go : (c : Bool) → c ≡ true
        → (let found : Result (Option ManagerKey) ManagerFault = if c then Ok (with_bucket origin default_bucket)
        else Err key.BadBucket in found) ≡ Err key.BadBucket → ⊥
    go true is e = absurd cc
    go false is e = absurd cc

pub never_bad : (url : List ℕ) (kind : Kind) (result : Result Who OpenFault)
    → Opens (manager_of url default_bucket) kind result
    → IfErr result (λ fault. fault ≢ BadBucket)
never_bad url kind (Ok who) opens = tt
never_bad url kind (Err BadUrl) opens = λ e. absurd cc
never_bad url kind (Err BadBucket) opens = λ e. default_is_one (standing_of url) opens
never_bad url kind (Err TooManyAgents) opens = λ e. absurd cc
never_bad url kind (Err NumbersSpent) opens = λ e. absurd cc
never_bad url kind (Err TooManyManagers) opens = λ e. absurd cc
never_bad url kind (Err Memory) opens = λ e. absurd cc
