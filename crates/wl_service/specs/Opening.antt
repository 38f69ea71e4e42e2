-- Which client a URL and a bucket give that are opened, and why they give none (own).
use Rattle.std.specs.Prelude.{◌≡◌, true, Option, Some, None, Result, Ok, Err}
use Rattle.wl_types.specs.declared.words.Kind.{Kind}
use Rattle.wl_origin.specs.declared.manager_key.ManagerKey.{ManagerKey}
use Rattle.wl_origin.specs.declared.opening.ManagerFault.{ManagerFault}
use Rattle.wl_origin.specs.declared.opening.ManagerFault.TheVariants as key
use Rattle.wl_service.specs.Clients.{Who, Managed, Opaque}
use Rattle.wl_service.specs.declared.fault.OpenFault.{OpenFault}
use Rattle.wl_service.specs.declared.fault.OpenFault.TheVariants.{BadUrl, BadBucket, TooManyAgents, NumbersSpent}
use Rattle.wl_service.specs.declared.fault.OpenFault.TheVariants.{TooManyManagers, Memory}

-- the URL and the bucket have a manager
abbrev pub HasManager : Result (Option ManagerKey) ManagerFault → Type 0
HasManager (Ok (Some key)) = Unit
HasManager (Ok None) = ⊥
HasManager (Err fault) = ⊥

-- A text that spells no URL is refused, and then one that is no bucket; an opaque origin gives an active client of that
-- kind, which is never refused; another one gives an agent of its bucket's manager, or what that refuses, or has none
-- yet and gets none since there are too many. Memory may be wanting for each.
abbrev pub Opens : Result (Option ManagerKey) ManagerFault → Kind → Result Who OpenFault → Type 0
Opens manager kind (Ok (Managed n)) = HasManager manager
Opens manager kind (Ok (Opaque k active)) = (manager ≡ Ok None) × (k ≡ kind) × (active ≡ true)
Opens manager kind (Err BadUrl) = manager ≡ Err key.BadUrl
Opens manager kind (Err BadBucket) = manager ≡ Err key.BadBucket
Opens manager kind (Err TooManyAgents) = HasManager manager
Opens manager kind (Err NumbersSpent) = HasManager manager
Opens manager kind (Err TooManyManagers) = HasManager manager
Opens manager kind (Err Memory) = Unit
