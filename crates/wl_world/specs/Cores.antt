-- What stands at each key, as a list (own).
use Rattle.std.specs.Prelude.{◌≡◌, List, map}
use Rattle.std.specs.List.Sorted.{IsStrictlySortedBy}
use Rattle.std.specs.Map.{keys_of, lookup}
use Rattle.std.specs.Option.{unwrap_or}
use Rattle.std.specs.Ordering.{is_eq}
use Rattle.wl_origin.specs.Manager.{manager_cmp}
use Rattle.wl_origin.specs.declared.manager_key.ManagerKey.{ManagerKey}

-- what is listed for a key, or what stands at those that are not listed
abbrev pub listed_at : {X : Type 0} → X → List (ManagerKey × X) → ManagerKey → X
listed_at others list = λ key. unwrap_or (lookup (λ other. is_eq (manager_cmp key other)) list) others

-- What stands at each key is listed in the order of the keys, each once; `others` stands at those that are not listed.
pub record IsListOf {X : Type 0} (others : X) (at : ManagerKey → X) (list : List (ManagerKey × X)) : Type 0 where
  pub in_order : IsStrictlySortedBy manager_cmp (keys_of list)
  pub each : at ≡ listed_at others list

-- what is seen of each that is listed
abbrev pub seen_by : {C X : Type 0} → (C → X) → List (ManagerKey × C) → List (ManagerKey × X)
seen_by see list = map (λ entry. (entry.0, see entry.1)) list
