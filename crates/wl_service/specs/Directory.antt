-- What is kept for each manager's key (own).
use Rattle.std.specs.Prelude.{◌≡◌, List, Option, false}
use Rattle.std.specs.BTreeMap.{insert_entry, is_at}
use Rattle.wl_core.specs.Realm.{at_key}
use Rattle.wl_origin.specs.Manager.{manager_cmp}
use Rattle.wl_origin.specs.declared.manager_key.ManagerKey.{ManagerKey}

-- what is kept for a key
abbrev pub kept_for : {X : Type 0} → List (ManagerKey × X) → ManagerKey → Option X
kept_for entries key = at_key manager_cmp entries key

-- one thing more is kept, for that key
abbrev pub Adds : {X : Type 0} → List (ManagerKey × X) → List (ManagerKey × X) → ManagerKey → Type 0
Adds {X} old new key = (kept : X) × (new ≡ insert_entry manager_cmp old key kept)

-- what is kept for each other key is what was
abbrev pub KeepsOthers : {X : Type 0} → List (ManagerKey × X) → List (ManagerKey × X) → ManagerKey → Type 0
KeepsOthers old new key = (other : ManagerKey) → is_at (manager_cmp key) other ≡ false
    → kept_for new other ≡ kept_for old other
