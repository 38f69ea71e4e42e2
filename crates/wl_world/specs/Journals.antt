-- The journals of a world's managers, as far as they are counted (own).
use Rattle.std.specs.Prelude.{ℕ, ◌+◌, ◌≡◌, Option}
use Rattle.std.specs.Option.{option_map}
use Rattle.wl_origin.specs.declared.manager_key.ManagerKey.{ManagerKey}

-- how many entries each journal has ever had, where a journal is kept
abbrev pub Journals : Type 0
Journals = ManagerKey → Option ℕ

-- so many entries more
abbrev pub with_more : ℕ → Option ℕ → Option ℕ
with_more n = option_map (λ count. count + n)

-- the journal at each key has so many entries more
abbrev pub Grow : Journals → (ManagerKey → ℕ) → Journals → Type 0
Grow old more new = (key : ManagerKey) → new key ≡ with_more (more key) (old key)
