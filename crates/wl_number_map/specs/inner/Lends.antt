-- What only the code of this crate says (own), beside `Lends`.
use Rattle.std.specs.Prelude.{◌≡◌, ◌==◌, ℕ, List, Option}
use Rattle.std.specs.Borrow.{LendsSo, Fml, RattleType, MutBor}
use Rattle.std.specs.Map.{set_value}
use Rattle.wl_number_map.specs.contracts.few.Few.{the_row as few_row}
use Rattle.wl_number_map.specs.contracts.store.Store.{the_row as store_row}

-- and what a few that stand together end as, and a store
abbrev pub lends_few : (V : RattleType) → MutBor (List (ℕ × V.Denot)) → ℕ → Option (MutBor V.Denot) → Fml
lends_few V m number r = LendsSo (few_row V) V m r (λ es value. es ≡ set_value (λ k. number == k) m.now value)
    (λ es. es ≡ m.now)

abbrev pub lends_store : (V : RattleType) → MutBor (List (ℕ × V.Denot)) → ℕ → Option (MutBor V.Denot) → Fml
lends_store V m number r = LendsSo (store_row V) V m r (λ es value. es ≡ set_value (λ k. number == k) m.now value)
    (λ es. es ≡ m.now)
