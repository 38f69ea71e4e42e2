-- What only the code of this crate says (own), beside `NumberMap`.
use Rattle.std.specs.Prelude.{ℕ, List, [], ◌∷◌, refl, map}
use Rattle.std.specs.Borrow.{Bor}
use Rattle.std.specs.Coded.{Coded, code_by, coded×, coded_ℕ, coded_list}
use Rattle.std.specs.BTreeMap.{insert_entry}
use Rattle.std.specs.Ordering.{nat_cmp}
use Rattle.wl_number_map.specs.NumberMap.{NumberMap}

-- a map is stored as the list of its entries
abbrev pub number_map_code : {X : Type 0} → Coded X → Coded (NumberMap X)
number_map_code {X} code =
    code_by (List (ℕ × X)) (coded_list (coded× coded_ℕ code)) (λ m. m.entries) (λ es. record { entries = es })
    (λ _. refl)

-- entries with distinct numbers, put in order
abbrev pub in_order : {X : Type 0} → List (ℕ × X) → List (ℕ × X)
in_order [] = []
in_order (e ∷ es) = insert_entry nat_cmp (in_order es) e.0 e.1

-- the entries that rows refer to
abbrev pub shown : {X : Type 0} → List (ℕ × Bor X) → List (ℕ × X)
shown rows = map (λ row. (row.0, row.1.now)) rows
