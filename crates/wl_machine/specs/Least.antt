-- The least of some numbers (own).
use Rattle.std.specs.Prelude.{◌≡◌, ◌≤◌, ℕ, true, List, [], filter, nat_lt, Option, Some, None}
use Rattle.std.specs.List.{AllByRecursion}
use Rattle.wl_machine.specs.Standing.{is_in}

-- those above a number
abbrev pub above : ℕ → List ℕ → List ℕ
above after numbers = filter (λ number. nat_lt after number) numbers

-- one of them that each is at least; none where there are none
abbrev pub IsLeast : List ℕ → Option ℕ → Type 0
IsLeast numbers None = numbers ≡ []
IsLeast numbers (Some least) = (is_in least numbers ≡ true) × AllByRecursion (λ number. least ≤ number) numbers
