-- Options that have a number (own).
use Rattle.std.specs.Prelude.{ℕ, List, ◌≡◌, ◌≤◌, Option, Some, None}
use Rattle.std.specs.Str.Parse.{digits_value, without_leading_plus}
use Rattle.clap.specs.Words.{Row, Text, one_of}

-- the option's text is this number
abbrev pub HasNumber : Text → List Row → ℕ → Type 0
HasNumber name rows n = (text : Text) × (one_of name rows ≡ Some text)
    × (digits_value 10 (without_leading_plus text) ≡ n)

-- the same, of a number from 1 to `most`
abbrev pub HasNumberTo : ℕ → Text → List Row → ℕ → Type 0
HasNumberTo most name rows n = HasNumber name rows n × (1 ≤ n) × (n ≤ most)

-- the same, where the option has a text, and else nothing
abbrev pub MayHaveNumberTo : ℕ → Text → List Row → Option ℕ → Type 0
MayHaveNumberTo most name rows None = one_of name rows ≡ None
MayHaveNumberTo most name rows (Some n) = HasNumberTo most name rows n
