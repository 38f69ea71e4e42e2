-- What only the code of this crate says (own), beside `Credentials`.
use Rattle.std.specs.Prelude.{◌≡◌, ◌≢◌, Option, Some}
use Rattle.wl_status.specs.declared.routing.Refusal.{Refusal}
use Rattle.wl_status.specs.declared.routing.Refusal.TheVariants as refusal

-- it is the expected one, unless memory ran out
abbrev pub AnswersFault : Option Refusal → Option Refusal → Type 0
AnswersFault expected result = result ≢ Some refusal.Memory → expected ≡ result
