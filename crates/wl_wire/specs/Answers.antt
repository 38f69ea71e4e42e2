-- What is said to a message (own).
use Rattle.std.specs.Prelude.{ℕ, List, string_bytes, ⊤}
use Rattle.wl_wire.specs.declared.speaker.Answer.{Answer}
use Rattle.wl_wire.specs.declared.speaker.Answer.TheVariants as answer

-- this holds of the text, if one is said
abbrev pub IfText : Answer → (List ℕ → Type 0) → Type 0
IfText (answer.Text words) P = P (string_bytes words)
IfText (answer.End ending) P = ⊤
