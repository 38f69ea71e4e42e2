-- Texts of a script, as they may stand in an SVG (own).
use Rattle.std.specs.Prelude.{ℕ, ◌==◌, ◌∷◌, [], List, Bool, ◌||◌, ◌&&◌, nat_lt, codes, if◌then◌else◌}
use Rattle.std.specs.Char.{encode_utf8}
use Rattle.std.specs.List.{flat_map}
use Rattle.std.specs.Str.{chars}

-- control characters, and two that XML has no place for
abbrev pub is_unprintable : ℕ → Bool
is_unprintable c = nat_lt c 32 || (nat_lt 126 c && nat_lt c 160) || c == 0xFFFE || c == 0xFFFF

-- the bytes that stand for a character: an entity for those of XML's own, U+FFFD for one that can't be printed
abbrev pub escaped_char : ℕ → List ℕ
escaped_char c =
    if c == 60 then codes "&lt;"
    else if c == 62 then codes "&gt;"
    else if c == 38 then codes "&amp;"
    else if c == 34 then codes "&quot;"
    else if c == 39 then codes "&#39;"
    else if is_unprintable c then 239 ∷ 191 ∷ 189 ∷ []
    else encode_utf8 c

abbrev pub escape_text : List ℕ → List ℕ
escape_text text = flat_map escaped_char (chars text)
