-- Tokens and the file that lists them (own).
use Rattle.std.specs.Prelude.{◌≡◌, ◌≢◌, ℕ, ◌+◌, List, [], ◌∷◌, map, filter, length, nat_lt, ◌==◌, ◌&&◌, ◌||◌, Bool}
use Rattle.std.specs.Prelude.{Option, Some, None, Ok, Err, Result, codes, string_bytes, if◌then◌else◌}
use Rattle.std.specs.Char.{is_ascii_alphanumeric}
use Rattle.std.specs.List.{list_all, list_any, slice_split}
use Rattle.std.specs.Option.{option_or}
use Rattle.std.specs.Str.{bytes_eq}
use Rattle.std.specs.Str.Lines.{lines}
use Rattle.wl_origin.specs.Origin.{Tuple}
use Rattle.wl_admission.specs.Scopes.{Reach, reach_of, tuple_in}
use Rattle.wl_admission.specs.declared.token_file.TokenFileFault.{TokenFileFault}
use Rattle.wl_admission.specs.declared.token_file.TokenFileFault.TheVariants.{BadToken, BadOrigin, Memory}
use Rattle.wl_admission.specs.declared.tokens.Grant.{Grant}
use Rattle.wl_admission.specs.declared.tokens.Tokens.{Tokens}

-- RFC 7230, section 3.2.6, "tchar"
unfoldable pub is_token_byte : ℕ → Bool
is_token_byte byte = is_ascii_alphanumeric byte || list_any (λ mark. mark == byte) (codes "!#$%&'*+-.^_`|~")

-- RFC 7230, section 3.2.6, "token"
abbrev pub is_token : List ℕ → Bool
is_token text = nat_lt 0 (length text) && list_all is_token_byte text

-- a token, and what it lets open
abbrev pub Rule : Type 0
Rule = List ℕ × Reach

abbrev pub rule_of : Grant → Rule
rule_of grant = (string_bytes grant.token, reach_of grant.scope)

abbrev pub rules_of : Tokens → List Rule
rules_of tokens = map rule_of tokens.grants.items

-- what a rule lets open, where this is its token
abbrev pub reach_for : Rule → List ℕ → Option Reach
reach_for rule token = if bytes_eq rule.0 token then Some rule.1 else None

-- what the first rule of this token lets open
abbrev pub reach_by : List Rule → List ℕ → Option Reach
reach_by [] token = None
reach_by (rule ∷ rules) token = option_or (reach_for rule token) (reach_by rules token)

-- what stands between spaces
abbrev pub words : List ℕ → List (List ℕ)
words line = filter (λ word. nat_lt 0 (length word)) (slice_split (λ byte. byte == 32) line)

abbrev pub onto : Option Tuple → Option (List Tuple) → Option (List Tuple)
onto None origins = None
onto (Some origin) None = None
onto (Some origin) (Some origins) = Some (origin ∷ origins)

-- the origins of these words, where each has one
abbrev pub origins_of : List (List ℕ) → Option (List Tuple)
origins_of [] = Some []
origins_of (word ∷ words) = onto (tuple_in word) (origins_of words)

-- all where no origin is listed
abbrev pub reach_listed : List Tuple → Reach
reach_listed [] = None
reach_listed (origin ∷ origins) = Some (origin ∷ origins)

abbrev pub rule_with : ℕ → List ℕ → Option (List Tuple) → Result Rule TokenFileFault
rule_with number token None = Err (BadOrigin number)
rule_with number token (Some origins) = Ok (token, reach_listed origins)

-- the rule of the line of this number: a token, then the origins that it lets open
abbrev pub rule_in : ℕ → List (List ℕ) → Result Rule TokenFileFault
rule_in number [] = Err (BadToken number)
rule_in number (token ∷ origins) = if is_token token then rule_with number token (origins_of origins)
    else Err (BadToken number)

abbrev pub rule_then : Result Rule TokenFileFault → Result (List Rule) TokenFileFault
    → Result (List Rule) TokenFileFault
rule_then (Err fault) rules = Err fault
rule_then (Ok rule) (Err fault) = Err fault
rule_then (Ok rule) (Ok rules) = Ok (rule ∷ rules)

-- the rules of lines whose first has this number; or the first that is wrong
abbrev pub rules_from : ℕ → List (List ℕ) → Result (List Rule) TokenFileFault
rules_from number [] = Ok []
rules_from number (line ∷ lines) = rule_then (rule_in number (words line)) (rules_from (number + 1) lines)

-- the rules of a file's text
abbrev pub rules_in : List ℕ → Result (List Rule) TokenFileFault
rules_in text = rules_from 1 (lines text)

-- the answer is the expected one, unless memory ran out
abbrev pub Answers : {X Y : Type 0} → (Y → X) → Result X TokenFileFault → Result Y TokenFileFault → Type 0
Answers view expected (Ok made) = expected ≡ Ok (view made)
Answers view expected (Err fault) = fault ≢ Memory → expected ≡ Err fault
