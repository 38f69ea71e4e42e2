-- Components of targets, and the targets that name an origin.
use Rattle.std.proofs.Common.{◌≡◌, ◌≢◌, ℕ, List, [], ◌∷◌, ◌++◌, All, ap, sym, ◌∙◌, refl, arith, subst, Option, None}
use Rattle.std.proofs.Common.{Some, Bool, true, false, not, inl, inr, unwrap_or}
use Rattle.std.specs.Prelude.{IsAscii, bytes_eq, if◌then◌else◌}
use Rattle.std.specs.Str.Lossy.{utf8_lossy}
use Rattle.std.proofs.lemmas.Bool.{agree_below_at, cases_lt, cond-true, cond-false}
use Rattle.std.proofs.lemmas.Bool.Decides.{nat_tests}
use Rattle.std.proofs.lemmas.Slice.Eq.{bytes_eq-Decides}
use Rattle.std.proofs.lemmas.List.Elements.{All-from_get_or}
use Rattle.std.proofs.lemmas.Str.{IsUtf8-from_ascii, utf8_lossy-IsUtf8}
use Rattle.percent_encoding.proofs.PercentLemmas.{IsByte, percent_encode-nil, percent_encode_escaped}
use Rattle.percent_encoding.proofs.PercentLemmas.{percent_encode_kept, round_trip}
use Rattle.percent_encoding.specs.AsciiSet.{should_percent_encode}
use Rattle.percent_encoding.specs.Percent.{percent_decode, percent_encode, percent_encode_byte}
use Rattle.wl_origin.specs.Origin.{Tuple, tuple_text}
use Rattle.wl_admission.specs.Scopes.{tuple_in}
use Rattle.wl_admission.specs.Targets.{component, component_byte, if_own, is_unescaped, origin_named, prefix, target_of}
use Rattle.wl_admission.specs.declared.targets.TheConstants.{ESCAPED}

-- the set has what a component escapes
pub escapes_others : (b : ℕ) → should_percent_encode ESCAPED b ≡ not (is_unescaped b)
unfolding should_percent_encode is_unescaped
escapes_others b =
    elim (cases_lt b 128) [
      | inl low ↦ agree_below_at (should_percent_encode ESCAPED) (λ x. not (is_unescaped x)) 128 b refl low
      | inr high ↦ grind (arith, nat_tests)
    ]

component_step : (b : ℕ) (bs : List ℕ) (unescaped : Bool) → is_unescaped b ≡ unescaped
    → percent_encode ESCAPED (b ∷ bs) ≡ component_byte b ++ percent_encode ESCAPED bs
component_step b bs true is =
    percent_encode_kept ESCAPED b bs (escapes_others b ∙ ap not is)
    ∙ ap (λ front. front ++ percent_encode ESCAPED bs) (sym (cond-true _ (b ∷ []) (percent_encode_byte b) is))
component_step b bs false is =
    percent_encode_escaped ESCAPED b bs (escapes_others b ∙ ap not is)
    ∙ ap (λ front. front ++ percent_encode ESCAPED bs) (sym (cond-false _ (b ∷ []) (percent_encode_byte b) is))

-- so encoding by it makes components
pub encoded_is_component : (text : List ℕ) → percent_encode ESCAPED text ≡ component text
encoded_is_component [] = percent_encode-nil ESCAPED
encoded_is_component (b ∷ bs) =
    component_step b bs (is_unescaped b) refl ∙ ap (λ rest. component_byte b ++ rest) (encoded_is_component bs)

-- a component decodes to its text
pub component_decodes : (text : List ℕ) → All IsByte text → percent_decode (component text) ≡ text
component_decodes text bytes = subst (λ x. percent_decode x ≡ text) (encoded_is_component text)
    (round_trip ESCAPED text refl bytes)

not_own : (origin : Tuple) (is : Bool) → (is ≡ true → ⊥) → None ≡ (if is then Some origin else None)
not_own origin true never = absurd (never refl)
not_own origin false never = refl

-- a target without the prefix is no origin's
pub none_without_prefix : (target : List ℕ) → ((rest : List ℕ) → target ≢ prefix ++ rest) → (found : Option Tuple)
    → None ≡ if_own target found
none_without_prefix target never None = refl
none_without_prefix target never (Some origin) =
    not_own origin (bytes_eq target (target_of origin)) (λ same. never (component (tuple_text origin))
    ((bytes_eq-Decides target (target_of origin)).0 same))

own_at : (target : List ℕ) (other origin : Tuple) (is : Bool) → (is ≡ true → target ≡ target_of other)
    → (if is then Some other else None) ≡ Some origin → target ≡ target_of origin
own_at target other origin true own found = own refl ∙ ap target_of (ap (λ o. unwrap_or o other) found)
own_at target other origin false own found = absurd (grind (arith, found))

-- what is named by a target has it as its own
pub own_where_named : (target : List ℕ) (found : Option Tuple) (origin : Tuple) → if_own target found ≡ Some origin
    → target ≡ target_of origin
own_where_named target None origin named = absurd (grind (arith, named))
own_where_named target (Some other) origin named =
    own_at target other origin (bytes_eq target (target_of other)) (bytes_eq-Decides target (target_of other)).0 named

-- the text of ASCII that stands behind the prefix
spelled_back : (text : List ℕ) → IsAscii text → utf8_lossy (percent_decode (component text)) ≡ text
spelled_back text ascii =
    let bytes = All-from_get_or IsByte text 0 (λ i within. let small = ascii i in omega (arith, small)) in
    ap utf8_lossy (component_decodes text bytes) ∙ utf8_lossy-IsUtf8 text (IsUtf8-from_ascii text ascii)

-- an origin whose text is read as itself is named by its own target
pub named_by_own : (origin : Tuple) → IsAscii (tuple_text origin) → tuple_in (tuple_text origin) ≡ Some origin
    → origin_named (target_of origin) ≡ Some origin
named_by_own origin ascii read =
    ap (λ text. if_own (target_of origin) (tuple_in text)) (spelled_back (tuple_text origin) ascii)
    ∙ ap (if_own (target_of origin)) read
    ∙ cond-true _ (Some origin) None ((bytes_eq-Decides (target_of origin) (target_of origin)).1 refl)
