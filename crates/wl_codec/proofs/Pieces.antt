-- What the pieces of a reply's text make up.
use Rattle.std.proofs.Common.{◌≡◌, ℕ, ◌+◌, ◌^◌, ◌<◌, ◌≤◌, List, [], ◌∷◌, ◌++◌, true, codes, decimal, length, get_or}
use Rattle.std.proofs.Common.{refl, sym, ap, ap₂, Result, Ok, Err, ◌∙◌, map, take, arith, append_assoc}
use Rattle.std.specs.Prelude.{⊤, ◌==◌}
use Rattle.std.specs.List.{list_all, flat_map}
use Rattle.std.specs.Str.Parse.{AllDigits}
use Rattle.std.proofs.lemmas.Bool.{and_parts, or_parts, not-true, eqb-false, ne_eqb, ltb-false, le-ltb}
use Rattle.std.specs.Prelude.{OnOk, IfOk, IsOk}
use Rattle.std.proofs.lemmas.Result.{on_ok_weaker}
use Rattle.std.proofs.lemmas.List.{flat_map_more, take_more, take_all}
use Rattle.std.proofs.lemmas.Fmt.{decimal_is_IsNumeral}
use Rattle.std.proofs.lemmas.Str.Parse.{digit_at}
use Rattle.json.specs.Run.{is_plain, is_stop}
use Rattle.json.specs.Print.{escape}
use Rattle.json.proofs.Printed.Strings.{escape_byte_plain}
use Rattle.serde_json.specs.Data.{Data, string, array}
use Rattle.serde_json.specs.View.{items_of}
use Rattle.serde_json.specs.Written.{compact_text, items_text}
use Rattle.serde_json.proofs.OnLiterals.{serde_json_on_literals}
use Rattle.wl_types.specs.declared.infos.LockInfo.{LockInfo}
use Rattle.wl_types.specs.Words.{mode_word}
use Rattle.wl_codec.specs.Replies.{info_value, infos_value, snapshot_data, notices_value, whole_value, outcome_value}
use Rattle.wl_codec.specs.Replies.{reply_object, reply_value, reply_text}
use Rattle.wl_codec.specs.inner.Pieces.{id_and_notices}
use Rattle.wl_codec.specs.declared.reply.WireReply.{WireReply}
use Rattle.wl_types.specs.declared.infos.Snapshot.{Snapshot}
use Rattle.wl_types.specs.Client.{client_id}

-- what an answer unfolds to compute the text of a value on a literal
unfoldable pub on_literals : ⊤
unfolding serde_json_on_literals
on_literals = tt

-- ---- strings that need no escape

pub escape_plain : (s : List ℕ) → list_all is_plain s ≡ true → escape s ≡ s
escape_plain [] h = refl
escape_plain (x ∷ xs) h =
    let parts = and_parts (is_plain x) _ h in
    let none = or_parts _ _ (not-true (is_stop x) parts.0) in
    let tests = or_parts (x == 34) _ none.0 in
    ap₂ (λ a b. a ++ b) (escape_byte_plain x (eqb-false x 34 tests.0) (eqb-false x 92 tests.1) (ltb-false x 32 none.1))
    (escape_plain xs parts.1)

digit_plain : (x : ℕ) → 48 ≤ x → x ≤ 57 → is_plain x ≡ true
digit_plain x low high = rw (ne_eqb x 34 (λ e. omega arith), ne_eqb x 92 (λ e. omega arith), le-ltb x 32 (omega arith))
    refl

digits_plain : (ds : List ℕ) → AllDigits 10 ds → list_all is_plain ds ≡ true
digits_plain [] h = refl
digits_plain (d ∷ ds) h =
    let range = digit_at (d ∷ ds) 0 h (omega arith) in
    rw (digit_plain d range.0 range.1) (digits_plain ds h.1)

pub escape_decimal : (n : ℕ) → n < 2 ^ 64 → escape (decimal n) ≡ decimal n
escape_decimal n h = escape_plain (decimal n) (digits_plain (decimal n) (decimal_is_IsNumeral n h).0.1)

between : (old s t : List ℕ) → t ≡ s → ((old ++ 34 ∷ []) ++ s) ++ 34 ∷ [] ≡ old ++ 34 ∷ (t ++ 34 ∷ [])
between old s t e = rw e (simp append_assoc)

pub string_made : (old s : List ℕ) → list_all is_plain s ≡ true
    → ((old ++ 34 ∷ []) ++ s) ++ 34 ∷ [] ≡ old ++ compact_text (string s)
string_made old s h = between old s (escape s) (escape_plain s h)

client_quoted : (old : List ℕ) (n : ℕ) → n < 2 ^ 64 → ((old ++ codes "\"client-") ++ decimal n) ++ 34 ∷ []
    ≡ old ++ 34 ∷ (codes "client-" ++ (escape (decimal n) ++ 34 ∷ []))
client_quoted old n h = rw (escape_decimal n h) (simp append_assoc)

pub client_made : (old : List ℕ) (n : ℕ) → n < 2 ^ 64 → ((old ++ codes "\"client-") ++ decimal n) ++ codes "\""
    ≡ old ++ compact_text (string (client_id n))
unfolding on_literals
client_made old n h = client_quoted old n h

-- ---- objects and arrays

-- Five pieces, one after the other, make up a whole.
pub five_made : {E : Type 0} (r : Result ⊤ E) (old a b c d e n₁ n₂ n₃ n₄ n₅ whole : List ℕ) → n₁ ≡ old ++ a
    → n₂ ≡ n₁ ++ b → n₃ ≡ n₂ ++ c → n₄ ≡ n₃ ++ d
    → whole ≡ a ++ (b ++ (c ++ (d ++ e))) → OnOk r (n₅ ≡ n₄ ++ e) → OnOk r (n₅ ≡ old ++ whole)
five_made r old a b c d e n₁ n₂ n₃ n₄ n₅ whole h₁ h₂ h₃ h₄ w h =
    on_ok_weaker r (λ h₅. h₅ ∙ ap (λ s. s ++ e) (h₄ ∙ ap (λ s. s ++ d)
    (h₃ ∙ ap (λ s. s ++ c) (h₂ ∙ ap (λ s. s ++ b) h₁))) ∙ regroup ∙ ap (λ s. old ++ s) (sym w)) h
  where
    regroup : ((((old ++ a) ++ b) ++ c) ++ d) ++ e ≡ old ++ (a ++ (b ++ (c ++ (d ++ e))))
    regroup = simp append_assoc

pub info_text : (i : LockInfo) (mode name : List ℕ) → mode ≡ mode_word i.mode → name ≡ i.name
    → compact_text (info_value i)
    ≡ codes "{\"clientId\":" ++ (compact_text (string (client_id i.client))
    ++ (codes ",\"mode\":" ++ (compact_text (string mode)
    ++ (codes ",\"name\":" ++ (compact_text (string name) ++ codes "}")))))
unfolding on_literals
info_text i mode name m n = rw (m, n) refl

pub snapshot_text : (s : Snapshot) (held pending : List LockInfo) → held ≡ s.held → pending ≡ s.pending
    → compact_text (snapshot_data s)
    ≡ codes "{\"held\":" ++ (compact_text (infos_value held)
    ++ (codes ",\"pending\":" ++ (compact_text (infos_value pending) ++ codes "}")))
unfolding on_literals
snapshot_text s held pending h p = rw (h, p) refl

-- ---- replies

framed_answer : (r : WireReply) (value : Data) → compact_text
    (reply_object (whole_value r.id) (notices_value r.notices) (Ok value))
    ≡ codes "{" ++ (id_and_notices r ++ (codes ",\"ok\":" ++ (compact_text value ++ codes "}")))
unfolding on_literals
framed_answer r value = simp append_assoc

framed_error : (r : WireReply) (value : Data) → compact_text
    (reply_object (whole_value r.id) (notices_value r.notices) (Err value))
    ≡ codes "{\"error\":" ++ (compact_text value ++ (codes "," ++ (id_and_notices r ++ codes "}")))
unfolding on_literals
framed_error r value = simp append_assoc

answer_text : (r : WireReply) (value : Data) → outcome_value r.outcome ≡ Ok value
    → reply_text r ≡ codes "{" ++ (id_and_notices r ++ (codes ",\"ok\":" ++ (compact_text value ++ codes "}")))
unfolding reply_text reply_value
answer_text r value e = ap (λ o. compact_text (reply_object (whole_value r.id) (notices_value r.notices) o)) e
    ∙ framed_answer r value

pub error_text : (r : WireReply) (value : Data) → outcome_value r.outcome ≡ Err value
    → reply_text r ≡ codes "{\"error\":" ++ (compact_text value ++ (codes "," ++ (id_and_notices r ++ codes "}")))
unfolding reply_text reply_value
error_text r value e = ap (λ o. compact_text (reply_object (whole_value r.id) (notices_value r.notices) o)) e
    ∙ framed_error r value

pub answer_made : {E : Type 0} (r : Result ⊤ E) (old n₁ n₂ n₃ n₄ n₅ : List ℕ) (reply : WireReply) (o : Result Data Data)
    → outcome_value reply.outcome ≡ o → IsOk o
    → n₁ ≡ old ++ codes "{" → n₂ ≡ n₁ ++ id_and_notices reply → n₃ ≡ n₂ ++ codes ",\"ok\":"
    → IfOk o (λ value. n₄ ≡ n₃ ++ compact_text value)
    → OnOk r (n₅ ≡ n₄ ++ codes "}") → OnOk r (n₅ ≡ old ++ reply_text reply)
answer_made r old n₁ n₂ n₃ n₄ n₅ reply (Ok value) e ok h₁ h₂ h₃ h₄ h =
    five_made r old (codes "{") (id_and_notices reply) (codes ",\"ok\":") (compact_text value) (codes "}") n₁ n₂ n₃ n₄
    n₅ (reply_text reply) h₁ h₂ h₃ h₄ (answer_text reply value e) h
answer_made r old n₁ n₂ n₃ n₄ n₅ reply (Err value) e ok h₁ h₂ h₃ h₄ h = absurd cc

-- ---- lists

later_items : {A : Type 0} (f : A → Data) (xs : List A) → flat_map (λ x. 44 ∷ compact_text (f x)) xs ++ 93 ∷ []
    ≡ items_text true (items_of (map f xs))
later_items f [] = refl
later_items f (x ∷ xs) = append_assoc (44 ∷ compact_text (f x)) _ _
    ∙ ap (λ s. 44 ∷ (compact_text (f x) ++ s)) (later_items f xs)

-- an item with a comma before it
abbrev pub later_item : {A : Type 0} → (A → Data) → A → List ℕ
later_item f x = 44 ∷ compact_text (f x)

pub more_items : {A : Type 0} (f : A → Data) (old mid new : List ℕ) (xs : List A) (i : ℕ) (x d : A) → i < length xs
    → x ≡ get_or xs i d → mid ≡ (old ++ flat_map (later_item f) (take i xs)) ++ 44 ∷ []
    → new ≡ mid ++ compact_text (f x) → new ≡ old ++ flat_map (later_item f) (take (i + 1) xs)
more_items f old mid new xs i x d h at m e =
    e ∙ ap (λ s. s ++ compact_text (f x)) m ∙ append_assoc (old ++ flat_map (later_item f) (take i xs)) (44 ∷ [])
    (compact_text (f x))
    ∙ flat_map_more (later_item f) old (take i xs) x ∙ ap (λ y. old ++ flat_map (later_item f) (take i xs ++ y ∷ [])) at
    ∙ ap (λ l. old ++ flat_map (later_item f) l) (sym (take_more xs i d h))

items_made : {A : Type 0} (f : A → Data) (old : List ℕ) (x : A) (xs : List A)
    → (((old ++ 91 ∷ []) ++ compact_text (f x)) ++ flat_map (later_item f) xs) ++ 93 ∷ []
    ≡ old ++ compact_text (array (items_of (map f (x ∷ xs))))
items_made f old x xs = simp append_assoc (ap (λ s. old ++ 91 ∷ (compact_text (f x) ++ s)) (later_items f xs))

pub array_made : {A E : Type 0} (r : Result ⊤ E) (f : A → Data) (old o₁ o₂ o₃ o₄ : List ℕ) (all : List A) (x : A)
    (xs : List A) → all ≡ x ∷ xs → o₁ ≡ old ++ 91 ∷ [] → o₂ ≡ o₁ ++ compact_text (f x)
    → o₃ ≡ o₂ ++ flat_map (later_item f) xs → OnOk r (o₄ ≡ o₃ ++ 93 ∷ [])
    → OnOk r (o₄ ≡ old ++ compact_text (array (items_of (map f all))))
array_made r f old o₁ o₂ o₃ o₄ all x xs a h₁ h₂ h₃ h =
    on_ok_weaker r (λ e. e ∙ ap (λ s. s ++ 93 ∷ []) (h₃ ∙ ap (λ s. s ++ flat_map (later_item f) xs)
    (h₂ ∙ ap (λ s. s ++ compact_text (f x)) h₁)) ∙ items_made f old x xs
    ∙ ap (λ l. old ++ compact_text (array (items_of (map f l)))) (sym a)) h

pub all_taken : {A : Type 0} (f : A → Data) (old new : List ℕ) (xs : List A) (i : ℕ) → length xs ≤ i
    → new ≡ old ++ flat_map (later_item f) (take i xs) → new ≡ old ++ flat_map (later_item f) xs
all_taken f old new xs i past e = e ∙ ap (λ l. old ++ flat_map (later_item f) l) (take_all i xs past)
