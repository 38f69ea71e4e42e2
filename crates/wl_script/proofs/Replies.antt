-- No reply has an LF in it, so that what a run writes is split into its replies.
use Rattle.std.proofs.Common.{◌≡◌, ◌≢◌, ℕ, zero, suc, ◌+◌, ◌%◌, ◌/◌, ◌<◌, List, [], ◌∷◌, ◌++◌, ◌∙◌, refl, sym, ap}
use Rattle.std.proofs.Common.{subst, arith, append-nil, Bool, true, false, cond, All, ne_eqb, ℤ, pos, negsuc}
use Rattle.std.specs.Prelude.{◌==◌, ◌||◌, nat_lt, decimal}
use Rattle.std.specs.List.{list_any, flat_map}
use Rattle.std.specs.Fmt.{digits, digits_onto, digit_glyph, signed_decimal}
use Rattle.std.specs.Char.{digit_char}
use Rattle.std.proofs.lemmas.List.Elements.{All-nil, All-cons, All-append}
use Rattle.json.specs.Print.{escape_letter, escape_byte, escape, quoted, token_text}
use Rattle.json.specs.Token.{Token}
use Rattle.serde_json.specs.Data.{Num, unsigned, negative, float, Data, null, boolean, number, string, array, object}
use Rattle.serde_json.specs.Data.{Items, no_items, item, Members, no_members, member}
use Rattle.serde_json.specs.Written.{compact_text, items_text, members_text, number_text, comma_if}
use Rattle.wl_codec.specs.Replies.{reply_text, reply_value}
use Rattle.wl_codec.specs.declared.reply.WireReply.{WireReply}
use Rattle.wl_codec.specs.Reading.{line_reading}
use Rattle.wl_origin.specs.declared.manager_key.ManagerKey.{ManagerKey}
use Rattle.wl_world.specs.Isolation.{is_of, lines_of, replies, replies_to, Isolated}
use Rattle.wl_world.specs.World.{World, next, reply, answered, opening}
use Rattle.wl_codec.specs.Lines.{HasNoLf, is_lf}
use Rattle.wl_script.specs.Lines.{lines, with_lfs}
use Rattle.wl_script.specs.Transcript.{transcript}
use Rattle.wl_script.specs.Laws.{written_to, replies_among, RunsAreIsolated}
use Rattle.wl_script.proofs.Ends.{lines_after}
use Rattle.wl_script.proofs.Scripts.{are_replies}

abbrev NoLf : ℕ → Type 0
NoLf byte = is_lf byte ≡ false

abbrev none : HasNoLf []
none = All-nil NoLf

onto : (b : ℕ) (bs : List ℕ) → NoLf b → HasNoLf bs → HasNoLf (b ∷ bs)
onto b bs is rest = All-cons NoLf b bs is rest

both : (xs ys : List ℕ) → HasNoLf xs → HasNoLf ys → HasNoLf (xs ++ ys)
both xs ys front back = All-append NoLf xs ys front back

apart : (b : ℕ) → b ≢ 10 → NoLf b
apart b ne = ne_eqb b 10 ne

-- bytes that are written down
lit : (bytes : List ℕ) → list_any is_lf bytes ≡ false → HasNoLf bytes
lit [] clear = none
lit (b ∷ bs) clear = by (is_lf b) refl (lit bs)
  where
    by : (t : Bool) → is_lf b ≡ t → (list_any is_lf bs ≡ false → HasNoLf bs) → HasNoLf (b ∷ bs)
    by true is rest = absurd (let wrong : true ≡ false = rw is at clear in cc)
    by false is rest = onto b bs is (rest (rw is at clear))

-- ---- strings

-- one of two
either : (b : Bool) (x y : ℕ) → (b ≡ true → NoLf x) → (b ≡ false → NoLf y) → NoLf (cond b x y)
either true x y p q = p refl
either false x y p q = q refl

either_text : (b : Bool) (xs ys : List ℕ) → (b ≡ true → HasNoLf xs) → (b ≡ false → HasNoLf ys) → HasNoLf (cond b xs ys)
either_text true xs ys p q = p refl
either_text false xs ys p q = q refl

letter_no_lf : (x : ℕ) → NoLf (escape_letter x)
letter_no_lf x =
    either ((x == 34) || (x == 92)) x _ (λ own. apart x (λ e. let wrong : false ≡ true = rw e at own in cc))
    (λ _. either (x == 8) 98 _ (λ _. refl) (λ _. either (x == 12) 102 _ (λ _. refl)
    (λ _. either (x == 10) 110 _ (λ _. refl) (λ _. either (x == 13) 114 _ (λ _. refl)
    (λ _. either (x == 9) 116 0 (λ _. refl) (λ _. refl))))))

digit_no_lf : (d : ℕ) → NoLf (digit_char d)
digit_no_lf d = either (nat_lt d 10) (48 + d) (87 + d) (λ _. apart (48 + d) (λ e. omega (arith, e)))
    (λ _. apart (87 + d) (λ e. omega (arith, e)))

byte_no_lf : (x : ℕ) → HasNoLf (escape_byte x)
unfolding escape_byte
byte_no_lf x =
    either_text (nat_lt 0 (escape_letter x)) (92 ∷ escape_letter x ∷ []) _
    (λ _. onto 92 (escape_letter x ∷ []) refl (onto (escape_letter x) [] (letter_no_lf x) none))
    (λ _. either_text (nat_lt x 32) (92 ∷ 117 ∷ 48 ∷ 48 ∷ digit_char (x / 16) ∷ digit_char (x % 16) ∷ []) (x ∷ [])
    (λ _. both (92 ∷ 117 ∷ 48 ∷ 48 ∷ []) (digit_char (x / 16) ∷ digit_char (x % 16) ∷ [])
    (lit (92 ∷ 117 ∷ 48 ∷ 48 ∷ []) refl) (onto (digit_char (x / 16)) (digit_char (x % 16) ∷ []) (digit_no_lf (x / 16))
    (onto (digit_char (x % 16)) [] (digit_no_lf (x % 16)) none)))
    (λ high. onto x [] (apart x (λ e. let wrong : true ≡ false = rw e at high in cc)) none))

escaped_no_lf : (s : List ℕ) → HasNoLf (escape s)
escaped_no_lf [] = none
escaped_no_lf (x ∷ s) = both (escape_byte x) (escape s) (byte_no_lf x) (escaped_no_lf s)

quoted_no_lf : (s : List ℕ) → HasNoLf (quoted s)
quoted_no_lf s = onto 34 (escape s ++ 34 ∷ []) refl (both (escape s) (34 ∷ []) (escaped_no_lf s) (onto 34 [] refl none))

-- ---- numbers

glyph_no_lf : (d : ℕ) → NoLf (digit_glyph false d)
glyph_no_lf d = either (nat_lt d 10) (48 + d) (87 + d) (λ _. apart (48 + d) (λ e. omega (arith, e)))
    (λ _. apart (87 + d) (λ e. omega (arith, e)))

digits_no_lf : (k n : ℕ) (acc : List ℕ) → HasNoLf acc → HasNoLf (digits_onto k 10 false n acc)
digits_no_lf zero n acc rest = rest
digits_no_lf (suc k) n acc rest =
    let more = onto (digit_glyph false (n % 10)) acc (glyph_no_lf (n % 10)) rest in
    either_text (n / 10 == 0) (digit_glyph false (n % 10) ∷ acc)
    (digits_onto k 10 false (n / 10) (digit_glyph false (n % 10) ∷ acc)) (λ _. more)
    (λ _. digits_no_lf k (n / 10) (digit_glyph false (n % 10) ∷ acc) more)

decimal_no_lf : (n : ℕ) → HasNoLf (decimal n)
unfolding digits
decimal_no_lf n = digits_no_lf 64 n [] none

number_no_lf : (n : Num) → HasNoLf (number_text n)
number_no_lf (unsigned n) = decimal_no_lf n
number_no_lf (negative (pos n)) = decimal_no_lf n
number_no_lf (negative (negsuc n)) = onto 45 (decimal (suc n)) refl (decimal_no_lf (suc n))
number_no_lf (float x) = none

-- ---- values

comma_no_lf : (later : Bool) → HasNoLf (comma_if later)
comma_no_lf later = either_text later (44 ∷ []) [] (λ _. onto 44 [] refl none) (λ _. none)

word_no_lf : (b : Bool) → HasNoLf (token_text (Token.boolean b))
word_no_lf true = lit (116 ∷ 114 ∷ 117 ∷ 101 ∷ []) refl
word_no_lf false = lit (102 ∷ 97 ∷ 108 ∷ 115 ∷ 101 ∷ []) refl

mutual
  text_no_lf : (d : Data) → HasNoLf (compact_text d)
  text_no_lf null = lit (110 ∷ 117 ∷ 108 ∷ 108 ∷ []) refl
  text_no_lf (boolean b) = word_no_lf b
  text_no_lf (number n) = number_no_lf n
  text_no_lf (string s) = quoted_no_lf s
  text_no_lf (array ds) = onto 91 (items_text false ds) refl (items_no_lf false ds)
  text_no_lf (object ms) = onto 123 (members_text false ms) refl (members_no_lf false ms)

  items_no_lf : (later : Bool) (ds : Items) → HasNoLf (items_text later ds)
  items_no_lf later no_items = onto 93 [] refl none
  items_no_lf later (item d ds) = both (comma_if later) (compact_text d ++ items_text true ds) (comma_no_lf later)
      (both (compact_text d) (items_text true ds) (text_no_lf d) (items_no_lf true ds))

  members_no_lf : (later : Bool) (ms : Members) → HasNoLf (members_text later ms)
  members_no_lf later no_members = onto 125 [] refl none
  members_no_lf later (member k d ms) =
      both (comma_if later) (quoted k ++ 58 ∷ (compact_text d ++ members_text true ms)) (comma_no_lf later)
      (both (quoted k) (58 ∷ (compact_text d ++ members_text true ms)) (quoted_no_lf k)
      (onto 58 (compact_text d ++ members_text true ms) refl
      (both (compact_text d) (members_text true ms) (text_no_lf d) (members_no_lf true ms))))

-- ---- replies

reply_no_lf : (world : World) (line : List ℕ) → HasNoLf (reply world line)
unfolding reply reply_text
reply_no_lf world line = text_no_lf (reply_value (answered world (line_reading line)).reply)

replies_no_lf : (world : World) (script : List (List ℕ)) → All HasNoLf (replies world script)
replies_no_lf world [] = All-nil HasNoLf
replies_no_lf world (line ∷ script) = All-cons HasNoLf (reply world line) (replies (next world line) script)
    (reply_no_lf world line) (replies_no_lf (next world line) script)

-- what a run writes has the replies as its lines
written_lines : (world : World) (script : List (List ℕ)) → lines (transcript world script) ≡ replies world script
written_lines world script =
    ap lines (are_replies world script ∙ sym (append-nil (with_lfs (replies world script))))
    ∙ lines_after (replies world script) [] (replies_no_lf world script)
    ∙ append-nil (replies world script)

-- those at the places of an origin's lines are the replies to these
own_replies : (k : ManagerKey) (world : World) (script : List (List ℕ))
    → written_to k world script (replies world script) ≡ replies_to k world script
own_replies k world [] = refl
own_replies k world (line ∷ script) = by (is_of k world line) (own_replies k (next world line) script)
  where
    by : (b : Bool) → written_to k (next world line) script (replies (next world line) script)
        ≡ replies_to k (next world line) script
        → cond b (reply world line ∷ written_to k (next world line) script (replies (next world line) script))
        (written_to k (next world line) script (replies (next world line) script))
        ≡ cond b (reply world line ∷ replies_to k (next world line) script) (replies_to k (next world line) script)
    by true same = ap (λ rest. reply world line ∷ rest) same
    by false same = same

among : (k : ManagerKey) (script written : List ℕ) → written ≡ transcript opening (lines script)
    → replies_among k script written ≡ replies_to k opening (lines script)
among k script written is =
    ap (λ bytes. written_to k opening (lines script) (lines bytes)) is
    ∙ ap (written_to k opening (lines script)) (written_lines opening (lines script))
    ∙ own_replies k opening (lines script)

pub runs_are_isolated : Isolated → RunsAreIsolated
runs_are_isolated isolated k one other one_written other_written wrote also same =
    among k one one_written wrote ∙ isolated k (lines one) (lines other) same ∙ sym (among k other other_written also)
