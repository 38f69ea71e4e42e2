-- Words of fences compare, byte by byte, as their epochs and tokens do.
use Rattle.std.proofs.Common.{◌≡◌, ℕ, zero, suc, ◌<◌, ◌/◌, ◌%◌, ◌^◌, List, [], ◌∷◌, ◌++◌, length, false, refl, sym, ap}
use Rattle.std.proofs.Common.{ap₂, ◌∙◌, arith, length-append, Ordering, Less, Equal, Greater}
use Rattle.std.proofs.Math.Nat.{pow-suc}
use Rattle.std.proofs.lemmas.Grind.{common_steps}
use Rattle.std.specs.Cmp.{nat_cmp_is, ranked}
use Rattle.std.specs.Cmp.Lexicographic.{slice_cmp}
use Rattle.std.specs.Fmt.{digit_glyph}
use Rattle.std.specs.Ordering.{MatchOrdering, nat_cmp, ordering_then}
use Rattle.wl_server.specs.Fences.{hexadecimal, fence_word, WordsCompareAsTokens}

then_then : (a b c : Ordering) → ordering_then (ordering_then a b) c ≡ ordering_then a (ordering_then b c)
then_then Less b c = refl
then_then Equal b c = refl
then_then Greater b c = refl

-- of lists that begin with as many, the beginnings compare first
cmp_append : (xs ys us vs : List ℕ) → length xs ≡ length ys
    → slice_cmp nat_cmp (xs ++ us) (ys ++ vs) ≡ ordering_then (slice_cmp nat_cmp xs ys) (slice_cmp nat_cmp us vs)
cmp_append [] [] us vs e = refl
cmp_append [] (y ∷ ys) us vs e = absurd (omega (arith, e))
cmp_append (x ∷ xs) [] us vs e = absurd (omega (arith, e))
cmp_append (x ∷ xs) (y ∷ ys) us vs e = ap (λ o. ordering_then (nat_cmp x y) o)
    (cmp_append xs ys us vs (omega (arith, e))) ∙ sym (then_then (nat_cmp x y) (slice_cmp nat_cmp xs ys)
    (slice_cmp nat_cmp us vs))

length_hexadecimal : (count n : ℕ) → length (hexadecimal count n) ≡ count
length_hexadecimal zero n = refl
length_hexadecimal (suc count) n =
    let shorter = length_hexadecimal count (n / 16) in
    let longer = length-append (hexadecimal count (n / 16)) (digit_glyph false (n % 16) ∷ []) in
    omega (arith, shorter, longer)

as_long : (count n m : ℕ) → length (hexadecimal count n) ≡ length (hexadecimal count m)
as_long count n m = length_hexadecimal count n ∙ sym (length_hexadecimal count m)

glyph_less : (a b : ℕ) → a < b → b < 16 → digit_glyph false a < digit_glyph false b
glyph_less a b less small = grind (arith, common_steps)

cmp_glyph : (a b : ℕ) → a < 16 → b < 16 → nat_cmp (digit_glyph false a) (digit_glyph false b) ≡ nat_cmp a b
cmp_glyph a b ha hb = sym (nat_cmp_is (digit_glyph false a) (digit_glyph false b) (nat_cmp a b)
    (by (nat_cmp a b) (ranked a b (nat_cmp a b) refl)))
  where
    by : (o : Ordering) → MatchOrdering o (a < b) (a ≡ b) (b < a)
        → MatchOrdering o (digit_glyph false a < digit_glyph false b) (digit_glyph false a ≡ digit_glyph false b)
        (digit_glyph false b < digit_glyph false a)
    by Less h = glyph_less a b h hb
    by Equal h = ap (λ d. digit_glyph false d) h
    by Greater h = glyph_less b a h ha

cmp_parts : (n m : ℕ) → ordering_then (nat_cmp (n / 16) (m / 16)) (nat_cmp (n % 16) (m % 16)) ≡ nat_cmp n m
cmp_parts n m =
    nat_cmp_is n m _ (by (nat_cmp (n / 16) (m / 16)) (nat_cmp (n % 16) (m % 16))
    (ranked (n / 16) (m / 16) (nat_cmp (n / 16) (m / 16)) refl)
    (ranked (n % 16) (m % 16) (nat_cmp (n % 16) (m % 16)) refl))
  where
    by : (high low : Ordering) → MatchOrdering high (n / 16 < m / 16) (n / 16 ≡ m / 16) (m / 16 < n / 16)
        → MatchOrdering low (n % 16 < m % 16) (n % 16 ≡ m % 16) (m % 16 < n % 16)
        → MatchOrdering (ordering_then high low) (n < m) (n ≡ m) (m < n)
    by Less low h l = omega (arith, h)
    by Equal Less h l = omega (arith, h, l)
    by Equal Equal h l = omega (arith, h, l)
    by Equal Greater h l = omega (arith, h, l)
    by Greater low h l = omega (arith, h)

cmp_hexadecimal : (count n m : ℕ) → n < 16 ^ count → m < 16 ^ count
    → slice_cmp nat_cmp (hexadecimal count n) (hexadecimal count m) ≡ nat_cmp n m
cmp_hexadecimal zero n m hn hm = nat_cmp_is n m Equal (omega (arith, hn, hm))
cmp_hexadecimal (suc count) n m hn hm =
    cmp_append (hexadecimal count (n / 16)) (hexadecimal count (m / 16)) (digit_glyph false (n % 16) ∷ [])
    (digit_glyph false (m % 16) ∷ []) (as_long count (n / 16) (m / 16))
    ∙ ap₂ (λ high low. ordering_then high low) (cmp_hexadecimal count (n / 16) (m / 16) (shorter n hn) (shorter m hm))
    (last (nat_cmp (digit_glyph false (n % 16)) (digit_glyph false (m % 16)))
    ∙ cmp_glyph (n % 16) (m % 16) (omega arith) (omega arith))
    ∙ cmp_parts n m
  where
    shorter : (x : ℕ) → x < 16 ^ suc count → x / 16 < 16 ^ count
    shorter x h = omega (arith, h, pow-suc 16 count)

    last : (o : Ordering) → ordering_then o Equal ≡ o
    last Less = refl
    last Equal = refl
    last Greater = refl

pub words_compare : WordsCompareAsTokens
unfolding fence_word
words_compare e t e₂ t₂ he ht he₂ ht₂ =
    cmp_append (hexadecimal 16 e) (hexadecimal 16 e₂) (45 ∷ hexadecimal 16 t) (45 ∷ hexadecimal 16 t₂) (as_long 16 e e₂)
    ∙ ap₂ (λ high low. ordering_then high low) (cmp_hexadecimal 16 e e₂ he he₂) (cmp_hexadecimal 16 t t₂ ht ht₂)
