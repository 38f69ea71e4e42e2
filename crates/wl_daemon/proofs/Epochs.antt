-- Texts with an LF at their end, and without it.
use Rattle.std.proofs.Common.{◌≡◌, ◌∙◌, ◌-◌, ℕ, Bool, true, false, true≢false, List, [], ◌∷◌, ◌++◌, length, take, drop}
use Rattle.std.proofs.Common.{nat_eq, ap, arith, refl, sym}
use Rattle.std.proofs.lemmas.List.{length-append, take-append-drop}
use Rattle.std.specs.Prelude.{if◌then◌else◌}
use Rattle.std.specs.List.{ends_with}
use Rattle.wl_daemon.specs.Epochs.{without_lf}
use lib.Pointwise.{pointwise}

is_lf : (end : List ℕ) → pointwise nat_eq (10 ∷ []) end ≡ true → end ≡ 10 ∷ []
is_lf [] is = absurd (true≢false (sym is))
is_lf (byte ∷ []) is = grind (arith, is)
is_lf (byte ∷ other ∷ more) is = grind (arith, is)

-- a text that is none with an LF behind it
pub has_no_lf : (text : List ℕ) → ((before : List ℕ) → text ≡ before ++ 10 ∷ [] → ⊥) → text ≡ without_lf text
has_no_lf text none = go (ends_with nat_eq text (10 ∷ [])) refl
  where
    go : (ends : Bool) → ends_with nat_eq text (10 ∷ []) ≡ ends
        → text ≡ (if ends then take (length text - 1) text else text)
    go false is = refl
    go true is =
        let end = is_lf (drop (length text - 1) text) is in
        absurd (none (take (length text - 1) text) (sym (take-append-drop (length text - 1) text)
        ∙ ap (λ end. take (length text - 1) text ++ end) end))

drop_before : (before : List ℕ) → drop (length before) (before ++ 10 ∷ []) ≡ 10 ∷ []
drop_before [] = refl
drop_before (byte ∷ before) = drop_before before

take_before : (before : List ℕ) → take (length before) (before ++ 10 ∷ []) ≡ before
take_before [] = refl
take_before (byte ∷ before) = ap (λ bytes. byte ∷ bytes) (take_before before)

-- a text with an LF behind it
pub has_lf : (before : List ℕ) → without_lf (before ++ 10 ∷ []) ≡ before
has_lf before =
    let text = before ++ 10 ∷ [] in
    let len : length text - 1 ≡ length before = omega (arith, length-append before (10 ∷ [])) in
    ap (λ n. if pointwise nat_eq (10 ∷ []) (drop n text) then take n text else text) len
    ∙ ap (λ end. if pointwise nat_eq (10 ∷ []) end then take (length before) text else text) (drop_before before)
    ∙ take_before before
