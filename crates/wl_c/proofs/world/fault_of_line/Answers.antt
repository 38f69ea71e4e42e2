use Rattle.std.proofs.Common.{◌≡◌, ◌++◌, ◌∷◌, [], ℕ, List, false, subst, true≢false}
use Rattle.std.proofs.lemmas.List.Elements.{All-head, All-tail}
use Rattle.wl_codec.specs.Lines.{HasNoLf, is_lf}
use Rattle.wl_c.proofs.world.fault_of_line.Goals as goal

-- bytes with an LF behind some of them
with_lf : (front rest : List ℕ) → HasNoLf (front ++ 10 ∷ rest) → ⊥
with_lf [] rest none = true≢false (All-head (λ byte. is_lf byte ≡ false) 10 rest none)
with_lf (byte ∷ front) rest none = with_lf front rest
    (All-tail (λ byte. is_lf byte ≡ false) byte (front ++ 10 ∷ rest) none)

pub returns-in-Some : goal.returns-in-Some
returns-in-Some c = λ none. with_lf _ _ (subst HasNoLf c.in-Some.ensures.some.1 none)
