-- Exchanges in a row, and how many there are.
use Rattle.std.proofs.Common.{◌≡◌, subst, refl, arith, ℕ, ◌+◌, ◌-◌, ◌^◌, List, [], ◌∷◌, ◌++◌, length, min}
use Rattle.std.proofs.Common.{length-append}
use Rattle.wl_server.specs.Talks.{Exchange, Exchanges, Exchanged}

module _ {L P : Type 0} (hears : L → List ℕ → L → Type 0) (says : L → List ℕ → L → Type 0)
    (answers : P → List ℕ → List ℕ → P → Type 0) where
  -- one exchange more
  pub one_more : (es : List Exchange) (e : Exchange) (old mid new : L × P)
      → Exchanged hears says answers old es mid → Exchanges hears says answers mid e new
      → Exchanged hears says answers old (es ++ e ∷ []) new
  one_more [] e old mid new before last = (new, subst (λ s. Exchanges hears says answers s e new) before last, refl)
  one_more (x ∷ es) e old mid new before last = (before.0, before.1, one_more es e before.0 mid new before.2 last)

-- the count after one more
pub counted : (es : List Exchange) (e : Exchange) (n : ℕ) → n ≡ min (length es) (2 ^ 64 - 1)
    → min (n + 1) (2 ^ 64 - 1) ≡ min (length (es ++ e ∷ [])) (2 ^ 64 - 1)
counted es e n is = omega (arith, is, length-append es (e ∷ []))
