use Rattle.std.proofs.Common.{◌≡◌, ◌≤◌, List, [], ◌∷◌, ℕ, Bor, Some, length, map, arith, refl}
use Rattle.wl_admission.specs.Tokens.{Rule, rules_of}
use Rattle.wl_status.specs.Credentials.{headers_fault}
use Rattle.wl_status.specs.declared.routing.Refusal.TheVariants as refusal
use Rattle.wl_status.proofs.credentials.headers_fault.Goals as goal

-- of several headers none is looked at
several : (rules : List Rule) (headers : List (Bor (List ℕ))) → 2 ≤ length headers
    → headers_fault rules (map (λ h. h.now) headers) ≡ Some refusal.BadRequest
several rules [] enough = absurd (omega arith)
several rules (header ∷ []) enough = absurd (omega arith)
several rules (header ∷ other ∷ more) enough = refl

pub returns-in-len2-up : goal.returns-in-len2-up
returns-in-len2-up c = λ other. several (rules_of c.args.known.now) c.args.headers.now c.in-len2-up.len_at_least
