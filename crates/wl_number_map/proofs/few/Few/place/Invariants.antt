use Rattle.std.proofs.Common.{◌≡◌, ◌==◌, take}
use Rattle.std.proofs.lemmas.Map.{NonePasses}
use Rattle.wl_number_map.proofs.few.Few.place.Given as goal

-- none so far has the number
abbrev pub invariant-loop-row : goal.invariant-loop-row
invariant-loop-row g l = (l.place ≡ l.row-index) × NonePasses (λ k. l.number == k) (take l.row-index l.row-items)
