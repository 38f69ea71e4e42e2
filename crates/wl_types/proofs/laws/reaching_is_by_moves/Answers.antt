use Rattle.wl_types.proofs.Chains.{path-reaches, reaches-path}
use Rattle.wl_types.proofs.laws.reaching_is_by_moves.Goals as goal

pub returns : goal.returns
returns c from to = (reaches-path from to, λ p. path-reaches from to p.0 p.1)
