use Rattle.std.proofs.Common.{◌≡◌, take, map, option_map}
use Rattle.wl_admission.specs.Scopes.{reach_of}
use Rattle.wl_admission.specs.Tokens.{reach_by, rule_of}
use Rattle.wl_admission.proofs.tokens.Tokens.scope_of.Given as goal

-- what the grants so far let open
abbrev pub invariant-loop-grant : goal.invariant-loop-grant
invariant-loop-grant l = option_map (λ scope. reach_of scope.now) l.found
    ≡ reach_by (map rule_of (take l.grant-index l.self.grants.items)) l.token
