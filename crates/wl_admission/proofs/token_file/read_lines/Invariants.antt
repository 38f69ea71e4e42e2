use Rattle.std.proofs.Common.{◌≡◌, take, map, Ok}
use Rattle.wl_admission.specs.Tokens.{rule_of, rules_from}
use Rattle.wl_admission.proofs.token_file.read_lines.Given as goal

-- the lines so far are right, and their rules are kept
abbrev pub invariant-loop-index : goal.invariant-loop-index
invariant-loop-index l = rules_from 1 (map (λ line. line.now) (take l.index l.lines)) ≡ Ok (map rule_of l.grants.items)
