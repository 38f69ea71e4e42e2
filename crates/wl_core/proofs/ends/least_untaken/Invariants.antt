use Rattle.std.proofs.Common.{ℕ, ◌++◌, drop, filter, map, Option}
use Rattle.std.specs.Option.{option_to_list}
use Rattle.wl_machine.specs.Least.{IsLeast, above}
use Rattle.wl_machine.specs.Step.{is_abortable}
use Rattle.wl_core.proofs.ends.least_untaken.Given as goal

-- the least of what was found and of what is left is the least of all
abbrev pub invariant-loop-lock : goal.invariant-loop-lock
invariant-loop-lock l =
    (least : Option ℕ) → IsLeast (option_to_list l.least ++ above l.after
    (map (λ lock. lock.number) (filter (is_abortable l.agent l.signal) (drop l.lock-index l.held)))) least
    → IsLeast (above l.after (map (λ lock. lock.number) (filter (is_abortable l.agent l.signal) l.held))) least
