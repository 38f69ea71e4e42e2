-- A timeline that wasn't drawn, after a script that was done.
use Rattle.std.proofs.Common.{◌≡◌, ℕ, List, ◌≤◌, ◌∙◌, length, Option, Some, None, All, inl, arith}
use Rattle.std.specs.Prelude.{Result, Ok, Err, IfOk, IfErr, IfSome}
use Rattle.std.proofs.lemmas.List.Elements.{All-take}
use Rattle.wl_world.specs.World.{World}
use Rattle.wl_script.specs.Audits.{CountsDone, DoneFirst}
use Rattle.wl_script.specs.Leaves.{Answered}
use Rattle.wl_script.specs.Lines.{lines}
use Rattle.wl_script.specs.declared.fault.ScriptFault.{ScriptFault}
use Rattle.wl_script.specs.declared.fault.ScriptFault.TheVariants.{Memory, Read, Write, LineTooLong, TooManyTurns}
use Rattle.wl_timeline.specs.Timelines.{LeavesTimeline}
use Rattle.wl_timeline.specs.inner.Timelines.{IsUnwritten}

-- all lines are the first lines
all_done : (limit n : ℕ) (all : List (List ℕ)) → n ≡ length all → All (λ line. length line ≤ limit) all
    → DoneFirst limit all n
all_done limit n all is within = (omega (arith, is), All-take (λ line. length line ≤ limit) n all within)

left_by : (limit done : ℕ) (all : List (List ℕ)) (fault : ScriptFault) (old new : Option (List ℕ)) → done ≡ length all
    → All (λ line. length line ≤ limit) all → IsUnwritten done fault old new → LeavesTimeline limit all fault old new
left_by limit done all (Memory n) old new count within (same, kept) = (all_done limit n all (same ∙ count) within, kept)
left_by limit done all (Write n) old new count within same = (all_done limit n all (same ∙ count) within, same ∙ count)
left_by limit done all (Read n) old new count within wrong = absurd wrong
left_by limit done all (LineTooLong n) old new count within wrong = absurd wrong
left_by limit done all (TooManyTurns n) old new count within wrong = absurd wrong

pub drawn : (rest : Option (List ℕ)) (start : World) (done : ℕ) (result : Result ℕ ScriptFault)
    → IfSome rest (λ input. (done ≡ length (lines input)) × Answered 65536 start (lines input) None None)
    → IfOk result (λ n. n ≡ done)
    → IfOk result (λ n. IfSome rest (λ input. (n ≡ length (lines input))
    × All (λ line. length line ≤ 65536) (lines input)))
drawn None start done (Ok n) answered is = tt
drawn (Some input) start done (Ok n) (count, answered) is = (is ∙ count, answered.within)
drawn rest start done (Err fault) answered is = tt

pub undrawn : (rest : Option (List ℕ)) (start : World) (done : ℕ) (result : Result ℕ ScriptFault)
    (old new : Option (List ℕ))
    → IfSome rest (λ input. (done ≡ length (lines input)) × Answered 65536 start (lines input) None None)
    → IfErr result (λ fault. IsUnwritten done fault old new)
    → IfErr result (λ fault. IfSome rest (λ input. LeavesTimeline 65536 (lines input) fault old new))
undrawn rest start done (Ok n) old new answered wrong = tt
undrawn None start done (Err fault) old new answered wrong = tt
undrawn (Some input) start done (Err fault) old new (count, answered) wrong =
    left_by 65536 done (lines input) fault old new count answered.within wrong

counts_behind : (all : List (List ℕ)) (done : ℕ) (fault : ScriptFault) (held_old held_new old new : Option (List ℕ))
    → done ≡ length all
    → IsUnwritten done fault held_old held_new → CountsDone all fault old new
counts_behind all done (Memory n) held_old held_new old new count (same, kept) = inl (same ∙ count)
counts_behind all done (Write n) held_old held_new old new count same = tt
counts_behind all done (Read n) held_old held_new old new count wrong = absurd wrong
counts_behind all done (LineTooLong n) held_old held_new old new count wrong = absurd wrong
counts_behind all done (TooManyTurns n) held_old held_new old new count wrong = absurd wrong

pub counted : (rest : Option (List ℕ)) (start : World) (done : ℕ) (result : Result ℕ ScriptFault)
    (held_old held_new new : Option (List ℕ))
    → IfSome rest (λ input. (done ≡ length (lines input)) × Answered 65536 start (lines input) None None)
    → IfErr result (λ fault. IsUnwritten done fault held_old held_new)
    → IfErr result (λ fault. IfSome rest (λ input. CountsDone (lines input) fault rest new))
counted rest start done (Ok n) held_old held_new new answered wrong = tt
counted None start done (Err fault) held_old held_new new answered wrong = tt
counted (Some input) start done (Err fault) held_old held_new new (count, answered) wrong =
    counts_behind (lines input) done fault held_old held_new (Some input) new count wrong
