use Rattle.std.proofs.Common.{◌≡◌, length, take}
use Rattle.wl_journal.proofs.comparing.same_infos.Given as goal

abbrev pub invariant-loop-i : goal.invariant-loop-i
invariant-loop-i l = (length l.one ≡ length l.other) × (take l.i l.one ≡ take l.i l.other)
