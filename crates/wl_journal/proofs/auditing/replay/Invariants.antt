use Rattle.std.proofs.Common.{◌≡◌, take}
use Rattle.wl_journal.specs.History.{IsLegal, state_of}
use Rattle.wl_journal.proofs.auditing.replay.Given as goal

abbrev pub invariant-loop-entry : goal.invariant-loop-entry
invariant-loop-entry g l =
    let state = g.C.LockCore.state in
    record {
      counts : l.place ≡ l.entry-index;
      legal : IsLegal (state l.fn.from) (take l.entry-index l.entries);
      leads : state l.core ≡ state_of (state l.fn.from) (take l.entry-index l.entries);
    }
