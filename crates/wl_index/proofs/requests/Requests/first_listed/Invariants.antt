use Rattle.std.proofs.Common.{◌≡◌, drop}
use Rattle.std.specs.List.{find}
use Rattle.wl_index.specs.inner.Untaken.{finds_untaken}
use Rattle.wl_index.proofs.requests.Requests.first_listed.Given as goal

abbrev pub invariant-loop-listed : goal.invariant-loop-listed
invariant-loop-listed l =
    find (finds_untaken l.owner l.self.entries) (drop l.listed-index l.numbers)
    ≡ find (finds_untaken l.owner l.self.entries) l.numbers
