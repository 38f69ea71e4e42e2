use Rattle.std.proofs.Common.{◌≡◌, ◌++◌, drop}
use Rattle.std.specs.Option.{option_to_list}
use Rattle.wl_index.specs.declared.request.Standing.TheVariants.{Holds}
use Rattle.wl_index.specs.inner.Ends.{ends_entry, untaken_places}
use Rattle.wl_index.specs.inner.Order.{from_grant_seq, first_of}
use Rattle.wl_index.proofs.Picks.{picked}
use Rattle.wl_index.proofs.requests.Requests.first_untaken.Given as goal

-- the first so far, with what is left
abbrev pub invariant-loop-number : goal.invariant-loop-number
invariant-loop-number l =
    first_of (option_to_list l.first ++ from_grant_seq l.low
    (picked (ends_entry l.owner Holds) l.self.entries (drop l.number-index l.numbers)))
    ≡ first_of (from_grant_seq l.low (untaken_places l.owner l.self.entries))
