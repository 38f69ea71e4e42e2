use Rattle.wl_index.proofs.Tags.{owners_signed}
use Rattle.wl_index.proofs.index.IndexCoreLockCore.untaken_above.Goals as goal

pub least_untaken-requires : goal.least_untaken-requires
least_untaken-requires c =
    let i = c.self.inside in (
      c.numbers.ensures.rising,
      rw (c.numbers.ensures.numbers, c.requests.ensures.entries)
          (owners_signed c.args.agent c.args.signal i.locks.entries i.agents.members c.self.invariant.0.grouped),
    )
