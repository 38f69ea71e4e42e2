use Rattle.wl_index.proofs.Tags.{owners_signed}
use Rattle.wl_index.proofs.index.IndexCoreLockCore.untaken.Goals as goal

pub nth_untaken-requires : goal.nth_untaken-requires
nth_untaken-requires c =
    let i = c.self.inside in (
      c.numbers.ensures.rising,
      rw (c.numbers.ensures.numbers, c.requests.ensures.entries)
          (owners_signed c.args.agent c.args.signal i.locks.entries i.agents.members c.self.invariant.0.grouped),
    )
