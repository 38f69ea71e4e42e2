use Rattle.std.proofs.Common.{rules}
use Rattle.wl_session.proofs.Edits.{live_of_reported, kept_is_reported}
use Rattle.wl_session.proofs.session.Session.live.Goals as goal

pub returns-clause-last_reported : goal.returns-clause-last_reported
returns-clause-last_reported c = rw (
  ← c.self.view_is,
  live_of_reported c.self.inside.last_reported.items
      (kept_is_reported _ c.self.invariant),
) (search rules)
