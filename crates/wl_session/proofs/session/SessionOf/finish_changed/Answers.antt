use Rattle.wl_session.proofs.DueNotices.{writable}
use Rattle.wl_session.proofs.session.SessionOf.finish_changed.Goals as goal

pub write_reply-requires : goal.write_reply-requires
write_reply-requires g c = rw c.in_ok-notices.ensures (writable _ c.args.outcome c.args.observed.now)
