use Rattle.std.proofs.Common.{List, ap, sym, subst, filter, ◌∙◌}
use Rattle.wl_session.specs.LastReported.{RequestPhase, is_live, with_observed}
use Rattle.wl_session.specs.inner.Upkeep.{IsKept}
use Rattle.wl_session.proofs.Edits.{live_of_reported, kept_is_reported, live_then_observed}
use Rattle.wl_session.proofs.upkeep.report.Goals as goal

pub returns-then-AT_ONCE-clause-last_reported : goal.returns-then-AT_ONCE-clause-last_reported
returns-then-AT_ONCE-clause-last_reported g c =
    live_of_reported c.report_at_once.new.last_reported.items c.report_at_once.ensures.list
    ∙ c.report_at_once.ensures.items
    ∙ ap (λ (now : List RequestPhase). with_observed now c.args.observed.now)
    (sym (live_of_reported c.args.last_reported.now.items
    (kept_is_reported _ (subst (λ b. IsKept b c.args.last_reported.now.items)
    (sym c.AT_ONCE.ensures ∙ c.if-AT_ONCE.true) c.requires.kept))))

pub returns-else-AT_ONCE-clause-last_reported : goal.returns-else-AT_ONCE-clause-last_reported
returns-else-AT_ONCE-clause-last_reported g c =
    ap (filter is_live) c.put_all.ensures.items ∙ live_then_observed c.args.last_reported.now.items c.args.observed.now
