use Rattle.std.proofs.Common.{sym, subst, rules}
use Rattle.std.proofs.lemmas.Fn.{filter_same}
use Rattle.wl_session.specs.inner.LastReported.{IsReportedList}
use Rattle.wl_session.proofs.Edits.{live_of_reported, reported_list_left}
use Rattle.wl_session.proofs.last_reported.drop_ends.Goals as goal

pub returns-clause-items : goal.returns-clause-items
returns-clause-items c = filter_same _ _ _ (λ x b f' k. search rules) _ _ c.retain.ensures.filtered

pub returns-clause-list : goal.returns-clause-list
returns-clause-list c = subst IsReportedList (sym (returns-clause-items c))
    (reported_list_left c.args.last_reported.now.items c.requires)

pub returns-clause-live : goal.returns-clause-live
returns-clause-live c = live_of_reported c.retain.new.self.items (returns-clause-list c)
