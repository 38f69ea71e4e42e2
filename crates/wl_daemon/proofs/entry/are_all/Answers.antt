use Rattle.std.proofs.Common.{sym, ◌∙◌}
use Rattle.wl_daemon.proofs.Lists.{list_any_seen}
use Rattle.wl_daemon.specs.Entry.{is_star}
use Rattle.wl_daemon.proofs.entry.are_all.Goals as goal

pub returns : goal.returns
returns c = c.contains.ensures.value ∙ sym (list_any_seen (λ t. t.now) is_star c.args.texts.now)
