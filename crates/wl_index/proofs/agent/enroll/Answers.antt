use Rattle.std.proofs.Common.{sym, ap, subst, ◌∙◌}
use Rattle.std.specs.Option.{unwrap_or}
use Rattle.std.specs.List.{Contains}
use Rattle.std.proofs.lemmas.Result.{on_ok_weaker}
use Rattle.wl_index.specs.inner.Lists.{list_at}
use Rattle.wl_index.proofs.agent.enroll.Goals as goal

pub returns-in-Some-clause-on : goal.returns-in-Some-clause-on
returns-in-Some-clause-on c = on_ok_weaker c.sign.result (λ on. record {
  own = c.in_ok-enlist.ensures.on;
  signed = λ s is. subst (λ k. Contains (list_at k c.sign.new.signals.entries) c.args.number)
      (ap (λ o. unwrap_or o s) (sym c.in-Some.is ∙ is)) on;
}) c.sign.ensures.on
