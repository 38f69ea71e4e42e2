use Rattle.std.proofs.Common.{◌∷◌, []}
use Rattle.std.proofs.lemmas.List.Elements.{Contains-append_left, Contains-push}
use Rattle.wl_world.proofs.agent_index.enroll.Goals as goal

pub returns : goal.returns
returns c = record {
  own = λ other live has. rw c.in_ok-push.ensures.items (Contains-append_left _ (c.args.number ∷ []) other
      (c.clean.ensures.own other live has));
  inbox = λ other has. rw c.in_ok-push-2.ensures.items (Contains-append_left _ (c.args.number ∷ []) other
      (rw c.clean.ensures.inbox has));
  owned = rw c.in_ok-push.ensures.items (Contains-push _ c.args.number);
  changed = rw c.in_ok-push-2.ensures.items (Contains-push _ c.args.number);
}
