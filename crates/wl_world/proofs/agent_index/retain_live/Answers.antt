use Rattle.std.proofs.Common.{rules, is_some}
use Rattle.std.proofs.lemmas.Fn.{filter_same}
use Rattle.wl_world.specs.inner.AgentIndex.{found}
use Rattle.wl_world.proofs.agent_index.retain_live.Goals as goal

pub returns : goal.returns
returns c = filter_same _ (λ number. is_some (found number c.args.live.now.entries)) _ (λ x b f' k. search rules) _ _
    c.retain.ensures.filtered
