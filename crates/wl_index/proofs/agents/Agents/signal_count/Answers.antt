use Rattle.std.proofs.Common.{◌≡◌, ◌∙◌, ◌==◌, sym, ap, nat_cmp, Some, length, map}
use Rattle.std.specs.Option.{option_copied}
use Rattle.std.specs.List.{list_any}
use Rattle.std.specs.Map.{lookup}
use Rattle.std.specs.BTreeMap.{is_at}
use Rattle.std.proofs.lemmas.List.{length-map}
use Rattle.wl_machine.specs.Refusals.{signals_of}
use Rattle.wl_index.specs.inner.AgentRows.{Register, signal_row}
use Rattle.wl_index.proofs.AgentIndexes.{agent_there, listed_at, keys_length, some_is}
use Rattle.wl_index.proofs.Registers.{seen_some}
use Rattle.wl_index.proofs.agents.Agents.signal_count.Goals as goal

pub unwrap-requires : goal.unwrap-requires
unwrap-requires c =
    let i = c.self.inside in
    let here = ap (λ (v : Register). list_any (λ row. row.number == c.args.agent) v.rows.agents) c.self.view_is
    ∙ c.requires in
    seen_some c.get.result _ c.get.ensures.value (some_is (lookup (is_at (nat_cmp c.args.agent)) i.agents.entries)
    (sym (agent_there c.args.agent i.agents.entries c.self.invariant.0.members_ordered) ∙ here))

pub returns : goal.returns
returns c =
    let i = c.self.inside in
    let at : lookup (is_at (nat_cmp c.args.agent)) i.agents.entries ≡ Some c.unwrap.result.now = sym c.get.ensures.value
    ∙ ap option_copied c.unwrap.ensures in
    rw (← c.self.view_is) (c.len.ensures.len ∙ sym (keys_length c.unwrap.result.now.signals.entries)
    ∙ ap length (listed_at c.args.agent i.agents.entries i.signals.entries i.next_agent i.next_signal
    c.unwrap.result.now c.self.invariant.0 at) ∙ length-map
    (signals_of c.args.agent (map signal_row i.signals.entries)) (λ row. row.number))
