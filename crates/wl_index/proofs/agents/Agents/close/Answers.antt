use Rattle.std.proofs.Common.{◌≡◌, ◌∙◌, ◌==◌, ℕ, ap, sym, nat_cmp, Some, None, filter, refl}
use Rattle.std.specs.Prelude.{not}
use Rattle.std.specs.List.{list_any}
use Rattle.std.specs.Map.{lookup}
use Rattle.std.specs.BTreeMap.{is_at}
use Rattle.wl_number_map.proofs.Keyed.{same_number}
use Rattle.wl_index.specs.declared.agent.Signal.{Signal}
use Rattle.wl_index.specs.inner.Lists.{IsRising, is_spared}
use Rattle.wl_index.specs.inner.AgentRows.{Register}
use Rattle.wl_index.proofs.Grouping.{no_group_rises, with_updated}
use Rattle.wl_index.proofs.Closing.{own_spared, closed_agents, closed_signals, closed_index}
use Rattle.wl_index.proofs.AgentIndexes.{agent_there, listed_at, some_is}
use Rattle.wl_index.proofs.agents.Agents.close.Goals.{After-remove_signals}
use Rattle.wl_index.proofs.agents.Agents.close.Goals as goal

pub unwrap-left-requires : goal.unwrap-left-requires
unwrap-left-requires c =
    let es = c.self.inside.agents.entries in
    let here = ap (λ (v : Register). list_any (λ row. row.number == c.args.agent) v.rows.agents) c.self.view_is
    ∙ c.requires in
    rw c.remove.ensures.value (some_is (lookup (is_at (nat_cmp c.args.agent)) es)
    (sym (agent_there c.args.agent es c.self.invariant.0.members_ordered) ∙ here))

-- the signals that are left
signals : (c : After-remove_signals) → c.remove_signals.new.signals.entries
    ≡ filter (λ (e : ℕ × Signal). not (e.1.agent == c.args.agent)) c.self.inside.signals.entries
signals c =
    let i = c.self.inside in
    let there : lookup (is_at (nat_cmp c.args.agent)) i.agents.entries
    ≡ Some c.unwrap-left.result = sym c.remove.ensures.value ∙ c.unwrap-left.ensures in
    c.remove_signals.ensures.entries ∙ ap (λ ns. filter (is_spared ns) i.signals.entries)
    (listed_at c.args.agent i.agents.entries i.signals.entries i.next_agent i.next_signal c.unwrap-left.result
    c.self.invariant.0 there) ∙ own_spared c.args.agent i.signals.entries c.self.invariant.0.signals_ordered

pub invariant_of-self : goal.invariant_of-self
invariant_of-self c =
    let i = c.self.inside in (
      closed_index c.args.agent i.agents.entries _ i.signals.entries _ i.next_agent i.next_signal c.self.invariant.0
          c.remove.ensures.entries (signals (goal.at.invariant_of-self c).After-remove_signals) c.remove.ensures.ordered
          c.remove_signals.ensures.ordered,
      with_updated (λ q g. IsRising g) c.args.agent None i.agents.entries c.remove.new.self.entries
          c.remove.ensures.updates no_group_rises c.self.invariant.1,
    )

pub returns-clause-rows : goal.returns-clause-rows
returns-clause-rows c =
    let i = c.self.inside in
    rw (
      ← c.self.view_is,
      c.remove.ensures.entries,
      closed_agents c.args.agent i.agents.entries
          c.self.invariant.0.members_ordered,
      signals (goal.at.returns-clause-rows c).After-remove_signals,
      closed_signals c.args.agent i.signals.entries,
    ) refl

pub returns-clause-others : goal.returns-clause-others
returns-clause-others c other apart = rw (← c.self.view_is)
    (c.remove.ensures.updates other ∙ rw (same_number c.args.agent other, apart) refl)
