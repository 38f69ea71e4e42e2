use Rattle.std.proofs.Common.{◌≡◌, ◌∙◌, ap, refl, sym, true, None}
use Rattle.std.specs.Map.{keys_of}
use Rattle.wl_index.specs.declared.agent.Agent.{Agent}
use Rattle.wl_index.specs.inner.Lists.{at, list_at, own_of, signed_of}
use Rattle.wl_index.proofs.Registers.{empty_rises, lists_written, none_above, rises_written}
use Rattle.wl_index.proofs.AgentIndexes.{opened_index, opened_rows}
use Rattle.wl_index.proofs.agents.Agents.open.Goals.{In_ok-insert}
use Rattle.wl_index.proofs.agents.Agents.open.Goals as goal

-- the agent that comes, with lists without numbers
abbrev agent : In_ok-insert → Agent
agent c = record { kind = c.args.kind; active = true; requests = c.new.result; signals = c.new-2.result }

pub invariant_of-self-2 : goal.invariant_of-self-2
invariant_of-self-2 c =
    let i = c.self.inside in
    let a = agent (goal.at.invariant_of-self-2 c).In_ok-insert in (
      opened_index i.agents.entries c.insert.new.self.entries i.signals.entries i.next_agent i.next_signal a
          c.self.invariant.0 (ap keys_of c.new-2.ensures.empty) c.in_ok-insert.ensures.entries
          c.in_ok-insert.ensures.ordered,
      rises_written i.next_agent a i.agents.entries c.insert.new.self.entries c.in_ok-insert.ensures.updates
          (empty_rises a c.new.ensures.items c.new-2.ensures.empty) c.self.invariant.1,
    )

pub returns-clause-opened : goal.returns-clause-opened
returns-clause-opened c =
    let i = c.self.inside in
    rw (
      ← c.self.view_is,
      opened_rows i.agents.entries c.insert.new.self.entries i.next_agent
          (agent (goal.at.returns-clause-opened c).In_ok-insert) c.self.invariant.0.members_below
          c.in_ok-insert.ensures.entries,
    ) refl

pub returns-clause-lists : goal.returns-clause-lists
returns-clause-lists c =
    let i = c.self.inside in
    let none : at i.next_agent i.agents.entries ≡ None = none_above i.next_agent i.agents.entries
    c.self.invariant.0.members_below in
    rw (← c.self.view_is)
    (lists_written i.next_agent (agent (goal.at.returns-clause-lists c).In_ok-insert) i.agents.entries
    c.insert.new.self.entries c.in_ok-insert.ensures.updates (c.new.ensures.items ∙ sym (ap own_of none))
    (λ s. ap (list_at s) c.new-2.ensures.empty ∙ sym (ap (signed_of s) none)))
