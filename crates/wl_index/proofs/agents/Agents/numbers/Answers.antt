use Rattle.std.proofs.Common.{refl}
use Rattle.wl_index.proofs.agents.Agents.numbers.Goals as goal

pub returns-in-Signal-clause-numbers : goal.returns-in-Signal-clause-numbers
returns-in-Signal-clause-numbers c = rw (
  ← c.self.view_is,
  c.in-Signal.is,
  c.signed_numbers.ensures,
  c.get.ensures.value,
) refl

pub returns-in-Signal-clause-rising : goal.returns-in-Signal-clause-rising
returns-in-Signal-clause-rising c = rw (c.signed_numbers.ensures, c.get.ensures.value)
    ((c.self.invariant.1 c.in-Signal.agent).signed c.in-Signal.signal)

pub returns-in-Agent-clause-numbers : goal.returns-in-Agent-clause-numbers
returns-in-Agent-clause-numbers c = rw (
  ← c.self.view_is,
  c.in-Agent.is,
  c.own_numbers.ensures,
  c.get-in-Agent.ensures.value,
) refl

pub returns-in-Agent-clause-rising : goal.returns-in-Agent-clause-rising
returns-in-Agent-clause-rising c = rw (c.own_numbers.ensures, c.get-in-Agent.ensures.value)
    (c.self.invariant.1 c.in-Agent.agent).own
