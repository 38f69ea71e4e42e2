use Rattle.std.proofs.Common.{◌≡◌, ◌∙◌, ◌==◌, ℕ, sym, ap, nat_cmp, refl, subst, true, Some, None}
use Rattle.std.specs.Option.{is_some}
use Rattle.std.specs.List.{list_any}
use Rattle.std.specs.Map.{keys_of, lookup, set_value, remove_entry}
use Rattle.std.specs.BTreeMap.{is_at, insert_entry}
use Rattle.wl_index.specs.declared.agent.Agent.{Agent}
use Rattle.wl_index.specs.inner.Lists.{IsRising, list_at, own_of, signed_of}
use Rattle.wl_index.specs.inner.AgentRows.{Register}
use Rattle.wl_number_map.proofs.Keyed.{Found, entry_last, found, undone}
use Rattle.wl_index.proofs.Registers.{list_more, lists_written, rises_as, rises_written, set_looks}
use Rattle.wl_index.proofs.AgentIndexes.{agent_there, listed_at, some_is, some_at, keys_last, rows_stay, index_stays}
use Rattle.wl_index.proofs.AgentIndexes.{signalled, signal_rows, signals_lower}
use Rattle.wl_index.proofs.agents.Agents.make_signal.Goals.{In_ok-insert, After-remove, In-Ok}
use Rattle.wl_index.proofs.agents.Agents.make_signal.Goals as goal

-- the agent is a member
seen : (c : In_ok-insert) → is_some (lookup (is_at (nat_cmp c.args.agent)) c.self.inside.agents.entries) ≡ true
seen c =
    sym (agent_there c.args.agent c.self.inside.agents.entries c.self.invariant.0.members_ordered)
    ∙ ap (λ (v : Register). list_any (λ row. row.number == c.args.agent) v.rows.agents) c.self.view_is
    ∙ c.requires.there

there : (c : In_ok-insert) → (m : Agent) × (lookup (is_at (nat_cmp c.args.agent)) c.self.inside.agents.entries ≡ Some m)
there c = some_at _ (seen c)

member : (c : In_ok-insert) → Found c.args.agent c.self.inside.agents.entries (there c).0
member c = found _ _ _ c.self.invariant.0.members_ordered (there c).1

pub add_signal-requires : goal.add_signal-requires
add_signal-requires c = some_is _ (seen (goal.at.add_signal-requires c).In_ok-insert)

-- ---- its list couldn't grow

-- the member has the signals that it had
stays : (c : After-remove)
    → let was = (there (goal.at.invariant_of-self-in_default c).In_ok-insert).0 in
    (now : Agent) × (c.add_signal.new.agents.entries ≡ set_value (is_at (nat_cmp c.args.agent))
    c.self.inside.agents.entries now) × (now.kind ≡ was.kind) × (now.active ≡ was.active)
    × (now.requests ≡ was.requests) × (now.signals.entries ≡ was.signals.entries)
stays c = rw (there (goal.at.invariant_of-self-in_default c).In_ok-insert).1 at c.in_default.ensures.err

-- and so has the owner
undo : (c : After-remove) → c.remove.new.self.entries ≡ c.self.inside.signals.entries
undo c =
    c.remove.ensures.entries ∙ ap (remove_entry (is_at (nat_cmp c.self.inside.next_signal)))
    c.in_ok-insert.ensures.entries
    ∙ undone c.self.inside.signals.entries c.self.inside.next_signal (record { agent = c.args.agent; reason = None })
    c.self.invariant.0.signals_below

-- its lists are the same
same : (c : After-remove)
    → let was = (there (goal.at.invariant_of-self-in_default c).In_ok-insert).0 in
    ((s : ℕ) → list_at s (stays c).0.signals.entries ≡ list_at s was.signals.entries)
same c s = ap (list_at s) (stays c).5

pub invariant_of-self-in_default : goal.invariant_of-self-in_default
invariant_of-self-in_default c =
    let now = stays c in
    let at = (goal.at.invariant_of-self-in_default c).In_ok-insert in
    let m = there at in
    let es = c.self.inside.agents.entries in
    rw (undo c, now.1) (
      index_stays _ _ _ _ _ _ now.0 c.self.invariant.0 (member at) (ap keys_of now.5),
      rises_written c.args.agent now.0 es _ (λ q. set_looks c.args.agent q m.0 now.0 es (member at))
          (rises_as m.0 now.0 now.4 (same c) (subst IsRising m.1 (c.self.invariant.1 c.args.agent))) c.self.invariant.1,
    )

pub returns-in_default-clause-err : goal.returns-in_default-clause-err
returns-in_default-clause-err c =
    let now = stays c in
    rw (
      ← c.self.view_is,
      undo c,
      now.1,
      rows_stay _ _ _ now.0
          (member (goal.at.returns-in_default-clause-err c).In_ok-insert) now.2 now.3,
    ) refl

pub returns-in_default-clause-lists : goal.returns-in_default-clause-lists
returns-in_default-clause-lists c =
    let now = stays c in
    let at = (goal.at.returns-in_default-clause-lists c).In_ok-insert in
    let m = there at in
    let es = c.self.inside.agents.entries in
    rw (← c.self.view_is, now.1) (lists_written c.args.agent now.0 es _
    (λ q. set_looks c.args.agent q m.0 now.0 es (member at)) (ap (λ v. v.items) now.4 ∙ sym (ap own_of m.1))
    (λ s. same c s ∙ sym (ap (signed_of s) m.1)))

-- ---- the signal came to its list

listed : (c : In-Ok) (was : Agent) → lookup (is_at (nat_cmp c.args.agent)) c.self.inside.agents.entries ≡ Some was
    → (now : Agent) × (c.add_signal.new.agents.entries ≡ set_value (is_at (nat_cmp c.args.agent))
    c.self.inside.agents.entries now) × (now.kind ≡ was.kind) × (now.active ≡ was.active)
    × (now.requests ≡ was.requests)
    × (now.signals.entries ≡ insert_entry nat_cmp was.signals.entries c.self.inside.next_signal c.new.result)
listed c was there = rw there at c.in-Ok.ensures.ok

-- its lists are the same, and one more without numbers
more : (c : In-Ok) (was : Agent) (there : lookup (is_at (nat_cmp c.args.agent)) c.self.inside.agents.entries ≡ Some was)
    (s : ℕ) → list_at s (listed c was there).0.signals.entries ≡ list_at s was.signals.entries
more c was there s =
    let i = c.self.inside in
    let below = signals_lower c.args.agent i.next_signal was i.signals.entries
    (listed_at c.args.agent i.agents.entries i.signals.entries i.next_agent i.next_signal was c.self.invariant.0
    there) c.self.invariant.0.signals_below in
    ap (list_at s) ((listed c was there).5 ∙ entry_last was.signals.entries i.next_signal c.new.result below)
    ∙ list_more was.signals.entries i.next_signal s c.new.result below c.new.ensures.items

pub invariant_of-self-2 : goal.invariant_of-self-2
invariant_of-self-2 c =
    let at = goal.at.invariant_of-self-2 c in
    let m = there at.In_ok-insert in
    let now = listed at.In-Ok m.0 m.1 in
    let es = c.self.inside.agents.entries in (
      signalled _ _ _ _ _ _ _ _ now.0 c.self.invariant.0 (member at.In_ok-insert) now.1 (keys_last _ _ _ _ now.5)
          c.in_ok-insert.ensures.entries c.in_ok-insert.ensures.ordered,
      rw now.1 (rises_written c.args.agent now.0 es _ (λ q. set_looks c.args.agent q m.0 now.0 es
          (member at.In_ok-insert)) (rises_as m.0 now.0 now.4 (more at.In-Ok m.0 m.1)
          (subst IsRising m.1 (c.self.invariant.1 c.args.agent))) c.self.invariant.1),
    )

pub returns-clause-lists : goal.returns-clause-lists
returns-clause-lists c =
    let at = goal.at.returns-clause-lists c in
    let m = there at.In_ok-insert in
    let now = listed at.In-Ok m.0 m.1 in
    let es = c.self.inside.agents.entries in
    rw (← c.self.view_is, now.1) (lists_written c.args.agent now.0 es _
    (λ q. set_looks c.args.agent q m.0 now.0 es (member at.In_ok-insert))
    (ap (λ v. v.items) now.4 ∙ sym (ap own_of m.1)) (λ s. more at.In-Ok m.0 m.1 s ∙ sym (ap (signed_of s) m.1)))

pub returns-clause-made : goal.returns-clause-made
returns-clause-made c =
    let at = goal.at.returns-clause-made c in
    let m = there at.In_ok-insert in
    let now = listed at.In-Ok m.0 m.1 in
    rw (
      ← c.self.view_is,
      now.1,
      rows_stay _ _ _ now.0 (member at.In_ok-insert) now.2 now.3,
      signal_rows c.self.inside.signals.entries c.insert.new.self.entries c.self.inside.next_signal
          (record { agent = c.args.agent; reason = None }) c.self.invariant.0.signals_below
          c.in_ok-insert.ensures.entries,
    )
    refl
