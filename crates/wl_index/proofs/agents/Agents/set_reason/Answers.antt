use Rattle.std.proofs.Common.{◌≡◌, ◌∙◌, ap, sym, nat_cmp, Some, refl}
use Rattle.std.specs.Option.{option_copied_mut}
use Rattle.std.specs.Map.{lookup, set_value}
use Rattle.std.specs.BTreeMap.{is_at}
use Rattle.wl_number_map.proofs.Keyed.{found}
use Rattle.wl_index.proofs.Closing.{reason_set, reason_none, reason_index}
use Rattle.wl_index.proofs.agents.Agents.set_reason.Goals as goal

pub returns-in_default-clause-rows : goal.returns-in_default-clause-rows
returns-in_default-clause-rows c =
    let i = c.self.inside in
    rw (
      ← c.self.view_is,
      c.get_mut.follows.holds-at-none,
      reason_none c.args.agent c.args.signal c.args.reason
          i.signals.entries (sym c.in_default.ensures.value),
    ) refl

pub invariant_of-self-2 : goal.invariant_of-self-2
invariant_of-self-2 c =
    let i = c.self.inside in
    let s = c.in-Some.found.now in
    let there : lookup (is_at (nat_cmp c.args.signal)) i.signals.entries ≡ Some s = sym c.get_mut.ensures.value
    ∙ ap option_copied_mut c.in-Some.is in
    let set = (c.get_mut.follows.holds c.set_reason_of.new.signal).0
    ∙ ap (set_value (is_at (nat_cmp c.args.signal)) i.signals.entries) c.set_reason_of.ensures in (
      rw set (reason_index c.args.agent c.args.signal c.args.reason i.agents.entries i.signals.entries i.next_agent
          i.next_signal s c.self.invariant.0 (found c.args.signal i.signals.entries s c.self.invariant.0.signals_ordered
          there)),
      c.self.invariant.1,
    )

pub returns-clause-rows : goal.returns-clause-rows
returns-clause-rows c =
    let i = c.self.inside in
    let s = c.in-Some.found.now in
    let there : lookup (is_at (nat_cmp c.args.signal)) i.signals.entries ≡ Some s = sym c.get_mut.ensures.value
    ∙ ap option_copied_mut c.in-Some.is in
    let set = (c.get_mut.follows.holds c.set_reason_of.new.signal).0
    ∙ ap (set_value (is_at (nat_cmp c.args.signal)) i.signals.entries) c.set_reason_of.ensures in
    rw (
      ← c.self.view_is,
      set,
      reason_set c.args.agent c.args.signal c.args.reason i.signals.entries s
          (found c.args.signal i.signals.entries s c.self.invariant.0.signals_ordered there),
    ) refl
