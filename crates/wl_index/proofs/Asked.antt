-- A request that nothing refuses: what it makes of the locks and requests is the machine's step.
use Rattle.std.proofs.Common.{◌≡◌, ℕ, ◌<◌, ◌==◌, ◌+◌, Bool, true, false, List, [], ◌∷◌, ◌++◌, map, refl, ap, ◌∙◌}
use Rattle.std.specs.Prelude.{not, ◌&&◌, filter, None}
use Rattle.std.specs.Str.{bytes_eq}
use Rattle.std.specs.List.{AllByRecursion}
use Rattle.wl_types.specs.declared.ask.Ask.{Ask}
use Rattle.wl_types.specs.declared.phases.Change.{Change}
use Rattle.wl_types.specs.declared.phases.Phase.TheVariants.{Granted, Stolen}
use Rattle.wl_machine.specs.declared.command.Command.TheVariants as command
use Rattle.wl_machine.specs.declared.command.Reply.TheVariants as reply
use Rattle.wl_machine.specs.declared.rows.HeldRow.{HeldRow}
use Rattle.wl_machine.specs.declared.rows.PendingRow.{PendingRow}
use Rattle.wl_machine.specs.Grants.{granted_lock, locks}
use Rattle.wl_machine.specs.Refusals.{refusal}
use Rattle.wl_machine.specs.Step.{Gives, available, lock_ends, new_request, with_name}
use Rattle.wl_index.specs.inner.Core.{machine_state}
use Rattle.wl_index.specs.inner.Locks.{Board, IsQuiet, WaitsAlone, request_for, no_lock_on}
use Rattle.wl_index.specs.inner.AgentRows.{AgentRows}
use Rattle.wl_index.specs.inner.Rows.{Entry, held_of, pending_of}
use Rattle.wl_index.proofs.Ended.{Processed}
use Rattle.wl_index.proofs.Enqueuing.{last_waits}
use Rattle.wl_index.proofs.Events.{plain_gives}
use Rattle.wl_index.proofs.Owned.{held_within, pending_beside}
use Rattle.wl_index.proofs.Rows.{held_more, pending_more}
use Rattle.wl_index.proofs.Steals.{locks_own, steal_exclusive, steal_gives}

-- what a request's coming makes of the board
abbrev pub with_asked : Board → ℕ → Ask → Board
with_asked b agent ask = record b {
  entries = b.entries ++ (b.next, request_for agent ask) ∷ [];
  next = b.next + 1;
  names = with_name ask.name b.names;
}

-- a request that comes to the end of its queue
pub plain_asked : (rows : AgentRows) (before enqueued after : Board) (agent : ℕ) (ask : Ask)
    → refusal (machine_state rows before) (command.Request agent ask) ≡ None → ask.steal ≡ false
    → (ask.if_available && not (available (machine_state rows before)
    (new_request (machine_state rows before) agent ask))) ≡ false → before.changes ≡ []
    → enqueued ≡ with_asked before agent ask → Processed enqueued after
    → Gives (machine_state rows before) (command.Request agent ask) (machine_state rows after)
    (reply.Request before.next) after.changes
plain_asked rows before enqueued after agent ask accepted plain free none is p =
    let s = machine_state rows before in
    let h = ap (λ (b : Board). held_of b.entries) is ∙ held_more before.entries before.next (request_for agent ask) refl
    in
    let q = ap (λ (b : Board). pending_of b.entries) is ∙ pending_more before.entries before.next
    (request_for agent ask) refl in
    let told = ap (λ (b : Board). b.changes) is ∙ none in
    let names = ap (λ (b : Board). b.names) is in
    let next = ap (λ (b : Board). b.next) is in
    rw (p.names, names, p.next, next) (plain_gives s agent ask _ accepted plain free
    (p.lists ∙ rw (h, q, told, names) refl))

-- ---- a request that steals

-- the lists once it came, and the locks of its name ended
pub record Ousted (rows : AgentRows) (before ousted : Board) (agent : ℕ) (ask : Ask) : Type 0 where
  pub held : held_of ousted.entries ≡ filter (λ lock. not (bytes_eq lock.name ask.name)) (held_of before.entries)
  pub pending : pending_of ousted.entries ≡ pending_of before.entries
      ++ new_request (machine_state rows before) agent ask ∷ []
  pub gone : locks ask.name (held_of ousted.entries) ≡ []
  pub waits : WaitsAlone before.next ask.name (pending_of ousted.entries)
  pub told : ousted.changes ≡ lock_ends Stolen (locks ask.name (held_of before.entries))
  pub names : ousted.names ≡ with_name ask.name before.names
  pub next : ousted.next ≡ before.next + 1

pub ousted_is : (rows : AgentRows) (before enqueued ousted : Board) (agent : ℕ) (ask : Ask)
    → refusal (machine_state rows before) (command.Request agent ask) ≡ None → ask.steal ≡ true → before.changes ≡ []
    → AllByRecursion (λ (e : Entry). e.0 < before.next) before.entries
    → enqueued ≡ with_asked before agent ask → ousted ≡ record enqueued {
      entries =
          filter (no_lock_on ask.name) enqueued.entries;
      changes = enqueued.changes
          ++ lock_ends Stolen (locks ask.name (held_of enqueued.entries));
    } → Ousted rows before ousted agent ask
ousted_is rows before enqueued ousted agent ask accepted steals none below is left =
    let s = machine_state rows before in
    let r = new_request s agent ask in
    let h = ap (λ (b : Board). held_of b.entries) is ∙ held_more before.entries before.next (request_for agent ask) refl
    in
    let q = ap (λ (b : Board). pending_of b.entries) is ∙ pending_more before.entries before.next
    (request_for agent ask) refl in
    let named : HeldRow → Bool = λ lock. bytes_eq lock.name ask.name in
    let held = ap (λ (b : Board). held_of b.entries) left ∙ held_within named enqueued.entries
    ∙ ap (filter (λ lock. not (named lock))) h in
    let pending = ap (λ (b : Board). pending_of b.entries) left ∙ pending_beside named enqueued.entries ∙ q in
    record {
      held = held;
      pending = pending;
      gone = ap (locks ask.name) held ∙ locks_own ask.name (held_of before.entries);
      waits = record {
        row = r;
        only = ap (filter (λ (request : PendingRow). request.number == before.next)) pending
            ∙ (last_waits before.entries r below).0;
        named = refl;
        mode = steal_exclusive s agent ask accepted steals;
      };
      told = ap (λ (b : Board). b.changes) left ∙ ap (λ cs. cs
          ++ lock_ends Stolen (locks ask.name (held_of enqueued.entries))) (ap (λ (b : Board). b.changes) is ∙ none)
          ∙ ap (λ l. lock_ends Stolen (locks ask.name l)) h;
      names = ap (λ (b : Board). b.names) left ∙ ap (λ (b : Board). b.names) is;
      next = ap (λ (b : Board). b.next) left ∙ ap (λ (b : Board). b.next) is;
    }

pub steal_asked : (rows : AgentRows) (before ousted after_seize after : Board) (agent : ℕ) (ask : Ask)
    → refusal (machine_state rows before) (command.Request agent ask) ≡ None → ask.steal ≡ true
    → IsQuiet (held_of before.entries) (pending_of before.entries)
    → AllByRecursion (λ (e : Entry). e.0 < before.next) before.entries → Ousted rows before ousted agent ask
    → held_of after_seize.entries ≡ held_of ousted.entries ++ map granted_lock
    (filter (λ (request : PendingRow). request.number == before.next) (pending_of ousted.entries))
    → pending_of after_seize.entries ≡ filter (λ (request : PendingRow). not (request.number == before.next))
    (pending_of ousted.entries)
    → after_seize.changes ≡ ousted.changes ++ record { id = before.next; phase = Granted } ∷ []
    → after_seize.names ≡ ousted.names → after_seize.next ≡ ousted.next → Processed after_seize after
    → Gives (machine_state rows before) (command.Request agent ask) (machine_state rows after)
    (reply.Request before.next) after.changes
steal_asked rows before ousted after_seize after agent ask accepted steals quiet below o held pending told names next
    p =
    let s = machine_state rows before in
    let r = new_request s agent ask in
    let h = held ∙ ap (λ l. l ++ map granted_lock (filter (λ (request : PendingRow). request.number == before.next)
    (pending_of ousted.entries))) o.held ∙ ap (λ l. filter (λ lock. not (bytes_eq lock.name ask.name)) s.held
    ++ map granted_lock l) (ap (filter (λ (request : PendingRow). request.number == before.next)) o.pending
    ∙ (last_waits before.entries r below).0) in
    let q = pending ∙ ap (filter (λ (request : PendingRow). not (request.number == before.next))) o.pending
    ∙ (last_waits before.entries r below).1 in
    let c = told ∙ ap (λ (cs : List Change). cs ++ record { id = before.next; phase = Granted } ∷ []) o.told in
    let ns = names ∙ o.names in
    let n = next ∙ o.next in
    rw (p.names, ns, p.next, n) (steal_gives s agent ask _ accepted steals (steal_exclusive s agent ask accepted steals)
    quiet (p.lists ∙ rw (h, q, c, ns) refl))
