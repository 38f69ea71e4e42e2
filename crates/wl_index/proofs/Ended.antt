-- The machine's steps where an owner's requests and locks end.
use Rattle.std.proofs.Common.{◌≡◌, ℕ, ◌==◌, ◌++◌, false, List, [], map, refl, ap, ◌∙◌, subst}
use Rattle.std.specs.Prelude.{filter, not, None, is_some}
use Rattle.wl_types.specs.declared.words.Reason.{Reason}
use Rattle.wl_types.specs.declared.words.Reason.TheVariants.{AbortError}
use Rattle.wl_types.specs.declared.phases.Change.{Change}
use Rattle.wl_types.specs.declared.phases.Phase.{Phase}
use Rattle.wl_types.specs.declared.phases.Phase.TheVariants.{Aborted, Released}
use Rattle.wl_types.specs.declared.answers.AbortAnswer.TheVariants as answer
use Rattle.wl_machine.specs.declared.command.Command.TheVariants as command
use Rattle.wl_machine.specs.declared.command.Reply.{Reply}
use Rattle.wl_machine.specs.declared.command.Reply.TheVariants as reply
use Rattle.wl_machine.specs.State.{State}
use Rattle.wl_machine.specs.Refusals.{refusal, reason_in}
use Rattle.wl_machine.specs.Grants.{in_use, lists_of, process_queues}
use Rattle.wl_machine.specs.Step.{Gives, lock_ends, request_ends, after_processing, with_reason}
use Rattle.wl_index.specs.declared.request.Owner.{Owner}
use Rattle.wl_index.specs.declared.request.Owner.TheVariants.{Signal, Agent}
use Rattle.wl_index.specs.declared.request.Standing.TheVariants.{Holds, Waits}
use Rattle.wl_index.specs.inner.Core.{machine_state}
use Rattle.wl_index.specs.inner.Ends.{ends_lock, ends_request, owned_ends, without_ends, without_owned}
use Rattle.wl_index.specs.inner.Locks.{Board}
use Rattle.wl_index.specs.inner.AgentRows.{AgentRows}
use Rattle.wl_index.specs.inner.Rows.{held_of, pending_of}
use Rattle.wl_index.proofs.Events.{processed_is}
use Rattle.wl_index.proofs.Owned.{locks_held, locks_pending, requests_held, requests_pending}

-- what an owner has ended, from this state, and the queues were processed
abbrev pub EndsOwned : Owner → Phase → Phase → State → Reply → State → List Change → Type 0
EndsOwned owner waiting held s reply new changes = after_processing (without_owned owner s)
    (owned_ends owner waiting held s) reply ≡ record { state = new; reply = reply; changes = changes }

-- what processing the queues makes of the locks and requests
pub record Processed (before after : Board) : Type 0 where
  pub lists : lists_of (held_of after.entries) (pending_of after.entries) after.changes
      ≡ process_queues (lists_of (held_of before.entries) (pending_of before.entries) before.changes) before.names
  pub names : after.names ≡ filter (in_use (held_of after.entries) (pending_of after.entries)) before.names
  pub next : after.next ≡ before.next

-- an owner's requests and locks end, and the queues are processed
pub owned_processed : (rows : AgentRows) (before ended after : Board) (owner : Owner) (waiting held : Phase)
    (reply : Reply) → before.changes ≡ []
    → ended ≡ record before {
      entries = without_ends owner Holds (without_ends owner Waits before.entries);
      changes = (before.changes ++ request_ends waiting (filter (ends_request owner) (pending_of before.entries)))
          ++ lock_ends held (filter (ends_lock owner) (held_of before.entries));
    }
    → Processed ended after → EndsOwned owner waiting held (machine_state rows before) reply (machine_state rows after)
    after.changes
owned_processed rows before ended after owner waiting held reply none is p =
    let s = machine_state rows before in
    let left = without_ends owner Waits before.entries in
    let h = ap (λ (b : Board). held_of b.entries) is ∙ locks_held owner left
    ∙ ap (filter (λ lock. not (ends_lock owner lock))) (requests_held owner before.entries) in
    let q = ap (λ (b : Board). pending_of b.entries) is ∙ locks_pending owner left
    ∙ requests_pending owner before.entries in
    let told = ap (λ (b : Board). b.changes) is ∙ ap (λ cs.
    (cs ++ request_ends waiting (filter (ends_request owner) s.pending))
    ++ lock_ends held (filter (ends_lock owner) s.held)) none in
    let names = ap (λ (b : Board). b.names) is in
    let next = ap (λ (b : Board). b.next) is in
    rw (p.names, names, p.next, next) (processed_is (without_owned owner s) (owned_ends owner waiting held s) reply _
    (p.lists ∙ rw (h, q, told, names) refl))

pub abort_gives : (s s1 new : State) (agent signal : ℕ) (reason : Reason) (changes : List Change)
    → refusal s (command.Abort agent signal reason) ≡ None → is_some (reason_in s.signals agent signal) ≡ false
    → s1 ≡ record s { signals = map (with_reason agent signal reason) s.signals }
    → EndsOwned (Signal agent signal) (Aborted reason) (Aborted reason) s1 (reply.Aborted answer.Done) new changes
    → Gives s (command.Abort agent signal reason) new (reply.Aborted answer.Done) changes
abort_gives s s1 new agent signal reason changes accepted fresh is ended =
    rw (accepted, fresh) (subst (λ t. EndsOwned (Signal agent signal) (Aborted reason) (Aborted reason) t
    (reply.Aborted answer.Done) new changes) is ended)

pub terminate_gives : (s s1 new : State) (agent : ℕ) (changes : List Change)
    → refusal s (command.Terminate agent) ≡ None
    → s1 ≡ record s {
      agents = filter (λ row. not (row.number == agent)) s.agents;
      signals = filter (λ row. not (row.agent == agent)) s.signals;
    }
    → EndsOwned (Agent agent) (Aborted AbortError) Released s1 reply.Done new changes
    → Gives s (command.Terminate agent) new reply.Done changes
terminate_gives s s1 new agent changes accepted is ended =
    rw accepted (subst (λ t. EndsOwned (Agent agent) (Aborted AbortError) Released t reply.Done new changes) is ended)
