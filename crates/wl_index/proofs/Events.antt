-- The machine's steps, where all queues were processed.
use Rattle.std.proofs.Common.{◌≡◌, ℕ, true, false, List, [], ◌∷◌, ◌++◌, refl}
use Rattle.std.specs.Prelude.{filter, not, ◌&&◌, None}
use Rattle.wl_types.specs.declared.phases.Change.{Change}
use Rattle.wl_types.specs.declared.phases.Phase.TheVariants.{Unavailable}
use Rattle.wl_machine.specs.declared.command.Command.TheVariants as command
use Rattle.wl_machine.specs.declared.command.Reply.{Reply}
use Rattle.wl_machine.specs.declared.command.Reply.TheVariants as reply
use Rattle.wl_types.specs.declared.ask.Ask.{Ask}
use Rattle.wl_machine.specs.Refusals.{refusal}
use Rattle.wl_machine.specs.State.{State}
use Rattle.wl_machine.specs.Grants.{Lists, lists_of, process_queues, in_use}
use Rattle.wl_machine.specs.Step.{after_processing, Gives, available, new_request, enqueue, with_number_used, with_name}

-- the state after its queues were processed
abbrev pub with_lists : State → Lists → State
with_lists s lists = record s {
  names = filter (in_use lists.held lists.pending) s.names;
  held = lists.held;
  pending = lists.pending;
}

pub processed_is : (s : State) (ends : List Change) (reply : Reply) (lists : Lists)
    → lists ≡ process_queues (lists_of s.held s.pending ends) s.names
    → after_processing s ends reply ≡ record { state = with_lists s lists; reply = reply; changes = lists.changes }
processed_is s ends reply lists is = rw is refl

-- a request that comes to the end of its queue
pub plain_gives : (s : State) (agent : ℕ) (ask : Ask) (lists : Lists) → refusal s (command.Request agent ask) ≡ None
    → ask.steal ≡ false → (ask.if_available && not (available s (new_request s agent ask))) ≡ false
    → lists ≡ process_queues (lists_of s.held (s.pending ++ new_request s agent ask ∷ []) [])
    (with_name ask.name s.names)
    → Gives s (command.Request agent ask) (with_lists (enqueue s (new_request s agent ask)) lists)
    (reply.Request s.next.request) lists.changes
plain_gives s agent ask lists accepted plain free is =
    rw (accepted, plain, free) (processed_is (enqueue s (new_request s agent ask)) [] (reply.Request s.next.request)
    lists is)

-- one that is not available
pub unavailable_gives : (s : State) (agent : ℕ) (ask : Ask) → refusal s (command.Request agent ask) ≡ None
    → ask.steal ≡ false → (ask.if_available && not (available s (new_request s agent ask))) ≡ true
    → Gives s (command.Request agent ask) (with_number_used s) (reply.Request s.next.request)
    (record { id = s.next.request; phase = Unavailable } ∷ [])
unavailable_gives s agent ask accepted plain busy = rw (accepted, plain, busy) refl
