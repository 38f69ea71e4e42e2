-- What an indexed core keeps, and the machine's steps that it makes.
use Rattle.std.proofs.Common.{◌≡◌, ◌==◌, ℕ, ◌+◌, ◌≤◌, ◌<◌, Bool, List, [], ◌∷◌, ◌++◌, length, map, refl, ap, subst, sym}
use Rattle.std.proofs.Common.{◌∙◌, arith, true, false}
use Rattle.std.specs.Prelude.{filter, not, ◌&&◌, None, Result, Ok, Err, IfOk, OnOk, OnErr}
use Rattle.std.specs.List.{list_any, AllByRecursion}
use Rattle.std.proofs.lemmas.Bool.Decides.{nat_tests}
use Rattle.std.proofs.lemmas.List.{length-append}
use Rattle.wl_types.specs.declared.ask.Ask.{Ask}
use Rattle.wl_types.specs.declared.answers.TakeAnswer.TheVariants as took
use Rattle.wl_types.specs.declared.memory.Memory.{Memory}
use Rattle.wl_types.specs.declared.phases.Change.{Change}
use Rattle.wl_types.specs.declared.phases.Phase.TheVariants.{Granted, Unavailable}
use Rattle.wl_machine.specs.declared.command.Command.{Command}
use Rattle.wl_machine.specs.declared.command.Command.TheVariants as command
use Rattle.wl_machine.specs.declared.command.Reply.{Reply}
use Rattle.wl_machine.specs.declared.command.Reply.TheVariants as reply
use Rattle.wl_machine.specs.State.{Content, State}
use Rattle.wl_machine.specs.declared.rows.PendingRow.{PendingRow}
use Rattle.wl_machine.specs.Grants.{granted_lock}
use Rattle.wl_machine.specs.Refusals.{refusal}
use Rattle.wl_machine.specs.Step.{Gives, available, is_untaken, new_request, with_taken}
use Rattle.wl_index.specs.declared.request.Owner.{Owner}
use Rattle.wl_index.specs.declared.request.Owner.TheVariants.{Agent}
use Rattle.wl_index.specs.declared.request.Standing.TheVariants.{Holds, Waits}
use Rattle.wl_index.specs.inner.Core.{IsCore, machine_state}
use Rattle.wl_index.specs.inner.Ends.{HasNone, ends_entry, without_ends}
use Rattle.wl_index.specs.inner.Lists.{IsGrouped, SameLists}
use Rattle.wl_index.specs.inner.Locks.{Board, IsQuiet, request_for}
use Rattle.wl_index.specs.inner.AgentRows.{Register, AgentRows}
use Rattle.wl_index.specs.inner.Rows.{Entry, held_of, pending_of, tags_of}
use Rattle.wl_index.proofs.Accepted.{request_accepted}
use Rattle.wl_index.proofs.Asked.{Ousted, plain_asked, steal_asked, with_asked}
use Rattle.wl_index.proofs.Counting.{length-filter-not}
use Rattle.wl_index.proofs.Ended.{Processed}
use Rattle.wl_index.proofs.Events.{unavailable_gives}
use Rattle.wl_index.proofs.Owned.{locks_held, locks_pending, requests_pending}
use Rattle.wl_index.proofs.Rows.{live_count, tags_length}
use Rattle.wl_index.proofs.Tags.{grouped_fewer, grouped_same, none_of}
use Rattle.wl_index.proofs.Taken.{quiet_taken, taken_none}

-- all queues were processed
pub processed_core : (agents : Register) (before after : Board) (room : ℕ)
    → IsQuiet (held_of after.entries) (pending_of after.entries) → tags_of after.entries ≡ tags_of before.entries
    → IsGrouped (tags_of before.entries) agents.members → length before.entries ≤ room → IsCore agents after room
processed_core agents before after room quiet tags grouped fits = record {
  quiet = quiet;
  grouped = rw tags grouped;
  ending_room = subst (λ n. n ≤ room) (sym (tags_length after.entries before.entries tags)) fits;
}

-- ---- an event begins

pub begun_core : (agents : Register) (before begun : Board) (room : ℕ) → begun ≡ record before { changes = [] }
    → IsCore agents before room → IsCore agents begun room
begun_core agents before begun room is core = rw is (record {
  quiet = core.quiet;
  grouped = core.grouped;
  ending_room = core.ending_room;
})

pub begun_gives : (rows : AgentRows) (before begun : Board) (command : Command) (new : State) (reply : Reply)
    (changes : List Change) → begun ≡ record before { changes = [] }
    → Gives (machine_state rows begun) command new reply changes
    → Gives (machine_state rows before) command new reply changes
begun_gives rows before begun command new reply changes is gives =
    subst (λ s. Gives s command new reply changes) (ap (machine_state rows) is) gives

-- what is seen is refused as the machine refuses
pub as_seen : (state : State) (changes : List Change) (v : Content) (command : Command)
    → record { state = state; recent = changes } ≡ v → refusal v.state command ≡ None → refusal state command ≡ None
as_seen state changes v command is accepted = ap (λ (w : Content). refusal w.state command) is ∙ accepted

-- ---- the steps

-- a request that is unavailable uses up a number
pub unavailable_asked : (r : Result ℕ Memory) (v : Content) (rows : AgentRows) (before after : Board) (agent : ℕ)
    (ask : Ask) → record { state = machine_state rows before; recent = before.changes } ≡ v
    → refusal v.state (command.Request agent ask) ≡ None → ask.steal ≡ false
    → (ask.if_available && not (available v.state (new_request v.state agent ask))) ≡ true → v.recent ≡ []
    → IfOk r (λ n. n ≡ before.next) → OnOk r (after ≡ record before {
      next = before.next + 1;
      changes = before.changes ++ record { id = before.next; phase = Unavailable } ∷ [];
    })
    → IfOk r (λ n. Gives v.state (command.Request agent ask) (machine_state rows after) (reply.Request n) after.changes)
unavailable_asked (Ok n) v rows before after agent ask seen accepted plain busy none number is =
    subst (λ (w : Content). refusal w.state (command.Request agent ask) ≡ None
    → (ask.if_available && not (available w.state (new_request w.state agent ask))) ≡ true → w.recent ≡ []
    → Gives w.state (command.Request agent ask) (machine_state rows after) (reply.Request n) after.changes) seen
    (λ a b e. rw (is, e, number) (unavailable_gives (machine_state rows before) agent ask a plain b)) accepted busy none
unavailable_asked (Err e) v rows before after agent ask seen accepted plain busy none number is = tt

-- a request came to the end of its queue, and the queues were processed
pub plain_seen : (v : Content) (rows rows' : AgentRows) (before enqueued after : Board) (agent : ℕ) (ask : Ask) (n : ℕ)
    → record { state = machine_state rows before; recent = before.changes } ≡ v
    → refusal v.state (command.Request agent ask) ≡ None → ask.steal ≡ false
    → (ask.if_available && not (available v.state (new_request v.state agent ask))) ≡ false → v.recent ≡ []
    → enqueued ≡ with_asked before agent ask → Processed enqueued after → rows' ≡ rows → n ≡ before.next
    → Gives v.state (command.Request agent ask) (machine_state rows' after) (reply.Request n) after.changes
plain_seen v rows rows' before enqueued after agent ask n seen accepted plain free none came p same number =
    subst (λ (w : Content). refusal w.state (command.Request agent ask) ≡ None
    → (ask.if_available && not (available w.state (new_request w.state agent ask))) ≡ false → w.recent ≡ []
    → Gives w.state (command.Request agent ask) (machine_state rows' after) (reply.Request n) after.changes) seen
    (λ a b e. rw (same, number) (plain_asked rows before enqueued after agent ask a plain b e came p)) accepted free
    none

-- a request took its name
pub steal_seen : (v : Content) (rows rows' : AgentRows) (before ousted after_seize after : Board) (agent : ℕ)
    (ask : Ask) (n : ℕ) → record { state = machine_state rows before; recent = before.changes } ≡ v
    → refusal v.state (command.Request agent ask) ≡ None → ask.steal ≡ true
    → IsQuiet (held_of before.entries) (pending_of before.entries)
    → AllByRecursion (λ (e : Entry). e.0 < before.next) before.entries → Ousted rows before ousted agent ask
    → held_of after_seize.entries ≡ held_of ousted.entries
    ++ map granted_lock (filter (λ (request : PendingRow). request.number == n) (pending_of ousted.entries))
    → pending_of after_seize.entries ≡ filter (λ (request : PendingRow). not (request.number == n))
    (pending_of ousted.entries) → after_seize.changes ≡ ousted.changes ++ record { id = n; phase = Granted } ∷ []
    → after_seize.names ≡ ousted.names → after_seize.next ≡ ousted.next → Processed after_seize after → rows' ≡ rows
    → n ≡ before.next
    → Gives v.state (command.Request agent ask) (machine_state rows' after) (reply.Request n) after.changes
steal_seen v rows rows' before ousted after_seize after agent ask n seen accepted steals quiet below o held pending told
    names next p same number =
    subst (λ (w : Content). refusal w.state (command.Request agent ask) ≡ None
    → Gives w.state (command.Request agent ask) (machine_state rows' after) (reply.Request n) after.changes) seen
    (λ a. rw (same, number) (steal_asked rows before ousted after_seize after agent ask a steals quiet below o
    (rw number at held) (rw number at pending) (rw number at told) names next p)) accepted

pub refused_core : (r : Result ℕ Memory) (agents : Register) (before after : Board) (room : ℕ)
    → OnOk r (after ≡ record before {
      next = before.next + 1;
      changes = before.changes ++ record { id = before.next; phase = Unavailable } ∷ [];
    }) → OnErr r (after ≡ before)
    → IsCore agents before room → IsCore agents after room
refused_core (Ok n) agents before after room is same core = rw is
    (record { quiet = core.quiet; grouped = core.grouped; ending_room = core.ending_room })
refused_core (Err e) agents before after room is same core = rw same core

-- a lock is taken
pub taken_core : (agents : Register) (before after : Board) (id room : ℕ) → IsCore agents before room
    → held_of after.entries ≡ map (with_taken id) (held_of before.entries)
    → pending_of after.entries ≡ pending_of before.entries → tags_of after.entries ≡ tags_of before.entries
    → IsCore agents after room
taken_core agents before after id room is held pending tags =
    processed_core agents before after room (rw (held, pending) (quiet_taken id _ _ is.quiet)) tags is.grouped
    is.ending_room

pub untaken_none : (rows : AgentRows) (before after : Board) (id : ℕ) → before.changes ≡ []
    → list_any (is_untaken id) (held_of before.entries) ≡ false
    → held_of after.entries ≡ map (with_taken id) (held_of before.entries)
    → pending_of after.entries ≡ pending_of before.entries → after.next ≡ before.next → after.names ≡ before.names
    → after.changes ≡ before.changes → Gives (machine_state rows before) (command.Take id) (machine_state rows after)
    (reply.Took took.NotGranted) after.changes
untaken_none rows before after id none absent held pending next names changes =
    rw (held, taken_none id (held_of before.entries) absent, pending, next, names, changes, none, absent) refl

-- ---- lists, requests and locks change

fewer_left : (p : Entry → Bool) (es : List Entry) → length (filter p es) ≤ length es
fewer_left p es = let both = length-filter-not p es in omega (arith, both)

-- a request came, and the queues were processed
pub asked_core : (agents : Register) (before enqueued after : Board) (agent : ℕ) (ask : Ask) (room : ℕ)
    → enqueued ≡ with_asked before agent ask → length before.entries + 1 ≤ room
    → IsGrouped (tags_of enqueued.entries) agents.members → IsQuiet (held_of after.entries) (pending_of after.entries)
    → tags_of after.entries ≡ tags_of enqueued.entries → IsCore agents after room
asked_core agents before enqueued after agent ask room is fits grouped quiet tags =
    let more = ap (λ (b : Board). length b.entries) is ∙ length-append before.entries
    ((before.next, request_for agent ask) ∷ []) in
    processed_core agents enqueued after room quiet tags grouped (omega (arith, more, fits))

-- a request came, and locks ended for it
pub ousted_core : (agents : Register) (before enqueued ousted after : Board) (p : Entry → Bool) (agent : ℕ) (ask : Ask)
    (room : ℕ) → enqueued ≡ with_asked before agent ask → ousted.entries ≡ filter p enqueued.entries
    → length before.entries + 1 ≤ room → IsGrouped (tags_of enqueued.entries) agents.members
    → IsQuiet (held_of after.entries) (pending_of after.entries) → tags_of after.entries ≡ tags_of ousted.entries
    → IsCore agents after room
ousted_core agents before enqueued ousted after p agent ask room is left fits grouped quiet tags =
    let more = ap (λ (b : Board). length b.entries) is ∙ length-append before.entries
    ((before.next, request_for agent ask) ∷ []) in
    let fewer = fewer_left p enqueued.entries in
    let all = ap length left in
    processed_core agents ousted after room quiet tags (rw left
    (grouped_fewer p enqueued.entries agents.members grouped)) (omega (arith, more, fewer, all, fits))

-- some have ended, and the queues were processed
pub fewer_core : (agents : Register) (before ended after : Board) (p : Entry → Bool) (room : ℕ)
    → IsCore agents before room → ended.entries ≡ filter p before.entries
    → IsQuiet (held_of after.entries) (pending_of after.entries) → tags_of after.entries ≡ tags_of ended.entries
    → IsCore agents after room
fewer_core agents before ended after p room is left quiet tags =
    let fewer = fewer_left p before.entries in
    let all = ap length left in
    let fits = is.ending_room in
    processed_core agents ended after room quiet tags (rw left
    (grouped_fewer p before.entries agents.members is.grouped)) (omega (arith, fewer, all, fits))

-- none of what an agent had is left
pub gone : (agent : ℕ) (es : List Entry) → HasNone (Agent agent)
    (without_ends (Agent agent) Holds (without_ends (Agent agent) Waits es))
gone agent es =
    let left = without_ends (Agent agent) Waits es in
    none_of (Agent agent) (without_ends (Agent agent) Holds left) (pending_of es) (held_of left)
    (locks_pending (Agent agent) left ∙ requests_pending (Agent agent) es) (locks_held (Agent agent) left)

-- the lists stay
pub relisted_core : (agents agents' : Register) (board : Board) (room : ℕ) → SameLists agents.members agents'.members
    → IsCore agents board room → IsCore agents' board room
relisted_core agents agents' board room same is = record {
  quiet = is.quiet;
  grouped = grouped_same _ _ _ same is.grouped;
  ending_room = is.ending_room;
}

-- what an owner has ended, its lists changed, and the queues were processed
pub ended_core : (agents agents' : Register) (before ended after : Board) (owner : Owner) (room room' : ℕ)
    → IsCore agents before room → ended.entries ≡ without_ends owner Holds (without_ends owner Waits before.entries)
    → (IsGrouped (tags_of ended.entries) agents.members → IsGrouped (tags_of ended.entries) agents'.members)
    → IsQuiet (held_of after.entries) (pending_of after.entries) → tags_of after.entries ≡ tags_of ended.entries
    → room ≤ room' → IsCore agents' after room'
ended_core agents agents' before ended after owner room room' is left regroup quiet tags wide =
    let waiting = λ (e : Entry). not (ends_entry owner Waits e) in
    let holding = λ (e : Entry). not (ends_entry owner Holds e) in
    let one = fewer_left waiting before.entries in
    let two = fewer_left holding (filter waiting before.entries) in
    let all = ap length left in
    let fits = is.ending_room in
    processed_core agents' ended after room' quiet tags (regroup
    (rw left (grouped_fewer holding (filter waiting before.entries) agents.members
    (grouped_fewer waiting before.entries agents.members is.grouped)))) (omega (arith, one, two, all, fits, wide))

-- there are numbers and requests left for a request that nothing refuses
pub room_for_one : (rows : AgentRows) (board : Board) (agent : ℕ) (ask : Ask)
    → refusal (machine_state rows board) (command.Request agent ask) ≡ None
    → (length board.entries < 65536) × (board.next < 9007199254740992)
room_for_one rows board agent ask accepted =
    let a = request_accepted (machine_state rows board) agent ask accepted in
    let few = a.few in
    let low = a.low in
    let live = live_count board.entries in
    let less : length (held_of board.entries) + length (pending_of board.entries)
    < 65536 = grind (arith, nat_tests, few) in
    (omega (arith, less, live), grind (arith, nat_tests, low))
