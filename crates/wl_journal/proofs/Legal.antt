-- Histories that grow.
use Rattle.std.proofs.Common.{◌≡◌, ℕ, ◌+◌, ◌-◌, ◌≤◌, length-append, Bool, true, false, cond, List, [], ◌∷◌, ◌++◌}
use Rattle.std.proofs.Common.{length, map, refl, arith, ap, sym, ◌∙◌, append-nil}
use Rattle.std.specs.Prelude.{not, ◌&&◌, if◌then◌else◌, Option, Some, None, is_some}
use Rattle.std.specs.List.{list_any}
use Rattle.std.proofs.lemmas.List.{map-append}
use Rattle.wl_types.specs.declared.phases.Change.{Change}
use Rattle.wl_types.specs.declared.refusal.Refusal.{Refusal}
use Rattle.wl_machine.specs.declared.command.Command.{Command}
use Rattle.wl_machine.specs.declared.command.Command.TheVariants.{Enter, SetActive, NewSignal, Request, Take, Release}
use Rattle.wl_machine.specs.declared.command.Command.TheVariants.{Abort, Terminate, Query}
use Rattle.wl_machine.specs.declared.command.Reply.{Reply}
use Rattle.wl_machine.specs.State.{State}
use Rattle.wl_machine.specs.Refusals.{refusal, reason_in}
use Rattle.wl_machine.specs.Step.{StepResult, Gives, step, accepted, unless_refused, is_untaken, is_lock_of, available}
use Rattle.wl_machine.specs.Step.{new_request, stealing_request, plain_request, unavailable, replies_of, state_after}
use Rattle.wl_core.proofs.Answering.{state_after-append}
use Rattle.wl_journal.specs.declared.entry.Entry.{Entry}
use Rattle.wl_journal.specs.inner.Books.{IsKept}
use Rattle.wl_journal.specs.inner.Room.{entries_owed}
use Rattle.wl_journal.proofs.Growth.{growth, growth_is_enough}
use Rattle.wl_machine.specs.Recorded.{is_recorded}
use Rattle.wl_journal.specs.History.{IsLegal, state_of, commands_of, recorded}

pub replies_of-append : (xs ys : List Command) (s : State) → replies_of (xs ++ ys) s
    ≡ replies_of xs s ++ replies_of ys (state_after xs s)
replies_of-append [] ys s = refl
replies_of-append (x ∷ xs) ys s = ap (λ (rest : List Reply). (step s x).reply ∷ rest)
    (replies_of-append xs ys (step s x).state)

both_more : (xs ys : List Reply) (x y : Reply) → xs ≡ ys → x ≡ y → xs ++ x ∷ [] ≡ ys ++ y ∷ []
both_more xs ys x y all last = rw (all, last) refl

-- one more entry, whose reply is the machine's
pub legal_more : (base : State) (entries : List Entry) (command : Command) (reply : Reply) → IsLegal base entries
    → reply ≡ (step (state_of base entries) command).reply
    → IsLegal base (entries ++ record { command = command; reply = reply } ∷ [])
legal_more base entries command reply legal is =
    map-append (λ (e : Entry). e.reply) entries (record { command = command; reply = reply } ∷ [])
    ∙ (both_more (map (λ (e : Entry). e.reply) entries) (replies_of (commands_of entries) base) reply
    (step (state_of base entries) command).reply legal is
    ∙ (sym (replies_of-append (commands_of entries) (command ∷ []) base)
    ∙ ap (λ (cs : List Command). replies_of cs base) (sym
    (map-append (λ (e : Entry). e.command) entries (record { command = command; reply = reply } ∷ [])))))

pub leads_more : (base : State) (entries : List Entry) (command : Command) (reply : Reply)
    → state_of base (entries ++ record { command = command; reply = reply } ∷ [])
    ≡ (step (state_of base entries) command).state
leads_more base entries command reply =
    ap (λ (cs : List Command). state_after cs base) (map-append (λ (e : Entry). e.command) entries
    (record { command = command; reply = reply } ∷ []))
    ∙ state_after-append (commands_of entries) (command ∷ []) base

-- what is not recorded changed nothing
pub record StaysUnless (o : StepResult) (s : State) : Type 0 where
  pub stays : is_recorded o.reply ≡ false → o.state ≡ s

if_stays : (b : Bool) (x y : StepResult) (s : State) → StaysUnless x s → StaysUnless y s → StaysUnless (cond b x y) s
if_stays true x y s one two = one
if_stays false x y s one two = two

accepted_stays : (s : State) (command : Command) → StaysUnless (accepted s command) s
accepted_stays s (Enter kind) = record { stays = λ none. absurd (let wrong : true ≡ false = none in cc) }
accepted_stays s (SetActive agent active) = record { stays = λ none. absurd (let wrong : true ≡ false = none in cc) }
accepted_stays s (NewSignal agent) = record { stays = λ none. absurd (let wrong : true ≡ false = none in cc) }
accepted_stays s (Request agent ask) =
    let request = new_request s agent ask in
    if_stays ask.steal (stealing_request s request) (if ask.if_available && not (available s request)
    then unavailable s request else plain_request s request) s
    (record { stays = λ none. absurd (let wrong : true ≡ false = none in cc) })
    (if_stays (ask.if_available && not (available s request)) (unavailable s request) (plain_request s request) s
    (record { stays = λ none. absurd (let wrong : true ≡ false = none in cc) })
    (record { stays = λ none. absurd (let wrong : true ≡ false = none in cc) }))
accepted_stays s (Take id) = if_stays (list_any (is_untaken id) s.held) _ _ s
    (record { stays = λ none. absurd (let wrong : true ≡ false = none in cc) }) (record { stays = λ none. refl })
accepted_stays s (Release agent id) = if_stays (list_any (is_lock_of agent id) s.held) _ _ s
    (record { stays = λ none. absurd (let wrong : true ≡ false = none in cc) }) (record { stays = λ none. refl })
accepted_stays s (Abort agent signal reason) = if_stays (is_some (reason_in s.signals agent signal)) _ _ s
    (record { stays = λ none. refl }) (record { stays = λ none. absurd (let wrong : true ≡ false = none in cc) })
accepted_stays s (Terminate agent) = record { stays = λ none. absurd (let wrong : true ≡ false = none in cc) }
accepted_stays s (Query agent) = record { stays = λ none. refl }

step_stays : (s : State) (command : Command) (o : Option Refusal) → StaysUnless (unless_refused o s command) s
step_stays s command None = accepted_stays s command
step_stays s command (Some refusal) = record { stays = λ none. refl }

pub unrecorded_stays : (s : State) (command : Command) → is_recorded (step s command).reply ≡ false
    → (step s command).state ≡ s
unrecorded_stays s command none = (step_stays s command (refusal s command)).stays none

-- where the command's own entry is not recorded the entries stay, and else they are one more
pub history_more : (base : State) (entries : List Entry) (command : Command) (reply : Reply) (new : State)
    → IsLegal base entries → reply ≡ (step (state_of base entries) command).reply
    → new ≡ (step (state_of base entries) command).state
    → IsLegal base (entries ++ recorded command reply) × (new ≡ state_of base (entries ++ recorded command reply))
history_more base entries command reply new legal is leads = at_flag (is_recorded reply) refl
  where
    at_flag : (b : Bool) → is_recorded reply ≡ b → IsLegal base (entries ++ recorded command reply)
        × (new ≡ state_of base (entries ++ recorded command reply))
    at_flag true said = rw said (
      legal_more base entries command reply legal is,
      leads
          ∙ sym (leads_more base entries command reply),
    )
    at_flag false said =
        let silent : is_recorded (step (state_of base entries) command).reply ≡ false = rw (← is) said in
        rw (said, append-nil entries) (legal, leads ∙ unrecorded_stays (state_of base entries) command silent)

-- the invariant after a command
pub grows : (base s new : State) (entries after : List Entry) (owed owed' room room' handed : ℕ) (command : Command)
    (reply : Reply) (changes : List Change)
    → IsKept base s entries owed room handed → Gives s command new reply changes
    → after ≡ entries ++ recorded command reply
    → growth command + owed ≤ length (recorded command reply) + owed' → length after + owed' ≤ room'
    → IsKept base new after owed' room' handed
grows base s new entries after owed owed' room room' handed command reply changes kept gives more paid roomy =
    let from : s ≡ state_of base entries = kept.leads in
    let is : reply ≡ (step s command).reply = sym (ap (λ (o : StepResult). o.reply) gives) in
    let leads : new ≡ (step s command).state = sym (ap (λ (o : StepResult). o.state) gives) in
    let both = history_more base entries command reply new kept.legal (rw from at is) (rw from at leads) in
    let enough : length (recorded command reply) + entries_owed new
    ≤ growth command + entries_owed s = rw (is, leads) (growth_is_enough s command) in
    let counted = kept.counted in
    record {
      legal = rw more both.0;
      leads = rw more both.1;
      counted = omega (arith, enough, counted, paid);
      roomy = roomy;
      bounded = kept.bounded;
    }

-- a recorded command that grows nothing was owed
pub was_owed : (base s new : State) (entries : List Entry) (owed room handed : ℕ) (command : Command) (reply : Reply)
    (changes : List Change)
    → IsKept base s entries owed room handed → Gives s command new reply changes → growth command ≡ 0
    → is_recorded reply ≡ true → 1 ≤ owed
was_owed base s new entries owed room handed command reply changes kept gives none said =
    let is : (step s command).reply ≡ reply = ap (λ (o : StepResult). o.reply) gives in
    let one : 1 + entries_owed (step s command).state ≤ 0 + entries_owed s =
    rw (is, said, none) at (growth_is_enough s command) in
    let counted = kept.counted in
    omega (arith, one, counted)

-- the invariant after a recorded command that was owed
pub paid : (base s new : State) (entries after : List Entry) (owed room room' handed : ℕ) (command : Command)
    (reply : Reply) (changes : List Change)
    → IsKept base s entries owed room handed → Gives s command new reply changes → growth command ≡ 0
    → is_recorded reply ≡ true
    → after ≡ entries ++ record { command = command; reply = reply } ∷ [] → room' ≡ room
    → IsKept base new after (owed - 1) room' handed
paid base s new entries after owed room room' handed command reply changes kept gives none said more same =
    let one = was_owed base s new entries owed room handed command reply changes kept gives none said in
    let longer = length-append entries (record { command = command; reply = reply } ∷ []) in
    let roomy = kept.roomy in
    let all : after ≡ entries ++ recorded command reply = rw said more in
    let fits : length after + (owed - 1) ≤ room' = rw (more, same, longer) (omega (arith, one, roomy)) in
    let counts : growth command + owed ≤ length (recorded command reply)
    + (owed - 1) = rw (said, none) (omega (arith, one)) in
    grows base s new entries after owed (owed - 1) room room' handed command reply changes kept gives all counts fits

-- the invariant after a recorded command for which room was made
pub grown : (base s new : State) (entries after : List Entry) (owed owed' room room' handed added : ℕ)
    (command : Command) (reply : Reply) (changes : List Change)
    → IsKept base s entries owed room handed → Gives s command new reply changes → growth command ≡ 1 + added
    → is_recorded reply ≡ true
    → after ≡ entries ++ record { command = command; reply = reply } ∷ [] → owed' ≡ owed + added
    → length entries + (owed + growth command) ≤ room' → IsKept base new after owed' room' handed
grown base s new entries after owed owed' room room' handed added command reply changes kept gives some said more owes
    made =
    let longer = length-append entries (record { command = command; reply = reply } ∷ []) in
    let all : after ≡ entries ++ recorded command reply = rw said more in
    let fits : length after + owed' ≤ room' = rw (more, longer, owes) (omega (arith, made, some)) in
    let counts : growth command + owed ≤ length (recorded command reply) + owed' = rw (said, some, owes) (omega arith)
    in
    grows base s new entries after owed owed' room room' handed command reply changes kept gives all counts fits
