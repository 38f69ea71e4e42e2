-- What a core's clauses say of one command, and of a list of them.
use Rattle.std.proofs.Common.{◌≡◌, ℕ, ◌+◌, ◌<◌, false, List, [], ◌∷◌, ◌++◌, length, take, drop, get_or, refl, ap, sym}
use Rattle.std.proofs.Common.{◌∙◌, append_assoc}
use Rattle.std.specs.Prelude.{Option, Some, None}
use Rattle.std.proofs.lemmas.List.{take_more, drop_more}
use Rattle.wl_types.specs.Refusals.{refused_or_memory}
use Rattle.wl_types.specs.declared.phases.Change.{Change}
use Rattle.wl_types.specs.declared.refusal.Refusal.{Refusal}
use Rattle.wl_machine.specs.declared.command.Command.{Command}
use Rattle.wl_machine.specs.declared.command.Reply.{Reply}
use Rattle.wl_machine.specs.declared.command.Reply.TheVariants.{Refused}
use Rattle.wl_machine.specs.State.{State, Content}
use Rattle.wl_machine.specs.Refusals.{refusal}
use Rattle.wl_machine.specs.Step.{StepResult, Gives, step, no_changes, unless_refused, state_after, replies_of}
use Rattle.wl_core.specs.Answers.{Answers, is_memory, is_memory_refusal, recent_after}
use Rattle.wl_core.proofs.Ordinary.{for_memory, ordinary}

abbrev pub content : State → List Change → Content
content state recent = record { state = state; recent = recent }

-- the machine's step
pub gives_answers : (old : Content) (command : Command) (new : State) (reply : Reply) (changes recent : List Change)
    → is_memory reply ≡ false → Gives old.state command new reply changes
    → recent ≡ recent_after command old.recent changes → Answers old command (content new recent) reply
gives_answers old command new reply changes recent other gives told = record {
  reply_is = rw other (sym (ap (λ (o : StepResult). o.reply) gives));
  state_is = rw other (sym (ap (λ (o : StepResult). o.state) gives));
  recent_is = told ∙ rw other (ap (recent_after command old.recent) (sym (ap (λ (o : StepResult). o.changes) gives)));
  last = λ memory. cc;
}

refused_at : (old : Content) (command : Command) (new : State) (recent : List Change) (r : Refusal) (o : Option Refusal)
    → refusal old.state command ≡ o → r ≡ refused_or_memory o → new ≡ old.state
    → recent ≡ recent_after command old.recent [] → Answers old command (content new recent) (Refused r)
refused_at old command new recent r None none is same told = rw is
    (record { reply_is = refl; state_is = same; recent_is = told; last = λ memory. none })
refused_at old command new recent r (Some x) some is same told =
    let stepped : step old.state command ≡ no_changes old.state (Refused x) =
    ap (λ (o : Option Refusal). unless_refused o old.state command) some in
    let named : is_memory_refusal x ≡ false = ap for_memory (sym some) ∙ ordinary old.state command in
    rw is (gives_answers old command new (Refused x) [] recent named (stepped ∙ rw same refl) told)

-- a refusal in its order, or memory
pub refused_answers : (old : Content) (command : Command) (new : State) (recent : List Change) (r : Refusal)
    → r ≡ refused_or_memory (refusal old.state command) → new ≡ old.state
    → recent ≡ recent_after command old.recent [] → Answers old command (content new recent) (Refused r)
refused_answers old command new recent r is same told = refused_at old command new recent r (refusal old.state command)
    refl is same told

-- a refusal of a command that takes no memory
pub only_refused : (old : Content) (command : Command) (new : State) (recent : List Change) (r : Refusal)
    → refusal old.state command ≡ Some r → new ≡ old.state
    → recent ≡ recent_after command old.recent [] → Answers old command (content new recent) (Refused r)
only_refused old command new recent r is same told = refused_at old command new recent r (Some r) is refl same told

-- where memory was not refused, the machine's reply and state
pub answers_reply : (old new : Content) (command : Command) (reply : Reply) → Answers old command new reply
    → is_memory reply ≡ false → reply ≡ (step old.state command).reply
answers_reply old new command reply answers other = rw other at answers.reply_is

pub answers_state : (old new : Content) (command : Command) (reply : Reply) → Answers old command new reply
    → is_memory reply ≡ false → new.state ≡ (step old.state command).state
answers_state old new command reply answers other = rw other at answers.state_is

pub state_after-append : (xs ys : List Command) (s : State)
    → state_after (xs ++ ys) s ≡ state_after ys (state_after xs s)
state_after-append [] ys s = refl
state_after-append (x ∷ xs) ys s = state_after-append xs ys (step s x).state

-- one more command of a list is done
pub state_after_more : (xs : List Command) (i : ℕ) (d : Command) (s : State) → i < length xs
    → state_after (take (i + 1) xs) s ≡ (step (state_after (take i xs) s) (get_or xs i d)).state
state_after_more xs i d s within = ap (λ (ys : List Command). state_after ys s) (take_more xs i d within)
    ∙ state_after-append (take i xs) (get_or xs i d ∷ []) s

pub rest_more : (xs : List Command) (i : ℕ) (d : Command) (s s' all : State) → i < length xs
    → s' ≡ (step s (get_or xs i d)).state → state_after (drop i xs) s ≡ all → state_after (drop (i + 1) xs) s' ≡ all
rest_more xs i d s s' all within stepped rest = rw stepped (rw (drop_more xs i d within) at rest)

pub told_more : (xs : List Command) (i : ℕ) (d : Command) (s s' : State) (told told' all : List Reply) → i < length xs
    → s' ≡ (step s (get_or xs i d)).state → told' ≡ told ++ (step s (get_or xs i d)).reply ∷ []
    → told ++ replies_of (drop i xs) s ≡ all → told' ++ replies_of (drop (i + 1) xs) s' ≡ all
told_more xs i d s s' told told' all within stepped more rest =
    rw (stepped, more) (simp append_assoc (rw (drop_more xs i d within) at rest))
