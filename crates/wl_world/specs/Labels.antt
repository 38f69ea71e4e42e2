-- What a label's line makes of the realm and the label (own).
use Rattle.std.specs.Prelude.{ℕ, Bool, true, false, [], Option, Some, None, Result, Ok, Err, if◌then◌else◌}
use Rattle.std.specs.Ordering.{is_eq}
use Rattle.wl_types.specs.declared.words.Kind.{Kind}
use Rattle.wl_types.specs.declared.refusal.Refusal.TheVariants as refusal
use Rattle.wl_types.specs.declared.answers.ReleaseAnswer.TheVariants.{NotHeld}
use Rattle.wl_origin.specs.Manager.{manager_cmp}
use Rattle.wl_origin.specs.declared.manager_key.ManagerKey.{ManagerKey}
use Rattle.wl_origin.specs.Opening.{manager_of}
use Rattle.wl_origin.specs.declared.opening.ManagerFault.{ManagerFault}
use Rattle.wl_origin.specs.declared.opening.ManagerFault.TheVariants as fault
use Rattle.wl_machine.specs.Refusals.{is_window, no_storage}
use Rattle.wl_codec.specs.declared.message.Body.{Body}
use Rattle.wl_codec.specs.declared.message.Body.TheVariants as body
use Rattle.wl_codec.specs.declared.reply.Outcome.{Outcome}
use Rattle.wl_codec.specs.declared.reply.Outcome.TheVariants as outcome
use Rattle.wl_codec.specs.declared.reply.WireReply.{WireReply}
use Rattle.wl_session.specs.Step as session
use Rattle.wl_world.specs.declared.label.Label.{Label}
use Rattle.wl_world.specs.declared.label.Label.TheVariants.{Agent, Opaque}
use Rattle.wl_world.specs.Origins.{Origin, Acted, admitted}
use Rattle.wl_world.specs.Agents.{Served, serve_result}

abbrev pub closes : Outcome → Bool
closes (outcome.Client c) = false
closes (outcome.Signal n) = false
closes (outcome.Request n) = false
closes (outcome.Release a) = false
closes (outcome.Abort a) = false
closes (outcome.Active b) = false
closes (outcome.Seen s) = false
closes outcome.Polled = false
closes outcome.Closed = true
closes (outcome.Refused r) = false
closes (outcome.Fault f) = false
closes outcome.NotOpen = false
closes outcome.AlreadyOpen = false
closes outcome.BadUrl = false
closes outcome.BadBucket = false

-- the managers of all buckets of all origins; one that nobody opened is unused
abbrev pub Realm : Type 0
Realm = ManagerKey → Origin

-- another manager at a key
abbrev pub with_origin : Realm → ManagerKey → Origin → Realm
with_origin realm key o = λ other. if is_eq (manager_cmp key other) then o else realm other

-- what a label's line leaves, and its reply; no label is an unopened one
pub record Stepped : Type 0 where
  pub realm : Realm
  pub label : Option Label
  pub reply : WireReply

-- a reply without notices
abbrev pub plain : Option ℕ → Outcome → WireReply
plain id o = record { id = id; notices = []; outcome = o }

abbrev pub after_closing : Outcome → Label → Option Label
after_closing o label = if closes o then None else Some label

-- ---- unopened labels

abbrev pub stays_unopened : Realm → ℕ → Outcome → Stepped
stays_unopened realm id o = record { realm = realm; label = None; reply = plain (Some id) o }

-- an agent that was accepted has its number, and nothing was reported to it
abbrev pub label_of : ManagerKey → Outcome → Option Label
label_of key (outcome.Client (Some n)) = Some (Agent key n (record { is_open = true; last_reported = [] }))
label_of key o = None

abbrev pub at_new_agent : Realm → ℕ → ManagerKey → Acted → Stepped
at_new_agent realm id key a = record {
  realm = with_origin realm key a.origin;
  label = label_of key a.outcome;
  reply = plain (Some id) a.outcome;
}

-- a text gives no third fault
abbrev pub fault_outcome : ManagerFault → Outcome
fault_outcome fault.BadUrl = outcome.BadUrl
fault_outcome fault.BadBucket = outcome.BadBucket
fault_outcome fault.Memory = outcome.BadUrl

abbrev pub opened : Realm → ℕ → Kind → Result (Option ManagerKey) ManagerFault → Stepped
opened realm id kind (Err wrong) = stays_unopened realm id (fault_outcome wrong)
opened realm id kind (Ok None) = record {
  realm = realm;
  label = Some (Opaque kind true);
  reply = plain (Some id) (outcome.Client None);
}
opened realm id kind (Ok (Some key)) = at_new_agent realm id key (admitted (realm key) kind)

abbrev pub from_unopened : Realm → ℕ → Body → Stepped
from_unopened realm id (body.Enter url kind bucket) = opened realm id kind (manager_of url bucket)
from_unopened realm id b = stays_unopened realm id outcome.NotOpen

-- ---- agents of managers

abbrev pub at_key : Realm → ManagerKey → ℕ → Served → Stepped
at_key realm key n x = record {
  realm = with_origin realm key x.origin;
  label = after_closing x.outcome (Agent key n x.session);
  reply = x.reply;
}

abbrev pub from_agent : Realm → ManagerKey → ℕ → session.State → ℕ → Body → Stepped
from_agent realm key n s id b = at_key realm key n (serve_result (realm key) n s id b)

-- ---- agents of opaque origins

abbrev pub opaque_outcome : Kind → Bool → Body → Outcome
opaque_outcome kind active (body.Enter url other bucket) = outcome.AlreadyOpen
opaque_outcome kind active body.Signal = outcome.Refused refusal.Security
opaque_outcome kind active (body.Request ask) = outcome.Refused (no_storage kind active)
opaque_outcome kind active (body.Release n) = outcome.Release NotHeld
opaque_outcome kind active (body.Abort n reason) = outcome.Refused refusal.NoSuchSignal
opaque_outcome kind active (body.Active b) = if is_window kind then outcome.Active b
    else outcome.Refused refusal.NotAWindow
opaque_outcome kind active body.Query = outcome.Refused (no_storage kind active)
opaque_outcome kind active body.Poll = outcome.Polled
opaque_outcome kind active body.Close = outcome.Closed

-- whether it is active then
abbrev pub active_after : Bool → Outcome → Bool
active_after active (outcome.Active b) = b
active_after active o = active

abbrev pub from_opaque : Realm → Kind → Bool → ℕ → Body → Stepped
from_opaque realm kind active id b =
    let o = opaque_outcome kind active b in
    record { realm = realm; label = after_closing o (Opaque kind (active_after active o)); reply = plain (Some id) o }

-- ---- all labels

abbrev pub from_label : Realm → Option Label → ℕ → Body → Stepped
from_label realm None id b = from_unopened realm id b
from_label realm (Some (Agent key n s)) id b = from_agent realm key n s id b
from_label realm (Some (Opaque kind active)) id b = from_opaque realm kind active id b
