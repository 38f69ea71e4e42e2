use Rattle.std.proofs.Common.{refl, Some}
use Rattle.wl_machine.specs.declared.command.Command.TheVariants as command
use Rattle.wl_codec.specs.declared.message.Body.TheVariants as body
use Rattle.wl_world.proofs.Counted.{newest}
use Rattle.wl_world.proofs.Entries.{entry, entry_handed_on, no_entry, no_more, query_entry}
use Rattle.wl_world.proofs.Operations.{accepted, handed_on, or_memory, queried, refused}
use Rattle.wl_world.proofs.steps.operate.Goals as goal

pub returns-in_ok-new_signal-in-Signal-clause-done : goal.returns-in_ok-new_signal-in-Signal-clause-done
returns-in_ok-new_signal-in-Signal-clause-done g c = rw c.in-Signal.is
    (accepted _ _ body.Signal _ _ _ _ c.in_ok-new_signal-in-Signal.ensures.made)

pub returns-in_err-new_signal-in-Signal-clause-done : goal.returns-in_err-new_signal-in-Signal-clause-done
returns-in_err-new_signal-in-Signal-clause-done g c =
    rw c.in-Signal.is (handed_on _ _ c.args.agent body.Signal _ c.from_residual.result
    c.in_err-new_signal-in-Signal.field-0.0 c.from_residual.ensures.1
    (refused _ c.args.agent body.Signal
    (command.NewSignal c.args.agent) _ _ c.in_err-new_signal-in-Signal.ensures.refused
    c.in_err-new_signal-in-Signal.ensures.unchanged))

pub returns-in_ok-request-in-Request-clause-done : goal.returns-in_ok-request-in-Request-clause-done
returns-in_ok-request-in-Request-clause-done g c = rw c.in-Request.is
    (accepted _ _ (body.Request _) _ _ _ _ c.in_ok-request-in-Request.ensures.requested)

pub returns-in_err-request-in-Request-clause-done : goal.returns-in_err-request-in-Request-clause-done
returns-in_err-request-in-Request-clause-done g c =
    rw c.in-Request.is (handed_on _ _ c.args.agent (body.Request c.in-Request.ask) _
    c.from_residual-in_err-request-in-Request.result c.in_err-request-in-Request.field-0.0
    c.from_residual-in_err-request-in-Request.ensures.1 (refused _ c.args.agent (body.Request c.in-Request.ask)
    (command.Request c.args.agent c.in-Request.ask) _ _ c.in_err-request-in-Request.ensures.refused
    c.in_err-request-in-Request.ensures.unchanged))

pub returns-in_ok-abort-in-Abort-clause-done : goal.returns-in_ok-abort-in-Abort-clause-done
returns-in_ok-abort-in-Abort-clause-done g c = rw c.in-Abort.is
    (accepted _ _ (body.Abort _ _) _ _ _ _ c.in_ok-abort-in-Abort.ensures.aborted)

pub returns-in_err-abort-in-Abort-clause-done : goal.returns-in_err-abort-in-Abort-clause-done
returns-in_err-abort-in-Abort-clause-done g c =
    rw c.in-Abort.is (handed_on _ _ c.args.agent (body.Abort c.in-Abort.signal c.in-Abort.reason) _
    c.from_residual-in_err-abort-in-Abort.result c.in_err-abort-in-Abort.field-0.0
    c.from_residual-in_err-abort-in-Abort.ensures.1 (refused _ c.args.agent
    (body.Abort c.in-Abort.signal c.in-Abort.reason) (command.Abort c.args.agent c.in-Abort.signal c.in-Abort.reason)
    _ _ (or_memory _ _ c.in_err-abort-in-Abort.ensures.refused) c.in_err-abort-in-Abort.ensures.unchanged))

pub returns-in_ok-set_active-in-Active-clause-done : goal.returns-in_ok-set_active-in-Active-clause-done
returns-in_ok-set_active-in-Active-clause-done g c = rw c.in-Active.is
    (accepted _ _ (body.Active _) _ _ _ _ c.in_ok-set_active-in-Active.ensures.done)

pub returns-in_err-set_active-in-Active-clause-done : goal.returns-in_err-set_active-in-Active-clause-done
returns-in_err-set_active-in-Active-clause-done g c =
    rw c.in-Active.is (handed_on _ _ c.args.agent (body.Active c.in-Active.active) _
    c.from_residual-in_err-set_active-in-Active.result c.in_err-set_active-in-Active.field-0.0
    c.from_residual-in_err-set_active-in-Active.ensures.1
    (refused _ c.args.agent (body.Active c.in-Active.active)
    (command.SetActive c.args.agent c.in-Active.active) _ _ c.in_err-set_active-in-Active.ensures.refused
    c.in_err-set_active-in-Active.ensures.unchanged))

pub returns-in_ok-terminate-in-Close-clause-done : goal.returns-in_ok-terminate-in-Close-clause-done
returns-in_ok-terminate-in-Close-clause-done g c = rw c.in-Close.is
    (accepted _ _ body.Close _ _ _ _ c.in_ok-terminate-in-Close.ensures.ended)

pub returns-in_err-terminate-in-Close-clause-done : goal.returns-in_err-terminate-in-Close-clause-done
returns-in_err-terminate-in-Close-clause-done g c =
    rw c.in-Close.is (handed_on _ _ c.args.agent body.Close _ c.from_residual-in_err-terminate-in-Close.result
    c.in_err-terminate-in-Close.field-0.0 c.from_residual-in_err-terminate-in-Close.ensures.1
    (refused _ c.args.agent body.Close (command.Terminate c.args.agent) _ _
    (or_memory _ _ c.in_err-terminate-in-Close.ensures.refused) c.in_err-terminate-in-Close.ensures.unchanged))

pub returns-in_ok-request-in-Request-clause-newest : goal.returns-in_ok-request-in-Request-clause-newest
returns-in_ok-request-in-Request-clause-newest g c = newest (g.C.LockCore.state c.args.core.now) _
    (command.Request c.args.agent c.in-Request.ask) _ _ c.in_ok-request-in-Request.ensures.requested

pub returns-in-Release-clause-done : goal.returns-in-Release-clause-done
returns-in-Release-clause-done g c = rw c.in-Release.is
    (accepted _ _ (body.Release _) _ _ _ _ c.release.ensures.released)

pub returns-in_ok-snapshot-in-Query-clause-done : goal.returns-in_ok-snapshot-in-Query-clause-done
returns-in_ok-snapshot-in-Query-clause-done g c = rw c.in-Query.is
    (queried _ _ _ c.in_ok-snapshot-in-Query.ensures.seen)

pub returns-in_err-snapshot-in-Query-clause-done : goal.returns-in_err-snapshot-in-Query-clause-done
returns-in_err-snapshot-in-Query-clause-done g c =
    rw c.in-Query.is (handed_on _ _ c.args.agent body.Query _ c.from_residual-in_err-snapshot-in-Query.result
    c.in_err-snapshot-in-Query.field-0.0 c.from_residual-in_err-snapshot-in-Query.ensures.1
    (refused _ c.args.agent body.Query
    (command.Query c.args.agent) _ _ c.in_err-snapshot-in-Query.ensures.refused refl))

pub returns-in-Enter-clause-done : goal.returns-in-Enter-clause-done
returns-in-Enter-clause-done g c = rw c.in-Enter.is (λ requests. refl)

pub returns-in-Poll-clause-done : goal.returns-in-Poll-clause-done
returns-in-Poll-clause-done g c = rw c.in-Poll.is (λ requests. refl)

pub returns-in_ok-new_signal-in-Signal-clause-entries : goal.returns-in_ok-new_signal-in-Signal-clause-entries
returns-in_ok-new_signal-in-Signal-clause-entries g c = rw c.in-Signal.is
    (entry (g.C.LockCore.state c.args.core.now)
    (command.NewSignal c.args.agent) _ _ _ _ _ c.in_ok-new_signal-in-Signal.ensures.made
    c.in_ok-new_signal-in-Signal.ensures.recorded)

pub returns-in_err-new_signal-in-Signal-clause-entries : goal.returns-in_err-new_signal-in-Signal-clause-entries
returns-in_err-new_signal-in-Signal-clause-entries g c =
    rw c.in-Signal.is (entry_handed_on (g.C.LockCore.state c.args.core.now)
    (Some (command.NewSignal c.args.agent)) _ _ c.from_residual.result c.in_err-new_signal-in-Signal.field-0.0
    c.from_residual.ensures.1
    (no_entry (g.C.LockCore.state c.args.core.now)
    (command.NewSignal c.args.agent) _ _ _ c.in_err-new_signal-in-Signal.ensures.refused
    c.in_err-new_signal-in-Signal.ensures.not_recorded))

pub returns-in_ok-request-in-Request-clause-entries : goal.returns-in_ok-request-in-Request-clause-entries
returns-in_ok-request-in-Request-clause-entries g c = rw c.in-Request.is
    (entry (g.C.LockCore.state c.args.core.now)
    (command.Request c.args.agent c.in-Request.ask) _ _ _ _ _ c.in_ok-request-in-Request.ensures.requested
    c.in_ok-request-in-Request.ensures.recorded)

pub returns-in_err-request-in-Request-clause-entries : goal.returns-in_err-request-in-Request-clause-entries
returns-in_err-request-in-Request-clause-entries g c =
    rw c.in-Request.is (entry_handed_on (g.C.LockCore.state c.args.core.now)
    (Some (command.Request c.args.agent c.in-Request.ask)) _ _ c.from_residual-in_err-request-in-Request.result
    c.in_err-request-in-Request.field-0.0 c.from_residual-in_err-request-in-Request.ensures.1
    (no_entry (g.C.LockCore.state c.args.core.now)
    (command.Request c.args.agent c.in-Request.ask) _ _ _ c.in_err-request-in-Request.ensures.refused
    c.in_err-request-in-Request.ensures.not_recorded))

pub returns-in_ok-abort-in-Abort-clause-entries : goal.returns-in_ok-abort-in-Abort-clause-entries
returns-in_ok-abort-in-Abort-clause-entries g c = rw c.in-Abort.is
    (entry (g.C.LockCore.state c.args.core.now)
    (command.Abort c.args.agent c.in-Abort.signal c.in-Abort.reason) _ _ _ _ _ c.in_ok-abort-in-Abort.ensures.aborted
    c.in_ok-abort-in-Abort.ensures.recorded)

pub returns-in_err-abort-in-Abort-clause-entries : goal.returns-in_err-abort-in-Abort-clause-entries
returns-in_err-abort-in-Abort-clause-entries g c =
    rw c.in-Abort.is (entry_handed_on (g.C.LockCore.state c.args.core.now)
    (Some (command.Abort c.args.agent c.in-Abort.signal c.in-Abort.reason)) _ _
    c.from_residual-in_err-abort-in-Abort.result c.in_err-abort-in-Abort.field-0.0
    c.from_residual-in_err-abort-in-Abort.ensures.1
    (no_entry (g.C.LockCore.state c.args.core.now)
    (command.Abort c.args.agent c.in-Abort.signal c.in-Abort.reason) _ _ _
    (or_memory _ _ c.in_err-abort-in-Abort.ensures.refused) c.in_err-abort-in-Abort.ensures.not_recorded))

pub returns-in_ok-set_active-in-Active-clause-entries : goal.returns-in_ok-set_active-in-Active-clause-entries
returns-in_ok-set_active-in-Active-clause-entries g c = rw c.in-Active.is
    (entry (g.C.LockCore.state c.args.core.now)
    (command.SetActive c.args.agent c.in-Active.active) _ _ _ _ _ c.in_ok-set_active-in-Active.ensures.done
    c.in_ok-set_active-in-Active.ensures.recorded)

pub returns-in_err-set_active-in-Active-clause-entries : goal.returns-in_err-set_active-in-Active-clause-entries
returns-in_err-set_active-in-Active-clause-entries g c =
    rw c.in-Active.is (entry_handed_on (g.C.LockCore.state c.args.core.now)
    (Some (command.SetActive c.args.agent c.in-Active.active)) _ _ c.from_residual-in_err-set_active-in-Active.result
    c.in_err-set_active-in-Active.field-0.0 c.from_residual-in_err-set_active-in-Active.ensures.1
    (no_entry (g.C.LockCore.state c.args.core.now)
    (command.SetActive c.args.agent c.in-Active.active) _ _ _ c.in_err-set_active-in-Active.ensures.refused
    c.in_err-set_active-in-Active.ensures.not_recorded))

pub returns-in_ok-terminate-in-Close-clause-entries : goal.returns-in_ok-terminate-in-Close-clause-entries
returns-in_ok-terminate-in-Close-clause-entries g c = rw c.in-Close.is
    (entry (g.C.LockCore.state c.args.core.now)
    (command.Terminate c.args.agent) _ _ _ _ _ c.in_ok-terminate-in-Close.ensures.ended
    c.in_ok-terminate-in-Close.ensures.recorded)

pub returns-in_err-terminate-in-Close-clause-entries : goal.returns-in_err-terminate-in-Close-clause-entries
returns-in_err-terminate-in-Close-clause-entries g c =
    rw c.in-Close.is (entry_handed_on (g.C.LockCore.state c.args.core.now)
    (Some (command.Terminate c.args.agent)) _ _ c.from_residual-in_err-terminate-in-Close.result
    c.in_err-terminate-in-Close.field-0.0 c.from_residual-in_err-terminate-in-Close.ensures.1
    (no_entry (g.C.LockCore.state c.args.core.now) (command.Terminate c.args.agent) _ _ _
    (or_memory _ _ c.in_err-terminate-in-Close.ensures.refused) c.in_err-terminate-in-Close.ensures.not_recorded))

pub returns-in-Release-clause-entries : goal.returns-in-Release-clause-entries
returns-in-Release-clause-entries g c = rw c.in-Release.is
    (entry (g.C.LockCore.state c.args.core.now)
    (command.Release c.args.agent c.in-Release.id) _ _ _ _ _ c.release.ensures.released c.release.ensures.recorded)

pub returns-in_ok-snapshot-in-Query-clause-entries : goal.returns-in_ok-snapshot-in-Query-clause-entries
returns-in_ok-snapshot-in-Query-clause-entries g c = rw c.in-Query.is
    (query_entry (g.C.LockCore.state c.args.core.now)
    (command.Query c.args.agent) _ _ c.in_ok-snapshot-in-Query.ensures.seen)

pub returns-in_err-snapshot-in-Query-clause-entries : goal.returns-in_err-snapshot-in-Query-clause-entries
returns-in_err-snapshot-in-Query-clause-entries g c =
    rw c.in-Query.is (entry_handed_on (g.C.LockCore.state c.args.core.now)
    (Some (command.Query c.args.agent)) _ _ c.from_residual-in_err-snapshot-in-Query.result
    c.in_err-snapshot-in-Query.field-0.0 c.from_residual-in_err-snapshot-in-Query.ensures.1
    (no_entry (g.C.LockCore.state c.args.core.now)
    (command.Query c.args.agent) _ _ _ c.in_err-snapshot-in-Query.ensures.refused refl))

pub returns-in-Enter-clause-entries : goal.returns-in-Enter-clause-entries
returns-in-Enter-clause-entries g c = rw c.in-Enter.is (no_more _)

pub returns-in-Poll-clause-entries : goal.returns-in-Poll-clause-entries
returns-in-Poll-clause-entries g c = rw c.in-Poll.is (no_more _)
