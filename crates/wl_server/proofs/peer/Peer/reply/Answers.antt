use Rattle.std.proofs.Common.{subst, sym}
use Rattle.std.specs.Prelude.{◌≢◌, All, string_bytes}
use Rattle.wl_types.specs.declared.phases.Phase.TheVariants.{Granted}
use Rattle.wl_session.specs.LastReported.{IsByNumber, Fits}
use Rattle.wl_server.proofs.Answering.{answers}
use Rattle.wl_server.proofs.peer.Peer.reply.Goals as goal
use Rattle.wl_server.specs.Peers.{Answers}

pub returns : goal.returns
returns g c =
    subst (λ old. Answers old c.args.message.now (string_bytes c.in_ok-text.text) c.finish_changed.new.self)
    c.self.view_is
    (answers c.self.inside.session c.args.message.now (string_bytes c.in_ok-text.text) c.finish_changed.new.self
    c.in_ok-reading.reading
    c.plan-id.result c.in_ok-outcome.outcome c.deref.result.now c.in_ok-reading.ensures c.plan-id.ensures
    c.in_ok-outcome.ensures
    (subst IsByNumber (sym c.deref.ensures.value) c.in_ok-observed.ensures.by_number)
    (subst (All (Fits c.in_ok-outcome.outcome c.self.inside.session.last_reported)) (sym c.deref.ensures.value)
    c.in_ok-observed.ensures.fit)
    (subst (All (λ observation. observation.1 ≢ Granted)) (sym c.deref.ensures.value) c.in_ok-observed.ensures.taken)
    c.in_ok-text.ensures.text c.in_ok-text.ensures.ok)
