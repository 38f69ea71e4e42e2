use Rattle.std.proofs.Common.{◌≡◌, true, subst, sym, ◌∙◌, rules, string_bytes}
use Rattle.wl_server.proofs.Answering.{pushes}
use Rattle.wl_server.proofs.peer.Peer.push_text.Goals as goal
use Rattle.wl_server.specs.Peers.{PushesText}

pub returns-clause-text : goal.returns-clause-text
returns-clause-text c =
    let has : c.has_notices.result ≡ true = search rules in
    subst (λ old. PushesText old (string_bytes c.in_ok-text.text) c.finish_changed.new.self) c.self.view_is
    (pushes c.self.inside.session (string_bytes c.in_ok-text.text) c.finish_changed.new.self
    c.in_ok-observed.observed.items
    c.in_ok-observed.ensures.by_number c.in_ok-observed.ensures.fit c.in_ok-observed.ensures.taken
    (rw c.deref.ensures.value at (sym c.has_notices.ensures ∙ has))
    (rw c.deref-2.ensures.value at c.in_ok-text.ensures.text)
    (rw c.deref-2.ensures.value at c.in_ok-text.ensures.ok))
