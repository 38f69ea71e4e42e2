use Rattle.std.proofs.Common.{rules, ◌≡◌, ◌≢◌, ap, sym, ◌+◌, ℕ, inl, Err, arith}
use Rattle.wl_core.proofs.Answering.{answers_reply, answers_state}
use Rattle.wl_journal.specs.declared.auditing.AuditFault.TheVariants.{Illegal}
use Rattle.wl_journal.proofs.First.{legal_less, is_illegal, is_one}
use Rattle.wl_journal.proofs.Replays.{next_legal, first_illegal}
use Rattle.wl_journal.proofs.auditing.replay.Goals as goal

pub returns-then-not-same_reply-clause-illegal : goal.returns-then-not-same_reply-clause-illegal
returns-then-not-same_reply-clause-illegal g c =
    let other : c.apply-reply.result ≢ c.entry-item.result.reply = search rules in
    first_illegal _ _ _ c.loop-entry.entry-index _ c.entry-item.result c.apply-reply.result c.loop-entry-test.true
    c.entry-item.is
    c.loop-entry.invariant.legal c.loop-entry.invariant.leads
    (answers_reply _ _ _ _ c.apply-reply.ensures (sym c.if-lacks_memory.ensures)) other c.loop-entry.invariant.counts

pub returns-then-not-same_reply-clause-where_legal : goal.returns-then-not-same_reply-clause-where_legal
returns-then-not-same_reply-clause-where_legal g c legal = absurd
    (is_illegal _ _ _ (returns-then-not-same_reply-clause-illegal g c) legal)

pub returns-then-not-same_reply-clause-where_illegal : goal.returns-then-not-same_reply-clause-where_illegal
returns-then-not-same_reply-clause-where_illegal g c place first =
    inl (ap (λ (p : ℕ). Err (Illegal p)) (is_one _ _ _ _ (returns-then-not-same_reply-clause-illegal g c) first))

pub returns-clause-where_illegal : goal.returns-clause-where_illegal
returns-clause-where_illegal g c place first =
    let within = first.within in
    let test = c.loop-entry-test.false in
    absurd (first.there (legal_less _ _ (place + 1) c.loop-entry.entry-index (omega (arith, within, test))
    c.loop-entry.invariant.legal))

pub loop-entry-preserved : goal.loop-entry-preserved
loop-entry-preserved g c =
    let same : c.apply-reply.result ≡ c.entry-item.result.reply = search rules in
    let memory = sym c.if-lacks_memory.ensures in
    let both = next_legal _ _ _ _ c.loop-entry.entry-index c.entry-item.result c.apply-reply.result
    c.loop-entry-test.true c.entry-item.is
    c.loop-entry.invariant.legal c.loop-entry.invariant.leads (answers_reply _ _ _ _ c.apply-reply.ensures memory)
    (answers_state _ _ _ _ c.apply-reply.ensures memory) same in
    record { counts = ap (λ n. n + 1) c.loop-entry.invariant.counts; legal = both.0; leads = both.1 }
