-- A replay, entry by entry.
use Rattle.std.proofs.Common.{◌≡◌, ◌≢◌, ℕ, ◌+◌, ◌<◌, List, [], ◌∷◌, ◌++◌, length, map, take, get_or, ap, sym, ◌∙◌}
use Rattle.std.proofs.lemmas.List.{map-append, take_more, append_cancel_left}
use Rattle.wl_machine.specs.declared.command.Command.{Command}
use Rattle.wl_machine.specs.declared.command.Reply.{Reply}
use Rattle.wl_machine.specs.Step.{step, replies_of}
use Rattle.wl_machine.specs.State.{State}
use Rattle.wl_journal.specs.declared.entry.Entry.{Entry}
use Rattle.wl_journal.specs.History.{IsLegal, state_of, commands_of, IsFirstIllegal}
use Rattle.wl_journal.proofs.Legal.{legal_more, leads_more, replies_of-append}

one_more : (entries : List Entry) (i : ℕ) (entry : Entry) → i < length entries → entry ≡ get_or entries i entry
    → take (i + 1) entries ≡ take i entries ++ entry ∷ []
one_more entries i entry within is = take_more entries i entry within
    ∙ ap (λ (e : Entry). take i entries ++ e ∷ []) (sym is)

-- an entry whose reply is the machine's keeps the history legal
pub next_legal : (base s new : State) (entries : List Entry) (i : ℕ) (entry : Entry) (reply : Reply)
    → i < length entries → entry ≡ get_or entries i entry
    → IsLegal base (take i entries) → s ≡ state_of base (take i entries) → reply ≡ (step s entry.command).reply
    → new ≡ (step s entry.command).state → reply ≡ entry.reply
    → IsLegal base (take (i + 1) entries) × (new ≡ state_of base (take (i + 1) entries))
next_legal base s new entries i entry reply within is legal leads reply_is state_is same =
    let said : entry.reply ≡ (step (state_of base (take i entries)) entry.command).reply = sym same
    ∙ (rw leads at reply_is) in
    let led : new ≡ (step (state_of base (take i entries)) entry.command).state = rw leads at state_is in
    rw (one_more entries i entry within is) (
      legal_more base (take i entries) entry.command entry.reply legal said,
      led
          ∙ sym (leads_more base (take i entries) entry.command entry.reply),
    )

-- the last reply of a legal history is the machine's
last_reply : (base : State) (entries : List Entry) (entry : Entry) → IsLegal base entries
    → IsLegal base (entries ++ entry ∷ []) → entry.reply ≡ (step (state_of base entries) entry.command).reply
last_reply base entries entry before all =
    let left : map (λ (e : Entry). e.reply) (entries ++ entry ∷ [])
    ≡ map (λ (e : Entry). e.reply) entries ++ entry.reply
    ∷ [] = map-append (λ (e : Entry). e.reply) entries (entry ∷ []) in
    let right : replies_of (commands_of (entries ++ entry ∷ [])) base
    ≡ replies_of (commands_of entries) base ++ (step (state_of base entries) entry.command).reply ∷ [] =
    ap (λ (cs : List Command). replies_of cs base) (map-append (λ (e : Entry). e.command) entries (entry ∷ []))
    ∙ replies_of-append (commands_of entries) (entry.command ∷ []) base in
    let both : map (λ (e : Entry). e.reply) entries ++ entry.reply ∷ []
    ≡ replies_of (commands_of entries) base ++ (step (state_of base entries) entry.command).reply ∷ [] = sym left
    ∙ (all ∙ right) in
    let shared : replies_of (commands_of entries) base ++ entry.reply ∷ []
    ≡ replies_of (commands_of entries) base ++ (step (state_of base entries) entry.command).reply ∷ [] =
    ap (λ (rs : List Reply). rs ++ entry.reply ∷ []) (sym before) ∙ both in
    let lasts : entry.reply ∷ [] ≡ (step (state_of base entries) entry.command).reply
    ∷ [] = append_cancel_left (replies_of (commands_of entries) base) (entry.reply ∷ [])
    ((step (state_of base entries) entry.command).reply ∷ []) shared in
    cc

-- an entry whose reply is another is the first that is illegal
pub first_illegal : (base s : State) (entries : List Entry) (i place : ℕ) (entry : Entry) (reply : Reply)
    → i < length entries → entry ≡ get_or entries i entry
    → IsLegal base (take i entries) → s ≡ state_of base (take i entries) → reply ≡ (step s entry.command).reply
    → reply ≢ entry.reply → place ≡ i
    → IsFirstIllegal base entries place
first_illegal base s entries i place entry reply within is legal leads reply_is other counted =
    let said : reply ≡ (step (state_of base (take i entries)) entry.command).reply = rw leads at reply_is in
    rw counted (record {
      within = within;
      before = legal;
      there = λ all. other (said ∙ sym (last_reply base (take i entries) entry legal
          (rw (one_more entries i entry within is) at all)));
    })
