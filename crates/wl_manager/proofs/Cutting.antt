-- What a cut of the journal leaves true.
use Rattle.std.proofs.Common.{◌≡◌, ℕ, Bool, true, false, true≢false, List, ◌++◌, length, map, refl, arith, ap, sym, ◌∙◌}
use Rattle.std.proofs.Common.{subst, length-append}
use Rattle.std.specs.Prelude.{Result, Ok, Err, OnOk, OnErr}
use Rattle.std.proofs.lemmas.List.{map-append}
use Rattle.wl_machine.specs.declared.command.Command.{Command}
use Rattle.wl_machine.specs.declared.command.Reply.{Reply}
use Rattle.wl_machine.specs.State.{State}
use Rattle.wl_machine.specs.Step.{replies_of, state_after}
use Rattle.wl_core.proofs.Answering.{state_after-append}
use Rattle.wl_journal.specs.declared.entry.Entry.{Entry}
use Rattle.wl_journal.specs.Books.{Book, Appends, cut_off}
use Rattle.wl_journal.specs.History.{IsLegal, state_of, commands_of}
use Rattle.wl_journal.proofs.Legal.{replies_of-append}
use Rattle.wl_manager.specs.Locked.{Inner, IsKept, IsCut, WasCut, first}

both : (xs ys zs ws : List Reply) → xs ≡ zs → ys ≡ ws → xs ++ ys ≡ zs ++ ws
both xs ys zs ws one two = rw (one, two) refl

-- entries that are legal where others lead are legal after them
pub legal_after : (base : State) (xs ys : List Entry) → IsLegal base xs → IsLegal (state_of base xs) ys
    → IsLegal base (xs ++ ys)
legal_after base xs ys one two =
    map-append (λ (e : Entry). e.reply) xs ys
    ∙ (both (map (λ (e : Entry). e.reply) xs) (map (λ (e : Entry). e.reply) ys) (replies_of (commands_of xs) base)
    (replies_of (commands_of ys) (state_of base xs)) one two
    ∙ (sym (replies_of-append (commands_of xs) (commands_of ys) base)
    ∙ ap (λ (cs : List Command). replies_of cs base) (sym (map-append (λ (e : Entry). e.command) xs ys))))

leads_after : (base : State) (xs ys : List Entry) → state_of base (xs ++ ys) ≡ state_of (state_of base xs) ys
leads_after base xs ys = ap (λ (cs : List Command). state_after cs base) (map-append (λ (e : Entry). e.command) xs ys)
    ∙ state_after-append (commands_of xs) (commands_of ys) base

-- what was cut stays, as long as entries are added
pub still_cut : (keeps_all : Bool) (old new : Book) (added : List Entry) → Appends old new added → IsCut keeps_all old
    → IsCut keeps_all new
still_cut keeps_all old new added appends was = record {
  cut = was.cut;
  legal = was.legal;
  leads = appends.base ∙ was.leads;
  count =
      let a = appends.total in
      let b = was.count in
      let l = ap length appends.entries ∙ length-append old.entries added in
      omega (arith, a, b, l);
  none = was.none;
}

-- what is shown of the journal
pub shown : (keeps_all : Bool) (inside seen : Inner) (entries : List Entry) → inside ≡ seen
    → IsCut keeps_all inside.book → IsLegal inside.book.base entries → WasCut seen.book.base entries
shown keeps_all inside seen entries is was legal = subst (λ (l : Inner). WasCut l.book.base entries) is (record {
  cut = was.cut;
  legal = legal_after first was.cut entries was.legal (subst (λ (s : State). IsLegal s entries) was.leads legal);
  leads = was.leads;
})

-- where all entries are kept, they are those since the opening state
pub all_shown : (keeps_all : Bool) (book : Book) (entries : List Entry) → IsCut keeps_all book
    → IsLegal book.base entries → keeps_all ≡ true → IsLegal first entries
all_shown keeps_all book entries was legal all =
    subst (λ (s : State). IsLegal s entries) (was.leads ∙ ap (state_of first) (was.none all)) legal

cut_more : (keeps_all : Bool) (book : Book) → IsCut keeps_all book → keeps_all ≡ false → IsLegal book.base book.entries
    → book.state ≡ state_of book.base book.entries → IsCut keeps_all (cut_off book)
cut_more keeps_all book was recent legal leads = record {
  cut = was.cut ++ book.entries;
  legal = legal_after first was.cut book.entries was.legal (subst (λ (s : State). IsLegal s book.entries) was.leads
      legal);
  leads = leads ∙ (ap (λ (s : State). state_of s book.entries) was.leads
      ∙ sym (leads_after first was.cut book.entries));
  count = let a = was.count in let l = length-append was.cut book.entries in omega (arith, a, l);
  none = λ all. absurd (true≢false (sym all ∙ recent));
}

-- a cut keeps what holds
pub kept_cut : (counts keeps_all : Bool) (all : ℕ) (old : Inner) → IsKept counts keeps_all all old → keeps_all ≡ false
    → IsLegal old.book.base old.book.entries → old.book.state ≡ state_of old.book.base old.book.entries
    → IsKept counts keeps_all all (record old { book = cut_off old.book })
kept_cut counts keeps_all all old kept recent legal leads = record {
  journal = cut_more keeps_all old.book kept.journal recent legal leads;
  standing = kept.standing;
  numbers = kept.numbers;
  from_one = kept.from_one;
  agents = kept.agents;
  published = kept.published;
  fresh = kept.fresh;
  counted = kept.counted;
  shared = kept.shared;
  enough = kept.enough;
}

-- so does one that may fail
pub kept_trimmed : {X Y : Type 0} (r : Result X Y) (counts keeps_all : Bool) (all : ℕ) (old : Inner)
    (entries : List Entry) (new : Book) → IsKept counts keeps_all all old → keeps_all ≡ false
    → entries ≡ old.book.entries → IsLegal old.book.base entries → old.book.state ≡ state_of old.book.base entries
    → OnOk r (new ≡ cut_off old.book) → OnErr r (new ≡ old.book)
    → IsKept counts keeps_all all (record old { book = new })
kept_trimmed (Ok x) counts keeps_all all old entries new kept recent are legal leads cut stays =
    let none : IsLegal old.book.base old.book.entries = rw are at legal in
    let to : old.book.state ≡ state_of old.book.base old.book.entries = rw are at leads in
    subst (λ (b : Book). IsKept counts keeps_all all (record old { book = b })) (sym cut)
    (kept_cut counts keeps_all all old kept recent none to)
kept_trimmed (Err y) counts keeps_all all old entries new kept recent are legal leads cut stays =
    subst (λ (b : Book). IsKept counts keeps_all all (record old { book = b })) (sym stays) kept
