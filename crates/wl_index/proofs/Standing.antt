-- What the queues say of the lists, where one name's lists change.
use Rattle.std.proofs.Common.{◌≡◌, ℕ, ◌==◌, Bool, true, false, cond, List, [], ◌∷◌, ◌++◌, map, refl, ap, subst, sym}
use Rattle.std.proofs.Common.{◌∙◌, append-nil, arith}
use Rattle.std.specs.Prelude.{◌||◌, Option, Some, None}
use Rattle.std.specs.Option.{unwrap_or}
use Rattle.std.specs.Str.{bytes_eq}
use Rattle.std.specs.List.{list_any, AllByRecursion}
use Rattle.std.specs.Cmp.Lexicographic.{same_text}
use Rattle.std.proofs.lemmas.Bool.Decides.{nat_tests}
use Rattle.std.proofs.lemmas.Option.{none-some}
use Rattle.std.proofs.lemmas.List.{map-append}
use Rattle.std.proofs.lemmas.List.Elements.{filter-append}
use Rattle.wl_machine.specs.declared.rows.HeldRow.{HeldRow}
use Rattle.wl_machine.specs.declared.rows.PendingRow.{PendingRow}
use Rattle.wl_machine.specs.Grants.{grants, locks, queue}
use Rattle.wl_machine.specs.Step.{with_name}
use Rattle.wl_machine.proofs.Lists.{or_false, other_bytes, same_bytes}
use Rattle.wl_index.specs.inner.NameQueue.{Waiting, Matches, lock_and_mode, number_and_mode, with_one_more}
use Rattle.wl_index.specs.inner.Queues.{Placed, names_of, place_of, with_updated, with_joined, with_joined_at}
use Rattle.wl_index.specs.inner.Queues.{AreQueues}
use Rattle.wl_index.specs.inner.Locks.{has_place, QueueStands, Stands}
use Rattle.wl_index.proofs.Lists.{all_append}
use Rattle.wl_index.proofs.InUse.{SameAs, are_updated, names_updated, one_place, place_before, place_last}
use Rattle.wl_index.proofs.InUse.{place_updated}
use Rattle.wl_index.proofs.Use.{in_use_same}

-- lists that differ in one name alone
abbrev pub Differ : List ℕ → List HeldRow → List HeldRow → List PendingRow → List PendingRow → Type 0
Differ name held held' pending pending' = (m : List ℕ) → bytes_eq name m ≡ false
    → (locks m held' ≡ locks m held) × (queue m pending' ≡ queue m pending)

pub same_matches : (w : Waiting) (held held' : List HeldRow) (pending pending' : List PendingRow)
    → locks w.name held' ≡ locks w.name held → queue w.name pending' ≡ queue w.name pending → Matches w held pending
    → Matches w held' pending'
same_matches w held held' pending pending' l q matches = record {
  waits = matches.waits
      ∙ ap (map number_and_mode) (sym q);
  holders = matches.holders ∙ ap (map lock_and_mode) (sym l);
}

-- ---- touched places

pub touched_here : (place n : ℕ) (touched : List ℕ) → (n == place) ≡ true → has_place (place ∷ touched) n ≡ true
touched_here place n touched same = let here : (place == n) ≡ true = grind (arith, nat_tests, same)
    in ap (λ b. b || has_place touched n) here

-- what is untouched with one place more was untouched, and what is elsewhere stays untouched
pub untouched_less : (place n : ℕ) (touched : List ℕ) → has_place (place ∷ touched) n ≡ false
    → has_place touched n ≡ false
untouched_less place n touched out = (or_false (place == n) (has_place touched n) out).1

pub untouched_more : (place n : ℕ) (touched : List ℕ) → (n == place) ≡ false → has_place touched n ≡ false
    → has_place (place ∷ touched) n ≡ false
untouched_more place n touched other out = let no : (place == n) ≡ false = grind (arith, nat_tests, other)
    in ap (λ b. b || has_place touched n) no ∙ out

-- ---- one queue changes

module _ (held held' : List HeldRow) (pending pending' : List PendingRow) (touched touched' : List ℕ) where
  other_stands : (name : List ℕ) (e : Placed) → Differ name held held' pending pending' → bytes_eq e.1.name name ≡ false
      → (has_place touched' e.0 ≡ false → has_place touched e.0 ≡ false) → QueueStands held pending touched e
      → QueueStands held' pending' touched' e
  other_stands name e differ other less q =
      let s = differ e.1.name (other_bytes name e.1.name other) in
      record {
        matched = same_matches e.1 held held' pending pending' s.0 s.1 q.matched;
        quiet = λ out. ap (λ h. grants h (queue e.1.name pending')) s.0 ∙ ap (grants (locks e.1.name held)) s.1
            ∙ q.quiet (less out);
        used = λ out. in_use_same e.1.name held' held pending' pending s.0 s.1 ∙ q.used (less out);
      }

  pub each_changed : (name : List ℕ) (place : ℕ) (f : Waiting → Waiting) (l : List Placed)
      → Differ name held held' pending pending' → ((n : ℕ) → (n == place) ≡ false → has_place touched' n ≡ false
      → has_place touched n ≡ false) → AllByRecursion (SameAs name place) l
      → AllByRecursion (λ (e : Placed). (e.0 == place) ≡ true → QueueStands held' pending' touched' (e.0, f e.1)) l
      → AllByRecursion (QueueStands held pending touched) l
      → AllByRecursion (QueueStands held' pending' touched') (with_updated place f l)
  each_changed name place f [] differ less same own all = tt
  each_changed name place f (e ∷ l) differ less same own all =
      (by (e.0 == place) refl, each_changed name place f l differ less same.1 own.1 all.1)
    where
      by : (b : Bool) → (e.0 == place) ≡ b → QueueStands held' pending' touched' (e.0, cond (e.0 == place) (f e.1) e.1)
      by true h = subst (λ b. QueueStands held' pending' touched' (e.0, cond b (f e.1) e.1)) (sym h) (own.0 h)
      by false h = subst (λ b. QueueStands held' pending' touched' (e.0, cond b (f e.1) e.1)) (sym h)
          (other_stands name e differ (sym same.0 ∙ h) (less e.0 h) all.0)

-- the lists of a name that has a queue change, and the queue with them: its place is touched
pub one_touched : (name : List ℕ) (place : ℕ) (f : Waiting → Waiting) (queues : List Placed) (held held' : List HeldRow)
    (pending pending' : List PendingRow) (touched : List ℕ) → ((w : Waiting) → (f w).name ≡ w.name)
    → Differ name held held' pending pending'
    → place_of name queues ≡ Some place → ((w : Waiting) → w.name ≡ name → Matches w held pending
    → Matches (f w) held' pending') → Stands queues held pending touched
    → Stands (with_updated place f queues) held' pending' (place ∷ touched)
one_touched name place f queues held held' pending pending' touched keeps differ at matches stands =
    let same = one_place name place queues stands.are.apart at in
    record {
      are = are_updated place f keeps queues stands.are;
      each = each_changed held held' pending pending' touched (place ∷ touched) name place f queues differ
          (λ n other out. untouched_less place n touched out) same (own queues same stands.each) stands.each;
      known = λ m none.
          let before = sym (place_updated place f keeps m queues) ∙ none in
          let s = differ m (apart m (bytes_eq name m) refl before) in
          let k = stands.known m before in
          (s.0 ∙ k.0, s.1 ∙ k.1);
    }
  where
    own : (l : List Placed) → AllByRecursion (SameAs name place) l → AllByRecursion (QueueStands held pending touched) l
        → AllByRecursion (λ (e : Placed). (e.0 == place) ≡ true
        → QueueStands held' pending' (place ∷ touched) (e.0, f e.1)) l
    own [] same all = tt
    own (e ∷ l) same all = (
      (λ here. let yes = touched_here place e.0 touched here in record {
        matched = matches e.1 (same_text e.1.name name (sym (sym same.0 ∙ here))) all.0.matched;
        quiet = λ out. absurd (cc (yes, out));
        used = λ out. absurd (cc (yes, out));
      }),
      own l same.1 all.1,
    )

    apart : (m : List ℕ) (b : Bool) → bytes_eq name m ≡ b → place_of m queues ≡ None → bytes_eq name m ≡ false
    apart m false h none = h
    apart m true h none = absurd (none-some place (sym (ap (λ n. place_of n queues) (same_text name m (sym h)) ∙ none)
        ∙ at))

-- ---- a request comes to the end of its queue

queue_stays : (pending : List PendingRow) (r : PendingRow) (m : List ℕ) → bytes_eq r.name m ≡ false
    → queue m (pending ++ r ∷ []) ≡ queue m pending
queue_stays pending r m differs = filter-append (λ (x : PendingRow). bytes_eq x.name m) pending (r ∷ [])
    ∙ rw differs (append-nil (queue m pending))

queue_more : (pending : List PendingRow) (r : PendingRow) (m : List ℕ) → bytes_eq r.name m ≡ true
    → queue m (pending ++ r ∷ []) ≡ queue m pending ++ r ∷ []
queue_more pending r m own = filter-append (λ (x : PendingRow). bytes_eq x.name m) pending (r ∷ []) ∙ rw own refl

push_matches : (held : List HeldRow) (pending : List PendingRow) (r : PendingRow) (w : Waiting) → w.name ≡ r.name
    → Matches w held pending → Matches (with_one_more w r.number r.mode) held (pending ++ r ∷ [])
push_matches held pending r w own matches = record {
  waits = ap (λ l. l ++ number_and_mode r ∷ []) matches.waits
      ∙ sym (ap (map number_and_mode) (queue_more pending r w.name (ap (bytes_eq r.name) own ∙ same_bytes r.name))
      ∙ map-append number_and_mode (queue w.name pending) (r ∷ []));
  holders = matches.holders;
}

-- what a request that comes leaves of other names
come_differs : (held : List HeldRow) (pending : List PendingRow) (r : PendingRow)
    → Differ r.name held held pending (pending ++ r ∷ [])
come_differs held pending r m differs = (refl, queue_stays pending r m differs)

new_stands : (queues : List Placed) (held : List HeldRow) (pending : List PendingRow) (touched : List ℕ)
    (r : PendingRow) → place_of r.name queues ≡ None → AreQueues
    (queues ++ (r.number, record { name = r.name; waits = (r.number, r.mode) ∷ []; holders = [] }) ∷ [])
    → Stands queues held pending touched → Stands (queues ++ (
      r.number,
      record { name = r.name; waits = (r.number, r.mode) ∷ []; holders = [] },
    ) ∷ []) held (pending ++ r ∷ [])
    (r.number ∷ touched)
new_stands queues held pending touched r none are stands = record {
  are = are;
  each = all_append (QueueStands held (pending ++ r ∷ []) (r.number ∷ touched)) queues ((r.number, name_queue) ∷ [])
      (others queues none stands.each) (own, tt);
  known = λ m gone. unknown m (place_of m queues) refl gone;
}
  where
    name_queue : Waiting
    name_queue = record { name = r.name; waits = (r.number, r.mode) ∷ []; holders = [] }

    here : has_place (r.number ∷ touched) r.number ≡ true
    here = touched_here r.number r.number touched (grind (arith, nat_tests))

    own : QueueStands held (pending ++ r ∷ []) (r.number ∷ touched) (r.number, name_queue)
    own =
        let empty = stands.known r.name none in
        record {
          matched = record {
            waits = sym (ap (map number_and_mode) (queue_more pending r r.name (same_bytes r.name)
                ∙ ap (λ q. q ++ r ∷ []) empty.1));
            holders = sym (ap (map lock_and_mode) empty.0);
          };
          quiet = λ out. absurd (let yes = here in cc (yes, out));
          used = λ out. absurd (let yes = here in cc (yes, out));
        }

    others : (l : List Placed) → place_of r.name l ≡ None → AllByRecursion (QueueStands held pending touched) l
        → AllByRecursion (QueueStands held (pending ++ r ∷ []) (r.number ∷ touched)) l
    others [] out all = tt
    others (e ∷ l) out all = by (bytes_eq e.1.name r.name) refl (others l)
      where
        left : (b : Bool) → bytes_eq e.1.name r.name ≡ b → cond b (Some e.0) (place_of r.name l) ≡ None
        left b h = sym (ap (λ c. cond c (Some e.0) (place_of r.name l)) h) ∙ out

        by : (b : Bool) → bytes_eq e.1.name r.name ≡ b → (place_of r.name l ≡ None
            → AllByRecursion (QueueStands held pending touched) l
            → AllByRecursion (QueueStands held (pending ++ r ∷ []) (r.number ∷ touched)) l)
            → AllByRecursion (QueueStands held (pending ++ r ∷ []) (r.number ∷ touched)) (e ∷ l)
        by true h rest = absurd (none-some e.0 (sym (left true h)))
        by false h rest = (
          other_stands held held pending (pending ++ r ∷ []) touched (r.number ∷ touched) r.name e
              (come_differs held pending r) h (untouched_less r.number e.0 touched) all.0,
          rest (left false h) all.1,
        )

    unknown : (m : List ℕ) (o : Option ℕ) → place_of m queues ≡ o
        → place_of m (queues ++ (r.number, name_queue) ∷ []) ≡ None
        → (locks m held ≡ []) × (queue m (pending ++ r ∷ []) ≡ [])
    unknown m (Some place) at gone = absurd (none-some place
        (sym gone ∙ place_before m place queues (r.number, name_queue) at))
    unknown m None at gone = named (bytes_eq r.name m) refl
      where
        named : (b : Bool) → bytes_eq r.name m ≡ b → (locks m held ≡ []) × (queue m (pending ++ r ∷ []) ≡ [])
        named true h = absurd (none-some r.number (sym gone ∙ place_last m queues (r.number, name_queue) at
            ∙ ap (λ b. cond b (Some r.number) None) h))
        named false h = let k = stands.known m at in (k.0, queue_stays pending r m h ∙ k.1)

-- and what is said of the names
pub record Enqueued (queues new : List Placed) (held : List HeldRow) (pending : List PendingRow) (touched : List ℕ)
    (name : List ℕ) : Type 0 where
  pub stands : Stands new held pending touched
  pub names : names_of new ≡ with_name name (names_of queues)

pub listed : (name : List ℕ) (place : ℕ) (l : List Placed) → place_of name l ≡ Some place
    → list_any (λ other. bytes_eq other name) (names_of l) ≡ true
listed name place [] at = absurd (none-some place at)
listed name place (e ∷ l) at = by (bytes_eq e.1.name name) refl (listed name place l)
  where
    by : (b : Bool) → bytes_eq e.1.name name ≡ b → (place_of name l ≡ Some place
        → list_any (λ other. bytes_eq other name) (names_of l) ≡ true)
        → (bytes_eq e.1.name name || list_any (λ other. bytes_eq other name) (names_of l)) ≡ true
    by true h rest = ap (λ b. b || list_any (λ other. bytes_eq other name) (names_of l)) h
    by false h rest = ap (λ b. b || list_any (λ other. bytes_eq other name) (names_of l)) h
        ∙ rest (sym (ap (λ c. cond c (Some e.0) (place_of name l)) h) ∙ at)

unlisted : (name : List ℕ) (l : List Placed) → place_of name l ≡ None
    → list_any (λ other. bytes_eq other name) (names_of l) ≡ false
unlisted name [] none = refl
unlisted name (e ∷ l) none = by (bytes_eq e.1.name name) refl (unlisted name l)
  where
    by : (b : Bool) → bytes_eq e.1.name name ≡ b → (place_of name l ≡ None
        → list_any (λ other. bytes_eq other name) (names_of l) ≡ false)
        → (bytes_eq e.1.name name || list_any (λ other. bytes_eq other name) (names_of l)) ≡ false
    by true h rest = absurd (none-some e.0 (sym none ∙ ap (λ c. cond c (Some e.0) (place_of name l)) h))
    by false h rest = ap (λ b. b || list_any (λ other. bytes_eq other name) (names_of l)) h
        ∙ rest (sym (ap (λ c. cond c (Some e.0) (place_of name l)) h) ∙ none)

pub enqueued : (queues new : List Placed) (place : ℕ) (held : List HeldRow) (pending : List PendingRow)
    (touched : List ℕ) (r : PendingRow) → Stands queues held pending touched
    → new ≡ with_joined r.name r.number r.mode queues → AreQueues new → place_of r.name new ≡ Some place
    → Enqueued queues new held (pending ++ r ∷ []) (place ∷ touched) r.name
enqueued queues new place held pending touched r stands is are at = by (place_of r.name queues) refl
  where
    more : (w : Waiting) → (with_one_more w r.number r.mode).name ≡ w.name
    more w = refl

    name_queue : Waiting
    name_queue = record { name = r.name; waits = (r.number, r.mode) ∷ []; holders = [] }

    by : (o : Option ℕ) → place_of r.name queues ≡ o → Enqueued queues new held (pending ++ r ∷ []) (place ∷ touched)
        r.name
    by (Some p) there =
        let f : Waiting → Waiting = λ w. with_one_more w r.number r.mode in
        let set : new ≡ with_updated p f queues = is ∙ ap (λ o. with_joined_at o r.name r.number r.mode queues) there in
        let same : p ≡ place = ap (λ o. unwrap_or o place) (sym
        (sym at ∙ ap (place_of r.name) set ∙ place_updated p f more r.name queues ∙ there)) in
        let one : Enqueued queues (with_updated p f queues) held (pending ++ r ∷ []) (p ∷ touched) r.name = record {
          stands = one_touched r.name p f queues held held pending (pending ++ r ∷ []) touched more
              (come_differs held pending r) there (push_matches held pending r) stands;
          names = names_updated p f more queues ∙ sym (ap (λ b. cond b (names_of queues)
              (names_of queues ++ r.name ∷ [])) (listed r.name p queues there));
        } in
        subst (λ k. Enqueued queues new held (pending ++ r ∷ []) (k ∷ touched) r.name) same
        (subst (λ l. Enqueued queues l held (pending ++ r ∷ []) (p ∷ touched) r.name) (sym set) one)
    by None none =
        let set : new ≡ queues ++ (r.number, name_queue) ∷ [] = is
        ∙ ap (λ o. with_joined_at o r.name r.number r.mode queues) none in
        let same : r.number ≡ place = ap (λ o. unwrap_or o place)
        (sym (sym at ∙ ap (place_of r.name) set ∙ place_last r.name queues (r.number, name_queue) none
        ∙ ap (λ b. cond b (Some r.number) None) (same_bytes r.name))) in
        let one : Enqueued queues (queues ++ (r.number, name_queue) ∷ []) held (pending ++ r ∷ []) (r.number ∷ touched)
        r.name = record {
          stands = new_stands queues held pending touched r none (subst AreQueues set are) stands;
          names = map-append (λ (e : Placed). e.1.name) queues ((r.number, name_queue) ∷ [])
              ∙ sym (ap (λ b. cond b (names_of queues) (names_of queues ++ r.name ∷ [])) (unlisted r.name queues none));
        } in
        subst (λ k. Enqueued queues new held (pending ++ r ∷ []) (k ∷ touched) r.name) same
        (subst (λ l. Enqueued queues l held (pending ++ r ∷ []) (r.number ∷ touched) r.name) (sym set) one)
