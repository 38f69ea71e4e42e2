-- Processing the touched queues, one after the other, processes all names.
use Rattle.std.proofs.Common.{◌≡◌, ℕ, ◌<◌, ◌≤◌, ◌==◌, Bool, true, false, cond, List, [], ◌∷◌, map, refl, ap, subst, sym}
use Rattle.std.proofs.Common.{◌∙◌, arith}
use Rattle.std.specs.Prelude.{not, ◌||◌, filter, Option, Some, None}
use Rattle.std.specs.Option.{unwrap_or, IfSome}
use Rattle.std.specs.Str.{bytes_eq}
use Rattle.std.specs.List.{AllByRecursion}
use Rattle.std.specs.List.Sorted.{IsStrictlySortedBy}
use Rattle.std.specs.Map.{keys_of}
use Rattle.std.specs.Ordering.{nat_cmp}
use Rattle.std.specs.Cmp.Lexicographic.{same_text}
use Rattle.std.specs.declared.cmp.Ordering.TheVariants.{Less}
use Rattle.std.proofs.lemmas.Bool.Decides.{nat_tests}
use Rattle.std.proofs.lemmas.Map.Keys.{sorted_head, sorted_tail}
use Rattle.std.proofs.lemmas.Option.{none-some}
use Rattle.wl_machine.specs.declared.rows.HeldRow.{HeldRow}
use Rattle.wl_machine.specs.declared.rows.PendingRow.{PendingRow}
use Rattle.wl_machine.specs.Grants.{Lists, grants, in_use, locks, queue, process_queue, process_queues}
use Rattle.wl_machine.proofs.Quiet.{quiet, processed_quiet, processes_keep}
use Rattle.wl_index.specs.inner.NameQueue.{Waiting, Matches, after_grant, is_busy, lock_and_mode, next_grant}
use Rattle.wl_index.specs.inner.Queues.{Placed, names_of, place_of, queue_of, at_place, grant_at, stays, with_updated}
use Rattle.wl_index.specs.inner.Queues.{without_idle, AreQueues}
use Rattle.wl_index.specs.inner.Locks.{has_place, IsQuiet, QueueStands, Stands, Underway}
use Rattle.wl_index.proofs.Lists.{all_filter, all_weaker, filter_whole}
use Rattle.wl_index.proofs.Local.{FrontQuiet, process_all_quiet, process_first, process_quiet}
use Rattle.wl_index.proofs.InUse.{SameAs, are_updated, at_its_place, busy_stays, grant_keeps, idle_leaves}
use Rattle.wl_index.proofs.InUse.{names_updated, none_at, none_leaves, one_place, queue_at, place_here, place_updated}
use Rattle.wl_index.proofs.InUse.{place_without, queue_there}
use Rattle.wl_index.proofs.QueueProcessing.{Step, none_granted}
use Rattle.wl_index.proofs.Standing.{each_changed, listed, touched_here, untouched_more}
use Rattle.wl_index.proofs.Use.{busy_in_use, stays_unused, unused_empty}

-- ---- in front of the first touched place

-- a place below all touched ones is not touched
apart_below : (n : ℕ) (touched : List ℕ) → AllByRecursion (λ q. n < q) touched → has_place touched n ≡ false
apart_below n [] above = refl
apart_below n (q ∷ touched) above = let more = above.0 in let no : (q == n) ≡ false = grind (arith, nat_tests, more)
    in ap (λ b. b || has_place touched n) no ∙ apart_below n touched above.1

place_above : (name : List ℕ) (place n : ℕ) (l : List Placed) → place_of name l ≡ Some place
    → AllByRecursion (λ k. nat_cmp n k ≡ Less) (keys_of l) → n < place
place_above name place n [] at above = absurd (none-some place at)
place_above name place n (e ∷ l) at above = by (bytes_eq e.1.name name) refl (place_above name place n l)
  where
    seen : (b : Bool) → bytes_eq e.1.name name ≡ b → cond b (Some e.0) (place_of name l) ≡ Some place
    seen b h = sym (ap (λ c. cond c (Some e.0) (place_of name l)) h) ∙ at

    by : (b : Bool) → bytes_eq e.1.name name ≡ b → (place_of name l ≡ Some place
        → AllByRecursion (λ k. nat_cmp n k ≡ Less) (keys_of l) → n < place) → n < place
    by true h rest = let same : e.0 ≡ place = ap (λ o. unwrap_or o place) (seen true h) in let less = above.0
        in subst (λ k. n < k) same (grind (arith, nat_tests, less))
    by false h rest = rest (seen false h) above.1

front_quiet : (now : Lists) (place : ℕ) (rest : List ℕ) (name : List ℕ) (l : List Placed)
    → IsStrictlySortedBy nat_cmp (keys_of l) → place_of name l ≡ Some place → AllByRecursion (λ q. place ≤ q) rest
    → AllByRecursion (QueueStands now.held now.pending (place ∷ rest)) l
    → FrontQuiet now name (names_of l)
front_quiet now place rest name [] sorted at above all = tt
front_quiet now place rest name (e ∷ l) sorted at above all = λ differs.
    let later : place_of name l ≡ Some place = sym (ap (λ c. cond c (Some e.0) (place_of name l)) differs) ∙ at in
    let less = place_above name place e.0 l later (sorted_head nat_cmp e.0 (keys_of l) sorted) in (
      all.0.quiet (apart_below e.0 (place ∷ rest) (
        less,
        all_weaker (λ q. place ≤ q) (λ q. e.0 < q) rest
            (λ q more. omega (arith, less, more)) above,
      )),
      front_quiet now place rest name l (sorted_tail nat_cmp e.0 (keys_of l) sorted) later above all.1,
    )

-- the queue at the first touched place may be processed before all others
process_this : (queues : List Placed) (now : Lists) (place : ℕ) (rest : List ℕ) (name : List ℕ)
    → Stands queues now.held now.pending (place ∷ rest) → AllByRecursion (λ q. place ≤ q) rest
    → place_of name queues ≡ Some place
    → process_queues now (names_of queues) ≡ process_queues (process_queue now name) (names_of queues)
process_this queues now place rest name stands above at = process_first name (names_of queues) now
    (listed name place queues at) (front_quiet now place rest name queues stands.are.ordered at above stands.each)

-- ---- one grant

pub one_granted : (place : ℕ) (rest : List ℕ) (target : Lists) (stay : List (List ℕ)) (queues : List Placed)
    (before now : Lists) (w : Waiting) → at_place place queues ≡ Some w → AllByRecursion (λ q. place ≤ q) rest
    → Step w (after_grant w) before now
    → Underway target stay queues before (place ∷ rest) → Underway target stay (with_updated place after_grant queues)
    now (place ∷ rest)
one_granted place rest target stay queues before now w at above step u =
    let there = place_here place w queues u.stands.are.apart at in
    let there' = place_updated place after_grant grant_keeps w.name queues ∙ there in
    let names = names_updated place after_grant grant_keeps queues in
    let same = one_place w.name place queues u.stands.are.apart there in
    let own : AllByRecursion (λ (e : Placed). (e.0 == place) ≡ true
    → QueueStands now.held now.pending (place ∷ rest) (e.0, after_grant e.1)) queues =
    all_weaker (λ (e : Placed). (e.0 == place) ≡ true → Matches (after_grant e.1) now.held now.pending)
    (λ (e : Placed). (e.0 == place) ≡ true → QueueStands now.held now.pending (place ∷ rest) (e.0, after_grant e.1))
    queues
    (λ e matches here. let yes = touched_here place e.0 rest here
    in record { matched = matches here; quiet = λ out. absurd (cc (yes, out)); used = λ out. absurd (cc (yes, out)) })
    (at_its_place (λ v. Matches (after_grant v) now.held now.pending) place w queues u.stands.are.ordered at
    step.matches) in
    let stands : Stands (with_updated place after_grant queues) now.held now.pending (place ∷ rest) = record {
      are = are_updated place after_grant grant_keeps queues u.stands.are;
      each = each_changed before.held now.held before.pending now.pending (place ∷ rest) (place ∷ rest) w.name place
          after_grant queues step.differ (λ n other out. out) same own u.stands.each;
      known = λ m none.
          let out = sym (place_updated place after_grant grant_keeps m queues) ∙ none in
          let s = step.differ m (apart m (bytes_eq w.name m) refl there out) in
          let k = u.stands.known m out in
          (s.0 ∙ k.0, s.1 ∙ k.1);
    } in
    record {
      reaches = process_this (with_updated place after_grant queues) now place rest w.name stands above there'
          ∙ ap (process_queues (process_queue now w.name)) names
          ∙ ap (λ l. process_queues l (names_of queues)) (ap (process_queue now) (sym (grant_keeps w)) ∙ step.processed)
          ∙ sym (process_this queues before place rest w.name u.stands above there) ∙ u.reaches;
      staying = ap (filter (in_use target.held target.pending)) names ∙ u.staying;
      stands = stands;
    }
  where
    apart : (m : List ℕ) (b : Bool) → bytes_eq w.name m ≡ b → place_of w.name queues ≡ Some place
        → place_of m queues ≡ None → bytes_eq w.name m ≡ false
    apart m false h there none = h
    apart m true h there none = absurd (none-some place (sym
        (ap (λ n. place_of n queues) (same_text w.name m (sym h)) ∙ none) ∙ there))

-- ---- a queue that grants nothing more

-- what is touched with one place less, elsewhere
elsewhere : (held : Lists) (place : ℕ) (rest : List ℕ) (e : Placed) → (e.0 == place) ≡ false
    → QueueStands held.held held.pending (place ∷ rest) e → QueueStands held.held held.pending rest e
elsewhere held place rest e other q = record {
  matched = q.matched;
  quiet = λ out. q.quiet (untouched_more place e.0 rest other out);
  used = λ out. q.used (untouched_more place e.0 rest other out);
}

pub one_stays : (place : ℕ) (rest : List ℕ) (target : Lists) (stay : List (List ℕ)) (queues : List Placed) (now : Lists)
    (w : Waiting) → at_place place queues ≡ Some w → process_queue now w.name ≡ now → is_busy w ≡ true
    → Underway target stay queues now (place ∷ rest) → Underway target stay queues now rest
one_stays place rest target stay queues now w at after_processing busy u = record {
  reaches = u.reaches;
  staying = u.staying;
  stands = record {
    are = u.stands.are;
    each = each queues u.stands.each
        (at_its_place (λ v. v ≡ w) place w queues u.stands.are.ordered at refl);
    known = u.stands.known;
  };
}
  where
    none : quiet now w.name ≡ []
    none = subst (λ (l : Lists). quiet l w.name ≡ []) after_processing (processed_quiet now w.name)

    each : (l : List Placed) → AllByRecursion (QueueStands now.held now.pending (place ∷ rest)) l
        → AllByRecursion (λ (e : Placed). (e.0 == place) ≡ true → e.1 ≡ w) l
        → AllByRecursion (QueueStands now.held now.pending rest) l
    each [] all own = tt
    each (e ∷ l) all own = (by (e.0 == place) refl, each l all.1 own.1)
      where
        by : (b : Bool) → (e.0 == place) ≡ b → QueueStands now.held now.pending rest e
        by true h =
            let same : e.1 ≡ w = own.0 h in
            record {
              matched = all.0.matched;
              quiet = λ out. subst (λ (v : Waiting). quiet now v.name ≡ []) (sym same) none;
              used = λ out. sym (busy_in_use e.1 now.held now.pending all.0.matched) ∙ ap is_busy same ∙ busy;
            }
        by false h = elsewhere now place rest e h all.0

-- processing the names without one that has nothing to grant
process_without : (name : List ℕ) (place : ℕ) (l : List Placed) (lists : Lists) → AllByRecursion (SameAs name place) l
    → quiet lists name ≡ [] → process_queues lists (names_of (filter (λ (e : Placed). not (e.0 == place)) l))
    ≡ process_queues lists (names_of l)
process_without name place [] lists same none = refl
process_without name place (e ∷ l) lists same none = by (e.0 == place) refl (λ k. process_without name place l k same.1)
  where
    others : List Placed
    others = filter (λ (e : Placed). not (e.0 == place)) l

    by : (b : Bool) → (e.0 == place) ≡ b → ((k : Lists) → quiet k name ≡ []
        → process_queues k (names_of others) ≡ process_queues k (names_of l))
        → process_queues lists (names_of (cond (not (e.0 == place)) (e ∷ others) others))
        ≡ process_queues (process_queue lists e.1.name) (names_of l)
    by true h rest =
        let named : e.1.name ≡ name = same_text e.1.name name (sym (sym same.0 ∙ h)) in
        ap (λ b. process_queues lists (names_of (cond (not b) (e ∷ others) others))) h ∙ rest lists none
        ∙ sym (ap (λ k. process_queues (process_queue lists k) (names_of l)) named
        ∙ ap (λ (t : Lists). process_queues t (names_of l)) (process_quiet lists name none))
    by false h rest = ap (λ b. process_queues lists (names_of (cond (not b) (e ∷ others) others))) h
        ∙ rest (process_queue lists e.1.name) (processes_keep (e.1.name ∷ []) lists name none)

used_without : (used : List ℕ → Bool) (name : List ℕ) (place : ℕ) (l : List Placed)
    → AllByRecursion (SameAs name place) l → used name ≡ false
    → filter used (names_of (filter (λ (e : Placed). not (e.0 == place)) l)) ≡ filter used (names_of l)
used_without used name place [] same none = refl
used_without used name place (e ∷ l) same none = by (e.0 == place) refl (used_without used name place l same.1 none)
  where
    others : List Placed
    others = filter (λ (e : Placed). not (e.0 == place)) l

    by : (b : Bool) → (e.0 == place) ≡ b → filter used (names_of others) ≡ filter used (names_of l)
        → filter used (names_of (cond (not (e.0 == place)) (e ∷ others) others))
        ≡ cond (used e.1.name) (e.1.name ∷ filter used (names_of l)) (filter used (names_of l))
    by true h rest =
        let named : e.1.name ≡ name = same_text e.1.name name (sym (sym same.0 ∙ h)) in
        ap (λ b. filter used (names_of (cond (not b) (e ∷ others) others))) h ∙ rest
        ∙ sym (ap (λ b. cond b (e.1.name ∷ filter used (names_of l)) (filter used (names_of l)))
        (ap used named ∙ none))
    by false h rest = ap (λ b. filter used (names_of (cond (not b) (e ∷ others) others))) h
        ∙ ap (λ t. cond (used e.1.name) (e.1.name ∷ t) t) rest

pub one_leaves : (place : ℕ) (rest : List ℕ) (target : Lists) (stay : List (List ℕ)) (queues : List Placed)
    (now : Lists) (w : Waiting) → at_place place queues ≡ Some w → process_queue now w.name ≡ now → is_busy w ≡ false
    → AreQueues (without_idle place queues)
    → Underway target stay queues now (place ∷ rest) → Underway target stay (without_idle place queues) now rest
one_leaves place rest target stay queues now w at after_processing idle are u =
    let there = place_here place w queues u.stands.are.apart at in
    let same = one_place w.name place queues u.stands.are.apart there in
    let left = idle_leaves place w queues u.stands.are.ordered at idle in
    let own = at_its_place (λ v. Matches v now.held now.pending → in_use now.held now.pending w.name ≡ false) place w
    queues u.stands.are.ordered at (λ m. sym (busy_in_use w now.held now.pending m) ∙ idle) in
    let unused = unused_at queues u.stands.each own there in
    let gone : in_use target.held target.pending w.name ≡ false =
    subst (λ (t : Lists). in_use t.held t.pending w.name ≡ false) u.reaches
    (stays_unused (names_of queues) now w.name unused) in
    let none : quiet now w.name ≡ [] = subst (λ (l : Lists). quiet l w.name ≡ []) after_processing
    (processed_quiet now w.name) in
    subst (λ l. Underway target stay l now rest) (sym left) (record {
      reaches = process_without w.name place queues now same none ∙ u.reaches;
      staying = used_without (in_use target.held target.pending) w.name place queues same gone ∙ u.staying;
      stands = record {
        are = subst AreQueues left are;
        each = each queues u.stands.each;
        known = λ m out. known m (bytes_eq w.name m) refl unused (sym (place_without w.name m place queues same) ∙ out);
      };
    })
  where
    unused_at : (l : List Placed) → AllByRecursion (QueueStands now.held now.pending (place ∷ rest)) l
        → AllByRecursion (λ (e : Placed). (e.0 == place) ≡ true → Matches e.1 now.held now.pending
        → in_use now.held now.pending w.name ≡ false) l → place_of w.name l ≡ Some place
        → in_use now.held now.pending w.name ≡ false
    unused_at [] all own at = absurd (none-some place at)
    unused_at (e ∷ l) all own at = by (bytes_eq e.1.name w.name) refl (unused_at l all.1 own.1)
      where
        seen : (b : Bool) → bytes_eq e.1.name w.name ≡ b → cond b (Some e.0) (place_of w.name l) ≡ Some place
        seen b h = sym (ap (λ c. cond c (Some e.0) (place_of w.name l)) h) ∙ at

        here : e.0 ≡ place → (e.0 == place) ≡ true
        here same = grind (arith, nat_tests, same)

        by : (b : Bool) → bytes_eq e.1.name w.name ≡ b → (place_of w.name l ≡ Some place
            → in_use now.held now.pending w.name ≡ false) → in_use now.held now.pending w.name ≡ false
        by true h rest = own.0 (here (ap (λ o. unwrap_or o place) (seen true h))) all.0.matched
        by false h rest = rest (seen false h)

    each : (l : List Placed) → AllByRecursion (QueueStands now.held now.pending (place ∷ rest)) l
        → AllByRecursion (QueueStands now.held now.pending rest) (filter (λ (e : Placed). not (e.0 == place)) l)
    each [] all = tt
    each (e ∷ l) all = by (e.0 == place) refl (each l all.1)
      where
        others : List Placed
        others = filter (λ (e : Placed). not (e.0 == place)) l

        by : (b : Bool) → (e.0 == place) ≡ b → AllByRecursion (QueueStands now.held now.pending rest) others
            → AllByRecursion (QueueStands now.held now.pending rest) (cond (not (e.0 == place)) (e ∷ others) others)
        by true h later = subst (λ b. AllByRecursion (QueueStands now.held now.pending rest)
            (cond (not b) (e ∷ others) others)) (sym h) later
        by false h later = subst (λ b. AllByRecursion (QueueStands now.held now.pending rest)
            (cond (not b) (e ∷ others) others)) (sym h) (elsewhere now place rest e h all.0, later)

    known : (m : List ℕ) (b : Bool) → bytes_eq w.name m ≡ b → in_use now.held now.pending w.name ≡ false
        → cond (bytes_eq w.name m) None (place_of m queues) ≡ None
        → (locks m now.held ≡ []) × (queue m now.pending ≡ [])
    known m true h unused out = let same : w.name ≡ m = same_text w.name m (sym h)
        in subst (λ n. (locks n now.held ≡ []) × (queue n now.pending ≡ [])) same
        (unused_empty w.name now.held now.pending unused)
    known m false h unused out = u.stands.known m (sym (ap (λ b. cond b None (place_of m queues)) h) ∙ out)

-- no queue is at the place any more
pub none_there : (place : ℕ) (rest : List ℕ) (target : Lists) (stay : List (List ℕ)) (queues : List Placed)
    (now : Lists) → at_place place queues ≡ None → Underway target stay queues now (place ∷ rest)
    → Underway target stay queues now rest
none_there place rest target stay queues now none u = record {
  reaches = u.reaches;
  staying = u.staying;
  stands = record {
    are = u.stands.are;
    each = each queues (none_at place queues none) u.stands.each;
    known = u.stands.known;
  };
}
  where
    each : (l : List Placed) → AllByRecursion (λ (e : Placed). (e.0 == place) ≡ false) l
        → AllByRecursion (QueueStands now.held now.pending (place ∷ rest)) l
        → AllByRecursion (QueueStands now.held now.pending rest) l
    each [] apart all = tt
    each (e ∷ l) apart all = (elsewhere now place rest e apart.0 all.0, each l apart.1 all.1)

-- ---- from the start to the end

pub start : (queues : List Placed) (now : Lists) (touched : List ℕ) → Stands queues now.held now.pending touched
    → Underway (process_queues now (names_of queues)) (filter
    (in_use (process_queues now (names_of queues)).held (process_queues now (names_of queues)).pending)
    (names_of queues))
    queues now touched
start queues now touched stands = record { reaches = refl; staying = refl; stands = stands }

-- the order of the touched plays no part
pub any_order : (queues : List Placed) (now : Lists) (touched sorted : List ℕ)
    → ((p : ℕ) → has_place touched p ≡ has_place sorted p) → Stands queues now.held now.pending touched
    → Stands queues now.held now.pending sorted
any_order queues now touched sorted same stands = record {
  are = stands.are;
  each = all_weaker (QueueStands now.held now.pending touched) (QueueStands now.held now.pending sorted) queues
      (λ e q. record {
        matched = q.matched;
        quiet = λ out. q.quiet (same e.0 ∙ out);
        used = λ out. q.used (same e.0 ∙ out);
      }) stands.each;
  known = stands.known;
}

pub record Arrived (target : Lists) (stay : List (List ℕ)) (queues : List Placed) (now : Lists) : Type 0 where
  pub lists : now ≡ target
  pub names : names_of queues ≡ stay
  pub nothing : IsQuiet now.held now.pending

-- nothing is left to grant where no place is touched
pub all_quiet : (queues : List Placed) (now : Lists) → Stands queues now.held now.pending []
    → IsQuiet now.held now.pending
all_quiet queues now stands m = by (place_of m queues) refl
  where
    named : (place : ℕ) (l : List Placed) → AllByRecursion (QueueStands now.held now.pending []) l
        → place_of m l ≡ Some place → grants (locks m now.held) (queue m now.pending) ≡ []
    named place [] all at = absurd (none-some place at)
    named place (e ∷ l) all at = at_name (bytes_eq e.1.name m) refl (named place l all.1)
      where
        at_name : (b : Bool) → bytes_eq e.1.name m ≡ b → (place_of m l ≡ Some place
            → grants (locks m now.held) (queue m now.pending) ≡ [])
            → grants (locks m now.held) (queue m now.pending) ≡ []
        at_name true h rest = subst (λ n. grants (locks n now.held) (queue n now.pending) ≡ [])
            (same_text e.1.name m (sym h)) (all.0.quiet refl)
        at_name false h rest = rest (sym (ap (λ c. cond c (Some e.0) (place_of m l)) h) ∙ at)

    by : (o : Option ℕ) → place_of m queues ≡ o → grants (locks m now.held) (queue m now.pending) ≡ []
    by (Some place) at = named place queues stands.each at
    by None none = let k = stands.known m none in ap (λ h. grants h (queue m now.pending)) k.0 ∙ ap (grants []) k.1

pub arrived : (target : Lists) (stay : List (List ℕ)) (queues : List Placed) (now : Lists)
    → Underway target stay queues now [] → Arrived target stay queues now
arrived target stay queues now u =
    let none = all_quiet queues now u.stands in
    let is : now ≡ target = sym (process_all_quiet (names_of queues) now none) ∙ u.reaches in
    record {
      lists = is;
      names = sym (filter_whole (in_use now.held now.pending) (names_of queues) (used queues u.stands.each))
          ∙ ap (λ (t : Lists). filter (in_use t.held t.pending) (names_of queues)) is ∙ u.staying;
      nothing = none;
    }
  where
    used : (l : List Placed) → AllByRecursion (QueueStands now.held now.pending []) l
        → AllByRecursion (λ n. in_use now.held now.pending n ≡ true) (names_of l)
    used [] all = tt
    used (e ∷ l) all = (all.0.used refl, used l all.1)

-- ---- as the code does it

-- the queue at a place grants a number
pub record Granting (place number : ℕ) (queues : List Placed) (lists : Lists) : Type 0 where
  pub name_queue : Waiting
  pub there : at_place place queues ≡ Some name_queue
  pub matches : Matches name_queue lists.held lists.pending
  pub granted : next_grant name_queue ≡ Some number

pub granting : (place number : ℕ) (touched : List ℕ) (queues : List Placed) (lists : Lists)
    → Stands queues lists.held lists.pending touched → Some number ≡ grant_at (at_place place queues)
    → Granting place number queues lists
granting place number touched queues lists stands is = by (at_place place queues) refl
  where
    by : (o : Option Waiting) → at_place place queues ≡ o → Granting place number queues lists
    by None at = absurd (none-some number (sym (is ∙ ap grant_at at)))
    by (Some w) at = record {
      name_queue = w;
      there = at;
      matches =
          (queue_at (QueueStands lists.held lists.pending touched) place w queues stands.are.ordered at
          stands.each).matched;
      granted = sym (is ∙ ap grant_at at);
    }

-- and grants nothing more
pub granted_all : (place : ℕ) (touched : List ℕ) (queues : List Placed) (lists : Lists)
    → Stands queues lists.held lists.pending touched → None ≡ grant_at (at_place place queues) → (w : Waiting)
    → at_place place queues ≡ Some w → process_queue lists w.name ≡ lists
granted_all place touched queues lists stands is w at =
    none_granted w lists (queue_at (QueueStands lists.held lists.pending touched) place w queues stands.are.ordered at
    stands.each).matched (sym (is ∙ ap grant_at at))

pub retired : (place : ℕ) (rest : List ℕ) (target : Lists) (stay : List (List ℕ)) (queues left : List Placed)
    (now : Lists) → left ≡ without_idle place queues → AreQueues left
    → ((w : Waiting) → at_place place queues ≡ Some w → process_queue now w.name ≡ now)
    → Underway target stay queues now (place ∷ rest) → Underway target stay left now rest
retired place rest target stay queues left now is are after_processing u =
    subst (λ l. Underway target stay l now rest) (sym is) (by (at_place place queues) refl)
  where
    at_queue : (w : Waiting) → at_place place queues ≡ Some w → (b : Bool) → is_busy w ≡ b
        → Underway target stay (without_idle place queues) now rest
    at_queue w at true busy = subst (λ l. Underway target stay l now rest)
        (sym (busy_stays place w queues u.stands.are.ordered at busy))
        (one_stays place rest target stay queues now w at (after_processing w at) busy u)
    at_queue w at false idle = one_leaves place rest target stay queues now w at (after_processing w at) idle
        (subst AreQueues is are) u

    by : (o : Option Waiting) → at_place place queues ≡ o → Underway target stay (without_idle place queues) now rest
    by None none = subst (λ l. Underway target stay l now rest) (sym (none_leaves place queues none))
        (none_there place rest target stay queues now none u)
    by (Some w) at = at_queue w at (is_busy w) refl

-- places stay below a bound
pub below_updated : (n place : ℕ) (f : Waiting → Waiting) (l : List Placed) → AllByRecursion (λ (e : Placed). e.0 < n) l
    → AllByRecursion (λ (e : Placed). e.0 < n) (with_updated place f l)
below_updated n place f [] all = tt
below_updated n place f (e ∷ l) all = (all.0, below_updated n place f l all.1)

pub below_left : (n place : ℕ) (l : List Placed) → AllByRecursion (λ (e : Placed). e.0 < n) l
    → AllByRecursion (λ (e : Placed). e.0 < n) (without_idle place l)
below_left n place l all = all_filter (λ (e : Placed). e.0 < n) (stays place) l all

-- a name's queue matches the lists, and a name without one is out of use
pub name_queue_of : (name : List ℕ) (w : Waiting) (queues : List Placed) (held : List HeldRow)
    (pending : List PendingRow) (touched : List ℕ) → Stands queues held pending touched → queue_of name queues ≡ Some w
    → (w.name ≡ name) × Matches w held pending
name_queue_of name w queues held pending touched stands is = by queues stands.each is
  where
    by : (l : List Placed) → AllByRecursion (QueueStands held pending touched) l → queue_of name l ≡ Some w
        → (w.name ≡ name) × Matches w held pending
    by [] all is = absurd (none-some w is)
    by (e ∷ l) all is = at_name (bytes_eq e.1.name name) refl (by l all.1)
      where
        seen : (b : Bool) → bytes_eq e.1.name name ≡ b → cond b (Some e.1) (queue_of name l) ≡ Some w
        seen b h = sym (ap (λ c. cond c (Some e.1) (queue_of name l)) h) ∙ is

        at_name : (b : Bool) → bytes_eq e.1.name name ≡ b → (queue_of name l ≡ Some w
            → (w.name ≡ name) × Matches w held pending) → (w.name ≡ name) × Matches w held pending
        at_name true h rest =
            let same : e.1 ≡ w = ap (λ o. unwrap_or o w) (seen true h) in (
              ap (λ (v : Waiting). v.name) (sym same) ∙ same_text e.1.name name (sym h),
              subst (λ v. Matches v held pending) same all.0.matched,
            )
        at_name false h rest = rest (seen false h)

pub no_name_queue : (name : List ℕ) (queues : List Placed) → queue_of name queues ≡ None → place_of name queues ≡ None
no_name_queue name [] none = refl
no_name_queue name (e ∷ queues) none = by (bytes_eq e.1.name name) refl (no_name_queue name queues)
  where
    by : (b : Bool) → bytes_eq e.1.name name ≡ b → (queue_of name queues ≡ None → place_of name queues ≡ None)
        → cond (bytes_eq e.1.name name) (Some e.0) (place_of name queues) ≡ None
    by true h rest = absurd (none-some e.1 (sym none ∙ ap (λ c. cond c (Some e.1) (queue_of name queues)) h))
    by false h rest = ap (λ c. cond c (Some e.0) (place_of name queues)) h
        ∙ rest (sym (ap (λ c. cond c (Some e.1) (queue_of name queues)) h) ∙ none)

-- nobody holds what no lock is of
pub free_at : (name : List ℕ) (place : ℕ) (queues : List Placed) (held : List HeldRow) (pending : List PendingRow)
    (touched : List ℕ) → Stands queues held pending touched → place_of name queues ≡ Some place → locks name held ≡ []
    → IfSome (at_place place queues) (λ w. w.holders ≡ [])
free_at name place queues held pending touched stands at gone = by (at_place place queues) refl
  where
    by : (o : Option Waiting) → at_place place queues ≡ o → IfSome o (λ w. w.holders ≡ [])
    by None is = tt
    by (Some w) is =
        let name_queue = name_queue_of name w queues held pending touched stands
        (sym (queue_there name place queues stands.are.apart at) ∙ is) in
        name_queue.1.holders ∙ ap (λ n. map lock_and_mode (locks n held)) name_queue.0 ∙ ap (map lock_and_mode) gone
