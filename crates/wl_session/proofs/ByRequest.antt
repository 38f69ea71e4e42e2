-- Notices and the list that is left, request by request.
use Rattle.std.proofs.Common.{◌≡◌, ℕ, ◌+◌, ◌≤◌, List, [], ◌∷◌, Bool, true, false, cond, not, map, filter, fold, eqb}
use Rattle.std.proofs.Common.{refl, sym, ap, ◌∙◌, arith}
use Rattle.std.specs.List.{AllByRecursion}
use Rattle.std.proofs.lemmas.Bool.{ne_eqb, eq-eqb}
use Rattle.std.proofs.lemmas.List.Elements.{recursion_from_All}
use Rattle.wl_types.specs.declared.phases.Phase.{Phase}
use Rattle.wl_types.specs.declared.phases.Phase.TheVariants.{Pending, Granted, Taken, Unavailable, Aborted, Released}
use Rattle.wl_types.specs.declared.phases.Phase.TheVariants.{Stolen}
use Rattle.wl_types.specs.Phases.{is_end}
use Rattle.wl_codec.specs.declared.reply.Notice.{Notice}
use Rattle.wl_codec.specs.declared.reply.Outcome.{Outcome}
use Rattle.wl_session.specs.LastReported.{RequestPhase, IsFrom, is_live, put, phase_in, reported_phase, is_new}
use Rattle.wl_session.specs.LastReported.{is_notice_due, notice, due_notices}
use Rattle.wl_session.specs.Entries.{Entry, Stands, last_reported_of, found_of, last_reported_before, observed_of}
use Rattle.wl_session.specs.Entries.{entry_notices, entries_left}
use Rattle.wl_session.specs.Laws.{NoticesAreByRequest, LeftIsByRequest}
use Rattle.wl_session.proofs.Order.{from_lower, put_over, put_first, fold_behind}
use Rattle.wl_session.proofs.DueNotices.{is_due}

-- some of the requests, each with a phase, are by number as all are
kept_from : (b : Bool) (phase : Entry → Phase) (e : Entry) (es : List Entry) (low : ℕ) → low ≤ e.request
    → IsFrom (e.request + 1) (map (λ x. (x.request, phase x)) es)
    → IsFrom low (map (λ x. (x.request, phase x)) (cond b (e ∷ es) es))
kept_from true phase e es low le h = (le, h)
kept_from false phase e es low le h = from_lower _ low (e.request + 1) (omega (arith, le)) h

part_from : (p : Entry → Bool) (phase : Entry → Phase) (es : List Entry) (low : ℕ)
    → IsFrom low (map last_reported_of es) → IsFrom low (map (λ e. (e.request, phase e)) (filter p es))
part_from p phase [] low h = tt
part_from p phase (e ∷ es) low h = kept_from (p e) phase e (filter p es) low h.0
    (part_from p phase es (e.request + 1) h.1)

-- ---- the list that is left

-- one request more, which is new or was told, and is named or left out
one_more : (is_new' is_named : Bool) (e : Entry) (listed named : List Entry) (rest : List RequestPhase)
    → (is_new' ≡ true → is_named ≡ true) → (is_named ≡ false → e.found ≡ e.last_reported)
    → IsFrom (e.request + 1) (map last_reported_of listed) → IsFrom (e.request + 1) (map found_of named)
    → fold put (map last_reported_of listed) (map found_of named) ≡ rest
    → fold put (map last_reported_of (cond (not is_new') (e ∷ listed) listed))
    (map found_of (cond is_named (e ∷ named) named)) ≡ found_of e ∷ rest
one_more true true e listed named rest n s t l is =
    ap (λ (now : List RequestPhase). fold put now (map found_of named))
    (put_first (map last_reported_of listed) (found_of e) t)
    ∙ fold_behind (found_of e) (map last_reported_of listed) (map found_of named) l
    ∙ ap (λ (ls : List RequestPhase). found_of e ∷ ls) is
one_more false true e listed named rest n s t l is =
    ap (λ (now : List RequestPhase). fold put now (map found_of named))
    (put_over (last_reported_of e) (map last_reported_of listed) (found_of e) refl t)
    ∙ fold_behind (found_of e) (map last_reported_of listed) (map found_of named) l
    ∙ ap (λ (ls : List RequestPhase). found_of e ∷ ls) is
one_more true false e listed named rest n s t l is = absurd (let wrong = n refl in cc)
one_more false false e listed named rest n s t l is =
    fold_behind (last_reported_of e) (map last_reported_of listed) (map found_of named) l
    ∙ ap (λ (ls : List RequestPhase). last_reported_of e ∷ ls) is
    ∙ ap (λ (p : Phase). (let first : RequestPhase = (e.request, p) in first) ∷ rest) (sym (s refl))

-- each request stands there with the phase found
all_found : (o : Outcome) (es : List Entry) (low : ℕ) → IsFrom low (map last_reported_of es)
    → AllByRecursion (Stands o) es → fold put (last_reported_before o es) (observed_of es) ≡ map found_of es
all_found o [] low h s = refl
all_found o (e ∷ es) low h s =
    one_more (is_new o e.request) e.is_named e (filter (λ x. not (is_new o x.request)) es) (filter (λ x. x.is_named) es)
    (map found_of es)
    s.0.new_is_named s.0.left_out_is_same
    (part_from (λ x. not (is_new o x.request)) (λ x. x.last_reported) es (e.request + 1) h.1)
    (part_from (λ x. x.is_named) (λ x. x.found) es (e.request + 1) h.1)
    (all_found o es (e.request + 1) h.1 s.1)

left_at : (b : Bool) (e : Entry) (observed : List RequestPhase) (es : List Entry) → observed ≡ map found_of es
    → cond b (found_of e ∷ observed) observed ≡ map found_of (cond b (e ∷ es) es)
left_at true e observed es h = ap (λ (ls : List RequestPhase). found_of e ∷ ls) h
left_at false e observed es h = h

live_found : (es : List Entry) → filter is_live (map found_of es) ≡ entries_left es
live_found [] = refl
live_found (e ∷ es) = left_at (not (is_end e.found)) e _ _ (live_found es)

pub left_is_by_request : LeftIsByRequest
left_is_by_request o es h = ap (filter is_live) (all_found o es 0 h.0 (recursion_from_All _ _ h.1)) ∙ live_found es

-- ---- notices

abbrev IsReportedIn : Outcome → List RequestPhase → Entry → Type 0
IsReportedIn o last_reported e = reported_phase o last_reported e.request ≡ e.last_reported

-- a request more, with a lower number, plays no part
push_reported : (o : Outcome) (l : RequestPhase) (last_reported : List RequestPhase) (es : List Entry)
    → IsFrom (l.0 + 1) (map last_reported_of es) → AllByRecursion (IsReportedIn o last_reported) es
    → AllByRecursion (IsReportedIn o (l ∷ last_reported)) es
push_reported o l last_reported [] above h = tt
push_reported o l last_reported (e ∷ es) above h =
    let other : eqb l.0 e.request ≡ false = ne_eqb l.0 e.request (λ q. omega (arith, above.0)) in (
      rw other h.0,
      push_reported o l last_reported es (from_lower _ (l.0 + 1) (e.request + 1) (omega (arith, above.0))
          above.1) h.1,
    )

first_reported : (b : Bool) (e : Entry) (es : List Entry) → (b ≡ true → e.last_reported ≡ Pending)
    → cond b Pending (phase_in (map last_reported_of (cond (not b) (e ∷ es) es)) e.request) ≡ e.last_reported
first_reported true e es h = sym (h refl)
first_reported false e es h = rw (eq-eqb e.request e.request refl) refl

rest_reported : (b : Bool) (o : Outcome) (e : Entry) (listed es : List Entry)
    → IsFrom (e.request + 1) (map last_reported_of es) → AllByRecursion
    (IsReportedIn o (map last_reported_of listed)) es
    → AllByRecursion (IsReportedIn o (map last_reported_of (cond (not b) (e ∷ listed) listed))) es
rest_reported true o e listed es above h = h
rest_reported false o e listed es above h = push_reported o (last_reported_of e) (map last_reported_of listed) es above
    h

each_reported : (o : Outcome) (es : List Entry) (low : ℕ) → IsFrom low (map last_reported_of es)
    → AllByRecursion (Stands o) es → AllByRecursion (IsReportedIn o (last_reported_before o es)) es
each_reported o [] low h s = tt
each_reported o (e ∷ es) low h s = (
  first_reported (is_new o e.request) e (filter (λ x. not (is_new o x.request)) es) s.0.new_is_pending,
  rest_reported (is_new o e.request) o e (filter (λ x. not (is_new o x.request)) es) es h.1
      (each_reported o es (e.request + 1) h.1 s.1),
)

no_notice : (p : Phase) → is_end p ≡ false → is_notice_due p p ≡ false
no_notice Pending live = refl
no_notice Granted live = refl
no_notice Taken live = refl
no_notice Unavailable live = absurd cc
no_notice (Aborted reason) live = absurd cc
no_notice Released live = refl
no_notice Stolen live = absurd cc

same_is_no_notice : (last_reported found : Phase) → is_end last_reported ≡ false → found ≡ last_reported
    → is_notice_due last_reported found ≡ false
same_is_no_notice last_reported found live same = rw same (no_notice last_reported live)

abbrev entry_notice : Entry → Notice
entry_notice e = record { request = e.request; phase = e.found }

noticed : (b : Bool) (e : Entry) (observed : List RequestPhase) (es : List Entry)
    → map notice observed ≡ map entry_notice es
    → map notice (cond b (found_of e ∷ observed) observed) ≡ map entry_notice (cond b (e ∷ es) es)
noticed true e observed es h = ap (λ (ns : List Notice). entry_notice e ∷ ns) h
noticed false e observed es h = h

one_noticed : (is_named : Bool) (o : Outcome) (last_reported : List RequestPhase) (e : Entry) (named es : List Entry)
    → IsReportedIn o last_reported e → Stands o e → e.is_named ≡ is_named
    → due_notices o last_reported (map found_of named) ≡ map entry_notice es
    → due_notices o last_reported (map found_of (cond is_named (e ∷ named) named))
    ≡ map entry_notice (cond (is_notice_due e.last_reported e.found) (e ∷ es) es)
one_noticed true o last_reported e named es t s is h = rw t
    (noticed (is_notice_due e.last_reported e.found) e (filter (is_due o last_reported) (map found_of named)) es h)
one_noticed false o last_reported e named es t s is h = rw (same_is_no_notice e.last_reported e.found s.live
    (s.left_out_is_same is)) h

notices_by_request : (o : Outcome) (last_reported : List RequestPhase) (es : List Entry)
    → AllByRecursion (IsReportedIn o last_reported) es → AllByRecursion (Stands o) es
    → due_notices o last_reported (observed_of es) ≡ entry_notices es
notices_by_request o last_reported [] t s = refl
notices_by_request o last_reported (e ∷ es) t s =
    one_noticed e.is_named o last_reported e (filter (λ x. x.is_named) es)
    (filter (λ x. is_notice_due x.last_reported x.found) es) t.0 s.0 refl
    (notices_by_request o last_reported es t.1 s.1)

pub notices_are_by_request : NoticesAreByRequest
notices_are_by_request o es h =
    let s = recursion_from_All _ _ h.1 in
    notices_by_request o (last_reported_before o es) es (each_reported o es 0 h.0 s) s
