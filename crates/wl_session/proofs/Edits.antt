-- Edits at a number's place are `put`, and ends leave.
use Rattle.std.proofs.Common.{◌≡◌, ℕ, suc, ◌+◌, ◌<◌, List, [], ◌∷◌, ◌++◌, Bool, true, false, cond, All, filter, fold}
use Rattle.std.proofs.Common.{length, get_or, take, drop, set, ltb, refl, sym, ap, subst, ◌∙◌, arith}
use Rattle.std.specs.List.{insert, remove}
use Rattle.std.proofs.lemmas.List.{take-append-drop, take-set, drop-set}
use Rattle.std.proofs.lemmas.List.Elements.{recursion_from_All, All-filter, filter-append, filter_passes}
use Rattle.std.proofs.lemmas.List.Sums.{fold_more}
use Rattle.wl_types.proofs.Lists.{filter_whole}
use Rattle.wl_session.specs.LastReported.{RequestPhase, IsByNumber, is_live, before, beyond, put, with_observed}
use Rattle.wl_session.specs.inner.LastReported.{IsReportedList}
use Rattle.wl_session.specs.inner.Places.{IsAt, IsGapFor}
use Rattle.wl_session.specs.inner.Upkeep.{IsKept}
use Rattle.wl_session.proofs.Order.{from_filter, by_number_put}

set_split : {X : Type 0} (xs : List X) (i : ℕ) (y : X) → i < length xs → set xs i y ≡ take i xs ++ y ∷ drop (i + 1) xs
set_split xs i y lt = sym (take-append-drop i (set xs i y)) ∙ rw (take-set xs i y, drop-set xs i y lt) refl

pub set_is_put : (ls : List RequestPhase) (l : RequestPhase) (at : ℕ) → IsAt ls l.0 at → set ls at l ≡ put ls l
set_is_put ls l at p = set_split ls at l p.in_range ∙ rw (p.lower, p.higher) refl

pub insert_is_put : (ls : List RequestPhase) (l : RequestPhase) (at : ℕ) → IsGapFor ls l.0 at
    → insert ls at l ≡ put ls l
insert_is_put ls l at p = rw (p.lower, p.higher) refl

-- ---- ends leave

pub live_of_reported : (ls : List RequestPhase) → IsReportedList ls → filter is_live ls ≡ ls
live_of_reported ls t = filter_whole is_live ls (recursion_from_All _ _ t.live)

live_part : (p : RequestPhase → Bool) (ls : List RequestPhase) → All (λ l. is_live l ≡ true) ls
    → filter is_live (filter p ls) ≡ filter p ls
live_part p ls live = filter_whole is_live (filter p ls) (recursion_from_All _ _
    (All-filter p (λ l. is_live l ≡ true) ls live))

put_live : (ls : List RequestPhase) (l : RequestPhase) (b : Bool) → All (λ l. is_live l ≡ true) ls → is_live l ≡ b
    → filter is_live (put ls l) ≡ before l.0 ls ++ cond b (l ∷ beyond l.0 ls) (beyond l.0 ls)
put_live ls l b live is =
    filter-append is_live (before l.0 ls) (l ∷ beyond l.0 ls)
    ∙ rw (live_part (λ x. ltb x.0 l.0) ls live, live_part (λ x. ltb l.0 x.0) ls live, is) refl

-- what a reported list becomes where an end was found
pub end_leaves : (ls : List RequestPhase) (l : RequestPhase) (at : ℕ) → IsReportedList ls → is_live l ≡ false
    → IsAt ls l.0 at → remove ls at ≡ filter is_live (put ls l)
end_leaves ls l at t is p =
    let higher : drop (suc at) ls ≡ beyond l.0 ls = (let next : suc at ≡ at + 1 = omega arith in rw next p.higher) in
    rw (p.lower, higher) refl ∙ sym (put_live ls l false t.live is)

pub end_of_another : (ls : List RequestPhase) (l : RequestPhase) (at : ℕ) → IsReportedList ls → is_live l ≡ false
    → IsGapFor ls l.0 at → ls ≡ filter is_live (put ls l)
end_of_another ls l at t is p = sym (take-append-drop at ls) ∙ rw (p.lower, p.higher) refl
    ∙ sym (put_live ls l false t.live is)

-- and where none was
pub put_is_live : (ls : List RequestPhase) (l : RequestPhase) → IsReportedList ls → is_live l ≡ true
    → put ls l ≡ filter is_live (put ls l)
put_is_live ls l t is = sym (put_live ls l true t.live is)

pub reported_list_left : (ls : List RequestPhase) → IsByNumber ls → IsReportedList (filter is_live ls)
reported_list_left ls h = record { by_number = from_filter is_live ls 0 h; live = filter_passes is_live ls }

pub reported_list_put : (ls xs : List RequestPhase) (l : RequestPhase) → IsReportedList ls
    → xs ≡ filter is_live (put ls l) → IsReportedList xs
reported_list_put ls xs l t is = subst IsReportedList (sym is)
    (reported_list_left (put ls l) (by_number_put ls l t.by_number))

-- ---- one look after another

-- what fails a test plays no part in what passes it
part_first : (p q : RequestPhase → Bool) (b c : Bool) (x : RequestPhase) (front : List RequestPhase)
    (xs : List RequestPhase) → p x ≡ b → q x ≡ c
    → filter p (filter q (filter p xs)) ≡ filter p (filter q xs)
    → filter p (filter q (cond b (x ∷ filter p xs) (filter p xs))) ≡ filter p (cond c (x ∷ filter q xs) (filter q xs))
part_first p q true true x front xs e f rest = rw (f, e) (ap (λ (ls : List RequestPhase). x ∷ ls) rest)
part_first p q true false x front xs e f rest = rw f rest
part_first p q false true x front xs e f rest = rw e rest
part_first p q false false x front xs e f rest = rest

filter_first : (p q : RequestPhase → Bool) (xs : List RequestPhase)
    → filter p (filter q (filter p xs)) ≡ filter p (filter q xs)
filter_first p q [] = refl
filter_first p q (x ∷ xs) = part_first p q (p x) (q x) x [] xs refl refl (filter_first p q xs)

-- ends may leave before an observation is put or after it
live_first : (xs : List RequestPhase) (l : RequestPhase) → filter is_live (put (filter is_live xs) l)
    ≡ filter is_live (put xs l)
live_first xs l =
    filter-append is_live (before l.0 (filter is_live xs)) (l ∷ beyond l.0 (filter is_live xs))
    ∙ rw (filter_first is_live (λ x. ltb x.0 l.0) xs, filter_first is_live (λ x. ltb l.0 x.0) xs) refl
    ∙ sym (filter-append is_live (before l.0 xs) (l ∷ beyond l.0 xs))

pub with_observed_none : (last_reported : List RequestPhase) → IsReportedList last_reported
    → with_observed last_reported [] ≡ last_reported
with_observed_none last_reported t = live_of_reported last_reported t

pub with_observed_more : (last_reported observed now next : List RequestPhase) (i : ℕ) (d : RequestPhase)
    → i < length observed → now ≡ with_observed last_reported (take i observed)
    → next ≡ filter is_live (put now (get_or observed i d)) → next ≡ with_observed last_reported (take (i + 1) observed)
with_observed_more last_reported observed now next i d lt so_far made =
    made ∙ ap (λ (xs : List RequestPhase). filter is_live (put xs (get_or observed i d))) so_far
    ∙ live_first (fold put last_reported (take i observed)) (get_or observed i d)
    ∙ ap (filter is_live) (sym (fold_more put last_reported observed i d lt))

-- ends may leave before the observations are put or after them
pub live_then_observed : (xs observed : List RequestPhase) → filter is_live (fold put xs observed)
    ≡ with_observed (filter is_live xs) observed
live_then_observed xs [] = sym (filter_whole is_live (filter is_live xs)
    (recursion_from_All _ _ (filter_passes is_live xs)))
live_then_observed xs (l ∷ ls) =
    live_then_observed (put xs l) ls
    ∙ ap (λ (now : List RequestPhase). with_observed now ls) (sym (live_first xs l))
    ∙ sym (live_then_observed (put (filter is_live xs) l) ls)

-- where ends leave at once, what is kept is a reported list
pub kept_is_reported : (ls : List RequestPhase) → IsKept true ls → IsReportedList ls
kept_is_reported ls k = record { by_number = k.by_number; live = k.live refl }
