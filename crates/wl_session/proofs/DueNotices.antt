-- Which observations are due a notice, and that it may be written.
use Rattle.std.proofs.Common.{◌≡◌, List, [], ◌∷◌, Bool, true, false, cond, All, map, refl}
use Rattle.std.specs.List.{AllByRecursion}
use Rattle.std.proofs.lemmas.List.Elements.{All-from_recursion}
use Rattle.wl_types.specs.declared.phases.Phase.{Phase}
use Rattle.wl_types.specs.declared.phases.Phase.TheVariants.{Pending, Granted, Taken, Unavailable, Aborted, Released}
use Rattle.wl_types.specs.declared.phases.Phase.TheVariants.{Stolen}
use Rattle.wl_codec.specs.declared.reply.Notice.{Notice}
use Rattle.wl_codec.specs.declared.reply.Outcome.{Outcome}
use Rattle.wl_codec.specs.Replies.{IsReported}
use Rattle.wl_session.specs.LastReported.{RequestPhase, is_notice_due, notice, reported_phase, due_notices}
use Rattle.wl_session.specs.Step.{notices, carries_notices}

abbrev pub is_due : Outcome → List RequestPhase → RequestPhase → Bool
is_due o last_reported l = is_notice_due (reported_phase o last_reported l.0) l.1

-- ---- what is reported may be written

abbrev IsWritable : Notice → Type 0
IsWritable n = IsReported n.phase

reported_if_due : (last_reported found : Phase) → is_notice_due last_reported found ≡ true → IsReported found
reported_if_due last_reported Pending e = absurd cc
reported_if_due last_reported Granted e = absurd cc
reported_if_due last_reported Taken e = tt
reported_if_due last_reported Unavailable e = tt
reported_if_due last_reported (Aborted reason) e = tt
reported_if_due last_reported Released e = absurd cc
reported_if_due last_reported Stolen e = tt

kept : (b : Bool) (l : RequestPhase) (rest : List RequestPhase) → (b ≡ true → IsReported l.1)
    → AllByRecursion IsWritable (map notice rest) → AllByRecursion IsWritable (map notice (cond b (l ∷ rest) rest))
kept true l rest here later = (here refl, later)
kept false l rest here later = later

each_writable : (o : Outcome) (last_reported observed : List RequestPhase)
    → AllByRecursion IsWritable (due_notices o last_reported observed)
each_writable o last_reported [] = tt
each_writable o last_reported (l ∷ ls) = kept (is_due o last_reported l) l _
    (reported_if_due (reported_phase o last_reported l.0) l.1) (each_writable o last_reported ls)

some_notices : (b : Bool) (o : Outcome) (last_reported observed : List RequestPhase)
    → AllByRecursion IsWritable (cond b (due_notices o last_reported observed) [])
some_notices true o last_reported observed = each_writable o last_reported observed
some_notices false o last_reported observed = tt

pub writable : (last_reported : List RequestPhase) (o : Outcome) (observed : List RequestPhase)
    → All IsWritable (notices last_reported o observed)
writable last_reported o observed = All-from_recursion _ _ (some_notices (carries_notices o) o last_reported observed)
