-- Laws of what is reported (own).
use Rattle.std.specs.Prelude.{◌≡◌, ◌≢◌, ◌↔◌, List, true, false, filter}
use Rattle.wl_types.specs.Phases.{Reaches, is_end}
use Rattle.wl_types.specs.declared.phases.Phase.{Phase}
use Rattle.wl_types.specs.declared.phases.Phase.TheVariants.{Granted, Released}
use Rattle.wl_codec.specs.declared.reply.Outcome.{Outcome}
use Rattle.wl_session.specs.LastReported.{RequestPhase, IsByNumber, is_live, is_notice_due, due_notices, with_observed}
use Rattle.wl_session.specs.LastReported.{with_released}
use Rattle.wl_session.specs.Entries.{Entry, AreEntries, last_reported_before, observed_of, entry_notices, entries_left}

-- Where no end was reported, a phase that is reached is due a notice just if it is another than the one last reported
-- and not a release. A grant is taken before it is looked at.
abbrev pub ReportsWherePhasesDiffer : Type 0
ReportsWherePhasesDiffer = (last_reported found : Phase) → is_end last_reported ≡ false → Reaches last_reported found
    → found ≢ Granted
    → (is_notice_due last_reported found ≡ true) ↔ ((last_reported ≢ found) × (found ≢ Released))

-- Notices are found request by request.
abbrev pub NoticesAreByRequest : Type 0
NoticesAreByRequest = (o : Outcome) (es : List Entry) → AreEntries o es
    → due_notices o (last_reported_before o es) (observed_of es) ≡ entry_notices es

-- So is the list that is left.
abbrev pub LeftIsByRequest : Type 0
LeftIsByRequest = (o : Outcome) (es : List Entry) → AreEntries o es
    → with_observed (last_reported_before o es) (observed_of es) ≡ entries_left es

-- Where observations leave out just what was released, the observations without ends are the new list.
abbrev pub ObservedAreLeft : Type 0
ObservedAreLeft = (last_reported observed : List RequestPhase) → IsByNumber last_reported → IsByNumber observed
    → with_observed last_reported (with_released last_reported observed) ≡ filter is_live observed

-- Observations that leave out just what was released give the notices that they give with it.
abbrev pub ObservedDecideNotices : Type 0
ObservedDecideNotices = (o : Outcome) (last_reported observed : List RequestPhase) → IsByNumber last_reported
    → IsByNumber observed
    → due_notices o last_reported (with_released last_reported observed) ≡ due_notices o last_reported observed
