-- An agent's requests at a reply: what was last reported of each, and what was found (own).
use Rattle.std.specs.Prelude.{◌≡◌, ℕ, List, Bool, true, false, All, map, filter, not}
use Rattle.wl_types.specs.declared.phases.Phase.{Phase}
use Rattle.wl_types.specs.declared.phases.Phase.TheVariants.{Pending}
use Rattle.wl_types.specs.Phases.{is_end}
use Rattle.wl_codec.specs.declared.reply.Notice.{Notice}
use Rattle.wl_codec.specs.declared.reply.Outcome.{Outcome}
use Rattle.wl_session.specs.LastReported.{RequestPhase, IsByNumber, is_new, is_notice_due}

-- a request, the phase last reported, the phase found, and whether an observation names it
pub record Entry : Type 0 where
  pub request : ℕ
  pub last_reported : Phase
  pub found : Phase
  pub is_named : Bool

abbrev pub last_reported_of : Entry → RequestPhase
last_reported_of e = (e.request, e.last_reported)

abbrev pub found_of : Entry → RequestPhase
found_of e = (e.request, e.found)

-- the list before the reply, but for the request that the reply answers
abbrev pub last_reported_before : Outcome → List Entry → List RequestPhase
last_reported_before o es = map last_reported_of (filter (λ e. not (is_new o e.request)) es)

-- the observations: the requests that are named, with the phases found
abbrev pub observed_of : List Entry → List RequestPhase
observed_of es = map found_of (filter (λ e. e.is_named) es)

-- A request that the reply answers is named and was told nothing; another may be left out where nothing changed.
pub record Stands (o : Outcome) (e : Entry) : Type 0 where
  pub live : is_end e.last_reported ≡ false
  pub new_is_pending : is_new o e.request ≡ true → e.last_reported ≡ Pending
  pub new_is_named : is_new o e.request ≡ true → e.is_named ≡ true
  pub left_out_is_same : e.is_named ≡ false → e.found ≡ e.last_reported

-- each request once, by number
abbrev pub AreEntries : Outcome → List Entry → Type 0
AreEntries o es = IsByNumber (map last_reported_of es) × All (Stands o) es

-- a notice of each request whose phase found is due one
abbrev pub entry_notices : List Entry → List Notice
entry_notices es = map (λ e. record { request = e.request; phase = e.found })
    (filter (λ e. is_notice_due e.last_reported e.found) es)

-- told becomes found, and ends leave
abbrev pub entries_left : List Entry → List RequestPhase
entries_left es = map found_of (filter (λ e. not (is_end e.found)) es)
