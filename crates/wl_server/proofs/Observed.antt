-- Looks at the requests of a map, one after another.
use Rattle.std.proofs.Common.{◌≡◌, ◌≢◌, ◌∙◌, All, Contains, ap₂, arith, get_or, length, ℕ, zero, suc, ◌+◌, ◌<◌, ◌≤◌}
use Rattle.std.proofs.Common.{List, [], ◌∷◌, ◌++◌, sym, Less}
use Rattle.std.specs.Prelude.{slice_index}
use Rattle.std.specs.Cmp.{ranked}
use Rattle.std.specs.List.{AllByRecursion}
use Rattle.std.specs.List.Sorted.{IsStrictlyIncreasing, IsStrictlySortedBy}
use Rattle.std.specs.Map.{keys_of}
use Rattle.std.specs.Ordering.{nat_cmp}
use Rattle.std.proofs.lemmas.List.{get_or_default}
use Rattle.std.proofs.lemmas.List.Elements.{All-append, All-push}
use Rattle.std.proofs.lemmas.List.Kept.{AllPairs-from_increasing}
use Rattle.wl_types.specs.declared.phases.Phase.{Phase}
use Rattle.wl_types.specs.declared.phases.Phase.TheVariants.{Granted, Taken}
use Rattle.wl_session.specs.LastReported.{RequestPhase, IsFrom, IsByNumber}
use Rattle.wl_server.specs.declared.fences.Fence.{Fence}

-- the numbers of the entries rise from the low one on
abbrev pub Rises : {X : Type 0} → ℕ → List (ℕ × X) → Type 0
Rises low [] = Unit {0}
Rises low (e ∷ es) = (low ≤ e.0) × Rises (e.0 + 1) es

abbrev pub AreBelow : ℕ → List RequestPhase → Type 0
AreBelow top [] = Unit {0}
AreBelow top (l ∷ ls) = (l.0 < top) × AreBelow top ls

-- the entries that are left have numbers that rise, all of them above those observed
abbrev pub AreToCome : {X : Type 0} → List RequestPhase → List (ℕ × X) → Type 0
AreToCome observed rest = (low : ℕ) × AreBelow low observed × Rises low rest

below_higher : (ls : List RequestPhase) (low high : ℕ) → low ≤ high → AreBelow low ls → AreBelow high ls
below_higher [] low high le h = tt
below_higher (l ∷ ls) low high le h = (omega (arith, h.0, le), below_higher ls low high le h.1)

below_more : (ls : List RequestPhase) (x : RequestPhase) (top : ℕ) → AreBelow top ls → x.0 < top
    → AreBelow top (ls ++ x ∷ [])
below_more [] x top h lt = (lt, tt)
below_more (l ∷ ls) x top h lt = (h.0, below_more ls x top h.1 lt)

from_more : (ls : List RequestPhase) (x : RequestPhase) (low : ℕ) → IsFrom low ls → AreBelow x.0 ls → low ≤ x.0
    → IsFrom low (ls ++ x ∷ [])
from_more [] x low h below le = (le, tt)
from_more (l ∷ ls) x low h below le = (h.0, from_more ls x (l.0 + 1) h.1 below.1 (omega (arith, below.0)))

-- an entry is passed over
pub passed : {X : Type 0} (observed : List RequestPhase) (e : ℕ × X) (rest : List (ℕ × X))
    → AreToCome observed (e ∷ rest) → AreToCome observed rest
passed observed e rest (low, below, rises) = (
  e.0 + 1,
  below_higher observed low (e.0 + 1) (omega (arith, rises.0))
      below,
  rises.1,
)

-- an entry is looked at
pub observed_more : {X : Type 0} (observed : List RequestPhase) (p : Phase) (e : ℕ × X) (rest : List (ℕ × X))
    → IsByNumber observed → AreToCome observed (e ∷ rest)
    → IsByNumber (observed ++ (e.0, p) ∷ []) × AreToCome (observed ++ (e.0, p) ∷ []) rest
observed_more observed p e rest by_number (low, below, rises) =
    let under : AreBelow e.0 observed = below_higher observed low e.0 rises.0 below in (
      from_more observed (e.0, p) 0 by_number under (omega arith),
      (
        e.0 + 1,
        below_more observed (e.0, p) (e.0 + 1) (below_higher observed e.0 (e.0 + 1) (omega arith) under)
            (omega arith),
        rises.1,
      ),
    )

above : (k : ℕ) (ks : List ℕ) → AllByRecursion (λ y. nat_cmp k y ≡ Less) ks → AllByRecursion (λ y. k + 1 ≤ y) ks
above k [] h = tt
above k (y ∷ ks) h = (let lt : k < y = ranked k y Less (sym h.0) in omega arith, above k ks h.1)

any : (ks : List ℕ) → AllByRecursion (λ y. 0 ≤ y) ks
any [] = tt
any (y ∷ ks) = (omega arith, any ks)

rises_from : {X : Type 0} (es : List (ℕ × X)) (low : ℕ) → AllByRecursion (λ y. low ≤ y) (keys_of es)
    → IsStrictlySortedBy nat_cmp (keys_of es) → Rises low es
unfolding IsStrictlySortedBy
rises_from [] low h sorted = tt
rises_from (e ∷ es) low h sorted = (h.0, rises_from es (e.0 + 1) (above e.0 (keys_of es) sorted.0) sorted.1)

-- at first all entries of a map are left
pub at_first : {X : Type 0} (es : List (ℕ × X)) → IsStrictlySortedBy nat_cmp (keys_of es) → AreToCome [] es
at_first es sorted = (0, tt, rises_from es 0 (any (keys_of es)) sorted)

-- each number from that place on is above those observed
abbrev pub AreBelowAll : List ℕ → ℕ → List RequestPhase → Type 0
AreBelowAll numbers at observed = (k : ℕ) → at ≤ k → k < length numbers → AreBelow (slice_index numbers k) observed

-- an observation of the number at that place
pub one_more : (observed : List RequestPhase) (numbers : List ℕ) (at : ℕ) (p : Phase) → IsStrictlyIncreasing numbers
    → at < length numbers → IsByNumber observed → AreBelowAll numbers at observed
    → IsByNumber (observed ++ (slice_index numbers at, p) ∷ [])
    × AreBelowAll numbers (at + 1) (observed ++ (slice_index numbers at, p) ∷ [])
one_more observed numbers at p rising lt by_number below = (
  from_more observed (slice_index numbers at, p) 0 by_number (below at (omega arith) lt) (omega arith),
  λ k le within. below_more observed (slice_index numbers at, p) (slice_index numbers k)
      (below k (omega (arith, le)) within)
      (AllPairs-from_increasing numbers rising at k 0 (omega (arith, le)) within),
)

pub none_more : (observed : List RequestPhase) (numbers : List ℕ) (at : ℕ) → AreBelowAll numbers at observed
    → AreBelowAll numbers (at + 1) observed
none_more observed numbers at below = λ k le. below k (omega (arith, le))

-- and one that was taken, where it was granted
pub taken_more : (observed : List RequestPhase) (number : ℕ) (p : Phase)
    → All (λ observation. observation.1 ≢ Granted) observed → p ≢ Granted
    → All (λ observation. observation.1 ≢ Granted) (observed ++ (number, p) ∷ [])
taken_more observed number p all is = All-append (λ (observation : RequestPhase). observation.1 ≢ Granted) observed
    ((number, p) ∷ []) all last
  where
    last : All (λ (observation : RequestPhase). observation.1 ≢ Granted) ((number, p) ∷ [])
    last zero d within = is
    last (suc k) d within = absurd (omega (arith, within))

-- one more fence, of an observation that found a lock taken
pub fenced_more : (observed : List RequestPhase) (fences : List Fence) (i : ℕ) (d : RequestPhase) (f : Fence)
    → All (λ fence. Contains observed (fence.request, Taken)) fences
    → i < length observed → f.request ≡ (get_or observed i d).0 → (get_or observed i d).1 ≡ Taken
    → All (λ fence. Contains observed (fence.request, Taken)) (fences ++ f ∷ [])
fenced_more observed fences i d f all lt number taken = All-push
    (λ (fence : Fence). Contains observed (fence.request, Taken)) fences f all (i, lt, at)
  where
    at : get_or observed i (f.request, Taken) ≡ (f.request, Taken)
    at = get_or_default observed i (f.request, Taken) d lt ∙ ap₂ (λ n p. (n, p)) (sym number) taken
