-- The numbers by which the requests of an agent, and those with each of its signals, are found (own).
use Rattle.std.specs.Prelude.{◌≡◌, ℕ, ◌==◌, Bool, not, List, [], filter, Option, Some, None, IsSome, is_some}
use Rattle.std.specs.List.{AllByRecursion, Contains, list_any}
use Rattle.std.specs.List.Sorted.{IsStrictlySortedBy}
use Rattle.std.specs.Map.{lookup}
use Rattle.std.specs.BTreeMap.{is_at}
use Rattle.std.specs.Ordering.{nat_cmp}
use Rattle.std.specs.declared.vec.Vec.{Vec}
use Rattle.wl_index.specs.declared.agent.Agent.{Agent}
use Rattle.wl_index.specs.declared.request.Owner.{Owner}
use Rattle.wl_index.specs.declared.request.Owner.TheVariants as owner
use Rattle.wl_index.specs.inner.Rows.{Entry, Tag}

-- what stands at a number
abbrev pub at : {X : Type 0} → ℕ → List (ℕ × X) → Option X
at number entries = lookup (is_at (nat_cmp number)) entries

-- the numbers on a list; no list has none
abbrev pub numbers_on : {Z : Type 0} → Option (Vec ℕ Z) → List ℕ
numbers_on None = []
numbers_on (Some list) = list.items

abbrev pub list_at : {Z : Type 0} → ℕ → List (ℕ × Vec ℕ Z) → List ℕ
list_at signal entries = numbers_on (at signal entries)

abbrev pub own_of : Option Agent → List ℕ
own_of None = []
own_of (Some agent) = agent.requests.items

abbrev pub signed_of : ℕ → Option Agent → List ℕ
signed_of signal None = []
signed_of signal (Some agent) = list_at signal agent.signals.entries

-- an agent's numbers rise, and so do each signal's
pub record IsRising (group : Option Agent) : Type 0 where
  pub own : IsStrictlySortedBy nat_cmp (own_of group)
  pub signed : (signal : ℕ) → IsStrictlySortedBy nat_cmp (signed_of signal group)

-- the numbers of live requests
abbrev pub only_live : List Entry → List ℕ → List ℕ
only_live live numbers = filter (λ n. is_some (at n live)) numbers

-- numbers of live requests stay on a list
abbrev pub KeepsLive : List Entry → List ℕ → List ℕ → Type 0
KeepsLive live before after = (number : ℕ) → IsSome (at number live) → Contains before number → Contains after number

pub record Keeps (live : List Entry) (before after : Option Agent) : Type 0 where
  pub own : KeepsLive live (own_of before) (own_of after)
  pub signed : (signal : ℕ) → KeepsLive live (signed_of signal before) (signed_of signal after)

-- a number is among the agent's, and among those of its signal
pub record IsOn (group : Option Agent) (number : ℕ) (signal : Option ℕ) : Type 0 where
  pub own : Contains (own_of group) number
  pub signed : (s : ℕ) → signal ≡ Some s → Contains (signed_of s group) number

-- each live request is on its agent's lists
abbrev pub IsGrouped : List Tag → List (ℕ × Agent) → Type 0
IsGrouped tags agents = AllByRecursion (λ (t : Tag). IsOn (at t.agent agents) t.number t.signal) tags

-- the numbers that are listed of an owner
abbrev pub numbers_of_owner : Owner → List (ℕ × Agent) → List ℕ
numbers_of_owner (owner.Signal agent signal) agents = signed_of signal (at agent agents)
numbers_of_owner (owner.Agent agent) agents = own_of (at agent agents)

-- the lists stay
abbrev pub SameLists : List (ℕ × Agent) → List (ℕ × Agent) → Type 0
SameLists before after = (agent : ℕ) → (own_of (at agent after) ≡ own_of (at agent before))
    × ((signal : ℕ) → signed_of signal (at agent after) ≡ signed_of signal (at agent before))

-- whether an entry's number is not among these
abbrev pub is_spared : {X : Type 0} → List ℕ → ℕ × X → Bool
is_spared numbers e = not (list_any (λ n. n == e.0) numbers)
