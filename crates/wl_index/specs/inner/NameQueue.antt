-- One name in use, and what it says of the machine's lists (own).
use Rattle.std.specs.Prelude.{◌≡◌, ℕ, ◌-◌, ◌==◌, Bool, true, false, not, ◌&&◌, List, [], ◌∷◌, ◌++◌, map, filter, length}
use Rattle.std.specs.Prelude.{take, Option, Some, None, is_some, nat_eq, if◌then◌else◌}
use Rattle.std.specs.Option.{option_eq}
use Rattle.std.specs.List.{list_any, AllByRecursion}
use Rattle.std.specs.List.Sorted.{IsStrictlySortedBy}
use Rattle.std.specs.Map.{keys_of}
use Rattle.std.specs.BTreeMap.Range.{entries_between}
use Rattle.std.specs.declared.ops.Bound.TheVariants.{Included, Excluded, Unbounded}
use Rattle.std.specs.Ordering.{nat_cmp}
use Rattle.wl_types.specs.declared.words.Mode.{Mode}
use Rattle.wl_types.specs.declared.words.Mode.TheVariants.{Exclusive}
use Rattle.wl_machine.specs.declared.rows.HeldRow.{HeldRow}
use Rattle.wl_machine.specs.declared.rows.PendingRow.{PendingRow}
use Rattle.wl_machine.specs.Grants.{is_exclusive, is_empty, locks, queue}

-- a request's number and its mode
abbrev pub Numbered : Type 0
Numbered = ℕ × Mode

-- who waits for a name, and who holds it, each in order
pub record Waiting : Type 0 where
  pub name : List ℕ
  pub waits : List Numbered
  pub holders : List Numbered

-- whether one of the holders is exclusive
abbrev pub excludes : List Numbered → Bool
excludes holders = list_any (λ e. is_exclusive e.1) holders

-- whether a request of this mode may be granted beside the holders
abbrev pub admits : Waiting → Mode → Bool
admits w mode = if is_exclusive mode then is_empty w.holders else not (excludes w.holders)

abbrev pub if_admitted : Waiting → List Numbered → Option ℕ
if_admitted w [] = None
if_admitted w (e ∷ waits) = if admits w e.1 then Some e.0 else None

-- the first that waits, if it may be granted
abbrev pub next_grant : Waiting → Option ℕ
next_grant w = if_admitted w w.waits

abbrev pub without_admitted : Waiting → List Numbered → Waiting
without_admitted w [] = w
without_admitted w (e ∷ waits) = if admits w e.1 then record w { waits = waits; holders = w.holders ++ e ∷ [] } else w

-- the queue after that grant
abbrev pub after_grant : Waiting → Waiting
after_grant w = without_admitted w w.waits

abbrev pub other_than : ℕ → Numbered → Bool
other_than number e = not (e.0 == number)

-- without the request or the lock of this number
abbrev pub without : ℕ → Waiting → Waiting
without number w = record w {
  waits = filter (other_than number) w.waits;
  holders = filter (other_than number) w.holders;
}

-- with one more that waits
abbrev pub with_one_more : Waiting → ℕ → Mode → Waiting
with_one_more w number mode = record w { waits = w.waits ++ (number, mode) ∷ [] }

-- whether a queue has a holder or a request
abbrev pub is_busy : Waiting → Bool
is_busy w = not (is_empty w.holders && is_empty w.waits)

abbrev pub number_and_mode : PendingRow → Numbered
number_and_mode request = (request.number, request.mode)

abbrev pub lock_and_mode : HeldRow → Numbered
lock_and_mode lock = (lock.number, lock.mode)

-- the queue of a name, as the lists have it
pub record Matches (w : Waiting) (held : List HeldRow) (pending : List PendingRow) : Type 0 where
  pub waits : w.waits ≡ map number_and_mode (queue w.name pending)
  pub holders : w.holders ≡ map lock_and_mode (locks w.name held)

-- the number of the first
abbrev pub head_number : List Numbered → Option ℕ
head_number [] = None
head_number (e ∷ rest) = Some e.0

-- those that wait: of the live, those from the first that waits on
abbrev pub waits_from : Option ℕ → List Numbered → List Numbered
waits_from None live = []
waits_from (Some first) live = entries_between nat_cmp (Included first) Unbounded live

-- the live after a number
abbrev pub live_after : ℕ → List Numbered → List Numbered
live_after number live = entries_between nat_cmp (Excluded number) Unbounded live

-- the holders: the exclusive one; else those of the live that don't wait, which stand before all that do
abbrev pub holders_of : Option ℕ → List Numbered → List Numbered → List Numbered
holders_of None live waits = take (length live - length waits) live
holders_of (Some number) live waits = (number, Exclusive) ∷ []

-- the live requests of a queue are its sharers, in front, and those that wait, of which this is the first. An exclusive
-- holder is not among them
pub record IsQueue (live waits : List Numbered) (first : Option ℕ) (exclusive : Option ℕ) : Type 0 where
  pub front : List Numbered
  pub whole : live ≡ front ++ waits
  pub ordered : IsStrictlySortedBy nat_cmp (keys_of live)
  pub leads : first ≡ head_number waits
  pub shared : AllByRecursion (λ e. is_exclusive e.1 ≡ false) front
  pub alone : is_some exclusive ≡ true → front ≡ []

-- the exclusive holder, unless it has this number
abbrev pub holder_without : ℕ → Option ℕ → Option ℕ
holder_without number None = None
holder_without number (Some n) = if n == number then None else Some n

-- the first that waits, which is the new one where no other does
abbrev pub first_or : ℕ → Option ℕ → Option ℕ
first_or number None = Some number
first_or number (Some other) = Some other

-- the first that waits where one leaves
abbrev pub first_left : ℕ → Option ℕ → List Numbered → Option ℕ
first_left number first live = if option_eq nat_eq first (Some number) then head_number (live_after number live)
    else first

-- held by a request that took it, which no longer waits
abbrev pub after_seize : ℕ → Waiting → Waiting
after_seize number w = record (without number w) { holders = (number, Exclusive) ∷ [] }
