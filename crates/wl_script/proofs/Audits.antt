-- The lines of origins, one after another.
use Rattle.std.proofs.Common.{◌≡◌, ℕ, List, [], ◌∷◌, ◌++◌, ◌+◌, ◌<◌, ◌≤◌, ◌∙◌, refl, sym, ap, subst, arith, Bool, true}
use Rattle.std.proofs.Common.{false, length, take, drop, suc, Option, Some, None, All, not, inl, inr}
use Rattle.std.specs.Prelude.{◌==◌, if◌then◌else◌, Result, Ok, Err, IfOk, IfErr, IfSome}
use Rattle.std.specs.List.{flat_map}
use Rattle.std.specs.List.Sorted.{IsStrictlySortedBy}
use Rattle.std.specs.Map.{lookup}
use Rattle.std.specs.Option.{option_map, unwrap_or}
use Rattle.std.specs.Ordering.{eq_by_cmp}
use Rattle.std.proofs.lemmas.Map.Made.{keys_of-map_values, lookup-map_values}
use mathlib.Core.Path.{fun_ext}
use Rattle.std.specs.Io.KnownBytes.{Appends}
use Rattle.std.proofs.KnownBytes.{Appends-trans, Appends-kept}
use Rattle.std.proofs.lemmas.Grind.{flat_map-append}
use Rattle.std.proofs.lemmas.List.{map-append, length-append}
use Rattle.std.proofs.lemmas.List.Elements.{filter-append}
use Rattle.std.proofs.Math.Seq.{split_at}
use Rattle.std.proofs.lemmas.List.{take_more}
use Rattle.std.proofs.Math.ListN.{get_or}
use Rattle.wl_journal.specs.Books.{Book}
use Rattle.wl_origin.specs.Manager.{manager_cmp}
use Rattle.wl_origin.specs.declared.manager_key.ManagerKey.{ManagerKey}
use Rattle.wl_world.specs.Cores.{IsListOf, listed_at, seen_by}
use Rattle.wl_world.specs.Entries.{script_entries}
use Rattle.wl_world.specs.Journals.{Grow, Journals, with_more}
use Rattle.wl_world.specs.World.{World, opening}
use Rattle.wl_script.specs.Leaves.{Answered}
use Rattle.wl_script.specs.Lines.{lines}
use Rattle.wl_script.specs.Audits.{Audited, CountsDone, LeavesAudit, WritesOrigins, audit_line, audit_text}
use Rattle.wl_script.specs.Audits.{with_entries}
use Rattle.wl_script.specs.inner.Audits.{IsUnwritten, LeavesOrigins, WritesNext, counts_of}
use Rattle.wl_script.specs.declared.fault.ScriptFault.{ScriptFault}
use Rattle.wl_script.specs.declared.fault.ScriptFault.TheVariants.{Memory, Read, Write, LineTooLong, TooManyTurns}
use Rattle.wl_script.proofs.AtOnce.{at_once_unread}

abbrev is_audited : ManagerKey × ℕ → Bool
is_audited origin = not (origin.1 == 0)

with_entries-append : (front back : List (ManagerKey × ℕ))
    → with_entries (front ++ back) ≡ with_entries front ++ with_entries back
with_entries-append front back = filter-append is_audited front back

audit_text-append : (front back : List (ManagerKey × ℕ))
    → audit_text (front ++ back) ≡ audit_text front ++ audit_text back
audit_text-append front back =
    ap (flat_map (λ origin. audit_line origin.0 origin.1)) (with_entries-append front back)
    ∙ flat_map-append (λ origin. audit_line origin.0 origin.1) (with_entries front) (with_entries back)

-- one more book
one_more_seen : (books : List (ManagerKey × Book)) (i : ℕ) (origin : ManagerKey × Book) → i < length books
    → origin ≡ get_or books i origin
    → counts_of (take (i + 1) books) ≡ counts_of (take i books) ++ (origin.0, origin.1.total) ∷ []
one_more_seen books i origin within is =
    ap counts_of (take_more books i origin within ∙ ap (λ o. take i books ++ o ∷ []) (sym is))
    ∙ map-append (λ o. (o.0, o.1.total)) (take i books) (origin ∷ [])

pub more_written : (books : List (ManagerKey × Book)) (i : ℕ) (origin : ManagerKey × Book) (before n : ℕ)
    (old now new : Option (List ℕ))
    → i < length books → origin ≡ get_or books i origin → WritesNext before (origin.0, origin.1.total) n now new
    → Appends old now (audit_text (counts_of (take i books)))
    → Appends old new (audit_text (counts_of (take (i + 1) books)))
more_written books i origin before n old now new within is next appends =
    subst (Appends old new) (sym (ap audit_text (one_more_seen books i origin within is)
    ∙ audit_text-append (counts_of (take i books)) ((origin.0, origin.1.total) ∷ [])))
    (Appends-trans old now new _ _ appends next.written)

pub more_counted : (books : List (ManagerKey × Book)) (i : ℕ) (origin : ManagerKey × Book) (before n : ℕ)
    (now new : Option (List ℕ))
    → i < length books → origin ≡ get_or books i origin → WritesNext before (origin.0, origin.1.total) n now new
    → before ≡ length (with_entries (counts_of (take i books)))
    → n ≡ length (with_entries (counts_of (take (i + 1) books)))
more_counted books i origin before n now new within is next count =
    next.count ∙ ap (λ m. m + length (with_entries ((origin.0, origin.1.total) ∷ []))) count
    ∙ sym (ap (λ counts. length (with_entries counts)) (one_more_seen books i origin within is)
    ∙ ap length (with_entries-append (counts_of (take i books)) ((origin.0, origin.1.total) ∷ []))
    ∙ length-append (with_entries (counts_of (take i books))) (with_entries ((origin.0, origin.1.total) ∷ [])))

pub few_more : (origin : ManagerKey × ℕ) (before n i : ℕ) (now new : Option (List ℕ))
    → WritesNext before origin n now new → before ≤ i → n ≤ i + 1
few_more origin before n i now new next few =
    let count = next.count in
    omega (arith, count, few, one_at_most (is_audited origin))
  where
    one_at_most : (is : Bool) → length (if is then origin ∷ [] else []) ≤ 1
    one_at_most true = omega arith
    one_at_most false = omega arith

-- the books around this one
split_seen : (books : List (ManagerKey × Book)) (i : ℕ) (origin : ManagerKey × Book) → i < length books
    → origin ≡ get_or books i origin
    → (back : List (ManagerKey × ℕ)) × (counts_of books ≡ counts_of (take i books) ++ (origin.0, origin.1.total)
    ∷ back)
split_seen books i origin within is = (
  _,
  ap counts_of (split_at books i origin within ∙ ap (λ o. take i books ++ o ∷ drop (suc i) books) (sym is))
      ∙ map-append (λ o. (o.0, o.1.total)) (take i books) (origin ∷ drop (suc i) books),
)

pub not_written : (books : List (ManagerKey × Book)) (i : ℕ) (origin : ManagerKey × Book) (done before : ℕ)
    (old now new : Option (List ℕ)) (fault : ScriptFault)
    → i < length books → origin ≡ get_or books i origin
    → Appends old now (audit_text (counts_of (take i books)))
    → before ≡ length (with_entries (counts_of (take i books)))
    → IsUnwritten done before (origin.0, origin.1.total) now fault new
    → LeavesOrigins done (counts_of books) fault old new
not_written books i origin done before old now new (Memory n) within is appends count (same, kept) = (
  same,
  record {
    front = counts_of (take i books);
    back = (origin.0, origin.1.total) ∷ (split_seen books i origin within is).0;
    split = (split_seen books i origin within is).1;
    written = Appends-kept old now new _ appends kept;
  },
)
not_written books i origin done before old now new (Write n) within is
    appends count (same, (part, more, some, text, written)) = record {
      front = counts_of (take i books);
      origin = (origin.0, origin.1.total);
      back = (split_seen books i origin within is).0;
      split = (split_seen books i origin within is).1;
      count = same ∙ count;
      part = part;
      more = more;
      some = some;
      text = text;
      written = Appends-trans old now new _ _ appends written;
    }
not_written books i origin done before old now new (Read n) within is appends count left = absurd left
not_written books i origin done before old now new (LineTooLong n) within is appends count left = absurd left
not_written books i origin done before old now new (TooManyTurns n) within is appends count left = absurd left

-- how many entries a script's lines have added to each journal, from what is listed of the books
counts_are : (start : World) (before after : Journals) (lines : List (List ℕ)) (listed books : List (ManagerKey × Book))
    → start ≡ opening → before ≡ (λ key. Some 0) → Grow before (λ key. script_entries key start lines) after
    → IsListOf (Some 0) after (seen_by (λ (book : Book). Some book.total) listed) → books ≡ listed
    → IsListOf 0 (λ key. script_entries key opening lines) (counts_of books)
counts_are start before after lines listed books from none grew are same =
    subst (λ books. IsListOf 0 (λ key. script_entries key opening lines) (counts_of books)) (sym same) (record {
      in_order = subst (IsStrictlySortedBy manager_cmp)
          (keys_of-map_values (λ (book : Book). Some book.total) listed
          ∙ sym (keys_of-map_values (λ (book : Book). book.total) listed)) are.in_order;
      each = fun_ext (λ key. sym (ap (λ count. unwrap_or count 0) (all key))
          ∙ ap (λ (at : Journals). unwrap_or (at key) 0) are.each ∙ found key);
    })
  where
    all : (key : ManagerKey) → after key ≡ Some (script_entries key opening lines)
    all key =
        grew key ∙ ap (λ world. with_more (script_entries key world lines) (before key)) from
        ∙ ap (λ (journals : Journals). with_more (script_entries key opening lines) (journals key)) none
        ∙ ap Some (omega arith)

    in_book : (o : Option Book)
        → unwrap_or (unwrap_or (option_map (λ (book : Book). Some book.total) o) (Some 0)) 0 ≡ unwrap_or
        (option_map (λ (book : Book). book.total) o) 0
    in_book None = refl
    in_book (Some book) = refl

    found : (key : ManagerKey)
        → unwrap_or (listed_at (Some 0) (seen_by (λ (book : Book). Some book.total) listed) key) 0 ≡ listed_at 0
        (counts_of listed) key
    found key =
        ap (λ o. unwrap_or (unwrap_or o (Some 0)) 0)
        (lookup-map_values (λ (book : Book). Some book.total) (eq_by_cmp manager_cmp key) listed)
        ∙ in_book (lookup (eq_by_cmp manager_cmp key) listed)
        ∙ ap (λ o. unwrap_or o 0)
        (sym (lookup-map_values (λ (book : Book). book.total) (eq_by_cmp manager_cmp key) listed))

-- the audit of a script whose lines were all done
pub audit_ends : (rest : Option (List ℕ)) (start : World) (before after : Journals)
    (listed books : List (ManagerKey × Book)) (done : ℕ) (result : Result ℕ ScriptFault) (old new : Option (List ℕ))
    → start ≡ opening → before ≡ (λ key. Some 0)
    → IfSome rest (λ input. (done ≡ length (lines input)) × Answered 65536 start (lines input) None None)
    → IfSome rest (λ input. Grow before (λ key. script_entries key start (lines input)) after)
    → IsListOf (Some 0) after (seen_by (λ (book : Book). Some book.total) listed) → books ≡ listed
    → IfOk result (λ n. WritesOrigins (counts_of books) n old new)
    → IfOk result (λ n. IfSome rest (λ input. All (λ line. length line ≤ 65536) (lines input)
    × Audited (lines input) n old new))
audit_ends None start before after listed books done (Ok n) old new from none answered grew are same wrote = tt
audit_ends (Some input) start before after listed books done (Ok n) old new from none
    (count, answered) grew are same wrote = (
      answered.within,
      (
        counts_of books,
        counts_are start before after (lines input) listed books from none grew are same,
        wrote,
      ),
    )
audit_ends rest start before after listed books done (Err fault) old new from none answered grew are same wrote = tt

pub audit_breaks : (rest : Option (List ℕ)) (start : World) (before after : Journals)
    (listed books : List (ManagerKey × Book)) (done : ℕ)
    (result : Result ℕ ScriptFault) (old new : Option (List ℕ))
    → start ≡ opening → before ≡ (λ key. Some 0)
    → IfSome rest (λ input. (done ≡ length (lines input)) × Answered 65536 start (lines input) None None)
    → IfSome rest (λ input. Grow before (λ key. script_entries key start (lines input)) after)
    → IsListOf (Some 0) after (seen_by (λ (book : Book). Some book.total) listed) → books ≡ listed
    → IfErr result (λ fault. LeavesOrigins done (counts_of books) fault old new)
    → IfErr result (λ fault. IfSome rest (λ input. LeavesAudit 65536 (lines input) fault old new))
audit_breaks rest start before after listed books done (Ok n) old new from none answered grew are same wrote = tt
audit_breaks None start before after listed books done (Err fault) old new from none answered grew are same wrote = tt
audit_breaks (Some input) start before after listed books done (Err (Memory n)) old new from none
    (count, answered) grew are same
    (all, wrote) =
    inr (
      all ∙ count,
      (
        counts_of books,
        counts_are start before after (lines input) listed books from none grew are same,
        wrote,
      ),
    )
audit_breaks (Some input) start before after listed books done
    (Err (Write n)) old new from none answered grew are same wrote =
    (counts_of books, counts_are start before after (lines input) listed books from none grew are same, wrote)
audit_breaks (Some input) start before after listed books done
    (Err (Read n)) old new from none answered grew are same wrote =
    absurd wrote
audit_breaks (Some input) start before after listed books done
    (Err (LineTooLong n)) old new from none answered grew are same wrote =
    absurd wrote
audit_breaks (Some input) start before after listed books done
    (Err (TooManyTurns n)) old new from none answered grew are same
    wrote = absurd wrote

-- what a fault behind the script counts
counts_behind : (lines : List (List ℕ)) (done : ℕ) (counts : List (ManagerKey × ℕ)) (fault : ScriptFault)
    (held_old held_new old new : Option (List ℕ)) → done ≡ length lines
    → LeavesOrigins done counts fault held_old held_new → CountsDone lines fault old new
counts_behind lines done counts (Memory n) held_old held_new old new count (all, wrote) = inl (all ∙ count)
counts_behind lines done counts (Write n) held_old held_new old new count wrote = tt
counts_behind lines done counts (Read n) held_old held_new old new count wrote = absurd wrote
counts_behind lines done counts (LineTooLong n) held_old held_new old new count wrote = absurd wrote
counts_behind lines done counts (TooManyTurns n) held_old held_new old new count wrote = absurd wrote

pub audit_counts : (rest : Option (List ℕ)) (start : World) (done : ℕ) (counts : List (ManagerKey × ℕ))
    (result : Result ℕ ScriptFault) (held_old held_new new : Option (List ℕ))
    → IfSome rest (λ input. (done ≡ length (lines input)) × Answered 65536 start (lines input) None None)
    → IfErr result (λ fault. LeavesOrigins done counts fault held_old held_new)
    → IfErr result (λ fault. IfSome rest (λ input. CountsDone (lines input) fault rest new))
audit_counts rest start done counts (Ok n) held_old held_new new answered wrote = tt
audit_counts None start done counts (Err fault) held_old held_new new answered wrote = tt
audit_counts (Some input) start done counts (Err fault) held_old held_new new (count, answered) wrote =
    counts_behind (lines input) done counts fault held_old held_new (Some input) new count wrote

-- memory was refused before the script was read
pub counts_unread : (rest : Option (List ℕ)) → IfSome rest (λ input. CountsDone (lines input) (Memory 0) rest rest)
counts_unread None = tt
counts_unread (Some input) = inr (at_once_unread (Memory 0) (Some input) refl)
