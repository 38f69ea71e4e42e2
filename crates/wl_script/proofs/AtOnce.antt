-- Lines are answered as soon as they were read.
use Rattle.std.proofs.Common.{◌≡◌, ℕ, List, [], ◌∷◌, ◌++◌, ◌<◌, ◌≤◌, ◌+◌, ◌∙◌, refl, sym, ap, subst, arith, length}
use Rattle.std.proofs.Common.{append-nil, length-append, length-take, cond, Bool, Option, All}
use Rattle.std.proofs.lemmas.List.Elements.{All-nil, All-head, All-tail}
use Rattle.std.proofs.lemmas.List.Sums.{sum_by-cons, sum_by-append}
use Rattle.std.specs.Io.KnownBytes.{Consumes, IsAtEnd}
use Rattle.std.proofs.KnownBytes.{Consumes-nil, Consumes-trans}
use Rattle.std.specs.Prelude.{take, false}
use Rattle.wl_codec.specs.Lines.{HasNoLf, is_lf}
use Rattle.wl_script.specs.Lines.{line_feeds, with_lfs}
use Rattle.wl_world.specs.Journals.{Journals}
use Rattle.wl_world.specs.World.{World}
use Rattle.wl_script.specs.Streams.{one_more, GrewBy, GrewAtMostBy}
use Rattle.wl_script.specs.Faults.{answered, unanswered_bytes}
use Rattle.wl_script.specs.Leaves.{AnswersAtOnce}
use Rattle.wl_script.specs.inner.Progress.{Moment, moment, Fed, Stops, Breaks, IsUnanswered}
use Rattle.wl_script.specs.inner.Progress.{BreaksAtEnd, CountsOn}
use Rattle.wl_script.specs.declared.fault.ScriptFault.{ScriptFault}
use Rattle.wl_script.specs.declared.fault.ScriptFault.TheVariants.{Memory, Read, Write, LineTooLong, TooManyTurns}
use Rattle.wl_script.proofs.Entries.{counted_piece}
use Rattle.wl_script.proofs.Pieces.{Fed-more}

abbrev weight : Bool → ℕ
weight is = cond is 1 0

line_feeds-append : (xs ys : List ℕ) → line_feeds (xs ++ ys) ≡ line_feeds xs + line_feeds ys
line_feeds-append xs ys = sum_by-append (λ byte. cond (is_lf byte) 1 0) xs ys

no_feeds : (bytes : List ℕ) → HasNoLf bytes → line_feeds bytes ≡ 0
no_feeds [] no_lf = refl
no_feeds (b ∷ bs) no_lf =
    let one : weight (is_lf b) ≡ 0 = ap weight (All-head (λ byte. is_lf byte ≡ false) b bs no_lf) in
    omega (
      arith,
      sum_by-cons (λ byte. cond (is_lf byte) 1 0) b bs,
      one,
      no_feeds bs (All-tail (λ byte. is_lf byte ≡ false) b bs no_lf),
    )

feeds_of_lines : (ended : List (List ℕ)) → All HasNoLf ended → line_feeds (with_lfs ended) ≡ length ended
feeds_of_lines [] whole = refl
feeds_of_lines (line ∷ ended) whole =
    omega (
      arith,
      line_feeds-append (line ++ 10 ∷ []) (with_lfs ended),
      line_feeds-append line (10 ∷ []),
      no_feeds line (All-head HasNoLf line ended whole),
      feeds_of_lines ended (All-tail HasNoLf line ended whole),
    )

-- as many more lines were answered as LFs were read
feeds_counted : (limit : ℕ) (start : Moment) (bytes : List ℕ) (now : Moment) → HasNoLf start.unfinished
    → Fed limit start bytes now → now.count ≡ start.count + line_feeds bytes
feeds_counted limit start bytes now no_lf fed =
    omega (
      arith,
      ap line_feeds fed.split,
      line_feeds-append start.unfinished bytes,
      no_feeds start.unfinished no_lf,
      line_feeds-append (with_lfs fed.ended) now.unfinished,
      feeds_of_lines fed.ended fed.whole,
      no_feeds now.unfinished fed.open_end,
      fed.count,
    )

-- and at first there are none
feeds_fed : (limit : ℕ) (world : World) (old : Option (List ℕ)) (bytes : List ℕ) (now : Moment)
    → Fed limit (moment [] 0 world old) bytes now → now.count ≡ line_feeds bytes
feeds_fed limit world old bytes now fed = omega (
  arith,
  feeds_counted limit (moment [] 0 world old) bytes now
      (All-nil (λ byte. is_lf byte ≡ false)) fed,
)

at_once : (limit : ℕ) (world : World) (a b c : Option (List ℕ)) (old : Option (List ℕ)) (bytes last : List ℕ)
    (now : Moment) (fault : ScriptFault) → Consumes a b bytes → Consumes b c last
    → Fed limit (moment [] 0 world old) bytes now → now.count ≤ answered fault
    → answered fault ≤ now.count + line_feeds last → length last ≤ unanswered_bytes fault → AnswersAtOnce fault a c
at_once limit world a b c old bytes last now fault p q fed few most short =
    let counted = feeds_fed limit world old bytes now fed in (
      bytes,
      last,
      Consumes-trans a b c bytes last p q,
      omega (arith, few, counted),
      omega (arith, most, counted, line_feeds-append bytes last),
      short,
    )

-- a fault came before the first read
pub at_once_unread : (fault : ScriptFault) (a : Option (List ℕ)) → answered fault ≡ 0 → AnswersAtOnce fault a a
at_once_unread fault a none = ([], [], Consumes-nil a, omega arith, omega (arith, none), omega arith)

-- a fault came in a piece
pub at_once_in_piece : (limit : ℕ) (world : World) (a b c : Option (List ℕ)) (old new : Option (List ℕ))
    (bytes piece : List ℕ) (now : Moment) (fault : ScriptFault)
    → Consumes a b bytes → Consumes b c piece → Fed limit (moment [] 0 world old) bytes now
    → Breaks limit now piece fault new → length piece ≤ 65536 → AnswersAtOnce fault a c
at_once_in_piece limit world a b c old new bytes piece now fault p q fed broken short =
    let count = counts fault broken.now broken.back broken.stops in
    let more = feeds_counted limit now broken.front broken.now fed.open_end broken.fed in
    let pieces = ap line_feeds broken.split ∙ line_feeds-append broken.front broken.back in
    at_once limit world a b c old bytes piece now fault p q fed (omega (arith, count, more))
    (omega (arith, count, more, pieces)) (in_read fault broken.now broken.back broken.stops)
  where
    counts : (fault : ScriptFault) (then : Moment) (back : List ℕ) → Stops limit then back fault new
        → answered fault ≡ then.count
    counts (Memory n) then back s = s.0
    counts (Write n) then back s = s.0
    counts (LineTooLong n) then back s = s.0
    counts (Read n) then back s = absurd s
    counts (TooManyTurns n) then back s = absurd s

    in_read : (fault : ScriptFault) (then : Moment) (back : List ℕ) → Stops limit then back fault new
        → length piece ≤ unanswered_bytes fault
    in_read (Memory n) then back s = short
    in_read (Write n) then back s = short
    in_read (LineTooLong n) then back s = short
    in_read (Read n) then back s = absurd s
    in_read (TooManyTurns n) then back s = absurd s

-- a fault came between reads, or at the last line
pub at_once_between : (limit : ℕ) (world : World) (a b : Option (List ℕ)) (old : Option (List ℕ)) (bytes : List ℕ)
    (now : Moment) (fault : ScriptFault)
    → Consumes a b bytes → Fed limit (moment [] 0 world old) bytes now → answered fault ≡ now.count
    → AnswersAtOnce fault a b
at_once_between limit world a b old bytes now fault p fed same =
    let counted = feeds_fed limit world old bytes now fed in (
      bytes,
      [],
      subst (Consumes a b) (sym (append-nil bytes)) p,
      omega (arith, same, counted),
      omega (arith, same, counted, ap line_feeds (append-nil bytes)),
      omega arith,
    )

pub at_once_at_end : (limit : ℕ) (world : World) (a b : Option (List ℕ)) (old new : Option (List ℕ)) (bytes : List ℕ)
    (now : Moment) (fault : ScriptFault)
    → Consumes a b bytes × IsAtEnd b → Fed limit (moment [] 0 world old) bytes now → BreaksAtEnd now fault new
    → AnswersAtOnce fault a b
at_once_at_end limit world a b old new bytes now fault (p, end) fed (some, s) =
    at_once_between limit world a b old bytes now fault p fed (same fault s)
  where
    same : (fault : ScriptFault) → IsUnanswered now.count now.world now.unfinished now.held fault new
        → answered fault ≡ now.count
    same (Memory n) s = s.0
    same (Write n) s = s.0
    same (Read n) s = absurd s
    same (LineTooLong n) s = absurd s
    same (TooManyTurns n) s = absurd s

-- one more piece
pub fed_more : (limit : ℕ) (a b c : Option (List ℕ)) (bytes piece : List ℕ) (start mid now : Moment) (turn : ℕ)
    (old world new : World) (one two three : Journals) (unfinished : List ℕ)
    → Consumes a b bytes → Consumes b c piece → Fed limit start bytes mid → Fed limit mid piece now
    → turn ≤ length bytes → 0 < length piece
    → CountsOn old one bytes world two unfinished → CountsOn world two (unfinished ++ piece) new three now.unfinished
    → ((all : List ℕ) × Consumes a c all × Fed limit start all now × (turn + 1 ≤ length all)
    × CountsOn old one all new three now.unfinished)
fed_more limit a b c bytes piece start mid now turn old world new one two three unfinished p q first second few some
    counts more = (
      bytes ++ piece,
      Consumes-trans a b c bytes piece p q,
      Fed-more limit start mid now bytes piece first second,
      omega (arith, length-append bytes piece, few, some),
      counted_piece old world new one two three bytes unfinished piece now.unfinished counts more,
    )

-- a read that gave nothing says that the reader is at its end
pub nothing_more : (a b c : Option (List ℕ)) (bytes buf : List ℕ) (n : ℕ) → Consumes a b bytes → n ≡ 0 → 0 < length buf
    → Consumes b c (take n buf) × (n ≡ 0 → 0 < length buf → IsAtEnd c) → Consumes a c bytes × IsAtEnd c
nothing_more a b c bytes buf n p none room (q, end) = (
  subst (Consumes a c) (ap (λ k. bytes ++ take k buf) none ∙ append-nil bytes)
      (Consumes-trans a b c bytes (take n buf) p q),
  end none room,
)

-- one more read, which is within the limit
pub one_more_read : (a b c k n : ℕ) → GrewBy a b k → c ≡ one_more b → k < n → GrewAtMostBy a c n
one_more_read a b c k n grew made few = (k + 1, omega (arith, few), omega (arith, grew, made))

pub short_piece : (n : ℕ) (buf : List ℕ) → length buf ≤ 65536 → length (take n buf) ≤ 65536
short_piece n buf short = grind (arith, length-take)
