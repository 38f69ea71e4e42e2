-- What the lines of a whole input are, once a front of it was fed.
use Rattle.std.proofs.Common.{◌≡◌, ℕ, List, [], ◌∷◌, ◌++◌, ◌<◌, ◌≤◌, ◌+◌, ◌∙◌, refl, sym, ap, subst, arith, length}
use Rattle.std.proofs.Common.{append_assoc, append-nil, length-append, take, Bool, true, false, Option, Some, None}
use Rattle.std.proofs.Common.{IfSome, slice_get, All, Result, Ok, Err, IfOk, OnOk}
use Rattle.std.proofs.Math.Seq.{take-append_seam}
use Rattle.std.proofs.lemmas.List.Elements.{All-head, All-tail, All-push, All-nil, All-cons}
use Rattle.std.proofs.lemmas.List.Splits.{slice_split_at, slice_split_none, length-slice_split}
use Rattle.std.specs.List.{slice_split}
use Rattle.std.specs.Io.KnownBytes.{Appends, Consumes, Keeps, IsAtEnd}
use Rattle.std.proofs.KnownBytes.{Appends-trans, Appends-kept, Consumes-trans, Consumes-whole, Keeps-refl}
use Rattle.wl_codec.specs.Lines.{HasNoLf, is_lf}
use Rattle.wl_script.specs.Lines.{lines, lines_of_parts, last_line, with_lfs}
use Rattle.wl_world.specs.World.{World}
use Rattle.wl_script.specs.Transcript.{transcript, after, reply_line}
use Rattle.wl_script.specs.Leaves.{Answered, AnsweredFirst, AnsweredWithin, IsTooLong, Leaves}
use Rattle.wl_script.specs.inner.Progress.{Moment, moment, Fed, AnsweredPart, Stops, Breaks}
use Rattle.wl_script.specs.inner.Progress.{BreaksAtEnd}
use Rattle.wl_script.specs.declared.fault.ScriptFault.{ScriptFault}
use Rattle.wl_script.specs.declared.fault.ScriptFault.TheVariants.{Memory, Read, Write, LineTooLong, TooManyTurns}
use Rattle.wl_script.proofs.Pieces.{Answered-more, after-append, Breaks-more}

some_parts : (script : List ℕ) → 0 < length (slice_split is_lf script)
some_parts script = omega (arith, length-slice_split is_lf script)

onto_parts : (part : List ℕ) (parts : List (List ℕ)) → 0 < length parts
    → lines_of_parts (part ∷ parts) ≡ part ∷ lines_of_parts parts
onto_parts part [] h = absurd (omega (arith, h))
onto_parts part (next ∷ parts) h = refl

-- a line that an LF ends comes before the lines of what follows
pub lines_at : (line : List ℕ) (lf : ℕ) (script : List ℕ) → HasNoLf line → is_lf lf ≡ true
    → lines (line ++ lf ∷ script) ≡ line ∷ lines script
lines_at line lf script no_lf e = ap lines_of_parts (slice_split_at is_lf line lf script no_lf e)
    ∙ onto_parts line (slice_split is_lf script) (some_parts script)

-- and one that ends with the script is the last
pub lines_none : (line : List ℕ) → HasNoLf line → lines line ≡ last_line line
lines_none line no_lf = ap lines_of_parts (slice_split_none is_lf line no_lf)

-- lines that were ended come before the lines of what follows
pub lines_after : (ended : List (List ℕ)) (rest : List ℕ) → All HasNoLf ended
    → lines (with_lfs ended ++ rest) ≡ ended ++ lines rest
lines_after [] rest whole = refl
lines_after (line ∷ ended) rest whole =
    ap lines (append_assoc (line ++ 10 ∷ []) (with_lfs ended) rest
    ∙ append_assoc line (10 ∷ []) (with_lfs ended ++ rest))
    ∙ lines_at line 10 (with_lfs ended ++ rest) (All-head HasNoLf line ended whole) refl
    ∙ ap (λ ls. line ∷ ls) (lines_after ended rest (All-tail HasNoLf line ended whole))

pub last_line_some : (line : List ℕ) → 0 < length line → last_line line ≡ line ∷ []
last_line_some [] some = absurd (omega (arith, some))
last_line_some (b ∷ bs) some = refl

-- these are the lines, and the first is no shorter than the bytes given
record BeginsLong (line script : List ℕ) : Type 0 where
  first : List ℕ
  others : List (List ℕ)
  are : lines script ≡ first ∷ others
  long : length line ≤ length first

-- the first of the lines that begin with these bytes is no shorter
begins_long : (line rest : List ℕ) → 0 < length line → HasNoLf line → BeginsLong line (line ++ rest)
begins_long line [] some no_lf = record {
  first = line;
  others = [];
  are = ap lines (append-nil line) ∙ lines_none line no_lf ∙ last_line_some line some;
  long = omega arith;
}
begins_long line (b ∷ bs) some no_lf = step (is_lf b) refl (λ e. begins_long (line ++ b ∷ []) bs
    (omega (arith, some, length-append line (b ∷ []))) (All-push (λ byte. is_lf byte ≡ false) line b no_lf e))
  where
    step : (t : Bool) → is_lf b ≡ t → (is_lf b ≡ false → BeginsLong (line ++ b ∷ []) ((line ++ b ∷ []) ++ bs))
        → BeginsLong line (line ++ b ∷ bs)
    step true e more = record { first = line; others = lines bs; are = lines_at line b bs no_lf e; long = omega arith }
    step false e more =
        let m = more e in
        record {
          first = m.first;
          others = m.others;
          are = ap lines (sym (append_assoc line (b ∷ []) bs)) ∙ m.are;
          long = omega (arith, m.long, length-append line (b ∷ []));
        }

-- the lines of a script of which a front was fed
fed_lines : (limit : ℕ) (world : World) (held : Option (List ℕ)) (front rest : List ℕ) (now : Moment)
    (fed : Fed limit (moment [] 0 world held) front now)
    → lines (front ++ rest) ≡ fed.ended ++ lines (now.unfinished ++ rest)
fed_lines limit world held front rest now fed =
    ap (λ all. lines (all ++ rest)) fed.split ∙ ap lines (append_assoc (with_lfs fed.ended) now.unfinished rest)
    ∙ lines_after fed.ended (now.unfinished ++ rest) fed.whole

-- what is known of a reader's bytes is what was read, and the rest
pub of_input : (old new : Option (List ℕ)) (bytes : List ℕ) (P : List ℕ → Type 0) → Consumes old new bytes
    → ((rest : List ℕ) → P (bytes ++ rest)) → IfSome old P
of_input None new bytes P c f = tt
of_input (Some xs) None bytes P c f = absurd c
of_input (Some xs) (Some ys) bytes P c f = subst P (sym c) (f ys)

-- the lines that were ended are the first of the script's
first_lines : (done more all : List (List ℕ)) (n : ℕ) → n ≡ length done → all ≡ done ++ more → take n all ≡ done
first_lines done more all n count e = ap (take n) e ∙ ap (λ k. take k (done ++ more)) count ∙ take-append_seam done more

slice_get_at : (xs : List (List ℕ)) (y : List ℕ) (ys : List (List ℕ)) → slice_get (xs ++ y ∷ ys) (length xs) ≡ Some y
slice_get_at [] y ys = refl
slice_get_at (x ∷ xs) y ys = slice_get_at xs y ys

line_at : (done : List (List ℕ)) (line : List ℕ) (more all : List (List ℕ)) (n : ℕ) → n ≡ length done
    → all ≡ done ++ line ∷ more → slice_get all n ≡ Some line
line_at done line more all n count e = ap (slice_get all) count ∙ ap (λ ls. slice_get ls (length done)) e
    ∙ slice_get_at done line more

-- a run that stands here has answered the first lines
pub stands_first : (limit : ℕ) (world : World) (old new : Option (List ℕ)) (front rest : List ℕ) (now : Moment) (n : ℕ)
    → Fed limit (moment [] 0 world old) front now
    → n ≡ now.count → Keeps now.held new → AnsweredFirst limit world (lines (front ++ rest)) n old new
stands_first limit world old new front rest now n fed count kept =
    let all = lines (front ++ rest) in
    let split = fed_lines limit world old front rest now fed in
    let first : take n all ≡ fed.ended = first_lines fed.ended _ all n (omega (arith, count, fed.count)) split in
    record {
      few = omega (arith, count, fed.count, ap length split, length-append fed.ended (lines (now.unfinished ++ rest)));
      answered = subst (λ ls. Answered limit world ls old new) (sym first)
          (record {
            within = fed.answered.within;
            written =
                Appends-kept old now.held new _ fed.answered.written kept;
          });
    }

-- and if the next reply was begun, the lines before it
pub stands_within : (limit : ℕ) (world : World) (old new : Option (List ℕ)) (front : List ℕ) (now : Moment) (n : ℕ)
    (all more : List (List ℕ)) (fed : Fed limit (moment [] 0 world old) front now)
    → n ≡ now.count → length now.unfinished ≤ limit → AnsweredPart now.world now.unfinished now.held new
    → all ≡ fed.ended ++ now.unfinished ∷ more
    → AnsweredWithin limit world all n old new
stands_within limit world old new front now n all more fed count short part split =
    let counted : n ≡ length fed.ended = omega (arith, count, fed.count) in
    let first : take n all ≡ fed.ended = first_lines fed.ended (now.unfinished ∷ more) all n counted split in
    record {
      line = now.unfinished;
      is_next = line_at fed.ended now.unfinished more all n counted split;
      short = short;
      part = part.part;
      more = part.more;
      some = part.some;
      text = ap (λ ls. reply_line (after world ls) now.unfinished) first
          ∙ ap (λ w. reply_line w now.unfinished) (sym fed.world) ∙ part.text;
      within = subst (All (λ line. length line ≤ limit)) (sym first) fed.answered.within;
      written = subst (λ ls. Appends old new (transcript world ls ++ part.part)) (sym first)
          (Appends-trans old now.held new _ _ fed.answered.written part.written);
    }

-- the next line is longer than the limit
stands_long : (limit : ℕ) (world : World) (old : Option (List ℕ)) (front rest : List ℕ) (now : Moment) (n : ℕ)
    (fed : Fed limit (moment [] 0 world old) front now)
    → n ≡ now.count → limit < length now.unfinished → IsTooLong limit (lines (front ++ rest)) n
stands_long limit world old front rest now n fed count long =
    let begins = begins_long now.unfinished rest (omega (arith, long)) fed.open_end in (
      begins.first,
      line_at fed.ended begins.first begins.others (lines (front ++ rest)) n (omega (arith, count, fed.count))
          (fed_lines limit world old front rest now fed ∙ ap (λ ls. fed.ended ++ ls) begins.are),
      omega (arith, long, begins.long),
    )

-- what a fault in these bytes leaves, whatever bytes follow
breaks_leaves : (limit : ℕ) (world : World) (old new : Option (List ℕ)) (bytes rest : List ℕ) (fault : ScriptFault)
    → Breaks limit (moment [] 0 world old) bytes fault new → Leaves limit world (lines (bytes ++ rest)) fault old new
breaks_leaves limit world old new bytes rest fault broken =
    subst (λ all. Leaves limit world (lines all) fault old new)
    (sym (append_assoc broken.front broken.back rest) ∙ ap (λ l. l ++ rest) (sym broken.split))
    (by_fault fault broken.front broken.back broken.now broken.fed broken.stops)
  where
    by_fault : (fault : ScriptFault) (front back : List ℕ) (now : Moment) → Fed limit (moment [] 0 world old) front now
        → Stops limit now back fault new
        → Leaves limit world (lines (front ++ (back ++ rest))) fault old new
    by_fault (Memory n) front back now fed (count, kept) = stands_first limit world old new front (back ++ rest) now n
        fed count kept
    by_fault (LineTooLong n) front back now fed (count, kept, long) = (
      stands_first limit world old new front (back ++ rest) now n fed count kept,
      stands_long limit world old front (back ++ rest) now n fed count long,
    )
    by_fault (Write n) front back now fed (count, part, short, (more, is)) =
        stands_within limit world old new front now n (lines (front ++ (back ++ rest))) (lines (more ++ rest)) fed count
        short part
        (fed_lines limit world old front (back ++ rest) now fed
        ∙ ap (λ l. fed.ended ++ lines (now.unfinished ++ (l ++ rest))) is
        ∙ ap (λ ls. fed.ended ++ ls) (lines_at now.unfinished 10 (more ++ rest) fed.open_end refl))
    by_fault (Read n) front back now fed s = absurd s
    by_fault (TooManyTurns n) front back now fed s = absurd s

-- all lines of an input that ends here
whole_lines : (limit : ℕ) (world : World) (old : Option (List ℕ)) (bytes : List ℕ) (now : Moment)
    (fed : Fed limit (moment [] 0 world old) bytes now)
    → lines bytes ≡ fed.ended ++ last_line now.unfinished
whole_lines limit world old bytes now fed =
    ap lines (sym (append-nil bytes)) ∙ fed_lines limit world old bytes [] now fed
    ∙ ap (λ l. fed.ended ++ lines l) (append-nil now.unfinished)
    ∙ ap (λ ls. fed.ended ++ ls) (lines_none now.unfinished fed.open_end)

last_within : (limit : ℕ) (line : List ℕ) → length line ≤ limit → All (λ l. length l ≤ limit) (last_line line)
last_within limit [] short = All-nil (λ l. length l ≤ limit)
last_within limit (b ∷ bs) short = All-cons (λ l. length l ≤ limit) (b ∷ bs) [] short (All-nil (λ l. length l ≤ limit))

-- the reader was at its end, and the last line was answered
pub all_answered : (limit : ℕ) (world : World) (a b : Option (List ℕ)) (old new : Option (List ℕ)) (bytes : List ℕ)
    (now : Moment) (n : ℕ)
    → Consumes a b bytes × IsAtEnd b → Fed limit (moment [] 0 world old) bytes now → length now.unfinished ≤ limit
    → n ≡ now.count + length (last_line now.unfinished) → Appends now.held new
    (transcript now.world (last_line now.unfinished))
    → IfSome a (λ input. (n ≡ length (lines input)) × Answered limit world (lines input) old new)
all_answered limit world a b old new bytes now n (read, end) fed short count written =
    let all : lines bytes ≡ fed.ended ++ last_line now.unfinished = whole_lines limit world old bytes now fed in
    Consumes-whole a b bytes (λ input. (n ≡ length (lines input)) × Answered limit world (lines input) old new)
    read end (
      omega (arith, count, fed.count, ap length all, length-append fed.ended (last_line now.unfinished)),
      subst (λ ls. Answered limit world ls old new) (sym all)
          (Answered-more limit world now.world fed.ended (last_line now.unfinished) old now.held new fed.world
          fed.answered
          (record { within = last_within limit now.unfinished short; written = written })),
    )

-- the same of what the end answered
pub ends_well : (result : Result ℕ ScriptFault) (limit : ℕ) (world : World) (a b : Option (List ℕ))
    (old new : Option (List ℕ)) (bytes : List ℕ) (now : Moment)
    → Consumes a b bytes × IsAtEnd b → Fed limit (moment [] 0 world old) bytes now → length now.unfinished ≤ limit
    → IfOk result (λ n. n ≡ now.count + length (last_line now.unfinished))
    → OnOk result (Appends now.held new (transcript now.world (last_line now.unfinished)))
    → IfOk result (λ n. IfSome a (λ input. (n ≡ length (lines input)) × Answered limit world (lines input) old new))
ends_well (Ok n) limit world a b old new bytes now p fed short count written =
    all_answered limit world a b old new bytes now n p fed short count written
ends_well (Err fault) limit world a b old new bytes now p fed short count written = tt

pub world_after : (limit : ℕ) (world last : World) (a b : Option (List ℕ)) (old : Option (List ℕ)) (bytes : List ℕ)
    (now : Moment)
    → Consumes a b bytes × IsAtEnd b → Fed limit (moment [] 0 world old) bytes now
    → last ≡ after now.world (last_line now.unfinished)
    → IfSome a (λ input. last ≡ after world (lines input))
world_after limit world last a b old bytes now (read, end) fed e =
    Consumes-whole a b bytes (λ input. last ≡ after world (lines input)) read end
    (e ∙ ap (λ w. after w (last_line now.unfinished)) fed.world
    ∙ sym (after-append world fed.ended (last_line now.unfinished))
    ∙ ap (after world) (sym (whole_lines limit world old bytes now fed)))

-- the reader was at its end, and the last line wasn't answered
pub leaves_at_end : (limit : ℕ) (world : World) (a b : Option (List ℕ)) (old new : Option (List ℕ)) (bytes : List ℕ)
    (now : Moment) (fault : ScriptFault)
    → Consumes a b bytes × IsAtEnd b → Fed limit (moment [] 0 world old) bytes now → length now.unfinished ≤ limit
    → BreaksAtEnd now fault new
    → IfSome a (λ input. Leaves limit world (lines input) fault old new)
leaves_at_end limit world a b old new bytes now (Memory n) (read, end) fed short (some, (count, kept)) =
    Consumes-whole a b bytes (λ input. AnsweredFirst limit world (lines input) n old new) read end
    (subst (λ all. AnsweredFirst limit world (lines all) n old new) (append-nil bytes)
    (stands_first limit world old new bytes [] now n fed count kept))
leaves_at_end limit world a b old new bytes now (Write n) (read, end) fed short (some, (count, part)) =
    Consumes-whole a b bytes (λ input. AnsweredWithin limit world (lines input) n old new) read end
    (stands_within limit world old new bytes now n (lines bytes) [] fed count short part
    (whole_lines limit world old bytes now fed ∙ ap (λ ls. fed.ended ++ ls) (last_line_some now.unfinished some)))
leaves_at_end limit world a b old new bytes now (Read n) p fed short (some, s) = absurd s
leaves_at_end limit world a b old new bytes now (LineTooLong n) p fed short (some, s) = absurd s
leaves_at_end limit world a b old new bytes now (TooManyTurns n) p fed short (some, s) = absurd s

-- a fault came in a piece
pub leaves_in_piece : (limit : ℕ) (world : World) (a b c : Option (List ℕ)) (old new : Option (List ℕ))
    (bytes piece : List ℕ) (now : Moment) (fault : ScriptFault)
    → Consumes a b bytes → Consumes b c piece → Fed limit (moment [] 0 world old) bytes now
    → Breaks limit now piece fault new
    → IfSome a (λ input. Leaves limit world (lines input) fault old new)
leaves_in_piece limit world a b c old new bytes piece now fault p q fed broken =
    of_input a c (bytes ++ piece) (λ input. Leaves limit world (lines input) fault old new)
    (Consumes-trans a b c bytes piece p q)
    (λ rest. breaks_leaves limit world old new (bytes ++ piece) rest fault
    (Breaks-more limit (moment [] 0 world old) now bytes piece fault new fed broken))

-- the reader failed, or the reads ran out
pub leaves_between : (limit : ℕ) (world : World) (a b : Option (List ℕ)) (old : Option (List ℕ)) (bytes : List ℕ)
    (now : Moment)
    → Consumes a b bytes → Fed limit (moment [] 0 world old) bytes now
    → IfSome a (λ input. AnsweredFirst limit world (lines input) now.count old now.held)
leaves_between limit world a b old bytes now p fed =
    of_input a b bytes (λ input. AnsweredFirst limit world (lines input) now.count old now.held) p
    (λ rest. stands_first limit world old now.held bytes rest now now.count fed refl (Keeps-refl now.held))
