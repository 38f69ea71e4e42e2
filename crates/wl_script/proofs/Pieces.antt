-- A run that was fed one piece, and then another.
use Rattle.std.proofs.Common.{◌≡◌, ℕ, List, [], ◌∷◌, ◌++◌, ◌<◌, ◌≤◌, ◌+◌, ◌∙◌, refl, sym, ap, subst, subst₂, arith}
use Rattle.std.proofs.Common.{length, append_assoc, append-nil, length-append, Option, false, Result, Ok, Err, IfErr}
use Rattle.std.specs.Result.{IsErrAnd}
use Rattle.std.proofs.lemmas.List.Elements.{All-nil, All-cons, All-append}
use Rattle.std.proofs.lemmas.Grind.{flat_map-append}
use Rattle.std.specs.Io.KnownBytes.{Appends, Keeps}
use Rattle.std.proofs.KnownBytes.{Appends-nil, Appends-trans, Keeps-refl}
use Rattle.wl_codec.specs.Lines.{HasNoLf, is_lf}
use Rattle.wl_script.specs.Lines.{with_lfs}
use Rattle.wl_world.specs.World.{World, next}
use Rattle.wl_script.specs.Transcript.{transcript, after, reply_line}
use Rattle.wl_script.specs.Leaves.{Answered}
use Rattle.wl_script.specs.inner.Progress.{Moment, moment, Fed, AnsweredPart, IsUnanswered, Stops, Breaks, IsNotKept}
use Rattle.wl_script.specs.declared.fault.ScriptFault.{ScriptFault}
use Rattle.wl_script.specs.declared.fault.ScriptFault.TheVariants.{Memory, Read, Write, LineTooLong, TooManyTurns}

-- an error that `?` handed on
pub handed_on : {T : Type 0} (r : Result T ScriptFault) (fault : ScriptFault) (P : ScriptFault → Type 0)
    → IsErrAnd r (λ e. e ≡ fault) → P fault → IfErr r P
handed_on (Ok x) fault P is p = tt
handed_on (Err e) fault P is p = subst P (sym is) p

pub no_front : (xs ys : List ℕ) → length xs ≡ 0 → ys ≡ xs ++ ys
no_front [] ys e = refl
no_front (x ∷ xs) ys e = absurd (omega (arith, e))

pub with_lfs-append : (xs ys : List (List ℕ)) → with_lfs (xs ++ ys) ≡ with_lfs xs ++ with_lfs ys
with_lfs-append xs ys = flat_map-append (λ line. line ++ 10 ∷ []) xs ys

pub transcript-append : (world : World) (xs ys : List (List ℕ))
    → transcript world (xs ++ ys) ≡ transcript world xs ++ transcript (after world xs) ys
transcript-append world [] ys = refl
transcript-append world (x ∷ xs) ys = ap (λ t. reply_line world x ++ t) (transcript-append (next world x) xs ys)
    ∙ sym (append_assoc (reply_line world x) _ _)

pub after-append : (world : World) (xs ys : List (List ℕ)) → after world (xs ++ ys) ≡ after (after world xs) ys
after-append world [] ys = refl
after-append world (x ∷ xs) ys = after-append (next world x) xs ys

-- nothing was answered yet
pub Answered-none : (limit : ℕ) (world : World) (held : Option (List ℕ)) → Answered limit world [] held held
Answered-none limit world held = record { within = All-nil (λ line. length line ≤ limit); written = Appends-nil held }

pub Answered-one : (limit : ℕ) (world : World) (line : List ℕ) (old new : Option (List ℕ)) → length line ≤ limit
    → Appends old new (reply_line world line)
    → Answered limit world (line ∷ []) old new
Answered-one limit world line old new short written = record {
  within = All-cons (λ l. length l ≤ limit) line [] short (All-nil (λ l. length l ≤ limit));
  written = subst (Appends old new) (sym (append-nil (reply_line world line))) written;
}

pub Answered-more : (limit : ℕ) (world mid : World) (xs ys : List (List ℕ)) (a b c : Option (List ℕ))
    → mid ≡ after world xs
    → Answered limit world xs a b → Answered limit mid ys b c → Answered limit world (xs ++ ys) a c
Answered-more limit world mid xs ys a b c e p q =
    let text : transcript world xs ++ transcript mid ys ≡ transcript world (xs ++ ys)
    = ap (λ w. transcript world xs ++ transcript w ys) e ∙ sym (transcript-append world xs ys) in
    record {
      within = All-append (λ line. length line ≤ limit) xs ys p.within q.within;
      written = subst (Appends a c) text (Appends-trans a b c _ _ p.written q.written);
    }

pub Fed-none : (limit : ℕ) (m : Moment) → HasNoLf m.unfinished → Fed limit m [] m
Fed-none limit m open_end = record {
  ended = [];
  split = append-nil m.unfinished;
  whole = All-nil HasNoLf;
  open_end = open_end;
  count = omega arith;
  world = refl;
  answered = Answered-none limit m.world m.held;
}

pub Fed-more : (limit : ℕ) (a b c : Moment) (xs ys : List ℕ) → Fed limit a xs b → Fed limit b ys c
    → Fed limit a (xs ++ ys) c
Fed-more limit a b c xs ys p q = record {
  ended = p.ended ++ q.ended;
  split = sym (append_assoc a.unfinished xs ys) ∙ ap (λ t. t ++ ys) p.split
      ∙ append_assoc (with_lfs p.ended) b.unfinished ys
      ∙ ap (λ t. with_lfs p.ended ++ t) q.split ∙ sym (append_assoc (with_lfs p.ended) (with_lfs q.ended) c.unfinished)
      ∙ ap (λ t. t ++ c.unfinished) (sym (with_lfs-append p.ended q.ended));
  whole = All-append HasNoLf p.ended q.ended p.whole q.whole;
  open_end = q.open_end;
  count = omega (arith, p.count, q.count, length-append p.ended q.ended);
  world = q.world ∙ ap (λ w. after w q.ended) p.world ∙ sym (after-append a.world p.ended q.ended);
  answered = Answered-more limit a.world b.world p.ended q.ended a.held b.held c.held p.world p.answered q.answered;
}

-- bytes without LF only make the unfinished line longer
pub Fed-unfinished : (limit : ℕ) (m : Moment) (bytes : List ℕ) → HasNoLf m.unfinished → HasNoLf bytes
    → Fed limit m bytes (moment (m.unfinished ++ bytes) m.count m.world m.held)
Fed-unfinished limit m bytes open_end no_lf = record {
  ended = [];
  split = refl;
  whole = All-nil HasNoLf;
  open_end = All-append (λ byte. is_lf byte ≡ false) m.unfinished bytes open_end no_lf;
  count = omega arith;
  world = refl;
  answered = Answered-none limit m.world m.held;
}

-- and those with an LF behind them end it
pub Fed-line : (limit : ℕ) (m : Moment) (bytes line : List ℕ) (now : Moment) → HasNoLf m.unfinished → HasNoLf bytes
    → line ≡ m.unfinished ++ bytes → length line ≤ limit → now.unfinished ≡ [] → now.count ≡ m.count + 1
    → now.world ≡ next m.world line
    → Appends m.held now.held (reply_line m.world line) → Fed limit m (bytes ++ 10 ∷ []) now
Fed-line limit m bytes line now open_end no_lf is short none counted stepped written = record {
  ended = line ∷ [];
  split = sym (append_assoc m.unfinished bytes (10 ∷ [])) ∙ ap (λ l. l ++ 10 ∷ []) (sym is)
      ∙ sym (append-nil (line ++ 10 ∷ []))
      ∙ ap (λ t. t ++ []) (sym (append-nil (line ++ 10 ∷ []))) ∙ ap (λ t. ((line ++ 10 ∷ []) ++ []) ++ t) (sym none);
  whole = All-cons HasNoLf line [] (subst HasNoLf (sym is) (All-append (λ byte. is_lf byte ≡ false) m.unfinished bytes
      open_end no_lf)) (All-nil HasNoLf);
  open_end = subst HasNoLf (sym none) (All-nil (λ byte. is_lf byte ≡ false));
  count = omega (arith, counted);
  world = stepped;
  answered = Answered-one limit m.world line m.held now.held short written;
}

-- the fault came in the second piece
pub Breaks-more : (limit : ℕ) (a b : Moment) (xs ys : List ℕ) (fault : ScriptFault) (new : Option (List ℕ))
    → Fed limit a xs b → Breaks limit b ys fault new → Breaks limit a (xs ++ ys) fault new
Breaks-more limit a b xs ys fault new p q = record {
  front = xs ++ q.front;
  back = q.back;
  split = ap (λ l. xs ++ l) q.split ∙ sym (append_assoc xs q.front q.back);
  now = q.now;
  fed = Fed-more limit a b q.now xs q.front p q.fed;
  stops = q.stops;
}

-- more bytes would have come
Stops-longer : (limit : ℕ) (now : Moment) (back more : List ℕ) (fault : ScriptFault) (new : Option (List ℕ))
    → Stops limit now back fault new → Stops limit now (back ++ more) fault new
Stops-longer limit now back more (Memory n) new s = s
Stops-longer limit now back more (Write n) new (count, part, short, (rest, is)) =
    (count, part, short, (rest ++ more, ap (λ l. l ++ more) is))
Stops-longer limit now back more (LineTooLong n) new s = s
Stops-longer limit now back more (Read n) new s = absurd s
Stops-longer limit now back more (TooManyTurns n) new s = absurd s

pub Breaks-longer : (limit : ℕ) (a : Moment) (xs ys : List ℕ) (fault : ScriptFault) (new : Option (List ℕ))
    → Breaks limit a xs fault new → Breaks limit a (xs ++ ys) fault new
Breaks-longer limit a xs ys fault new q = record {
  front = q.front;
  back = q.back ++ ys;
  split = ap (λ l. l ++ ys) q.split ∙ append_assoc q.front q.back ys;
  now = q.now;
  fed = q.fed;
  stops = Stops-longer limit q.now q.back ys fault new q.stops;
}

-- the line that the bytes and an LF end is too long
pub Breaks-long : (limit : ℕ) (m : Moment) (bytes back : List ℕ) (new : Option (List ℕ)) → HasNoLf m.unfinished
    → HasNoLf bytes
    → limit < length m.unfinished + length bytes → Keeps m.held new
    → Breaks limit m (bytes ++ back) (LineTooLong m.count) new
Breaks-long limit m bytes back new open_end no_lf long kept = record {
  front = bytes;
  back = back;
  split = refl;
  now = moment (m.unfinished ++ bytes) m.count m.world m.held;
  fed = Fed-unfinished limit m bytes open_end no_lf;
  stops = (refl, kept, omega (arith, long, length-append m.unfinished bytes));
}

-- memory was refused before the line was answered
pub Breaks-memory : (limit : ℕ) (m : Moment) (bytes : List ℕ) (new : Option (List ℕ)) → HasNoLf m.unfinished
    → Keeps m.held new → Breaks limit m bytes (Memory m.count) new
Breaks-memory limit m bytes new open_end kept = record {
  front = [];
  back = bytes;
  split = refl;
  now = m;
  fed = Fed-none limit m open_end;
  stops = (refl, kept);
}

-- the line that the bytes and an LF end wasn't answered
pub Breaks-line : (limit : ℕ) (m : Moment) (bytes line : List ℕ) (fault : ScriptFault) (new : Option (List ℕ))
    → HasNoLf m.unfinished → HasNoLf bytes
    → line ≡ m.unfinished ++ bytes → length line ≤ limit → IsUnanswered m.count m.world line m.held fault new
    → Breaks limit m (bytes ++ 10 ∷ []) fault new
Breaks-line limit m bytes line (Memory n) new open_end no_lf is short (count, kept) = record {
  front = [];
  back = bytes ++ 10 ∷ [];
  split = refl;
  now = m;
  fed = Fed-none limit m open_end;
  stops = (count, kept);
}
Breaks-line limit m bytes line (Write n) new open_end no_lf is short (count, part) = record {
  front = bytes;
  back = 10 ∷ [];
  split = refl;
  now = moment (m.unfinished ++ bytes) m.count m.world m.held;
  fed = Fed-unfinished limit m bytes open_end no_lf;
  stops = (
    count,
    subst (λ l. AnsweredPart m.world l m.held new) is part,
    subst (λ l. length l ≤ limit) is short,
    ([], refl),
  );
}
Breaks-line limit m bytes line (Read n) new open_end no_lf is short s = absurd s
Breaks-line limit m bytes line (LineTooLong n) new open_end no_lf is short s = absurd s
Breaks-line limit m bytes line (TooManyTurns n) new open_end no_lf is short s = absurd s

-- the beginning of a line wasn't kept
pub Breaks-keep : (limit : ℕ) (m : Moment) (bytes : List ℕ) (fault : ScriptFault) → HasNoLf m.unfinished → HasNoLf bytes
    → IsNotKept limit m.count (m.unfinished ++ bytes) fault → Breaks limit m bytes fault m.held
Breaks-keep limit m bytes (Memory n) open_end no_lf count =
    subst (λ k. Breaks limit m bytes (Memory k) m.held) (sym count)
    (Breaks-memory limit m bytes m.held open_end (Keeps-refl m.held))
Breaks-keep limit m bytes (LineTooLong n) open_end no_lf (count, long) =
    subst (λ k. Breaks limit m bytes (LineTooLong k) m.held) (sym count)
    (subst (λ all. Breaks limit m all (LineTooLong m.count) m.held) (append-nil bytes)
    (Breaks-long limit m bytes [] m.held open_end no_lf (omega (arith, long, length-append m.unfinished bytes))
    (Keeps-refl m.held)))
Breaks-keep limit m bytes (Read n) open_end no_lf s = absurd s
Breaks-keep limit m bytes (Write n) open_end no_lf s = absurd s
Breaks-keep limit m bytes (TooManyTurns n) open_end no_lf s = absurd s

-- the next line of a piece was answered
pub fed_line : (limit : ℕ) (a b c : Moment) (piece front rest line back : List ℕ) → piece ≡ front ++ rest
    → rest ≡ line ++ 10 ∷ back
    → Fed limit a front b → Fed limit b (line ++ 10 ∷ []) c
    → ((all : List ℕ) × (piece ≡ all ++ back) × Fed limit a all c)
fed_line limit a b c piece front rest line back split found p q = (
  front ++ (line ++ 10 ∷ []),
  split ∙ ap (λ l. front ++ l) (found ∙ sym (append_assoc line (10 ∷ []) back))
      ∙ sym (append_assoc front (line ++ 10 ∷ []) back),
  Fed-more limit a b c front (line ++ 10 ∷ []) p q,
)

-- and where it wasn't
pub broken_line : (limit : ℕ) (a b : Moment) (piece front rest line back : List ℕ) (fault : ScriptFault)
    (new : Option (List ℕ)) → piece ≡ front ++ rest → rest ≡ line ++ 10 ∷ back
    → Fed limit a front b → Breaks limit b (line ++ 10 ∷ []) fault new → Breaks limit a piece fault new
broken_line limit a b piece front rest line back fault new split found p q =
    subst (λ all. Breaks limit a all fault new)
    (ap (λ l. front ++ l) (append_assoc line (10 ∷ []) back ∙ sym found) ∙ sym split)
    (Breaks-more limit a b front ((line ++ 10 ∷ []) ++ back) fault new p
    (Breaks-longer limit b (line ++ 10 ∷ []) back fault new q))

-- what follows a line is shorter
pub shorter : (rest line back : List ℕ) → rest ≡ line ++ 10 ∷ back → length back < length rest
shorter rest line back found = omega (arith, ap length found, length-append line (10 ∷ back))

-- what follows the last LF of a piece was kept
pub fed_rest : (limit : ℕ) (a b : Moment) (piece front rest unfinished : List ℕ) (count : ℕ) → piece ≡ front ++ rest
    → HasNoLf b.unfinished → HasNoLf rest
    → unfinished ≡ b.unfinished ++ rest → count ≡ b.count → Fed limit a front b
    → Fed limit a piece (moment unfinished count b.world b.held)
fed_rest limit a b piece front rest unfinished count split open_end no_lf kept same p =
    subst₂ (λ u k. Fed limit a piece (moment u k b.world b.held)) (sym kept) (sym same)
    (subst (λ all. Fed limit a all (moment (b.unfinished ++ rest) b.count b.world b.held)) (sym split)
    (Fed-more limit a b _ front rest p (Fed-unfinished limit b rest open_end no_lf)))

-- and where it wasn't
pub broken_rest : (limit : ℕ) (a b : Moment) (piece front rest : List ℕ) (fault : ScriptFault) → piece ≡ front ++ rest
    → HasNoLf b.unfinished → HasNoLf rest
    → Fed limit a front b → IsNotKept limit b.count (b.unfinished ++ rest) fault → Breaks limit a piece fault b.held
broken_rest limit a b piece front rest fault split open_end no_lf p q =
    subst (λ all. Breaks limit a all fault b.held) (sym split)
    (Breaks-more limit a b front rest fault b.held p (Breaks-keep limit b rest fault open_end no_lf q))
