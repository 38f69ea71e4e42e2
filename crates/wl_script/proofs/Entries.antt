-- How many entries the journals will have had, as the bytes of a script are taken.
use Rattle.std.proofs.Common.{◌≡◌, ℕ, List, [], ◌∷◌, ◌++◌, ◌<◌, ◌+◌, ◌∙◌, refl, false, sym, ap, subst, arith, length}
use Rattle.std.proofs.Common.{append_assoc, append-nil, Option, IfSome}
use Rattle.std.proofs.lemmas.List.Elements.{All-append}
use Rattle.std.specs.Io.KnownBytes.{Consumes, IsAtEnd}
use Rattle.std.proofs.KnownBytes.{Consumes-whole}
use Rattle.wl_codec.specs.Reading.{line_reading}
use Rattle.wl_world.specs.Entries.{line_entries, script_entries}
use Rattle.wl_world.specs.Journals.{Grow, Journals, with_more}
use Rattle.wl_world.specs.World.{World, next}
use Rattle.wl_world.proofs.Entries.{more_twice, no_more}
use Rattle.wl_codec.specs.Lines.{HasNoLf, is_lf}
use Rattle.wl_script.specs.Lines.{last_line, lines}
use Rattle.wl_script.specs.inner.Progress.{CountsOn, entries_then}
use Rattle.wl_script.proofs.Ends.{last_line_some, lines_at, lines_none}

-- a line was answered
pub counted_line : (world new : World) (before after : Journals) (unfinished bytes line left : List ℕ)
    → HasNoLf unfinished → HasNoLf bytes → line ≡ unfinished ++ bytes
    → new ≡ next world line → Grow before (λ key. line_entries key world (line_reading line)) after → left ≡ []
    → CountsOn world before (unfinished ++ bytes ++ 10 ∷ []) new after left
counted_line world new before after unfinished bytes line left front back is is_next grew none = record {
  same = λ key rest. ap (λ bytes. entries_then new after (bytes ++ rest) key) none
      ∙ ap (λ w. entries_then w after rest key) is_next
      ∙ ap (with_more (script_entries key (next world line) (lines rest))) (grew key)
      ∙ more_twice (line_entries key world (line_reading line)) (script_entries key (next world line) (lines rest))
      (before key)
      ∙ sym (ap (λ all. with_more (script_entries key world all) (before key)) (ap lines (joined rest)
      ∙ lines_at line 10 rest no_lf refl));
}
  where
    no_lf : HasNoLf line
    no_lf = subst HasNoLf (sym is) (All-append (λ byte. is_lf byte ≡ false) unfinished bytes front back)

    joined : (rest : List ℕ) → (unfinished ++ bytes ++ 10 ∷ []) ++ rest ≡ line ++ 10 ∷ rest
    joined rest = rw is (simp append_assoc)

-- .. in the midst of a piece
pub counted_more : (old world new : World) (start before after : Journals) (all unfinished rest line back left : List ℕ)
    → rest ≡ line ++ 10 ∷ back
    → CountsOn old start all world before (unfinished ++ rest)
    → CountsOn world before (unfinished ++ line ++ 10 ∷ []) new after left
    → CountsOn old start all new after (left ++ back)
counted_more old world new start before after all unfinished rest line back left split first second = record {
  same = λ key more. ap (λ bytes. entries_then new after bytes key) (append_assoc left back more)
      ∙ second.same key (back ++ more)
      ∙ ap (λ bytes. entries_then world before bytes key) (joined more) ∙ first.same key more;
}
  where
    joined : (more : List ℕ) → (unfinished ++ line ++ 10 ∷ []) ++ (back ++ more) ≡ (unfinished ++ rest) ++ more
    joined more = rw split (simp append_assoc)

-- a piece was taken
pub counted_piece : (old world new : World) (start before after : Journals) (all unfinished piece left : List ℕ)
    → CountsOn old start all world before unfinished → CountsOn world before (unfinished ++ piece) new after left
    → CountsOn old start (all ++ piece) new after left
counted_piece old world new start before after all unfinished piece left first second = record {
  same = λ key more. second.same key more
      ∙ ap (λ bytes. entries_then world before bytes key) (append_assoc unfinished piece more)
      ∙ first.same key (piece ++ more)
      ∙ sym (ap (λ bytes. entries_then old start bytes key) (append_assoc all piece more));
}

-- there is no last line
pub counted_none : (world : World) (journals : Journals) (unfinished : List ℕ) → length unfinished ≡ 0
    → Grow journals (λ key. script_entries key world (last_line unfinished)) journals
counted_none world journals [] e key = no_more (journals key)
counted_none world journals (byte ∷ bytes) e key = absurd (omega (arith, e))

-- the last line was answered
pub counted_last : (world : World) (before after : Journals) (unfinished : List ℕ) → 0 < length unfinished
    → Grow before (λ key. line_entries key world (line_reading unfinished)) after
    → Grow before (λ key. script_entries key world (last_line unfinished)) after
counted_last world before after unfinished some grew key =
    grew key ∙ ap (λ n. with_more n (before key)) (omega arith)
    ∙ sym (ap (λ all. with_more (script_entries key world all) (before key)) (last_line_some unfinished some))

-- the reader was at its end
pub counted_all : (old world : World) (start before after : Journals) (a b : Option (List ℕ)) (all unfinished : List ℕ)
    → Consumes a b all × IsAtEnd b → HasNoLf unfinished
    → CountsOn old start all world before unfinished
    → Grow before (λ key. script_entries key world (last_line unfinished)) after
    → IfSome a (λ input. Grow start (λ key. script_entries key old (lines input)) after)
counted_all old world start before after a b all unfinished (read, end) no_lf counts grew =
    Consumes-whole a b all (λ input. Grow start (λ key. script_entries key old (lines input)) after) read end
    (λ key. grew key ∙ sym
    (ap (λ all. with_more (script_entries key world all) (before key)) (ap lines (append-nil unfinished)
    ∙ lines_none unfinished no_lf))
    ∙ counts.same key [] ∙ ap (λ bytes. entries_then old start bytes key) (append-nil all))
