-- Scripts, their lines and their transcripts.
use Rattle.std.proofs.Common.{◌≡◌, ℕ, List, [], ◌∷◌, ◌++◌, ◌+◌, ◌∙◌, refl, sym, ap, append_assoc, append-nil, Bool}
use Rattle.std.proofs.Common.{true, false, take, All, eqb-true}
use Rattle.std.proofs.lemmas.List.Elements.{All-nil, All-cons, All-head, All-tail}
use Rattle.std.proofs.lemmas.List.{take_more}
use Rattle.std.proofs.lemmas.Option.{slice_get_within, get_or_from_slice_get}
use Rattle.wl_codec.specs.Lines.{HasNoLf, is_lf}
use Rattle.wl_script.specs.Lines.{lines, last_line, with_lfs}
use Rattle.wl_world.specs.Isolation.{replies}
use Rattle.wl_world.specs.World.{World, next}
use Rattle.wl_script.specs.Transcript.{transcript, after, reply_line}
use Rattle.wl_script.specs.Laws.{ScriptsAreLines, LinesAreAnsweredInTurn, ScriptsMayBeCut}
use Rattle.wl_script.proofs.Pieces.{transcript-append}
use Rattle.wl_script.proofs.Ends.{lines_after, lines_at, lines_none}

-- lines that were ended, and what follows the last LF
record Parts (script : List ℕ) : Type 0 where
  ended : List (List ℕ)
  last : List ℕ
  whole : All HasNoLf ended
  open_end : HasNoLf last
  split : script ≡ with_lfs ended ++ last

parts : (script : List ℕ) → Parts script
parts [] = record {
  ended = [];
  last = [];
  whole = All-nil HasNoLf;
  open_end = All-nil (λ byte. is_lf byte ≡ false);
  split = refl;
}
parts (b ∷ bs) = step (is_lf b) refl (parts bs)
  where
    onto : is_lf b ≡ false → (ended : List (List ℕ)) (last : List ℕ) → All HasNoLf ended → HasNoLf last
        → bs ≡ with_lfs ended ++ last → Parts (b ∷ bs)
    onto e [] last whole open_end split =
        record {
          ended = [];
          last = b ∷ last;
          whole = whole;
          open_end = All-cons (λ byte. is_lf byte ≡ false) b last e open_end;
          split = ap (λ l. b ∷ l) split;
        }
    onto e (line ∷ ended) last whole open_end split = record {
      ended = (b ∷ line) ∷ ended;
      last = last;
      whole = All-cons HasNoLf (b ∷ line) ended (All-cons (λ byte. is_lf byte ≡ false) b line e
          (All-head HasNoLf line ended whole)) (All-tail HasNoLf line ended whole);
      open_end = open_end;
      split = ap (λ l. b ∷ l) split;
    }

    step : (t : Bool) → is_lf b ≡ t → Parts bs → Parts (b ∷ bs)
    step true e p = record {
      ended = [] ∷ p.ended;
      last = p.last;
      whole = All-cons HasNoLf [] p.ended (All-nil (λ byte. is_lf byte ≡ false)) p.whole;
      open_end = p.open_end;
      split = ap (λ c. c ∷ bs) (eqb-true b 10 e) ∙ ap (λ l. 10 ∷ l) p.split;
    }
    step false e p = onto e p.ended p.last p.whole p.open_end p.split

parts_are_lines : (script : List ℕ) (p : Parts script) → lines script ≡ p.ended ++ last_line p.last
parts_are_lines script p = ap lines p.split ∙ lines_after p.ended p.last p.whole
    ∙ ap (λ ls. p.ended ++ ls) (lines_none p.last p.open_end)

pub scripts_are_lines : ScriptsAreLines
scripts_are_lines script = let p = parts script in (
  p.ended,
  p.last,
  p.whole,
  p.open_end,
  p.split,
  parts_are_lines script p,
)

pub in_turn : LinesAreAnsweredInTurn
in_turn world all n line at =
    let front = take n all in
    let next : take (n + 1) all ≡ front ++ line ∷ [] = take_more all n line (slice_get_within all n line at)
    ∙ ap (λ l. front ++ l ∷ []) (get_or_from_slice_get all n line line at) in
    ap (transcript world) next ∙ transcript-append world front (line ∷ [])
    ∙ ap (λ t. transcript world front ++ t) (append-nil (reply_line (after world front) line))

-- the lines of a script that is cut behind an LF
cut_lines : (front rest : List ℕ) (p : Parts front) → lines (front ++ 10 ∷ rest)
    ≡ (p.ended ++ p.last ∷ []) ++ lines rest
cut_lines front rest p =
    ap (λ l. lines (l ++ 10 ∷ rest)) p.split ∙ ap lines (append_assoc (with_lfs p.ended) p.last (10 ∷ rest))
    ∙ lines_after p.ended (p.last ++ 10 ∷ rest) p.whole
    ∙ ap (λ ls. p.ended ++ ls) (lines_at p.last 10 rest p.open_end refl)
    ∙ sym (append_assoc p.ended (p.last ∷ []) (lines rest))

pub may_be_cut : ScriptsMayBeCut
may_be_cut world front rest =
    let p = parts front in
    let done : lines (front ++ 10 ∷ []) ≡ p.ended ++ p.last ∷ [] = cut_lines front [] p
    ∙ append-nil (p.ended ++ p.last ∷ []) in
    ap (transcript world) (cut_lines front rest p ∙ ap (λ ls. ls ++ lines rest) (sym done))
    ∙ transcript-append world (lines (front ++ 10 ∷ [])) (lines rest)

-- a transcript is the replies, each with LF
pub are_replies : (world : World) (all : List (List ℕ)) → transcript world all ≡ with_lfs (replies world all)
are_replies world [] = refl
are_replies world (line ∷ all) = ap (λ rest. reply_line world line ++ rest) (are_replies (next world line) all)
