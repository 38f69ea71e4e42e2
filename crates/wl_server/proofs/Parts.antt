-- Parts of lines, one after another.
use Rattle.std.proofs.Common.{Bool, true, not, ◌==◌, Result, Ok, ◌≡◌, ◌<◌, ◌+◌, ◌∙◌, refl, sym, ap, subst, arith, ℕ}
use Rattle.std.proofs.Common.{List, [], ◌∷◌, ◌++◌, append_assoc, append-nil, length, drop, Option, None, Some, false}
use Rattle.std.proofs.Common.{inl, inr, suc, add-one}
use Rattle.std.specs.Io.KnownBytes.{Consumes, Keeps, IsAtEnd, prepend_known}
use Rattle.std.proofs.KnownBytes.{Consumes-trans, Consumes-kept}
use Rattle.std.proofs.lemmas.List.Elements.{All-nil, All-append}
use Rattle.wl_codec.specs.Lines.{HasNoLf, is_lf}
use Rattle.wl_server.specs.Lines.{GivesLine, GivesTooLong}
use Rattle.wl_server.specs.inner.Lines.{GivesPart}

drop_from : (part rest : List ℕ) → drop (suc (length part)) (part ++ 10 ∷ rest) ≡ rest
drop_from [] rest = refl
drop_from (x ∷ part) rest = drop_from part rest

drop_part : (part rest : List ℕ) → drop (length part + 1) (part ++ 10 ∷ rest) ≡ rest
drop_part part rest = ap (λ n. drop n (part ++ 10 ∷ rest)) (add-one (length part)) ∙ drop_from part rest

drop_all : (bytes : List ℕ) → drop (length bytes) bytes ≡ []
drop_all [] = refl
drop_all (x ∷ bytes) = drop_all bytes

consumed : (front rest : List ℕ) (more : Option (List ℕ)) → Consumes (prepend_known (front ++ rest) more)
    (prepend_known rest more) front
consumed front rest None = tt
consumed front rest (Some ys) = append_assoc front rest ys

-- the part up to the LF
pub ended : (bytes part rest begun line : List ℕ) (more : Option (List ℕ)) → HasNoLf part → bytes ≡ part ++ 10 ∷ rest
    → line ≡ begun ++ part
    → GivesPart (prepend_known bytes more) begun line (10 ∷ []) (prepend_known (drop (length part + 1) bytes) more)
ended bytes part rest begun line more no_lf is added = record {
  part = part;
  no_lf = no_lf;
  added = added;
  given = rw (is, drop_part part rest) (subst (λ bs. Consumes (prepend_known bs more) (prepend_known rest more)
      (part ++ 10 ∷ [])) (append_assoc part (10 ∷ []) rest) (consumed (part ++ 10 ∷ []) rest more));
}

-- all of the bytes
pub used : (bytes begun line : List ℕ) (more : Option (List ℕ)) → HasNoLf bytes → line ≡ begun ++ bytes
    → GivesPart (prepend_known bytes more) begun line [] (prepend_known (drop (length bytes) bytes) more)
used bytes begun line more no_lf added = record {
  part = bytes;
  no_lf = no_lf;
  added = added;
  given = rw (drop_all bytes, append-nil bytes) (subst (λ bs. Consumes (prepend_known bs more) (prepend_known [] more)
      bytes) (append-nil bytes) (consumed bytes [] more));
}

-- a part that makes a line too long
pub long_ended : (bytes part rest begun line : List ℕ) (more : Option (List ℕ)) → HasNoLf part
    → bytes ≡ part ++ 10 ∷ rest → line ≡ begun ++ part
    → GivesPart (prepend_known bytes more) begun line [] (prepend_known (10 ∷ rest) more)
long_ended bytes part rest begun line more no_lf is added = record {
  part = part;
  no_lf = no_lf;
  added = added;
  given = rw (is, append-nil part) (consumed part (10 ∷ rest) more);
}

-- one read more, where the piece was used up
pub read_on : (old new : Option (List ℕ)) (piece : List ℕ) → Consumes old new piece
    → Keeps (prepend_known [] old) (prepend_known piece new)
read_on None new piece h = tt
read_on (Some xs) None piece h = absurd h
read_on (Some xs) (Some ys) piece h = sym h

-- what a line has while it is read
pub record IsBegun (old : Option (List ℕ)) (line : List ℕ) (now : Option (List ℕ)) : Type 0 where
  pub no_lf : HasNoLf line
  pub given : Consumes old now line

pub begins : (old : Option (List ℕ)) → IsBegun old [] old
begins old = record { no_lf = All-nil (λ byte. is_lf byte ≡ false); given = nothing old }
  where
    nothing : (a : Option (List ℕ)) → Consumes a a []
    nothing None = tt
    nothing (Some x) = refl

pub goes_on : (old now next : Option (List ℕ)) (begun line : List ℕ) → IsBegun old begun now
    → GivesPart now begun line [] next → IsBegun old line next
goes_on old now next begun line was more =
    let is : line ≡ begun ++ more.part = more.added in
    rw is (record {
      no_lf = All-append (λ byte. is_lf byte ≡ false) begun more.part was.no_lf more.no_lf;
      given = Consumes-trans old now next begun more.part was.given
          (subst (Consumes now next) (append-nil more.part) more.given);
    })

pub reads_on : (old now next : Option (List ℕ)) (line : List ℕ) → IsBegun old line now → Keeps now next
    → IsBegun old line next
reads_on old now next line was kept = record {
  no_lf = was.no_lf;
  given = Consumes-kept old now next line was.given kept;
}

pub ends : (old now next : Option (List ℕ)) (begun line : List ℕ) → IsBegun old begun now
    → GivesPart now begun line (10 ∷ []) next → GivesLine old line next
ends old now next begun line was more =
    let is : line ≡ begun ++ more.part = more.added in
    rw is (
      All-append (λ byte. is_lf byte ≡ false) begun more.part was.no_lf more.no_lf,
      inl (subst (Consumes old next) (sym (append_assoc begun more.part (10 ∷ [])))
          (Consumes-trans old now next begun (more.part ++ 10 ∷ []) was.given more.given)),
    )

-- the piece was used up, and another was read
pub next_piece : (old now r r' : Option (List ℕ)) (piece piece' begun line : List ℕ) → IsBegun old begun now
    → GivesPart now begun line [] (prepend_known piece r)
    → piece ≡ [] → Consumes r r' piece' → IsBegun old line (prepend_known piece' r')
next_piece old now r r' piece piece' begun line was more is read =
    reads_on old (prepend_known [] r) (prepend_known piece' r') line
    (goes_on old now (prepend_known [] r) begun line was (subst (λ p. GivesPart now begun line [] (prepend_known p r))
    is more))
    (read_on r r' piece' read)

at_end : (piece : List ℕ) (r : Option (List ℕ)) → piece ≡ [] → IsAtEnd r → IsAtEnd (prepend_known piece r)
at_end piece None is end = tt
at_end piece (Some ys) is end = ap (λ p. p ++ ys) is ∙ end

-- no more came: what there is of a line is one if it has a byte
pub last_line : (old r : Option (List ℕ)) (piece line : List ℕ) → IsBegun old line (prepend_known piece r) → piece ≡ []
    → IsAtEnd r → 0 < length line
    → GivesLine old line (prepend_known piece r)
last_line old r piece line was is end some = (was.no_lf, inr (was.given, some, at_end piece r is end))

nothing_left : (old now : Option (List ℕ)) → Consumes old now [] → IsAtEnd now → IsAtEnd old
nothing_left None now given end = tt
nothing_left (Some xs) None given end = absurd given
nothing_left (Some xs) (Some ys) given end = given ∙ end

pub no_line : (old r : Option (List ℕ)) (piece line : List ℕ) → IsBegun old line (prepend_known piece r) → piece ≡ []
    → IsAtEnd r → line ≡ [] → IsAtEnd old
no_line old r piece line was is end none = nothing_left old (prepend_known piece r)
    (subst (Consumes old (prepend_known piece r)) none was.given) (at_end piece r is end)

pub too_long : (old now left : Option (List ℕ)) (begun line : List ℕ) (limit : ℕ) → IsBegun old begun now
    → GivesPart now begun line [] left → limit < length line → GivesTooLong old limit
too_long old now left begun line limit was more long =
    let all = goes_on old now left begun line was more in
    (line, left, all.no_lf, long, all.given)

-- what tests of being empty say
pub none : (bytes piece : List ℕ) (test : Bool) → bytes ≡ piece → test ≡ (length bytes == 0) → test ≡ true → piece ≡ []
none [] piece test is found so = sym is
none (x ∷ bytes) piece test is found so = grind (arith, found, so)

pub some_byte : {E : Type 0} (line : List ℕ) (n : ℕ) (test : Bool) → n ≡ length line → test ≡ (n == 0)
    → ◌≡◌ {A = Result Bool E} (Ok (not test)) (Ok true) → 0 < length line
some_byte [] n test is found so = grind (arith, is, found, so)
some_byte (x ∷ line) n test is found so = grind arith

pub no_byte : {E : Type 0} (line : List ℕ) (n : ℕ) (test : Bool) → n ≡ length line → test ≡ (n == 0)
    → ◌≡◌ {A = Result Bool E} (Ok (not test)) (Ok false) → line ≡ []
no_byte [] n test is found so = refl
no_byte (x ∷ line) n test is found so = grind (arith, is, found, so)
