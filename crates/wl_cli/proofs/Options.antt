-- From what a getter read to the rows of the matches.
use Rattle.std.proofs.Common.{◌≡◌, inl, inr, ℕ, Bool, codes, true, false, true≢false, List, [], Option, Some, None}
use Rattle.std.proofs.Common.{Result, Ok, Err, refl, sym, ap, ◌∙◌}
use Rattle.std.specs.Prelude.{IfErr, IfSome, is_some, option_and_then, option_map, slice_get}
use Rattle.std.specs.Borrow.{Bor}
use Rattle.std.specs.Net.Grammar.{IsSocketText, Parses}
use Rattle.std.specs.Str.Parse.{digits_value, without_leading_plus}
use Rattle.std.specs.declared.net.socket_addr.SocketAddr.{SocketAddr}
use Rattle.clap.specs.Words.{Kinds, Row, Text, first_value, matched_of, one_of, one_text, read_as, rows_of, ReadsOne}
use Rattle.clap.specs.declared.parser.matches.Found.{Found}
use Rattle.clap.specs.declared.parser.matches.MatchedArg.{MatchedArg}
use Rattle.clap.proofs.WalkLemmas.{one_text-rows}
use Rattle.log.specs.Level.{IsParsed, parse_filter}
use Rattle.log.specs.declared.level.LevelFilter.{LevelFilter}
use Rattle.wl_cli.specs.Daemon.{HasNoAddress, HasNoLevel, IsUsed}
use Rattle.wl_cli.specs.Words.{HasNumber, IsUsageFault}
use Rattle.wl_cli.specs.declared.job.UsageFault.{UsageFault}
use Rattle.wl_cli.specs.declared.job.UsageFault.TheVariants.{Usage, Memory}

pub has_number : {E : Type 0} (gives : List ℕ → Result ℕ E → Type 0) (f : Found) (name : Text) (result : Option ℕ)
    → ((text : List ℕ) (n : ℕ) → gives text (Ok n) → n ≡ digits_value 10 (without_leading_plus text))
    → (one_text f name ≡ None → result ≡ None) → ((t : List ℕ) → one_text f name ≡ Some t → ReadsOne gives t result)
    → IfSome result (HasNumber name (rows_of f))
has_number gives f name None number none value = tt
has_number gives f name (Some n) number none value = go (one_text f name) refl
  where
    go : (o : Option (List ℕ)) → one_text f name ≡ o → HasNumber name (rows_of f) n
    go None e = let bad = none e in absurd (cc)
    go (Some t) e = (t, sym (one_text-rows f name) ∙ e, sym (number t n (value t e)))

-- an option has a text as written just where it has one as the typed getters read it
both_texts : (found : Option MatchedArg)
    → is_some (option_and_then (λ a. option_map (λ s. s.now) (slice_get a.vals.items 0)) found)
    ≡ is_some (option_and_then (λ a. option_map (λ s. read_as a.reading s.now) (slice_get a.vals.items 0)) found)
both_texts None = refl
both_texts (Some a) = go (slice_get a.vals.items 0)
  where
    go : (text : Option (Bor Text)) → is_some (option_map (λ s. s.now) text)
        ≡ is_some (option_map (λ s. read_as a.reading s.now) text)
    go None = refl
    go (Some text) = refl

is_some-map : {X Y : Type 0} (f : X → Y) (o : Option X) → is_some (option_map f o) ≡ is_some o
is_some-map f None = refl
is_some-map f (Some x) = refl

-- what `get_str` gave says whether the option has a text
pub has_text : (f : Found) (name : Text) (text : Option (Bor Text)) → option_map (λ s. s.now) text ≡ first_value f name
    → is_some text ≡ is_some (one_of name (rows_of f))
has_text f name text is =
    sym (is_some-map (λ s. s.now) text) ∙ ap is_some is ∙ both_texts (matched_of f name)
    ∙ ap is_some (one_text-rows f name)

pub none_of : {X : Type 0} (o : Option X) → is_some o ≡ false → o ≡ None
none_of None e = refl
none_of (Some x) e = absurd (true≢false e)

-- what `get_one` gave is read from the option's text
pub has_read : {T E : Type 0} (gives : List ℕ → Result T E → Type 0) (f : Found) (name : Text) (value : T)
    → (one_text f name ≡ None → Some value ≡ None) → ((t : List ℕ) → one_text f name ≡ Some t
    → ReadsOne gives t (Some value))
    → (text : Text) × (one_of name (rows_of f) ≡ Some text) × gives text (Ok value)
has_read gives f name value none reads = go (one_text f name) refl
  where
    go : (o : Option (List ℕ)) → one_text f name ≡ o → (text : Text) × (one_of name (rows_of f) ≡ Some text)
        × gives text (Ok value)
    go None e = let bad = none e in absurd (cc)
    go (Some t) e = (t, sym (one_text-rows f name) ∙ e, reads t e)

-- the text that isn't read is no address
pub no_address : {E : Type 0} (f : Found) (name : Text) → is_some (one_of name (rows_of f)) ≡ true
    → ((t : List ℕ) → one_text f name ≡ Some t → ReadsOne {T = SocketAddr} {E = E} (Parses IsSocketText) t None)
    → HasNoAddress (one_of name (rows_of f))
no_address f name some reads = go (one_of name (rows_of f)) (one_text-rows f name) some
  where
    go : (o : Option Text) → one_text f name ≡ o → is_some o ≡ true → HasNoAddress o
    go None e is = absurd (true≢false (sym is))
    go (Some t) e is = (reads t e).1

not_parsed : {E : Type 0} (named : Option LevelFilter) (error : E) → IsParsed named (Err error) → named ≡ None
not_parsed None error is = refl
not_parsed (Some level) error is = absurd (cc)

-- the text that isn't read is no level
pub no_level : {E : Type 0} (f : Found) (name : Text) → is_some (one_of name (rows_of f)) ≡ true
    → ((t : List ℕ) → one_text f name ≡ Some t → ReadsOne {T = LevelFilter} {E = E}
    (λ text r. IsParsed (parse_filter text) r) t None)
    → HasNoLevel (one_of name (rows_of f))
no_level f name some reads = go (one_of name (rows_of f)) (one_text-rows f name) some
  where
    go : (o : Option Text) → one_text f name ≡ o → is_some o ≡ true → HasNoLevel o
    go None e is = absurd (true≢false (sym is))
    go (Some t) e is = let error = reads t e in not_parsed (parse_filter t) error.0 error.1

pub is_parsed : (E : Type 0) (named : Option LevelFilter) (level : LevelFilter)
    → IsParsed {X = LevelFilter} {E = E} named (Ok level) → named ≡ Some level
is_parsed E None level is = absurd (true≢false (sym is))
is_parsed E (Some other) level is = cc

-- an option's error is one, whatever the kinds of the others
more_kinds : (kinds : Kinds) (used : Option (Text × List Row)) (fault : UsageFault) → IsUsageFault [] used fault
    → IsUsageFault kinds used fault
more_kinds kinds used (Usage error) (inl none) = absurd none
more_kinds kinds used (Usage error) (inr wrong) = inr wrong
more_kinds kinds used Memory is = tt

pub of_options : {T : Type 0} (kinds : Kinds) (used : Option (Text × List Row)) (result : Result T UsageFault)
    → IfErr result (IsUsageFault [] used) → IfErr result (IsUsageFault kinds used)
of_options kinds used (Ok job) is = tt
of_options kinds used (Err fault) is = more_kinds kinds used fault is

-- what `get_flag` gave says whether an option without a value is used
pub is_used : (f : Found) (name : Text) (used : Bool)
    → (one_text f name ≡ None → used ≡ false) → (one_text f name ≡ Some (codes "true") → used ≡ true)
    → (one_text f name ≡ Some (codes "false") → used ≡ false)
    → IsUsed name (rows_of f) used
is_used f name used none value other = record {
  given = λ is. value (one_text-rows f name ∙ is);
  denied = λ is. other (one_text-rows f name ∙ is);
  missing = λ is. none (one_text-rows f name ∙ is);
}
