-- The rules of lines, and the origins of words, one after another.
use Rattle.std.proofs.Common.{◌≡◌, ◌<◌, ◌+◌, ℕ, List, [], ◌∷◌, ◌++◌, length, take, drop, get_or, map, ap, ◌∙◌, refl}
use Rattle.std.proofs.Common.{arith, Ok, Err, Result, Option, None, Some}
use Rattle.std.proofs.lemmas.List.{length-map, length-take, map-append}
use Rattle.std.specs.Option.{option_or}
use Rattle.wl_origin.specs.Origin.{Tuple}
use Rattle.wl_admission.proofs.Lists.{cut_at, seen_more}
use Rattle.wl_admission.specs.Scopes.{Reach, tuple_in}
use Rattle.wl_admission.specs.Tokens.{Rule, onto, reach_by, reach_for, origins_of, rule_in, rule_then, rules_from}
use Rattle.wl_admission.specs.Tokens.{words}
use Rattle.wl_admission.specs.declared.token_file.TokenFileFault.{TokenFileFault}

or_nothing : (o : Option Reach) → option_or o None ≡ option_or None o
or_nothing None = refl
or_nothing (Some reach) = refl

or_both : (a b c : Option Reach) → option_or a (option_or b c) ≡ option_or (option_or a b) c
or_both None b c = refl
or_both (Some reach) b c = refl

-- these rules, and behind them what comes of more lines
abbrev pub behind : Result (List Rule) TokenFileFault → Result (List Rule) TokenFileFault
    → Result (List Rule) TokenFileFault
behind (Err fault) more = Err fault
behind (Ok rules) (Err fault) = Err fault
behind (Ok rules) (Ok more) = Ok (rules ++ more)

then_behind : (r : Result Rule TokenFileFault) (rules more : Result (List Rule) TokenFileFault)
    → rule_then r (behind rules more) ≡ behind (rule_then r rules) more
then_behind (Err fault) rules more = refl
then_behind (Ok r) (Err fault) more = refl
then_behind (Ok r) (Ok rules) (Err fault) = refl
then_behind (Ok r) (Ok rules) (Ok more) = refl

nothing_behind : (more : Result (List Rule) TokenFileFault) → more ≡ behind (Ok []) more
nothing_behind (Err fault) = refl
nothing_behind (Ok more) = refl

-- the rules of lines, and of those behind them
pub rules_behind : (n m : ℕ) (xs ys : List (List ℕ)) → m ≡ n + length xs
    → rules_from n (xs ++ ys) ≡ behind (rules_from n xs) (rules_from m ys)
rules_behind n m [] ys at = let same : m ≡ n = omega (arith, at) in rw same (nothing_behind (rules_from n ys))
rules_behind n m (x ∷ xs) ys at =
    let later : m ≡ (n + 1) + length xs = omega (arith, at) in
    rw (rules_behind (n + 1) m xs ys later) (then_behind (rule_in n (words x)) (rules_from (n + 1) xs)
    (rules_from m ys))

-- these origins, and behind them those of more words
abbrev pub origins_behind : Option (List Tuple) → Option (List Tuple) → Option (List Tuple)
origins_behind None more = None
origins_behind (Some origins) None = None
origins_behind (Some origins) (Some more) = Some (origins ++ more)

onto_behind : (o : Option Tuple) (origins more : Option (List Tuple))
    → onto o (origins_behind origins more) ≡ origins_behind (onto o origins) more
onto_behind None origins more = refl
onto_behind (Some o) None more = refl
onto_behind (Some o) (Some origins) None = refl
onto_behind (Some o) (Some origins) (Some more) = refl

no_origins_behind : (more : Option (List Tuple)) → more ≡ origins_behind (Some []) more
no_origins_behind None = refl
no_origins_behind (Some more) = refl

pub origins_of_both : (xs ys : List (List ℕ)) → origins_of (xs ++ ys) ≡ origins_behind (origins_of xs) (origins_of ys)
origins_of_both [] ys = no_origins_behind (origins_of ys)
origins_of_both (x ∷ xs) ys = rw (origins_of_both xs ys) (onto_behind (tuple_in x) (origins_of xs) (origins_of ys))

-- The same at a step of a loop: elements are lines or words, seen through v.
module _ {X : Type 0} (v : X → List ℕ) where
  -- one more line that is right
  pub rule_more : (xs : List X) (i : ℕ) (d : X) (rules : List Rule) (rule : Rule) → i < length xs
      → rules_from 1 (map v (take i xs)) ≡ Ok rules → rule_in (i + 1) (words (v (get_or xs i d))) ≡ Ok rule
      → rules_from 1 (map v (take (i + 1) xs)) ≡ Ok (rules ++ rule ∷ [])
  rule_more xs i d rules rule lt before is =
      let at : i + 1 ≡ 1 + length (map v (take i xs)) = omega (arith, lt, length-map (take i xs) v, length-take i xs) in
      ap (rules_from 1) (seen_more v xs i d lt)
      ∙ rules_behind 1 (i + 1) (map v (take i xs)) (v (get_or xs i d) ∷ []) at
      ∙ ap (λ r. behind r (rule_then (rule_in (i + 1) (words (v (get_or xs i d)))) (Ok []))) before
      ∙ ap (λ r. behind (Ok rules) (rule_then r (Ok []))) is

  -- the first line that is wrong
  pub fault_at : (xs : List X) (i : ℕ) (d : X) (rules : List Rule) (fault : TokenFileFault) → i < length xs
      → rules_from 1 (map v (take i xs)) ≡ Ok rules → rule_in (i + 1) (words (v (get_or xs i d))) ≡ Err fault
      → rules_from 1 (map v xs) ≡ Err fault
  fault_at xs i d rules fault lt before is =
      let at : i + 1 ≡ 1 + length (map v (take i xs)) = omega (arith, lt, length-map (take i xs) v, length-take i xs) in
      ap (λ l. rules_from 1 (map v l)) (cut_at xs i d lt)
      ∙ ap (rules_from 1) (map-append v (take i xs) (get_or xs i d ∷ drop (i + 1) xs))
      ∙ rules_behind 1 (i + 1) (map v (take i xs)) (v (get_or xs i d) ∷ map v (drop (i + 1) xs)) at
      ∙ ap (λ r. behind r (rules_from (i + 1) (v (get_or xs i d) ∷ map v (drop (i + 1) xs)))) before
      ∙ ap (λ r. behind (Ok rules) (rule_then r (rules_from (i + 1 + 1) (map v (drop (i + 1) xs))))) is

  -- one more word with an origin
  pub origin_more : (xs : List X) (i : ℕ) (d : X) (origins : List Tuple) (origin : Tuple) → i < length xs
      → origins_of (map v (take i xs)) ≡ Some origins → tuple_in (v (get_or xs i d)) ≡ Some origin
      → origins_of (map v (take (i + 1) xs)) ≡ Some (origins ++ origin ∷ [])
  origin_more xs i d origins origin lt before is =
      ap origins_of (seen_more v xs i d lt)
      ∙ origins_of_both (map v (take i xs)) (v (get_or xs i d) ∷ [])
      ∙ ap (λ o. origins_behind o (onto (tuple_in (v (get_or xs i d))) (Some []))) before
      ∙ ap (λ o. origins_behind (Some origins) (onto o (Some []))) is

  -- a word without one
  pub no_origin_at : (xs : List X) (i : ℕ) (d : X) (origins : List Tuple) → i < length xs
      → origins_of (map v (take i xs)) ≡ Some origins → tuple_in (v (get_or xs i d)) ≡ None
      → origins_of (map v xs) ≡ None
  no_origin_at xs i d origins lt before is =
      ap (λ l. origins_of (map v l)) (cut_at xs i d lt)
      ∙ ap origins_of (map-append v (take i xs) (get_or xs i d ∷ drop (i + 1) xs))
      ∙ origins_of_both (map v (take i xs)) (v (get_or xs i d) ∷ map v (drop (i + 1) xs))
      ∙ ap (λ o. origins_behind o (onto (tuple_in (v (get_or xs i d))) (origins_of (map v (drop (i + 1) xs))))) before
      ∙ ap (λ o. origins_behind (Some origins) (onto o (origins_of (map v (drop (i + 1) xs))))) is

-- rules, and one more
pub reach_more : (rules : List Rule) (rule : Rule) (token : List ℕ)
    → reach_by (rules ++ rule ∷ []) token ≡ option_or (reach_by rules token) (reach_for rule token)
reach_more [] rule token = or_nothing (reach_for rule token)
reach_more (r ∷ rules) rule token = ap (option_or (reach_for r token)) (reach_more rules rule token)
    ∙ or_both (reach_for r token) (reach_by rules token) (reach_for rule token)
