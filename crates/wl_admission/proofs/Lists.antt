-- What functions of lists give of one more element, as at a step of a loop. Elements are seen through v.
use Rattle.std.proofs.Common.{◌≡◌, ◌<◌, ◌+◌, ℕ, List, [], ◌∷◌, ◌++◌, length, take, drop, get_or, map, ap, sym}
use Rattle.std.proofs.Common.{append_assoc, ◌∙◌, refl, Option, None, Some, Bool, true, false, ◌&&◌, eqb, arith}
use Rattle.std.specs.List.{filter_map, cons_option, slice_split}
use Rattle.std.specs.Prelude.{filter, ◌==◌, if◌then◌else◌}
use Rattle.std.specs.Str.{bytes_eq, trim}
use Rattle.std.proofs.lemmas.Grind.{flat_map-append}
use Rattle.wl_admission.specs.Handshakes.{first, offers}
use Rattle.std.proofs.lemmas.List.{append-nil, at_drop_more, take_more, map-append, length-take, take-append-drop}
use Rattle.std.proofs.lemmas.List.Elements.{filter-append, filter_map-append}

module _ {X Y : Type 0} (v : X → Y) where
  pub seen_more : (xs : List X) (i : ℕ) (d : X) → i < length xs
      → map v (take (i + 1) xs) ≡ map v (take i xs) ++ v (get_or xs i d) ∷ []
  seen_more xs i d lt = ap (map v) (take_more xs i d lt) ∙ map-append v (take i xs) (get_or xs i d ∷ [])

  pub filter_map_more : {Z : Type 0} (h : Y → Option Z) (xs : List X) (i : ℕ) (d : X) → i < length xs
      → filter_map h (map v (take (i + 1) xs)) ≡ filter_map h (map v (take i xs))
      ++ cons_option (h (v (get_or xs i d))) []
  filter_map_more h xs i d lt = ap (filter_map h) (seen_more xs i d lt)
      ∙ filter_map-append h (map v (take i xs)) (v (get_or xs i d) ∷ [])

  pub filter_seen_more : (p : Y → Bool) (xs : List X) (i : ℕ) (d : X) → i < length xs
      → filter p (map v (take (i + 1) xs)) ≡ filter p (map v (take i xs)) ++ filter p (v (get_or xs i d) ∷ [])
  filter_seen_more p xs i d lt = ap (filter p) (seen_more xs i d lt)
      ∙ filter-append p (map v (take i xs)) (v (get_or xs i d) ∷ [])

-- a list is cut around an element
pub cut_at : {X : Type 0} (xs : List X) (i : ℕ) (d : X) → i < length xs
    → xs ≡ take i xs ++ get_or xs i d ∷ drop (i + 1) xs
cut_at xs i d lt = sym (take-append-drop i xs) ∙ at_drop_more (λ rest. take i xs ++ rest) xs i d lt

-- what h gives first, where it gives nothing before that
pub first_given_at : {X Y Z : Type 0} (v : X → Y) (h : Y → Option Z) (xs : List X) (i : ℕ) (d : X) (z : Z)
    → i < length xs
    → filter_map h (map v (take i xs)) ≡ [] → h (v (get_or xs i d)) ≡ Some z → first (filter_map h (map v xs)) ≡ Some z
first_given_at v h xs i d z lt before is =
    ap (λ l. first (filter_map h (map v l))) (cut_at xs i d lt)
    ∙ ap (λ l. first (filter_map h l)) (map-append v (take i xs) (get_or xs i d ∷ drop (i + 1) xs))
    ∙ ap first (filter_map-append h (map v (take i xs)) (v (get_or xs i d) ∷ map v (drop (i + 1) xs)))
    ∙ ap (λ l. first (l ++ filter_map h (v (get_or xs i d) ∷ map v (drop (i + 1) xs)))) before
    ∙ ap (λ o. first (cons_option o (filter_map h (map v (drop (i + 1) xs))))) is

-- the same, where it gives nothing there either
pub nothing_given_more : {X Y Z : Type 0} (v : X → Y) (h : Y → Option Z) (xs : List X) (i : ℕ) (d : X) → i < length xs
    → filter_map h (map v (take i xs)) ≡ [] → h (v (get_or xs i d)) ≡ None → filter_map h (map v (take (i + 1) xs)) ≡ []
nothing_given_more v h xs i d lt before none =
    filter_map_more v h xs i d lt
    ∙ ap (λ l. l ++ cons_option (h (v (get_or xs i d))) []) before
    ∙ ap (λ o. cons_option o []) none

bytes_eq_snoc : (xs ys : List ℕ) (x y : ℕ) → length xs ≡ length ys
    → bytes_eq (xs ++ x ∷ []) (ys ++ y ∷ []) ≡ (bytes_eq xs ys && eqb x y)
bytes_eq_snoc [] [] x y same = grind arith
bytes_eq_snoc [] (b ∷ ys) x y same = grind (arith, same)
bytes_eq_snoc (a ∷ xs) [] x y same = grind (arith, same)
bytes_eq_snoc (a ∷ xs) (b ∷ ys) x y same = let rest = bytes_eq_snoc xs ys x y (omega (arith, same))
    in grind (arith, rest)

-- whether bytes are the same, and one more of each
pub bytes_eq_more : (xs ys : List ℕ) (i d e : ℕ) → length xs ≡ length ys → i < length xs
    → bytes_eq (take (i + 1) xs) (take (i + 1) ys) ≡ (bytes_eq (take i xs) (take i ys)
    && eqb (get_or xs i d) (get_or ys i e))
bytes_eq_more xs ys i d e same lt =
    rw (take_more xs i d lt, take_more ys i e (omega (arith, same, lt)))
    (bytes_eq_snoc (take i xs) (take i ys) (get_or xs i d) (get_or ys i e)
    (omega (arith, same, lt, length-take i xs, length-take i ys)))

-- what a header more offers
pub offered_more : {X : Type 0} (v : X → List ℕ) (xs : List X) (i : ℕ) (d : X) → i < length xs
    → offers (map v (take (i + 1) xs)) ≡ offers (map v (take i xs))
    ++ map trim (slice_split (λ byte. byte == 44) (v (get_or xs i d)))
offered_more v xs i d lt =
    ap offers (seen_more v xs i d lt)
    ∙ flat_map-append (λ header. map trim (slice_split (λ byte. byte == 44) header)) (map v (take i xs))
    (v (get_or xs i d) ∷ [])
    ∙ ap (λ rest. offers (map v (take i xs)) ++ rest) (append-nil
    (map trim (slice_split (λ byte. byte == 44) (v (get_or xs i d)))))

pub map_seen : {X Y Z : Type 0} (h : Y → Z) (v : X → Y) (xs : List X) → map (λ x. h (v x)) xs ≡ map h (map v xs)
map_seen h v [] = refl
map_seen h v (x ∷ xs) = ap (λ rest. h (v x) ∷ rest) (map_seen h v xs)

pub if_yes : {X : Type 0} (b : Bool) (x y : X) → b ≡ true → x ≡ (if b then x else y)
if_yes true x y h = refl
if_yes false x y h = grind (arith, h)

-- what was added at a step of a loop, behind what was there before the loop
pub added_more : {Y : Type 0} (new old base taken next piece : List Y) → new ≡ old ++ piece → old ≡ base ++ taken
    → next ≡ taken ++ piece → new ≡ base ++ next
added_more new old base taken next piece now before step =
    now ∙ ap (λ l. l ++ piece) before ∙ append_assoc base taken piece ∙ ap (λ l. base ++ l) (sym step)

-- the same, where nothing was there
pub kept_more : {Y : Type 0} (new old taken next piece : List Y) → new ≡ old ++ piece → old ≡ taken
    → next ≡ taken ++ piece → new ≡ next
kept_more new old taken next piece now before step = now ∙ ap (λ l. l ++ piece) before ∙ sym step

-- the same, where what was added is pieces without their outer spaces
pub trimmed_more : {X : Type 0} (v : X → List ℕ) (new old taken next : List (List ℕ)) (pieces : List X)
    (parts : List (List ℕ))
    → new ≡ old ++ map (λ p. trim (v p)) pieces → old ≡ taken → map v pieces ≡ parts → next ≡ taken ++ map trim parts
    → new ≡ next
trimmed_more v new old taken next pieces parts now before cut step =
    now ∙ ap (λ l. l ++ map (λ p. trim (v p)) pieces) before
    ∙ ap (λ l. taken ++ l) (map_seen trim v pieces ∙ ap (map trim) cut) ∙ sym step
