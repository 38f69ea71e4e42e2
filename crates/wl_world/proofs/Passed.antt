-- Requests by number, to each of which the same was done: what that makes of the list of them.
use Rattle.std.proofs.Common.{◌≡◌, ℕ, ◌==◌, Bool, true, false, cond, List, [], ◌∷◌, refl, sym, ap, subst, ◌∙◌, map}
use Rattle.std.proofs.Common.{arith}
use Rattle.std.specs.Prelude.{Option, Some, None}
use Rattle.std.specs.List.{AllByRecursion, filter_map}
use Rattle.std.specs.List.Sorted.{IsStrictlySortedBy}
use Rattle.std.specs.Map.{keys_of, values_of}
use Rattle.std.specs.BTreeMap.{is_at}
use Rattle.std.specs.Option.{option_and_then, unwrap_or}
use Rattle.std.specs.Ordering.{is_eq, nat_cmp}
use Rattle.std.specs.declared.cmp.Ordering.{Ordering}
use Rattle.std.specs.declared.cmp.Ordering.TheVariants.{Less, Equal, Greater}
use Rattle.std.proofs.lemmas.Bool.Decides.{nat_tests}
use Rattle.std.proofs.lemmas.Map.Keys.{sorted_head, sorted_tail}
use Rattle.std.proofs.lemmas.Option.{none-some}
use Rattle.wl_types.specs.declared.phases.Change.{Change}
use Rattle.wl_machine.proofs.Covers.{all_above, equal, turned}
use Rattle.wl_world.specs.declared.requests.Request.{Request}
use Rattle.wl_world.specs.Requests.{has_ended, after_collect, with_change, without, without_change}
use Rattle.wl_world.specs.inner.AgentIndex.{IsEach, found, close_one, collect_one}

-- ---- numbers in order

itself : (k : ℕ) → is_at (nat_cmp k) k ≡ true
itself k = grind (arith, nat_tests)

absent : {X : Type 0} (k : ℕ) (es : List (ℕ × X)) → AllByRecursion (λ q. nat_cmp k q ≡ Less) (keys_of es)
    → found k es ≡ None
absent k [] all = refl
absent k (e ∷ es) all = let miss : is_at (nat_cmp k) e.0 ≡ false = ap is_eq all.0 in rw miss (absent k es all.1)

-- entries in order at which the same stands are the same
same_entries : {X : Type 0} (es fs : List (ℕ × X)) → IsStrictlySortedBy nat_cmp (keys_of es)
    → IsStrictlySortedBy nat_cmp (keys_of fs) → ((q : ℕ) → found q es ≡ found q fs) → es ≡ fs
same_entries [] [] s t same = refl
same_entries [] (f ∷ fs) s t same = absurd (none-some f.1 (same f.0 ∙ rw (itself f.0) refl))
same_entries (e ∷ es) [] s t same = absurd (none-some e.1 (sym (same e.0) ∙ rw (itself e.0) refl))
same_entries {X} (e ∷ es) (f ∷ fs) s t same = by (nat_cmp e.0 f.0) refl
    (same_entries es fs (sorted_tail nat_cmp e.0 (keys_of es) s) (sorted_tail nat_cmp f.0 (keys_of fs) t))
  where
    high : AllByRecursion (λ k. nat_cmp e.0 k ≡ Less) (keys_of es)
    high = sorted_head nat_cmp e.0 (keys_of es) s

    higher : AllByRecursion (λ k. nat_cmp f.0 k ≡ Less) (keys_of fs)
    higher = sorted_head nat_cmp f.0 (keys_of fs) t

    first : (g : ℕ × X) (gs : List (ℕ × X)) → found g.0 (g ∷ gs) ≡ Some g.1
    first g gs = rw (itself g.0) refl

    later : e.0 ≡ f.0 → (q : ℕ) (b : Bool) → is_at (nat_cmp q) e.0 ≡ b → found q es ≡ found q fs
    later is q true h =
        let at : q ≡ e.0 = grind (arith, nat_tests, h) in
        subst (λ k. found k es ≡ None) (sym at) (absent e.0 es high)
        ∙ sym (subst (λ k. found k fs ≡ None) (sym (at ∙ is)) (absent f.0 fs higher))
    later is q false h =
        let miss : is_at (nat_cmp q) f.0 ≡ false = subst (λ k. is_at (nat_cmp q) k ≡ false) is h in
        let one : found q (e ∷ es) ≡ found q es = rw h refl in
        let other : found q (f ∷ fs) ≡ found q fs = rw miss refl in
        sym one ∙ same q ∙ other

    by : (o : Ordering) → nat_cmp e.0 f.0 ≡ o → (((q : ℕ) → found q es ≡ found q fs) → es ≡ fs) → e ∷ es ≡ f ∷ fs
    by Less h rest = absurd (none-some e.1 (sym (absent e.0 (f ∷ fs) (h, all_above e.0 f.0 h (keys_of fs) higher))
        ∙ sym (same e.0) ∙ first e es))
    by Greater h rest =
        let k = turned e.0 f.0 h in
        absurd (none-some f.1 (sym (absent f.0 (e ∷ es) (k, all_above f.0 e.0 k (keys_of es) high)) ∙ same f.0
        ∙ first f fs))
    by Equal h rest =
        let is = equal e.0 f.0 h in
        let value : e.1 ≡ f.1 = ap (λ o. unwrap_or o e.1) (sym (first e es) ∙ same e.0 ∙ ap (λ k. found k (f ∷ fs)) is
        ∙ first f fs) in
        let tail = rest (λ q. later is q (is_at (nat_cmp q) e.0) refl) in
        ap (λ k. (k, e.1) ∷ es) is ∙ ap (λ v. (f.0, v) ∷ es) value ∙ ap (λ l. f ∷ l) tail

-- ---- what f makes of each

abbrev with_entry : ℕ → Option Request → List (ℕ × Request) → List (ℕ × Request)
with_entry k None es = es
with_entry k (Some r) es = (k, r) ∷ es

abbrev passed : (Request → Option Request) → List (ℕ × Request) → List (ℕ × Request)
passed f [] = []
passed f (e ∷ es) = with_entry e.0 (f e.1) (passed f es)

found_passed : (f : Request → Option Request) (es : List (ℕ × Request)) → IsStrictlySortedBy nat_cmp (keys_of es)
    → IsEach f es (passed f es)
found_passed f [] s q = refl
found_passed f (e ∷ es) s q = by (is_at (nat_cmp q) e.0) refl (f e.1) refl
    (found_passed f es (sorted_tail nat_cmp e.0 (keys_of es) s) q)
  where
    by : (b : Bool) → is_at (nat_cmp q) e.0 ≡ b → (o : Option Request) → f e.1 ≡ o
        → found q (passed f es) ≡ option_and_then f (found q es)
        → found q (with_entry e.0 o (passed f es)) ≡ option_and_then f (cond b (Some e.1) (found q es))
    by true h None is rest =
        let at : q ≡ e.0 = grind (arith, nat_tests, h) in
        rest ∙ ap (option_and_then f) (subst (λ k. found k es ≡ None) (sym at)
        (absent e.0 es (sorted_head nat_cmp e.0 (keys_of es) s))) ∙ sym is
    by true h (Some r) is rest = rw h (sym is)
    by false h None is rest = rest
    by false h (Some r) is rest = rw h rest

all_passed : (f : Request → Option Request) (P : ℕ → Type 0) (es : List (ℕ × Request)) → AllByRecursion P (keys_of es)
    → AllByRecursion P (keys_of (passed f es))
all_passed f P [] all = tt
all_passed f P (e ∷ es) all = by (f e.1) (all_passed f P es all.1)
  where
    by : (o : Option Request) → AllByRecursion P (keys_of (passed f es))
        → AllByRecursion P (keys_of (with_entry e.0 o (passed f es)))
    by None rest = rest
    by (Some r) rest = (all.0, rest)

sorted_passed : (f : Request → Option Request) (es : List (ℕ × Request)) → IsStrictlySortedBy nat_cmp (keys_of es)
    → IsStrictlySortedBy nat_cmp (keys_of (passed f es))
unfolding IsStrictlySortedBy
sorted_passed f [] s = s
sorted_passed f (e ∷ es) s = by (f e.1) (sorted_passed f es (sorted_tail nat_cmp e.0 (keys_of es) s))
  where
    by : (o : Option Request) → IsStrictlySortedBy nat_cmp (keys_of (passed f es))
        → IsStrictlySortedBy nat_cmp (keys_of (with_entry e.0 o (passed f es)))
    by None rest = rest
    by (Some r) rest = (all_passed f (λ k. nat_cmp e.0 k ≡ Less) es (sorted_head nat_cmp e.0 (keys_of es) s), rest)

values_passed : (f : Request → Option Request) (es : List (ℕ × Request))
    → values_of (passed f es) ≡ filter_map f (values_of es)
values_passed f [] = refl
values_passed f (e ∷ es) = by (f e.1) refl (values_passed f es)
  where
    by : (o : Option Request) → f e.1 ≡ o → values_of (passed f es) ≡ filter_map f (values_of es)
        → values_of (with_entry e.0 o (passed f es)) ≡ filter_map f (values_of (e ∷ es))
    by None is rest = rw is rest
    by (Some r) is rest = rw is (ap (λ l. r ∷ l) rest)

-- the list of requests to each of which f was done
values_each : (f : Request → Option Request) (es fs : List (ℕ × Request)) → IsStrictlySortedBy nat_cmp (keys_of es)
    → IsStrictlySortedBy nat_cmp (keys_of fs) → IsEach f es fs → values_of fs ≡ filter_map f (values_of es)
values_each f es fs s t each = ap values_of (same_entries fs (passed f es) t (sorted_passed f es s)
    (λ q. each q ∙ sym (found_passed f es s q))) ∙ values_passed f es

-- ---- the lists of the three things that are done

module _ (es fs : List (ℕ × Request)) (s : IsStrictlySortedBy nat_cmp (keys_of es))
    (t : IsStrictlySortedBy nat_cmp (keys_of fs)) where
  pub collect_values : (agent : ℕ) → IsEach (collect_one agent) es fs
      → values_of fs ≡ after_collect agent (values_of es)
  collect_values agent each = values_each (collect_one agent) es fs s t each ∙ all (values_of es)
    where
      all : (rs : List Request) → filter_map (collect_one agent) rs ≡ after_collect agent rs
      all [] = refl
      all (r ∷ rs) = by (has_ended agent r) refl (all rs)
        where
          by : (b : Bool) → has_ended agent r ≡ b → filter_map (collect_one agent) rs ≡ after_collect agent rs
              → filter_map (collect_one agent) (r ∷ rs) ≡ after_collect agent (r ∷ rs)
          by true h rest = rw h rest
          by false h rest = rw h (ap (λ l. without_change agent r ∷ l) rest)

  pub left_values : (agent : ℕ) → IsEach (close_one agent) es fs → values_of fs ≡ without agent (values_of es)
  left_values agent each = values_each (close_one agent) es fs s t each ∙ all (values_of es)
    where
      all : (rs : List Request) → filter_map (close_one agent) rs ≡ without agent rs
      all [] = refl
      all (r ∷ rs) = by (r.agent == agent) refl (all rs)
        where
          by : (b : Bool) → (r.agent == agent) ≡ b → filter_map (close_one agent) rs ≡ without agent rs
              → filter_map (close_one agent) (r ∷ rs) ≡ without agent (r ∷ rs)
          by true h rest = rw h rest
          by false h rest = rw h (ap (λ l. r ∷ l) rest)

  pub with_change_values : (change : Change) → IsEach (λ r. Some (with_change change r)) es fs
      → values_of fs ≡ map (with_change change) (values_of es)
  with_change_values change each = values_each (λ r. Some (with_change change r)) es fs s t each ∙ all (values_of es)
    where
      all : (rs : List Request) → filter_map (λ r. Some (with_change change r)) rs ≡ map (with_change change) rs
      all [] = refl
      all (r ∷ rs) = ap (λ l. with_change change r ∷ l) (all rs)
