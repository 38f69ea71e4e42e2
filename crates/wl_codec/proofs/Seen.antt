-- A tree and its data.
use Rattle.std.proofs.Common.{◌≡◌, ℕ, List, Bool, true, false, ◌&&◌, cond, Option, Some, None, is_some, option_map}
use Rattle.std.proofs.Common.{option_and_then, bytes_eq, Bor, refl, sym, ap, ◌∙◌, true≢false}
use Rattle.std.proofs.lemmas.Slice.Eq.{bytes_eq-Decides}
use Rattle.std.specs.declared.alloc.Global.{Global}
use Rattle.json.specs.Json as json
use Rattle.json.specs.Find as find
use Rattle.json.specs.Value.{value_view}
use Rattle.json.specs.declared.value.Value.{Value}
use Rattle.serde_json.specs.Data.{Num, Data, number, array, object, item, Members, no_members, put}
use Rattle.serde_json.specs.Find.{get, get_member}
use Rattle.serde_json.specs.Read.{number_of, of_json, of_items, of_members}
use Rattle.serde_json.proofs.Views.{get_member-put, get_member-put_other}
use Rattle.wl_codec.specs.inner.Seen.{num_of, data_of, items_of, members_of, fits, items_fit, members_fit, json_data}

-- ---- what `serde_json` reads

number_fits : (s : List ℕ) (o : Option Num) → number_of s ≡ o
    → option_map number o ≡ cond (is_some o) (Some (number (num_of s))) None
unfolding num_of
number_fits s None e = refl
number_fits s (Some n) e = rw e refl

under : {A B : Type 0} (f : A → B) (b : Bool) (x : A) → option_map f (cond b (Some x) None) ≡ cond b (Some (f x)) None
under f true x = refl
under f false x = refl

both : {A B C : Type 0} (a b : Bool) (x : A) (y : B) (f : A → B → C)
    → option_and_then (λ d. option_map (f d) (cond b (Some y) None)) (cond a (Some x) None)
    ≡ cond (a && b) (Some (f x y)) None
both true true x y f = refl
both true false x y f = refl
both false b x y f = refl

then : {A B : Type 0} (a b : Bool) (x : A) (y : B) (f : A → Option B) → f x ≡ cond b (Some y) None
    → option_and_then f (cond a (Some x) None) ≡ cond (a && b) (Some y) None
then true b x y f e = e
then false b x y f e = refl

mutual
  pub of_json-fits : (j : json.Json) → of_json j ≡ cond (fits j) (Some (data_of j)) None
  of_json-fits json.null = refl
  of_json-fits (json.boolean b) = refl
  of_json-fits (json.number s) = number_fits s (number_of s) refl
  of_json-fits (json.string s) = refl
  of_json-fits (json.array js) = ap (option_map array) (of_items-fit js) ∙ under array (items_fit js) (items_of js)
  of_json-fits (json.object ms) = ap (option_map object) (of_members-fit ms no_members)
      ∙ under object (members_fit ms) (members_of ms no_members)

  of_items-fit : (js : json.Items) → of_items js ≡ cond (items_fit js) (Some (items_of js)) None
  of_items-fit json.no_items = refl
  of_items-fit (json.item j js) =
      ap (λ o. option_and_then (λ d. option_map (item d) (of_items js)) o) (of_json-fits j)
      ∙ ap (λ o. option_and_then (λ d. option_map (item d) o) (cond (fits j) (Some (data_of j)) None)) (of_items-fit js)
      ∙ both (fits j) (items_fit js) (data_of j) (items_of js) item

  of_members-fit : (ms : json.Members) (found : Members) → of_members ms found
      ≡ cond (members_fit ms) (Some (members_of ms found)) None
  of_members-fit json.no_members found = refl
  of_members-fit (json.member k j ms) found =
      ap (λ o. option_and_then (λ d. of_members ms (put k d found)) o) (of_json-fits j)
      ∙ then (fits j) (members_fit ms) (data_of j) (members_of ms (put k (data_of j) found))
      (λ d. of_members ms (put k d found)) (of_members-fit ms (put k (data_of j) found))

-- ---- looking up

abbrev later : Option Data → Option Data → Option Data
later None earlier = earlier
later (Some d) earlier = Some d

data_later : (o : Option json.Json) (b : Bool) (j : json.Json) (earlier : Option Data)
    → later (option_map data_of o) (cond b (Some (data_of j)) earlier)
    ≡ later (option_map data_of (find.later_or o (cond b (Some j) None))) earlier
data_later None true j earlier = refl
data_later None false j earlier = refl
data_later (Some l) b j earlier = refl

get_put : (b : Bool) (q k : List ℕ) (d : Data) (found : Members) → bytes_eq k q ≡ b
    → get_member q (put k d found) ≡ cond b (Some d) (get_member q found)
get_put true q k d found e = ap (λ w. get_member w (put k d found)) (sym ((bytes_eq-Decides k q).0 e))
    ∙ get_member-put k d found
get_put false q k d found e = get_member-put_other q k d found
    (λ same. true≢false (sym ((bytes_eq-Decides k q).1 (sym same)) ∙ e))

last_is_found : (q : List ℕ) (ms : json.Members) (found : Members)
    → get_member q (members_of ms found) ≡ later (option_map data_of (find.get_member q ms)) (get_member q found)
last_is_found q json.no_members found = refl
last_is_found q (json.member k j ms) found =
    last_is_found q ms (put k (data_of j) found)
    ∙ ap (later (option_map data_of (find.get_member q ms))) (get_put (bytes_eq k q) q k (data_of j) found refl)
    ∙ data_later (find.get_member q ms) (bytes_eq k q) j (get_member q found)

later_none : (o : Option Data) → later o None ≡ o
later_none None = refl
later_none (Some d) = refl

get-data_of : (q : List ℕ) (j : json.Json) → get q (data_of j) ≡ option_map data_of (find.get q j)
get-data_of q json.null = refl
get-data_of q (json.boolean b) = refl
get-data_of q (json.number s) = refl
get-data_of q (json.string s) = refl
get-data_of q (json.array js) = refl
get-data_of q (json.object ms) = last_is_found q ms no_members ∙ later_none (option_map data_of (find.get_member q ms))

data_of_found : (r : Option (Bor (Value Global))) → option_map (λ v. json_data v.now) r
    ≡ option_map data_of (option_map (λ v. value_view v.now) r)
data_of_found None = refl
data_of_found (Some v) = refl

-- what is found in a tree is what is found in its data
pub get-json_data : (q : List ℕ) (r : Option (Bor (Value Global))) (v : Value Global)
    → option_map (λ x. value_view x.now) r ≡ find.get q (value_view v)
    → option_map (λ x. json_data x.now) r ≡ get q (json_data v)
get-json_data q r v e = data_of_found r ∙ ap (option_map data_of) e ∙ sym (get-data_of q (value_view v))
