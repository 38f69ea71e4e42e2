-- A world in which only one origin's lines were said follows any other as far as that origin goes.
use Rattle.std.proofs.Common.{◌≡◌, ℕ, List, [], ◌∷◌, refl, ap, ap₂, sym, subst, ◌∙◌, Option, Some, None, Bool, true}
use Rattle.std.proofs.Common.{false}
use Rattle.std.specs.Prelude.{Result, Ok, Err, if◌then◌else◌}
use Rattle.std.specs.Ordering.{is_eq}
use Rattle.std.specs.Str.{bytes_eq}
use Rattle.std.specs.declared.cmp.Ordering.{Ordering}
use Rattle.std.specs.declared.cmp.Ordering.TheVariants.{Less, Equal, Greater}
use Rattle.std.proofs.lemmas.Slice.Eq.{bytes_eq-Decides}
use Rattle.wl_types.specs.declared.words.Kind.{Kind}
use Rattle.wl_origin.specs.Manager.{exact_managers, manager_cmp}
use Rattle.wl_origin.specs.declared.manager_key.ManagerKey.{ManagerKey}
use Rattle.wl_origin.specs.Opening.{manager_of}
use Rattle.wl_origin.specs.declared.opening.ManagerFault.{ManagerFault}
use Rattle.wl_codec.specs.declared.message.Body.{Body}
use Rattle.wl_codec.specs.declared.message.Body.TheVariants as body
use Rattle.wl_codec.specs.declared.message.Message.{Message}
use Rattle.wl_codec.specs.declared.message.Line.{Line}
use Rattle.wl_codec.specs.declared.message.Line.TheVariants.{Good, Bad}
use Rattle.wl_codec.specs.declared.reply.Outcome.{Outcome}
use Rattle.wl_codec.specs.declared.reply.Outcome.TheVariants as outcome
use Rattle.wl_codec.specs.declared.reply.WireReply.{WireReply}
use Rattle.wl_codec.specs.Reading.{line_reading}
use Rattle.wl_codec.specs.Replies.{reply_text}
use Rattle.wl_session.specs.Step as session
use Rattle.wl_world.specs.declared.label.Label.{Label}
use Rattle.wl_world.specs.declared.label.Label.TheVariants.{Agent, Opaque}
use Rattle.wl_world.specs.Origins.{Origin, admitted}
use Rattle.wl_world.specs.Agents.{serve_result}
use Rattle.wl_world.specs.Labels.{Realm, Stepped, closes, with_origin, after_closing, label_of, opened, from_label}
use Rattle.wl_world.specs.Labels.{from_unopened}
use Rattle.wl_world.specs.World.{World, answered, next, opening, reply, stepping}
use Rattle.wl_world.specs.Isolation.{is_key, is_manager, opens_at, is_at, says_at, is_of, lines_of, replies_to, replies}

equal : (x : Ordering) → is_eq x ≡ true → x ≡ Equal
equal Less e = absurd cc
equal Equal e = refl
equal Greater e = absurd cc

pub same_key : (k key : ManagerKey) → is_key k key ≡ true → key ≡ k
same_key k key e = exact_managers key k (equal (manager_cmp key k) e)

-- the label, if it is an agent of the origin
abbrev kept : ManagerKey → Option Label → Option Label
kept k None = None
kept k (Some (Agent key n s)) = if is_key k key then Some (Agent key n s) else None
kept k (Some (Opaque kind active)) = None

-- v is w as far as the origin goes, and has no other label
record Follows (k : ManagerKey) (w v : World) : Type 0 where
  origin : v.realm k ≡ w.realm k
  labels : (name : List ℕ) → v.labels name ≡ kept k (w.labels name)

-- ---- lines of other origins

record Apart (k : ManagerKey) (realm : Realm) (label : Option Label) (x : Stepped) : Type 0 where
  before : kept k label ≡ None
  after : kept k x.label ≡ None
  origin : x.realm k ≡ realm k

no_agent : (k key : ManagerKey) (n : ℕ) (s : session.State) → is_key k key ≡ false
    → kept k (Some (Agent key n s)) ≡ None
no_agent k key n s e = ap (λ c. if c then Some (Agent key n s) else None) e

other_realm : (k key : ManagerKey) (realm : Realm) (o : Origin) → is_key k key ≡ false
    → with_origin realm key o k ≡ realm k
other_realm k key realm o e = ap (λ c. if c then o else realm k) e

closing_agent : (k key : ManagerKey) (n : ℕ) (s : session.State) (c : Bool) → is_key k key ≡ false
    → kept k (if c then None else Some (Agent key n s)) ≡ None
closing_agent k key n s true e = refl
closing_agent k key n s false e = no_agent k key n s e

closing_opaque : (k : ManagerKey) (kind : Kind) (active : Bool) (c : Bool)
    → kept k (if c then None else Some (Opaque kind active)) ≡ None
closing_opaque k kind active true = refl
closing_opaque k kind active false = refl

no_entry : (k key : ManagerKey) (o : Outcome) → is_key k key ≡ false → kept k (label_of key o) ≡ None
no_entry k key (outcome.Client (Some n)) e = no_agent k key n _ e
no_entry k key (outcome.Client None) e = refl
no_entry k key (outcome.Signal n) e = refl
no_entry k key (outcome.Request n) e = refl
no_entry k key (outcome.Release a) e = refl
no_entry k key (outcome.Abort a) e = refl
no_entry k key (outcome.Active b) e = refl
no_entry k key (outcome.Seen s) e = refl
no_entry k key outcome.Polled e = refl
no_entry k key outcome.Closed e = refl
no_entry k key (outcome.Refused r) e = refl
no_entry k key (outcome.Fault f) e = refl
no_entry k key outcome.NotOpen e = refl
no_entry k key outcome.AlreadyOpen e = refl
no_entry k key outcome.BadUrl e = refl
no_entry k key outcome.BadBucket e = refl

opened_apart : (k : ManagerKey) (realm : Realm) (id : ℕ) (kind : Kind) (st : Result (Option ManagerKey) ManagerFault)
    → is_manager k st ≡ false → Apart k realm None (opened realm id kind st)
opened_apart k realm id kind (Err fault) e = record { before = refl; after = refl; origin = refl }
opened_apart k realm id kind (Ok None) e = record { before = refl; after = refl; origin = refl }
opened_apart k realm id kind (Ok (Some key)) e = record {
  before = refl;
  after = no_entry k key _ e;
  origin = other_realm k key realm _ e;
}

unopened_apart : (k : ManagerKey) (realm : Realm) (id : ℕ) (b : Body) → opens_at k b ≡ false
    → Apart k realm None (from_unopened realm id b)
unopened_apart k realm id (body.Enter url kind bucket) e = opened_apart k realm id kind (manager_of url bucket) e
unopened_apart k realm id body.Signal e = record { before = refl; after = refl; origin = refl }
unopened_apart k realm id (body.Request ask) e = record { before = refl; after = refl; origin = refl }
unopened_apart k realm id (body.Release n) e = record { before = refl; after = refl; origin = refl }
unopened_apart k realm id (body.Abort n reason) e = record { before = refl; after = refl; origin = refl }
unopened_apart k realm id (body.Active active) e = record { before = refl; after = refl; origin = refl }
unopened_apart k realm id body.Query e = record { before = refl; after = refl; origin = refl }
unopened_apart k realm id body.Poll e = record { before = refl; after = refl; origin = refl }
unopened_apart k realm id body.Close e = record { before = refl; after = refl; origin = refl }

label_apart : (k : ManagerKey) (realm : Realm) (label : Option Label) (id : ℕ) (b : Body) → is_at k label b ≡ false
    → Apart k realm label (from_label realm label id b)
label_apart k realm None id b e = unopened_apart k realm id b e
label_apart k realm (Some (Agent key n s)) id b e = record {
  before = no_agent k key n s e;
  after = closing_agent k key n (serve_result (realm key) n s id b).session
      (closes (serve_result (realm key) n s id b).outcome) e;
  origin = other_realm k key realm (serve_result (realm key) n s id b).origin e;
}
label_apart k realm (Some (Opaque kind active)) id b e = record {
  before = refl;
  after = closing_opaque k kind _ _;
  origin = refl;
}

stays_followed : (k : ManagerKey) (w v : World) (name : List ℕ) (x : Stepped) → Follows k w v
    → Apart k w.realm (w.labels name) x → Follows k (stepping w name x).world v
stays_followed k w v name x f apart = record {
  origin = f.origin ∙ sym apart.origin;
  labels = λ q. go q (bytes_eq name q) refl;
}
  where
    go : (q : List ℕ) (c : Bool) → bytes_eq name q ≡ c → v.labels q ≡ kept k (if c then x.label else w.labels q)
    go q true e = f.labels q ∙ ap (λ n. kept k (w.labels n)) (sym ((bytes_eq-Decides name q).0 e)) ∙ apart.before
        ∙ sym apart.after
    go q false e = f.labels q

-- ---- lines of the origin

record Alike (k : ManagerKey) (x y : Stepped) : Type 0 where
  reply : y.reply ≡ x.reply
  label : y.label ≡ kept k x.label
  realm : y.realm k ≡ x.realm k

-- the origin is the same at its own key
at_key : (k key : ManagerKey) (w v : Realm) → is_key k key ≡ true → v k ≡ w k → v key ≡ w key
at_key k key w v e same = ap v (same_key k key e) ∙ same ∙ ap w (sym (same_key k key e))

own_realm : (k key : ManagerKey) (w v : Realm) (o p : Origin) → is_key k key ≡ true → p ≡ o
    → with_origin v key p k ≡ with_origin w key o k
own_realm k key w v o p e same = ap (λ c. if c then p else v k) e ∙ same ∙ sym (ap (λ c. if c then o else w k) e)

own_agent : (k key : ManagerKey) (n : ℕ) (s : session.State) (c : Bool) → is_key k key ≡ true
    → (if c then None else Some (Agent key n s)) ≡ kept k (if c then None else Some (Agent key n s))
own_agent k key n s true e = refl
own_agent k key n s false e = sym (ap (λ c. if c then Some (Agent key n s) else None) e)

own_entry : (k key : ManagerKey) (o : Outcome) → is_key k key ≡ true → label_of key o ≡ kept k (label_of key o)
own_entry k key (outcome.Client (Some n)) e = own_agent k key n _ false e
own_entry k key (outcome.Client None) e = refl
own_entry k key (outcome.Signal n) e = refl
own_entry k key (outcome.Request n) e = refl
own_entry k key (outcome.Release a) e = refl
own_entry k key (outcome.Abort a) e = refl
own_entry k key (outcome.Active b) e = refl
own_entry k key (outcome.Seen s) e = refl
own_entry k key outcome.Polled e = refl
own_entry k key outcome.Closed e = refl
own_entry k key (outcome.Refused r) e = refl
own_entry k key (outcome.Fault f) e = refl
own_entry k key outcome.NotOpen e = refl
own_entry k key outcome.AlreadyOpen e = refl
own_entry k key outcome.BadUrl e = refl
own_entry k key outcome.BadBucket e = refl

opened_alike : (k : ManagerKey) (w v : Realm) (id : ℕ) (kind : Kind) (st : Result (Option ManagerKey) ManagerFault)
    → v k ≡ w k → is_manager k st ≡ true → Alike k (opened w id kind st) (opened v id kind st)
opened_alike k w v id kind (Err fault) same e = absurd cc
opened_alike k w v id kind (Ok None) same e = absurd cc
opened_alike k w v id kind (Ok (Some key)) same e =
    let here = at_key k key w v e same in
    record {
      reply = ap (λ o. let r : WireReply = record { id = Some id; notices = []; outcome = (admitted o kind).outcome }
          in r) here;
      label = ap (λ o. label_of key (admitted o kind).outcome) here ∙ own_entry k key (admitted (w key) kind).outcome e;
      realm = own_realm k key w v _ _ e (ap (λ o. (admitted o kind).origin) here);
    }

unopened_alike : (k : ManagerKey) (w v : Realm) (id : ℕ) (b : Body) → v k ≡ w k → opens_at k b ≡ true
    → Alike k (from_unopened w id b) (from_unopened v id b)
unopened_alike k w v id (body.Enter url kind bucket) same e = opened_alike k w v id kind (manager_of url bucket) same e
unopened_alike k w v id body.Signal same e = absurd cc
unopened_alike k w v id (body.Request ask) same e = absurd cc
unopened_alike k w v id (body.Release n) same e = absurd cc
unopened_alike k w v id (body.Abort n reason) same e = absurd cc
unopened_alike k w v id (body.Active active) same e = absurd cc
unopened_alike k w v id body.Query same e = absurd cc
unopened_alike k w v id body.Poll same e = absurd cc
unopened_alike k w v id body.Close same e = absurd cc

label_alike : (k : ManagerKey) (w v : Realm) (label : Option Label) (id : ℕ) (b : Body) → v k ≡ w k
    → is_at k label b ≡ true
    → Alike k (from_label w label id b) (from_label v (kept k label) id b)
label_alike k w v None id b same e = unopened_alike k w v id b same e
label_alike k w v (Some (Opaque kind active)) id b same e = absurd cc
label_alike k w v (Some (Agent key n s)) id b same e =
    let here = at_key k key w v e same in
    subst (λ label. Alike k (from_label w (Some (Agent key n s)) id b) (from_label v label id b))
    (own_agent k key n s false e)
    (record {
      reply = ap (λ o. (serve_result o n s id b).reply) here;
      label = ap (λ o. after_closing (serve_result o n s id b).outcome (Agent key n (serve_result o n s id b).session))
          here
          ∙ own_agent k key n (serve_result (w key) n s id b).session (closes (serve_result (w key) n s id b).outcome)
          e;
      realm = own_realm k key w v _ _ e (ap (λ o. (serve_result o n s id b).origin) here);
    })

both_followed : (k : ManagerKey) (w v : World) (name : List ℕ) (x y : Stepped) → Follows k w v → Alike k x y
    → Follows k (stepping w name x).world (stepping v name y).world
both_followed k w v name x y f alike = record { origin = alike.realm; labels = λ q. go q (bytes_eq name q) }
  where
    go : (q : List ℕ) (c : Bool) → (if c then y.label else v.labels q) ≡ kept k (if c then x.label else w.labels q)
    go q true = alike.label
    go q false = f.labels q

-- ---- lines

other_line : (k : ManagerKey) (w v : World) (line : Line) → Follows k w v → says_at k w line ≡ false
    → Follows k (answered w line).world v
other_line k w v (Bad id fault) f e = unfold answered in f
other_line k w v (Good name m) f e = unfold answered in stays_followed k w v name _ f
    (label_apart k w.realm (w.labels name) m.id m.body e)

own_good : (k : ManagerKey) (w v : World) (name : List ℕ) (m : Message) → Follows k w v
    → is_at k (w.labels name) m.body ≡ true
    → Alike k (from_label w.realm (w.labels name) m.id m.body) (from_label v.realm (v.labels name) m.id m.body)
own_good k w v name m f e =
    subst (λ label. Alike k (from_label w.realm (w.labels name) m.id m.body) (from_label v.realm label m.id m.body))
    (sym (f.labels name))
    (label_alike k w.realm v.realm (w.labels name) m.id m.body f.origin e)

own_reply : (k : ManagerKey) (w v : World) (line : Line) → Follows k w v → says_at k w line ≡ true
    → (answered v line).reply ≡ (answered w line).reply
own_reply k w v (Bad id fault) f e = absurd cc
own_reply k w v (Good name m) f e = unfold answered in (own_good k w v name m f e).reply

own_follows : (k : ManagerKey) (w v : World) (line : Line) → Follows k w v → says_at k w line ≡ true
    → Follows k (answered w line).world (answered v line).world
own_follows k w v (Bad id fault) f e = absurd cc
own_follows k w v (Good name m) f e =
    unfold answered in both_followed k w v name (from_label w.realm (w.labels name) m.id m.body)
    (from_label v.realm (v.labels name) m.id m.body) f (own_good k w v name m f e)

run_alone : (k : ManagerKey) (w v : World) (script : List (List ℕ)) → Follows k w v
    → replies_to k w script ≡ replies v (lines_of k w script)
run_alone k w v [] f = refl
run_alone k w v (line ∷ lines) f = go (is_of k w line) refl (λ w v f. run_alone k w v lines f)
  where
    go : (c : Bool) → is_of k w line ≡ c
        → ((w v : World) → Follows k w v → replies_to k w lines ≡ replies v (lines_of k w lines))
        → (if c then reply w line ∷ replies_to k (next w line) lines else replies_to k (next w line) lines)
        ≡ replies v (if c then line ∷ lines_of k (next w line) lines else lines_of k (next w line) lines)
    go true e rest =
        ap₂ (λ (r : List ℕ) (rs : List (List ℕ)). r ∷ rs) (unfold reply
        in ap reply_text (sym (own_reply k w v (line_reading line) f e)))
        (rest (next w line) (next v line) (unfold next in own_follows k w v (line_reading line) f e))
    go false e rest = rest (next w line) v (unfold next in other_line k w v (line_reading line) f e)

pub alone : (k : ManagerKey) (script : List (List ℕ)) → replies_to k opening script
    ≡ replies opening (lines_of k opening script)
alone k script = run_alone k opening opening script (record { origin = refl; labels = λ name. refl })

pub isolated : (k : ManagerKey) (one other : List (List ℕ)) → lines_of k opening one ≡ lines_of k opening other
    → replies_to k opening one ≡ replies_to k opening other
isolated k one other same = alone k one ∙ ap (replies opening) same ∙ sym (alone k other)
