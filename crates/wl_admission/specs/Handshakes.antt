-- Which handshakes are admitted (own).
use Rattle.std.specs.Prelude.{◌≡◌, ◌≢◌, ℕ, nat_eq, List, [], ◌∷◌, ◌++◌, map, take, drop, ◌==◌, ◌&&◌, Bool, true, false}
use Rattle.std.specs.Prelude.{not, Option, Some, None, Ok, Err, Result, codes, is_some, if◌then◌else◌}
use Rattle.std.specs.Char.{to_ascii_lowercase}
use Rattle.std.specs.List.{filter_map, flat_map, slice_split, starts_with}
use Rattle.std.specs.Str.{bytes_eq, trim}
use Rattle.wl_origin.specs.Origin.{Tuple}
use Rattle.wl_admission.specs.Scopes.{Reach, admits, reach_of, page_reach, tuple_in}
use Rattle.wl_admission.specs.Targets.{shard_reach}
use Rattle.wl_admission.specs.Tokens.{Rule, reach_by}
use Rattle.wl_admission.specs.declared.admitting.Admitted.{Admitted}
use Rattle.wl_admission.specs.declared.credentials.Carrier.{Carrier}
use Rattle.wl_admission.specs.declared.credentials.Carrier.TheVariants as carrier
use Rattle.wl_admission.specs.declared.rejection.Rejection.{Rejection}
use Rattle.wl_admission.specs.declared.rejection.Rejection.TheVariants as rejection
use Rattle.wl_admission.specs.declared.subprotocols.Subprotocol.{Subprotocol}
use Rattle.wl_admission.specs.declared.subprotocols.Subprotocol.TheVariants as subprotocol

-- RFC 9110: "400 Bad Request", "401 Unauthorized", "503 Service Unavailable"
abbrev pub status_of : Rejection → ℕ
status_of rejection.BadHeader = 400
status_of rejection.BadTarget = 400
status_of rejection.SeveralOrigins = 400
status_of rejection.SeveralTokens = 400
status_of rejection.TokenAlone = 400
status_of rejection.NoToken = 401
status_of rejection.UnknownToken = 401
status_of rejection.NoPlace = 503
status_of rejection.Memory = 503

-- What the sender may open, by its `Origin` headers: RFC 6455, section 10.2.
abbrev pub sender_reach : Reach → List (List ℕ) → Result Reach Rejection
sender_reach trusted [] = Ok None
sender_reach trusted (origin ∷ []) = Ok (page_reach trusted (tuple_in origin))
sender_reach trusted (origin ∷ other ∷ more) = Err rejection.SeveralOrigins

-- RFC 6455, section 11.3.4: headers that are lists with commas
abbrev pub offers : List (List ℕ) → List (List ℕ)
offers headers = flat_map (λ header. map trim (slice_split (λ byte. byte == 44) header)) headers

abbrev pub name_of : Subprotocol → List ℕ
name_of subprotocol.Push = codes "weblocks.push"
name_of subprotocol.Fence = codes "weblocks.fence"

-- the subprotocol of this name, where the server may select it: without an epoch it has no fences
abbrev pub selectable : Bool → List ℕ → Option Subprotocol
selectable has_fences name =
    if bytes_eq name (codes "weblocks.push") then Some subprotocol.Push
    else if has_fences && bytes_eq name (codes "weblocks.fence") then Some subprotocol.Fence
    else None

abbrev pub first : {X : Type 0} → List X → Option X
first [] = None
first (x ∷ xs) = Some x

-- RFC 6455, sections 1.9 and 4.2.2: of those that a client offers, in the order in which it prefers them, one or none
abbrev pub selected_of : Bool → List (List ℕ) → Option Subprotocol
selected_of has_fences subprotocols = first (filter_map (selectable has_fences) subprotocols)

-- RFC 6750, section 2.1; RFC 9110, section 11.1: the scheme's letters in any case
abbrev pub bearer_of_header : List ℕ → Option (List ℕ)
bearer_of_header header =
    if bytes_eq (map to_ascii_lowercase (take 7 header)) (codes "bearer ") then Some (drop 7 header) else None

abbrev pub bearer_of_subprotocol : List ℕ → Option (List ℕ)
bearer_of_subprotocol subprotocol =
    if starts_with nat_eq subprotocol (codes "weblocks.bearer.") then Some (drop 16 subprotocol) else None

abbrev pub bearer_of : Carrier → List ℕ → Option (List ℕ)
bearer_of carrier.Header text = bearer_of_header text
bearer_of carrier.Subprotocol text = bearer_of_subprotocol text

abbrev pub reach_or_unknown : Option Reach → Result Reach Rejection
reach_or_unknown (Some reach) = Ok reach
reach_or_unknown None = Err rejection.UnknownToken

-- What these tokens let open. A server without rules wants no token, and looks at none.
abbrev pub token_reach : Option (List Rule) → List (List ℕ) → Result Reach Rejection
token_reach None tokens = Ok None
token_reach (Some rules) [] = Err rejection.NoToken
token_reach (Some rules) (token ∷ []) = reach_or_unknown (reach_by rules token)
token_reach (Some rules) (token ∷ other ∷ more) = Err rejection.SeveralTokens

-- what whoever is admitted may open, by the target, as a page and by a token, and the subprotocol that is selected
pub record Terms : Type 0 where
  pub shard : Reach
  pub page : Reach
  pub token : Reach
  pub selected : Option Subprotocol

abbrev pub is_empty : List (List ℕ) → Bool
is_empty [] = true
is_empty (x ∷ xs) = false

abbrev pub terms_with : Reach → Reach → Option Subprotocol → Result Reach Rejection → Result Terms Rejection
terms_with shard page selected (Err reason) = Err reason
terms_with shard page selected (Ok token) = Ok (record {
  shard = shard;
  page = page;
  token = token;
  selected = selected;
})

-- a token among the subprotocols wants one beside it that is selected: RFC 6455, section 4.2.2
abbrev pub terms_by : Reach → Option (List Rule) → Bool → List (List ℕ) → List (List ℕ) → Result Reach Rejection
    → Result Terms Rejection
terms_by shard rules has_fences header_tokens subprotocols (Err reason) = Err reason
terms_by shard rules has_fences header_tokens subprotocols (Ok page) =
    let tokens = filter_map (bearer_of carrier.Subprotocol) subprotocols in
    let selected = selected_of has_fences subprotocols in
    if not (is_empty tokens) && not (is_some selected) then Err rejection.TokenAlone
    else terms_with shard page selected (token_reach rules (header_tokens ++ tokens))

-- what comes of a handshake whose target lets this open, by its headers `Origin`, `Authorization` and
-- `Sec-WebSocket-Protocol`
abbrev pub terms_at : Result Reach Rejection → Reach → Option (List Rule) → Bool → List (List ℕ) → List (List ℕ)
    → List (List ℕ) → Result Terms Rejection
terms_at (Err reason) trusted rules has_fences origins authorizations headers = Err reason
terms_at (Ok shard) trusted rules has_fences origins authorizations headers =
    terms_by shard rules has_fences (filter_map (bearer_of carrier.Header) authorizations) (offers headers)
    (sender_reach trusted origins)

-- what comes of a handshake, by its target and these headers
abbrev pub terms_of : Bool → Reach → Option (List Rule) → Bool → List ℕ → List (List ℕ) → List (List ℕ) → List (List ℕ)
    → Result Terms Rejection
terms_of is_sharded trusted rules has_fences target origins authorizations headers =
    terms_at (shard_reach is_sharded target) trusted rules has_fences origins authorizations headers

-- a URL has to be open to all three: at the target, to the page, and to the token
abbrev pub may_open : Terms → Option Tuple → Bool
may_open terms origin = admits terms.shard origin && admits terms.page origin && admits terms.token origin

-- what was admitted
abbrev pub terms_for : Admitted → Terms
terms_for admitted = record {
  shard = reach_of admitted.shard;
  page = reach_of admitted.page;
  token = reach_of admitted.token;
  selected = admitted.selected;
}

-- the answer is the expected one, unless memory ran out
abbrev pub Answers : {X Y : Type 0} → (Y → X) → Result X Rejection → Result Y Rejection → Type 0
Answers view expected (Ok made) = expected ≡ Ok (view made)
Answers view expected (Err reason) = reason ≢ rejection.Memory → expected ≡ Err reason
