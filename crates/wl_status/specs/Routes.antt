-- Which request is answered by what (own).
use Rattle.std.specs.Prelude.{◌≡◌, ◌≢◌, ℕ, List, map, take, drop, option_map, not, ◌==◌, ◌&&◌, ◌||◌, Bool, Option, Some}
use Rattle.std.specs.Prelude.{None, Ok, Err, Result, codes, if◌then◌else◌}
use Rattle.std.specs.List.{list_any}
use Rattle.std.specs.Str.{bytes_eq}
use Rattle.std.specs.Str.Lossy.{utf8_lossy}
use Rattle.form_urlencoded.specs.Form.{decode}
use Rattle.wl_admission.specs.Scopes.{tuple_in}
use Rattle.wl_admission.specs.Tokens.{Rule}
use Rattle.wl_admission.specs.declared.tokens.Tokens.{Tokens}
use Rattle.wl_origin.specs.Origin.{Tuple}
use Rattle.wl_status.specs.Credentials.{access_fault}
use Rattle.wl_status.specs.Hosts.{is_one_known}
use Rattle.wl_status.specs.declared.hosts.Hosts.{Hosts}
use Rattle.wl_status.specs.declared.routing.Head.{Head}
use Rattle.wl_status.specs.declared.routing.Refusal.{Refusal}
use Rattle.wl_status.specs.declared.routing.Refusal.TheVariants as refusal
use Rattle.wl_status.specs.declared.routing.Route.{Route}
use Rattle.wl_status.specs.declared.routing.Route.TheVariants as route
use Rattle.wl_status.specs.declared.routing.Resource.{Resource}
use Rattle.wl_status.specs.declared.routing.Resource.TheVariants as resource

-- RFC 9110, sections 15.5.1, 15.5.2, 15.5.4, 15.5.5, 15.5.6, 15.6.4
abbrev pub status_of : Refusal → ℕ
status_of refusal.BadRequest = 400
status_of refusal.NoToken = 401
status_of refusal.Forbidden = 403
status_of refusal.NotFound = 404
status_of refusal.WrongMethod = 405
status_of refusal.Memory = 503

abbrev pub health_status : Bool → ℕ
health_status is_healthy = if is_healthy then 200 else 503

-- the tokens of which a request has to bring one: whoever is on this machine needs none
abbrev pub wanted_tokens : Bool → Option Tokens → Option Tokens
wanted_tokens is_of_this_machine tokens = if is_of_this_machine then None else tokens

-- the text that a part of a query stands for: URL, "application/x-www-form-urlencoded parsing"
abbrev pub form_text : List ℕ → List ℕ
form_text part = utf8_lossy (decode part)

-- what stands behind the key of a query that has this one field
abbrev pub origin_part : List ℕ → Option (List ℕ)
origin_part query =
    if bytes_eq (take 7 query) (codes "origin=") && not (list_any (λ byte. byte == 38) (drop 7 query))
    then Some (drop 7 query) else None

abbrev pub known_origin : Option Tuple → Result Route Refusal
known_origin None = Err refusal.BadRequest
known_origin (Some origin) = Ok (route.Locks (Some origin))

abbrev pub locks_by : Option (List ℕ) → Result Route Refusal
locks_by None = Err refusal.BadRequest
locks_by (Some part) = known_origin (tuple_in (form_text part))

-- the locks of all origins, or of the one that the query names
abbrev pub locks_for : Option (List ℕ) → Result Route Refusal
locks_for None = Ok (route.Locks None)
locks_for (Some query) = locks_by (origin_part query)

abbrev pub resource_at : List ℕ → Option Resource
resource_at path =
    if bytes_eq path (codes "/health") then Some resource.Health
    else if bytes_eq path (codes "/metrics") then Some resource.Metrics
    else if bytes_eq path (codes "/locks") then Some resource.Locks
    else if bytes_eq path (codes "/") then Some resource.Page
    else None

-- of the locks alone the query is looked at
abbrev pub route_to : Resource → Option (List ℕ) → Result Route Refusal
route_to resource.Health query = Ok route.Health
route_to resource.Metrics query = Ok route.Metrics
route_to resource.Locks query = locks_for query
route_to resource.Page query = Ok route.Page

abbrev pub is_read : List ℕ → Bool
is_read method = bytes_eq method (codes "GET") || bytes_eq method (codes "HEAD")

abbrev pub route_by : Option Resource → List ℕ → Option (List ℕ) → Result Route Refusal
route_by None method query = Err refusal.NotFound
route_by (Some resource) method query = if is_read method then route_to resource query else Err refusal.WrongMethod

abbrev pub route_unless : Option Refusal → Result Route Refusal → Result Route Refusal
route_unless (Some why) found = Err why
route_unless None found = found

-- Of several reasons to refuse the first counts: the target and its host, the credentials, the path, the method, the
-- query.
abbrev pub route_of : Hosts → Option (List Rule) → Head → Result Route Refusal
route_of hosts rules head =
    if head.is_origin_form && is_one_known hosts (map (λ h. h.now) head.hosts.now)
    then route_unless (access_fault rules (map (λ h. h.now) head.authorizations.now))
    (route_by (resource_at head.path.now) head.method.now (option_map (λ q. q.now) head.query))
    else Err refusal.BadRequest

-- the answer is the expected one, unless memory ran out
abbrev pub Answers : Result Route Refusal → Result Route Refusal → Type 0
Answers expected (Ok found) = expected ≡ Ok found
Answers expected (Err why) = why ≢ refusal.Memory → expected ≡ Err why
