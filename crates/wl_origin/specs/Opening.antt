-- Which manager one is opened at who names a URL and a bucket: that of the URL's origin and the bucket (own).
use Rattle.std.specs.Prelude.{◌≡◌, ℕ, List, Option, option_map, Ok, Err, Result, if◌then◌else◌}
use Rattle.wl_origin.specs.Bucket.{is_bucket}
use Rattle.wl_origin.specs.Origin.{Tuple}
use Rattle.wl_origin.specs.Standing.{standing_of}
use Rattle.wl_origin.specs.declared.manager_key.ManagerKey.{ManagerKey}
use Rattle.wl_origin.specs.declared.opening.ManagerFault.{ManagerFault}
use Rattle.wl_origin.specs.declared.opening.ManagerFault.TheVariants.{BadUrl, BadBucket, Memory}
use Rattle.wl_origin.specs.declared.standing.KeyFault.{KeyFault}

-- the key of a bucket of the origin; an opaque origin has no manager
abbrev pub with_bucket : Option Tuple → List ℕ → Option ManagerKey
with_bucket origin bucket = option_map (λ o. record { origin = o; bucket = bucket }) origin

-- The URL is looked at first. An opaque origin's bucket is looked at too, and then plays no part.
abbrev pub in_bucket : Result (Option Tuple) KeyFault → List ℕ → Result (Option ManagerKey) ManagerFault
in_bucket (Err fault) bucket = Err BadUrl
in_bucket (Ok origin) bucket = if is_bucket bucket then Ok (with_bucket origin bucket) else Err BadBucket

-- the manager that a URL and a bucket name, or nothing where the URL's origin is opaque
abbrev pub manager_of : List ℕ → List ℕ → Result (Option ManagerKey) ManagerFault
manager_of url bucket = in_bucket (standing_of url) bucket

-- the answer is the expected one, unless memory ran out
abbrev pub AnswersManager : Result (Option ManagerKey) ManagerFault → Result (Option ManagerKey) ManagerFault → Type 0
AnswersManager expected (Ok found) = expected ≡ Ok found
AnswersManager expected (Err BadUrl) = expected ≡ Err BadUrl
AnswersManager expected (Err BadBucket) = expected ≡ Err BadBucket
AnswersManager expected (Err Memory) = Unit {0}
