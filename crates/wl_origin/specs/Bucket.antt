-- Names of storage buckets: Storage, "storage bucket". Which texts are names, and their order, is (own).
use Rattle.std.specs.Prelude.{◌≡◌, ℕ, List, [], ◌∷◌, Bool, true, false, not, ◌&&◌, ◌||◌, ◌==◌, nat_le, Option, Some}
use Rattle.std.specs.Prelude.{None, bytes_eq, codes, length, if◌then◌else◌}
use Rattle.std.specs.Char.{is_ascii_digit, is_ascii_lowercase}
use Rattle.std.specs.Cmp.{IsTotalOrder}
use Rattle.std.specs.Cmp.Lexicographic.{slice_cmp}
use Rattle.std.specs.Hash as fed
use Rattle.std.specs.List.{list_all}
use Rattle.std.specs.Ordering.{eq_by_cmp, nat_cmp}
use Rattle.std.specs.declared.cmp.Ordering.{Ordering}
use Rattle.std.proofs.Common.{ap}
use Rattle.std.proofs.lemmas.Cmp.{nat_list_cmp_total}
use Rattle.std.proofs.lemmas.Map.Lookups.{CmpEqualImpliesEq, exact_bytes}
use Rattle.std.proofs.lemmas.Map.Views.{tells_apart}
use Rattle.wl_origin.specs.declared.bucket.BucketFault.{BucketFault}
use Rattle.wl_origin.specs.declared.bucket.BucketFault.TheVariants.{BadBucket, Memory}

-- `-` or `_`
abbrev pub is_mark : ℕ → Bool
is_mark byte = byte == 45 || byte == 95

-- one of `a` to `z`, `0` to `9`, `-`, `_`
abbrev pub is_bucket_byte : ℕ → Bool
is_bucket_byte byte = is_ascii_lowercase byte || is_ascii_digit byte || is_mark byte

-- whether the text begins with `-` or `_`
abbrev pub begins_with_mark : List ℕ → Bool
begins_with_mark [] = false
begins_with_mark (first ∷ rest) = is_mark first

-- whether the text is a name: 1 to 64 such bytes, the first neither `-` nor `_`
abbrev pub is_bucket : List ℕ → Bool
is_bucket text = nat_le 1 (length text) && nat_le (length text) 64 && not (begins_with_mark text)
    && list_all is_bucket_byte text

-- the name that a text is, if it is one
abbrev pub bucket_in : List ℕ → Option (List ℕ)
bucket_in text = if is_bucket text then Some text else None

-- why there is no name of a text: it is none, or else memory was wanting
abbrev pub bucket_fault : List ℕ → BucketFault
bucket_fault text = if is_bucket text then Memory else BadBucket

-- the name that every origin has a bucket of: Storage, "create a storage shelf"
abbrev pub default_bucket : List ℕ
default_bucket = codes "default"

abbrev pub is_default : List ℕ → Bool
is_default name = bytes_eq name default_bucket

-- by the bytes
abbrev pub bucket_cmp : List ℕ → List ℕ → Ordering
bucket_cmp = slice_cmp nat_cmp

-- which is a total order
pub bucket_cmp_total : IsTotalOrder bucket_cmp
bucket_cmp_total = nat_list_cmp_total

-- names that compare alike are one
pub exact_buckets : CmpEqualImpliesEq bucket_cmp
exact_buckets = exact_bytes

-- what a hasher is given of a name
abbrev pub bucket_writes : List ℕ → fed.HashWrites
bucket_writes name = fed.str name

-- names that compare alike are hashed alike
pub bucket_writes_alike : (a b : List ℕ) → eq_by_cmp bucket_cmp a b ≡ true → bucket_writes a ≡ bucket_writes b
bucket_writes_alike a b same = ap bucket_writes (tells_apart exact_buckets a b same)
