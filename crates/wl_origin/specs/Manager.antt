-- Keys of lock managers: Web Locks, "lock manager", of which each storage bucket has one; Storage, "storage bucket", of
-- which an origin has one for each bucket name.
use Rattle.std.specs.Prelude.{◌≡◌, List, ℕ, true, ◌++◌}
use Rattle.std.specs.Cmp.{IsTotalOrder}
use Rattle.std.specs.Hash as fed
use Rattle.std.specs.Ordering.{eq_by_cmp, on, then_cmp}
use Rattle.std.specs.declared.cmp.Ordering.{Ordering}
use Rattle.std.proofs.Common.{ap}
use Rattle.std.proofs.lemmas.Cmp.{on_total, then_total}
use Rattle.std.proofs.lemmas.Map.Lookups.{CmpEqualImpliesEq, exact_pairs}
use Rattle.std.proofs.lemmas.Map.Views.{tells_apart}
use Rattle.wl_origin.specs.Bucket.{bucket_cmp, bucket_cmp_total, bucket_writes, exact_buckets}
use Rattle.wl_origin.specs.Origin.{Tuple, exact_tuples, tuple_cmp, tuple_cmp_total, tuple_writes}
use Rattle.wl_origin.specs.declared.manager_key.ManagerKey.{ManagerKey}

-- by origin, then bucket (own)
abbrev pub manager_cmp : ManagerKey → ManagerKey → Ordering
manager_cmp = then_cmp (on (λ k. k.origin) tuple_cmp) (on (λ k. k.bucket) bucket_cmp)

-- which is a total order
pub manager_cmp_total : IsTotalOrder manager_cmp
manager_cmp_total = then_total (on_total (λ k. k.origin) tuple_cmp_total) (on_total (λ k. k.bucket) bucket_cmp_total)

-- keys that compare alike are one
pub exact_managers : CmpEqualImpliesEq manager_cmp
exact_managers a b h =
    ap (λ (p : Tuple × List ℕ). record { origin = p.0; bucket = p.1 })
    (exact_pairs tuple_cmp bucket_cmp exact_tuples exact_buckets (a.origin, a.bucket) (b.origin, b.bucket) h)

-- what a hasher is given of a key
abbrev pub manager_writes : ManagerKey → fed.HashWrites
manager_writes k = tuple_writes k.origin ++ bucket_writes k.bucket

-- keys that compare alike are hashed alike
pub manager_writes_alike : (a b : ManagerKey) → eq_by_cmp manager_cmp a b ≡ true → manager_writes a ≡ manager_writes b
manager_writes_alike a b same = ap manager_writes (tells_apart exact_managers a b same)
