-- What readers and writers count (own). Their counts go round at 2 ^ 64.
use Rattle.std.specs.Prelude.{ℕ, ◌+◌, ◌%◌, ◌^◌, ◌≡◌, ◌≤◌, Bool, if◌then◌else◌}

-- the count after one more
abbrev pub one_more : ℕ → ℕ
one_more n = (n + 1) % 2 ^ 64

-- the count grows by one if the call failed, and else stays
abbrev pub Counts : ℕ → ℕ → Bool → Type 0
Counts before now failed = now ≡ (if failed then one_more before else before)

-- the count grew by n
abbrev pub GrewBy : ℕ → ℕ → ℕ → Type 0
GrewBy before now n = now % 2 ^ 64 ≡ (before + n) % 2 ^ 64

-- the count grew by n at most
abbrev pub GrewAtMostBy : ℕ → ℕ → ℕ → Type 0
GrewAtMostBy before now n = (k : ℕ) × (k ≤ n) × GrewBy before now k
