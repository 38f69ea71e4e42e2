-- How many may be connected at once (own). What a subnet of IPv6 is, and which of its addresses stands for one of IPv4,
-- are RFC 4291's (sections 2.5.1 and 2.5.5.2).
use Rattle.std.specs.Prelude.{◌≡◌, ◌≢◌, ◌↔◌, IsTrue, Bool, true, ◌&&◌, if◌then◌else◌, unwrap_or}
use Rattle.std.specs.Prelude.{ℕ, ◌-◌, ◌%◌, ◌^◌, nat_lt}
use Rattle.std.specs.BTreeMap.{get}
use Rattle.std.specs.Int.{w128, from_be_bytes}
use Rattle.std.specs.Net.Addr.{IsLoopbackV4, IsLoopbackV6, MatchIp, embedded_segments, ipv6_bits, octets_of}
use Rattle.std.specs.Ordering.{nat_cmp}
use Rattle.std.specs.declared.net.ip_addr.IpAddr.{IpAddr}
use Rattle.wl_admission.specs.Loopback.{IsCanonical}
use Rattle.wl_admission.specs.declared.places.PlaceLimits.{PlaceLimits}
use Rattle.wl_admission.specs.declared.places.Places.{Places}
use Rattle.wl_admission.specs.declared.places.Source.{Source}

-- the number of an address of IPv6, or of the one that stands for an address of IPv4
abbrev pub IsNumberOf : IpAddr → ℕ → Type 0
IsNumberOf ip number = MatchIp ip (λ v4. number ≡ from_be_bytes w128 (octets_of (embedded_segments 0xffff v4)))
    (λ v6. number ≡ ipv6_bits v6)

-- whoever comes from this address: one of IPv4 counts as one whichever way it came
abbrev pub IsSourceOf : IpAddr → Source → Type 0
IsSourceOf address source = (ip : IpAddr) × IsCanonical address ip × IsNumberOf ip source.number
    × (IsTrue source.is_loopback ↔ MatchIp ip IsLoopbackV4 IsLoopbackV6)

-- whoever comes over a Unix socket, as an address of this machine
abbrev pub unix_peers : Source
unix_peers = record { number = 0; is_loopback = true }

-- The first address of a source's subnet, which has the same first 64 bits. The addresses that begin with 64 zeros
-- stand for themselves: those of IPv4, and those of this machine.
abbrev pub subnet_of : Source → ℕ
subnet_of source = if nat_lt source.number (2 ^ 64) then source.number else source.number - source.number % 2 ^ 64

-- how many places a subnet has, by its first address
abbrev pub count_at : Places → ℕ → ℕ
count_at places subnet = unwrap_or (get nat_cmp places.by_subnet subnet) 0

abbrev pub limit_for : PlaceLimits → Source → ℕ
limit_for limits source = if source.is_loopback then limits.by_loopback else limits.by_address

-- Whether there is a place for one more from this address: in all, and for its subnet.
abbrev pub has_place : Places → Source → Bool
has_place places source = nat_lt places.taken places.limits.in_all
    && nat_lt (count_at places (subnet_of source)) (limit_for places.limits source)

-- this subnet has so many places, every other as many as before, and so many are taken in all
pub record Counts (old new : Places) (subnet many total : ℕ) : Type 0 where
  pub taken : new.taken ≡ total
  pub count : count_at new subnet ≡ many
  pub others : (other : ℕ) → other ≢ subnet → count_at new other ≡ count_at old other
  pub limits : new.limits ≡ old.limits

-- One place fewer is taken, of a subnet that has some; else nothing is.
abbrev pub Frees : Places → Places → ℕ → Type 0
Frees old new subnet = Counts old new subnet (count_at old subnet - 1)
    (if nat_lt 0 (count_at old subnet) then old.taken - 1 else old.taken)
