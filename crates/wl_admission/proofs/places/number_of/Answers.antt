use Rattle.std.proofs.Common.{ap, ◌∙◌}
use Rattle.std.specs.Int.{w128, from_be_bytes}
use Rattle.std.specs.Net.Addr.{ipv6_bits, octets_of}
use Rattle.wl_admission.proofs.places.number_of.Goals as goal

pub returns-in-V4 : goal.returns-in-V4
unfolding ipv6_bits
returns-in-V4 c =
    let bits = ap (λ segments. from_be_bytes w128 (octets_of segments)) c.to_ipv6_mapped.ensures in
    rw c.in-V4.is (c.to_bits.ensures ∙ bits)
