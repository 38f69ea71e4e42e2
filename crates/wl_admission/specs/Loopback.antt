-- Addresses that are reached from this machine alone (own).
use Rattle.std.specs.Prelude.{◌≡◌}
use Rattle.std.specs.Net.Addr.{IsCanonicalOf, IsLoopbackV4, IsLoopbackV6, MatchIp}
use Rattle.std.specs.Net.Socket.{socket_ip}
use Rattle.std.specs.declared.net.ip_addr.IpAddr.{IpAddr}
use Rattle.std.specs.declared.net.socket_addr.SocketAddr.{SocketAddr}

-- one address for both: IPv4 where it stands in IPv6 for one
abbrev pub IsCanonical : IpAddr → IpAddr → Type 0
IsCanonical given canonical = MatchIp given (λ v4. canonical ≡ given) (λ v6. IsCanonicalOf v6 canonical)

-- whoever connects there is on this machine
abbrev pub IsOfThisMachine : SocketAddr → Type 0
IsOfThisMachine address = (ip : IpAddr) × IsCanonical (socket_ip address) ip × MatchIp ip IsLoopbackV4 IsLoopbackV6
