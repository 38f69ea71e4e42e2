-- What only the code of this crate says (own), beside `Clients`.
use Rattle.wl_service.specs.declared.client.Side.{Side}
use Rattle.wl_service.specs.declared.client.Side.TheVariants as side
use Rattle.wl_service.specs.Clients.{Who, Managed, Opaque}

abbrev pub who_of : Side → Who
who_of (side.Managed agent) = Managed agent.number
who_of (side.Opaque agent) = Opaque agent.kind agent.active
