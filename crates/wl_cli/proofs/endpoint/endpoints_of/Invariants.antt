use Rattle.std.proofs.Common.{take, map}
use Rattle.std.specs.List.{AllZip}
use Rattle.wl_cli.specs.Endpoints.{IsEndpointText}
use Rattle.wl_cli.proofs.endpoint.endpoints_of.Given as goal

-- the texts so far say this
abbrev pub invariant-loop-text : goal.invariant-loop-text
invariant-loop-text l = AllZip IsEndpointText (map (λ t. t.now) (take l.text-index l.texts)) l.endpoints.items
