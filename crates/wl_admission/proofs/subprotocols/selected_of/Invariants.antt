use Rattle.std.proofs.Common.{◌≡◌, take, map, []}
use Rattle.std.specs.List.{filter_map}
use Rattle.wl_admission.specs.Handshakes.{selectable}
use Rattle.wl_admission.proofs.subprotocols.selected_of.Given as goal

-- none of the names so far may be selected
abbrev pub invariant-loop-name : goal.invariant-loop-name
invariant-loop-name l = filter_map (selectable l.has_fences) (map (λ p. p.now) (take l.name-index l.subprotocols)) ≡ []
