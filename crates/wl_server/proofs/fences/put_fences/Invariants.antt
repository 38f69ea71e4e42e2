use Rattle.std.proofs.Common.{◌≡◌, ◌++◌, string_bytes, take}
use Rattle.std.specs.List.{flat_map}
use Rattle.wl_server.specs.Fences.{later_object}
use Rattle.wl_server.proofs.fences.put_fences.Given as goal

abbrev pub invariant-loop-fence : goal.invariant-loop-fence
invariant-loop-fence l = string_bytes l.out ≡ string_bytes l.initial.out
    ++ flat_map (later_object l.epoch) (take l.fence-index l.rest)
