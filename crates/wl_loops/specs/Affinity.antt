-- How much another loop draws a connection (own).
use Rattle.std.specs.Prelude.{◌+◌, ◌-◌, min, Bool, nat_le}
use Rattle.wl_loops.specs.declared.affinity.Affinity.{Affinity}

abbrev pub new_affinity : Affinity
new_affinity = record { pull = 0 }

-- Another loop had a change for it: that counts as much as four messages of its own.
abbrev pub after_tell : Affinity → Affinity
after_tell affinity = record { pull = min (affinity.pull + 4) 32 }

-- its peer sent something
abbrev pub after_ask : Affinity → Affinity
after_ask affinity = record { pull = affinity.pull - 1 }

abbrev pub is_drawn : Affinity → Bool
is_drawn affinity = nat_le 32 affinity.pull
