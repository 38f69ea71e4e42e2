use Rattle.std.proofs.Common.{◌≡◌, filter, map, take}
use Rattle.wl_daemon.specs.Entry.{is_named}
use Rattle.wl_daemon.proofs.entry.named_in.Given as goal

-- those so far that name an origin
abbrev pub invariant-loop-text : goal.invariant-loop-text
invariant-loop-text l = map (λ t. t.now) l.named.items ≡ filter is_named (map (λ t. t.now) (take l.text-index l.texts))
