use Rattle.std.proofs.Common.{◌≡◌, ◌∙◌, ap, arith, true, length, refl}
use Rattle.std.specs.Prelude.{not}
use Rattle.std.specs.List.{Contains}
use Rattle.wl_index.specs.inner.Ends.{ends_entry, is_owned}
use Rattle.wl_index.specs.inner.Locks.{Board}
use Rattle.wl_index.specs.inner.Rows.{Entry}
use Rattle.wl_index.specs.declared.request.Standing.TheVariants.{Waits}
use Rattle.wl_index.proofs.Counting.{length-filter-not}
use Rattle.wl_index.proofs.Lists.{all_filter}
use Rattle.wl_index.proofs.Owned.{requests_held}
use Rattle.wl_index.proofs.ending.end_owned.Goals as goal

pub end_locks-requires-clause-finds : goal.end_locks-requires-clause-finds
end_locks-requires-clause-finds c = (
  c.requires.finds.0,
  rw c.end_requests.ensures.ended
      (all_filter (λ (e : Entry). is_owned c.args.ending.owner e ≡ true → Contains c.args.numbers.now e.0)
      (λ e. not (ends_entry c.args.ending.owner Waits e)) c.args.locks.now.entries c.requires.finds.1),
)

pub end_locks-requires-clause-room : goal.end_locks-requires-clause-room
end_locks-requires-clause-room c =
    let left = ap (λ (b : Board). length b.entries) c.end_requests.ensures.ended in
    let fewer = length-filter-not (ends_entry c.args.ending.owner Waits) c.args.locks.now.entries in
    let room = c.requires.room in
    let wide = c.end_requests.ensures.capacity in
    omega (arith, left, fewer, room, wide)

pub returns-clause-ended : goal.returns-clause-ended
returns-clause-ended c =
    c.end_locks.ensures.ended ∙ rw (
      c.end_requests.ensures.ended,
      requests_held c.args.ending.owner c.args.locks.now.entries,
    ) refl
