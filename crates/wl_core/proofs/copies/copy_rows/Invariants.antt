use Rattle.std.proofs.Common.{◌≡◌, ◌≤◌, vec_len, vec_capacity, take}
use Rattle.wl_core.proofs.copies.copy_rows.Given as goal

abbrev pub invariant-loop-row : goal.invariant-loop-row
invariant-loop-row g l = record {
  items : l.copy.items ≡ take l.row-index l.rows;
  len : vec_len l.copy ≡ l.row-index;
  room : l.room ≤ vec_capacity l.copy;
}
