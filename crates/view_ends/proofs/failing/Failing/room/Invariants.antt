use Rattle.std.proofs.Common.{ℕ, ◌+◌, ◌<◌, ◌≤◌, Contains, slice_index}
use Rattle.view_ends.proofs.failing.Failing.room.Given as goal

abbrev pub invariant-loop-place : goal.invariant-loop-place
invariant-loop-place l = record {
  within : l.room ≤ l.most;
  before : (k : ℕ) → k < l.place-index → l.at < slice_index l.place-items k → l.at + l.room ≤ slice_index l.place-items k;
  some : 0 < l.most → 0 < l.room;
  full : l.room < l.most → Contains l.place-items (l.at + l.room);
}
