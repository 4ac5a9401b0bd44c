use Rattle.std.proofs.Common.{◌≡◌, ◌≤◌, count_by, take, is_some}
use Rattle.desc_table.proofs.descriptors.open_among.Given as goal

-- the places before this one are counted
abbrev pub invariant-loop-place : goal.invariant-loop-place
invariant-loop-place l = record {
  count : l.count ≡ count_by is_some (take l.place-index l.places);
  few : l.count ≤ l.place-index;
}
