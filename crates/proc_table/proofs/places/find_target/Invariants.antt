use Rattle.std.proofs.Common.{◌≡◌, drop}
use Rattle.proc_table.specs.Table.{key_of_target}
use Rattle.proc_table.proofs.places.find_target.Given as goal

-- it isn't before the place
abbrev pub invariant-loop-place : goal.invariant-loop-place
invariant-loop-place l = key_of_target (drop l.place-index l.listed) l.target ≡ key_of_target l.listed l.target
