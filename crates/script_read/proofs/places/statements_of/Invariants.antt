use Rattle.std.proofs.Common.{◌≡◌, ◌≤◌, List, ◌++◌, length}
use Rattle.std.specs.Prelude.{reverse}
use Rattle.indexmap.specs.IndexMap.{get}
use Rattle.kabi_types.specs.contracts.short_lists.Name27PartialEq.TheImpl.{eq-value}
use Rattle.posix_defs.specs.declared.said.Stated.{Stated}
use Rattle.script_read.specs.LabelPlaces.{body_from}
use Rattle.script_read.proofs.Placing.{told}
use Rattle.script_read.proofs.places.statements_of.Given as goal

-- the lines behind the rest are read: they say the body, turned round, or have this fault
abbrev pub invariant-loop-stated : goal.invariant-loop-stated
invariant-loop-stated l =
    (done : List Stated) × (l.fn.lines.items ≡ l.lines.items ++ done)
    × (body_from (λ name. get eq-value.it l.places name) (length l.lines.items) done ≡ told l.fault (reverse l.body.items))
    × (length l.lines.items ≤ 4294967295)

abbrev pub decreases-loop-stated : goal.decreases-loop-stated
decreases-loop-stated l = length l.lines.items
