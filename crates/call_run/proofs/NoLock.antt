-- Where the table of locks is empty nobody holds one in the machine.
use Rattle.std.proofs.Common.{◌≡◌, ℕ, ◌==◌, Bool, true, length, Option, None, Some, is_none, refl, ap}
use Rattle.kabi_types.specs.declared.scripts.Script.{Script}
use Rattle.lock_table.proofs.Tables.{none_held}
use Rattle.posix_defs.specs.Locks.{Locks}
use Rattle.posix_defs.specs.World.{World}
use Rattle.store_objects.specs.declared.objects.Objects.{Objects}
use Rattle.store_objects.specs.Standing.{StandsFor}
use Rattle.waking_laws.specs.Waking.{no_lock}

pub free_behind : (script : Script) (objects : Objects) (world : World) → StandsFor script objects world → objects.locks ≡ None → no_lock world.plain.files ≡ true
free_behind script objects world stands none =
    ap (λ (locks : Locks). length locks == 0) ((none_held objects.heap.locks objects.locks world.plain.files.locks stands.locks).0 none)

-- what was asked of the table tells
pub none_is : (first : Option ℕ) (empty : Bool) → empty ≡ is_none first → empty ≡ true → first ≡ None
none_is None empty is e = refl
none_is (Some key) empty is e = cc
