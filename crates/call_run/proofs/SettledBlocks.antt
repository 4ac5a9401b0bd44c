-- What is told of who sleeps is so of each world that the store stands for.
use Rattle.std.proofs.Common.{◌≡◌, ℕ, Bool, List, Some, subst}
use Rattle.std.specs.List.{AllByRecursion}
use Rattle.kabi_types.specs.declared.scripts.Script.{Script}
use Rattle.posix_defs.specs.Machine.{would_block}
use Rattle.posix_defs.specs.Plain.{Plain}
use Rattle.call_run.specs.declared.sleepers.Sleeper.{Sleeper}
use Rattle.call_run.specs.Settled.{IsToldSo, told_so}
use Rattle.call_run.specs.Sleepers.{IsTrulyTold, told_of}

-- what is told of a process is so
pub told_blocks : (script : Script) (plain : Plain) (told : List Sleeper) (pid : ℕ) (blocks : Bool) → AllByRecursion (IsTrulyTold script plain) told → told_of told pid ≡ Some blocks
    → would_block script plain pid ≡ blocks
told_blocks script plain told pid blocks all is = subst (IsToldSo script plain pid) is (told_so script plain told pid all)
