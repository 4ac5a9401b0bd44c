-- The script that tests run, and the worlds of its one process.
use Rattle.std.specs.Prelude.{ℕ, Bool, if◌then◌else◌, pos, List, [], ◌∷◌, replicate, None, Some, codes}
use Rattle.kabi_types.specs.declared.calls.CallKind.TheVariants as kind
use Rattle.kabi_types.specs.declared.scripts.Chooser.TheVariants.{Plain}
use Rattle.kabi_types.specs.declared.scripts.Operand.TheVariants.{Number}
use Rattle.kabi_types.specs.declared.scripts.Policy.TheVariants.{Heaviest}
use Rattle.kabi_types.specs.declared.scripts.Script.{Script}
use Rattle.kabi_types.specs.declared.scripts.Statement.{Statement}
use Rattle.kabi_types.specs.declared.scripts.Statement.TheVariants.{Invoke}
use Rattle.posix_defs.specs.Plain.{first_process}
use Rattle.posix_defs.specs.Files.State.{boot_files}
use Rattle.posix_defs.specs.World.{Kept, World, no_account}

abbrev with_body : List Statement → Script
with_body body = record {
  heap = 8192;
  disk = 64;
  steps = 1000;
  policy = Heaviest;
  chooser = Plain;
  programs = record { name = codes "init"; body = body } ∷ [];
}

-- `getpid`, and then `exit 0`
abbrev pub sample : Script
sample = with_body (Invoke kind.Getpid [] [] None None ∷ Invoke kind.Exit (Number (pos 0) ∷ []) [] None None ∷ [])

-- the world where the process is at this place, and lives or has ended, and this is kept
abbrev pub world_at : ℕ → Bool → Kept → World
world_at place lives kept = record {
  plain = record {
    table = (if lives then Some first_process else None) ∷ [];
    controls = record { program = 0; place = place; regs = replicate 16 (pos 0); done = 0 } ∷ [];
    files = boot_files 64;
  };
  account = no_account;
  kept = kept;
  reads = 0;
}

-- what that takes of the heap
abbrev pub live_at : Bool → ℕ
live_at lives = if lives then 640 else 128
