-- The script of the process, and the worlds that it comes to.
use Rattle.std.specs.Prelude.{ℕ, pos, Bool, true, false, List, [], ◌∷◌, replicate, None, Option, Some, codes}
use Rattle.kabi_types.specs.declared.calls.Call.{Call}
use Rattle.kabi_types.specs.declared.calls.Call.TheVariants as call
use Rattle.kabi_types.specs.declared.calls.CallKind.TheVariants as kind
use Rattle.kabi_types.specs.declared.scripts.Chooser.TheVariants.{Plain}
use Rattle.kabi_types.specs.declared.scripts.Operand.TheVariants.{Number}
use Rattle.kabi_types.specs.declared.scripts.Policy.TheVariants.{Heaviest}
use Rattle.kabi_types.specs.declared.scripts.Script.{Script}
use Rattle.kabi_types.specs.declared.scripts.Statement.{Statement}
use Rattle.kabi_types.specs.declared.scripts.Statement.TheVariants.{Invoke}
use Rattle.kabi_types.specs.declared.replies.Reply.TheVariants.{Val}
use Rattle.posix_defs.specs.declared.turner.Turned.{Turned}
use Rattle.posix_defs.specs.declared.turner.Turned.TheVariants.{Done, Ended, Gone}
use Rattle.posix_defs.specs.Files.State.{boot_files}
use Rattle.posix_defs.specs.Memory.{Frames, Zero, boot_frames, no_memory, no_places, with_pages, with_range}
use Rattle.posix_defs.specs.Plain.{first_process}
use Rattle.posix_defs.specs.Process.{Process}
use Rattle.posix_defs.specs.World.{World, boot_kept}
use Rattle.priced_store.specs.declared.stages.Stage.{Stage}
use Rattle.priced_store.specs.declared.stages.Stage.TheVariants.{Begun, Mapped, Refused, Over}

-- `mmap 8192`, which is two pages
abbrev pub body : List Statement
body = Invoke kind.Mmap (Number (pos 8192) ∷ []) [] None None ∷ []

-- the script of this program, on so much heap; behind its last statement a program ends by `exit 0`
abbrev pub maps : ℕ → Script
maps heap = record {
  heap = heap;
  disk = 64;
  steps = 1000;
  policy = Heaviest;
  chooser = Plain;
  programs = record { name = codes "init"; body = body } ∷ [];
}

-- the process lives
abbrev pub lives_at : Stage → Bool
lives_at Over = false
lives_at _ = true

-- the call that it makes next
abbrev pub call_at : Stage → Call
call_at Begun = call.Mmap (pos 8192)
call_at _ = call.Exit (pos 0)

-- what its turn tells
abbrev pub told_at : Stage → Turned
told_at Begun = Done (Val (pos 4096))
told_at Mapped = Ended 0
told_at Refused = Ended 0
told_at Over = Gone

-- where its call leads
abbrev pub stage_after : Stage → Stage
stage_after Begun = Mapped
stage_after _ = Over

-- where it leads that its call is refused: behind a statement the program goes on, and an end is asked for again
abbrev pub stage_refused : Stage → Stage
stage_refused Begun = Refused
stage_refused Mapped = Mapped
stage_refused Refused = Refused
stage_refused Over = Over

-- what all takes of the heap: the root's inode 128 bytes, the process 512, the group that its pages lie in 512
abbrev pub live_in : Stage → ℕ
live_in Begun = 640
live_in Mapped = 1152
live_in Refused = 640
live_in Over = 128

-- the process, if it is there still
abbrev process_at : Stage → Option Process
process_at Begun = Some first_process
process_at Mapped = Some (record first_process { memory = with_pages no_memory 1 2 })
process_at Refused = Some first_process
process_at Over = None

-- the place of the statement that comes next; behind the last one it is how many there are
abbrev place_at : Stage → ℕ
place_at Begun = 0
place_at _ = 1

-- its pages in the account: they have zeros, and no frame is made for these
abbrev frames_at : Stage → Frames
frames_at Mapped = record { places = with_range no_places 1 2 Zero ∷ []; made = 0 }
frames_at _ = boot_frames

-- the world in which the process has come so far
abbrev pub world_in : Stage → World
world_in now = record {
  plain = record {
    table = process_at now ∷ [];
    controls = record { program = 0; place = place_at now; regs = replicate 16 (pos 0); done = 0 } ∷ [];
    files = boot_files 64;
  };
  account = record { frames = frames_at now; pipes = []; sockets = [] };
  kept = boot_kept;
  reads = 0;
}
