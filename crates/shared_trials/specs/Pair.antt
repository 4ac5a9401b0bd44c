-- The script that the tests run, and the worlds of its two processes.
use Rattle.std.specs.Prelude.{ℕ, zero, suc, ◌+◌, Bool, true, false, cond, pos, List, [], ◌∷◌, replicate, Option, None, Some, codes}
use Rattle.kabi_types.specs.declared.calls.Call.{Call}
use Rattle.kabi_types.specs.declared.calls.Call.TheVariants as call
use Rattle.kabi_types.specs.declared.calls.CallKind.TheVariants as kind
use Rattle.kabi_types.specs.declared.entries.Cached.{Cached}
use Rattle.kabi_types.specs.declared.entries.Cached.TheVariants.{Name, Block, Vnode}
use Rattle.kabi_types.specs.declared.scripts.Chooser.TheVariants.{Plain}
use Rattle.kabi_types.specs.declared.scripts.Control.{Control}
use Rattle.kabi_types.specs.declared.scripts.Operand.TheVariants.{Number}
use Rattle.kabi_types.specs.declared.scripts.Policy.TheVariants.{Heaviest}
use Rattle.kabi_types.specs.declared.scripts.Script.{Script}
use Rattle.kabi_types.specs.declared.scripts.Statement.{Statement}
use Rattle.kabi_types.specs.declared.scripts.Statement.TheVariants.{Invoke}
use Rattle.kabi_types.specs.declared.errnos.Errno.TheVariants.{ENOENT}
use Rattle.kabi_types.specs.declared.replies.Reply.TheVariants.{Fail, Val}
use Rattle.posix_defs.specs.declared.turner.Turned.{Turned}
use Rattle.posix_defs.specs.declared.turner.Turned.TheVariants.{Done, Ended, Gone}
use Rattle.posix_defs.specs.Files.State.{boot_files, with_heir}
use Rattle.posix_defs.specs.Memory.{no_memory, no_places}
use Rattle.posix_defs.specs.Plain as plain
use Rattle.posix_defs.specs.Process as process
use Rattle.posix_defs.specs.Tree.{root}
use Rattle.posix_defs.specs.World.{Account, Kept, World, boot_kept}
use Rattle.shared_trials.specs.declared.scenes.Act.{Act}
use Rattle.shared_trials.specs.declared.scenes.Act.TheVariants as act
use Rattle.shared_trials.specs.declared.scenes.Next.{Next}
use Rattle.shared_trials.specs.declared.scenes.Next.TheVariants as next
use Rattle.shared_trials.specs.declared.scenes.Scene.{Scene}
use Rattle.shared_trials.specs.declared.scenes.Scene.TheVariants as scene
use Rattle.shared_trials.specs.declared.scenes.Who.{Who}
use Rattle.shared_trials.specs.declared.scenes.Who.TheVariants as one

-- `fork`, and `open "/d" O_RDONLY`, where there is no such file
abbrev pub pair_body : List Statement
pair_body = Invoke kind.Fork [] [] None None ∷ Invoke kind.OpenFile (Number (pos 0) ∷ []) (codes "/d" ∷ []) None None ∷ []

-- these, and the end, on so much heap
abbrev pub pair : ℕ → Script
pair heap = record {
  heap = heap;
  disk = 64;
  steps = 1000;
  policy = Heaviest;
  chooser = Plain;
  programs = record { name = codes "init"; body = pair_body } ∷ [];
}

-- which process a pid names
abbrev pub who : ℕ → Who
who zero = one.Nobody
who (suc zero) = one.First
who (suc (suc zero)) = one.Second
who (suc (suc (suc _))) = one.Nobody

-- where a process is that makes this call next
abbrev pub place_of : Next → ℕ
place_of next.Open = 1
place_of next.Exit = 2

abbrev at : ℕ → Control
at place = record { program = 0; place = place; regs = replicate 16 (pos 0); done = 0 }

-- the child, that runs or has ended
abbrev child : process.Status → Option process.Process
child status = Some (record { parent = 1; directory = root; status = status; memory = no_memory; ignores = process.ignores_both })

-- the processes that are there
abbrev pub table_of : Scene → process.Table
table_of scene.Young = Some plain.first_process ∷ []
table_of (scene.Alone _) = Some plain.first_process ∷ []
table_of (scene.Two _ _) = Some plain.first_process ∷ child process.Alive ∷ []
table_of (scene.Exited _) = Some plain.first_process ∷ child (process.Ended 0) ∷ []
table_of (scene.Killed _ _) = Some plain.first_process ∷ child (process.Ended 9) ∷ []
table_of scene.Over = None ∷ []
table_of (scene.BothOver _) = None ∷ None ∷ []

-- how far each program has come
abbrev pub controls_of : Scene → List Control
controls_of scene.Young = at 0 ∷ []
controls_of (scene.Alone first) = at (place_of first) ∷ []
controls_of (scene.Two first second) = at (place_of first) ∷ at (place_of second) ∷ []
controls_of (scene.Exited first) = at (place_of first) ∷ at 2 ∷ []
controls_of (scene.Killed first second) = at (place_of first) ∷ at (place_of second) ∷ []
controls_of scene.Over = at 2 ∷ []
controls_of (scene.BothOver second) = at 2 ∷ at (place_of second) ∷ []

-- whether the child was made
abbrev pub is_made : Scene → Bool
is_made scene.Young = false
is_made (scene.Alone _) = false
is_made (scene.Two _ _) = true
is_made (scene.Exited _) = true
is_made (scene.Killed _ _) = true
is_made scene.Over = false
is_made (scene.BothOver _) = true

-- nobody has mapped a page or has a queue
abbrev account_of : Bool → Account
account_of made = record { frames = record { places = no_places ∷ cond made (no_places ∷ []) []; made = 0 }; pipes = []; sockets = [] }

-- one block is cached, or none
abbrev pub kept_of : Bool → Kept
kept_of cached = record boot_kept { blocks = cond cached (7 ∷ []) [] }

-- the world of a scene, with a block cached or not
abbrev pub world_at : Scene → Bool → World
world_at now cached = record {
  plain = record { table = table_of now; controls = controls_of now; files = cond (is_made now) (with_heir (boot_files 64) 1) (boot_files 64) };
  account = account_of (is_made now);
  kept = kept_of cached;
  reads = 0;
}

-- the records of processes that are there, and the root's node
abbrev pub held_in : Scene → ℕ
held_in scene.Young = 640
held_in (scene.Alone _) = 640
held_in (scene.Two _ _) = 1152
held_in (scene.Exited _) = 1152
held_in (scene.Killed _ _) = 1152
held_in scene.Over = 128
held_in (scene.BothOver _) = 128

-- what all takes of the heap
abbrev pub live_at : Scene → Bool → ℕ
live_at now cached = held_in now + cond cached 1088 0

-- what a process that goes on here does next
abbrev pub act_as : Next → Act
act_as next.Open = act.Open
act_as next.Exit = act.Exit

-- what each of the two does next, if it lives
abbrev pub first_act : Scene → Option Act
first_act scene.Young = Some act.Fork
first_act (scene.Alone first) = Some (act_as first)
first_act (scene.Two first _) = Some (act_as first)
first_act (scene.Exited first) = Some (act_as first)
first_act (scene.Killed first _) = Some (act_as first)
first_act scene.Over = None
first_act (scene.BothOver _) = None

abbrev pub second_act : Scene → Option Act
second_act scene.Young = None
second_act (scene.Alone _) = None
second_act (scene.Two _ second) = Some (act_as second)
second_act (scene.Exited _) = None
second_act (scene.Killed _ _) = None
second_act scene.Over = None
second_act (scene.BothOver _) = None

abbrev pub act_of : Who → Scene → Option Act
act_of one.First now = first_act now
act_of one.Second now = second_act now
act_of one.Nobody now = None

-- the call that this is
abbrev pub call_as : Act → Call
call_as act.Fork = call.Fork
call_as act.Open = call.OpenFile (codes "/d") (pos 0)
call_as act.Exit = call.Exit (pos 0)

-- what its turn tells
abbrev pub told_of : Option Act → Turned
told_of None = Gone
told_of (Some act.Fork) = Done (Val (pos 2))
told_of (Some act.Open) = Done (Fail ENOENT)
told_of (Some act.Exit) = Ended 0

-- whether a block is cached behind it: to look for the name one is
abbrev pub cached_by : Option Act → Bool → Bool
cached_by None cached = cached
cached_by (Some act.Fork) cached = cached
cached_by (Some act.Open) cached = true
cached_by (Some act.Exit) cached = cached

-- the scene behind a turn of each of the two
abbrev pub first_after : Scene → Scene
first_after scene.Young = scene.Two next.Open next.Open
first_after (scene.Alone next.Open) = scene.Alone next.Exit
first_after (scene.Alone next.Exit) = scene.Over
first_after (scene.Two next.Open second) = scene.Two next.Exit second
first_after (scene.Two next.Exit second) = scene.BothOver second
first_after (scene.Exited next.Open) = scene.Exited next.Exit
first_after (scene.Exited next.Exit) = scene.BothOver next.Exit
first_after (scene.Killed next.Open second) = scene.Killed next.Exit second
first_after (scene.Killed next.Exit second) = scene.BothOver second
first_after scene.Over = scene.Over
first_after (scene.BothOver second) = scene.BothOver second

abbrev pub second_after : Scene → Scene
second_after scene.Young = scene.Young
second_after (scene.Alone first) = scene.Alone first
second_after (scene.Two first next.Open) = scene.Two first next.Exit
second_after (scene.Two first next.Exit) = scene.Exited first
second_after (scene.Exited first) = scene.Exited first
second_after (scene.Killed first second) = scene.Killed first second
second_after scene.Over = scene.Over
second_after (scene.BothOver second) = scene.BothOver second

abbrev pub scene_after : Who → Scene → Scene
scene_after one.First now = first_after now
scene_after one.Second now = second_after now
scene_after one.Nobody now = now

-- the scene where a call of each of the two was refused
abbrev pub first_refused : Scene → Scene
first_refused scene.Young = scene.Alone next.Open
first_refused (scene.Alone _) = scene.Alone next.Exit
first_refused (scene.Two _ second) = scene.Two next.Exit second
first_refused (scene.Exited _) = scene.Exited next.Exit
first_refused (scene.Killed _ second) = scene.Killed next.Exit second
first_refused scene.Over = scene.Over
first_refused (scene.BothOver second) = scene.BothOver second

abbrev pub second_refused : Scene → Scene
second_refused scene.Young = scene.Young
second_refused (scene.Alone first) = scene.Alone first
second_refused (scene.Two first _) = scene.Two first next.Exit
second_refused (scene.Exited first) = scene.Exited first
second_refused (scene.Killed first second) = scene.Killed first second
second_refused scene.Over = scene.Over
second_refused (scene.BothOver second) = scene.BothOver second

abbrev pub scene_refused : Who → Scene → Scene
scene_refused one.First now = first_refused now
scene_refused one.Second now = second_refused now
scene_refused one.Nobody now = now

-- the scene where the child was killed, if it lived
abbrev pub without_child : Scene → Scene
without_child scene.Young = scene.Young
without_child (scene.Alone first) = scene.Alone first
without_child (scene.Two first second) = scene.Killed first second
without_child (scene.Exited first) = scene.Exited first
without_child (scene.Killed first second) = scene.Killed first second
without_child scene.Over = scene.Over
without_child (scene.BothOver second) = scene.BothOver second

abbrev pub scene_killed : Who → Scene → Scene
scene_killed one.First now = now
scene_killed one.Second now = without_child now
scene_killed one.Nobody now = now

-- whom the policy kills: the child, if it lives
abbrev pub victim_in : Scene → Option ℕ
victim_in scene.Young = None
victim_in (scene.Alone _) = None
victim_in (scene.Two _ _) = Some 2
victim_in (scene.Exited _) = None
victim_in (scene.Killed _ _) = None
victim_in scene.Over = None
victim_in (scene.BothOver _) = None

-- the pid of the youngest process
abbrev pub last_in : Scene → ℕ
last_in now = cond (is_made now) 2 1

-- what a cache can lose, and whether the block is cached still when one has
abbrev pub can_lose : Cached → Bool → Bool
can_lose Name cached = false
can_lose Block cached = cached
can_lose Vnode cached = false

abbrev pub cached_without : Cached → Bool → Bool
cached_without Name cached = cached
cached_without Block cached = false
cached_without Vnode cached = cached
