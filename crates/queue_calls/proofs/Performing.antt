-- A call on what a process has open changes that as the machine's does, and then its caller goes on.
use Rattle.std.proofs.Common.{◌≡◌, ℕ, [], IsSome, refl, ap, subst}
use Rattle.answer_laws.specs.KeptLocks.{LeavesLocks}
use Rattle.kabi_types.specs.declared.calls.Call.{Call}
use Rattle.kabi_types.specs.declared.replies.Reply.{Reply}
use Rattle.kabi_types.specs.declared.scripts.Control.{Control}
use Rattle.kabi_types.specs.declared.scripts.Script.{Script}
use Rattle.kheap_slabs.specs.Heap.{Heap}
use Rattle.open_laws.specs.Owned.{HasItsOwners}
use Rattle.open_laws.specs.Placed.{Numbers}
use Rattle.posix_defs.specs.Answer.{Answer, replied}
use Rattle.posix_defs.specs.Files.State.{Files}
use Rattle.posix_defs.specs.Memory.{Frames}
use Rattle.posix_defs.specs.MemoryCalls.{frames_after}
use Rattle.posix_defs.specs.Plain.{Plain, with_files}
use Rattle.posix_defs.specs.World.{World}
use Rattle.posix_defs.specs.declared.turner.Turned.{Turned}
use Rattle.posix_defs.specs.declared.turner.Turned.TheVariants as turned
use Rattle.proc_numbers.specs.Having.{AreListed, HaveOpen}
use Rattle.proc_numbers.specs.Naming.{ChangesNumbers}
use Rattle.proc_numbers.specs.Queues.{QueuesStand}
use Rattle.proc_files.specs.Names.{name_of}
use Rattle.proc_numbers.specs.Answering.{Answers}
use Rattle.proc_numbers.specs.PipeOpening.{AnswersAnew}
use Rattle.proc_table.specs.Procs.{IsAlive}
use Rattle.proc_table.specs.Table.{key_of}
use Rattle.store_objects.specs.declared.objects.Objects.{Objects}
use Rattle.store_objects.specs.Objects.{AreKept, Runs, procs_of}
use Rattle.store_objects.specs.Standing.{Performs, StandsFor}
use Rattle.store_objects.proofs.Replies.{GoesOn}
use Rattle.store_objects.proofs.RunningProcs.{has_key}
use Rattle.store_objects.specs.OpenMoves.{OpenMoves}
use Rattle.store_objects.specs.OpenWorlds.{RepliesOn}
use Rattle.store_objects.proofs.Leaving.{LeavesNodes, files_in}
use Rattle.store_objects.proofs.OpenMoving.{kept_opened, runs_opened}
use Rattle.store_objects.proofs.Numbers.{moves_opened}
use Rattle.store_objects.proofs.Replying.{become_where_queues_stand, performs_opened}
use Rattle.queue_calls.proofs.Staying.{Stay}

-- who runs is alive, and has a key
pub alive_who_runs : (objects : Objects) (pid : ℕ) (control : Control) → Runs objects pid control → IsAlive (procs_of objects) pid
alive_who_runs objects pid control runs = record { proc = runs.proc; there = runs.found; runs = runs.up }

pub key_who_runs : (script : Script) (objects : Objects) (pid : ℕ) (control : Control) → AreKept script objects → Runs objects pid control
    → IsSome (key_of objects.procs.listed pid)
key_who_runs script objects pid control kept runs = has_key script objects pid kept (alive_who_runs objects pid control runs)

-- the files of a reply are those that it leads to
pub files_told : (script : Script) (plain : Plain) (files : Files) (pid : ℕ) (answer : Answer) (said : Reply) → answer ≡ replied script (with_files plain files) pid said
    → files_in plain.files answer ≡ files
files_told script plain files pid answer said is = ap (files_in plain.files) is

pub stay_told : (script : Script) (plain : Plain) (files : Files) (pid : ℕ) (answer : Answer) (said : Reply) → answer ≡ replied script (with_files plain files) pid said
    → Stay plain answer → LeavesNodes plain.files files
stay_told script plain files pid answer said is stay = subst (LeavesNodes plain.files) (files_told script plain files pid answer said is) stay

-- A call has changed what the process of a pid, which runs, has open in a heap.
module _ (script : Script) (objects : Objects) (heap : Heap) (pid : ℕ) (control : Control) (kept : AreKept script objects) (runs : Runs objects pid control)
    (changes : ChangesNumbers objects.heap heap objects.procs pid) (listed : AreListed heap objects.procs) (owners : HasItsOwners heap [])
    (names : (key : ℕ) → name_of heap.socks key ≡ name_of objects.heap.socks key) where
  -- the objects mid
  abbrev pub mid : Objects
  mid = record { heap = heap; procs = objects.procs; tree = objects.tree; names = objects.names; fifos = objects.fifos; locks = objects.locks }

  moves : OpenMoves objects mid
  moves = moves_opened objects mid pid kept.holds refl refl refl refl refl kept.chain (alive_who_runs objects pid control runs) changes listed owners names

  pub kept_then : AreKept script mid
  kept_then = kept_opened script objects mid kept moves

  pub runs_then : Runs mid pid control
  runs_then = runs_opened objects mid pid control moves runs

  module _ (new : Objects) (which : Call) (said : Reply) (told : Turned) (answer : Plain → Answer) (stand : QueuesStand objects.heap heap)
      (leaves : (plain : Plain) → Stay plain (answer plain))
      (tells : told ≡ turned.Done said) (goes : GoesOn script mid pid said new) (none : (frames : Frames) → frames_after frames pid which said ≡ frames)
      (locks : (plain : Plain) → LeavesLocks plain (answer plain)) where
    -- by the numbers that there were
    pub performs : ((numbers : Numbers) (plain : Plain) → HaveOpen numbers objects.heap objects.procs plain.files → Answers numbers heap objects.procs script plain pid (answer plain) said)
        → Performs script objects pid which answer told new
    performs answers = performs_opened script objects mid new pid which said told answer refl changes moves on tells goes none locks
      where
        on : (world : World) → StandsFor script objects world → RepliesOn mid script world.plain world.account pid (answer world.plain) said
        on world stands =
            let have = stands.files in
            let it = answers have.numbers world.plain have.opened in
            let stay = stay_told script world.plain it.files pid (answer world.plain) said it.replies (leaves world.plain) in
            record {
              files = it.files;
              replies = it.replies;
              become = become_where_queues_stand objects mid world.plain.files it.files world.account have.numbers have stand (λ key used. refl) (λ key used. refl) it.stands
                  stay.tree stay.opens;
            }

    -- where what is new has numbers
    pub performs_anew : ((numbers : Numbers) (plain : Plain) → HaveOpen numbers objects.heap objects.procs plain.files
        → AnswersAnew numbers objects.heap heap objects.procs script plain pid (answer plain) said) → Performs script objects pid which answer told new
    performs_anew answers = performs_opened script objects mid new pid which said told answer refl changes moves on tells goes none locks
      where
        on : (world : World) → StandsFor script objects world → RepliesOn mid script world.plain world.account pid (answer world.plain) said
        on world stands =
            let have = stands.files in
            let anew = answers have.numbers world.plain have.opened in
            let it = anew.answers in
            let stay = stay_told script world.plain it.files pid (answer world.plain) said it.replies (leaves world.plain) in
            record {
              files = it.files;
              replies = it.replies;
              become = become_where_queues_stand objects mid world.plain.files it.files world.account anew.now have stand anew.keeps.pipes anew.keeps.socks it.stands
                  stay.tree stay.opens;
            }
