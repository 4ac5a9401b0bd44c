-- An open has changed what a process has open, with the tree of files, and its caller goes on, or sleeps in it.
use Rattle.std.proofs.Common.{◌≡◌, ℕ, pos, List, [], Option, Some, Result, Ok, Err, length, refl, ap, subst, sym, ◌∙◌}
use Rattle.store_objects.proofs.LockedOn.{locks_follow}
use Rattle.store_objects.specs.OpenMoves.{LocksStay}
use Rattle.lock_table.specs.Chain.{IsLockTable}
use Rattle.answer_laws.specs.KeptLocks.{LeavesLocks}
use Rattle.fifo_nodes.specs.Chain.{IsChain}
use Rattle.kabi_types.specs.declared.calls.Call.{Call}
use Rattle.kabi_types.specs.declared.scripts.Control.{Control}
use Rattle.kabi_types.specs.declared.scripts.Script.{Script}
use Rattle.kabi_types.specs.declared.errnos.Errno.{Errno}
use Rattle.kabi_types.specs.declared.replies.Reply.{Reply}
use Rattle.kabi_types.specs.declared.replies.Reply.TheVariants.{Fail, Val}
use Rattle.kheap_slabs.specs.Heap.{Heap, IsWellFormed}
use Rattle.memfs_ops.specs.FileTree.{TreeView}
use Rattle.open_laws.specs.Owned.{HasItsOwners}
use Rattle.open_laws.specs.Placed.{Numbers}
use Rattle.posix_defs.specs.Account.{Account}
use Rattle.posix_defs.specs.Answer.{Answer, replied}
use Rattle.posix_defs.specs.Calls.Writing.{did_part}
use Rattle.posix_defs.specs.Files.State.{Files, HalfOpen, with_opening}
use Rattle.posix_defs.specs.Turn.{account_after}
use Rattle.posix_defs.specs.Memory.{Frames}
use Rattle.posix_defs.specs.MemoryCalls.{frames_after}
use Rattle.posix_defs.specs.Plain.{Plain, with_files}
use Rattle.posix_defs.specs.World.{World}
use Rattle.posix_defs.specs.declared.turner.Turned.{Turned}
use Rattle.posix_defs.specs.declared.turner.Turned.TheVariants as turned
use Rattle.proc_numbers.specs.Having.{AreListed}
use Rattle.proc_files.specs.Closing.{ChangesHolding}
use Rattle.proc_files.specs.Holding.{HoldFiles, HoldSome}
use Rattle.proc_files.specs.Opening.{AnswersOpening}
use Rattle.proc_files.specs.declared.opening.Opened.{Opened}
use Rattle.proc_files.specs.declared.opening.Opened.TheVariants as opened
use Rattle.proc_table.specs.Opening.{half_in}
use Rattle.proc_numbers.specs.Queues.{QueuesStand, fronts_on}
use Rattle.file_calls.specs.Opening.{LeavesOpening, came_in, told_of}
use Rattle.proc_files.specs.Names.{AreBound, name_of}
use Rattle.proc_table.specs.Standing.{IsTable}
use Rattle.store_objects.specs.declared.objects.Objects.{Objects}
use Rattle.store_objects.specs.Objects.{AreKept, Runs}
use Rattle.store_objects.specs.Standing.{IsSound, StandsFor}
use Rattle.store_objects.specs.Trees.{others_in}
use Rattle.store_objects.specs.Walking.{Serves}
use Rattle.store_objects.proofs.StoreFiles.{holds_files}
use Rattle.store_objects.proofs.Replies.{GoesOn}
use Rattle.store_objects.specs.FileMoves.{CachesWithin, FileMoves}
use Rattle.store_objects.specs.FileWorlds.{HasTurned, LeavesCached, turned_in}
use Rattle.store_objects.proofs.Answered.{answered_holding, turned_files}
use Rattle.store_objects.proofs.Forgetting.{forgotten}
use Rattle.store_objects.proofs.Beginning.{serves_begun}
use Rattle.store_objects.proofs.Serving.{serves}
use Rattle.store_objects.proofs.Staying.{memory_holding}
use Rattle.store_objects.proofs.CallingOpens.{moves}

module _ (script : Script) (old : Objects) (heap : Heap) (fs : TreeView) (table : List (Option ℕ)) (fifos locks : Option ℕ) (pid : ℕ) (control : Control) (kept : AreKept script old) (runs : Runs old pid control)
    (changes : ChangesHolding old.heap heap old.procs pid) (listed : AreListed heap old.procs) (owners : HasItsOwners heap []) (chain : IsChain heap fifos) (locked : IsLockTable heap.locks locks) (bound : AreBound (name_of heap.socks) table)
    (places : length table ≡ length old.names) (some : HoldSome heap old.procs fs) where
  -- the objects mid
  abbrev mid : Objects
  mid = record { heap = heap; procs = old.procs; tree = fs; names = table; fifos = fifos; locks = locks }

  moved : FileMoves old mid
  moved = moves script old heap fs table fifos locks pid control kept runs changes listed owners chain locked bound places some

  module _ (which : Call) (told : Turned) (new : Objects) (answer : Plain → Answer) (well : IsWellFormed old.heap) (within : CachesWithin old mid which)
      (queues : QueuesStand old.heap heap) (none : (frames : Frames) (said : Reply) → frames_after frames pid which said ≡ frames)
      (stay : LocksStay old mid) (leaves : (plain : Plain) → LeavesLocks plain (answer plain)) where
    -- what it came to, by the store's numbers
    abbrev Answers : Result Opened Errno → World → Numbers → Type 0
    Answers came world numbers = AnswersOpening numbers (others_in world.plain) old.heap heap old.procs fs script world.plain pid (answer world.plain) came

    -- a number or a fault is told
    over : (came : Result Opened Errno) (said : Reply) → told ≡ turned.Done said → GoesOn script mid pid said new
        → ((world : World) (it : (numbers : Numbers) × Answers came world numbers) → answer world.plain ≡ replied script (with_files world.plain it.1.files) pid said)
        → ((world : World) (stands : StandsFor script old world) → IsSound world.plain → Answers came world stands.files.numbers)
        → ((world : World) (stands : StandsFor script old world) (it : Answers came world stands.files.numbers) → LeavesCached old mid world pid which said (with_files world.plain it.files))
        → Serves script old pid which answer told new
    over came said tells goes replies answers cached =
        serves script old mid new pid which said told within tells answer moved goes
        (λ world stands sound alive.
        let it = answers world stands sound in
        answered_holding script old mid world stands pid which said (answer world.plain) it.now (memory_holding old mid pid refl changes kept.holds)
        queues it.keeps.pipes it.keeps.socks (none world.account.frames said)
        (record { files = it.files; replies = replies world (stands.files.numbers, it); holds = it.holds }) (cached world stands it))
        (locks_follow script old mid pid answer said stay leaves)

    -- its account goes on with its files, also where its caller sleeps in it then
    begun_account : (world : World) → StandsFor script old world → (files : Files) (opening : Option HalfOpen)
        → fronts_on world.plain.files files world.account ≡ account_after world.account world.plain pid which (did_part (with_files world.plain (with_opening files pid opening)) pid 1)
    begun_account world stands files opening =
        ap (λ (frames : Frames). record (fronts_on world.plain.files files world.account) { frames = frames })
        (sym (forgotten script old world.plain world.account.frames stands.kept stands.processes stands.memory))

    pub serves_opening : (came : Result Opened Errno) → told ≡ told_of came → ((world : World) → StandsFor script mid world → StandsFor script new (came_in script world pid came))
        → ((numbers : Numbers) (others : ℕ → ℕ) (plain : Plain) → IsTable old.heap old.procs plain.table → HoldFiles numbers others old.heap old.procs old.tree plain.files
        → AnswersOpening numbers others old.heap heap old.procs fs script plain pid (answer plain) came)
        → ((world : World) (stands : StandsFor script old world) (it : Answers came world stands.files.numbers) → LeavesOpening old mid world pid which came (with_files world.plain it.files))
        → Serves script old pid which answer told new
    serves_opening (Ok (opened.Over fd)) tells goes answers cached =
        over (Ok (opened.Over fd)) (Val (pos fd)) tells goes (λ world it. it.1.answers)
        (λ world stands sound. answers stands.files.numbers (others_in world.plain) world.plain stands.processes.table (holds_files script old world stands well sound)) cached
    serves_opening (Err errno) tells goes answers cached =
        over (Err errno) (Fail errno) tells goes (λ world it. it.1.answers)
        (λ world stands sound. answers stands.files.numbers (others_in world.plain) world.plain stands.processes.table (holds_files script old world stands well sound)) cached
    serves_opening (Ok (opened.Waits opening)) tells goes answers cached =
        serves_begun script old mid new pid which (half_in opening) told within tells answer moved goes
        (λ world stands sound alive.
        let it = answers stands.files.numbers (others_in world.plain) world.plain stands.processes.table (holds_files script old world stands well sound) in
        let left = cached world stands it in
        record {
          next = with_files world.plain it.files;
          begins = it.answers;
          turned = subst (λ (account : Account). HasTurned mid world (turned_in mid (with_files world.plain it.files) account))
              (begun_account world stands it.files (Some (half_in opening)) ∙ ap (account_after world.account world.plain pid which) (sym it.answers))
              (turned_files script old mid world stands pid which (Val (pos 0)) it.files it.now (memory_holding old mid pid refl changes kept.holds) queues it.keeps.pipes it.keeps.socks it.holds);
          untouched = left.0;
          known = left.1;
        })
        stay leaves
