-- A call on locks has changed a store, and its caller goes on.
use Rattle.std.proofs.Common.{◌≡◌, ℕ, ℤ, ◌+◌, ◌≤◌, Bool, true, false, cond, Option, None, Result, Ok, Err, refl, ap, sym, ◌∙◌, subst, arith}
use Rattle.kabi_types.specs.declared.calls.Call.{Call}
use Rattle.kabi_types.specs.declared.errnos.Errno.{Errno}
use Rattle.kabi_types.specs.declared.errnos.Errno.TheVariants.{EAGAIN}
use Rattle.kabi_types.specs.declared.replies.Reply.{Reply}
use Rattle.kabi_types.specs.declared.scripts.Control.{Control}
use Rattle.kabi_types.specs.declared.scripts.Script.{Script}
use Rattle.kheap_slabs.specs.Heap.{Heap, IsWellFormed}
use Rattle.kheap_slabs.specs.Objects.{count}
use Rattle.kabi_types.specs.declared.ranges.Kind.{Kind}
use Rattle.lock_table.specs.Chain.{HoldsLocks, IsLockTable}
use Rattle.memfs_ops.specs.FileTree.{IsUsed}
use Rattle.open_laws.specs.Placed.{Numbers}
use Rattle.posix_defs.specs.Answer.{Answer, Blocked, failed, replied}
use Rattle.posix_defs.specs.Calls.OnLocks.{granted, granted_or}
use Rattle.posix_defs.specs.Calls.Opened.{opened_at}
use Rattle.posix_defs.specs.Files.State.{Files, with_locks}
use Rattle.posix_defs.specs.Locks.{Locks, Request, after_set}
use Rattle.posix_defs.specs.Memory.{Frames}
use Rattle.posix_defs.specs.MemoryCalls.{frames_after}
use Rattle.posix_defs.specs.Needs.{need_of}
use Rattle.posix_defs.specs.Plain.{Plain, with_files}
use Rattle.posix_defs.specs.Reaching.{path_to_leave}
use Rattle.posix_defs.specs.World.{World}
use Rattle.posix_defs.specs.declared.turner.Turned.{Turned}
use Rattle.posix_defs.specs.declared.turner.Turned.TheVariants as turned
use Rattle.proc_files.specs.Closing.{ChangesHolding}
use Rattle.proc_files.specs.Holding.{HoldFiles, HoldSome}
use Rattle.proc_files.proofs.OpenFiles.{used_reads}
use Rattle.store_objects.proofs.Answered.{answered_holding}
use Rattle.store_objects.proofs.Keeping.{listed_in}
use Rattle.store_objects.proofs.Leaving.{files_in}
use Rattle.store_objects.proofs.Replies.{GoesOn}
use Rattle.store_objects.proofs.Serving.{serves}
use Rattle.store_objects.proofs.Staying.{memory_holding}
use Rattle.store_objects.proofs.StoreFiles.{holds_files}
use Rattle.store_objects.specs.FileMoves.{CachesWithin}
use Rattle.store_objects.specs.Objects.{AreKept, Runs}
use Rattle.store_objects.specs.Standing.{IsSound, StandsFor}
use Rattle.store_objects.specs.Trees.{others_in}
use Rattle.store_objects.specs.Walking.{Serves, WorldReached}
use Rattle.store_objects.specs.declared.objects.Objects.{Objects}
use Rattle.store_objects.proofs.CallingOpens.{kept_mid, moves, runs_mid, unchanged}
use Rattle.store_objects.proofs.Reached.{NamesNumbers, leaves_numbers, some_on}
use Rattle.lock_calls.specs.Claiming.{claimed_by}
use Rattle.lock_calls.specs.Setting.{ChangesLocks, HasTried, locks_after, told_of}
use Rattle.lock_calls.proofs.Beside.{bound_so, chain_so, changes_so, hold_locked, listed_so, owners_so, queues_so}

-- A call has changed the locks of a store in which a process runs, and told it so.
module _ (script : Script) (old mid : Objects) (pid : ℕ) (control : Control) (kept : AreKept script old) (runs : Runs old pid control) (changes : ChangesLocks old mid)
    (locked : IsLockTable mid.heap.locks mid.locks) (some : HoldSome mid.heap old.procs mid.tree) where
  -- the objects, part by part
  abbrev written : Objects
  written = record { heap = mid.heap; procs = old.procs; tree = mid.tree; names = old.names; fifos = old.fifos; locks = mid.locks }

  same : mid ≡ written
  same = changes.beside

  holding : ChangesHolding old.heap mid.heap old.procs pid
  holding = changes_so old.heap mid.heap changes.heap old.procs pid (unchanged script old pid control kept runs)

  pub kept_set : AreKept script mid
  kept_set =
      subst (AreKept script) (sym same)
      (kept_mid script old mid.heap mid.tree old.names old.fifos mid.locks pid control kept runs holding (listed_so old.heap mid.heap changes.heap old.procs (listed_in script old kept))
      (owners_so old.heap mid.heap changes.heap kept.owners) (chain_so old.heap mid.heap changes.heap old.fifos kept.chain) locked (bound_so old.heap mid.heap changes.heap old.names kept.bound) refl some)

  pub runs_set : Runs mid pid control
  runs_set =
      subst (λ (o : Objects). Runs o pid control) (sym same)
      (runs_mid script old mid.heap mid.tree old.names old.fifos mid.locks pid control kept runs holding (listed_so old.heap mid.heap changes.heap old.procs (listed_in script old kept))
      (owners_so old.heap mid.heap changes.heap kept.owners) (chain_so old.heap mid.heap changes.heap old.fifos kept.chain) locked (bound_so old.heap mid.heap changes.heap old.names kept.bound) refl some)

  -- In each world its answer is a reply, of whose machine the store has the locks, and of the files all else that it had.
  pub serves_set : (which : Call) (said : Reply) (told : Turned) (new : Objects) (answer : Plain → Answer) → IsWellFormed old.heap → CachesWithin old mid which → NamesNumbers which
      → told ≡ turned.Done said → GoesOn script mid pid said new → ((frames : Frames) → frames_after frames pid which said ≡ frames)
      → ((numbers : Numbers) (others : ℕ → ℕ) (files : Files) → HoldFiles numbers others old.heap old.procs old.tree files → HoldFiles numbers others mid.heap old.procs mid.tree files)
      → ((world : World) → StandsFor script old world → some_on world.plain pid which ≡ false → mid.tree ≡ old.tree)
      → ((world : World) → StandsFor script old world → IsSound world.plain
      → (locks : Locks) × (answer world.plain ≡ replied script (with_files world.plain (with_locks world.plain.files locks)) pid said) × HoldsLocks mid.heap.locks mid.locks locks)
      → Serves script old pid which answer told new
  serves_set which said told new answer well within names tells goes none holds stays answers =
      serves script old written new pid which said told
      (record { names = within.names; blocks = within.blocks; vnodes = within.vnodes; reads = within.reads }) tells answer
      (moves script old mid.heap mid.tree old.names old.fifos mid.locks pid control kept runs holding (listed_so old.heap mid.heap changes.heap old.procs (listed_in script old kept))
      (owners_so old.heap mid.heap changes.heap kept.owners) (chain_so old.heap mid.heap changes.heap old.fifos kept.chain) locked (bound_so old.heap mid.heap changes.heap old.names kept.bound) refl some)
      (subst (λ (o : Objects). GoesOn script o pid said new) same goes)
      (λ world stands sound alive.
      let it = answers world stands sound in
      let files = with_locks world.plain.files it.0 in
      answered_holding script old written world stands pid which said (answer world.plain) stands.files.numbers (memory_holding old written pid refl holding kept.holds)
      (queues_so old.heap mid.heap changes.heap) (λ key used. refl) (λ key used. refl) (none world.account.frames)
      (record {
        files = files;
        replies = it.1;
        holds = hold_locked stands.files.numbers (others_in world.plain) mid.heap old.procs mid.tree world.plain.files it.0
            (holds stands.files.numbers (others_in world.plain) world.plain.files (holds_files script old world stands well sound));
      })
      (leaves_numbers old written world pid which names said (with_files world.plain files) (stays world stands)))
      (λ world stands sound next is.
      let it = answers world stands sound in
      subst (λ (files : Files). HoldsLocks mid.heap.locks mid.locks files.locks) (sym (ap (files_in world.plain.files) (sym is ∙ it.1))) it.2)

-- ---- what was tried

module _ (script : Script) (old mid : Objects) (plain : Plain) (pid : ℕ) (fd : ℤ) (asked : Request) where
  -- what is answered, with the locks of that machine
  pub tried_so : (answer stopped : Answer) (done : Result Bool Errno) → answer ≡ granted_or script plain pid asked stopped (claimed_by plain.files asked.kind (opened_at plain.files pid fd))
      → (done ≡ Ok false → stopped ≡ failed script plain pid EAGAIN) → HasTried old mid plain pid fd asked done
      → (locks : Locks) × (answer ≡ replied script (with_files plain (with_locks plain.files locks)) pid (told_of done)) × HoldsLocks mid.heap.locks mid.locks locks
  tried_so answer stopped (Err errno) is stop tried = (plain.files.locks, is ∙ ap (granted_or script plain pid asked stopped) tried.0, tried.1)
  tried_so answer stopped (Ok true) is stop tried = (
    after_set plain.files.locks pid tried.0 asked,
    is ∙ ap (granted_or script plain pid asked stopped) tried.1 ∙ ap (λ b. cond b (granted script plain pid tried.0 asked) stopped) (sym tried.2),
    tried.3,
  )
  tried_so answer stopped (Ok false) is stop tried = (
    plain.files.locks,
    is ∙ ap (granted_or script plain pid asked stopped) tried.1 ∙ ap (λ b. cond b (granted script plain pid tried.0 asked) stopped) (sym tried.2) ∙ stop refl,
    tried.3,
  )

-- ---- what is cached

no_more : (now was need : ℕ) → now ≡ was → now ≤ was + need
no_more now was need same = omega (arith, same)

pub within_set : (old mid : Objects) (which : Call) → ChangesLocks old mid → IsUsed old.tree mid.tree → CachesWithin old mid which
within_set old mid which changes used = record {
  names = no_more (count mid.heap.names) (count old.heap.names) (need_of which).name (ap (λ (h : Heap). count h.names) changes.heap);
  blocks = no_more (count mid.heap.blocks) (count old.heap.blocks) (need_of which).block (ap (λ (h : Heap). count h.blocks) changes.heap);
  vnodes = no_more (count mid.heap.vnodes) (count old.heap.vnodes) (need_of which).vnode (ap (λ (h : Heap). count h.vnodes) changes.heap);
  reads = used_reads old.tree mid.tree used;
}

-- ---- what the chain stands for

pub table_tried : (old mid : Objects) (plain : Plain) (pid : ℕ) (fd : ℤ) (asked : Request) (done : Result Bool Errno) → HasTried old mid plain pid fd asked done → IsLockTable mid.heap.locks mid.locks
table_tried old mid plain pid fd asked (Err errno) tried = (plain.files.locks, tried.1)
table_tried old mid plain pid fd asked (Ok set) tried = (locks_after plain.files.locks pid tried.0 asked set, tried.3)

-- ---- who sleeps

-- nothing is other than before
pub slept : (script : Script) (old : Objects) (pid : ℕ) (which : Call) (world : World) → StandsFor script old world → path_to_leave world.plain pid which ≡ None
    → WorldReached script old world pid which Blocked turned.Sleep
slept script old pid which world stands unnamed = record {
  next = world;
  stands = stands;
  tells = (refl, refl);
  account = refl;
  keeps = record {
    names = omega arith;
    blocks = omega arith;
    vnodes = omega arith;
    reads = omega arith;
    untouched = λ none. (refl, refl);
    left = λ ok. cc;
    known = λ known. refl;
  };
}

-- so it is of some world that the store stood for
pub table_set : (script : Script) (old mid : Objects) (pid : ℕ) (fd : ℤ) (asked : Request) (done : Result Bool Errno) → (world : World) × StandsFor script old world × IsSound world.plain
    → ((s : Script) (world : World) → StandsFor s old world → IsSound world.plain → HasTried old mid world.plain pid fd asked done) → IsLockTable mid.heap.locks mid.locks
table_set script old mid pid fd asked done some tries = table_tried old mid some.0.plain pid fd asked done (tries script some.0 some.1 some.2)

pub some_set : (script : Script) (old mid : Objects) → IsWellFormed old.heap → (world : World) × StandsFor script old world × IsSound world.plain
    → ((numbers : Numbers) (others : ℕ → ℕ) (files : Files) → HoldFiles numbers others old.heap old.procs old.tree files → HoldFiles numbers others mid.heap old.procs mid.tree files)
    → HoldSome mid.heap old.procs mid.tree
some_set script old mid well some holds = record {
  numbers = some.1.files.numbers;
  others = others_in some.0.plain;
  files = some.0.plain.files;
  hold = holds some.1.files.numbers (others_in some.0.plain) some.0.plain.files (holds_files script old some.0 some.1 well some.2);
}

-- what may be claimed is what the machine says, since the store holds its files
pub claimed_so : (script : Script) (old : Objects) (world : World) → IsWellFormed old.heap → StandsFor script old world → IsSound world.plain → (kind : Option Kind) (pid : ℕ) (fd : ℤ) (result : Result ℕ Errno)
    → ((numbers : Numbers) (others : ℕ → ℕ) (files : Files) → HoldFiles numbers others old.heap old.procs old.tree files → result ≡ claimed_by files kind (opened_at files pid fd))
    → (is : Result ℕ Errno) → result ≡ is → claimed_by world.plain.files kind (opened_at world.plain.files pid fd) ≡ is
claimed_so script old world well stands sound kind pid fd result tells is e =
    sym (tells stands.files.numbers (others_in world.plain) world.plain.files (holds_files script old world stands well sound)) ∙ e
