-- A call on what is open is over: its caller goes on, in a machine whose files have become others.
use Rattle.std.proofs.Common.{◌≡◌, ℕ, refl, ap, sym, ◌∙◌, subst}
use Rattle.answer_laws.specs.KeptLocks.{LeavesLocks}
use Rattle.kabi_types.specs.Arguments.{count_of}
use Rattle.kabi_types.specs.declared.calls.Call.{Call}
use Rattle.kabi_types.specs.declared.replies.Reply.{Reply}
use Rattle.kabi_types.specs.declared.replies.Reply.TheVariants.{Bytes, Fail, Pair, Polled, Stat, Val, Waited}
use Rattle.kabi_types.specs.declared.scripts.Script.{Script}
use Rattle.kheap_slabs.specs.Objects.{InUse}
use Rattle.open_laws.specs.Placed.{Numbers}
use Rattle.posix_defs.specs.Account.{Account, account_on}
use Rattle.posix_defs.specs.Answer.{Answer, replied}
use Rattle.posix_defs.specs.Files.State.{Files, opened_nodes}
use Rattle.posix_defs.specs.Memory.{Frames}
use Rattle.posix_defs.specs.MemoryCalls.{frames_after, frames_of}
use Rattle.posix_defs.specs.Plain.{Plain, with_files}
use Rattle.posix_defs.specs.Turn.{touched}
use Rattle.posix_defs.specs.World.{World}
use Rattle.posix_defs.specs.declared.turner.Turned.{Turned}
use Rattle.posix_defs.specs.declared.turner.Turned.TheVariants as turned
use Rattle.proc_numbers.specs.Having.{HaveOpen}
use Rattle.proc_numbers.specs.Naming.{ChangesNumbers}
use Rattle.proc_numbers.specs.Queues.{QueuesStand, fronts_on}
use Rattle.proc_numbers.proofs.Fronts.{fronts_follow}
use Rattle.proc_table.specs.Accounting.{HasAccount}
use Rattle.proc_table.specs.Standing.{IsTable}
use Rattle.proc_table.specs.Table.{TableView}
use Rattle.store_objects.specs.declared.objects.Objects.{Objects}
use Rattle.store_objects.specs.Files.{AreSettled, HaveFiles}
use Rattle.store_objects.specs.Standing.{Performs, StandsFor, WorldAfter}
use Rattle.store_objects.proofs.Forgetting.{forgotten}
use Rattle.store_objects.proofs.Fronts.{settled_after}
use Rattle.store_objects.proofs.Leading.{led_done}
use Rattle.store_objects.proofs.Replies.{GoesOn}
use Rattle.store_objects.specs.OpenMoves.{OpenMoves}
use Rattle.store_objects.specs.OpenWorlds.{HasReached, HaveBecome, RepliesOn, opened_in}
use Rattle.store_objects.proofs.OpenMoving.{stands_opened}
use Rattle.store_objects.proofs.Numbers.{account_opened, table_opened}

-- ---- files

-- an account that has gone on with files is settled
settled_files : (files now : Files) (account : Account) (plain : Plain) → AreSettled now (fronts_on files now account)
settled_files files now account plain =
    let settled = settled_after (with_files plain files) (with_files plain now) account in
    record { pipes = settled.pipes; sockets = settled.sockets }

-- Files have become others, of which the objects have all.
pub files_become : (new : Objects) (plain : Plain) (now : Files) (account : Account) → HaveBecome new plain.files now account
    → HaveFiles new now (fronts_on plain.files now account)
files_become new plain now account become = record {
  numbers = become.numbers;
  opened = become.opened;
  fronts = become.fronts;
  settled = settled_files plain.files now account plain;
}

-- Where queues stand where they stood, and what was there keeps its numbers, the account goes on with the fronts.
pub become_where_queues_stand : (old new : Objects) (files now : Files) (account : Account) (numbers : Numbers) → (have : HaveFiles old files account) → QueuesStand old.heap new.heap
    → ((key : ℕ) → InUse old.heap.pipes key → numbers.pipes key ≡ have.numbers.pipes key) → ((key : ℕ) → InUse old.heap.socks key → numbers.socks key ≡ have.numbers.socks key)
    → HaveOpen numbers new.heap new.procs now → now.tree ≡ files.tree → opened_nodes now ≡ opened_nodes files → HaveBecome new files now account
become_where_queues_stand old new files now account numbers have stand pipes socks opened tree opens = record {
  numbers = numbers;
  opened = opened;
  fronts = fronts_follow have.numbers numbers old.heap new.heap have.opened.list opened.list files now account have.opened.opened opened.opened stand pipes socks have.fronts;
  tree = tree;
  opens = opens;
}

-- ---- worlds

-- The objects have what has changed of the world in which files have become others.
pub reached_opened : (script : Script) (old new : Objects) (world : World) (pid : ℕ) (files : Files) → StandsFor script old world → new.procs ≡ old.procs
    → ChangesNumbers old.heap new.heap old.procs pid → HaveBecome new world.plain.files files world.account → HasReached new world (opened_in world files)
reached_opened script old new world pid files stands same changes become = record {
  table = subst (λ (view : TableView). IsTable new.heap view world.plain.table) (sym same)
      (table_opened old.heap new.heap old.procs pid stands.kept.holds changes world.plain.table stands.processes.table);
  memory = subst (λ (view : TableView). HasAccount new.heap view world.account.frames) (sym same)
      (account_opened old.heap new.heap old.procs pid stands.kept.holds changes world.account.frames stands.memory);
  files = files_become new world.plain files world.account become;
  tree = become.tree;
  opens = become.opens;
  family = stands.family;
  works = refl;
  controls = refl;
  kept = refl;
  reads = refl;
}

-- the account goes on so with a call that puts nothing in memory
account_goes_on : (script : Script) (old : Objects) (world : World) (files : Files) (pid : ℕ) (which : Call) (said : Reply) → StandsFor script old world
    → frames_after world.account.frames pid which said ≡ world.account.frames
    → fronts_on world.plain.files files world.account ≡ account_on world.plain (with_files world.plain files) (touched world.account pid which said)
account_goes_on script old world files pid which said stands none =
    ap (λ (frames : Frames). record (fronts_on world.plain.files files world.account) { frames = frames })
    (sym (forgotten script old world.plain world.account.frames stands.kept stands.processes stands.memory))
    ∙ ap (λ (frames : Frames). account_on world.plain (with_files world.plain files) (record world.account { frames = frames })) (sym none)

-- The world after a reply, where the objects stood for the one in which files have become others, and then the caller went on.
pub led_opened : (script : Script) (old mid new : Objects) (world : World) (files : Files) (pid : ℕ) (which : Call) (said : Reply) (told : Turned)
    → StandsFor script old world → StandsFor script mid (opened_in world files) → told ≡ turned.Done said → GoesOn script mid pid said new
    → frames_after world.account.frames pid which said ≡ world.account.frames
    → WorldAfter script new world pid which (replied script (with_files world.plain files) pid said) told
led_opened script old mid new world files pid which said told stands between tells goes none =
    led_done script new world (opened_in world files) pid which said told tells (goes (opened_in world files) between)
    (account_goes_on script old world files pid which said stands none) refl refl

-- A call of a process performs its answer where what it has open has changed as the machine's files have.
pub performs_opened : (script : Script) (old mid new : Objects) (pid : ℕ) (which : Call) (said : Reply) (told : Turned) (answer : Plain → Answer)
    → mid.procs ≡ old.procs → ChangesNumbers old.heap mid.heap old.procs pid → OpenMoves old mid
    → ((world : World) → StandsFor script old world → RepliesOn mid script world.plain world.account pid (answer world.plain) said)
    → told ≡ turned.Done said → GoesOn script mid pid said new → ((frames : Frames) → frames_after frames pid which said ≡ frames)
    → ((plain : Plain) → LeavesLocks plain (answer plain)) → Performs script old pid which answer told new
performs_opened script old mid new pid which said told answer same changes moves on tells goes none leaves = λ world stands alive.
    let it = on world stands in
    subst (λ a. WorldAfter script new world pid which a told) (sym it.replies)
    (led_opened script old mid new world it.files pid which said told stands
    (stands_opened script old mid world (opened_in world it.files) stands moves (reached_opened script old mid world pid it.files stands same changes it.become)
    (subst (LeavesLocks world.plain) it.replies (leaves world.plain)))
    tells goes (none world.account.frames))

-- a call whose replies say nothing of frames leaves them
pub no_frames : (which : Call) → ((frames : Frames) (pid value : ℕ) → frames_of frames pid which value ≡ frames) → (pid : ℕ) (said : Reply) (frames : Frames)
    → frames_after frames pid which said ≡ frames
no_frames which none pid (Val value) frames = none frames pid (count_of value)
no_frames which none pid (Pair one other) frames = refl
no_frames which none pid (Stat info) frames = refl
no_frames which none pid (Waited child status) frames = refl
no_frames which none pid (Polled hits) frames = refl
no_frames which none pid (Bytes bytes) frames = refl
no_frames which none pid (Fail errno) frames = refl
