-- The objects have what a world becomes by an answer of a call on files.
use Rattle.std.proofs.Common.{◌≡◌, ℕ, ◌+◌, ◌==◌, ◌||◌, Bool, true, false, cond, List, [], ◌∷◌, ◌⊎◌, ◌≢◌, refl, ap, sym, ◌∙◌, subst, inl, inr}
use Rattle.std.specs.Prelude.{count_by}
use Rattle.std.proofs.lemmas.Bool.Decides.{eqb_tells}
use Rattle.kabi_types.specs.declared.calls.Call.{Call}
use Rattle.kabi_types.specs.declared.scripts.Script.{Script}
use Rattle.kabi_types.specs.declared.replies.Reply.{Reply}
use Rattle.kheap_slabs.specs.Objects.{InUse}
use Rattle.open_laws.specs.Placed.{Numbers}
use Rattle.posix_defs.specs.Account.{Account, account_on}
use Rattle.posix_defs.specs.Answer.{Answer}
use Rattle.posix_defs.specs.Files.State.{Files}
use Rattle.posix_defs.specs.Memory.{Frames}
use Rattle.posix_defs.specs.MemoryCalls.{frames_after}
use Rattle.posix_defs.specs.Plain.{Plain, answered, root, with_files}
use Rattle.posix_defs.specs.Tree.{Tree, is_directory}
use Rattle.posix_defs.specs.Turn.{account_after, touched}
use Rattle.posix_defs.specs.World.{World, directories_of, is_in}
use Rattle.proc_numbers.specs.Queues.{QueuesStand, fronts_on}
use Rattle.proc_numbers.proofs.Fronts.{fronts_follow}
use Rattle.proc_files.specs.Answering.{AnswersHolding}
use Rattle.proc_files.specs.Holding.{HoldFiles}
use Rattle.proc_files.specs.Holders.{HoldDirectories, holders, openings}
use Rattle.proc_files.specs.Reading.{LeadsHolding}
use Rattle.store_objects.specs.declared.objects.Objects.{Objects}
use Rattle.store_objects.specs.Files.{AreSettled}
use Rattle.store_objects.specs.Standing.{StandsFor}
use Rattle.store_objects.specs.Trees.{but_root, others_in}
use Rattle.store_objects.specs.Working.{AreDirectories}
use Rattle.store_objects.proofs.Forgetting.{forgotten}
use Rattle.store_objects.proofs.Fronts.{settled_after}
use Rattle.store_objects.proofs.HeldNodes.{in_counts}
use Rattle.store_objects.proofs.TreesOn.{same_pins}
use Rattle.store_objects.specs.FileMoves.{MemoryStays}
use Rattle.store_objects.specs.FileWorlds.{HasAnswered, HasTurned, KinStays, LeavesCached, LeavesKin, turned_in}

-- ---- where processes work

-- among these and others is who is among these
or_more : (a b c : Bool) → (a || c) ≡ true → (a || (b || c)) ≡ true
or_more true b c is = refl
or_more false true c is = refl
or_more false false c is = is

-- a number is itself, whatever stands beside it
or_itself : (n : ℕ) (a c : Bool) → (a || ((n == n) || c)) ≡ true
or_itself n true c = refl
or_itself n false c = elim (eqb_tells n n) [ inl same ↦ ap (λ b. b || c) same.0 | inr apart ↦ absurd (apart.1 refl) ]

-- those behind one that is the root, or isn't
abbrev among : Bool → ℕ → List ℕ → List ℕ
among b node rest = cond b rest (node ∷ rest)

-- where the root and all others among some are directories, all of them are
all_are : (tree : Tree) (nodes : List ℕ) → ((n : ℕ) → is_in n (root ∷ but_root nodes) ≡ true → is_directory tree n ≡ true) → AreDirectories tree nodes
all_are tree [] each = tt
all_are tree (node ∷ nodes) each = (first (eqb_tells node root), all_are tree nodes (λ n there. each n (still n (node == root) there)))
  where
    first : (((node == root) ≡ true) × (node ≡ root)) ⊎ (((node == root) ≡ false) × (node ≢ root)) → is_directory tree node ≡ true
    first (inl same) = subst (λ n. is_directory tree n ≡ true) (sym same.1) (each root refl)
    first (inr apart) =
        each node (ap (λ b. is_in node (root ∷ among b node (but_root nodes))) apart.0 ∙ or_itself node (root == node) (is_in node (but_root nodes)))

    still : (n : ℕ) (b : Bool) → is_in n (root ∷ but_root nodes) ≡ true → is_in n (root ∷ among b node (but_root nodes)) ≡ true
    still n true there = there
    still n false there = or_more (root == n) (node == n) (is_in n (but_root nodes)) there

-- who works somewhere holds that, and holds a directory
pub works_held : (tree : Tree) (plain : Plain) → HoldDirectories (others_in plain) tree → AreDirectories tree (directories_of plain.table)
works_held tree plain hold =
    all_are tree (directories_of plain.table) (λ n there. hold.directories n (in_counts n (root ∷ but_root (directories_of plain.table)) there))

-- ---- where files alone have become others

module _ (script : Script) (old new : Objects) (world : World) (stands : StandsFor script old world) (pid : ℕ) (which : Call) (said : Reply) where
  -- the account goes on so with a call that puts nothing in memory
  account_goes : (files : Files) → frames_after world.account.frames pid which said ≡ world.account.frames
      → fronts_on world.plain.files files world.account ≡ account_on world.plain (with_files world.plain files) (touched world.account pid which said)
  account_goes files none =
      ap (λ (frames : Frames). record (fronts_on world.plain.files files world.account) { frames = frames })
      (sym (forgotten script old world.plain world.account.frames stands.kept stands.processes stands.memory))
      ∙ ap (λ (frames : Frames). account_on world.plain (with_files world.plain files) (record world.account { frames = frames })) (sym none)

  settled_files : (files : Files) → AreSettled files (fronts_on world.plain.files files world.account)
  settled_files files =
      let settled = settled_after world.plain (with_files world.plain files) world.account in
      record { pipes = settled.pipes; sockets = settled.sockets }

  -- The objects have the world in which files have become those that they hold.
  pub turned_files : (files : Files) (now : Numbers) → MemoryStays old new → QueuesStand old.heap new.heap
      → ((key : ℕ) → InUse old.heap.pipes key → now.pipes key ≡ stands.files.numbers.pipes key) → ((key : ℕ) → InUse old.heap.socks key → now.socks key ≡ stands.files.numbers.socks key)
      → HoldFiles now (others_in world.plain) new.heap new.procs new.tree files
      → HasTurned new world (turned_in new (with_files world.plain files) (fronts_on world.plain.files files world.account))
  turned_files files now memory stand pipes socks holds =
      let have = stands.files in
      record {
        table = memory.table world.plain.table stands.processes.table;
        memory = memory.account world.account.frames stands.memory;
        files = record {
          numbers = now;
          opened = holds.opened;
          fronts = fronts_follow have.numbers now old.heap new.heap have.opened.list holds.opened.list world.plain.files files world.account have.opened.opened holds.opened.opened
              stand pipes socks have.fronts;
          settled = settled_files files;
        };
        tree = holds.tree;
        family = stands.family;
        works = works_held files.tree world.plain holds.beside;
        controls = refl;
        kept = refl;
        reads = refl;
      }

  -- So it was answered, where the call puts nothing in memory.
  pub answered_holding : (answer : Answer) (now : Numbers) → MemoryStays old new → QueuesStand old.heap new.heap
      → ((key : ℕ) → InUse old.heap.pipes key → now.pipes key ≡ stands.files.numbers.pipes key) → ((key : ℕ) → InUse old.heap.socks key → now.socks key ≡ stands.files.numbers.socks key)
      → frames_after world.account.frames pid which said ≡ world.account.frames
      → (answers : AnswersHolding now (others_in world.plain) new.heap new.procs new.tree script world.plain pid answer said)
      → LeavesCached old new world pid which said (with_files world.plain answers.files) → HasAnswered script old new world pid which answer said
  answered_holding answer now memory stand pipes socks none answers cached = record {
    next = with_files world.plain answers.files;
    replies = answers.replies;
    turned = subst (λ (account : Account). HasTurned new world (turned_in new (with_files world.plain answers.files) account))
        (account_goes answers.files none ∙ ap (account_after world.account world.plain pid which) (sym answers.replies))
        (turned_files answers.files now memory stand pipes socks answers.holds);
    cached = cached;
  }

  -- ---- where memory has, too

  -- as many hold each node beside descriptions where everybody works where he worked
  same_holders : (next : Plain) → directories_of next.table ≡ directories_of world.plain.table → (n : ℕ) → holders (others_in world.plain) next.files n ≡ holders (others_in next) next.files n
  same_holders next works n = ap (λ (nodes : List ℕ). count_by (λ node. node == n) (root ∷ but_root nodes) + openings next.files n) (sym works)

  pub answered_leading : (answer : Answer) → LeavesKin world.plain answer
      → (leads : LeadsHolding script stands.files.numbers (others_in world.plain) new.heap new.procs new.tree world.plain world.account pid which answer said)
      → LeavesCached old new world pid which said leads.next → HasAnswered script old new world pid which answer said
  answered_leading answer leaves leads cached =
      let kin : KinStays world.plain (answered script leads.next pid said) = subst (LeavesKin world.plain) leads.replies leaves in
      let next : Plain = leads.next in
      record {
        next = next;
        replies = leads.replies;
        turned = record {
          table = leads.stands.table;
          memory = leads.stands.frames;
          files = record {
            numbers = stands.files.numbers;
            opened = leads.stands.opened;
            fronts = leads.stands.fronts;
            settled = subst (λ a. AreSettled next.files (account_after world.account world.plain pid which a)) (sym leads.replies)
                (settled_after world.plain (answered script next pid said) (touched world.account pid which said));
          };
          tree = same_pins new.heap new.tree next.files.tree (holders (others_in world.plain) next.files) (holders (others_in next) next.files) (same_holders next kin.works) leads.holds.tree;
          family = kin.family stands.family;
          works = subst (AreDirectories next.files.tree) (sym kin.works) (works_held next.files.tree world.plain leads.holds.beside);
          controls = leads.controls;
          kept = refl;
          reads = refl;
        };
        cached = cached;
      }
