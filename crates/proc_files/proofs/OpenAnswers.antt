-- An open is answered: what the machine says, and what heap, table and tree stand for then.
use Rattle.std.proofs.Common.{◌≡◌, ℕ, ◌+◌, ◌<◌, ℤ, Bool, true, false, not, ◌&&◌, cond, List, Option, None, Some, Result, Ok, Err, refl, ap, sym, subst, ◌∙◌, arith, eq-eqb}
use Rattle.std.specs.Prelude.{OnOk}
use Rattle.std.specs.Option.{option_or}
use Rattle.kabi_types.specs.Arguments.{argument_fault, invalid_unless, path_fault, truncates_unwritten}
use Rattle.kabi_types.specs.declared.calls.Call.TheVariants as call
use Rattle.kabi_types.specs.OpenFlags.{are_open_flags}
use Rattle.kabi_types.specs.declared.errnos.Errno.{Errno}
use Rattle.kabi_types.specs.declared.errnos.Errno.TheVariants.{EMFILE}
use Rattle.kabi_types.specs.declared.scripts.Script.{Script}
use Rattle.kheap_slabs.specs.Objects.{InUse}
use Rattle.kheap_slabs.specs.Heap.{Heap}
use Rattle.memfs_ops.specs.FileTree.{KeepsLast, Stands, TreeView, one_more}
use Rattle.memfs_ops.specs.Opening.{OpenedAs}
use Rattle.memfs_ops.proofs.RemoveLemmas.{path_led_in}
use Rattle.open_laws.specs.Placed.{Numbers}
use Rattle.posix_defs.specs.Answer.{Answer, failed}
use Rattle.posix_defs.specs.Calls.OnFiles.{open_at, open_by, opened_node_as, opening_of}
use Rattle.posix_defs.specs.DiskTree.{StandsFor}
use Rattle.posix_defs.specs.Files.Descriptors.{lowest_free_from}
use Rattle.posix_defs.specs.Files.State.{Files, descriptors_of}
use Rattle.posix_defs.specs.PathCalls.{open_path}
use Rattle.posix_defs.specs.Paths.{resolve}
use Rattle.posix_defs.specs.Plain.{Plain}
use Rattle.posix_defs.specs.Process.{directory_of}
use Rattle.posix_defs.specs.Tree.{Tree, is_directory}
use Rattle.posix_defs.specs.declared.walked.Walked.{Walked}
use Rattle.posix_defs.specs.declared.walked.Walked.TheVariants as walked
use Rattle.proc_table.specs.Table.{TableView}
use Rattle.proc_files.specs.Closing.{CachesChange}
use Rattle.proc_files.specs.Holding.{HoldFiles}
use Rattle.proc_files.specs.Holders.{holders}
use Rattle.proc_files.specs.Opening.{AnswersOpening, HasLed}
use Rattle.proc_files.specs.declared.opening.Opened.{Opened}
use Rattle.proc_files.proofs.Beside.{have_beside, same_descs, same_pipes, same_socks}
use Rattle.proc_files.proofs.HoldMade.{opened_not, opened_to}
use Rattle.proc_files.proofs.OpenLeads.{open_leads}
use Rattle.proc_files.proofs.Written.{hold_written}

-- ---- operands

-- flags and path are right where there is no fault
pub right_open : (path : List ℕ) (flags : ℤ) → argument_fault (call.OpenFile path flags) ≡ None → (are_open_flags flags ≡ true) × (path_fault path ≡ None)
right_open path flags none =
    let both = both_none (invalid_unless (are_open_flags flags && not (truncates_unwritten flags))) (path_fault path) none in
    (first (are_open_flags flags) (not (truncates_unwritten flags)) both.0, both.1)
  where
    both_none : (a b : Option Errno) → option_or a b ≡ None → (a ≡ None) × (b ≡ None)
    both_none None b is = (refl, is)
    both_none (Some x) b is = absurd (cc)

    first : (a b : Bool) → invalid_unless (a && b) ≡ None → a ≡ true
    first true b is = refl
    first false b is = absurd (cc)

-- ---- the machine

module _ (script : Script) (plain : Plain) (pid : ℕ) (path : List ℕ) (flags : ℤ) where
  pub open_full : lowest_free_from (descriptors_of plain.files pid) 0 ≡ None → open_by script plain pid path flags None ≡ failed script plain pid EMFILE
  open_full none = ap (open_at script plain pid path flags) none

  pub open_walks : (fd : ℕ) → lowest_free_from (descriptors_of plain.files pid) 0 ≡ Some fd → (cwd : ℕ) → directory_of plain.table pid ≡ cwd → (led : Result (ℕ × Tree) Errno)
      → open_path plain.files.tree cwd path (opening_of flags) ≡ led → open_by script plain pid path flags None ≡ opened_node_as script plain pid flags fd led
  open_walks fd lowest cwd works led is =
      ap (open_at script plain pid path flags) lowest
      ∙ ap (opened_node_as script plain pid flags fd) (ap (λ n. open_path plain.files.tree n path (opening_of flags)) works ∙ is)

-- ---- where the tree has led

-- the tree leads to a node and a next tree, in which one more holds it
pub record Led (numbers : Numbers) (others : ℕ → ℕ) (h : Heap) (kept : TableView) (fs : TreeView) (files : Files) (led : Result (ℕ × Tree) Errno) (flags : ℤ) (node : ℕ) : Type 0 where
  pub next : Tree
  pub is : led ≡ Ok (node, next)
  pub has : HasLed numbers others h kept fs files next node flags

module _ (numbers : Numbers) (others : ℕ → ℕ) (old mid : Heap) (kept : TableView) (fs is : TreeView) (files : Files) (cwd : ℕ) (path : List ℕ) (flags : ℤ) (hold : HoldFiles numbers others old kept fs files)
    (caches : CachesChange old mid) where
  -- the tree has its fault
  pub fault_holds : (errno : Errno) → OpenedAs mid is files.tree (open_path files.tree cwd path (opening_of flags)) (holders others files) (Err errno)
      → (open_path files.tree cwd path (opening_of flags) ≡ Err errno) × HoldFiles numbers others mid kept is files
  fault_holds errno answer =
      let it = opened_not mid is files.tree (open_path files.tree cwd path (opening_of flags)) (holders others files) errno answer in
      (it.0, hold_written numbers others old mid kept fs is files files.tree hold caches (record { used = λ n. refl; directories = λ n. refl; sockets = λ n. refl; fifos = λ n. refl }) it.1)

  -- or a node
  pub led_by : (one : Tree) → StandsFor fs.disk.blocks one → is_directory one cwd ≡ true → (node : ℕ)
      → OpenedAs mid is files.tree (open_path files.tree cwd path (opening_of flags)) (holders others files) (Ok node)
      → Led numbers others mid kept is files (open_path files.tree cwd path (opening_of flags)) flags node
  led_by one stands dir node answer =
      let led = opened_to mid is files.tree (open_path files.tree cwd path (opening_of flags)) (holders others files) node answer in
      record {
        next = led.next;
        is = led.is;
        has = record {
          opened = have_beside old mid caches numbers kept files files refl refl refl refl refl hold.opened;
          nodes = hold.nodes;
          beside = hold.beside;
          leads = open_leads files.tree flags (resolve files.tree cwd path) node led.next hold.tree.is_tree (path_led_in files.tree cwd path fs.disk.blocks one hold.tree.behind stands hold.tree.is_tree dir) led.is;
          stands = led.stands;
        };
      }

-- what was new before is new still, where caches alone have changed
pub answers_before : (numbers : Numbers) (others : ℕ → ℕ) (old mid new : Heap) (kept : TableView) (fs : TreeView) (script : Script) (plain : Plain) (pid : ℕ) (answer other : Answer) (came : Result Opened Errno)
    → CachesChange old mid → other ≡ answer → AnswersOpening numbers others mid new kept fs script plain pid answer came → AnswersOpening numbers others old new kept fs script plain pid other came
answers_before numbers others old mid new kept fs script plain pid answer other came caches same it = record {
  now = it.now;
  keeps = record {
    descs = λ key used. it.keeps.descs key (subst (λ d. InUse d key) (sym (same_descs old mid caches)) used);
    pipes = λ key used. it.keeps.pipes key (subst (λ p. InUse p key) (sym (same_pipes old mid caches)) used);
    socks = λ key used. it.keeps.socks key (subst (λ s. InUse s key) (sym (same_socks old mid caches)) used);
    frames = it.keeps.frames;
  };
  files = it.files;
  answers = same ∙ it.answers;
  holds = it.holds;
}

-- ---- the tree is used

-- where the node is looked at the tree stands for what it stood for
pub led_on : (numbers : Numbers) (others : ℕ → ℕ) (h : Heap) (kept : TableView) (fs is : TreeView) (files : Files) (next : Tree) (node : ℕ) (flags : ℤ)
    → ((tree : Tree) (pins : ℕ → ℕ) → Stands h fs tree pins → Stands h is tree pins) → HasLed numbers others h kept fs files next node flags → HasLed numbers others h kept is files next node flags
led_on numbers others h kept fs is files next node flags on led = record {
  opened = led.opened;
  nodes = led.nodes;
  beside = led.beside;
  leads = led.leads;
  stands = on next (one_more (holders others files) node) led.stands;
}

-- one more holds the node
pub more_here : (pins : ℕ → ℕ) (node : ℕ) → 0 < one_more pins node node
more_here pins node = subst (λ b. 0 < cond b (pins node + 1) (pins node)) (sym (eq-eqb node node refl)) (omega arith)

-- what no node is made of leaves what was cached
pub keeps_last : (fs is : TreeView) (led : Walked) → is.names ≡ fs.names → KeepsLast fs led → KeepsLast is led
keeps_last fs is (walked.Node number) same keeps = tt
keeps_last fs is (walked.Named dir name number slashed) same keeps = subst (λ n. KeepsLast (record fs { names = n }) (walked.Named dir name number slashed)) (sym same) keeps
keeps_last fs is (walked.Free dir name slashed) same keeps = subst (λ n. KeepsLast (record fs { names = n }) (walked.Free dir name slashed)) (sym same) keeps
keeps_last fs is (walked.Fail errno) same keeps = tt

-- nor what the disk was read
pub reads_same : (fs is : TreeView) → is.disk ≡ fs.disk → is.disk.reads ≡ fs.disk.reads
reads_same fs is same = rw same refl

pub on_any : {X : Type 0} (r : Result X Errno) (P : Type 0) → P → OnOk r P
on_any (Ok x) P p = p
on_any (Err errno) P p = tt
