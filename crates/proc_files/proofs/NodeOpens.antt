-- A node that is no FIFO, to which an open has led, has a description more: heap, table and tree stand for the files then.
use Rattle.std.proofs.Common.{◌≡◌, ℕ, ℤ, false, cond, [], Ok, refl, ap, subst}
use Rattle.kabi_types.specs.declared.scripts.Script.{Script}
use Rattle.kheap_slabs.specs.declared.objects.Target.TheVariants as target
use Rattle.kheap_slabs.specs.Heap.{Heap}
use Rattle.memfs_ops.specs.FileTree.{Stands, TreeView, one_more}
use Rattle.open_laws.specs.Owned.{HasItsOwners}
use Rattle.open_laws.specs.Placed.{Numbers}
use Rattle.posix_defs.specs.Calls.OnFiles.{description_for, open_fifo, open_node, opened_node_as}
use Rattle.posix_defs.specs.Files.Descriptions.{OnNode, has_flag, o_cloexec}
use Rattle.posix_defs.specs.Files.State.{Files, opened_as, with_tree}
use Rattle.posix_defs.specs.PathCalls.{is_fifo}
use Rattle.posix_defs.specs.Plain.{Plain}
use Rattle.posix_defs.specs.Tree.{Tree}
use Rattle.proc_table.specs.Table.{TableView}
use Rattle.proc_numbers.specs.Having.{AreListed, HaveOpen}
use Rattle.proc_files.specs.Holding.{HoldFiles}
use Rattle.proc_files.specs.Holders.{holders}
use Rattle.proc_files.specs.Opening.{AnswersOpening, HasLed, HaveAnew, HaveWanting}
use Rattle.proc_files.specs.declared.opening.Opened.TheVariants as opened
use Rattle.proc_files.proofs.Beside.{have_beside}
use Rattle.proc_files.proofs.HoldMade.{hold_made}
use Rattle.proc_files.proofs.Makes.{has_node}
use Rattle.proc_files.proofs.Openings.{all_same}

module _ (numbers : Numbers) (others : ℕ → ℕ) (old new : Heap) (kept : TableView) (fs is : TreeView) (files : Files) (next : Tree) (node : ℕ) (flags : ℤ) (pid fd : ℕ)
    (led : HasLed numbers others old kept fs files next node flags) (no_fifo : is_fifo next node ≡ false) where
  abbrev pub files_open : Files
  files_open = opened_as (with_tree files next) pid fd (has_flag flags o_cloexec) (description_for node flags)

  -- a description of it is wanting
  pub node_wanting : AreListed old kept → HasItsOwners old [] → HaveWanting numbers old kept (with_tree files next) (target.Inode node) flags
  node_wanting listed owners =
      has_node numbers old kept (with_tree files next) node flags listed owners (have_beside old old refl numbers kept files (with_tree files next) refl refl refl refl refl led.opened)

  -- and is made
  pub node_holds : (now : Numbers) → HaveOpen now new kept files_open → Stands new is next (one_more (holders others files) node) → HoldFiles now others new kept is files_open
  node_holds now have stands =
      hold_made others files files.pipes next node (OnNode node) flags pid fd led.leads (all_same (with_tree files next) files files.descriptions refl) refl (λ number e. here number e) now new kept is led.nodes led.beside
      have stands
    where
      here : (number : ℕ) → OnNode node ≡ OnNode number → is_fifo next number ≡ false
      here number e = let same : node ≡ number = cc in subst (λ n. is_fifo next n ≡ false) same no_fifo

pub node_answers : (numbers : Numbers) (others : ℕ → ℕ) (old new : Heap) (kept : TableView) (fs is : TreeView) (script : Script) (plain : Plain) (next : Tree) (node : ℕ) (flags : ℤ) (pid fd : ℕ)
    → HasLed numbers others old kept fs plain.files next node flags → is_fifo next node ≡ false
    → HaveAnew numbers old new kept (opened_as (with_tree plain.files next) pid fd (has_flag flags o_cloexec) (description_for node flags))
    → Stands new is next (one_more (holders others plain.files) node)
    → AnswersOpening numbers others old new kept is script plain pid (opened_node_as script plain pid flags fd (Ok (node, next))) (Ok (opened.Over fd))
node_answers numbers others old new kept fs is script plain next node flags pid fd led no_fifo anew stands = record {
  now = anew.now;
  keeps = anew.keeps;
  files = opened_as (with_tree plain.files next) pid fd (has_flag flags o_cloexec) (description_for node flags);
  answers = ap (λ b. cond b (open_fifo script plain pid flags fd node) (open_node script plain pid flags fd node next)) no_fifo;
  holds = node_holds numbers others old new kept fs is plain.files next node flags pid fd led no_fifo anew.now anew.have stands;
}
