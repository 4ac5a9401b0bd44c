-- What the answer of a call on a node leads to.
use Rattle.std.proofs.Common.{◌≡◌, ℕ, refl, ap, sym, ◌∙◌, subst}
use Rattle.kabi_types.specs.declared.calls.Call.{Call}
use Rattle.kabi_types.specs.declared.replies.Reply.{Reply}
use Rattle.kabi_types.specs.declared.scripts.Script.{Script}
use Rattle.kheap_slabs.specs.Heap.{Heap}
use Rattle.memfs_ops.specs.FileTree.{TreeView}
use Rattle.open_laws.specs.Open.{HaveFronts}
use Rattle.open_laws.specs.Placed.{Numbers}
use Rattle.posix_defs.specs.Account.{Account, forget_dead}
use Rattle.posix_defs.specs.Answer.{Answer, replied}
use Rattle.posix_defs.specs.Memory.{Frames}
use Rattle.posix_defs.specs.MemoryCalls.{frames_after}
use Rattle.posix_defs.specs.Plain.{Plain}
use Rattle.proc_table.specs.Accounting.{HasAccount}
use Rattle.proc_table.specs.Standing.{IsTable}
use Rattle.proc_table.specs.Table.{TableView}
use Rattle.proc_numbers.specs.Standing.{IsKept, StandsFor}
use Rattle.proc_numbers.proofs.FrontsMoved.{pipe_fronts, socket_fronts}
use Rattle.proc_numbers.proofs.Settled.{forgotten}
use Rattle.proc_files.specs.Holding.{HoldFiles}
use Rattle.proc_files.specs.Reading.{LeadsHolding}

module _ (script : Script) (numbers : Numbers) (others : ℕ → ℕ) (h : Heap) (kept : TableView) (fs : TreeView) (plain next : Plain) (account : Account) (pid : ℕ) (which : Call) (is : IsKept h kept)
    (table : IsTable h kept next.table) (hold : HoldFiles numbers others h kept fs next.files) (fronts : HaveFronts numbers h account)
    (pipes : next.files.pipes ≡ plain.files.pipes) (sockets : next.files.sockets ≡ plain.files.sockets) (controls : next.controls ≡ plain.controls) where
  leads_to : (said : Reply) (frames : Frames) → frames_after account.frames pid which said ≡ frames → HasAccount h kept frames
      → LeadsHolding script numbers others h kept fs plain account pid which (replied script next pid said) said
  leads_to said frames same has = record {
    next = next;
    replies = refl;
    stands = record {
      table = table;
      opened = hold.opened;
      frames = subst (HasAccount h kept) (sym (ap (forget_dead next) same ∙ forgotten h kept next frames is.holds table has)) has;
      fronts = record {
        pipes = pipe_fronts numbers h plain.files next.files account pipes hold.opened.opened.piped fronts.pipes;
        socks = socket_fronts numbers h h plain.files next.files account refl sockets hold.opened.opened.socketed fronts.socks;
      };
    };
    holds = hold;
    controls = controls;
  }

  -- an answer that is such a reply
  pub leads_so : (answer : Answer) (said : Reply) (frames : Frames) → answer ≡ replied script next pid said → frames_after account.frames pid which said ≡ frames → HasAccount h kept frames
      → LeadsHolding script numbers others h kept fs plain account pid which answer said
  leads_so answer said frames is_so same has =
      subst (λ a. LeadsHolding script numbers others h kept fs plain account pid which a said) (sym is_so) (leads_to said frames same has)

-- the call changed nothing of the machine
pub leads_nowhere : (script : Script) (numbers : Numbers) (others : ℕ → ℕ) (h : Heap) (kept : TableView) (fs : TreeView) (plain : Plain) (account : Account) (pid : ℕ) (which : Call) → IsKept h kept
    → StandsFor numbers h kept plain account → HoldFiles numbers others h kept fs plain.files → (answer : Answer) (said : Reply) → answer ≡ replied script plain pid said
    → frames_after account.frames pid which said ≡ account.frames → LeadsHolding script numbers others h kept fs plain account pid which answer said
leads_nowhere script numbers others h kept fs plain account pid which is stands hold answer said is_so same =
    leads_so script numbers others h kept fs plain plain account pid which is stands.table hold stands.fronts refl refl refl answer said account.frames is_so same stands.frames
