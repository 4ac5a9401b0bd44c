-- A number is closed where no socket goes that has a name: what heap, table and tree stand for then, the node that goes among it.
use Rattle.std.proofs.Common.{◌≡◌, ℕ, [], Option, None, Some, subst}
use Rattle.kheap_slabs.specs.Heap.{Heap}
use Rattle.kheap_slabs.specs.Paid.{TakesNothing}
use Rattle.kheap_slabs.specs.Purse.{Purse}
use Rattle.memfs_ops.specs.Closing.{HeldToClose, left_tree, one_less}
use Rattle.memfs_ops.specs.FileTree.{Stands, TreeView}
use Rattle.open_laws.specs.Owned.{HasItsOwners}
use Rattle.open_laws.specs.Placed.{Numbers}
use Rattle.posix_defs.specs.Files.State.{Files}
use Rattle.posix_defs.specs.Tree.{Tree}
use Rattle.proc_numbers.specs.Closed.{without_number}
use Rattle.proc_numbers.specs.Having.{AreListed, ClosesNumber, HaveOpen, node_closed}
use Rattle.proc_numbers.specs.Naming.{named_at}
use Rattle.proc_table.specs.Table.{TableView}
use Rattle.proc_files.specs.Closing.{CachesChange, MayClose}
use Rattle.proc_files.specs.Holding.{HoldFiles}
use Rattle.proc_files.specs.Holders.{holders}
use Rattle.proc_files.proofs.Closed.{closed_gone, closed_none, held_to_close, stands_mid}
use Rattle.proc_files.proofs.Closings.{Goes, goes_with}

module _ (old mid : Heap) (kept : TableView) (pid fd : ℕ) (purse : Purse) (fs : TreeView) (listed : AreListed old kept) (owners : HasItsOwners old []) (closes : ClosesNumber old mid kept pid fd)
    (listed_then : AreListed mid kept) (owners_then : HasItsOwners mid []) (takes : TakesNothing old mid) (may : MayClose old purse)
    (closed : (numbers : Numbers) (files : Files) → HaveOpen numbers old kept files → HaveOpen numbers mid kept (without_number files pid fd)) (gone : Option ℕ)
    (is : gone ≡ node_closed old (named_at old kept pid fd)) where
  goes_so : (numbers : Numbers) (others : ℕ → ℕ) (files : Files) → HoldFiles numbers others old kept fs files → Goes files (without_number files pid fd) gone
  goes_so numbers others files hold = goes_with old mid kept pid fd listed owners closes listed_then owners_then numbers files hold.opened (closed numbers files hold.opened) gone is

  -- what they stand for where no node goes
  pub holds_still : gone ≡ None → (numbers : Numbers) (others : ℕ → ℕ) (files : Files) → HoldFiles numbers others old kept fs files → HoldFiles numbers others mid kept fs (without_number files pid fd)
  holds_still none numbers others files hold =
      closed_none numbers others old mid kept fs pid fd purse files hold closes takes may (closed numbers files hold.opened)
      (subst (Goes files (without_number files pid fd)) none (goes_so numbers others files hold))

  module _ (node : ℕ) (goes : gone ≡ Some node) where
    -- the node that goes may be let go
    pub lets_go : (numbers : Numbers) (others : ℕ → ℕ) (files : Files) → HoldFiles numbers others old kept fs files → HeldToClose mid purse fs node
    lets_go numbers others files hold =
        held_to_close numbers others old mid kept fs pid fd purse files hold closes takes may (closed numbers files hold.opened) node
        (subst (Goes files (without_number files pid fd)) goes (goes_so numbers others files hold))

    -- what they stand for once it was
    pub holds_without : (new : Heap) (now : TreeView) → CachesChange mid new
        → ((tree : Tree) (pins : ℕ → ℕ) → Stands mid fs tree pins → Stands new now (left_tree tree pins node) (one_less pins node))
        → (numbers : Numbers) (others : ℕ → ℕ) (files : Files) → HoldFiles numbers others old kept fs files → HoldFiles numbers others new kept now (without_number files pid fd)
    holds_without new now caches stands numbers others files hold =
        let then = closed numbers files hold.opened in
        closed_gone numbers others old mid kept fs pid fd purse files hold closes takes may then node
        (subst (Goes files (without_number files pid fd)) goes (goes_so numbers others files hold)) new now caches
        (stands files.tree (holders others files) (stands_mid numbers others old mid kept fs pid fd purse files hold closes takes may then))
