-- Heap, table and tree once a description of a node has gone, and the node was let go.
use Rattle.std.proofs.Common.{◌≡◌, ◌≢◌, ◌⊎◌, ℕ, zero, suc, ◌+◌, ◌-◌, ◌<◌, ◌≤◌, ◌==◌, Bool, true, false, cond, List, [], length, Option, None, Some, refl, ap, sym, ◌∙◌, subst, arith, inl, inr, eq-eqb, ne_eqb}
use Rattle.std.specs.Prelude.{is_some}
use Rattle.std.proofs.lemmas.Bool.{cases_eq}
use Rattle.kheap_laws.proofs.PaidLemmas.{CanPay-kept, IsPaid-nothing}
use Rattle.kheap_slabs.specs.Purse.{Purse}
use Rattle.kheap_slabs.specs.declared.objects.Block.{Block}
use Rattle.kheap_slabs.specs.declared.objects.Name.{Name}
use Rattle.kheap_slabs.specs.declared.objects.Vnode.{Vnode}
use Rattle.kheap_slabs.specs.Heap.{Heap}
use Rattle.kheap_slabs.specs.Paid.{AreFills, HasFills, TakesNothing}
use Rattle.memfs_ops.specs.Closing.{HeldToClose, left_tree, one_less}
use Rattle.memfs_ops.specs.FileTree.{Pays, Stands, TreeView}
use Rattle.open_laws.specs.Placed.{Numbers}
use Rattle.posix_defs.specs.Files.Descriptions.{Description}
use Rattle.posix_defs.specs.Files.State.{Files, opens}
use Rattle.posix_defs.specs.IsTree.{IsTree}
use Rattle.posix_defs.specs.PathCalls.{is_fifo_kind, is_socket_kind, kind_in}
use Rattle.posix_defs.specs.Tree.{Node, Tree, is_directory, is_directory_in, links_at, links_in, node_at, root, with_node}
use Rattle.posix_defs.specs.TreeChanges.{closed}
use Rattle.proc_numbers.specs.Closed.{without_number}
use Rattle.proc_numbers.specs.Having.{ClosesNumber, HaveOpen}
use Rattle.proc_table.specs.Table.{TableView}
use Rattle.tree_laws.proofs.OtherNodes.{closed_nodes}
use Rattle.proc_files.specs.Closing.{CachesChange, MayClose}
use Rattle.proc_files.specs.Holding.{CachesStay, HoldFiles}
use Rattle.proc_files.specs.Holders.{AreOpenNodes, HoldDirectories, holders, IsOpenNode, openings, times}
use Rattle.proc_files.proofs.Closings.{Goes, opens_so}
use Rattle.proc_files.proofs.Beside.{have_beside}
use Rattle.proc_files.proofs.Holding.{same_pins, stands_on}
use Rattle.proc_files.proofs.Openings.{opens_once, times_apart, times_here}

-- a directory is never closed away
pub closed_directory : (tree : Tree) (number : ℕ) → IsTree tree → is_directory tree number ≡ true → closed tree number ≡ tree
closed_directory tree number is directory = by_node (node_at tree number) refl
  where
    by_node : (o : Option Node) → node_at tree number ≡ o → closed tree number ≡ tree
    by_node None none = absurd (let both : true ≡ false = sym directory ∙ ap is_directory_in none in cc)
    by_node (Some node) there =
        let one : node.links ≡ 1 = (is.nodes number node there).single (sym (ap is_directory_in there) ∙ directory) in
        ap (λ b. cond b (with_node tree number None) tree) (ne_eqb (links_at tree number) 0 (λ none. (let l : links_at tree number ≡ node.links = ap links_in there in omega (arith, l, one, none))))

-- a node that is as it was is open as it was
pub open_as : (tree after : Tree) (description : Description) (number : ℕ) → node_at after number ≡ node_at tree number → IsOpenNode tree description number → IsOpenNode after description number
open_as tree after description number same it = record {
  used = ap (λ (o : Option Node). is_some o) same ∙ it.used;
  unnamed = ap (λ (o : Option Node). is_socket_kind (kind_in o)) same ∙ it.unnamed;
  reads = λ directory. it.reads (sym (ap is_directory_in same) ∙ directory);
  between = λ directory. it.between (sym (ap is_directory_in same) ∙ directory);
  no_fifo = λ target. ap (λ (o : Option Node). is_fifo_kind (kind_in o)) same ∙ it.no_fifo target;
}

module _ (numbers : Numbers) (others : ℕ → ℕ) (new : Heap) (kept : TableView) (now : TreeView) (files next : Files) (is_tree : IsTree files.tree) (nodes : AreOpenNodes files)
    (directories : HoldDirectories others files.tree) (have : HaveOpen numbers new kept next) where
  -- no node goes
  pub hold_none : Goes files next None → Stands new now files.tree (holders others files) → HoldFiles numbers others new kept now next
  hold_none goes stands = record {
    opened = have;
    tree =
        subst (λ t. Stands new now t (holders others next)) (sym goes.tree)
        (same_pins new now files.tree (holders others files) (holders others next)
        (λ n. (let same = goes.opened n in let none : times n [] ≡ 0 = refl in omega (arith, same, none))) stands);
    nodes = λ place number d there on. subst (λ t. IsOpenNode t d number) (sym goes.tree) (nodes place number d (goes.left place d there) (sym (goes.nodes place d there) ∙ on));
    beside = subst (HoldDirectories others) (sym goes.tree) directories;
  }

  module _ (number : ℕ) (goes : Goes files next (Some number)) where
    pub held_before : holders others files number ≡ holders others next number + 1
    held_before = let same = goes.opened number in let one = times_here number [] in let none : times number [] ≡ 0 = refl in omega (arith, same, one, none)

    pub pins_now : (n : ℕ) → one_less (holders others files) number n ≡ holders others next n
    pins_now n = elim (cases_eq number n) [
      | inl same ↦
          ap (λ b. cond b (holders others files n - 1) (holders others files n)) (eq-eqb number n same)
          ∙ (let before = held_before in let here : holders others files n ≡ holders others files number = ap (holders others files) (sym same) in
          let there : holders others next n ≡ holders others next number = ap (holders others next) (sym same) in omega (arith, before, here, there))
      | inr apart ↦
          ap (λ b. cond b (holders others files n - 1) (holders others files n)) (ne_eqb number n apart)
          ∙ (let same = goes.opened n in let none = times_apart n number [] apart in let zero : times n [] ≡ 0 = refl in omega (arith, same, none, zero))
    ]

    -- the tree that the machine has then is the one that is left
    tree_now : left_tree files.tree (holders others files) number ≡ next.tree
    tree_now = by_opens (opens_so next number next.descriptions)
      where
        last : (b : Bool) → (holders others files number == 1) ≡ b → left_tree files.tree (holders others files) number ≡ cond b (closed files.tree number) files.tree
        last b is = ap (λ t. cond t (closed files.tree number) files.tree) is

        by_others : (n : ℕ) → others number ≡ n → openings next number ≡ 0 → left_tree files.tree (holders others files) number ≡ closed files.tree number
        by_others zero none unopened = last true (eq-eqb (holders others files number) 1 (let before = held_before in omega (arith, before, none, unopened)))
        by_others (suc n) some unopened =
            last false (ne_eqb (holders others files number) 1 (λ one. (let before = held_before in omega (arith, before, some, unopened, one))))
            ∙ sym (closed_directory files.tree number is_tree (directories.directories number (omega (arith, some))))

        by_opens : ((opens next number ≡ true) × (0 < openings next number)) ⊎ ((opens next number ≡ false) × (openings next number ≡ 0))
            → left_tree files.tree (holders others files) number ≡ next.tree
        by_opens (inl some) =
            last false (ne_eqb (holders others files number) 1 (λ one. (let before = held_before in let more = some.1 in omega (arith, before, more, one))))
            ∙ sym (goes.tree ∙ ap (λ b. cond b files.tree (closed files.tree number)) some.0)
        by_opens (inr none) =
            by_others (others number) refl none.1
            ∙ sym (goes.tree ∙ ap (λ b. cond b files.tree (closed files.tree number)) none.0)

    -- what is still open is there still
    unopened : (m : ℕ) → m ≢ number → node_at next.tree m ≡ node_at files.tree m
    unopened m apart = ap (λ t. node_at t m) goes.tree ∙ by_opens (opens next number)
      where
        by_opens : (b : Bool) → node_at (cond b files.tree (closed files.tree number)) m ≡ node_at files.tree m
        by_opens true = refl
        by_opens false = closed_nodes files.tree number m apart

    nodes_now : AreOpenNodes next
    nodes_now place m d there on = elim (cases_eq m number) [
      | inl same ↦ by_opens (opens_so next number next.descriptions) same
      | inr apart ↦ open_as files.tree next.tree d m (unopened m apart) (nodes place m d (goes.left place d there) (sym (goes.nodes place d there) ∙ on))
    ]
      where
        by_opens : ((opens next number ≡ true) × (0 < openings next number)) ⊎ ((opens next number ≡ false) × (openings next number ≡ 0)) → m ≡ number → IsOpenNode next.tree d m
        by_opens (inl some) same =
            subst (λ t. IsOpenNode t d m) (sym (goes.tree ∙ ap (λ b. cond b files.tree (closed files.tree number)) some.0)) (nodes place m d (goes.left place d there) (sym (goes.nodes place d there) ∙ on))
        by_opens (inr none) same = absurd (
            let one = opens_once next next.descriptions place number d there (on ∙ ap (λ n. Some n) same) in
            let zero = none.1 in omega (arith, one, zero))

    directories_now : HoldDirectories others next.tree
    directories_now = record {
      root = directories.root;
      directories = λ m some. elim (cases_eq m number) [
        | inl same ↦
            let was = directories.directories m some in
            let left : next.tree ≡ files.tree = goes.tree ∙ by_opens (opens next number) (closed_directory files.tree number is_tree (ap (is_directory files.tree) (sym same) ∙ was)) in
            ap (λ t. is_directory t m) left ∙ was
        | inr apart ↦ ap is_directory_in (unopened m apart) ∙ directories.directories m some
      ];
      few = directories.few;
    }
      where
        by_opens : (b : Bool) → closed files.tree number ≡ files.tree → cond b files.tree (closed files.tree number) ≡ files.tree
        by_opens true same = refl
        by_opens false same = same

    pub hold_gone : Stands new now (left_tree files.tree (holders others files) number) (one_less (holders others files) number) → HoldFiles numbers others new kept now next
    hold_gone stands = record {
      opened = have;
      tree = same_pins new now next.tree (one_less (holders others files) number) (holders others next) pins_now (subst (λ t. Stands new now t (one_less (holders others files) number)) tree_now stands);
      nodes = nodes_now;
      beside = directories_now;
    }

-- ---- the steps of a close

-- a close of a number leaves the caches
pub number_caches : (old mid : Heap) (kept : TableView) (pid fd : ℕ) → ClosesNumber old mid kept pid fd → CachesStay old mid
number_caches old mid kept pid fd closes = record {
  vnodes = ap (λ (h : Heap). h.vnodes) closes.beside;
  names = ap (λ (h : Heap). h.names) closes.beside;
  blocks = ap (λ (h : Heap). h.blocks) closes.beside;
  size = ap (λ (h : Heap). h.heap) closes.beside;
}

pub fills_on : (old mid : Heap) (purse : Purse) → CachesStay old mid → HasFills old purse → HasFills mid purse
fills_on old mid purse stay fills = record {
  vnodes = subst (λ (v : List (Option Vnode)). AreFills v purse.vnodes purse.left.vnode purse.need.vnode) (sym stay.vnodes) fills.vnodes;
  names = subst (λ (v : List (Option Name)). AreFills v purse.names purse.left.name purse.need.name) (sym stay.names) fills.names;
  blocks = subst (λ (v : List (Option Block)). AreFills v purse.blocks purse.left.block purse.need.block) (sym stay.blocks) fills.blocks;
}

pub close_on : (old mid : Heap) (purse : Purse) → CachesStay old mid → TakesNothing old mid → MayClose old purse → MayClose mid purse
close_on old mid purse stay takes may = record {
  free = record {
    fetch = record {
      pays = CanPay-kept old mid purse purse (IsPaid-nothing old mid purse purse takes refl refl) may.free.fetch.pays;
      fills = fills_on old mid purse stay may.free.fetch.fills;
      few = may.free.fetch.few;
      some = may.free.fetch.some;
    };
    few = may.free.few;
  };
  vnodes = may.vnodes;
  blocks = may.blocks;
}

-- a node was let go, and the purse is as it was
pub close_again : (mid new : Heap) (purse after : Purse) (fs now : TreeView) → Pays mid new purse after fs now → after ≡ purse → MayClose mid purse → MayClose new after
close_again mid new purse after fs now pays same may = record {
  free = record {
    fetch = record {
      pays = CanPay-kept mid new purse after pays.paid may.free.fetch.pays;
      fills = pays.fills;
      few = subst (λ (p : Purse). p.need.block ≤ 4) (sym same) may.free.fetch.few;
      some = subst (λ (p : Purse). 0 < p.left.block + length p.blocks) (sym same) may.free.fetch.some;
    };
    few = subst (λ (p : Purse). p.need.vnode ≤ 4) (sym same) may.free.few;
  };
  vnodes = ap (λ (p : Purse). p.vnodes) same ∙ may.vnodes;
  blocks = ap (λ (p : Purse). p.blocks) same ∙ may.blocks;
}

module _ (numbers : Numbers) (others : ℕ → ℕ) (old mid : Heap) (kept : TableView) (fs : TreeView) (pid fd : ℕ) (purse : Purse) (files : Files) (hold : HoldFiles numbers others old kept fs files)
    (closes : ClosesNumber old mid kept pid fd) (takes : TakesNothing old mid) (may : MayClose old purse) (then : HaveOpen numbers mid kept (without_number files pid fd)) where
  pub stands_mid : Stands mid fs files.tree (holders others files)
  stands_mid = stands_on old mid fs files.tree (holders others files) (number_caches old mid kept pid fd closes) hold.tree

  -- the node may be let go
  pub held_to_close : (node : ℕ) → Goes files (without_number files pid fd) (Some node) → HeldToClose mid purse fs node
  held_to_close node goes =
      let stay = number_caches old mid kept pid fd closes in
      record {
        tree = files.tree;
        pins = holders others files;
        stands = stands_mid;
        held = (let before = held_before numbers others mid kept fs files (without_number files pid fd) hold.tree.is_tree hold.nodes hold.beside then node goes in omega (arith, before));
        root_stays =
            subst (λ n. 0 < n) (sym (pins_now numbers others mid kept fs files (without_number files pid fd) hold.tree.is_tree hold.nodes hold.beside then node goes root))
            (let some = hold.beside.root in omega (arith, some));
        may = λ goes_then. (close_on old mid purse stay takes may).free;
      }

  -- what they stand for where no node is let go
  pub closed_none : Goes files (without_number files pid fd) None → HoldFiles numbers others mid kept fs (without_number files pid fd)
  closed_none goes = hold_none numbers others mid kept fs files (without_number files pid fd) hold.tree.is_tree hold.nodes hold.beside then goes stands_mid

  -- and where one is
  pub closed_gone : (node : ℕ) → Goes files (without_number files pid fd) (Some node) → (new : Heap) (now : TreeView) → CachesChange mid new
      → Stands new now (left_tree files.tree (holders others files) node) (one_less (holders others files) node) → HoldFiles numbers others new kept now (without_number files pid fd)
  closed_gone node goes new now caches stands =
      hold_gone numbers others new kept now files (without_number files pid fd) hold.tree.is_tree hold.nodes hold.beside
      (have_beside mid new caches numbers kept (without_number files pid fd) (without_number files pid fd) refl refl refl refl refl then) node goes stands
