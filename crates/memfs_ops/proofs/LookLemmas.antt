-- A call that looks around, from what a tree of files stands for to what its caches are lent for, and back.
use Rattle.std.proofs.Common.{◌≡◌, ℕ, List, refl, sym, ap, ◌∙◌, subst}
use Rattle.kheap_slabs.specs.Purse.{Purse}
use Rattle.kheap_slabs.specs.Heap.{Heap}
use Rattle.posix_defs.specs.Tree.{Tree}
use Rattle.std.proofs.Common.{le_trans}
use Rattle.kheap_laws.proofs.PaidLemmas.{IsPaid-trans}
use Rattle.cached_disk.specs.TreeLent.{AllLent, StandsThrough, TreeGoesOn, with_cached}
use Rattle.cached_disk.specs.TreeGoing.{TreeGoesOn-trans}
use Rattle.std.proofs.Common.{Bool, IsSome, Ok, Err}
use Rattle.kabi_types.specs.declared.errnos.Errno.{Errno}
use Rattle.lru_index.specs.NameKeys.{name_key}
use Rattle.name_cache.specs.Names.{name_slot}
use Rattle.vnode_cache.specs.Nodes.{node_slot}
use Rattle.posix_defs.specs.PathCalls.{node_led}
use Rattle.posix_defs.specs.declared.walked.Walked.{Walked}
use Rattle.posix_defs.specs.declared.walked.Walked.TheVariants as walked
use Rattle.tree_laws.proofs.TreeKeeps.{same_Ok}
use Rattle.memfs_ops.specs.FileTree.{TreeView, in_call, Stands, MayWalk, Looks, Pays, KeepsLed, KeepsLast}

pub lent_of : (heap : Heap) (purse : Purse) (fs : TreeView) (tree : Tree) (pins : ℕ → ℕ) → Stands heap fs tree pins → MayWalk heap purse → AllLent heap purse fs.names fs.vnodes fs.blocks fs.disk
lent_of heap purse fs tree pins stands may = record {
  of_names = record { keeps = stands.names; fills = may.fills.names; few = may.few.0; some = may.some.0; room = stands.room.names };
  of_nodes = record { keeps = stands.nodes; fills = may.fills.vnodes; loose = may.loose; few = may.few.1; some = may.some.1; room = stands.room.nodes };
  of_blocks = record { keeps = stands.blocks; true_blocks = stands.true_blocks; pays = may.pays; fills = may.fills.blocks; few = may.few.2; some = may.some.2; room = stands.room.blocks };
}

pub stands_of : (heap : Heap) (purse : Purse) (fs : TreeView) (tree : Tree) (pins : ℕ → ℕ) → Stands heap fs tree pins → StandsThrough (in_call heap purse fs) tree
stands_of heap purse fs tree pins stands = record { behind = stands.behind; is_tree = stands.is_tree; names = stands.true_names; nodes = stands.true_nodes }

pub looks_of : (old new : Heap) (before after : Purse) (was is : TreeView) → AllLent new after is.names is.vnodes is.blocks is.disk → TreeGoesOn (in_call old before was) (in_call new after is)
    → ((tree : Tree) → StandsThrough (in_call old before was) tree → StandsThrough (in_call new after is) tree) → Looks old new before after was is
looks_of old new before after was is lent on through = record {
  on = on;
  stands = λ tree pins stands.
      let now = through tree (stands_of old before was tree pins stands) in
      record {
        behind = now.behind;
        is_tree = now.is_tree;
        names = lent.of_names.keeps;
        nodes = lent.of_nodes.keeps;
        blocks = lent.of_blocks.keeps;
        true_names = now.names;
        true_nodes = now.nodes;
        true_blocks = lent.of_blocks.true_blocks;
        held = on.pins pins stands.held;
        root = stands.root;
        room = record { names = lent.of_names.room; nodes = lent.of_nodes.room; blocks = lent.of_blocks.room };
      };
  may = record {
    pays = lent.of_blocks.pays;
    fills = record { vnodes = lent.of_nodes.fills; names = lent.of_names.fills; blocks = lent.of_blocks.fills };
    loose = lent.of_nodes.loose;
    few = (lent.of_names.few, lent.of_nodes.few, lent.of_blocks.few);
    some = (lent.of_names.some, lent.of_nodes.some, lent.of_blocks.some);
  };
}

pub looks_trans : (first second third : Heap) (one two three : Purse) (a b c : TreeView) → Looks first second one two a b → Looks second third two three b c → Looks first third one three a c
looks_trans first second third one two three a b c former latter = record {
  on = TreeGoesOn-trans (in_call first one a) (in_call second two b) (in_call third three c) former.on latter.on;
  stands = λ tree pins stands. latter.stands tree pins (former.stands tree pins stands);
  may = latter.may;
}

pub pays_of : (old new : Heap) (before after : Purse) (was is : TreeView) → Looks old new before after was is → Pays old new before after was is
pays_of old new before after was is looks = record {
  only = looks.on.heap;
  purse = looks.on.purse;
  paid = looks.on.paid;
  fills = looks.may.fills;
  reads = looks.on.reads;
}

-- what a path led to, where that is a name, is cached
pub keeps_led : (fs : TreeView) (led : Walked) (number : ℕ) → ((parent : ℕ) (name : List ℕ) (node : ℕ) (slashed : Bool) → led ≡ walked.Named parent name node slashed → IsSome (name_slot fs.names (name_key parent name))) → node_led led ≡ Ok number → IsSome (node_slot fs.vnodes number) → KeepsLed fs led
keeps_led fs (walked.Node node) number named is there = tt
keeps_led fs (walked.Named parent name node slashed) number named is there =
    let same : node ≡ number = same_Ok node number is in
    (named parent name node slashed refl, subst (λ (n : ℕ). IsSome (node_slot fs.vnodes n)) (sym same) there)
keeps_led fs (walked.Free parent name slashed) number named is there = tt
keeps_led fs (walked.Fail errno) number named is there = tt

-- where a path leads to no node it leads to no name that is there
pub keeps_none : (fs : TreeView) (led : Walked) (errno : Errno) → node_led led ≡ Err errno → KeepsLed fs led
keeps_none fs (walked.Node node) errno is = tt
keeps_none fs (walked.Named parent name node slashed) errno is = absurd (cc)
keeps_none fs (walked.Free parent name slashed) errno is = tt
keeps_none fs (walked.Fail _) errno is = tt

-- the last name of what a path led to, where it led to a node
pub keeps_last : (fs : TreeView) (led : Walked) (number : ℕ) → ((parent : ℕ) (name : List ℕ) (node : ℕ) (slashed : Bool) → led ≡ walked.Named parent name node slashed → IsSome (name_slot fs.names (name_key parent name))) → node_led led ≡ Ok number → KeepsLast fs led
keeps_last fs (walked.Node node) number named is = tt
keeps_last fs (walked.Named parent name node slashed) number named is = named parent name node slashed refl
keeps_last fs (walked.Free parent name slashed) number named is = absurd (cc)
keeps_last fs (walked.Fail errno) number named is = absurd (cc)

pub pays_trans : (first second third : Heap) (one two three : Purse) (a b c : TreeView) → Looks first second one two a b → Pays second third two three b c → Pays first third one three a c
pays_trans first second third one two three a b c former latter = record {
  only = latter.only ∙ ap (λ (h : Heap). record h { vnodes = third.vnodes; names = third.names; blocks = third.blocks; high = third.high }) former.on.heap;
  purse = latter.purse ∙ ap (λ (p : Purse). with_cached p three) former.on.purse;
  paid = IsPaid-trans first one second two third three former.on.paid latter.paid;
  fills = latter.fills;
  reads = le_trans former.on.reads latter.reads;
}
