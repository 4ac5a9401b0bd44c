-- A further name, and the room for it.
use Rattle.std.proofs.Common.{◌≡◌, ◌≢◌, ℕ, ◌<◌, ◌↔◌, Bool, true, false, cond, eqb, List, Option, Some, None, Ok, Err, refl, sym, ap, ◌∙◌, inl, inr, arith}
use Rattle.std.specs.Prelude.{IsTrue}
use Rattle.std.proofs.lemmas.Bool.{cases_Bool, cases_eq, cond-true, cond-false, eq-eqb, ne_eqb, false≢true}
use Rattle.kabi_types.specs.declared.errnos.Errno.TheVariants.{EMLINK, ENOSPC}
use Rattle.kabi_types.specs.declared.inodes.Inode.{Inode}
use Rattle.kheap_slabs.specs.declared.objects.Name.{Name}
use Rattle.kheap_slabs.specs.Heap.{Heap}
use Rattle.posix_defs.specs.DiskTree.{StandsFor}
use Rattle.posix_defs.specs.SoundDisk.{HasNode, free_in_map}
use Rattle.posix_defs.specs.IsTree.{IsEntryName, IsTree}
use Rattle.posix_defs.specs.Tree.{Tree, found, is_directory, is_in_use, links_at, IsInodeAt}
use Rattle.posix_defs.specs.TreeChanges.{with_entries, entry_put, link, link_added, most_links, takes_entry}
use Rattle.tree_laws.specs.Untouched.{IsElsewhere}
use Rattle.tree_laws.proofs.FileKeeps.{link_keeps}
use Rattle.tree_laws.proofs.OtherNodes.{link_names}
use Rattle.memfs_dir.specs.Listed.{IsFull}
use Rattle.memfs_dir.proofs.Room.{full_beside}
use Rattle.memfs_ops.specs.FileTree.{TreeView, Stands}
use Rattle.memfs_ops.specs.Changing.{MidWay}
use Rattle.memfs_ops.proofs.CloseLemmas.{links_of}
use Rattle.memfs_ops.proofs.StepLemmas.{mid_stands, full_alone, full_beside_none}

-- a name that is free is elsewhere than one that leads to a node
pub free_elsewhere : (tree : Tree) (dir : ℕ) (name : List ℕ) (n : Name) → found tree dir name ≡ None → found tree n.dir n.name ≡ Some n.node → IsElsewhere dir name n.dir n.name
free_elsewhere tree dir name n free is = elim (cases_eq n.dir dir) [
  | inl same ↦ inr (λ called.
      let here : found tree dir name ≡ Some n.node = ap (λ d. found tree d name) (sym same) ∙ ap (found tree n.dir) (sym called) ∙ is in
      let none : ◌≡◌ {A = Option ℕ} None (Some n.node) = sym free ∙ here in
      absurd (cc))
  | inr differs ↦ inl differs
]

pub file_apart : (tree : Tree) (number dir : ℕ) → is_directory tree number ≡ false → is_directory tree dir ≡ true → dir ≢ number
file_apart tree number dir file is_dir same = false≢true (sym file ∙ ap (is_directory tree) (sym same) ∙ is_dir)

-- ---- room

-- as many blocks are free as before, so there is room still
pub room_still : (before after : List (List ℕ)) (inode : Inode) → free_in_map after ≡ free_in_map before → ¬ (IsFull before inode) → ¬ (IsFull after inode)
room_still before after inode same room full = room (elim full [ inl most ↦ inl most | inr few ↦ inr (omega (arith, few, same)) ])

-- a directory has room where the tree says so
pub takes_or_not : (disk : List (List ℕ)) (tree : Tree) (dir : ℕ) (inode : Inode) (room : Bool) → StandsFor disk tree → HasNode disk dir inode → IsTrue room ↔ ¬ (IsFull disk inode) → takes_entry tree dir 0 ≡ room
takes_or_not disk tree dir inode true stands has is = elim (cases_Bool (takes_entry tree dir 0)) [
  | inl takes ↦ takes
  | inr full ↦ absurd (is.0 refl (full_beside_none disk inode ((full_beside disk tree dir 0 inode stands has).1 full)))
]
takes_or_not disk tree dir inode false stands has is = elim (cases_Bool (takes_entry tree dir 0)) [
  | inl takes ↦ let yes = is.1 (λ full. false≢true (sym ((full_beside disk tree dir 0 inode stands has).0 (full_alone disk inode full)) ∙ takes)) in absurd (false≢true yes)
  | inr full ↦ full
]

-- ---- what a link answers

pub too_many : (tree : Tree) (dir : ℕ) (name : List ℕ) (number : ℕ) (inode : Inode) → IsInodeAt tree number inode → inode.nlink ≡ 127 → link tree dir name number ≡ Err EMLINK
too_many tree dir name number inode shows many =
    let is : links_at tree number ≡ most_links = sym (links_of tree number inode shows) ∙ many in
    let made : Tree = with_entries (link_added tree number) dir (entry_put name number) in
    cond-true (eqb (links_at tree number) most_links) (Err EMLINK) (cond (takes_entry tree dir 0) (Ok made) (Err ENOSPC)) (eq-eqb (links_at tree number) most_links is)

fewer : (tree : Tree) (dir : ℕ) (name : List ℕ) (number : ℕ) (inode : Inode) → IsInodeAt tree number inode → inode.nlink ≢ 127
    → link tree dir name number ≡ cond (takes_entry tree dir 0) (Ok (with_entries (link_added tree number) dir (entry_put name number))) (Err ENOSPC)
fewer tree dir name number inode shows few =
    let made : Tree = with_entries (link_added tree number) dir (entry_put name number) in
    cond-false (eqb (links_at tree number) most_links) (Err EMLINK) (cond (takes_entry tree dir 0) (Ok made) (Err ENOSPC))
    (ne_eqb (links_at tree number) most_links (λ same. few (links_of tree number inode shows ∙ same)))

pub no_space : (tree : Tree) (dir : ℕ) (name : List ℕ) (number : ℕ) (inode : Inode) → IsInodeAt tree number inode → inode.nlink ≢ 127 → takes_entry tree dir 0 ≡ false → link tree dir name number ≡ Err ENOSPC
no_space tree dir name number inode shows few full =
    fewer tree dir name number inode shows few ∙ cond-false (takes_entry tree dir 0) (Ok (with_entries (link_added tree number) dir (entry_put name number))) (Err ENOSPC) full

pub linked : (tree : Tree) (dir : ℕ) (name : List ℕ) (number : ℕ) (inode : Inode) → IsInodeAt tree number inode → inode.nlink ≢ 127 → takes_entry tree dir 0 ≡ true
    → link tree dir name number ≡ Ok (with_entries (link_added tree number) dir (entry_put name number))
linked tree dir name number inode shows few room =
    fewer tree dir name number inode shows few ∙ cond-true (takes_entry tree dir 0) (Ok (with_entries (link_added tree number) dir (entry_put name number))) (Err ENOSPC) room

pub linked_stands : (heap : Heap) (fs : TreeView) (tree : Tree) (pins : ℕ → ℕ) (dir : ℕ) (name : List ℕ) (number : ℕ) → IsTree tree → is_directory tree dir ≡ true → is_in_use tree number ≡ true → is_directory tree number ≡ false → IsEntryName name → found tree dir name ≡ None
    → link tree dir name number ≡ Ok (with_entries (link_added tree number) dir (entry_put name number)) → MidWay heap fs tree (with_entries (link_added tree number) dir (entry_put name number)) pins
    → Stands heap fs (with_entries (link_added tree number) dir (entry_put name number)) pins
linked_stands heap fs tree pins dir name number is is_dir used file valid free answered mid =
    let next : Tree = with_entries (link_added tree number) dir (entry_put name number) in
    mid_stands heap fs tree next pins mid (link_keeps tree dir name number next is is_dir used file valid free answered)
    (λ slot n there leads. link_names tree dir name number next is_dir answered n.dir n.name (free_elsewhere tree dir name n free leads) ∙ leads)

-- fewer than the most there may be, where not as many
pub below_most : (disk : List (List ℕ)) (number : ℕ) (inode : Inode) → HasNode disk number inode → inode.nlink ≢ 127 → inode.nlink < 127
below_most disk number inode has other = let most = has.0.valid.kind.links in omega (arith, most, other)
