-- The room of a directory on the disk is that of the tree.
use Rattle.std.proofs.Common.{◌≡◌, ℕ, ◌+◌, ◌-◌, ◌<◌, ◌≤◌, Bool, false, ◌&&◌, ltb, leb, ◌⊎◌, inl, inr, List, Option, Some, None, sym, ap, subst, ◌∙◌, ◌↔◌, arith}
use Rattle.std.proofs.lemmas.Bool.{cases_lt, lt-ltb, le-ltb, lt-leb, leb-false}
use Rattle.kabi_types.specs.declared.inodes.Inode.{Inode}
use Rattle.posix_defs.specs.DiskFormat.{greatest_size, table_nodes, blocks_of}
use Rattle.posix_defs.specs.SoundDisk.{HasNode, free_in_map}
use Rattle.posix_defs.specs.Tree.{Node, Tree, node_at, size_in, size_at, free_blocks}
use Rattle.posix_defs.specs.TreeChanges.{takes_entry}
use Rattle.posix_defs.specs.DiskTree.{HasThere, StandsFor}
use Rattle.disk_laws.proofs.FormattedDisk.{one_inode}
use Rattle.disk_laws.proofs.DiskStands.{free_in_tree}
use Rattle.memfs_dir.specs.Listed.{IsFull, IsFullBeside}

size_there : (disk : List (List ℕ)) (number : ℕ) (there : Option Node) (inode : Inode) → HasThere disk number there → HasNode disk number inode → size_in there ≡ inode.size
size_there disk number None inode free has = absurd (has.1 (ap (λ (i : Inode). i.kind) (one_inode disk number inode free.0 has.0 free.1) ∙ free.2))
size_there disk number (Some node) inode is has = sym is.shows.size ∙ ap (λ (i : Inode). i.size) (one_inode disk number is.inode inode is.has has.0)

no_room : (size growth free : ℕ) → size ≤ greatest_size → ((size ≡ greatest_size) ⊎ (free < growth)) ↔ (ltb size greatest_size && leb growth free ≡ false)
no_room size growth free most = (
  λ full. elim (cases_lt size greatest_size) [
    | inl lt ↦
        let few : free < growth = elim full [ inl e ↦ absurd (omega (arith, e, lt)) | inr less ↦ less ] in
        ap (λ (b : Bool). b && leb growth free) (lt-ltb size greatest_size lt) ∙ lt-leb growth free few
    | inr past ↦ ap (λ (b : Bool). b && leb growth free) (le-ltb size greatest_size past)
  ],
  λ none. elim (cases_lt size greatest_size) [
    | inl lt ↦ inr (leb-false growth free (sym (ap (λ (b : Bool). b && leb growth free) (lt-ltb size greatest_size lt)) ∙ none))
    | inr past ↦ inl (omega (arith, past, most))
  ],
)

pub full_beside : (disk : List (List ℕ)) (tree : Tree) (number beside : ℕ) (inode : Inode) → StandsFor disk tree → HasNode disk number inode → IsFullBeside disk inode beside ↔ (takes_entry tree number beside ≡ false)
full_beside disk tree number beside inode stands has =
    let within : number ≤ table_nodes tree.blocks = subst (λ (n : ℕ). number ≤ table_nodes n) stands.blocks has.0.number.1 in
    let size : size_at tree number ≡ inode.size = size_there disk number (node_at tree number) inode (stands.each number has.0.number.0 within) has in
    let free : free_in_map disk ≡ free_blocks tree = free_in_tree disk tree stands in
    let P : ℕ → ℕ → Type 0 = λ s f. IsFullBeside disk inode beside ↔ (ltb s greatest_size && leb (blocks_of (s + 32) - blocks_of s + beside) f ≡ false) in
    subst (λ (s : ℕ). P s (free_blocks tree)) (sym size) (
    subst (λ (f : ℕ). P inode.size f) free (no_room inode.size (blocks_of (inode.size + 32) - blocks_of inode.size + beside) (free_in_map disk) has.0.valid.kind.size)
    )

-- with no block beside it
alone : (disk : List (List ℕ)) (inode : Inode) → IsFull disk inode ↔ IsFullBeside disk inode 0
alone disk inode = (
  λ full. elim full [ inl most ↦ inl most | inr few ↦ inr (omega (arith, few)) ],
  λ full. elim full [ inl most ↦ inl most | inr few ↦ inr (omega (arith, few)) ],
)

pub full_in_tree : (disk : List (List ℕ)) (tree : Tree) (number : ℕ) (inode : Inode) → StandsFor disk tree → HasNode disk number inode → IsFull disk inode ↔ (takes_entry tree number 0 ≡ false)
full_in_tree disk tree number inode stands has =
    let both = full_beside disk tree number 0 inode stands has in
    (λ full. both.0 ((alone disk inode).0 full), λ none. (alone disk inode).1 (both.1 none))
