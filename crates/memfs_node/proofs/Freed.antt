-- A node that is freed.
use Rattle.std.proofs.Common.{◌≡◌, ◌≢◌, ℕ, inl, inr, List, refl, ap, arith}
use Rattle.std.proofs.lemmas.Bool.{cases_eq}
use Rattle.kabi_types.specs.declared.inodes.Inode.{Inode}
use Rattle.posix_defs.specs.DiskFormat.{IsOfKind, blocks_of}
use Rattle.posix_defs.specs.SoundDisk.{HasInode, Sound}
use Rattle.posix_defs.specs.NodeChange.{Resizes}
use Rattle.blk_map.specs.Named.{MayHaveSize}
use Rattle.blk_map.proofs.AndBack.{changes_follow}
use Rattle.memfs_file.proofs.Written.{nothing_changes}
use Rattle.memfs_node.specs.NodeOnDisk.{Empties, Frees, Retags}

-- a node that has bytes is a file or a directory
pub may_shrink : (inode : Inode) → IsOfKind inode → inode.kind ≢ 0 → inode.size ≢ 0 → MayHaveSize inode.kind 0
may_shrink inode is used some = elim (cases_eq inode.kind 1) [
  | inl file ↦ inl file
  | inr other ↦ elim (cases_eq inode.kind 2) [
    | inl directory ↦ inr (directory, refl)
    | inr neither ↦ elim (cases_eq inode.kind 3) [
      | inl name ↦ absurd (some (is.name name))
      | inr last ↦ absurd (some (is.fifo (omega (arith, is.kind, used, other, neither, last))))
    ]
  ]
]

pub was_empty : (disk : List (List ℕ)) (number : ℕ) (inode : Inode) → Sound disk → HasInode disk number inode → inode.size ≡ 0 → Empties number disk inode disk inode
was_empty disk number inode sound has empty =
    let none : blocks_of inode.size ≡ 0 = ap blocks_of empty in
    record { changes = nothing_changes disk number sound; has = has; size = empty; free = omega (arith, none) }

pub shrunk : (number : ℕ) (before : List (List ℕ)) (old : Inode) (after : List (List ℕ)) (new : Inode) → Resizes number before old 0 after new → Empties number before old after new
shrunk number before old after new r = record { changes = r.changes; has = r.has; size = r.fields.2; free = omega (arith, r.free) }

pub freed : (number : ℕ) (before : List (List ℕ)) (old : Inode) (between : List (List ℕ)) (left : Inode) (after : List (List ℕ)) (new : Inode) → Empties number before old between left
    → Retags number between left 0 0 after new → Frees number before old after
freed number before old between left after new empty r = record {
  changes = changes_follow number before between after empty.changes r.changes;
  gone = (new, r.has, ap (λ (i : Inode). i.kind) r.fields);
  free = omega (arith, r.free, empty.free);
}
