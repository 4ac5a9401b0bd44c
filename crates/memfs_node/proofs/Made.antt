-- A free node that is made a new one.
use Rattle.std.proofs.Common.{◌≡◌, ◌≢◌, ℕ, ◌<◌, ◌≤◌, List, [], map, refl, ap, ◌∙◌, arith}
use Rattle.std.specs.List.{range_with_len}
use Rattle.kabi_types.specs.declared.inodes.Inode.{Inode}
use Rattle.posix_defs.specs.DiskFormat.{IsOfKind}
use Rattle.posix_defs.specs.SoundDisk.{HasInode, IsFreeNode}
use Rattle.posix_defs.specs.DiskContents.{byte_at, node_bytes}
use Rattle.posix_defs.specs.Tree.{kind_of}
use Rattle.disk_laws.proofs.FormattedDisk.{one_inode}
use Rattle.blk_map.proofs.AndBack.{changes_follow}
use Rattle.memfs_node.specs.declared.making.NewNode.{NewNode}
use Rattle.memfs_node.specs.declared.making.NewNode.TheVariants as kinds
use Rattle.memfs_node.specs.NodeOnDisk.{Makes, Retags, content_of}
use Rattle.memfs_node.specs.Dots.{PutsDots}

-- ---- the kind that an inode may have

-- without bytes any kind may be
pub tag_empty : (inode : Inode) (kind links : ℕ) → IsOfKind inode → inode.size ≡ 0 → kind ≤ 4 → links ≤ 127 → (kind ≡ 0 → links ≡ 0) → IsOfKind (record inode { kind = kind; nlink = links })
tag_empty inode kind links was empty few_kinds few free = record {
  kind = few_kinds;
  links = few;
  size = was.size;
  free = λ none. (free none, empty);
  entries = λ is. omega (arith, empty);
  name = λ is. empty;
  fifo = λ is. empty;
}

-- a node in use may have any links
pub relink : (inode : Inode) (links : ℕ) → IsOfKind inode → inode.kind ≢ 0 → links ≤ 127 → IsOfKind (record inode { kind = inode.kind; nlink = links })
relink inode links was used few = record {
  kind = was.kind;
  links = few;
  size = was.size;
  free = λ none. absurd (used none);
  entries = was.entries;
  name = was.name;
  fifo = was.fifo;
}

pub new_kind : (new : NewNode) → (0 < kind_of (content_of new)) × (kind_of (content_of new) ≤ 4)
new_kind kinds.File = (omega arith, omega arith)
new_kind (kinds.Directory parent) = (omega arith, omega arith)
new_kind kinds.SocketName = (omega arith, omega arith)
new_kind kinds.Fifo = (omega arith, omega arith)

-- ---- what a free node has

pub free_inode : (disk : List (List ℕ)) (number : ℕ) (inode : Inode) → HasInode disk number inode → IsFreeNode disk number → (inode.kind ≡ 0) × (inode.size ≡ 0)
free_inode disk number inode has free =
    let none : inode.kind ≡ 0 = ap (λ (i : Inode). i.kind) (one_inode disk number inode free.0 has free.1) ∙ free.2 in
    (none, (has.valid.kind.free none).1)

pub no_bytes : (disk : List (List ℕ)) (inode : Inode) → inode.size ≡ 0 → node_bytes disk inode ≡ []
unfolding node_bytes
no_bytes disk inode empty = ap (λ (n : ℕ). map (λ (place : ℕ). byte_at disk inode place) (range_with_len 0 n)) empty

-- ---- a new node

pub record Tagging (number : ℕ) (before : List (List ℕ)) (old : Inode) (kind : ℕ) (between : List (List ℕ)) (inode : Inode) : Type 0 where
  pub has : HasInode before number old
  pub free : IsFreeNode before number
  pub retags : Retags number before old kind 1 between inode

module _ (number : ℕ) (before : List (List ℕ)) (old : Inode) (kind : ℕ) (between : List (List ℕ)) (inode : Inode) (t : Tagging number before old kind between inode) where
  had : (old.kind ≡ 0) × (old.size ≡ 0)
  had = free_inode before number old t.has t.free

  kind_is : inode.kind ≡ kind
  kind_is = ap (λ (i : Inode). i.kind) t.retags.fields

  links_is : inode.nlink ≡ 1
  links_is = ap (λ (i : Inode). i.nlink) t.retags.fields

  pub size_is : inode.size ≡ 0
  size_is = ap (λ (i : Inode). i.size) t.retags.fields ∙ had.1

  file : kind ≡ 1 → Makes number before (content_of kinds.File) between inode
  file is = record {
    changes = t.retags.changes;
    has = t.retags.has;
    shows = record { kind = kind_is ∙ is; links = links_is; size = size_is };
    holds = no_bytes between inode size_is;
    free = omega (arith, t.retags.free);
  }

  socket : kind ≡ 3 → Makes number before (content_of kinds.SocketName) between inode
  socket is = record {
    changes = t.retags.changes;
    has = t.retags.has;
    shows = record { kind = kind_is ∙ is; links = links_is; size = size_is };
    holds = tt;
    free = omega (arith, t.retags.free);
  }

  fifo : kind ≡ 4 → Makes number before (content_of kinds.Fifo) between inode
  fifo is = record {
    changes = t.retags.changes;
    has = t.retags.has;
    shows = record { kind = kind_is ∙ is; links = links_is; size = size_is };
    holds = tt;
    free = omega (arith, t.retags.free);
  }

  -- one that takes no block is there
  pub made_plain : (new : NewNode) → kind ≡ kind_of (content_of new) → ((parent : ℕ) → new ≢ kinds.Directory parent) → Makes number before (content_of new) between inode
  made_plain kinds.File is other = file is
  made_plain (kinds.Directory parent) is other = absurd (other parent refl)
  made_plain kinds.SocketName is other = socket is
  made_plain kinds.Fifo is other = fifo is

  -- a directory gets its first entries
  pub made_node : (parent : ℕ) (after : List (List ℕ)) (new : Inode) → kind ≡ 2 → PutsDots number between inode parent after new → Makes number before (content_of (kinds.Directory parent)) after new
  made_node parent after new is puts = record {
    changes = changes_follow number before between after t.retags.changes puts.changes;
    has = puts.has;
    shows = record { kind = puts.list.kind; links = puts.links ∙ links_is; size = puts.size };
    holds = puts.list;
    free = omega (arith, puts.free, t.retags.free);
  }
