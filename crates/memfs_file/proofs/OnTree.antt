-- A disk that stands for a tree, after a file of it was written.
use Rattle.std.proofs.Common.{◌≡◌, ℕ, ◌+◌, ◌<◌, ◌≤◌, cond, List, length, take, eqb, ltb, leb, Option, Some, Result, Ok, Err, sym, ap, subst, ◌∙◌, arith}
use Rattle.std.specs.Option.{option_map}
use Rattle.std.proofs.lemmas.Bool.{cond-true, cond-false, le-leb, lt-leb, lt-ltb, le-ltb, ne_eqb}
use Rattle.kabi_types.specs.declared.errnos.Errno.{Errno}
use Rattle.kabi_types.specs.declared.errnos.Errno.TheVariants.{EFBIG, ENOSPC}
use Rattle.kabi_types.specs.declared.inodes.Inode.{Inode}
use Rattle.posix_defs.specs.DiskFormat.{greatest_size, table_nodes, blocks_of}
use Rattle.posix_defs.specs.FileBytes.{fitting, overwritten, resized}
use Rattle.posix_defs.specs.SoundDisk.{HasInode, free_in_map}
use Rattle.posix_defs.specs.DiskContents.{node_bytes}
use Rattle.posix_defs.specs.DiskTree.{HasNodeOf, HasThere, StandsFor}
use Rattle.posix_defs.specs.Tree.{File, Node, Tree, node_at, with_node, size_at, size_in}
use Rattle.posix_defs.specs.TreeChanges as trees
use Rattle.posix_defs.specs.TreeChanges.{with_bytes, with_bytes_in, write, resize}
use Rattle.disk_laws.proofs.DiskStands.{changed_stands, free_in_tree}
use Rattle.disk_laws.proofs.FormattedDisk.{one_inode}
use Rattle.memfs_file.specs.FileChange.{blocks_for, Rewrites}

-- the disk stands for a tree that has a file under a number, and has this inode for it
pub record OnTree (disk : List (List ℕ)) (tree : Tree) (number links : ℕ) (was : List ℕ) (inode : Inode) : Type 0 where
  pub stands : StandsFor disk tree
  pub there : node_at tree number ≡ Some (record { links = links; content = File was })
  pub has : HasInode disk number inode

module _ (disk : List (List ℕ)) (tree : Tree) (number links : ℕ) (was : List ℕ) (inode : Inode) (on : OnTree disk tree number links was inode) where
  place : (0 < number) × (number ≤ table_nodes tree.blocks)
  place = (on.has.number.0, subst (λ (n : ℕ). number ≤ table_nodes n) on.stands.blocks on.has.number.1)

  here : HasNodeOf disk number (record { links = links; content = File was })
  here = subst (HasThere disk number) on.there (on.stands.each number place.0 place.1)

  same : inode ≡ here.inode
  same = one_inode disk number inode here.inode on.has here.has

  pub its_bytes : node_bytes disk inode ≡ was
  its_bytes = ap (λ (i : Inode). node_bytes disk i) same ∙ here.content

  size : inode.size ≡ size_at tree number
  size = ap (λ (i : Inode). i.size) same ∙ here.shows.size ∙ sym (ap size_in on.there)

  room : blocks_for disk inode ≡ trees.blocks_for tree number
  room = ap (λ (n : ℕ). blocks_of n + free_in_map disk) size ∙ ap (λ (n : ℕ). blocks_of (size_at tree number) + n) (free_in_tree disk tree on.stands)

  -- the disk with other bytes stands for the tree with them
  stands_after : (change : List ℕ → List ℕ) (after : List (List ℕ)) (new : Inode) → Rewrites number disk inode (change (node_bytes disk inode)) after new → StandsFor after (with_bytes tree number change)
  stands_after change after new r =
      let node : Node = record { links = links; content = File (change was) } in
      let is : with_bytes tree number change ≡ with_node tree number (Some node) =
      ap (λ (there : Option Node). with_node tree number (option_map {T = Node} (λ n. record n { content = with_bytes_in change n.content }) there)) on.there in
      let has : HasNodeOf after number node = record {
        inode = new;
        has = r.has;
        shows = record {
          kind = r.fields.0 ∙ ap (λ (i : Inode). i.kind) same ∙ here.shows.kind;
          links = r.fields.1 ∙ ap (λ (i : Inode). i.nlink) same ∙ here.shows.links;
          size = r.fields.2 ∙ ap (λ (bytes : List ℕ). length (change bytes)) its_bytes;
        };
        content = r.holds ∙ ap change its_bytes;
      } in
      subst (λ (t : Tree). StandsFor after t) (sym is) (changed_stands disk after tree number (Some node) on.stands r.changes place.0 place.1 has)

  -- ---- a write

  abbrev rest_of_write : ℕ → List ℕ → ℕ → Result (ℕ × Tree) Errno
  rest_of_write at bytes n = cond (eqb n 0) (Err ENOSPC) (Ok (n, with_bytes tree number (overwritten at (take n bytes))))

  below : (at : ℕ) (bytes : List ℕ) → at < greatest_size → write tree number at bytes ≡ rest_of_write at bytes (fitting (blocks_for disk inode) at (length bytes))
  below at bytes lt = cond-false (leb greatest_size at) (Err EFBIG) (rest_of_write at bytes (fitting (trees.blocks_for tree number) at (length bytes))) (lt-leb greatest_size at lt)
      ∙ ap (λ (blocks : ℕ). rest_of_write at bytes (fitting blocks at (length bytes))) (sym room)

  pub writes : (at count : ℕ) (bytes : List ℕ) (after : List (List ℕ)) (new : Inode) → at < greatest_size → count ≡ fitting (blocks_for disk inode) at (length bytes) → 0 < count
      → Rewrites number disk inode (overwritten at (take count bytes) (node_bytes disk inode)) after new → (written : Tree) × (write tree number at bytes ≡ Ok (count, written)) × StandsFor after written
  writes at count bytes after new lt is some r =
      let made : ℕ × Tree = (count, with_bytes tree number (overwritten at (take count bytes))) in (
        with_bytes tree number (overwritten at (take count bytes)),
        below at bytes lt ∙ ap (rest_of_write at bytes) (sym is) ∙ cond-false (eqb count 0) (Err ENOSPC) (Ok made) (ne_eqb count 0 (λ e. omega (arith, e, some))),
        stands_after (overwritten at (take count bytes)) after new r,
      )

  pub writes_none : (at : ℕ) (bytes : List ℕ) → at < greatest_size → fitting (blocks_for disk inode) at (length bytes) ≡ 0 → write tree number at bytes ≡ Err ENOSPC
  writes_none at bytes lt none =
      below at bytes lt ∙ ap (rest_of_write at bytes) none

  -- ---- another size

  abbrev rest_of_resize : ℕ → ℕ → Result Tree Errno
  rest_of_resize size blocks = cond (ltb blocks (blocks_of size)) (Err ENOSPC) (Ok (with_bytes tree number (resized size)))

  within : (size : ℕ) → size ≤ greatest_size → resize tree number size ≡ rest_of_resize size (blocks_for disk inode)
  within size le = cond-false (ltb greatest_size size) (Err EFBIG) (rest_of_resize size (trees.blocks_for tree number)) (le-ltb greatest_size size le) ∙ ap (rest_of_resize size) (sym room)

  pub sizes : (size : ℕ) (after : List (List ℕ)) (new : Inode) → size ≤ greatest_size → blocks_of size ≤ blocks_for disk inode → Rewrites number disk inode (resized size (node_bytes disk inode)) after new
      → (sized : Tree) × (resize tree number size ≡ Ok sized) × StandsFor after sized
  sizes size after new le fits r =
      let made : Tree = with_bytes tree number (resized size) in
      (made, within size le ∙ cond-false (ltb (blocks_for disk inode) (blocks_of size)) (Err ENOSPC) (Ok made) (le-ltb (blocks_for disk inode) (blocks_of size) fits), stands_after (resized size) after new r)

  pub sizes_none : (size : ℕ) → size ≤ greatest_size → blocks_for disk inode < blocks_of size → resize tree number size ≡ Err ENOSPC
  sizes_none size le full =
      within size le ∙ cond-true (ltb (blocks_for disk inode) (blocks_of size)) (Err ENOSPC) (Ok (with_bytes tree number (resized size))) (lt-ltb (blocks_for disk inode) (blocks_of size) full)

pub writes_big : (tree : Tree) (number at : ℕ) (bytes : List ℕ) → greatest_size ≤ at → write tree number at bytes ≡ Err EFBIG
writes_big tree number at bytes le =
    let n : ℕ = fitting (trees.blocks_for tree number) at (length bytes) in
    cond-true (leb greatest_size at) (Err EFBIG) (cond (eqb n 0) (Err ENOSPC) (Ok (n, with_bytes tree number (overwritten at (take n bytes))))) (le-leb greatest_size at le)

pub sizes_big : (tree : Tree) (number size : ℕ) → greatest_size < size → resize tree number size ≡ Err EFBIG
sizes_big tree number size lt =
    cond-true (ltb greatest_size size) (Err EFBIG) (cond (ltb (trees.blocks_for tree number) (blocks_of size)) (Err ENOSPC) (Ok (with_bytes tree number (resized size)))) (lt-ltb greatest_size size lt)
