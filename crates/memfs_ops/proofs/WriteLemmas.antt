-- A file that is written, on the disk and in the tree.
use Rattle.std.proofs.Common.{◌≡◌, ◌⊎◌, ◌↔◌, ℕ, ◌<◌, ◌≤◌, ◌^◌, List, length, min, take, Result, Ok, Err, IfOk, IfErr, OnOk, refl, sym, ap, ◌∙◌, subst, inl, inr, arith}
use Rattle.std.specs.List.{All}
use Rattle.std.proofs.lemmas.Bool.{cases_lt}
use Rattle.kabi_types.specs.declared.errnos.Errno.{Errno}
use Rattle.kabi_types.specs.declared.errnos.Errno.TheVariants.{EFBIG, ENOSPC}
use Rattle.kabi_types.specs.declared.inodes.Inode.{Inode}
use Rattle.kheap_slabs.specs.Purse.{Purse}
use Rattle.kheap_slabs.specs.Heap.{Heap}
use Rattle.lru_index.specs.Order.{Order}
use Rattle.disk_layout.specs.Disk.{Disk}
use Rattle.posix_defs.specs.DiskFormat.{blocks_of, greatest_size}
use Rattle.posix_defs.specs.DiskTree.{StandsFor}
use Rattle.posix_defs.specs.DiskContents.{node_bytes}
use Rattle.posix_defs.specs.FileBytes.{fitting, overwritten, resized}
use Rattle.posix_defs.specs.SoundDisk.{HasNode}
use Rattle.posix_defs.specs.Tree.{Tree, IsInodeIn}
use Rattle.posix_defs.specs.TreeChanges.{resize, write}
use Rattle.tree_laws.proofs.FileKeeps.{write_keeps, resize_keeps}
use Rattle.tree_laws.proofs.OtherNodes.{write_names, resize_names}
use Rattle.blk_map.specs.Named.{TakesLowest}
use Rattle.blk_map.proofs.Taken.{unchanged_is_lowest}
use Rattle.memfs_file.specs.FileChange.{blocks_for, Rewrites}
use Rattle.memfs_file.proofs.OnTree.{OnTree, writes, writes_none, writes_big, sizes, sizes_none, sizes_big}
use Rattle.memfs_node.proofs.Looking.{shown}
use Rattle.memfs_node.proofs.Named.{same_others, changed_others}
use Rattle.cached_disk.specs.Lent.{parts, AreLent, GoesOn}
use Rattle.memfs_ops.specs.FileTree.{TreeView, Stands}
use Rattle.memfs_ops.specs.Fetching.{IsFile}
use Rattle.memfs_ops.specs.Changing.{Between, LagsAs, LagsTo, ChangedTo, Lags}
use Rattle.memfs_ops.proofs.ChangeLemmas.{changed_lags, lags_of, stands_all}

-- a file's inode is of a file's kind
pub file_kind : (disk : List (List ℕ)) (tree : Tree) (number : ℕ) (inode : Inode) → StandsFor disk tree → IsFile tree number → HasNode disk number inode → inode.kind ≡ 1
file_kind disk tree number inode stands file has = (subst (λ there. IsInodeIn there inode) file.there (shown disk tree number inode stands has)).kind

-- ---- what is taken, and nothing where there is no room

pub written_lowest : (before after : List (List ℕ)) (old new : Inode) (answer : Result ℕ Errno) → IfOk answer (λ count. TakesLowest before after)
    → IfErr answer (λ fault. ((fault ≡ EFBIG) ⊎ (fault ≡ ENOSPC)) × (after ≡ before) × (new ≡ old)) → TakesLowest before after
written_lowest before after old new (Ok count) ok err = ok
written_lowest before after old new (Err fault) ok err = unchanged_is_lowest before after err.1

pub sized_lowest : (before after : List (List ℕ)) (old new : Inode) (answer : Result (Unit {0}) Errno) → OnOk answer (TakesLowest before after)
    → IfErr answer (λ fault. ((fault ≡ EFBIG) ⊎ (fault ≡ ENOSPC)) × (after ≡ before) × (new ≡ old)) → TakesLowest before after
sized_lowest before after old new (Ok done) ok err = ok
sized_lowest before after old new (Err fault) ok err = unchanged_is_lowest before after err.1

-- ---- places behind the greatest size

pub same_write : (tree : Tree) (number at : ℕ) (bytes : List ℕ) → write tree number (min at 4294967295) bytes ≡ write tree number at bytes
same_write tree number at bytes = elim (cases_lt at 4294967295) [
  | inl below ↦ let same : min at 4294967295 ≡ at = omega arith in ap (λ n. write tree number n bytes) same
  | inr above ↦ writes_big tree number (min at 4294967295) bytes (omega arith) ∙ sym (writes_big tree number at bytes (omega arith))
]

pub same_resize : (tree : Tree) (number size : ℕ) → resize tree number (min size 4294967295) ≡ resize tree number size
same_resize tree number size = elim (cases_lt size 4294967295) [
  | inl below ↦ let same : min size 4294967295 ≡ size = omega arith in ap (λ n. resize tree number n) same
  | inr above ↦ sizes_big tree number (min size 4294967295) (omega arith) ∙ sym (sizes_big tree number size (omega arith))
]

module _ (old new : Heap) (before after : Purse) (was : TreeView) (blocks : Order ℕ) (disk : Disk) (on : GoesOn (parts old before was.blocks was.disk) (parts new after blocks disk)) (lent : AreLent new after blocks disk)
    (tree : Tree) (pins : ℕ → ℕ) (number : ℕ) (inode next_inode : Inode) (s : Stands old was tree pins) (file : IsFile tree number) (has : HasNode was.disk.blocks number inode) where
  there : OnTree was.disk.blocks tree number file.links file.bytes inode
  there = record { stands = s.behind; there = file.there; has = has.0 }

  abbrev now : TreeView
  now = record was { blocks = blocks; disk = disk }

  -- nothing was written
  same_lags : disk.blocks ≡ was.disk.blocks → Lags number new now tree pins
  same_lags same = changed_lags old new before after was blocks disk on lent number tree tree pins (lags_of number old was tree pins s) (same_others number was.disk.blocks disk.blocks same) (subst (λ (d : List (List ℕ)). StandsFor d tree) (sym same) s.behind) (λ slot n at leads. leads)

  -- ---- bytes are written

  done_write : (at count : ℕ) (bytes : List ℕ) → All (λ byte. byte < 2 ^ 8) bytes → at < greatest_size → count ≡ fitting (blocks_for was.disk.blocks inode) at (length bytes) → 0 < count
      → Rewrites number was.disk.blocks inode (overwritten at (take count bytes) (node_bytes was.disk.blocks inode)) disk.blocks next_inode → LagsAs number new now tree (write tree number at bytes) pins (Ok count)
  done_write at count bytes are within is some r =
      let w = writes was.disk.blocks tree number file.links file.bytes inode there at count bytes disk.blocks next_inode within is some r in
      subst (λ (led : Result (ℕ × Tree) Errno). LagsAs number new now tree led pins (Ok count)) (sym w.1) (
        refl,
        write_keeps tree number file.links at file.bytes bytes count w.0 s.is_tree file.there are w.1,
        changed_lags old new before after was blocks disk on lent number tree w.0 pins (lags_of number old was tree pins s) (changed_others number was.disk.blocks disk.blocks r.changes) w.2 (λ slot n here leads. write_names tree number at bytes count w.0 w.1 n.dir n.name ∙ leads),
      )

  failed_write : (at : ℕ) (bytes : List ℕ) (errno : Errno) → (errno ≡ EFBIG → greatest_size ≤ at) → (at < greatest_size → errno ≡ ENOSPC → fitting (blocks_for was.disk.blocks inode) at (length bytes) ≡ 0) → (errno ≡ EFBIG) ⊎ (errno ≡ ENOSPC) → (greatest_size ≤ at → errno ≡ EFBIG) → write tree number at bytes ≡ Err errno
  failed_write at bytes errno big full (inl is) far = writes_big tree number at bytes (big is) ∙ ap Err (sym is)
  failed_write at bytes errno big full (inr is) far = elim (cases_lt at greatest_size) [
    | inl within ↦ writes_none was.disk.blocks tree number file.links file.bytes inode there at bytes within (full within is) ∙ ap Err (sym is)
    | inr behind ↦ writes_big tree number at bytes behind ∙ ap Err (sym (far behind))
  ]

  pub written_lags : (at : ℕ) (bytes : List ℕ) (answer : Result ℕ Errno) → All (λ byte. byte < 2 ^ 8) bytes → IfOk answer (λ count. count ≡ fitting (blocks_for was.disk.blocks inode) at (length bytes))
      → IfOk answer (λ count. Rewrites number was.disk.blocks inode (overwritten at (take count bytes) (node_bytes was.disk.blocks inode)) disk.blocks next_inode)
      → IfErr answer (λ errno. ((errno ≡ EFBIG) ⊎ (errno ≡ ENOSPC)) × (disk.blocks ≡ was.disk.blocks) × (next_inode ≡ inode)) → (answer ≡ Err EFBIG) ↔ (greatest_size ≤ at)
      → (at < greatest_size → (answer ≡ Err ENOSPC) ↔ (fitting (blocks_for was.disk.blocks inode) at (length bytes) ≡ 0)) → LagsAs number new now tree (write tree number at bytes) pins answer
  written_lags at bytes (Ok count) are count_is r err big full =
      let within : at < greatest_size = elim (cases_lt at greatest_size) [ inl less ↦ less | inr far ↦ let is = big.1 far in absurd (cc) ] in
      let some : 0 < count = elim (cases_lt 0 count) [ inl more ↦ more | inr none ↦ let is = (full within).1 (omega (arith, none, count_is)) in absurd (cc) ] in
      done_write at count bytes are within count_is some r
  written_lags at bytes (Err errno) are count_is r err big full =
      let is : write tree number at bytes ≡ Err errno = failed_write at bytes errno (λ same. big.0 (ap Err same)) (λ within same. (full within).0 (ap Err same)) err.0 (λ far. let same = big.1 far in cc) in
      subst (λ (led : Result (ℕ × Tree) Errno). LagsAs number new now tree led pins (Err errno)) (sym is) (refl, s.is_tree, same_lags err.1)

  -- ---- another size

  done_size : (size : ℕ) → size ≤ greatest_size → blocks_of size ≤ blocks_for was.disk.blocks inode → Rewrites number was.disk.blocks inode (resized size (node_bytes was.disk.blocks inode)) disk.blocks next_inode → LagsTo number new now tree (resize tree number size) pins (Ok tt)
  done_size size within fits r =
      let w = sizes was.disk.blocks tree number file.links file.bytes inode there size disk.blocks next_inode within fits r in
      subst (λ (led : Result Tree Errno). LagsTo number new now tree led pins (Ok tt)) (sym w.1) (
        refl,
        resize_keeps tree number file.links size file.bytes w.0 s.is_tree file.there w.1,
        changed_lags old new before after was blocks disk on lent number tree w.0 pins (lags_of number old was tree pins s) (changed_others number was.disk.blocks disk.blocks r.changes) w.2 (λ slot n here leads. resize_names tree number size w.0 w.1 n.dir n.name ∙ leads),
      )

  failed_size : (size : ℕ) (errno : Errno) → (errno ≡ EFBIG → greatest_size < size) → (size ≤ greatest_size → errno ≡ ENOSPC → blocks_for was.disk.blocks inode < blocks_of size) → (errno ≡ EFBIG) ⊎ (errno ≡ ENOSPC) → (greatest_size < size → errno ≡ EFBIG) → resize tree number size ≡ Err errno
  failed_size size errno big full (inl is) far = sizes_big tree number size (big is) ∙ ap Err (sym is)
  failed_size size errno big full (inr is) far = elim (cases_lt greatest_size size) [
    | inl behind ↦ sizes_big tree number size behind ∙ ap Err (sym (far behind))
    | inr within ↦ sizes_none was.disk.blocks tree number file.links file.bytes inode there size within (full within is) ∙ ap Err (sym is)
  ]

  pub sized_lags : (size : ℕ) (answer : Result (Unit {0}) Errno) → OnOk answer (Rewrites number was.disk.blocks inode (resized size (node_bytes was.disk.blocks inode)) disk.blocks next_inode)
      → IfErr answer (λ errno. ((errno ≡ EFBIG) ⊎ (errno ≡ ENOSPC)) × (disk.blocks ≡ was.disk.blocks) × (next_inode ≡ inode)) → (answer ≡ Err EFBIG) ↔ (greatest_size < size)
      → (size ≤ greatest_size → (answer ≡ Err ENOSPC) ↔ (blocks_for was.disk.blocks inode < blocks_of size)) → LagsTo number new now tree (resize tree number size) pins answer
  sized_lags size (Ok done) r err big full =
      let within : size ≤ greatest_size = elim (cases_lt greatest_size size) [ inl far ↦ let is = big.1 far in absurd (cc) | inr less ↦ less ] in
      let fits : blocks_of size ≤ blocks_for was.disk.blocks inode = elim (cases_lt (blocks_for was.disk.blocks inode) (blocks_of size)) [ inl few ↦ let is = (full within).1 few in absurd (cc) | inr enough ↦ enough ] in
      done_size size within fits r
  sized_lags size (Err errno) r err big full =
      let is : resize tree number size ≡ Err errno = failed_size size errno (λ same. big.0 (ap Err same)) (λ within same. (full within).0 (ap Err same)) err.0 (λ far. let same = big.1 far in cc) in
      subst (λ (led : Result Tree Errno). LagsTo number new now tree led pins (Err errno)) (sym is) (refl, s.is_tree, same_lags err.1)

-- the node has its new inode
pub written_node : (number : ℕ) (was later : List (List ℕ)) (inode next : Inode) (answer : Result ℕ Errno) (bytes : ℕ → List ℕ) → HasNode was number inode → IfOk answer (λ count. Rewrites number was inode (bytes count) later next)
    → IfErr answer (λ errno. ((errno ≡ EFBIG) ⊎ (errno ≡ ENOSPC)) × (later ≡ was) × (next ≡ inode)) → HasNode later number next
written_node number was later inode next (Ok count) bytes has r err = (r.has, λ none. has.1 (sym r.fields.0 ∙ none))
written_node number was later inode next (Err errno) bytes has r err = subst (λ (d : List (List ℕ)). HasNode d number next) (sym err.1) (subst (λ (i : Inode). HasNode was number i) (sym err.2) has)

pub sized_node : (number : ℕ) (was later : List (List ℕ)) (inode next : Inode) (answer : Result (Unit {0}) Errno) (bytes : List ℕ) → HasNode was number inode → OnOk answer (Rewrites number was inode bytes later next)
    → IfErr answer (λ errno. ((errno ≡ EFBIG) ⊎ (errno ≡ ENOSPC)) × (later ≡ was) × (next ≡ inode)) → HasNode later number next
sized_node number was later inode next (Ok done) bytes has r err = (r.has, λ none. has.1 (sym r.fields.0 ∙ none))
sized_node number was later inode next (Err errno) bytes has r err = subst (λ (d : List (List ℕ)). HasNode d number next) (sym err.1) (subst (λ (i : Inode). HasNode was number i) (sym err.2) has)

-- at the end the cached inode is that of the disk
pub lags_to : (number : ℕ) (heap last : Heap) (fs end : TreeView) (tree : Tree) (led : Result Tree Errno) (pins : ℕ → ℕ) (answer : Result (Unit {0}) Errno) → LagsTo number heap fs tree led pins answer
    → ((t : Tree) → Lags number heap fs t pins → (other : ℕ) → Lags other last end t pins) → ChangedTo last end tree led pins answer
lags_to number heap last fs end tree (Ok next) pins answer is renew = (is.0, stands_all last end next pins is.1 (renew next is.2))
lags_to number heap last fs end tree (Err errno) pins answer is renew = (is.0, stands_all last end tree pins is.1 (renew tree is.2))

-- some tree is lagged for
pub some_to : (number : ℕ) (heap : Heap) (fs : TreeView) (tree : Tree) (led : Result Tree Errno) (pins : ℕ → ℕ) (answer : Result (Unit {0}) Errno) → LagsTo number heap fs tree led pins answer → (t u : Tree) × (p : ℕ → ℕ) × Between number heap fs t u p
some_to number heap fs tree (Ok next) pins answer is = (next, next, pins, is.2)
some_to number heap fs tree (Err errno) pins answer is = (tree, tree, pins, is.2)
