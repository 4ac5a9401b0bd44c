-- What is found under a name of the tree is what a look on its disk finds.
use Rattle.std.proofs.Common.{◌≡◌, ◌≢◌, ℕ, ◌≤◌, false, ◌↔◌, inl, inr, List, [], ◌∷◌, Option, Some, None, sym, ap, subst, ◌∙◌, arith}
use Rattle.std.specs.Option.{option_map}
use Rattle.std.specs.List.{find}
use Rattle.std.proofs.lemmas.Bool.{cases_Bool, cond-true, cond-false, both_ways}
use Rattle.std.proofs.lemmas.Option.{none-some, same_Some}
use Rattle.std.proofs.lemmas.Slice.Eq.{bytes_eq-Decides}
use Rattle.kabi_types.specs.declared.inodes.DirEntry.{DirEntry}
use Rattle.kabi_types.specs.declared.inodes.Inode.{Inode}
use Rattle.posix_defs.specs.DiskFormat.{table_nodes}
use Rattle.posix_defs.specs.SoundDisk.{HasInode}
use Rattle.posix_defs.specs.DiskContents.{Finds, HasEntries, entry_for, own_name, parent_name}
use Rattle.disk_laws.specs.TrueCaches.{HasName}
use Rattle.posix_defs.specs.Tree.{Content, File, Directory, SocketName, Fifo, Node, Tree, node_at, entries_in, entries_at, parent_in, has_name, found_among, found}
use Rattle.posix_defs.specs.DiskTree.{HasNodeOf, HasThere, StandsFor}
use Rattle.disk_laws.proofs.FormattedDisk.{one_inode}
use Rattle.disk_laws.proofs.DirectoryEntries.{one_list}
use Rattle.posix_defs.proofs.TreeNodes.{directory_number, found_in_directory}

-- the first entry that has a name, by a test or by cases
finds : (entries : List DirEntry) (name : List ℕ) (node : ℕ) → found_among entries name ≡ Some node → Finds entries name node
finds [] name node at = absurd (none-some node at)
finds (entry ∷ entries) name node at =
    elim (cases_Bool (has_name name entry)) [
      | inl here ↦ inl ((bytes_eq-Decides entry.name name).0 here, same_Some entry.node node (sym (ap (option_map (λ e. e.node)) (cond-true (has_name name entry) (Some entry) (find (has_name name) entries) here)) ∙ at))
      | inr not_here ↦ inr (
        λ same. both_ways (has_name name entry) not_here ((bytes_eq-Decides entry.name name).1 same),
        finds entries name node (sym (ap (option_map (λ e. e.node)) (cond-false (has_name name entry) (Some entry) (find (has_name name) entries) not_here)) ∙ at),
      )
    ]

found_first : (entries : List DirEntry) (name : List ℕ) (node : ℕ) → Finds entries name node → found_among entries name ≡ Some node
found_first [] name node at = absurd at
found_first (entry ∷ entries) name node at =
    elim at [
      | inl here ↦ ap (option_map (λ e. e.node)) (cond-true (has_name name entry) (Some entry) (find (has_name name) entries) ((bytes_eq-Decides entry.name name).1 here.0)) ∙ ap Some here.1
      | inr further ↦
          let not_here : has_name name entry ≡ false = elim (cases_Bool (has_name name entry)) [ inl here ↦ absurd (further.0 ((bytes_eq-Decides entry.name name).0 here)) | inr off ↦ off ] in
          ap (option_map (λ e. e.node)) (cond-false (has_name name entry) (Some entry) (find (has_name name) entries) not_here) ∙ found_first entries name node further.1
    ]

-- all entries of a directory, `.` and `..` first
abbrev all_entries : ℕ → Option Node → List DirEntry
all_entries dir there = entry_for dir own_name ∷ entry_for (parent_in there) parent_name ∷ entries_in there

-- what the disk has of a directory are the tree's entries
content_entries : (disk : List (List ℕ)) (dir : ℕ) (links : ℕ) (content : Content) (inode : Inode) (entries : List DirEntry) → HasNodeOf disk dir (record { links = links; content = content }) → HasInode disk dir inode
    → HasEntries disk inode entries → entries ≡ all_entries dir (Some (record { links = links; content = content }))
content_entries disk dir links (File bytes) inode entries has at list =
    let same : inode.kind ≡ has.inode.kind = ap (λ (i : Inode). i.kind) (one_inode disk dir inode has.inode at has.has) in
    absurd (omega (arith, same, has.shows.kind, list.kind))
content_entries disk dir links (Directory parent es) inode entries has at list =
    one_list disk inode entries (all_entries dir (Some (record { links = links; content = Directory parent es }))) list
    (subst (λ (i : Inode). HasEntries disk i (all_entries dir (Some (record { links = links; content = Directory parent es })))) (sym (one_inode disk dir inode has.inode at has.has)) has.content)
content_entries disk dir links SocketName inode entries has at list =
    let same : inode.kind ≡ has.inode.kind = ap (λ (i : Inode). i.kind) (one_inode disk dir inode has.inode at has.has) in
    absurd (omega (arith, same, has.shows.kind, list.kind))
content_entries disk dir links Fifo inode entries has at list =
    let same : inode.kind ≡ has.inode.kind = ap (λ (i : Inode). i.kind) (one_inode disk dir inode has.inode at has.has) in
    absurd (omega (arith, same, has.shows.kind, list.kind))

there_entries : (disk : List (List ℕ)) (dir : ℕ) (there : Option Node) (inode : Inode) (entries : List DirEntry) → HasThere disk dir there → HasInode disk dir inode → HasEntries disk inode entries → entries ≡ all_entries dir there
there_entries disk dir None inode entries free at list =
    let same : inode.kind ≡ free.0.kind = ap (λ (i : Inode). i.kind) (one_inode disk dir inode free.0 at free.1) in
    absurd (omega (arith, same, free.2, list.kind))
there_entries disk dir (Some node) inode entries has at list = content_entries disk dir node.links node.content inode entries has at list

-- a directory of the tree is one of the disk
directory_there : (disk : List (List ℕ)) (dir : ℕ) (there : Option Node) (name : List ℕ) (node : ℕ) → HasThere disk dir there → found_among (entries_in there) name ≡ Some node → name ≢ own_name → name ≢ parent_name → HasName disk dir name node
directory_there disk dir None name node has at not_own not_parent = absurd (none-some node at)
directory_there disk dir (Some there) name node has at not_own not_parent = by_content there.links there.content has at
  where
    by_content : (links : ℕ) (content : Content) → HasNodeOf disk dir (record { links = links; content = content }) → found_among (entries_in (Some (record { links = links; content = content }))) name ≡ Some node
        → HasName disk dir name node
    by_content links (File bytes) has at = absurd (none-some node at)
    by_content links (Directory parent entries) has at = record {
      inode = has.inode;
      entries = entry_for dir own_name ∷ entry_for parent parent_name ∷ entries;
      has = has.has;
      list = has.content;
      found = inr (λ same. not_own (sym same), inr (λ same. not_parent (sym same), finds entries name node at));
    }
    by_content links SocketName has at = absurd (none-some node at)
    by_content links Fifo has at = absurd (none-some node at)

pub names_agree : (disk : List (List ℕ)) (tree : Tree) (dir : ℕ) (name : List ℕ) (node : ℕ) → StandsFor disk tree → name ≢ own_name → name ≢ parent_name → (found tree dir name ≡ Some node) ↔ HasName disk dir name node
names_agree disk tree dir name node stands not_own not_parent = (
  λ at.
      let number = directory_number tree dir (found_in_directory tree dir name node at) in
      directory_there disk dir (node_at tree dir) name node (stands.each dir number.above (subst (λ (n : ℕ). dir ≤ n) stands.count number.within)) at not_own not_parent,
  λ has.
      let within : dir ≤ table_nodes tree.blocks = subst (λ (n : ℕ). dir ≤ table_nodes n) stands.blocks has.has.number.1 in
      let list : has.entries ≡ all_entries dir (node_at tree dir) = there_entries disk dir (node_at tree dir) has.inode has.entries (stands.each dir has.has.number.0 within) has.has has.list in
      let first : Finds (all_entries dir (node_at tree dir)) name node = subst (λ (es : List DirEntry). Finds es name node) list has.found in
      elim first [
        | inl own ↦ absurd (not_own (sym own.0))
        | inr behind ↦ elim behind.1 [
          | inl parent ↦ absurd (not_parent (sym parent.0))
          | inr further ↦ found_first (entries_at tree dir) name node further.1
        ]
      ],
)
