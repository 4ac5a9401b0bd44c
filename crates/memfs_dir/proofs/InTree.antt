-- What a call makes of a directory's list is what the tree that the disk stands for makes of its entries.
use Rattle.std.proofs.Common.{◌≡◌, ◌≢◌, ℕ, suc, ◌+◌, ◌*◌, ◌/◌, ◌<◌, ◌≤◌, true, List, [], ◌∷◌, ◌++◌, get_or, set, take, drop, slice_get, Option, None, Some, refl, sym, ap, subst, ◌∙◌, arith}
use Rattle.std.specs.List.{swap_remove}
use Rattle.std.specs.Option.{option_map}
use Rattle.std.proofs.lemmas.Option.{none-some, same_Some, slice_get-get_or}
use Rattle.kabi_types.specs.declared.inodes.Inode.{Inode}
use Rattle.kabi_types.specs.declared.inodes.DirEntry.{DirEntry}
use Rattle.posix_defs.specs.DiskFormat.{table_nodes}
use Rattle.posix_defs.specs.SoundDisk.{HasNode}
use Rattle.posix_defs.specs.DiskContents.{HasEntries, entry_for, node_bytes, own_name, parent_name}
use Rattle.posix_defs.specs.PathCalls.{list_node}
use Rattle.posix_defs.specs.DiskTree.{HasNodeOf, HasThere, StandsFor}
use Rattle.posix_defs.specs.Tree.{Directory, Node, Tree, node_at, with_node, is_directory, links_at, entries_at, parent_at, found}
use Rattle.posix_defs.specs.TreeChanges.{no_entry, place_of, entry_put, entry_taken, entry_aimed, entry_renamed, with_entries, hung, under}
use Rattle.disk_laws.proofs.FormattedDisk.{one_inode}
use Rattle.disk_laws.proofs.DirectoryEntries.{one_list, size_of_entries}
use Rattle.disk_laws.proofs.DiskStands.{changed_stands}
use Rattle.tree_laws.proofs.EntryLists.{stands_at}
use Rattle.posix_defs.proofs.TreeNodes.{directory_number}
use Rattle.tree_laws.proofs.TreeSteps.{directory_is, listing, with_entries_is}
use Rattle.memfs_dir.specs.Listed.{Relists, place_called}
use Rattle.memfs_dir.proofs.Dots.{whole, found_behind, missing_behind, set_behind, taken_behind}

-- the whole list of a directory of the tree
abbrev pub listed : Tree → ℕ → List DirEntry
listed tree dir = whole dir (parent_at tree dir) (entries_at tree dir)

-- a directory of the tree on its disk
pub record OnDisk (disk : List (List ℕ)) (tree : Tree) (dir : ℕ) (inode : Inode) : Type 0 where
  pub above : 0 < dir
  pub within : dir ≤ table_nodes tree.blocks
  pub links : inode.nlink ≡ links_at tree dir
  pub list : HasEntries disk inode (listed tree dir)

pub on_disk : (disk : List (List ℕ)) (tree : Tree) (dir : ℕ) (inode : Inode) → StandsFor disk tree → is_directory tree dir ≡ true → HasNode disk dir inode → OnDisk disk tree dir inode
on_disk disk tree dir inode stands is has =
    let number = directory_number tree dir is in
    let within : dir ≤ table_nodes tree.blocks = subst (λ (n : ℕ). dir ≤ n) stands.count number.within in
    let there : HasNodeOf disk dir (listing tree dir (entries_at tree dir)) = subst (λ (o : Option Node). HasThere disk dir o) (directory_is (node_at tree dir) is) (stands.each dir number.above within) in
    let same : there.inode ≡ inode = one_inode disk dir there.inode inode there.has has.0 in
    record {
      above = number.above;
      within = within;
      links = ap (λ (i : Inode). i.nlink) (sym same) ∙ there.shows.links;
      list = subst (λ (i : Inode). HasEntries disk i (listed tree dir)) same there.content;
    }

changed : (before after : List (List ℕ)) (tree : Tree) (dir parent : ℕ) (entries : List DirEntry) (old new : Inode) (change : List DirEntry → List DirEntry) → StandsFor before tree → is_directory tree dir ≡ true
    → HasNode before dir old → Relists dir before old change after new → change (listed tree dir) ≡ whole dir parent entries
    → StandsFor after (with_node tree dir (Some (record { links = links_at tree dir; content = Directory parent entries })))
changed before after tree dir parent entries old new change stands is has r to =
    let was = on_disk before tree dir old stands is has in
    let now : HasEntries after new (whole dir parent entries) = subst (λ (es : List DirEntry). HasEntries after new es) to (r.list (listed tree dir) was.list) in
    let size = size_of_entries after new (whole dir parent entries) now in
    let there : HasNodeOf after dir (record { links = links_at tree dir; content = Directory parent entries }) = record {
      inode = new;
      has = r.has.0;
      shows = record { kind = now.kind; links = r.links ∙ was.links; size = omega (arith, size) };
      content = now;
    } in
    changed_stands before after tree dir (Some (record { links = links_at tree dir; content = Directory parent entries })) stands r.changes was.above was.within there

-- the same where the change is one of the entries behind the dots
relisted : (before after : List (List ℕ)) (tree : Tree) (dir : ℕ) (old new : Inode) (change behind : List DirEntry → List DirEntry) → StandsFor before tree → is_directory tree dir ≡ true → HasNode before dir old
    → Relists dir before old change after new → change (listed tree dir) ≡ whole dir (parent_at tree dir) (behind (entries_at tree dir)) → StandsFor after (with_entries tree dir behind)
relisted before after tree dir old new change behind stands is has r to =
    subst (λ (t : Tree). StandsFor after t) (sym (with_entries_is tree dir behind is)) (changed before after tree dir (parent_at tree dir) (behind (entries_at tree dir)) old new change stands is has r to)

pub put_in_tree : (before after : List (List ℕ)) (tree : Tree) (dir node : ℕ) (old new : Inode) (name : List ℕ) → StandsFor before tree → is_directory tree dir ≡ true → HasNode before dir old
    → Relists dir before old (λ entries. entries ++ entry_for node name ∷ []) after new → StandsFor after (with_entries tree dir (entry_put name node))
put_in_tree before after tree dir node old new name stands is has r =
    relisted before after tree dir old new (λ entries. entries ++ entry_for node name ∷ []) (entry_put name node) stands is has r refl

pub taken_from_tree : (before after : List (List ℕ)) (tree : Tree) (dir node place : ℕ) (old new : Inode) (name : List ℕ) → StandsFor before tree → is_directory tree dir ≡ true → HasNode before dir old
    → found tree dir name ≡ Some node → place ≡ place_of name (entries_at tree dir) + 2 → Relists dir before old (λ entries. swap_remove entries place no_entry) after new
    → StandsFor after (with_entries tree dir (entry_taken name))
taken_from_tree before after tree dir node place old new name stands is has there at r =
    relisted before after tree dir old new (λ entries. swap_remove entries place no_entry) (entry_taken name) stands is has r
    (ap (λ (p : ℕ). swap_remove (listed tree dir) p no_entry) at ∙ taken_behind dir (parent_at tree dir) (entries_at tree dir) name (stands_at (entries_at tree dir) name node there).within)

set_in_tree : (before after : List (List ℕ)) (tree : Tree) (dir place at : ℕ) (entry : DirEntry) (old new : Inode) → StandsFor before tree → is_directory tree dir ≡ true → HasNode before dir old → place ≡ at + 2
    → Relists dir before old (λ entries. set entries place entry) after new → StandsFor after (with_entries tree dir (λ entries. set entries at entry))
set_in_tree before after tree dir place at entry old new stands is has same r =
    relisted before after tree dir old new (λ entries. set entries place entry) (λ entries. set entries at entry) stands is has r
    (ap (λ (p : ℕ). set (listed tree dir) p entry) same ∙ set_behind dir (parent_at tree dir) (entries_at tree dir) at entry)

-- two changes that do the same to the entries that are there
same_there : (tree : Tree) (dir : ℕ) (one other : List DirEntry → List DirEntry) → is_directory tree dir ≡ true → one (entries_at tree dir) ≡ other (entries_at tree dir) → with_entries tree dir one ≡ with_entries tree dir other
same_there tree dir one other is same =
    with_entries_is tree dir one is ∙ ap (λ (es : List DirEntry). with_node tree dir (Some (listing tree dir es))) same ∙ sym (with_entries_is tree dir other is)

pub aimed_in_tree : (before after : List (List ℕ)) (tree : Tree) (dir node place : ℕ) (old new : Inode) (name : List ℕ) → StandsFor before tree → is_directory tree dir ≡ true → HasNode before dir old
    → place ≡ place_of name (entries_at tree dir) + 2 → Relists dir before old (λ entries. set entries place (entry_for node name)) after new → StandsFor after (with_entries tree dir (entry_aimed name node))
aimed_in_tree before after tree dir node place old new name stands is has at r =
    let there : ℕ = place_of name (entries_at tree dir) in
    subst (λ (t : Tree). StandsFor after t) (same_there tree dir (λ entries. set entries there (entry_for node name)) (entry_aimed name node) is refl)
    (set_in_tree before after tree dir place there (entry_for node name) old new stands is has at r)

pub renamed_in_tree : (before after : List (List ℕ)) (tree : Tree) (dir node place : ℕ) (old new : Inode) (name other : List ℕ) → StandsFor before tree → is_directory tree dir ≡ true → HasNode before dir old
    → place ≡ place_of name (entries_at tree dir) + 2 → Relists dir before old (λ entries. set entries place (entry_for node other)) after new → StandsFor after (with_entries tree dir (entry_renamed name other node))
renamed_in_tree before after tree dir node place old new name other stands is has at r =
    let there : ℕ = place_of name (entries_at tree dir) in
    subst (λ (t : Tree). StandsFor after t) (same_there tree dir (λ entries. set entries there (entry_for node other)) (entry_renamed name other node) is refl)
    (set_in_tree before after tree dir place there (entry_for node other) old new stands is has at r)

hung_node : (tree : Tree) (dir parent : ℕ) → is_directory tree dir ≡ true → hung tree dir parent ≡ with_node tree dir (Some (record { links = links_at tree dir; content = Directory parent (entries_at tree dir) }))
hung_node tree dir parent is =
    ap (λ (there : Option Node). with_node tree dir (option_map {T = Node} (λ node. record node { content = under parent node.content }) there)) (directory_is (node_at tree dir) is)

pub hung_in_tree : (before after : List (List ℕ)) (tree : Tree) (dir parent : ℕ) (old new : Inode) → StandsFor before tree → is_directory tree dir ≡ true → HasNode before dir old
    → Relists dir before old (λ entries. set entries 1 (entry_for parent parent_name)) after new → StandsFor after (hung tree dir parent)
hung_in_tree before after tree dir parent old new stands is has r =
    subst (λ (t : Tree). StandsFor after t) (sym (hung_node tree dir parent is)) (changed before after tree dir parent (entries_at tree dir) old new (λ entries. set entries 1 (entry_for parent parent_name)) stands is has r refl)

-- ---- what is found

pub found_on_disk : (disk : List (List ℕ)) (tree : Tree) (dir node : ℕ) (inode : Inode) (entries : List DirEntry) (name : List ℕ) → StandsFor disk tree → is_directory tree dir ≡ true → HasNode disk dir inode
    → HasEntries disk inode entries → name ≢ own_name → name ≢ parent_name → found tree dir name ≡ Some node → place_called name entries ≡ Some (place_of name (entries_at tree dir) + 2)
found_on_disk disk tree dir node inode entries name stands is has list not_own not_parent there =
    let same : entries ≡ listed tree dir = one_list disk inode entries (listed tree dir) list (on_disk disk tree dir inode stands is has).list in
    ap (λ (es : List DirEntry). place_called name es) same ∙ found_behind dir (parent_at tree dir) (entries_at tree dir) name not_own not_parent (stands_at (entries_at tree dir) name node there).within

pub missing_on_disk : (disk : List (List ℕ)) (tree : Tree) (dir : ℕ) (inode : Inode) (entries : List DirEntry) (name : List ℕ) → StandsFor disk tree → is_directory tree dir ≡ true → HasNode disk dir inode
    → HasEntries disk inode entries → name ≢ own_name → name ≢ parent_name → found tree dir name ≡ None → place_called name entries ≡ None
missing_on_disk disk tree dir inode entries name stands is has list not_own not_parent none =
    let same : entries ≡ listed tree dir = one_list disk inode entries (listed tree dir) list (on_disk disk tree dir inode stands is has).list in
    ap (λ (es : List DirEntry). place_called name es) same ∙ missing_behind dir (parent_at tree dir) (entries_at tree dir) name not_own not_parent none

-- ---- what is told of a directory

pub told_by_bytes : (disk : List (List ℕ)) (tree : Tree) (dir at count : ℕ) (inode : Inode) → StandsFor disk tree → is_directory tree dir ≡ true → HasNode disk dir inode
    → list_node tree dir at count ≡ take (32 * (count / 32)) (drop at (node_bytes disk inode))
told_by_bytes disk tree dir at count inode stands is has = ap (λ (bytes : List ℕ). take (32 * (count / 32)) (drop at bytes)) (sym (on_disk disk tree dir inode stands is has).list.bytes)

-- the entry at the place where a look finds a name is that of the tree
entry_behind : (entries : List DirEntry) (dir parent k : ℕ) (entry : DirEntry) → slice_get (whole dir parent entries) (k + 2) ≡ Some entry → slice_get entries k ≡ Some entry
entry_behind entries dir parent k entry is = ap (slice_get (whole dir parent entries)) (two_more k) ∙ is
  where
    two_more : (n : ℕ) → suc (suc n) ≡ n + 2
    two_more n = omega arith

found_from : (disk : List (List ℕ)) (tree : Tree) (dir place : ℕ) (inode : Inode) (name : List ℕ) (entry : DirEntry) (there : Option ℕ) → StandsFor disk tree → is_directory tree dir ≡ true → HasNode disk dir inode → name ≢ own_name
    → name ≢ parent_name → place_called name (listed tree dir) ≡ Some place → slice_get (listed tree dir) place ≡ Some entry → found tree dir name ≡ there → there ≡ Some entry.node
found_from disk tree dir place inode name entry None stands is has not_own not_parent at is_entry none =
    let missing = missing_on_disk disk tree dir inode (listed tree dir) name stands is has (on_disk disk tree dir inode stands is has).list not_own not_parent none in
    absurd (none-some place (sym missing ∙ at))
found_from disk tree dir place inode name entry (Some node) stands is has not_own not_parent at is_entry found_node =
    let entries : List DirEntry = entries_at tree dir in
    let stands_name = stands_at entries name node found_node in
    let there = found_on_disk disk tree dir node inode (listed tree dir) name stands is has (on_disk disk tree dir inode stands is has).list not_own not_parent found_node in
    let same : place ≡ place_of name entries + 2 = same_Some place (place_of name entries + 2) (sym at ∙ there) in
    let here = entry_behind entries dir (parent_at tree dir) (place_of name entries) entry (ap (slice_get (listed tree dir)) (sym same) ∙ is_entry) in
    let is_it : get_or entries (place_of name entries) no_entry ≡ entry = same_Some _ _ (sym (slice_get-get_or entries (place_of name entries) no_entry stands_name.within) ∙ here) in
    ap Some (sym stands_name.aims ∙ ap (λ (e : DirEntry). e.node) is_it)

pub looked_up : (disk : List (List ℕ)) (tree : Tree) (dir place : ℕ) (inode : Inode) (name : List ℕ) (entry : DirEntry) → StandsFor disk tree → is_directory tree dir ≡ true → HasNode disk dir inode → name ≢ own_name
    → name ≢ parent_name → place_called name (listed tree dir) ≡ Some place → slice_get (listed tree dir) place ≡ Some entry → found tree dir name ≡ Some entry.node
looked_up disk tree dir place inode name entry stands is has not_own not_parent at is_entry = found_from disk tree dir place inode name entry (found tree dir name) stands is has not_own not_parent at is_entry refl

missing_from : (disk : List (List ℕ)) (tree : Tree) (dir : ℕ) (inode : Inode) (name : List ℕ) (there : Option ℕ) → StandsFor disk tree → is_directory tree dir ≡ true → HasNode disk dir inode → name ≢ own_name → name ≢ parent_name
    → place_called name (listed tree dir) ≡ None → found tree dir name ≡ there → there ≡ None
missing_from disk tree dir inode name None stands is has not_own not_parent at none = refl
missing_from disk tree dir inode name (Some node) stands is has not_own not_parent at found_node =
    let there = found_on_disk disk tree dir node inode (listed tree dir) name stands is has (on_disk disk tree dir inode stands is has).list not_own not_parent found_node in
    absurd (none-some _ (sym at ∙ there))

pub not_there : (disk : List (List ℕ)) (tree : Tree) (dir : ℕ) (inode : Inode) (name : List ℕ) → StandsFor disk tree → is_directory tree dir ≡ true → HasNode disk dir inode → name ≢ own_name → name ≢ parent_name
    → place_called name (listed tree dir) ≡ None → found tree dir name ≡ None
not_there disk tree dir inode name stands is has not_own not_parent at = missing_from disk tree dir inode name (found tree dir name) stands is has not_own not_parent at refl
