-- A node in use of the tree has an inode on its disk, and an inode in use is that of a node of the tree.
use Rattle.std.proofs.Common.{◌≡◌, ◌≢◌, ℕ, zero, suc, ◌<◌, ◌≤◌, inl, inr, List, [], ◌∷◌, length, get_or, drop, Option, Some, None, is_some, refl, sym, ap, subst, ◌∙◌, arith}
use Rattle.std.proofs.lemmas.Bool.{cases_lt}
use Rattle.std.proofs.lemmas.List.{ext_get_or}
use Rattle.std.proofs.lemmas.Option.{same_Some, none-some}
use Rattle.kabi_types.specs.declared.inodes.DirEntry.{DirEntry}
use Rattle.kabi_types.specs.declared.inodes.Inode.{Inode}
use Rattle.posix_defs.specs.DiskFormat.{table_nodes}
use Rattle.posix_defs.specs.SoundDisk.{HasInode, HasNode, IsFreeNode, IsLowestFreeNode}
use Rattle.posix_defs.specs.DiskContents.{HasEntries, entry_for, own_name, parent_name}
use Rattle.posix_defs.specs.DiskTree.{HasContent, HasNodeOf, HasThere, StandsFor}
use Rattle.posix_defs.specs.Tree.{Content, File, Directory, SocketName, Fifo, Node, Tree, node_at, free_node, kind_of, IsInodeOf}
use Rattle.posix_defs.proofs.TreeNodes.{IsNumber, is_number}
use Rattle.disk_laws.specs.NodesInUse.{IsNodeIn, HasNodeIn}
use Rattle.disk_laws.proofs.FormattedDisk.{one_inode}
use Rattle.disk_laws.proofs.DirectoryEntries.{one_list}
use Rattle.disk_laws.proofs.DiskFreeNodes.{used_kind, lowest_free, no_free}

in_range : (disk : List (List ℕ)) (tree : Tree) (number : ℕ) → StandsFor disk tree → (0 < number) × (number ≤ table_nodes (length disk)) → HasThere disk number (node_at tree number)
in_range disk tree number stands at = stands.each number at.0 (subst (λ (n : ℕ). number ≤ table_nodes n) stands.blocks at.1)

-- ---- a node in use, in both directions

pub inode_of_node : (disk : List (List ℕ)) (tree : Tree) (number : ℕ) (node : Node) → StandsFor disk tree → node_at tree number ≡ Some node → HasNodeIn disk number node
inode_of_node disk tree number node stands at =
    let within = is_number tree number (ap is_some at) in
    let there : HasNodeOf disk number node = subst (HasThere disk number) at (stands.each number within.above (subst (λ (n : ℕ). number ≤ n) stands.count within.within)) in
    record { inode = there.inode; has = (there.has, λ none. used_kind node.content (sym there.shows.kind ∙ none)); shows = there.shows; content = there.content }

of_there : (disk : List (List ℕ)) (number : ℕ) (inode : Inode) (there : Option Node) → HasThere disk number there → HasNode disk number inode → IsNodeIn disk number inode there
of_there disk number inode None free has = absurd (has.1 (ap (λ (i : Inode). i.kind) (one_inode disk number inode free.0 has.0 free.1) ∙ free.2))
of_there disk number inode (Some node) is has =
    let same : is.inode ≡ inode = one_inode disk number is.inode inode is.has has.0 in
    record {
      node = node;
      is = refl;
      shows = subst (λ (i : Inode). IsInodeOf node i) same is.shows;
      content = subst (λ (i : Inode). HasContent disk number i node.content) same is.content;
    }

pub node_of_inode : (disk : List (List ℕ)) (tree : Tree) (number : ℕ) (inode : Inode) → StandsFor disk tree → HasNode disk number inode → IsNodeIn disk number inode (node_at tree number)
node_of_inode disk tree number inode stands has = of_there disk number inode (node_at tree number) (in_range disk tree number stands has.0.number) has

-- ---- a free node, in both directions

free_there : (disk : List (List ℕ)) (number : ℕ) (there : Option Node) → HasThere disk number there → IsFreeNode disk number → there ≡ None
free_there disk number None has free = refl
free_there disk number (Some node) has free =
    let same : has.inode ≡ free.0 = one_inode disk number has.inode free.0 has.has free.1 in
    absurd (used_kind node.content (sym has.shows.kind ∙ ap (λ (i : Inode). i.kind) same ∙ free.2))

pub free_in_the_tree : (disk : List (List ℕ)) (tree : Tree) (number : ℕ) → StandsFor disk tree → IsFreeNode disk number → node_at tree number ≡ None
free_in_the_tree disk tree number stands free = free_there disk number (node_at tree number) (in_range disk tree number stands free.1.number) free

pub free_on_the_disk : (disk : List (List ℕ)) (tree : Tree) (number : ℕ) → StandsFor disk tree → 0 < number → number ≤ table_nodes tree.blocks → node_at tree number ≡ None → IsFreeNode disk number
free_on_the_disk disk tree number stands pos within none = subst (HasThere disk number) none (stands.each number pos within)

-- two lowest free nodes are one
same_lowest : (disk : List (List ℕ)) (one other : ℕ) → IsLowestFreeNode disk one → IsLowestFreeNode disk other → one ≡ other
same_lowest disk one other first second = elim (cases_lt one other) [
  | inl lt ↦ absurd (second.lowest one lt first.free)
  | inr le ↦ elim (cases_lt other one) [
    | inl lt ↦ absurd (first.lowest other lt second.free)
    | inr ge ↦ omega (arith, le, ge)
  ]
]

made_next : (disk : List (List ℕ)) (tree : Tree) (number : ℕ) (free : Option ℕ) → free_node tree ≡ free → StandsFor disk tree → IsLowestFreeNode disk number → free ≡ Some number
made_next disk tree number None is stands lowest = absurd (no_free disk tree number stands is lowest.free)
made_next disk tree number (Some first) is stands lowest = ap Some (same_lowest disk first number (lowest_free disk tree first stands is) lowest)

pub lowest_in_tree : (disk : List (List ℕ)) (tree : Tree) (number : ℕ) → StandsFor disk tree → IsLowestFreeNode disk number → free_node tree ≡ Some number
lowest_in_tree disk tree number stands lowest = made_next disk tree number (free_node tree) refl stands lowest

made_never : (disk : List (List ℕ)) (tree : Tree) (free : Option ℕ) → free_node tree ≡ free → StandsFor disk tree → ((number : ℕ) → ¬ (IsFreeNode disk number)) → free ≡ None
made_never disk tree None is stands none = refl
made_never disk tree (Some first) is stands none = absurd (none first (lowest_free disk tree first stands is).free)

pub none_in_tree : (disk : List (List ℕ)) (tree : Tree) → StandsFor disk tree → ((number : ℕ) → ¬ (IsFreeNode disk number)) → free_node tree ≡ None
none_in_tree disk tree stands none = made_never disk tree (free_node tree) refl stands none

-- ---- a disk stands for one tree

same_content : (disk : List (List ℕ)) (number : ℕ) (inode : Inode) (one other : Content) → inode.kind ≡ kind_of one → inode.kind ≡ kind_of other → HasContent disk number inode one → HasContent disk number inode other → one ≡ other
same_content disk number inode (File bytes) (File others) kind also has at = ap File (sym has ∙ at)
same_content disk number inode (Directory parent entries) (Directory above others) kind also has at =
    let same = one_list disk inode (entry_for number own_name ∷ entry_for parent parent_name ∷ entries) (entry_for number own_name ∷ entry_for above parent_name ∷ others) has at in
    let parents : parent ≡ above = ap (λ (list : List DirEntry). (get_or list 1 (entry_for 0 [])).node) same in
    let behind : entries ≡ others = ap (drop 2) same in
    ap (λ (n : ℕ). Directory n entries) parents ∙ ap (Directory above) behind
same_content disk number inode SocketName SocketName kind also has at = refl
same_content disk number inode Fifo Fifo kind also has at = refl
same_content disk number inode (File bytes) (Directory above others) kind also has at = absurd (omega (arith, kind, also))
same_content disk number inode (File bytes) SocketName kind also has at = absurd (omega (arith, kind, also))
same_content disk number inode (Directory parent entries) (File others) kind also has at = absurd (omega (arith, kind, also))
same_content disk number inode (Directory parent entries) SocketName kind also has at = absurd (omega (arith, kind, also))
same_content disk number inode SocketName (File others) kind also has at = absurd (omega (arith, kind, also))
same_content disk number inode SocketName (Directory above others) kind also has at = absurd (omega (arith, kind, also))
same_content disk number inode (File bytes) Fifo kind also has at = absurd (omega (arith, kind, also))
same_content disk number inode (Directory parent entries) Fifo kind also has at = absurd (omega (arith, kind, also))
same_content disk number inode SocketName Fifo kind also has at = absurd (omega (arith, kind, also))
same_content disk number inode Fifo (File others) kind also has at = absurd (omega (arith, kind, also))
same_content disk number inode Fifo (Directory above others) kind also has at = absurd (omega (arith, kind, also))
same_content disk number inode Fifo SocketName kind also has at = absurd (omega (arith, kind, also))

same_node : (disk : List (List ℕ)) (number : ℕ) (one other : Node) → HasNodeOf disk number one → HasNodeOf disk number other → one ≡ other
same_node disk number one other has at =
    let inode : at.inode ≡ has.inode = one_inode disk number at.inode has.inode at.has has.has in
    let shows : IsInodeOf other has.inode = subst (λ (i : Inode). IsInodeOf other i) inode at.shows in
    let holds : HasContent disk number has.inode other.content = subst (λ (i : Inode). HasContent disk number i other.content) inode at.content in
    let links : one.links ≡ other.links = sym has.shows.links ∙ shows.links in
    let content : one.content ≡ other.content = same_content disk number has.inode one.content other.content has.shows.kind shows.kind has.content holds in
    ap (λ (n : ℕ). record { links = n; content = one.content }) links ∙ ap (λ (c : Content). record { links = other.links; content = c }) content

same_there : (disk : List (List ℕ)) (number : ℕ) (one other : Option Node) → HasThere disk number one → HasThere disk number other → one ≡ other
same_there disk number None other has at = sym (free_there disk number other at has)
same_there disk number (Some node) None has at = free_there disk number (Some node) has at
same_there disk number (Some node) (Some also) has at = ap Some (same_node disk number node also has at)

pub one_tree : (disk : List (List ℕ)) (one other : Tree) → StandsFor disk one → StandsFor disk other → one ≡ other
one_tree disk one other stands also =
    let blocks : one.blocks ≡ other.blocks = sym stands.blocks ∙ also.blocks in
    let count : length one.nodes ≡ length other.nodes = stands.count ∙ ap table_nodes blocks ∙ sym also.count in
    let nodes : one.nodes ≡ other.nodes = ext_get_or None one.nodes other.nodes count (
    λ k lt.
    same_there disk (suc k) (get_or one.nodes k None) (get_or other.nodes k None) (stands.each (suc k) (omega arith) (omega (arith, lt, stands.count))) (also.each (suc k) (omega arith) (omega (arith, lt, count, also.count)))
    ) in
    ap (λ (n : ℕ). record { blocks = n; nodes = one.nodes }) blocks ∙ ap (λ (list : List (Option Node)). record { blocks = other.blocks; nodes = list }) nodes
