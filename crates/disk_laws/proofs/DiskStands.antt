-- When a disk stands for a tree: a new disk, and one that changed at one node.
use Rattle.std.proofs.Common.{◌≡◌, ◌≢◌, ℕ, zero, suc, ◌+◌, ◌-◌, ◌<◌, ◌≤◌, inl, inr, List, [], ◌∷◌, length, get_or, Option, Some, None, refl, sym, ap, subst, ◌∙◌, arith}
use Rattle.std.specs.List.{sum_by}
use Rattle.std.proofs.lemmas.Bool.{cases_eq}
use Rattle.std.proofs.lemmas.List.{length-replicate}
use Rattle.std.proofs.lemmas.List.Sums.{sum_by-cons}
use Rattle.kabi_types.specs.declared.inodes.Inode.{Inode}
use Rattle.posix_defs.specs.DiskFormat.{table_end, table_nodes, blocks_of}
use Rattle.posix_defs.specs.SoundDisk as disks
use Rattle.posix_defs.specs.SoundDisk.{HasInode, IsFreeNode, IsTable, Sound, free_in_map}
use Rattle.posix_defs.specs.DiskContents.{node_bytes, IsFormatted, new_root}
use Rattle.posix_defs.specs.Tree.{Content, File, Directory, SocketName, Fifo, Node, Tree, root, node_at, with_node, new_tree, new_root_node, blocks_in, used_blocks, free_blocks}
use Rattle.posix_defs.specs.DiskTree.{HasContent, HasNodeOf, HasThere, StandsFor, ChangesNode}
use Rattle.posix_defs.proofs.TreeNodes.{IsNumber, node_at-with_node, node_at-with_node_other, blocks-with_node, length-with_node, none_in}
use Rattle.disk_laws.proofs.FormattedDisk.{no_inode, no_kind, new_node, one_inode, new_is_sound, new_root_is_empty}
use Rattle.disk_laws.proofs.FreeBlocks.{how_many_free, has_table}

-- ---- a new disk

-- the root of a new disk
new_root_has : (disk : List (List ℕ)) → 16 ≤ length disk → length disk ≤ 4096 → IsFormatted (length disk) disk → HasNodeOf disk root new_root_node
new_root_has disk enough most formatted =
    let empty = new_root_is_empty (length disk) disk enough most formatted in
    let is : empty.inode ≡ new_root (length disk) =
    elim (new_node disk formatted enough most root (omega arith) (omega (arith, enough))) [
      | inl at ↦ one_inode disk root empty.inode (new_root (length disk)) empty.has at.1
      | inr free ↦
          let none : empty.inode ≡ no_inode = one_inode disk root empty.inode no_inode empty.has free in
          absurd (omega (arith, empty.list.kind, ap (λ (i : Inode). i.kind) none, no_kind))
    ] in
    record {
      inode = empty.inode;
      has = empty.has;
      shows = record { kind = empty.list.kind; links = ap (λ (i : Inode). i.nlink) is; size = ap (λ (i : Inode). i.size) is };
      content = empty.list;
    }

new_free : (disk : List (List ℕ)) → 16 ≤ length disk → length disk ≤ 4096 → IsFormatted (length disk) disk → (number : ℕ) → 1 < number → number ≤ table_nodes (length disk) → IsFreeNode disk number
new_free disk enough most formatted number above within =
    elim (new_node disk formatted enough most number (omega (arith, above)) within) [
      | inl at ↦ absurd (omega (arith, at.0, above))
      | inr free ↦ (no_inode, free, no_kind)
    ]

new_each : (disk : List (List ℕ)) → 16 ≤ length disk → length disk ≤ 4096 → IsFormatted (length disk) disk → (number : ℕ) → 0 < number → number ≤ table_nodes (length disk)
    → HasThere disk number (node_at (new_tree (length disk)) number)
new_each disk enough most formatted zero above within = absurd (omega (arith, above))
new_each disk enough most formatted (suc zero) above within = new_root_has disk enough most formatted
new_each disk enough most formatted (suc (suc before)) above within =
    subst (HasThere disk (suc (suc before))) (sym (none_in (table_nodes (length disk) - 1) before)) (new_free disk enough most formatted (suc (suc before)) (omega arith) within)

stands_new : (disk : List (List ℕ)) → 16 ≤ length disk → length disk ≤ 4096 → IsFormatted (length disk) disk → StandsFor disk (new_tree (length disk))
stands_new disk enough most formatted = record {
  sound = new_is_sound (length disk) disk enough most formatted;
  blocks = refl;
  count = omega (arith, length-replicate {A = Option Node} (table_nodes (length disk) - 1) None, enough);
  each = new_each disk enough most formatted;
}

pub formatted_stands : (blocks : ℕ) (disk : List (List ℕ)) → 16 ≤ blocks → blocks ≤ 4096 → IsFormatted blocks disk → StandsFor disk (new_tree blocks)
formatted_stands blocks disk enough most formatted =
    let same : length disk ≡ blocks = formatted.count in
    subst (λ (n : ℕ). StandsFor disk (new_tree n)) same
    (stands_new disk (subst (λ (n : ℕ). 16 ≤ n) (sym same) enough) (subst (λ (n : ℕ). n ≤ 4096) (sym same) most) (subst (λ (n : ℕ). IsFormatted n disk) (sym same) formatted))

-- ---- one node changed

content_stays : (old new : List (List ℕ)) (number : ℕ) (inode : Inode) (content : Content) → node_bytes new inode ≡ node_bytes old inode → HasContent old number inode content → HasContent new number inode content
content_stays old new number inode (File bytes) same has = same ∙ has
content_stays old new number inode (Directory parent entries) same has = record { kind = has.kind; each = has.each; bytes = same ∙ has.bytes }
content_stays old new number inode SocketName same has = tt
content_stays old new number inode Fifo same has = tt

there_stays : (old new : List (List ℕ)) (number other : ℕ) (there : Option Node) → ChangesNode old new number → other ≢ number → HasThere old other there → HasThere new other there
there_stays old new number other None changes off has = (has.0, changes.inodes other has.0 off has.1, has.2)
there_stays old new number other (Some node) changes off has = record {
  inode = has.inode;
  has = changes.inodes other has.inode off has.has;
  shows = has.shows;
  content = content_stays old new other has.inode node.content (changes.bytes other has.inode off has.has) has.content;
}

pub changed_stands : (old new : List (List ℕ)) (tree : Tree) (number : ℕ) (there : Option Node) → StandsFor old tree → ChangesNode old new number → 0 < number → number ≤ table_nodes tree.blocks → HasThere new number there
    → StandsFor new (with_node tree number there)
changed_stands old new tree number there stands changes above within has =
    let after : Tree = with_node tree number there in
    let blocks : after.blocks ≡ tree.blocks = blocks-with_node tree number there in
    record {
      sound = changes.sound;
      blocks = changes.blocks ∙ stands.blocks ∙ sym blocks;
      count = length-with_node tree number there ∙ stands.count ∙ ap table_nodes (sym blocks);
      each = λ other pos le. elim (cases_eq other number) [
        | inl same ↦
            let is_number : IsNumber tree number = record { above = above; within = subst (λ (n : ℕ). number ≤ n) (sym stands.count) within } in
            let at : node_at after other ≡ there = ap (node_at after) same ∙ node_at-with_node tree number there is_number in
            subst (HasThere new other) (sym at) (subst (λ (n : ℕ). HasThere new n there) (sym same) has)
        | inr off ↦
            subst (HasThere new other) (sym (node_at-with_node_other tree number other there off))
            (there_stays old new number other (node_at tree other) changes off (stands.each other pos (subst (λ (n : ℕ). other ≤ table_nodes n) blocks le)))
      ];
    }

-- ---- the blocks that are free

sum_same : {X Y : Type 0} (f : X → ℕ) (g : Y → ℕ) (xs : List X) (ys : List Y) (x : X) (y : Y) → length xs ≡ length ys → ((k : ℕ) → k < length xs → f (get_or xs k x) ≡ g (get_or ys k y)) → sum_by f xs ≡ sum_by g ys
sum_same f g [] [] x y len each = refl
sum_same f g [] (b ∷ ys) x y len each = absurd (omega (arith, len))
sum_same f g (a ∷ xs) [] x y len each = absurd (omega (arith, len))
sum_same f g (a ∷ xs) (b ∷ ys) x y len each =
    let rest : sum_by f xs ≡ sum_by g ys = sum_same f g xs ys x y (omega (arith, len)) (λ k lt. each (suc k) (omega (arith, lt))) in
    let here : f a ≡ g b = each 0 (omega arith) in
    omega (arith, sum_by-cons f a xs, sum_by-cons g b ys, rest, here)

-- an inode takes the blocks of the node
same_blocks : (disk : List (List ℕ)) (number : ℕ) (there : Option Node) (inode : Inode) → HasThere disk number there → HasInode disk number inode → blocks_of inode.size ≡ blocks_in there
same_blocks disk number None inode has at =
    let same : inode ≡ has.0 = one_inode disk number inode has.0 at has.1 in
    ap (λ (i : Inode). blocks_of i.size) same ∙ ap blocks_of (has.1.valid.kind.free has.2).1
same_blocks disk number (Some node) inode has at =
    let same : inode ≡ has.inode = one_inode disk number inode has.inode at has.has in
    ap (λ (i : Inode). blocks_of i.size) same ∙ ap blocks_of has.shows.size

-- the map has as many blocks as free as the tree leaves
pub free_in_tree : (disk : List (List ℕ)) (tree : Tree) → StandsFor disk tree → free_in_map disk ≡ free_blocks tree
free_in_tree disk tree stands =
    let table = has_table disk stands.sound in
    let inodes : List Inode = table.0 in
    let len : length inodes ≡ length tree.nodes = table.1.count ∙ ap table_nodes stands.blocks ∙ sym stands.count in
    let used : sum_by (λ inode. blocks_of inode.size) inodes ≡ used_blocks tree = sum_same (λ inode. blocks_of inode.size) blocks_in inodes tree.nodes no_inode None len (λ k lt.
    let has : HasInode disk (suc k) (get_or inodes k no_inode) = subst (λ (n : ℕ). HasInode disk n (get_or inodes k no_inode)) (let next : k + 1 ≡ suc k = omega arith in next) (table.1.each k no_inode lt) in
    same_blocks disk (suc k) (get_or tree.nodes k None) (get_or inodes k no_inode) (stands.each (suc k) (omega arith) (omega (arith, lt, len, stands.count))) has) in
    how_many_free disk inodes stands.sound table.1 ∙ ap (λ (n : ℕ). disks.free_blocks n inodes) stands.blocks ∙ ap (λ (n : ℕ). tree.blocks - 1 - table_end tree.blocks - n) used
