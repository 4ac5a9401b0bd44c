-- The node that is made next is the free one of the disk with the lowest number.
use Rattle.std.proofs.Common.{◌≡◌, ◌≢◌, ℕ, zero, suc, ◌+◌, ◌<◌, ◌≤◌, true, List, [], ◌∷◌, length, get_or, Option, Some, None, is_some, is_none, refl, sym, ap, subst, ◌∙◌, arith}
use Rattle.std.specs.List.{position_from}
use Rattle.std.proofs.lemmas.Bool.{false≢true}
use Rattle.std.proofs.lemmas.Option.{same_Some, none-some}
use Rattle.kabi_types.specs.declared.inodes.Inode.{Inode}
use Rattle.posix_defs.specs.DiskFormat.{table_nodes}
use Rattle.posix_defs.specs.SoundDisk.{IsFreeNode, IsLowestFreeNode}
use Rattle.posix_defs.specs.Tree.{Content, File, Directory, SocketName, Fifo, Node, Tree, node_at, kind_of, is_in_use, free_node}
use Rattle.posix_defs.specs.DiskTree.{HasThere, StandsFor}
use Rattle.posix_defs.proofs.TreeNodes.{free_is}
use Rattle.disk_laws.proofs.FormattedDisk.{one_inode}

-- before the first free place all are in use
before_first : (nodes : List (Option Node)) (from number k : ℕ) → position_from is_none from nodes ≡ Some number → from + k < number → is_some (get_or nodes k None) ≡ true
before_first [] from number k at lt = absurd (none-some number at)
before_first (None ∷ nodes) from number k at lt = absurd (omega (arith, same_Some from number at, lt))
before_first (Some node ∷ nodes) from number zero at lt = refl
before_first (Some node ∷ nodes) from number (suc k) at lt = before_first nodes (from + 1) number k at (omega (arith, lt))

-- where none is free all are
none_free : (nodes : List (Option Node)) (from k : ℕ) → position_from is_none from nodes ≡ None → k < length nodes → is_some (get_or nodes k None) ≡ true
none_free [] from k at lt = absurd (omega (arith, lt))
none_free (None ∷ nodes) from k at lt = absurd (none-some from (sym at))
none_free (Some node ∷ nodes) from zero at lt = refl
none_free (Some node ∷ nodes) from (suc k) at lt = none_free nodes (from + 1) k at (omega (arith, lt))

pub used_kind : (content : Content) → kind_of content ≢ 0
used_kind (File bytes) none = omega (arith, none)
used_kind (Directory parent entries) none = omega (arith, none)
used_kind SocketName none = omega (arith, none)
used_kind Fifo none = omega (arith, none)

-- a node in use isn't free
used_not_free : (disk : List (List ℕ)) (number : ℕ) (there : Option Node) → HasThere disk number there → is_some there ≡ true → IsFreeNode disk number → ⊥
used_not_free disk number None has used free = false≢true used
used_not_free disk number (Some node) has used free =
    let same : has.inode ≡ free.0 = one_inode disk number has.inode free.0 has.has free.1 in
    used_kind node.content (sym has.shows.kind ∙ ap (λ (i : Inode). i.kind) same ∙ free.2)

-- a free node has a number of the table
free_within : (disk : List (List ℕ)) (tree : Tree) (number : ℕ) → StandsFor disk tree → IsFreeNode disk number → (0 < number) × (number ≤ table_nodes tree.blocks)
free_within disk tree number stands free = (free.1.number.0, subst (λ (n : ℕ). number ≤ table_nodes n) stands.blocks free.1.number.1)

used_at : (tree : Tree) (number : ℕ) → 0 < number → ((k : ℕ) → number ≡ suc k → is_some (get_or tree.nodes k None) ≡ true) → is_in_use tree number ≡ true
used_at tree zero pos used = absurd (omega (arith, pos))
used_at tree (suc k) pos used = used k refl

pub lowest_free : (disk : List (List ℕ)) (tree : Tree) (number : ℕ) → StandsFor disk tree → free_node tree ≡ Some number → IsLowestFreeNode disk number
lowest_free disk tree number stands at =
    let free = free_is tree number at in
    record {
      free = subst (HasThere disk number) free.1 (stands.each number free.0.above (subst (λ (n : ℕ). number ≤ n) stands.count free.0.within));
      lowest = λ other lt is_free.
          let within = free_within disk tree other stands is_free in
          let used : is_in_use tree other ≡ true = used_at tree other within.0 (λ k same. before_first tree.nodes 1 number k at (omega (arith, same, lt))) in
          used_not_free disk other (node_at tree other) (stands.each other within.0 within.1) used is_free;
    }

pub no_free : (disk : List (List ℕ)) (tree : Tree) (number : ℕ) → StandsFor disk tree → free_node tree ≡ None → IsFreeNode disk number → ⊥
no_free disk tree number stands at is_free =
    let within = free_within disk tree number stands is_free in
    let used : is_in_use tree number ≡ true = used_at tree number within.0 (λ k same. none_free tree.nodes 1 k at (omega (arith, same, within.1, stands.count))) in
    used_not_free disk number (node_at tree number) (stands.each number within.0 within.1) used is_free
