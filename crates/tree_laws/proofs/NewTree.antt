-- The new tree is a tree.
use Rattle.std.proofs.Common.{◌≡◌, ℕ, zero, suc, ◌+◌, ◌-◌, ◌*◌, ◌≤◌, Bool, true, cond, ◌⊎◌, inl, inr, [], length, replicate, Option, Some, None, refl, sym, ap, subst, ◌∙◌, arith}
use Rattle.std.specs.List.{sum_by}
use Rattle.std.proofs.lemmas.Bool.{false≢true, ne_eqb}
use Rattle.std.proofs.lemmas.Option.{same_Some, none-some}
use Rattle.std.proofs.lemmas.List.{length-replicate}
use Rattle.std.proofs.lemmas.List.Sums.{sum_by-cons}
use Rattle.std.proofs.lemmas.List.Folds.{sum_by-replicate}
use Rattle.posix_defs.specs.DiskFormat.{table_nodes}
use Rattle.posix_defs.specs.Tree.{Node, root, node_at, is_directory, is_directory_in, links_at, links_in, entries_in, entries_at, parent_at, blocks_in, new_root_node, new_tree}
use Rattle.posix_defs.specs.IsTree.{IsNode, IsTree, named_in, names_of, unnamed_links}
use Rattle.posix_defs.proofs.TreeNodes.{none_in}

-- under a number there is the root, or nothing
new_at : (blocks number : ℕ) → (number ≡ root) ⊎ (node_at (new_tree blocks) number ≡ None)
new_at blocks zero = inr refl
new_at blocks (suc zero) = inl refl
new_at blocks (suc (suc before)) = inr (none_in (table_nodes blocks - 1) before)

-- a sum over all nodes is that of the root
new_sum : (f : Option Node → ℕ) (blocks : ℕ) → f None ≡ 0 → sum_by f (new_tree blocks).nodes ≡ f (Some new_root_node)
new_sum f blocks none =
    let count : ℕ = table_nodes blocks - 1 in
    let rest : sum_by f (replicate count None) ≡ 0 = sum_by-replicate f count None ∙ ap (λ (n : ℕ). count * n) none ∙ (let e : count * 0 ≡ 0 = omega arith in e) in
    omega (arith, sum_by-cons f (Some new_root_node) (replicate count None), rest)

new_root_is_node : IsNode new_root_node
new_root_is_node = record {
  content = record { names = λ k d lt. absurd (omega (arith, lt)); distinct = λ i j d lt within. absurd (omega (arith, within)) };
  size = omega arith;
  links = omega arith;
  single = λ _. refl;
  socket = λ s. absurd (false≢true s);
}

only_root : (blocks number : ℕ) → is_directory (new_tree blocks) number ≡ true → number ≡ root
only_root blocks number at = elim (new_at blocks number) [
  | inl same ↦ same
  | inr none ↦ absurd (false≢true (sym (ap is_directory_in none) ∙ at))
]

new_entries_none : (blocks number : ℕ) → entries_at (new_tree blocks) number ≡ []
new_entries_none blocks number = elim (new_at blocks number) [
  | inl same ↦ ap (entries_at (new_tree blocks)) same
  | inr none ↦ ap entries_in none
]

new_links : (blocks number : ℕ) → links_at (new_tree blocks) number ≡ names_of (new_tree blocks) number + unnamed_links number
new_links blocks zero =
    let unnamed : unnamed_links zero ≡ 0 = refl in
    omega (arith, new_sum (named_in zero) blocks refl, unnamed)
new_links blocks (suc zero) = omega (arith, new_sum (named_in 1) blocks refl)
new_links blocks (suc (suc before)) =
    let unnamed : unnamed_links (suc (suc before)) ≡ 0 = ap (λ (b : Bool). cond b 1 0) (ne_eqb (suc (suc before)) root (λ e. omega (arith, e))) in
    let none : links_at (new_tree blocks) (suc (suc before)) ≡ 0 = ap links_in (none_in (table_nodes blocks - 1) before) in
    omega (arith, new_sum (named_in (suc (suc before))) blocks refl, unnamed, none)

pub new_is_tree : (blocks : ℕ) → 16 ≤ blocks → blocks ≤ 4096 → IsTree (new_tree blocks)
new_is_tree blocks enough most = record {
  enough = enough;
  most = most;
  count = omega (arith, length-replicate {A = Option Node} (table_nodes blocks - 1) None, enough);
  room = omega (arith, new_sum blocks_in blocks refl, enough);
  nodes = λ number node at. elim (new_at blocks number) [
    | inl same ↦ subst IsNode (same_Some new_root_node node (ap (node_at (new_tree blocks)) (sym same) ∙ at)) new_root_is_node
    | inr none ↦ absurd (none-some node (sym none ∙ at))
  ];
  links = new_links blocks;
  root_directory = refl;
  root_parent = refl;
  parents = λ dir at. subst (λ (n : ℕ). is_directory (new_tree blocks) (parent_at (new_tree blocks) n) ≡ true) (sym (only_root blocks dir at)) refl;
  below = λ dir entry among at. absurd (let len = ap length (new_entries_none blocks dir) in omega (arith, len, among.1));
  climbs = λ dir at. (0, only_root blocks dir at);
}
