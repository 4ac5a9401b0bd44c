-- Ways up to the root, and who names a directory.
use Rattle.std.proofs.Common.{◌≡◌, ◌≢◌, ℕ, zero, suc, ◌<◌, Bool, true, false, cond, inl, inr, List, [], ◌∷◌, length, get_or, None, refl, sym, ap, subst, ◌∙◌, arith}
use Rattle.std.specs.List.{sum_by, Contains}
use Rattle.std.proofs.lemmas.Bool.{cases_eq, cases_lt, eqb-true, ne_eqb}
use Rattle.std.proofs.lemmas.List.Sums.{sum_by-cons}
use Rattle.std.proofs.lemmas.List.Elements.{Contains-get_or}
use Rattle.kabi_types.specs.declared.inodes.DirEntry.{DirEntry}
use Rattle.posix_defs.specs.Tree.{Tree, root, node_at, is_directory, links_at, entries_in, entries_at, parent_at, climbed}
use Rattle.posix_defs.specs.TreeChanges.{no_entry}
use Rattle.posix_defs.specs.IsTree.{IsTree, names_node, named_in, names_of, unnamed_links}
use Rattle.tree_laws.proofs.TreeSteps.{directory_is}

-- ---- ways up

-- no way up from one leads to the other
abbrev pub IsOff : Tree → ℕ → ℕ → Type 0
IsOff tree dir from = (steps : ℕ) → climbed tree steps from ≢ dir

-- a directory has the parent that it had, which is a directory still
pub record KeepsParent (old new : Tree) (m : ℕ) : Type 0 where
  pub same : parent_at new m ≡ parent_at old m
  pub directory : is_directory new (parent_at old m) ≡ true

pub climbed_same : (old new : Tree) → ((m : ℕ) → is_directory new m ≡ true → KeepsParent old new m) → (steps m : ℕ) → is_directory new m ≡ true → climbed new steps m ≡ climbed old steps m
climbed_same old new keeps zero m is = refl
climbed_same old new keeps (suc steps) m is =
    ap (climbed new steps) (keeps m is).same ∙ climbed_same old new keeps steps (parent_at old m) (keeps m is).directory

-- where one directory alone has another parent, a way up that doesn't lead over it stays
pub climbed_off : (old new : Tree) (moved : ℕ) → ((m : ℕ) → is_directory new m ≡ true → m ≢ moved → KeepsParent old new m) → (steps m : ℕ) → is_directory new m ≡ true → IsOff old moved m
    → climbed new steps m ≡ climbed old steps m
climbed_off old new moved keeps zero m is off = refl
climbed_off old new moved keeps (suc steps) m is off =
    let kept = keeps m is (off 0) in
    ap (climbed new steps) kept.same ∙ climbed_off old new moved keeps steps (parent_at old m) kept.directory (λ more. off (suc more))

-- and every other goes on behind the one that moved
pub climbs_moved : (old new : Tree) (moved to : ℕ) → ((m : ℕ) → is_directory new m ≡ true → m ≢ moved → KeepsParent old new m) → parent_at new moved ≡ to → is_directory new to ≡ true → IsOff old moved to
    → (steps : ℕ) × (climbed old steps to ≡ root) → (steps m : ℕ) → is_directory new m ≡ true → climbed old steps m ≡ root → (more : ℕ) × (climbed new more m ≡ root)
climbs_moved old new moved to keeps hung is_to off way zero m is at = (0, at)
climbs_moved old new moved to keeps hung is_to off way (suc steps) m is at =
    elim (cases_eq m moved) [
      | inl same ↦ (suc way.0, ap (λ (k : ℕ). climbed new way.0 (parent_at new k)) same ∙ ap (climbed new way.0) hung ∙ climbed_off old new moved keeps way.0 to is_to off ∙ way.1)
      | inr other ↦
          let kept = keeps m is other in
          let further = climbs_moved old new moved to keeps hung is_to off way steps (parent_at old m) kept.directory at in
          (suc further.0, ap (climbed new further.0) kept.same ∙ further.1)
    ]

-- ---- who names a node

some_term : {X : Type 0} (f : X → ℕ) (xs : List X) (none : X) → 0 < sum_by f xs → (k : ℕ) × (k < length xs) × (0 < f (get_or xs k none))
some_term f [] none pos = absurd (omega (arith, pos))
some_term f (x ∷ xs) none pos =
    elim (cases_lt 0 (f x)) [
      | inl here ↦ (0, omega arith, here)
      | inr nothing ↦
          let rest = some_term f xs none (omega (arith, sum_by-cons f x xs, pos, nothing)) in
          (suc rest.0, omega (arith, rest.1), rest.2)
    ]

passes : (b : Bool) → 0 < cond b 1 0 → b ≡ true
passes true pos = refl
passes false pos = absurd (omega (arith, pos))

-- a named node has an entry
pub named_somewhere : (tree : Tree) (number : ℕ) → 0 < names_of tree number → (dir : ℕ) × (entry : DirEntry) × Contains (entries_at tree dir) entry × (entry.node ≡ number)
named_somewhere tree number pos =
    let node = some_term (named_in number) tree.nodes None pos in
    let entries : List DirEntry = entries_in (get_or tree.nodes node.0 None) in
    let place = some_term (λ e. cond (names_node number e) 1 0) entries no_entry node.2 in
    let entry : DirEntry = get_or entries place.0 no_entry in
    (suc node.0, entry, Contains-get_or entries place.0 no_entry place.1, eqb-true entry.node number (passes (names_node number entry) place.2))

-- a directory has one link
pub one_link : (tree : Tree) (dir : ℕ) → IsTree tree → is_directory tree dir ≡ true → links_at tree dir ≡ 1
one_link tree dir is at =
    let node = directory_is (node_at tree dir) at in
    (is.nodes dir _ node).single refl

-- nothing names the root
pub root_unnamed : (tree : Tree) → IsTree tree → names_of tree root ≡ 0
root_unnamed tree is = omega (arith, is.links root, one_link tree root is is.root_directory)

-- every directory but the root has an entry in its parent
pub parent_has_entry : (tree : Tree) (dir : ℕ) → IsTree tree → is_directory tree dir ≡ true → dir ≢ root → (entry : DirEntry) × Contains (entries_at tree (parent_at tree dir)) entry × (entry.node ≡ dir)
parent_has_entry tree dir is at other =
    let unnamed : unnamed_links dir ≡ 0 = ap (λ (b : Bool). cond b 1 0) (ne_eqb dir root other) in
    let somewhere = named_somewhere tree dir (omega (arith, is.links dir, one_link tree dir is at, unnamed)) in
    let entry : DirEntry = somewhere.1 in
    let up : parent_at tree entry.node ≡ somewhere.0 = is.below somewhere.0 entry somewhere.2 (ap (is_directory tree) somewhere.3 ∙ at) in
    let stands : somewhere.0 ≡ parent_at tree dir = sym up ∙ ap (parent_at tree) somewhere.3 in
    (entry, subst (λ (n : ℕ). Contains (entries_at tree n) entry) stands somewhere.2, somewhere.3)
