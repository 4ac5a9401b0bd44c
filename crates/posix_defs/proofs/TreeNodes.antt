-- What stands under each number of a tree, as it is and after a change of one node.
use Rattle.std.proofs.Common.{◌≡◌, ◌≢◌, ℕ, zero, suc, ◌+◌, ◌<◌, ◌≤◌, true, inl, inr, List, [], ◌∷◌, length, set, get_or, replicate, Option, Some, None, is_some, is_none, refl, sym, ap, ◌∙◌, arith, add-zero}
use Rattle.std.specs.List.{sum_by, position_from}
use Rattle.std.proofs.lemmas.Bool.{cases_lt, cases_eq, false≢true}
use Rattle.std.proofs.lemmas.Option.{same_Some, none-some}
use Rattle.std.proofs.lemmas.List.{length-replicate, get_or-replicate, get_or_past, set_past, length-set, get_or-set_same, get_or-set_other}
use Rattle.std.proofs.lemmas.List.Sums.{sum_by-set}
use Rattle.posix_defs.specs.Tree.{Content, File, Directory, SocketName, Fifo, Node, Tree, node_at, with_node, is_in_use, is_directory, is_directory_in, entries_of, entries_in, free_node, found, found_among}

-- a number that a node may have
pub record IsNumber (tree : Tree) (number : ℕ) : Type 0 where
  pub above : 0 < number
  pub within : number ≤ length tree.nodes

pub is_number : (tree : Tree) (number : ℕ) → is_in_use tree number ≡ true → IsNumber tree number
is_number tree zero used = absurd (false≢true used)
is_number tree (suc before) used =
    elim (cases_lt before (length tree.nodes)) [
      | inl lt ↦ record { above = omega arith; within = omega (arith, lt) }
      | inr past ↦ absurd (false≢true (sym (ap is_some (get_or_past tree.nodes before None past)) ∙ used))
    ]

in_use_if_directory : (there : Option Node) → is_directory_in there ≡ true → is_some there ≡ true
in_use_if_directory None is = is
in_use_if_directory (Some node) is = refl

pub directory_in_use : (tree : Tree) (number : ℕ) → is_directory tree number ≡ true → is_in_use tree number ≡ true
directory_in_use tree number is = in_use_if_directory (node_at tree number) is

pub directory_number : (tree : Tree) (number : ℕ) → is_directory tree number ≡ true → IsNumber tree number
directory_number tree number is = is_number tree number (directory_in_use tree number is)

pub length-with_node : (tree : Tree) (n : ℕ) (there : Option Node) → length (with_node tree n there).nodes ≡ length tree.nodes
length-with_node tree zero there = refl
length-with_node tree (suc before) there = length-set tree.nodes before there

pub blocks-with_node : (tree : Tree) (n : ℕ) (there : Option Node) → (with_node tree n there).blocks ≡ tree.blocks
blocks-with_node tree zero there = refl
blocks-with_node tree (suc before) there = refl

pub node_at-with_node : (tree : Tree) (n : ℕ) (there : Option Node) → IsNumber tree n → node_at (with_node tree n there) n ≡ there
node_at-with_node tree zero there is = absurd (omega (arith, is.above))
node_at-with_node tree (suc before) there is = get_or-set_same tree.nodes before there None (omega (arith, is.within))

pub node_at-with_node_other : (tree : Tree) (n m : ℕ) (there : Option Node) → m ≢ n → node_at (with_node tree n there) m ≡ node_at tree m
node_at-with_node_other tree n zero there other = refl
node_at-with_node_other tree zero (suc m) there other = refl
node_at-with_node_other tree (suc n) (suc m) there other = get_or-set_other tree.nodes n m there None (λ e. other (ap suc e))

-- what is seen of each node stays where it stays at the node that changes
pub seen_same : {X : Type 0} (f : Option Node → X) (tree : Tree) (n : ℕ) (there : Option Node) → f there ≡ f (node_at tree n) → (m : ℕ) → f (node_at (with_node tree n there) m) ≡ f (node_at tree m)
seen_same f tree zero there same m = refl
seen_same f tree (suc n) there same zero = refl
seen_same f tree (suc n) there same (suc m) =
    elim (cases_eq m n) [
      | inl e ↦ elim (cases_lt n (length tree.nodes)) [
        | inl lt ↦ ap (λ (k : ℕ). f (get_or (set tree.nodes n there) k None)) e ∙ ap f (get_or-set_same tree.nodes n there None lt) ∙ same ∙ ap (λ (k : ℕ). f (get_or tree.nodes k None)) (sym e)
        | inr past ↦ ap (λ (nodes : List (Option Node)). f (get_or nodes m None)) (set_past tree.nodes n there past)
      ]
      | inr other ↦ ap f (get_or-set_other tree.nodes n m there None other)
    ]

-- a sum over all nodes changes by that of one
pub summed : (f : Option Node → ℕ) (tree : Tree) (n : ℕ) (there : Option Node) → IsNumber tree n
    → sum_by f (with_node tree n there).nodes + f (node_at tree n) ≡ sum_by f tree.nodes + f there
summed f tree zero there is = absurd (omega (arith, is.above))
summed f tree (suc before) there is = sum_by-set f tree.nodes before there None (omega (arith, is.within))

-- and so it stays where it stays at that one
pub summed_same : (f : Option Node → ℕ) (tree : Tree) (n : ℕ) (there : Option Node) → IsNumber tree n → f there ≡ f (node_at tree n)
    → sum_by f (with_node tree n there).nodes ≡ sum_by f tree.nodes
summed_same f tree n there is same = omega (arith, summed f tree n there is, same)

-- ---- what is found, what is free

-- where a name is found there is a directory
found_in : (there : Option Node) (name : List ℕ) (number : ℕ) → found_among (entries_in there) name ≡ Some number → is_directory_in there ≡ true
found_in None name number at = absurd (none-some number at)
found_in (Some node) name number at = found_in_content node.content at
  where
    found_in_content : (content : Content) → found_among (entries_of content) name ≡ Some number → is_directory_in (Some (record { links = 0; content = content })) ≡ true
    found_in_content (File bytes) at = absurd (none-some number at)
    found_in_content (Directory parent entries) at = refl
    found_in_content SocketName at = absurd (none-some number at)
    found_in_content Fifo at = absurd (none-some number at)

pub found_in_directory : (tree : Tree) (dir : ℕ) (name : List ℕ) (number : ℕ) → found tree dir name ≡ Some number → is_directory tree dir ≡ true
found_in_directory tree dir name number at = found_in (node_at tree dir) name number at

-- the free node of the lowest number
first_none : (nodes : List (Option Node)) (from number : ℕ) → position_from is_none from nodes ≡ Some number → (k : ℕ) × (k < length nodes) × (number ≡ from + k) × (get_or nodes k None ≡ None)
first_none [] from number at = absurd (none-some number at)
first_none (None ∷ nodes) from number at = (0, omega arith, sym (same_Some from number at) ∙ sym (add-zero from), refl)
first_none (Some node ∷ nodes) from number at =
    let rest = first_none nodes (from + 1) number at in
    (suc rest.0, omega (arith, rest.1), omega (arith, rest.2), rest.3)

pub free_is : (tree : Tree) (number : ℕ) → free_node tree ≡ Some number → IsNumber tree number × (node_at tree number ≡ None)
free_is tree number at =
    let first = first_none tree.nodes 1 number at in
    let place : number ≡ suc first.0 = omega (arith, first.2) in
    (record { above = omega (arith, place); within = omega (arith, place, first.1) }, ap (node_at tree) place ∙ first.3)

-- nothing stands in a list of none
pub none_in : (count place : ℕ) → get_or (replicate count (let none : Option Node = None in none)) place None ≡ None
none_in count place =
    elim (cases_lt place count) [
      | inl lt ↦ get_or-replicate count place None None lt
      | inr past ↦ get_or_past (replicate count None) place None (omega (arith, past, length-replicate {A = Option Node} count None))
    ]
