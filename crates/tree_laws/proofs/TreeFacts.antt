-- What follows of a tree: what an entry names is in use, and who is a directory's parent.
use Rattle.std.proofs.Common.{◌≡◌, ℕ, zero, suc, ◌<◌, ◌≤◌, Bool, true, cond, inl, inr, List, [], ◌∷◌, length, Option, Some, None, is_some, Result, Ok, refl, sym, ap, subst, ◌∙◌, arith, if◌then◌else◌}
use Rattle.std.specs.Str.{bytes_eq}
use Rattle.std.specs.Option.{option_map}
use Rattle.std.specs.List.{find, count_by}
use Rattle.std.proofs.lemmas.Bool.{cases_Bool, cond-true, cond-false, eq-eqb, cases_lt}
use Rattle.std.proofs.lemmas.Option.{same_Some, none-some}
use Rattle.std.proofs.lemmas.List.{get_or_past}
use Rattle.std.proofs.lemmas.List.Sums.{sum_by-cons, get_or-le-sum_by}
use Rattle.kabi_types.specs.declared.errnos.Errno.{Errno}
use Rattle.kabi_types.specs.declared.inodes.DirEntry.{DirEntry}
use Rattle.posix_defs.specs.DiskContents.{own_name, parent_name}
use Rattle.posix_defs.specs.Tree.{Node, Tree, node_at, links_in, is_in_use, is_directory, entries_at, parent_at, has_name, found_among, found}
use Rattle.posix_defs.specs.IsTree.{IsTree, names_node, named_in, names_of}
use Rattle.posix_defs.specs.Paths.{on_from, step}

abbrev one : Bool → ℕ
one b = cond b 1 0

-- an entry that is found counts
pub found_counts : (entries : List DirEntry) (name : List ℕ) (number : ℕ) → found_among entries name ≡ Some number → 0 < count_by (names_node number) entries
found_counts [] name number is = absurd (none-some number is)
found_counts (entry ∷ entries) name number is =
    let cons = sum_by-cons (λ e. one (names_node number e)) entry entries in
    elim (cases_Bool (has_name name entry)) [
      | inl here ↦
          let same : entry.node ≡ number = same_Some entry.node number (sym (ap (option_map (λ e. e.node)) (cond-true (has_name name entry) (Some entry) (find (has_name name) entries) here)) ∙ is) in
          let one_here : one (names_node number entry) ≡ 1 = ap one (eq-eqb entry.node number same) in
          omega (arith, cons, one_here)
      | inr not_here ↦
          let there : found_among entries name ≡ Some number = sym (ap (option_map (λ e. e.node)) (cond-false (has_name name entry) (Some entry) (find (has_name name) entries) not_here)) ∙ is in
          omega (arith, cons, found_counts entries name number there)
    ]

-- what is named in one node is named in the tree
pub named_at-le : (tree : Tree) (dir number : ℕ) → named_in number (node_at tree dir) ≤ names_of tree number
named_at-le tree zero number = omega arith
named_at-le tree (suc before) number =
    elim (cases_lt before (length tree.nodes)) [
      | inl lt ↦ get_or-le-sum_by (named_in number) tree.nodes before None lt
      | inr past ↦
          let none : named_in number (node_at tree (suc before)) ≡ 0 = ap (named_in number) (get_or_past tree.nodes before None past) in
          omega (arith, none)
    ]

-- a node that is named or is the root has a link, so it is in use
pub linked_in_use : (there : Option Node) → 0 < links_in there → is_some there ≡ true
linked_in_use None pos = absurd (omega (arith, pos))
linked_in_use (Some node) pos = refl

pub found_in_use : (tree : Tree) (dir : ℕ) (name : List ℕ) (number : ℕ) → IsTree tree → found tree dir name ≡ Some number → is_in_use tree number ≡ true
found_in_use tree dir name number is at =
    let counted = found_counts (entries_at tree dir) name number at in
    linked_in_use (node_at tree number) (omega (arith, counted, named_at-le tree dir number, is.links number))

-- a component that is no fault leads from a directory to a directory
pub step_to_directory : (tree : Tree) (dir : ℕ) (name : List ℕ) (to : ℕ) → IsTree tree → is_directory tree dir ≡ true → step tree dir name ≡ Ok to → is_directory tree to ≡ true
step_to_directory tree dir name to is at leads =
    elim (cases_Bool (bytes_eq name own_name)) [
      | inl own ↦
          let same : ◌≡◌ {A = Result ℕ Errno} (Ok dir) (Ok to) = sym (cond-true (bytes_eq name own_name) (Ok dir) _ own) ∙ leads in
          subst (λ (n : ℕ). is_directory tree n ≡ true) (cc) at
      | inr not_own ↦
          let behind = sym (cond-false (bytes_eq name own_name) (Ok dir) (if bytes_eq name parent_name then Ok (parent_at tree dir) else on_from tree (found tree dir name)) not_own) ∙ leads in
          elim (cases_Bool (bytes_eq name parent_name)) [
            | inl up ↦
                let same : ◌≡◌ {A = Result ℕ Errno} (Ok (parent_at tree dir)) (Ok to) = sym (cond-true (bytes_eq name parent_name) (Ok (parent_at tree dir)) _ up) ∙ behind in
                subst (λ (n : ℕ). is_directory tree n ≡ true) (cc) (is.parents dir at)
            | inr not_up ↦
                found_directory tree (found tree dir name) to (sym (cond-false (bytes_eq name parent_name) (Ok (parent_at tree dir)) (on_from tree (found tree dir name)) not_up) ∙ behind)
          ]
    ]
  where
    found_directory : (tree : Tree) (at : Option ℕ) (to : ℕ) → on_from tree at ≡ Ok to → is_directory tree to ≡ true
    found_directory tree None to leads = absurd (cc)
    found_directory tree (Some number) to leads =
        elim (cases_Bool (is_directory tree number)) [
          | inl is ↦
              let same : ◌≡◌ {A = Result ℕ Errno} (Ok number) (Ok to) = sym (cond-true (is_directory tree number) (Ok number) _ is) ∙ leads in
              subst (λ (n : ℕ). is_directory tree n ≡ true) (cc) is
          | inr none ↦
              let wrong = sym (cond-false (is_directory tree number) (Ok number) _ none) ∙ leads in
              absurd (cc)
        ]
