-- A tree in the midst of a rename, where links and entries don't agree yet.
use Rattle.std.proofs.Common.{◌≡◌, ◌≢◌, ℕ, ◌+◌, ◌*◌, ◌<◌, ◌≤◌, Bool, true, false, inl, inr, List, [], length, Option, Some, None, sym, ap, subst, ◌∙◌, arith}
use Rattle.std.proofs.lemmas.List.{length-set}
use Rattle.std.proofs.lemmas.Option.{none-some}
use Rattle.std.proofs.lemmas.Bool.{cases_eq}
use Rattle.kabi_types.specs.declared.inodes.DirEntry.{DirEntry}
use Rattle.posix_defs.specs.DiskContents.{entry_for}
use Rattle.posix_defs.specs.Tree.{Node, Tree, node_at, is_directory, is_directory_in, links_at, entries_in, entries_at, found, found_among}
use Rattle.posix_defs.specs.TreeChanges.{place_of, entry_put, entry_taken, entry_aimed, with_entries, link_dropped}
use Rattle.posix_defs.specs.IsTree.{IsTree}
use Rattle.posix_defs.proofs.TreeNodes.{found_in_directory}
use Rattle.tree_laws.proofs.EntryLists.{stands_at, aimed_are}
use Rattle.tree_laws.proofs.FoundNames.{found_standing}
use Rattle.tree_laws.proofs.TreeFacts.{linked_in_use}
use Rattle.tree_laws.proofs.TreeSteps.{AreNodes, Relisted, relisted, Dropped, dropped}
use Rattle.tree_laws.proofs.TreeKeeps.{entries_are, entries_fit, found_named}
use Rattle.tree_laws.proofs.TreeRenames.{aimed_list}

-- a directory that has an entry doesn't go
stays_there : (tree : Tree) (dir : ℕ) (name : List ℕ) (number gone : ℕ) → found tree dir name ≡ Some number → (is_directory tree gone ≡ true → entries_at tree gone ≡ []) → dir ≢ gone
stays_there tree dir name number gone at empty same =
    let is_gone : is_directory tree gone ≡ true = ap (is_directory tree) (sym same) ∙ found_in_directory tree dir name number at in
    none-some number (sym (ap (λ (es : List DirEntry). found_among es name) (ap (entries_at tree) same ∙ empty is_gone)) ∙ at)

abbrev aimed : Tree → ℕ → ℕ → List ℕ → Tree
aimed tree number to new = with_entries tree to (entry_aimed new number)

abbrev let_go : Tree → ℕ → ℕ → List ℕ → ℕ → Bool → Tree
let_go tree number to new replaced opened = link_dropped (aimed tree number to new) replaced opened

record Steps (tree t1 t2 : Tree) (dir to number replaced : ℕ) (new : List ℕ) : Type 0 where
  aim : Relisted tree t1 to (entry_aimed new number (entries_at tree to))
  link : Dropped t1 t2 replaced
  to_stays : to ≢ replaced
  dir_stays : dir ≢ replaced

steps : (tree : Tree) (dir : ℕ) (name : List ℕ) (number to : ℕ) (new : List ℕ) (replaced : ℕ) (opened : Bool) → IsTree tree → found tree dir name ≡ Some number → found tree to new ≡ Some replaced
    → (is_directory tree replaced ≡ true → (entries_at tree replaced ≡ []) × (opened ≡ false)) → Steps tree (aimed tree number to new) (let_go tree number to new replaced opened) dir to number replaced new
steps tree dir name number to new replaced opened is at at_new empty =
    let entries : List DirEntry = entries_at tree to in
    let is_to = found_in_directory tree to new replaced at_new in
    let stands_new = stands_at entries new replaced at_new in
    let t1 : Tree = aimed tree number to new in
    let r1 = relisted tree to (entry_aimed new number) is_to in
    let are1 : AreNodes t1 = r1.nodes is.nodes (aimed_are entries new replaced number (entries_are tree to is is_to) stands_new)
    (omega (arith, length-set entries (place_of new entries) (entry_for number new), entries_fit tree to is is_to)) in
    let linked : 0 < links_at t1 replaced = omega (arith, r1.links replaced, is.links replaced, found_named tree to new replaced at_new) in
    let to_stays = stays_there tree to new replaced replaced at_new (λ d. (empty d).0) in
    let empty1 : is_directory t1 replaced ≡ true → (entries_at t1 replaced ≡ []) × (opened ≡ false) = λ dir1.
    let gone = empty (sym (r1.directories replaced) ∙ dir1) in
    (ap entries_in (r1.others replaced (λ e. to_stays (sym e))) ∙ gone.0, gone.1) in
    record {
      aim = r1;
      link = dropped t1 replaced opened are1 (linked_in_use (node_at t1 replaced) linked) linked empty1;
      to_stays = to_stays;
      dir_stays = stays_there tree dir name number replaced at (λ d. (empty d).0);
    }

pub over_steps : (tree : Tree) (dir : ℕ) (name : List ℕ) (number to : ℕ) (new : List ℕ) (replaced : ℕ) (opened : Bool) → IsTree tree → found tree dir name ≡ Some number → found tree to new ≡ Some replaced
    → number ≢ replaced → (is_directory tree replaced ≡ true → (entries_at tree replaced ≡ []) × (opened ≡ false))
    → (node_at (with_entries tree to (entry_aimed new number)) replaced ≡ node_at tree replaced)
    × (is_directory (link_dropped (with_entries tree to (entry_aimed new number)) replaced opened) dir ≡ true)
    × (found (link_dropped (with_entries tree to (entry_aimed new number)) replaced opened) dir name ≡ Some number)
    × (is_directory (with_entries (link_dropped (with_entries tree to (entry_aimed new number)) replaced opened) dir (entry_taken name)) number ≡ is_directory tree number)
over_steps tree dir name number to new replaced opened is at at_new apart empty =
    let t1 : Tree = aimed tree number to new in
    let t2 : Tree = let_go tree number to new replaced opened in
    let s = steps tree dir name number to new replaced opened is at at_new empty in
    let list = aimed_list tree t1 t2 dir to number replaced name new is at at_new apart s.aim s.link in
    let is_dir : is_directory t2 dir ≡ true = ap is_directory_in (s.link.others dir s.dir_stays) ∙ s.aim.directories dir ∙ found_in_directory tree dir name number at in
    let r3 = relisted t2 dir (entry_taken name) is_dir in (
      s.aim.others replaced (λ e. s.to_stays (sym e)),
      is_dir,
      found_standing (entries_at t2 dir) name number list.stands,
      r3.directories number ∙ ap is_directory_in (s.link.others number apart) ∙ s.aim.directories number,
    )

pub to_steps : (tree : Tree) (dir : ℕ) (name : List ℕ) (number to : ℕ) (new : List ℕ) → found tree dir name ≡ Some number → is_directory tree to ≡ true → dir ≢ to
    → (is_directory (with_entries tree to (entry_put new number)) dir ≡ true)
    × (found (with_entries tree to (entry_put new number)) dir name ≡ Some number)
    × (is_directory (with_entries (with_entries tree to (entry_put new number)) dir (entry_taken name)) number ≡ is_directory tree number)
to_steps tree dir name number to new at is_to apart =
    let t1 : Tree = with_entries tree to (entry_put new number) in
    let r1 = relisted tree to (entry_put new number) is_to in
    let is_dir : is_directory t1 dir ≡ true = r1.directories dir ∙ found_in_directory tree dir name number at in
    let r2 = relisted t1 dir (entry_taken name) is_dir in (
      is_dir,
      ap (λ (es : List DirEntry). found_among es name) (ap entries_in (r1.others dir apart)) ∙ at,
      r2.directories number ∙ r1.directories number,
    )
