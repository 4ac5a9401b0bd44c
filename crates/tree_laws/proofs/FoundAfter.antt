-- What is found after a node was made, a name went, or a rename.
use Rattle.std.proofs.Common.{◌≡◌, ◌≢◌, ℕ, Bool, true, false, inl, inr, List, [], eqb, Option, Some, None, Ok, sym, ap, subst, ◌∙◌}
use Rattle.std.proofs.lemmas.Bool.{cases_eq, cond-true, cond-false, false≢true, eq-eqb, ne_eqb}
use Rattle.std.proofs.lemmas.Option.{same_Some, none-some}
use Rattle.kabi_types.specs.declared.inodes.DirEntry.{DirEntry}
use Rattle.posix_defs.specs.Tree.{Content, Tree, node_at, with_node, is_directory, is_directory_in, entries_in, entries_at, found, found_among}
use Rattle.posix_defs.specs.TreeChanges.{entry_put, entry_taken, entry_aimed, entry_renamed, with_entries, with_new, make, unlink, hung_if_directory, rename_over, rename_to}
use Rattle.posix_defs.specs.IsTree.{IsEntryName, IsNewContent, IsTree}
use Rattle.tree_laws.proofs.EntryLists.{StandsAt, stands_at, renamed_are}
use Rattle.tree_laws.proofs.FoundNames.{found-put, found-taken, found-taken_other, found-aimed, found-renamed, found-renamed_old}
use Rattle.tree_laws.proofs.TreeSteps.{relisted, added, hung_is}
use Rattle.posix_defs.proofs.TreeNodes.{found_in_directory, free_is}
use Rattle.tree_laws.proofs.TreeKeeps.{entries_are, made_is, new_entries_none, unlinked}
use Rattle.tree_laws.proofs.TreeRenames.{aimed_list, renamed_over}

abbrev name_in : List ℕ → List DirEntry → Option ℕ
name_in name entries = found_among entries name

-- what is made is found, and is what was made
pub made_found : (tree : Tree) (dir : ℕ) (name : List ℕ) (content : Content) (number : ℕ) (after : Tree) → is_directory tree dir ≡ true → found tree dir name ≡ None → IsNewContent dir content
    → make tree dir name content ≡ Ok (number, after) → (found after dir name ≡ Some number) × (node_at after number ≡ Some (record { links = 1; content = content }))
made_found tree dir name content number after is_dir none new answered =
    let made = made_is tree dir name content number after answered in
    let free = free_is tree number made.0 in
    let between : Tree = with_node tree number (Some (record { links = 1; content = content })) in
    let add = added tree number content free.0 free.1 (new_entries_none dir content new) in
    let other : dir ≢ number = λ same. false≢true (sym (ap is_directory_in free.1) ∙ ap (is_directory tree) (sym same) ∙ is_dir) in
    let listed = relisted between dir (entry_put name number) (ap is_directory_in (add.others dir other) ∙ is_dir) in
    let entries : entries_at (with_new tree number dir name content) dir ≡ entry_put name number (entries_at tree dir) = listed.here ∙ ap (entry_put name number) (add.entries dir) in (
      ap (λ (t : Tree). found t dir name) made.2 ∙ ap (name_in name) entries ∙ found-put (entries_at tree dir) name number none,
      ap (λ (t : Tree). node_at t number) made.2 ∙ listed.others number (λ e. other (sym e)) ∙ add.here,
    )

-- a name that went is free
pub unlinked_free : (tree : Tree) (dir : ℕ) (name : List ℕ) (number : ℕ) (opened : Bool) → IsTree tree → found tree dir name ≡ Some number
    → (is_directory tree number ≡ true → (entries_at tree number ≡ []) × (opened ≡ false)) → found (unlink tree dir name number opened) dir name ≡ None
unlinked_free tree dir name number opened is at empty =
    let parts = unlinked tree dir name number opened is at empty in
    ap (name_in name) (parts.link.entries dir ∙ parts.listed.here)
    ∙ found-taken (entries_at tree dir) name number (entries_are tree dir is (found_in_directory tree dir name number at)) (stands_at (entries_at tree dir) name number at)

-- over a name that is there the new name leads to the node
pub over_found : (tree : Tree) (dir : ℕ) (name : List ℕ) (number to : ℕ) (new : List ℕ) (replaced : ℕ) (opened : Bool) → IsTree tree → found tree dir name ≡ Some number → found tree to new ≡ Some replaced
    → number ≢ replaced → (is_directory tree replaced ≡ true → (entries_at tree replaced ≡ []) × (opened ≡ false)) → found (rename_over tree dir name number to new replaced opened) to new ≡ Some number
over_found tree dir name number to new replaced opened is at at_new other empty =
    let p = renamed_over tree dir name number to new replaced opened is at at_new empty in
    let entries : List DirEntry = entries_at tree to in
    let stands_new = stands_at entries new replaced at_new in
    let aim_found = found-aimed entries new replaced number stands_new in
    elim (cases_eq to dir) [
      | inl same ↦
          let aimed = aimed_list tree p.t1 p.t2 dir to number replaced name new is at at_new other p.aim p.link in
          let list : entries_at p.t2 dir ≡ entry_aimed new number entries = p.link.entries dir ∙ ap (entries_at p.t1) (sym same) ∙ p.aim.here in
          let new_stands : StandsAt (entries_at p.t2 dir) new number = stands_at (entries_at p.t2 dir) new number (ap (name_in new) list ∙ aim_found) in
          let differs : new ≢ name = λ e. other (same_Some number replaced (sym at ∙ ap (found tree dir) (sym e) ∙ ap (λ (n : ℕ). found tree n new) (sym same) ∙ at_new)) in
          ap (name_in new) (ap (entries_at (rename_over tree dir name number to new replaced opened)) same ∙ p.hung.entries dir ∙ p.taken.here)
          ∙ found-taken_other (entries_at p.t2 dir) name new number number aimed.are aimed.stands new_stands differs
      | inr apart ↦ ap (name_in new) (p.hung.entries to ∙ ap entries_in (p.taken.others to apart) ∙ p.link.entries to ∙ p.aim.here) ∙ aim_found
    ]

-- and the old name is free
pub over_free : (tree : Tree) (dir : ℕ) (name : List ℕ) (number to : ℕ) (new : List ℕ) (replaced : ℕ) (opened : Bool) → IsTree tree → found tree dir name ≡ Some number → found tree to new ≡ Some replaced
    → number ≢ replaced → (is_directory tree replaced ≡ true → (entries_at tree replaced ≡ []) × (opened ≡ false)) → found (rename_over tree dir name number to new replaced opened) dir name ≡ None
over_free tree dir name number to new replaced opened is at at_new other empty =
    let p = renamed_over tree dir name number to new replaced opened is at at_new empty in
    let aimed = aimed_list tree p.t1 p.t2 dir to number replaced name new is at at_new other p.aim p.link in
    ap (name_in name) (p.hung.entries dir ∙ p.taken.here) ∙ found-taken (entries_at p.t2 dir) name number aimed.are aimed.stands

-- to a name that was missing: the new name leads to the node, and the old one is free
pub to_found : (tree : Tree) (dir : ℕ) (name : List ℕ) (number to : ℕ) (new : List ℕ) → IsTree tree → found tree dir name ≡ Some number → is_directory tree to ≡ true → found tree to new ≡ None → IsEntryName new
    → (found (rename_to tree dir name number to new) to new ≡ Some number) × (found (rename_to tree dir name number to new) dir name ≡ None)
to_found tree dir name number to new is at is_to free valid =
    let is_dir = found_in_directory tree dir name number at in
    let entries : List DirEntry = entries_at tree dir in
    let stands = stands_at entries name number at in
    let are = entries_are tree dir is is_dir in
    let in_place : Tree = with_entries tree dir (entry_renamed name new number) in
    let t1 : Tree = with_entries tree to (entry_put new number) in
    let t2 : Tree = with_entries t1 dir (entry_taken name) in
    let moved : Tree = hung_if_directory t2 number to in
    let P : Tree → Type 0 = λ t. (found t to new ≡ Some number) × (found t dir name ≡ None) in
    elim (cases_eq dir to) [
      | inl same ↦
          let r = relisted tree dir (entry_renamed name new number) is_dir in
          let free_here : found tree dir new ≡ None = ap (λ (n : ℕ). found tree n new) same ∙ free in
          let differs : new ≢ name = λ e. none-some number (sym free_here ∙ ap (found tree dir) e ∙ at) in
          subst P (sym (cond-true (eqb dir to) in_place moved (eq-eqb dir to same))) (
            ap (λ (n : ℕ). found in_place n new) (sym same) ∙ ap (name_in new) r.here ∙ found-renamed entries name new number (renamed_are entries name new number are stands valid free_here) stands,
            ap (name_in name) r.here ∙ found-renamed_old entries name new number are stands differs,
          )
      | inr apart ↦
          let r1 = relisted tree to (entry_put new number) is_to in
          let r2 = relisted t1 dir (entry_taken name) (r1.directories dir ∙ is_dir) in
          let h = hung_is t2 number to in
          let list : entries_at t1 dir ≡ entries = ap entries_in (r1.others dir apart) in
          subst P (sym (cond-false (eqb dir to) in_place moved (ne_eqb dir to apart))) (
            ap (name_in new) (h.entries to ∙ ap entries_in (r2.others to (λ e. apart (sym e))) ∙ r1.here) ∙ found-put (entries_at tree to) new number free,
            ap (name_in name) (h.entries dir ∙ r2.here ∙ ap (entry_taken name) list) ∙ found-taken entries name number are stands,
          )
    ]
