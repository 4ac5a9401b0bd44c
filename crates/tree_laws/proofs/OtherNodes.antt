-- Names and nodes that a change of a tree doesn't touch.
use Rattle.std.proofs.Common.{◌≡◌, ◌≢◌, ℕ, ◌+◌, Bool, true, false, cond, ◌⊎◌, inl, inr, List, [], take, eqb, ltb, Option, Some, None, Result, Ok, Err, refl, sym, ap, subst, ◌∙◌, arith}
use Rattle.std.specs.Option.{option_map}
use Rattle.std.proofs.lemmas.Bool.{cases_Bool, cases_eq, cond-true, cond-false, false≢true, false_from_ne_true, eq-eqb, ne_eqb, eqb-true}
use Rattle.kabi_types.specs.declared.errnos.Errno.{Errno}
use Rattle.kabi_types.specs.declared.errnos.Errno.TheVariants.{EFBIG, EMLINK, ENOSPC}
use Rattle.kabi_types.specs.declared.inodes.DirEntry.{DirEntry}
use Rattle.posix_defs.specs.DiskFormat.{greatest_size, blocks_of}
use Rattle.posix_defs.specs.FileBytes.{resized, overwritten}
use Rattle.posix_defs.specs.Tree.{Content, File, Directory, SocketName, Fifo, Node, Tree, node_at, with_node, is_directory, is_directory_in, is_directory_content, links_at, entries_of, entries_in, entries_at, found, found_among}
use Rattle.posix_defs.specs.TreeChanges.{entry_put, entry_taken, entry_aimed, entry_renamed, with_content, with_bytes, with_bytes_in, with_entries, with_new, link_added, link_dropped, hung_if_directory, hung, under, most_links, takes_entry, blocks_for, make, link, unlink, rename_over, rename_to, write, resize, closed}
use Rattle.posix_defs.specs.IsTree.{IsNewContent, IsTree}
use Rattle.posix_defs.proofs.TreeNodes.{found_in_directory, free_is, node_at-with_node_other, seen_same}
use Rattle.tree_laws.specs.Untouched.{IsElsewhere}
use Rattle.tree_laws.proofs.EntryLists.{StandsAt, stands_at}
use Rattle.tree_laws.proofs.TreeSteps.{Relisted, relisted, added, hung_is}
use Rattle.tree_laws.proofs.Climbing.{one_link}
use Rattle.tree_laws.proofs.TreeKeeps.{entries_are, made_is, new_entries_none, unlinked, same_Ok, err-ok}
use Rattle.tree_laws.proofs.TreeRenames.{aimed_list, renamed_over}
use Rattle.tree_laws.proofs.FileKeeps.{wrote}
use Rattle.tree_laws.proofs.OtherNames.{put_other, taken_other, aimed_other, renamed_other}

-- a change of one directory leaves what is found elsewhere
elsewhere : (tree after : Tree) (dir other : ℕ) (name called : List ℕ) → ((m : ℕ) → m ≢ dir → entries_at after m ≡ entries_at tree m) → (called ≢ name → found after dir called ≡ found tree dir called)
    → IsElsewhere dir name other called → found after other called ≡ found tree other called
elsewhere tree after dir other name called others here which = elim (cases_eq other dir) [
  | inl same ↦
      let differs : called ≢ name = elim which [ inl apart ↦ absurd (apart same) | inr d ↦ d ] in
      ap (λ (n : ℕ). found after n called) same ∙ here differs ∙ ap (λ (n : ℕ). found tree n called) (sym same)
  | inr apart ↦ ap (λ (es : List DirEntry). found_among es called) (others other apart)
]

relisted_others : (tree after : Tree) (dir : ℕ) (entries : List DirEntry) → Relisted tree after dir entries → (m : ℕ) → m ≢ dir → entries_at after m ≡ entries_at tree m
relisted_others tree after dir entries r m apart = ap entries_in (r.others m apart)

-- ---- a node is made

pub make_names : (tree : Tree) (dir : ℕ) (name : List ℕ) (content : Content) (number : ℕ) (after : Tree) → is_directory tree dir ≡ true → IsNewContent dir content → make tree dir name content ≡ Ok (number, after)
    → (other : ℕ) (called : List ℕ) → IsElsewhere dir name other called → found after other called ≡ found tree other called
make_names tree dir name content number after is_dir new answered other called which =
    let made = made_is tree dir name content number after answered in
    let free = free_is tree number made.0 in
    let between : Tree = with_node tree number (Some (record { links = 1; content = content })) in
    let last : Tree = with_new tree number dir name content in
    let add = added tree number content free.0 free.1 (new_entries_none dir content new) in
    let apart : dir ≢ number = λ same. false≢true (sym (ap is_directory_in free.1) ∙ ap (is_directory tree) (sym same) ∙ is_dir) in
    let listed = relisted between dir (entry_put name number) (ap is_directory_in (add.others dir apart) ∙ is_dir) in
    ap (λ (t : Tree). found t other called) made.2
    ∙ elsewhere tree last dir other name called (λ m off. relisted_others between last dir (entry_put name number (entries_at between dir)) listed m off ∙ add.entries m)
    (λ differs. ap (λ (es : List DirEntry). found_among es called) (listed.here ∙ ap (entry_put name number) (add.entries dir)) ∙ put_other (entries_at tree dir) name called number differs) which

pub make_nodes : (tree : Tree) (dir : ℕ) (name : List ℕ) (content : Content) (number : ℕ) (after : Tree) → is_directory tree dir ≡ true → IsNewContent dir content → make tree dir name content ≡ Ok (number, after)
    → (m : ℕ) → m ≢ dir → m ≢ number → node_at after m ≡ node_at tree m
make_nodes tree dir name content number after is_dir new answered m off_dir off =
    let made = made_is tree dir name content number after answered in
    let free = free_is tree number made.0 in
    let between : Tree = with_node tree number (Some (record { links = 1; content = content })) in
    let add = added tree number content free.0 free.1 (new_entries_none dir content new) in
    let apart : dir ≢ number = λ same. false≢true (sym (ap is_directory_in free.1) ∙ ap (is_directory tree) (sym same) ∙ is_dir) in
    let listed = relisted between dir (entry_put name number) (ap is_directory_in (add.others dir apart) ∙ is_dir) in
    ap (λ (t : Tree). node_at t m) made.2 ∙ listed.others m off_dir ∙ add.others m off

-- ---- a name goes

pub unlink_names : (tree : Tree) (dir : ℕ) (name : List ℕ) (number : ℕ) (opened : Bool) → IsTree tree → found tree dir name ≡ Some number
    → (is_directory tree number ≡ true → (entries_at tree number ≡ []) × (opened ≡ false)) → (other : ℕ) (called : List ℕ) → IsElsewhere dir name other called
    → found (unlink tree dir name number opened) other called ≡ found tree other called
unlink_names tree dir name number opened is at empty other called which =
    let parts = unlinked tree dir name number opened is at empty in
    let entries : List DirEntry = entries_at tree dir in
    elsewhere tree (unlink tree dir name number opened) dir other name called (λ m off. parts.link.entries m ∙ relisted_others tree parts.between dir (entry_taken name entries) parts.listed m off)
    (λ differs. ap (λ (es : List DirEntry). found_among es called) (parts.link.entries dir ∙ parts.listed.here)
    ∙ taken_other entries name called number (entries_are tree dir is (found_in_directory tree dir name number at)) (stands_at entries name number at) differs) which

pub unlink_nodes : (tree : Tree) (dir : ℕ) (name : List ℕ) (number : ℕ) (opened : Bool) → IsTree tree → found tree dir name ≡ Some number
    → (is_directory tree number ≡ true → (entries_at tree number ≡ []) × (opened ≡ false)) → (m : ℕ) → m ≢ dir → m ≢ number → node_at (unlink tree dir name number opened) m ≡ node_at tree m
unlink_nodes tree dir name number opened is at empty m off_dir off =
    let parts = unlinked tree dir name number opened is at empty in
    parts.link.others m off ∙ parts.listed.others m off_dir

-- ---- a further name

pub link_is : (tree : Tree) (dir : ℕ) (name : List ℕ) (number : ℕ) (after : Tree) → link tree dir name number ≡ Ok after → after ≡ with_entries (link_added tree number) dir (entry_put name number)
link_is tree dir name number after answered =
    let last : Tree = with_entries (link_added tree number) dir (entry_put name number) in
    let rest : Result Tree Errno = cond (takes_entry tree dir 0) (Ok last) (Err ENOSPC) in
    elim (cases_Bool (eqb (links_at tree number) most_links)) [
      | inl many ↦ absurd (err-ok EMLINK after (sym (cond-true (eqb (links_at tree number) most_links) (Err EMLINK) rest many) ∙ answered))
      | inr fewer ↦
          let is_rest : rest ≡ Ok after = sym (cond-false (eqb (links_at tree number) most_links) (Err EMLINK) rest fewer) ∙ answered in
          elim (cases_Bool (takes_entry tree dir 0)) [
            | inl takes ↦ sym (same_Ok last after (sym (cond-true (takes_entry tree dir 0) (Ok last) (Err ENOSPC) takes) ∙ is_rest))
            | inr full ↦ absurd (err-ok ENOSPC after (sym (cond-false (takes_entry tree dir 0) (Ok last) (Err ENOSPC) full) ∙ is_rest))
          ]
    ]

-- a link more leaves what a node holds
more_links : (there : Option Node) → (entries_in (option_map {T = Node} (λ node. record node { links = node.links + 1 }) there) ≡ entries_in there) × (is_directory_in (option_map {T = Node} (λ node. record node { links = node.links + 1 }) there) ≡ is_directory_in there)
more_links None = (refl, refl)
more_links (Some node) = (refl, refl)

pub added_entries : (tree : Tree) (number m : ℕ) → entries_at (link_added tree number) m ≡ entries_at tree m
added_entries tree number m = seen_same entries_in tree number (option_map {T = Node} (λ node. record node { links = node.links + 1 }) (node_at tree number)) (more_links (node_at tree number)).0 m

pub added_directories : (tree : Tree) (number m : ℕ) → is_directory (link_added tree number) m ≡ is_directory tree m
added_directories tree number m = seen_same is_directory_in tree number (option_map {T = Node} (λ node. record node { links = node.links + 1 }) (node_at tree number)) (more_links (node_at tree number)).1 m

pub link_names : (tree : Tree) (dir : ℕ) (name : List ℕ) (number : ℕ) (after : Tree) → is_directory tree dir ≡ true → link tree dir name number ≡ Ok after → (other : ℕ) (called : List ℕ) → IsElsewhere dir name other called
    → found after other called ≡ found tree other called
link_names tree dir name number after is_dir answered other called which =
    let between : Tree = link_added tree number in
    let last : Tree = with_entries between dir (entry_put name number) in
    let listed = relisted between dir (entry_put name number) (added_directories tree number dir ∙ is_dir) in
    ap (λ (t : Tree). found t other called) (link_is tree dir name number after answered)
    ∙ elsewhere tree last dir other name called (λ m off. relisted_others between last dir (entry_put name number (entries_at between dir)) listed m off ∙ added_entries tree number m)
    (λ differs. ap (λ (es : List DirEntry). found_among es called) (listed.here ∙ ap (entry_put name number) (added_entries tree number dir)) ∙ put_other (entries_at tree dir) name called number differs) which

pub link_nodes : (tree : Tree) (dir : ℕ) (name : List ℕ) (number : ℕ) (after : Tree) → is_directory tree dir ≡ true → link tree dir name number ≡ Ok after → (m : ℕ) → m ≢ dir → m ≢ number → node_at after m ≡ node_at tree m
link_nodes tree dir name number after is_dir answered m off_dir off =
    let between : Tree = link_added tree number in
    let listed = relisted between dir (entry_put name number) (added_directories tree number dir ∙ is_dir) in
    ap (λ (t : Tree). node_at t m) (link_is tree dir name number after answered) ∙ listed.others m off_dir
    ∙ node_at-with_node_other tree number m (option_map {T = Node} (λ node. record node { links = node.links + 1 }) (node_at tree number)) off

-- ---- a rename

pub over_names : (tree : Tree) (dir : ℕ) (name : List ℕ) (number to : ℕ) (new : List ℕ) (replaced : ℕ) (opened : Bool) → IsTree tree → found tree dir name ≡ Some number → found tree to new ≡ Some replaced
    → number ≢ replaced → (is_directory tree replaced ≡ true → (entries_at tree replaced ≡ []) × (opened ≡ false)) → (other : ℕ) (called : List ℕ) → IsElsewhere dir name other called → IsElsewhere to new other called
    → found (rename_over tree dir name number to new replaced opened) other called ≡ found tree other called
over_names tree dir name number to new replaced opened is at at_new apart empty other called off off_new =
    let after : Tree = rename_over tree dir name number to new replaced opened in
    let p = renamed_over tree dir name number to new replaced opened is at at_new empty in
    let aimed = aimed_list tree p.t1 p.t2 dir to number replaced name new is at at_new apart p.aim p.link in
    let stands_new = stands_at (entries_at tree to) new replaced at_new in
    elsewhere p.t2 after dir other name called (λ m far. p.hung.entries m ∙ relisted_others p.t2 p.t3 dir (entry_taken name (entries_at p.t2 dir)) p.taken m far)
    (λ differs. ap (λ (es : List DirEntry). found_among es called) (p.hung.entries dir ∙ p.taken.here) ∙ taken_other (entries_at p.t2 dir) name called number aimed.are aimed.stands differs) off
    ∙ elsewhere tree p.t2 to other new called (λ m far. p.link.entries m ∙ relisted_others tree p.t1 to (entry_aimed new number (entries_at tree to)) p.aim m far)
    (λ differs. ap (λ (es : List DirEntry). found_among es called) (p.link.entries to ∙ p.aim.here) ∙ aimed_other (entries_at tree to) new called replaced number stands_new differs) off_new

pub to_names : (tree : Tree) (dir : ℕ) (name : List ℕ) (number to : ℕ) (new : List ℕ) → IsTree tree → found tree dir name ≡ Some number → is_directory tree to ≡ true
    → (other : ℕ) (called : List ℕ) → IsElsewhere dir name other called → IsElsewhere to new other called → found (rename_to tree dir name number to new) other called ≡ found tree other called
to_names tree dir name number to new is at is_to other called off off_new =
    let is_dir = found_in_directory tree dir name number at in
    let entries : List DirEntry = entries_at tree dir in
    let stands = stands_at entries name number at in
    let are = entries_are tree dir is is_dir in
    let in_place : Tree = with_entries tree dir (entry_renamed name new number) in
    let t1 : Tree = with_entries tree to (entry_put new number) in
    let t2 : Tree = with_entries t1 dir (entry_taken name) in
    let moved : Tree = hung_if_directory t2 number to in
    elim (cases_eq dir to) [
      | inl same ↦
          let r = relisted tree dir (entry_renamed name new number) is_dir in
          let apart : other ≡ dir → called ≢ new = λ here. elim off_new [ inl far ↦ absurd (far (here ∙ same)) | inr d ↦ d ] in
          ap (λ (t : Tree). found t other called) (cond-true (eqb dir to) in_place moved (eq-eqb dir to same))
          ∙ elim (cases_eq other dir) [
            | inl here ↦
                let differs : called ≢ name = elim off [ inl far ↦ absurd (far here) | inr d ↦ d ] in
                ap (λ (n : ℕ). found in_place n called) here
                ∙ ap (λ (es : List DirEntry). found_among es called) r.here
                ∙ renamed_other entries name new called number stands differs (apart here)
                ∙ ap (λ (n : ℕ). found tree n called) (sym here)
            | inr far ↦ ap (λ (es : List DirEntry). found_among es called) (relisted_others tree in_place dir (entry_renamed name new number entries) r other far)
          ]
      | inr apart ↦
          let r1 = relisted tree to (entry_put new number) is_to in
          let r2 = relisted t1 dir (entry_taken name) (r1.directories dir ∙ is_dir) in
          let h = hung_is t2 number to in
          let list : entries_at t1 dir ≡ entries = ap entries_in (r1.others dir apart) in
          ap (λ (t : Tree). found t other called) (cond-false (eqb dir to) in_place moved (ne_eqb dir to apart))
          ∙ elsewhere t1 moved dir other name called (λ m far. h.entries m ∙ relisted_others t1 t2 dir (entry_taken name (entries_at t1 dir)) r2 m far)
          (λ differs. ap (λ (es : List DirEntry). found_among es called) (h.entries dir ∙ r2.here ∙ ap (entry_taken name) list) ∙ taken_other entries name called number are stands differs
          ∙ ap (λ (es : List DirEntry). found_among es called) (sym list)) off
          ∙ elsewhere tree t1 to other new called (λ m far. relisted_others tree t1 to (entry_put new number (entries_at tree to)) r1 m far)
          (λ differs. ap (λ (es : List DirEntry). found_among es called) r1.here ∙ put_other (entries_at tree to) new called number differs) off_new
    ]

pub over_nodes : (tree : Tree) (dir : ℕ) (name : List ℕ) (number to : ℕ) (new : List ℕ) (replaced : ℕ) (opened : Bool) → IsTree tree → found tree dir name ≡ Some number → found tree to new ≡ Some replaced
    → (is_directory tree replaced ≡ true → (entries_at tree replaced ≡ []) × (opened ≡ false)) → (m : ℕ) → m ≢ dir → m ≢ to → m ≢ replaced → (m ≢ number) ⊎ (is_directory tree number ≡ false)
    → node_at (rename_over tree dir name number to new replaced opened) m ≡ node_at tree m
over_nodes tree dir name number to new replaced opened is at at_new empty m off_dir off_to off_gone moved =
    let p = renamed_over tree dir name number to new replaced opened is at at_new empty in
    let before : node_at p.t3 m ≡ node_at tree m = p.taken.others m off_dir ∙ p.link.others m off_gone ∙ p.aim.others m off_to in
    elim (cases_eq m number) [
      | inl same ↦
          let file : is_directory tree number ≡ false = elim moved [ inl off ↦ absurd (off same) | inr file ↦ file ] in
          let still : is_directory p.t3 number ≡ false = ap (is_directory p.t3) (sym same) ∙ ap is_directory_in before ∙ ap (is_directory tree) same ∙ file in
          p.hung.file still m ∙ before
      | inr off ↦ p.hung.elsewhere m off ∙ before
    ]

pub to_nodes : (tree : Tree) (dir : ℕ) (name : List ℕ) (number to : ℕ) (new : List ℕ) → is_directory tree dir ≡ true → is_directory tree to ≡ true
    → (m : ℕ) → m ≢ dir → m ≢ to → (m ≢ number) ⊎ (is_directory tree number ≡ false) → node_at (rename_to tree dir name number to new) m ≡ node_at tree m
to_nodes tree dir name number to new is_dir is_to m off_dir off_to moved =
    let in_place : Tree = with_entries tree dir (entry_renamed name new number) in
    let t1 : Tree = with_entries tree to (entry_put new number) in
    let t2 : Tree = with_entries t1 dir (entry_taken name) in
    let last : Tree = hung_if_directory t2 number to in
    elim (cases_eq dir to) [
      | inl same ↦
          ap (λ (t : Tree). node_at t m) (cond-true (eqb dir to) in_place last (eq-eqb dir to same)) ∙ (relisted tree dir (entry_renamed name new number) is_dir).others m off_dir
      | inr apart ↦
          let r1 = relisted tree to (entry_put new number) is_to in
          let r2 = relisted t1 dir (entry_taken name) (r1.directories dir ∙ is_dir) in
          let h = hung_is t2 number to in
          let before : node_at t2 m ≡ node_at tree m = r2.others m off_dir ∙ r1.others m off_to in
          ap (λ (t : Tree). node_at t m) (cond-false (eqb dir to) in_place last (ne_eqb dir to apart)) ∙ elim (cases_eq m number) [
            | inl same ↦
                let file : is_directory tree number ≡ false = elim moved [ inl off ↦ absurd (off same) | inr file ↦ file ] in
                h.file (r2.directories number ∙ r1.directories number ∙ file) m ∙ before
            | inr off ↦ h.elsewhere m off ∙ before
          ]
    ]

-- ---- files

same_list : (change : List ℕ → List ℕ) (content : Content) → entries_of (with_bytes_in change content) ≡ entries_of content
same_list change (File bytes) = refl
same_list change (Directory parent entries) = refl
same_list change SocketName = refl
same_list change Fifo = refl

same_entries : (change : List ℕ → List ℕ) (there : Option Node) → entries_in (option_map {T = Node} (λ node. record node { content = with_bytes_in change node.content }) there) ≡ entries_in there
same_entries change None = refl
same_entries change (Some node) = same_list change node.content

bytes_names : (tree : Tree) (number : ℕ) (change : List ℕ → List ℕ) (other : ℕ) (called : List ℕ) → found (with_bytes tree number change) other called ≡ found tree other called
bytes_names tree number change other called =
    ap (λ (es : List DirEntry). found_among es called)
    (seen_same entries_in tree number (option_map {T = Node} (λ node. record node { content = with_bytes_in change node.content }) (node_at tree number)) (same_entries change (node_at tree number)) other)

bytes_nodes : (tree : Tree) (number : ℕ) (change : List ℕ → List ℕ) (m : ℕ) → m ≢ number → node_at (with_bytes tree number change) m ≡ node_at tree m
bytes_nodes tree number change m off = node_at-with_node_other tree number m (option_map {T = Node} (λ node. record node { content = with_bytes_in change node.content }) (node_at tree number)) off

pub write_names : (tree : Tree) (number at : ℕ) (bytes : List ℕ) (count : ℕ) (after : Tree) → write tree number at bytes ≡ Ok (count, after) → (other : ℕ) (called : List ℕ) → found after other called ≡ found tree other called
write_names tree number at bytes count after is other called = ap (λ (t : Tree). found t other called) (wrote tree number at bytes count after is).tree_after ∙ bytes_names tree number (overwritten at (take count bytes)) other called

pub write_nodes : (tree : Tree) (number at : ℕ) (bytes : List ℕ) (count : ℕ) (after : Tree) → write tree number at bytes ≡ Ok (count, after) → (m : ℕ) → m ≢ number → node_at after m ≡ node_at tree m
write_nodes tree number at bytes count after is m off = ap (λ (t : Tree). node_at t m) (wrote tree number at bytes count after is).tree_after ∙ bytes_nodes tree number (overwritten at (take count bytes)) m off

resize_is : (tree : Tree) (number size : ℕ) (after : Tree) → resize tree number size ≡ Ok after → after ≡ with_bytes tree number (resized size)
resize_is tree number size after answered =
    let made : Tree = with_bytes tree number (resized size) in
    let rest : Result Tree Errno = cond (ltb (blocks_for tree number) (blocks_of size)) (Err ENOSPC) (Ok made) in
    elim (cases_Bool (ltb greatest_size size)) [
      | inl large ↦ absurd (err-ok EFBIG after (sym (cond-true (ltb greatest_size size) (Err EFBIG) rest large) ∙ answered))
      | inr most ↦
          let is_rest : rest ≡ Ok after = sym (cond-false (ltb greatest_size size) (Err EFBIG) rest most) ∙ answered in
          elim (cases_Bool (ltb (blocks_for tree number) (blocks_of size))) [
            | inl full ↦ absurd (err-ok ENOSPC after (sym (cond-true (ltb (blocks_for tree number) (blocks_of size)) (Err ENOSPC) (Ok made) full) ∙ is_rest))
            | inr fits ↦ sym (same_Ok made after (sym (cond-false (ltb (blocks_for tree number) (blocks_of size)) (Err ENOSPC) (Ok made) fits) ∙ is_rest))
          ]
    ]

pub resize_names : (tree : Tree) (number size : ℕ) (after : Tree) → resize tree number size ≡ Ok after → (other : ℕ) (called : List ℕ) → found after other called ≡ found tree other called
resize_names tree number size after is other called = ap (λ (t : Tree). found t other called) (resize_is tree number size after is) ∙ bytes_names tree number (resized size) other called

pub resize_nodes : (tree : Tree) (number size : ℕ) (after : Tree) → resize tree number size ≡ Ok after → (m : ℕ) → m ≢ number → node_at after m ≡ node_at tree m
resize_nodes tree number size after is m off = ap (λ (t : Tree). node_at t m) (resize_is tree number size after is) ∙ bytes_nodes tree number (resized size) m off

not_listing : (content : Content) → is_directory_content content ≡ false → entries_of content ≡ []
not_listing (File bytes) not = refl
not_listing (Directory parent entries) not = absurd (false≢true (sym not))
not_listing SocketName not = refl
not_listing Fifo not = refl

none_listed : (there : Option Node) → is_directory_in there ≡ false → entries_in there ≡ []
none_listed None not = refl
none_listed (Some node) not = not_listing node.content not

pub closed_names : (tree : Tree) (number : ℕ) → IsTree tree → (other : ℕ) (called : List ℕ) → found (closed tree number) other called ≡ found tree other called
closed_names tree number is other called = elim (cases_Bool (eqb (links_at tree number) 0)) [
  | inl none ↦
      let links : links_at tree number ≡ 0 = eqb-true (links_at tree number) 0 none in
      let file : is_directory tree number ≡ false = false_from_ne_true (is_directory tree number) (λ dir. omega (arith, links, one_link tree number is dir)) in
      ap (λ (t : Tree). found t other called) (cond-true (eqb (links_at tree number) 0) (with_node tree number None) tree none)
      ∙ ap (λ (es : List DirEntry). found_among es called) (seen_same entries_in tree number None (sym (none_listed (node_at tree number) file)) other)
  | inr some ↦ ap (λ (t : Tree). found t other called) (cond-false (eqb (links_at tree number) 0) (with_node tree number None) tree some)
]

pub closed_nodes : (tree : Tree) (number m : ℕ) → m ≢ number → node_at (closed tree number) m ≡ node_at tree m
closed_nodes tree number m off = elim (cases_Bool (eqb (links_at tree number) 0)) [
  | inl none ↦ ap (λ (t : Tree). node_at t m) (cond-true (eqb (links_at tree number) 0) (with_node tree number None) tree none) ∙ node_at-with_node_other tree number m None off
  | inr some ↦ ap (λ (t : Tree). node_at t m) (cond-false (eqb (links_at tree number) 0) (with_node tree number None) tree some)
]
