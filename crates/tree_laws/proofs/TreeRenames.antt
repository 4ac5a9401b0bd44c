-- A rename leaves a tree.
use Rattle.std.proofs.Common.{◌≡◌, ◌≢◌, ℕ, ◌+◌, ◌*◌, ◌<◌, ◌≤◌, Bool, true, false, cond, ◌⊎◌, inl, inr, List, [], length, get_or, eqb, Some, None, refl, sym, ap, subst, ◌∙◌, arith}
use Rattle.std.specs.Str.{bytes_eq}
use Rattle.std.specs.List.{Contains}
use Rattle.std.proofs.lemmas.List.{length-set, get_or-set_other}
use Rattle.std.proofs.lemmas.List.Folds.{position_or_len-set}
use Rattle.std.proofs.lemmas.Bool.{cases_Bool, cases_eq, cond-true, cond-false, false≢true, eq-eqb, ne_eqb}
use Rattle.std.proofs.lemmas.Option.{none-some}
use Rattle.std.proofs.lemmas.List.Elements.{Contains-get_or, Contains-push_cases}
use Rattle.kabi_types.specs.declared.inodes.DirEntry.{DirEntry}
use Rattle.posix_defs.specs.DiskFormat.{table_end, table_nodes, blocks_of}
use Rattle.posix_defs.specs.DiskContents.{entry_for}
use Rattle.posix_defs.specs.Tree.{Tree, root, node_at, is_directory, is_directory_in, links_at, entries_in, entries_at, parent_in, parent_at, size_at, used_blocks, has_name, found, found_among}
use Rattle.posix_defs.specs.TreeChanges.{place_of, no_entry, entry_put, entry_taken, entry_aimed, entry_renamed, with_entries, link_dropped, hung_if_directory, rename_over, rename_to, takes_entry}
use Rattle.posix_defs.specs.PathCalls.{is_socket}
use Rattle.posix_defs.specs.IsTree.{AreEntries, IsEntryName, IsTree, names_of, unnamed_links}
use Rattle.tree_laws.proofs.TreeFacts.{linked_in_use, named_at-le}
use Rattle.tree_laws.proofs.EntryLists.{count_of, StandsAt, stands_at, count-put, length-put, put_are, count-taken, length-taken, taken_are, taken_among, set_among, count-aimed, aimed_are, count-renamed, renamed_are}
use Rattle.tree_laws.proofs.TreeSteps.{socket_linked, AreNodes, Relisted, relisted, Dropped, dropped, one_here, Hung, hung_is}
use Rattle.tree_laws.proofs.Climbing.{IsOff, KeepsParent, climbed_same, climbs_moved, parent_has_entry, one_link}
use Rattle.posix_defs.proofs.TreeNodes.{found_in_directory}
use Rattle.tree_laws.proofs.TreeKeeps.{entries_are, entries_fit, found_named, found_not_root, none_among, contained_counts, blocks_of-le, Room, room_of}

-- a node's name went over to `to`, and a node went with the name that stood there; 0 where none did
pub record Renamed (tree after : Tree) (number to gone : ℕ) : Type 0 where
  pub blocks : after.blocks ≡ tree.blocks
  pub count : length after.nodes ≡ length tree.nodes
  pub room : 1 + table_end tree.blocks + used_blocks after ≤ tree.blocks
  pub nodes : AreNodes after
  pub links : (k : ℕ) → links_at after k ≡ names_of after k + unnamed_links k
  pub was : (m : ℕ) → is_directory after m ≡ true → (is_directory tree m ≡ true) × (m ≢ gone)
  pub stays : (m : ℕ) → is_directory tree m ≡ true → m ≢ gone → is_directory after m ≡ true
  pub parents : (m : ℕ) → is_directory after m ≡ true → m ≢ number → parent_at after m ≡ parent_at tree m
  pub hung : is_directory after number ≡ true → parent_at after number ≡ to
  pub entries : (d : ℕ) (entry : DirEntry) → Contains (entries_at after d) entry → is_directory after entry.node ≡ true
      → (Contains (entries_at tree d) entry × (entry.node ≢ number)) ⊎ ((entry.node ≡ number) × (d ≡ to))

-- what may be renamed: neither is the root, the directory isn't moved below itself, and a directory that goes is empty
pub record MayRename (tree : Tree) (number to gone : ℕ) : Type 0 where
  pub number_not_root : number ≢ root
  pub gone_not_root : gone ≢ root
  pub empty : is_directory tree gone ≡ true → entries_at tree gone ≡ []
  pub directory : is_directory tree to ≡ true
  pub there : to ≢ gone
  pub off : is_directory tree number ≡ true → IsOff tree number to

keeps_parent_renamed : (tree after : Tree) (number to gone : ℕ) → IsTree tree → Renamed tree after number to gone → MayRename tree number to gone
    → (m : ℕ) → is_directory after m ≡ true → m ≢ number → KeepsParent tree after m
keeps_parent_renamed tree after number to gone is renamed may m at other =
    let was = renamed.was m at in
    let up : ℕ = parent_at tree m in
    let up_stays : up ≢ gone = λ same.
    elim (cases_eq m root) [
      | inl at_root ↦ may.gone_not_root (sym same ∙ ap (parent_at tree) at_root ∙ is.root_parent)
      | inr below ↦
          let entry = parent_has_entry tree m is was.0 below in
          none_among entry.0 (entries_at tree up) (ap (entries_at tree) same ∙ may.empty (subst (λ (n : ℕ). is_directory tree n ≡ true) same (is.parents m was.0))) entry.1
    ] in
    record { same = renamed.parents m at other; directory = renamed.stays up (is.parents m was.0) up_stays }

rename_tree : (tree after : Tree) (number to gone : ℕ) → IsTree tree → Renamed tree after number to gone → MayRename tree number to gone → IsTree after
rename_tree tree after number to gone is renamed may =
    let keeps = keeps_parent_renamed tree after number to gone is renamed may in
    let to_stays = renamed.stays to may.directory may.there in
    let root_stays = renamed.stays root is.root_directory (λ e. may.gone_not_root (sym e)) in
    record {
      enough = subst (λ (n : ℕ). 16 ≤ n) (sym renamed.blocks) is.enough;
      most = subst (λ (n : ℕ). n ≤ 4096) (sym renamed.blocks) is.most;
      count = renamed.count ∙ is.count ∙ ap table_nodes (sym renamed.blocks);
      room = subst (λ (n : ℕ). 1 + table_end n + used_blocks after ≤ n) (sym renamed.blocks) renamed.room;
      nodes = renamed.nodes;
      links = renamed.links;
      root_directory = root_stays;
      root_parent = renamed.parents root root_stays (λ e. may.number_not_root (sym e)) ∙ is.root_parent;
      parents = λ m at. elim (cases_eq m number) [
        | inl same ↦ subst (λ (n : ℕ). is_directory after n ≡ true) (sym (ap (parent_at after) same ∙ renamed.hung (ap (is_directory after) (sym same) ∙ at))) to_stays
        | inr other ↦ subst (λ (n : ℕ). is_directory after n ≡ true) (sym (keeps m at other).same) (keeps m at other).directory
      ];
      below = λ d entry among at. elim (renamed.entries d entry among at) [
        | inl old ↦ renamed.parents entry.node at old.1 ∙ is.below d entry old.0 (renamed.was entry.node at).0
        | inr new ↦ ap (parent_at after) new.0 ∙ renamed.hung (ap (is_directory after) (sym new.0) ∙ at) ∙ sym new.1
      ];
      climbs = λ m at. elim (cases_Bool (is_directory tree number)) [
        | inl dir ↦
            elim (cases_eq number gone) [
              | inl went ↦
                  let never : (k : ℕ) → is_directory after k ≡ true → k ≢ number = λ k at_k same. (renamed.was k at_k).1 (same ∙ went) in
                  let way = is.climbs m (renamed.was m at).0 in
                  (way.0, climbed_same tree after (λ k at_k. keeps k at_k (never k at_k)) way.0 m at ∙ way.1)
              | inr there ↦
                  let way = is.climbs m (renamed.was m at).0 in
                  climbs_moved tree after number to keeps (renamed.hung (renamed.stays number dir there)) to_stays (may.off dir) (is.climbs to may.directory) way.0 m at way.1
            ]
        | inr not_dir ↦
            let never : (k : ℕ) → is_directory after k ≡ true → k ≢ number = λ k at_k same. false≢true (sym not_dir ∙ ap (is_directory tree) (sym same) ∙ (renamed.was k at_k).0) in
            let way = is.climbs m (renamed.was m at).0 in
            (way.0, climbed_same tree after (λ k at_k. keeps k at_k (never k at_k)) way.0 m at ∙ way.1)
      ];
    }

-- ---- over a name that is there

-- a directory's parent is where it is found
pub parent_of_found : (tree : Tree) (dir : ℕ) (name : List ℕ) (number : ℕ) → IsTree tree → found tree dir name ≡ Some number → is_directory tree number ≡ true → parent_at tree number ≡ dir
parent_of_found tree dir name number is at dir_number =
    let entries : List DirEntry = entries_at tree dir in
    let stands = stands_at entries name number at in
    let entry : DirEntry = get_or entries (place_of name entries) no_entry in
    ap (parent_at tree) (sym stands.aims) ∙ is.below dir entry (Contains-get_or entries (place_of name entries) no_entry stands.within) (ap (is_directory tree) stands.aims ∙ dir_number)

-- a directory's one entry is where it is found: once it is taken out, none of what is left names it
taken_once : (tree : Tree) (dir : ℕ) (name : List ℕ) (number : ℕ) (entry : DirEntry) → IsTree tree → found tree dir name ≡ Some number → is_directory tree number ≡ true
    → Contains (entry_taken name (entries_at tree dir)) entry → entry.node ≢ number
taken_once tree dir name number entry is at dir_number among = λ same.
    let entries : List DirEntry = entries_at tree dir in
    let stands = stands_at entries name number at in
    let unnamed : unnamed_links number ≡ 0 = ap (λ (b : Bool). cond b 1 0) (ne_eqb number root (found_not_root tree dir name number is at)) in
    let counted : 0 < count_of number (entry_taken name entries) = subst (λ (n : ℕ). 0 < count_of n (entry_taken name entries)) same (contained_counts (entry_taken name entries) entry among) in
    omega (arith, counted, count-taken entries name number number stands, one_here number number refl, named_at-le tree dir number, is.links number, one_link tree number is dir_number, unnamed)

-- in a list where an entry got another node, another name stands as before
pub aimed_stands : (entries : List DirEntry) (name new : List ℕ) (node replaced aim : ℕ) → StandsAt entries name node → StandsAt entries new replaced → node ≢ replaced → StandsAt (entry_aimed new aim entries) name node
aimed_stands entries name new node replaced aim at at_new other =
    let place : ℕ = place_of new entries in
    let entry : DirEntry = entry_for aim new in
    let changed : List DirEntry = entry_aimed new aim entries in
    let same_test : has_name name entry ≡ has_name name (get_or entries place no_entry) = ap (λ (called : List ℕ). bytes_eq called name) (sym at_new.called) in
    let same_place : place_of name changed ≡ place_of name entries = position_or_len-set (has_name name) entries place entry no_entry same_test in
    let off : place_of name entries ≢ place = λ e. other (sym at.aims ∙ ap (λ (k : ℕ). (get_or entries k no_entry).node) e ∙ at_new.aims) in
    let there : get_or changed (place_of name changed) no_entry ≡ get_or entries (place_of name entries) no_entry =
    ap (λ (k : ℕ). get_or changed k no_entry) same_place ∙ get_or-set_other entries place (place_of name entries) entry no_entry off in
    record {
      within = omega (arith, same_place, length-set entries place entry, at.within);
      aims = ap (λ (e : DirEntry). e.node) there ∙ at.aims;
      called = ap (λ (e : DirEntry). e.name) there ∙ at.called;
    }

-- the entries of the old directory when the new name has got the node
pub record Aimed (entries : List DirEntry) (name : List ℕ) (number len : ℕ) : Type 0 where
  pub stands : StandsAt entries name number
  pub are : AreEntries entries
  pub count : length entries ≡ len

pub aimed_list : (tree t1 t2 : Tree) (dir to number replaced : ℕ) (name new : List ℕ) → IsTree tree → found tree dir name ≡ Some number → found tree to new ≡ Some replaced → number ≢ replaced
    → Relisted tree t1 to (entry_aimed new number (entries_at tree to)) → Dropped t1 t2 replaced → Aimed (entries_at t2 dir) name number (length (entries_at tree dir))
aimed_list tree t1 t2 dir to number replaced name new is at at_new other r1 r2 =
    let entries : List DirEntry = entries_at tree to in
    let stands = stands_at (entries_at tree dir) name number at in
    let stands_new = stands_at entries new replaced at_new in
    let len = length (entries_at tree dir) in
    elim (cases_eq dir to) [
      | inl same ↦
          let list : entries_at t2 dir ≡ entry_aimed new number entries = r2.entries dir ∙ ap (entries_at t1) same ∙ r1.here in
          let stands_to : StandsAt entries name number = subst (λ (n : ℕ). StandsAt (entries_at tree n) name number) same stands in
          subst (λ (es : List DirEntry). Aimed es name number len) (sym list) (record {
            stands = aimed_stands entries name new number replaced number stands_to stands_new other;
            are = aimed_are entries new replaced number (entries_are tree to is (found_in_directory tree to new replaced at_new)) stands_new;
            count = length-set entries (place_of new entries) (entry_for number new) ∙ ap (λ (n : ℕ). length (entries_at tree n)) (sym same);
          })
      | inr apart ↦
          let list : entries_at t2 dir ≡ entries_at tree dir = r2.entries dir ∙ ap entries_in (r1.others dir apart) in
          subst (λ (es : List DirEntry). Aimed es name number len) (sym list) (record { stands = stands; are = entries_are tree dir is (found_in_directory tree dir name number at); count = refl })
    ]

over_renamed : (tree t1 t2 t3 after : Tree) (dir to number replaced : ℕ) (name new : List ℕ) → IsTree tree → found tree dir name ≡ Some number → found tree to new ≡ Some replaced → number ≢ replaced
    → Relisted tree t1 to (entry_aimed new number (entries_at tree to)) → Dropped t1 t2 replaced → Relisted t2 t3 dir (entry_taken name (entries_at t2 dir)) → Hung t3 after number to
    → (is_socket t2 replaced ≡ true → 0 < links_at t2 replaced) → Renamed tree after number to replaced
over_renamed tree t1 t2 t3 after dir to number replaced name new is at at_new other r1 r2 r3 h linked =
    let entries : List DirEntry = entries_at tree to in
    let list : List DirEntry = entries_at t2 dir in
    let stands_new = stands_at entries new replaced at_new in
    let is_to = found_in_directory tree to new replaced at_new in
    let aimed = aimed_list tree t1 t2 dir to number replaced name new is at at_new other r1 r2 in
    let len_aimed : length (entry_aimed new number entries) ≡ length entries = length-set entries (place_of new entries) (entry_for number new) in
    let len_taken = length-taken list name number aimed.stands in
    let same_size : blocks_of (32 * (length (entry_aimed new number entries) + 2)) ≡ blocks_of (size_at tree to) = ap (λ (n : ℕ). blocks_of (32 * (n + 2))) len_aimed ∙ ap blocks_of (sym r1.size) in
    let smaller = blocks_of-le (32 * (length (entry_taken name list) + 2)) (size_at t2 dir) (omega (arith, len_taken, r3.size)) in
    let was : (m : ℕ) → is_directory after m ≡ true → (is_directory tree m ≡ true) × (m ≢ replaced) = λ m at_m.
    let before = r2.directories m (sym (r3.directories m) ∙ sym (h.directories m) ∙ at_m) in
    (sym (r1.directories m) ∙ before.0, before.1) in
    record {
      blocks = h.blocks ∙ r3.blocks ∙ r2.blocks ∙ r1.blocks;
      count = h.count ∙ r3.count ∙ r2.count ∙ r1.count;
      room = omega (arith, is.room, h.used, r3.used, smaller, r2.used, r1.used, same_size);
      nodes = h.nodes (r3.nodes (r2.nodes (r1.nodes is.nodes (aimed_are entries new replaced number (entries_are tree to is is_to) stands_new) (omega (arith, len_aimed, entries_fit tree to is is_to))) linked)
          (taken_are list name number aimed.are aimed.stands) (omega (arith, len_taken, aimed.count, entries_fit tree dir is (found_in_directory tree dir name number at))));
      links = λ k. omega (
        arith,
        is.links k,
        h.links k,
        h.names k,
        r3.links k,
        r3.names k,
        count-taken list name number k aimed.stands,
        r2.links k,
        r2.names k,
        r1.links k,
        r1.names k,
        count-aimed entries new replaced number k stands_new,
      );
      was = was;
      stays = λ m at_m stays_m. h.directories m ∙ r3.directories m ∙ ap is_directory_in (r2.others m stays_m) ∙ r1.directories m ∙ at_m;
      parents = λ m at_m other_m. h.others m other_m ∙ r3.parents m ∙ ap parent_in (r2.others m (was m at_m).1) ∙ r1.parents m;
      hung = h.here;
      entries = λ d entry among at_entry.
          let dir_entry = (was entry.node at_entry).0 in
          let among3 : Contains (entries_at t3 d) entry = subst (λ (es : List DirEntry). Contains es entry) (h.entries d) among in
          let among2 : Contains (entries_at t2 d) entry = elim (cases_eq d dir) [
            | inl same ↦ subst (λ (n : ℕ). Contains (entries_at t2 n) entry) (sym same) (taken_among list name number entry aimed.stands (subst (λ (es : List DirEntry). Contains es entry) (ap (entries_at t3) same ∙ r3.here) among3))
            | inr apart ↦ subst (λ (es : List DirEntry). Contains es entry) (ap entries_in (r3.others d apart)) among3
          ] in
          let among1 : Contains (entries_at t1 d) entry = subst (λ (es : List DirEntry). Contains es entry) (r2.entries d) among2 in
          elim (cases_eq d to) [
            | inl same ↦
                elim (cases_eq entry.node number) [
                  | inl moved ↦ inr (moved, same)
                  | inr unmoved ↦
                      elim (set_among entries (place_of new entries) (entry_for number new) entry (subst (λ (es : List DirEntry). Contains es entry) (ap (entries_at t1) same ∙ r1.here) among1)) [
                        | inl old ↦ inl (subst (λ (n : ℕ). Contains (entries_at tree n) entry) (sym same) old, unmoved)
                        | inr is_new ↦ absurd (unmoved (sym (ap (λ (e : DirEntry). e.node) is_new)))
                      ]
                ]
            | inr apart ↦
                let old : Contains (entries_at tree d) entry = subst (λ (es : List DirEntry). Contains es entry) (ap entries_in (r1.others d apart)) among1 in
                inl (
                  old,
                  λ moved.
                      let dir_number : is_directory tree number ≡ true = ap (is_directory tree) (sym moved) ∙ dir_entry in
                      let here : d ≡ dir = sym (is.below d entry old dir_entry) ∙ ap (parent_at tree) moved ∙ parent_of_found tree dir name number is at dir_number in
                      let list_is : list ≡ entries_at tree dir = r2.entries dir ∙ ap entries_in (r1.others dir (λ e. apart (here ∙ e))) in
                      let taken : Contains (entry_taken name (entries_at tree dir)) entry = subst (λ (es : List DirEntry). Contains es entry) (ap (entries_at t3) here ∙ r3.here ∙ ap (entry_taken name) list_is) among3 in
                      taken_once tree dir name number entry is at dir_number taken moved,
                )
          ];
    }

-- a directory with a name in it isn't the one that goes, which is empty
not_gone : (tree : Tree) (dir : ℕ) (name : List ℕ) (number gone : ℕ) → found tree dir name ≡ Some number → (is_directory tree gone ≡ true → entries_at tree gone ≡ []) → dir ≢ gone
not_gone tree dir name number gone at empty same =
    let is : is_directory tree gone ≡ true = ap (is_directory tree) (sym same) ∙ found_in_directory tree dir name number at in
    none-some number (sym (ap (λ (es : List DirEntry). found_among es name) (ap (entries_at tree) same ∙ empty is)) ∙ at)

-- over a name that is there: its entry gets the node, the node that it had loses a link, the old entry goes, `..` follows
pub record RenamedOver (tree after : Tree) (dir : ℕ) (name : List ℕ) (number to : ℕ) (new : List ℕ) (replaced : ℕ) (opened : Bool) : Type 0 where
  pub t1 : Tree
  pub t2 : Tree
  pub t3 : Tree
  pub aim : Relisted tree t1 to (entry_aimed new number (entries_at tree to))
  pub link : Dropped t1 t2 replaced
  pub taken : Relisted t2 t3 dir (entry_taken name (entries_at t2 dir))
  pub hung : Hung t3 after number to
  pub stays : to ≢ replaced
  pub linked : (is_socket tree replaced ≡ true → opened ≡ false) → is_socket t2 replaced ≡ true → 0 < links_at t2 replaced

pub renamed_over : (tree : Tree) (dir : ℕ) (name : List ℕ) (number to : ℕ) (new : List ℕ) (replaced : ℕ) (opened : Bool) → IsTree tree → found tree dir name ≡ Some number → found tree to new ≡ Some replaced
    → (is_directory tree replaced ≡ true → (entries_at tree replaced ≡ []) × (opened ≡ false)) → RenamedOver tree (rename_over tree dir name number to new replaced opened) dir name number to new replaced opened
renamed_over tree dir name number to new replaced opened is at at_new empty =
    let entries : List DirEntry = entries_at tree to in
    let is_to = found_in_directory tree to new replaced at_new in
    let is_dir = found_in_directory tree dir name number at in
    let stands_new = stands_at entries new replaced at_new in
    let t1 : Tree = with_entries tree to (entry_aimed new number) in
    let r1 = relisted tree to (entry_aimed new number) is_to in
    let are1 : AreNodes t1 = r1.nodes is.nodes (aimed_are entries new replaced number (entries_are tree to is is_to) stands_new)
    (omega (arith, length-set entries (place_of new entries) (entry_for number new), entries_fit tree to is is_to)) in
    let linked : 0 < links_at t1 replaced = omega (arith, r1.links replaced, is.links replaced, found_named tree to new replaced at_new) in
    let to_stays = not_gone tree to new replaced replaced at_new (λ d. (empty d).0) in
    let empty1 : is_directory t1 replaced ≡ true → (entries_at t1 replaced ≡ []) × (opened ≡ false) = λ dir1.
    let gone = empty (sym (r1.directories replaced) ∙ dir1) in
    (ap entries_in (r1.others replaced (λ e. to_stays (sym e))) ∙ gone.0, gone.1) in
    let t2 : Tree = link_dropped t1 replaced opened in
    let r2 = dropped t1 replaced opened are1 (linked_in_use (node_at t1 replaced) linked) linked empty1 in
    let dir_stays = not_gone tree dir name number replaced at (λ d. (empty d).0) in
    let r3 = relisted t2 dir (entry_taken name) (ap is_directory_in (r2.others dir dir_stays) ∙ r1.directories dir ∙ is_dir) in
    let t3 : Tree = with_entries t2 dir (entry_taken name) in
    record {
      t1 = t1;
      t2 = t2;
      t3 = t3;
      aim = r1;
      link = r2;
      taken = r3;
      hung = hung_is t3 number to;
      stays = to_stays;
      linked = λ unopened. socket_linked t1 replaced opened (linked_in_use (node_at t1 replaced) linked) linked (λ is_name. unopened (sym (r1.sockets replaced) ∙ is_name));
    }

pub rename_over_keeps : (tree : Tree) (dir : ℕ) (name : List ℕ) (number to : ℕ) (new : List ℕ) (replaced : ℕ) (opened : Bool) → IsTree tree → found tree dir name ≡ Some number → found tree to new ≡ Some replaced
    → number ≢ replaced → (is_directory tree replaced ≡ true → (entries_at tree replaced ≡ []) × (opened ≡ false)) → (is_socket tree replaced ≡ true → opened ≡ false)
    → (is_directory tree number ≡ true → IsOff tree number to)
    → IsTree (rename_over tree dir name number to new replaced opened)
rename_over_keeps tree dir name number to new replaced opened is at at_new other empty unopened off =
    let p = renamed_over tree dir name number to new replaced opened is at at_new empty in
    let after : Tree = rename_over tree dir name number to new replaced opened in
    rename_tree tree after number to replaced is (over_renamed tree p.t1 p.t2 p.t3 after dir to number replaced name new is at at_new other p.aim p.link p.taken p.hung (p.linked unopened)) (record {
      number_not_root = found_not_root tree dir name number is at;
      gone_not_root = found_not_root tree to new replaced is at_new;
      empty = λ d. (empty d).0;
      directory = found_in_directory tree to new replaced at_new;
      there = p.stays;
      off = off;
    })

-- ---- to a name that is missing

within_tree : (tree after : Tree) (dir number : ℕ) (name new : List ℕ) → IsTree tree → found tree dir name ≡ Some number → found tree dir new ≡ None → IsEntryName new
    → Relisted tree after dir (entry_renamed name new number (entries_at tree dir)) → IsTree after
within_tree tree after dir number name new is at free valid r =
    let entries : List DirEntry = entries_at tree dir in
    let is_dir = found_in_directory tree dir name number at in
    let stands = stands_at entries name number at in
    let len : length (entry_renamed name new number entries) ≡ length entries = length-set entries (place_of name entries) (entry_for number new) in
    let same_size : blocks_of (32 * (length (entry_renamed name new number entries) + 2)) ≡ blocks_of (size_at tree dir) = ap (λ (n : ℕ). blocks_of (32 * (n + 2))) len ∙ ap blocks_of (sym r.size) in
    let was : (m : ℕ) → is_directory after m ≡ true → is_directory tree m ≡ true = λ m at_m. sym (r.directories m) ∙ at_m in
    let keeps : (m : ℕ) → is_directory after m ≡ true → KeepsParent tree after m = λ m at_m.
    record { same = r.parents m; directory = r.directories (parent_at tree m) ∙ is.parents m (was m at_m) } in
    record {
      enough = subst (λ (n : ℕ). 16 ≤ n) (sym r.blocks) is.enough;
      most = subst (λ (n : ℕ). n ≤ 4096) (sym r.blocks) is.most;
      count = r.count ∙ is.count ∙ ap table_nodes (sym r.blocks);
      room = subst (λ (n : ℕ). 1 + table_end n + used_blocks after ≤ n) (sym r.blocks) (omega (arith, is.room, r.used, same_size));
      nodes = r.nodes is.nodes (renamed_are entries name new number (entries_are tree dir is is_dir) stands valid free) (omega (arith, len, entries_fit tree dir is is_dir));
      links = λ k. omega (arith, is.links k, r.links k, r.names k, count-renamed entries name new number k stands);
      root_directory = r.directories root ∙ is.root_directory;
      root_parent = r.parents root ∙ is.root_parent;
      parents = λ m at_m. subst (λ (n : ℕ). is_directory after n ≡ true) (sym (r.parents m)) (keeps m at_m).directory;
      below = λ d entry among at_entry.
          r.parents entry.node ∙ elim (cases_eq d dir) [
            | inl same ↦
                elim (set_among entries (place_of name entries) (entry_for number new) entry (subst (λ (es : List DirEntry). Contains es entry) (ap (entries_at after) same ∙ r.here) among)) [
                  | inl old ↦ is.below dir entry old (was entry.node at_entry) ∙ sym same
                  | inr is_new ↦
                      let node : number ≡ entry.node = ap (λ (e : DirEntry). e.node) is_new in
                      ap (parent_at tree) (sym node) ∙ parent_of_found tree dir name number is at (ap (is_directory tree) node ∙ was entry.node at_entry) ∙ sym same
                ]
            | inr apart ↦ is.below d entry (subst (λ (es : List DirEntry). Contains es entry) (ap entries_in (r.others d apart)) among) (was entry.node at_entry)
          ];
      climbs = λ m at_m. let way = is.climbs m (was m at_m) in (way.0, climbed_same tree after keeps way.0 m at_m ∙ way.1);
    }

moved_renamed : (tree t1 t2 after : Tree) (dir to number : ℕ) (name new : List ℕ) → IsTree tree → found tree dir name ≡ Some number → found tree to new ≡ None → IsEntryName new → dir ≢ to → is_directory tree to ≡ true
    → Room tree to 0 → Relisted tree t1 to (entry_put new number (entries_at tree to)) → Relisted t1 t2 dir (entry_taken name (entries_at t1 dir)) → Hung t2 after number to → Renamed tree after number to 0
moved_renamed tree t1 t2 after dir to number name new is at free valid apart is_to room r1 r2 h =
    let entries : List DirEntry = entries_at tree dir in
    let entries_to : List DirEntry = entries_at tree to in
    let is_dir = found_in_directory tree dir name number at in
    let stands = stands_at entries name number at in
    let list : entries_at t1 dir ≡ entries = ap entries_in (r1.others dir apart) in
    let r2_old = subst (λ (es : List DirEntry). Relisted t1 t2 dir (entry_taken name es)) list r2 in
    let len_put = length-put entries_to new number in
    let len_taken = length-taken entries name number stands in
    let size : 32 * (length (entry_put new number entries_to) + 2) ≡ size_at tree to + 32 = omega (arith, len_put, r1.size) in
    let grown : blocks_of (32 * (length (entry_put new number entries_to) + 2)) ≡ blocks_of (size_at tree to + 32) = ap blocks_of size in
    let size_dir : size_at t1 dir ≡ 32 * (length entries + 2) = r2.size ∙ ap (λ (es : List DirEntry). 32 * (length es + 2)) list in
    let smaller = blocks_of-le (32 * (length (entry_taken name entries) + 2)) (size_at t1 dir) (omega (arith, len_taken, size_dir)) in
    let was : (m : ℕ) → is_directory after m ≡ true → is_directory tree m ≡ true = λ m at_m. sym (r1.directories m) ∙ sym (r2.directories m) ∙ sym (h.directories m) ∙ at_m in
    record {
      blocks = h.blocks ∙ r2.blocks ∙ r1.blocks;
      count = h.count ∙ r2.count ∙ r1.count;
      room = omega (arith, is.room, room.free, h.used, r2_old.used, smaller, r1.used, grown);
      nodes = h.nodes (r2_old.nodes (r1.nodes is.nodes (put_are entries_to new number (entries_are tree to is is_to) valid free) (omega (arith, size, room.below, r1.size)))
          (taken_are entries name number (entries_are tree dir is is_dir) stands) (omega (arith, len_taken, entries_fit tree dir is is_dir)));
      links = λ k.
          let names2 : names_of t2 k + count_of k entries ≡ names_of t1 k + count_of k (entry_taken name entries) = subst (λ (es : List DirEntry). names_of t2 k + count_of k es ≡ names_of t1 k + count_of k (entry_taken name entries)) list (r2_old.names k) in
          omega (arith, is.links k, h.links k, h.names k, r2.links k, names2, count-taken entries name number k stands, r1.links k, r1.names k, count-put entries_to new number k);
      was = λ m at_m. (was m at_m, λ none. false≢true (ap (is_directory after) (sym none) ∙ at_m));
      stays = λ m at_m _. h.directories m ∙ r2.directories m ∙ r1.directories m ∙ at_m;
      parents = λ m at_m other_m. h.others m other_m ∙ r2.parents m ∙ r1.parents m;
      hung = h.here;
      entries = λ d entry among at_entry.
          let among2 : Contains (entries_at t2 d) entry = subst (λ (es : List DirEntry). Contains es entry) (h.entries d) among in
          let dir_entry = was entry.node at_entry in
          elim (cases_eq d to) [
            | inl same ↦
                let among1 : Contains (entry_put new number entries_to) entry =
                subst (λ (es : List DirEntry). Contains es entry) (ap (entries_at t2) same ∙ ap entries_in (r2.others to (λ e. apart (sym e))) ∙ r1.here) among2 in
                elim (cases_eq entry.node number) [
                  | inl moved ↦ inr (moved, same)
                  | inr unmoved ↦ elim (Contains-push_cases entries_to (entry_for number new) entry among1) [
                    | inl old ↦ inl (subst (λ (n : ℕ). Contains (entries_at tree n) entry) (sym same) old, unmoved)
                    | inr is_new ↦ absurd (unmoved (sym (ap (λ (e : DirEntry). e.node) is_new)))
                  ]
                ]
            | inr off_to ↦
                elim (cases_eq d dir) [
                  | inl same ↦
                      let taken : Contains (entry_taken name entries) entry = subst (λ (es : List DirEntry). Contains es entry) (ap (entries_at t2) same ∙ r2_old.here) among2 in
                      inl (
                        subst (λ (n : ℕ). Contains (entries_at tree n) entry) (sym same) (taken_among entries name number entry stands taken),
                        λ moved. taken_once tree dir name number entry is at (ap (is_directory tree) (sym moved) ∙ dir_entry) taken moved,
                      )
                  | inr off_dir ↦
                      let old : Contains (entries_at tree d) entry = subst (λ (es : List DirEntry). Contains es entry) (ap entries_in (r2.others d off_dir) ∙ ap entries_in (r1.others d off_to)) among2 in
                      inl (old, λ moved. off_dir (sym (is.below d entry old dir_entry) ∙ ap (parent_at tree) moved ∙ parent_of_found tree dir name number is at (ap (is_directory tree) (sym moved) ∙ dir_entry)))
                ]
          ];
    }

pub rename_to_keeps : (tree : Tree) (dir : ℕ) (name : List ℕ) (number to : ℕ) (new : List ℕ) → IsTree tree → found tree dir name ≡ Some number → is_directory tree to ≡ true → found tree to new ≡ None
    → IsEntryName new → (dir ≢ to → takes_entry tree to 0 ≡ true) → (is_directory tree number ≡ true → IsOff tree number to) → IsTree (rename_to tree dir name number to new)
rename_to_keeps tree dir name number to new is at is_to free valid takes off =
    let is_dir = found_in_directory tree dir name number at in
    let in_place : Tree = with_entries tree dir (entry_renamed name new number) in
    let t1 : Tree = with_entries tree to (entry_put new number) in
    let t2 : Tree = with_entries t1 dir (entry_taken name) in
    let moved : Tree = hung_if_directory t2 number to in
    elim (cases_eq dir to) [
      | inl same ↦
          subst IsTree (sym (cond-true (eqb dir to) in_place moved (eq-eqb dir to same)))
          (within_tree tree in_place dir number name new is at (ap (λ (n : ℕ). found tree n new) same ∙ free) valid (relisted tree dir (entry_renamed name new number) is_dir))
      | inr apart ↦
          let r1 = relisted tree to (entry_put new number) is_to in
          let r2 = relisted t1 dir (entry_taken name) (r1.directories dir ∙ is_dir) in
          subst IsTree (sym (cond-false (eqb dir to) in_place moved (ne_eqb dir to apart)))
          (rename_tree tree moved number to 0 is (moved_renamed tree t1 t2 moved dir to number name new is at free valid apart is_to (room_of tree to 0 (takes apart)) r1 r2 (hung_is t2 number to)) (record {
            number_not_root = found_not_root tree dir name number is at;
            gone_not_root = λ e. omega (arith, e);
            empty = λ none. absurd (false≢true none);
            directory = is_to;
            there = λ e. false≢true (ap (is_directory tree) (sym e) ∙ is_to);
            off = off;
          }))
    ]
