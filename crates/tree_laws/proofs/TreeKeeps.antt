-- What is reached from a tree by a call on files is a tree.
use Rattle.std.proofs.Common.{◌≡◌, ◌≢◌, ℕ, zero, suc, ◌+◌, ◌*◌, ◌/◌, ◌<◌, ◌≤◌, Bool, true, false, cond, inl, inr, List, [], length, get_or, eqb, ltb, leb, Option, Some, None, Result, Ok, Err, refl, sym, ap, subst, ◌∙◌, arith}
use Rattle.std.specs.List.{Contains}
use Rattle.std.proofs.lemmas.List.Sums.{get_or-le-sum_by}
use Rattle.std.proofs.lemmas.Bool.{cases_Bool, cond-true, cond-false, false≢true, cases_eq, ltb-true, leb-true, lt-ltb, and_parts, eqb-true, false_from_ne_true}
use Rattle.std.proofs.lemmas.Option.{none-some}
use Rattle.std.proofs.lemmas.List.Elements.{Contains-push_cases}
use Rattle.kabi_types.specs.declared.errnos.Errno.{Errno}
use Rattle.kabi_types.specs.declared.inodes.DirEntry.{DirEntry}
use Rattle.posix_defs.specs.DiskFormat.{greatest_size, table_end, table_nodes, blocks_of}
use Rattle.posix_defs.specs.DiskContents.{entry_for}
use Rattle.posix_defs.specs.Tree.{Content, File, Directory, SocketName, Fifo, Node, Tree, root, node_at, with_node, is_in_use, is_directory, is_directory_in, is_directory_content, links_in, links_at, entries_of, entries_in, entries_at, parent_of, parent_in, parent_at, size_of, size_in, size_at, blocks_in, used_blocks, free_blocks, free_node, found, found_among, climbed}
use Rattle.posix_defs.specs.TreeChanges.{entry_put, entry_taken, with_entries, with_new, make, make_at, takes_entry, entry_growth, unlink, closed}
use Rattle.posix_defs.specs.PathCalls.{is_socket}
use Rattle.posix_defs.specs.IsTree.{AreEntries, IsEntryName, IsNewContent, IsNode, IsTree, names_node, names_of}
use Rattle.posix_defs.proofs.TreeNodes.{is_number, seen_same, summed, found_in_directory, free_is}
use Rattle.tree_laws.proofs.TreeFacts.{linked_in_use, found_counts, named_at-le}
use Rattle.tree_laws.proofs.EntryLists.{count_of, one_at, stands_at, count-put, length-put, put_are, count-taken, length-taken, taken_are, taken_among}
use Rattle.tree_laws.proofs.TreeSteps.{socket_linked, AreNodes, nodes-with_node, directory_is, Relisted, relisted, Dropped, dropped, one_here, Added, added, SameDirectories, same_directories}
use Rattle.tree_laws.proofs.Climbing.{IsOff, KeepsParent, climbed_same, climbed_off, climbs_moved, parent_has_entry, one_link, root_unnamed}

-- ---- what a tree says of one directory

-- a directory has entries that it may have, and fits
pub entries_are : (tree : Tree) (dir : ℕ) → IsTree tree → is_directory tree dir ≡ true → AreEntries (entries_at tree dir)
entries_are tree dir is at = (is.nodes dir _ (directory_is (node_at tree dir) at)).content

pub entries_fit : (tree : Tree) (dir : ℕ) → IsTree tree → is_directory tree dir ≡ true → 32 * (length (entries_at tree dir) + 2) ≤ greatest_size
entries_fit tree dir is at = (is.nodes dir _ (directory_is (node_at tree dir) at)).size

-- what is found is named, so it is not the root
pub found_named : (tree : Tree) (dir : ℕ) (name : List ℕ) (number : ℕ) → found tree dir name ≡ Some number → 0 < names_of tree number
found_named tree dir name number at = omega (arith, found_counts (entries_at tree dir) name number at, named_at-le tree dir number)

pub found_not_root : (tree : Tree) (dir : ℕ) (name : List ℕ) (number : ℕ) → IsTree tree → found tree dir name ≡ Some number → number ≢ root
found_not_root tree dir name number is at =
    λ same. let none : names_of tree number ≡ 0 = ap (names_of tree) same ∙ root_unnamed tree is in omega (arith, none, found_named tree dir name number at)

-- nothing is in an empty list
pub none_among : (entry : DirEntry) (entries : List DirEntry) → entries ≡ [] → Contains entries entry → ⊥
none_among entry entries none among = let len : length entries ≡ 0 = ap length none in omega (arith, among.1, len)

-- more bytes take no fewer blocks
pub blocks_of-le : (size more : ℕ) → size ≤ more → blocks_of size ≤ blocks_of more
blocks_of-le size more le = omega (arith, le)

-- ---- a name goes

-- a directory that stays keeps its parent: it isn't below one that goes, which is empty
keeps_parent_unlinked : (tree between after : Tree) (dir number : ℕ) (name : List ℕ) → IsTree tree → found tree dir name ≡ Some number
    → Relisted tree between dir (entry_taken name (entries_at tree dir)) → Dropped between after number → (is_directory tree number ≡ true → entries_at tree number ≡ [])
    → (m : ℕ) → is_directory after m ≡ true → KeepsParent tree after m
keeps_parent_unlinked tree between after dir number name is at listed dropped_link empty m stays =
    let was = dropped_link.directories m stays in
    let dir_m : is_directory tree m ≡ true = sym (listed.directories m) ∙ was.0 in
    let up : ℕ = parent_at tree m in
    let up_stays : up ≢ number = λ same.
    elim (cases_eq m root) [
      | inl at_root ↦ found_not_root tree dir name number is at (sym same ∙ ap (parent_at tree) at_root ∙ is.root_parent)
      | inr below ↦
          let entry = parent_has_entry tree m is dir_m below in
          let up_dir : is_directory tree number ≡ true = subst (λ (n : ℕ). is_directory tree n ≡ true) same (is.parents m dir_m) in
          none_among entry.0 (entries_at tree up) (ap (entries_at tree) same ∙ empty up_dir) entry.1
    ] in
    record {
      same = ap parent_in (dropped_link.others m was.1) ∙ listed.parents m;
      directory = ap is_directory_in (dropped_link.others up up_stays) ∙ listed.directories up ∙ is.parents m dir_m;
    }

unlink_tree : (tree between after : Tree) (dir number : ℕ) (name : List ℕ) → IsTree tree → found tree dir name ≡ Some number
    → Relisted tree between dir (entry_taken name (entries_at tree dir)) → Dropped between after number → (is_directory tree number ≡ true → entries_at tree number ≡ [])
    → (is_socket after number ≡ true → 0 < links_at after number) → IsTree after
unlink_tree tree between after dir number name is at listed dropped_link empty linked =
    let entries : List DirEntry = entries_at tree dir in
    let is_dir = found_in_directory tree dir name number at in
    let stands = stands_at entries name number at in
    let len = length-taken entries name number stands in
    let fits = entries_fit tree dir is is_dir in
    let smaller = blocks_of-le (32 * (length (entry_taken name entries) + 2)) (size_at tree dir) (omega (arith, len, listed.size)) in
    let blocks : after.blocks ≡ tree.blocks = dropped_link.blocks ∙ listed.blocks in
    let not_root : number ≢ root = found_not_root tree dir name number is at in
    let keeps = keeps_parent_unlinked tree between after dir number name is at listed dropped_link empty in
    record {
      enough = subst (λ (n : ℕ). 16 ≤ n) (sym blocks) is.enough;
      most = subst (λ (n : ℕ). n ≤ 4096) (sym blocks) is.most;
      count = dropped_link.count ∙ listed.count ∙ is.count ∙ ap table_nodes (sym blocks);
      room = subst (λ (n : ℕ). 1 + table_end n + used_blocks after ≤ n) (sym blocks) (omega (arith, is.room, dropped_link.used, listed.used, smaller));
      nodes = dropped_link.nodes (listed.nodes is.nodes (taken_are entries name number (entries_are tree dir is is_dir) stands) (omega (arith, len, fits))) linked;
      links = λ k. omega (arith, is.links k, dropped_link.links k, listed.links k, dropped_link.names k, listed.names k, count-taken entries name number k stands);
      root_directory = ap is_directory_in (dropped_link.others root (λ e. not_root (sym e))) ∙ listed.directories root ∙ is.root_directory;
      root_parent = ap parent_in (dropped_link.others root (λ e. not_root (sym e))) ∙ listed.parents root ∙ is.root_parent;
      parents = λ m stays. subst (λ (n : ℕ). is_directory after n ≡ true) (sym (keeps m stays).same) (keeps m stays).directory;
      below = λ d entry among stays.
          let was = dropped_link.directories entry.node stays in
          let dir_then : is_directory tree entry.node ≡ true = sym (listed.directories entry.node) ∙ was.0 in
          let among_between : Contains (entries_at between d) entry = subst (λ (es : List DirEntry). Contains es entry) (dropped_link.entries d) among in
          let among_then : Contains (entries_at tree d) entry =
          elim (cases_eq d dir) [
            | inl same ↦
                let among_taken = subst (λ (es : List DirEntry). Contains es entry) (ap (entries_at between) same ∙ listed.here) among_between in
                subst (λ (n : ℕ). Contains (entries_at tree n) entry) (sym same) (taken_among entries name number entry stands among_taken)
            | inr other ↦ subst (λ (es : List DirEntry). Contains es entry) (ap entries_in (listed.others d other)) among_between
          ] in
          (keeps entry.node stays).same ∙ is.below d entry among_then dir_then;
      climbs = λ m stays.
          let way = is.climbs m (sym (listed.directories m) ∙ (dropped_link.directories m stays).0) in
          (way.0, climbed_same tree after keeps way.0 m stays ∙ way.1);
    }

-- a name that goes is taken from the entries, and its node loses a link
pub record Unlinked (tree after : Tree) (dir : ℕ) (name : List ℕ) (number : ℕ) : Type 0 where
  pub between : Tree
  pub listed : Relisted tree between dir (entry_taken name (entries_at tree dir))
  pub link : Dropped between after number

pub unlinked : (tree : Tree) (dir : ℕ) (name : List ℕ) (number : ℕ) (opened : Bool) → IsTree tree → found tree dir name ≡ Some number
    → (is_directory tree number ≡ true → (entries_at tree number ≡ []) × (opened ≡ false)) → Unlinked tree (unlink tree dir name number opened) dir name number
unlinked tree dir name number opened is at empty =
    let entries : List DirEntry = entries_at tree dir in
    let is_dir = found_in_directory tree dir name number at in
    let stands = stands_at entries name number at in
    let listed = relisted tree dir (entry_taken name) is_dir in
    let between : Tree = with_entries tree dir (entry_taken name) in
    let are : AreNodes between = listed.nodes is.nodes (taken_are entries name number (entries_are tree dir is is_dir) stands)
    (omega (arith, length-taken entries name number stands, entries_fit tree dir is is_dir)) in
    let linked : 0 < links_at between number = omega (arith, listed.links number, is.links number, found_named tree dir name number at) in
    let used : is_in_use between number ≡ true = linked_in_use (node_at between number) linked in
    let empty_between : is_directory between number ≡ true → (entries_at between number ≡ []) × (opened ≡ false) = λ dir_between.
    let gone = empty (sym (listed.directories number) ∙ dir_between) in
    let other : number ≢ dir = λ same. none-some number (sym (ap (λ (es : List DirEntry). found_among es name) (ap (entries_at tree) (sym same) ∙ gone.0)) ∙ at) in
    (ap entries_in (listed.others number other) ∙ gone.0, gone.1) in
    record { between = between; listed = listed; link = dropped between number opened are used linked empty_between }

pub unlink_keeps : (tree : Tree) (dir : ℕ) (name : List ℕ) (number : ℕ) (opened : Bool) → IsTree tree → found tree dir name ≡ Some number
    → (is_directory tree number ≡ true → (entries_at tree number ≡ []) × (opened ≡ false)) → (is_socket tree number ≡ true → opened ≡ false) → IsTree (unlink tree dir name number opened)
unlink_keeps tree dir name number opened is at empty unopened =
    let parts = unlinked tree dir name number opened is at empty in
    let listed = relisted tree dir (entry_taken name) (found_in_directory tree dir name number at) in
    let between : Tree = with_entries tree dir (entry_taken name) in
    let linked : 0 < links_at between number = omega (arith, listed.links number, is.links number, found_named tree dir name number at) in
    unlink_tree tree parts.between (unlink tree dir name number opened) dir number name is at parts.listed parts.link (λ d. (empty d).0)
    (socket_linked between number opened (linked_in_use (node_at between number) linked) linked (λ is_name. unopened (sym (listed.sockets number) ∙ is_name)))

-- ---- a new node

-- an entry counts
pub contained_counts : (entries : List DirEntry) (entry : DirEntry) → Contains entries entry → 0 < count_of entry.node entries
contained_counts entries entry among =
    let le = get_or-le-sum_by (λ e. cond (names_node entry.node e) 1 0) entries among.0 entry among.1 in
    let here : one_at (get_or entries among.0 entry).node entry.node ≡ 1 = ap (λ (e : DirEntry). one_at e.node entry.node) among.2 ∙ one_here entry.node entry.node refl in
    omega (arith, le, here)

-- what an entry names has a link
entry_linked : (tree : Tree) (dir : ℕ) (entry : DirEntry) → IsTree tree → Contains (entries_at tree dir) entry → 0 < links_at tree entry.node
entry_linked tree dir entry is among = omega (arith, is.links entry.node, contained_counts (entries_at tree dir) entry among, named_at-le tree dir entry.node)

new_is_node : (dir : ℕ) (content : Content) → IsNewContent dir content → IsNode (record { links = 1; content = content })
new_is_node dir (File bytes) is = subst (λ (b : List ℕ). IsNode (record { links = 1; content = File b })) (sym is)
    (record { content = λ k d lt. absurd (omega (arith, lt)); size = omega arith; links = omega arith; single = λ _. refl; socket = λ _. omega arith })
new_is_node dir (Directory parent entries) is = subst (λ (es : List DirEntry). IsNode (record { links = 1; content = Directory parent es })) (sym is.1)
    (record { content = record { names = λ k d lt. absurd (omega (arith, lt)); distinct = λ i j d lt within. absurd (omega (arith, within)) }; size = omega arith; links = omega arith; single = λ _. refl; socket = λ _. omega arith })
new_is_node dir SocketName is = record { content = tt; size = omega arith; links = omega arith; single = λ _. refl; socket = λ _. omega arith }
new_is_node dir Fifo is = record { content = tt; size = omega arith; links = omega arith; single = λ _. refl; socket = λ _. omega arith }

pub new_entries_none : (dir : ℕ) (content : Content) → IsNewContent dir content → entries_of content ≡ []
new_entries_none dir (File bytes) is = refl
new_entries_none dir (Directory parent entries) is = is.1
new_entries_none dir SocketName is = refl
new_entries_none dir Fifo is = refl

new_parent : (dir : ℕ) (content : Content) → IsNewContent dir content → is_directory_content content ≡ true → parent_of content ≡ dir
new_parent dir (File bytes) is at = absurd (false≢true at)
new_parent dir (Directory parent entries) is at = is.0
new_parent dir SocketName is at = absurd (false≢true at)
new_parent dir Fifo is at = absurd (false≢true at)

climbed_directory : (tree : Tree) (steps dir : ℕ) → IsTree tree → is_directory tree dir ≡ true → is_directory tree (climbed tree steps dir) ≡ true
climbed_directory tree zero dir is at = at
climbed_directory tree (suc steps) dir is at = climbed_directory tree steps (parent_at tree dir) is (is.parents dir at)

climbs_free : (old new : Tree) (moved : ℕ) → ((m : ℕ) → is_directory new m ≡ true → m ≢ moved → KeepsParent old new m) → (steps m : ℕ) → is_directory new m ≡ true → IsOff old moved m
    → climbed old steps m ≡ root → (more : ℕ) × (climbed new more m ≡ root)
climbs_free old new moved keeps steps m is off at = (steps, climbed_off old new moved keeps steps m is off ∙ at)

-- room for an entry, in blocks
pub record Room (tree : Tree) (dir beside : ℕ) : Type 0 where
  pub below : size_at tree dir < greatest_size
  pub free : entry_growth tree dir + beside ≤ free_blocks tree

pub room_of : (tree : Tree) (dir beside : ℕ) → takes_entry tree dir beside ≡ true → Room tree dir beside
room_of tree dir beside takes =
    let both = and_parts (ltb (size_at tree dir) greatest_size) (leb (entry_growth tree dir + beside) (free_blocks tree)) takes in
    record { below = ltb-true (size_at tree dir) greatest_size both.0; free = leb-true (entry_growth tree dir + beside) (free_blocks tree) both.1 }

make_tree : (tree between after : Tree) (dir number : ℕ) (name : List ℕ) (content : Content) → IsTree tree → is_directory tree dir ≡ true → IsEntryName name → found tree dir name ≡ None
    → IsNewContent dir content → node_at tree number ≡ None → Room tree dir (blocks_of (size_of content)) → Added tree between number content
    → Relisted between after dir (entry_put name number (entries_at tree dir)) → IsTree after
make_tree tree between after dir number name content is is_dir valid free_name new free room add listed =
    let entries : List DirEntry = entries_at tree dir in
    let blocks : after.blocks ≡ tree.blocks = listed.blocks ∙ add.blocks in
    let not_free : (m : ℕ) → is_directory tree m ≡ true → m ≢ number = λ m at same. false≢true (sym (ap is_directory_in free) ∙ ap (is_directory tree) (sym same) ∙ at) in
    let was : (m : ℕ) → m ≢ number → is_directory after m ≡ is_directory tree m = λ m other. listed.directories m ∙ ap is_directory_in (add.others m other) in
    let stays : (m : ℕ) → is_directory tree m ≡ true → is_directory after m ≡ true = λ m at. was m (not_free m at) ∙ at in
    let up : (m : ℕ) → m ≢ number → parent_at after m ≡ parent_at tree m = λ m other. listed.parents m ∙ ap parent_in (add.others m other) in
    let hung : is_directory after number ≡ true → parent_at after number ≡ dir = λ at.
    listed.parents number ∙ ap parent_in add.here ∙ new_parent dir content new (sym (ap is_directory_in add.here) ∙ sym (listed.directories number) ∙ at) in
    let keeps : (m : ℕ) → is_directory after m ≡ true → m ≢ number → KeepsParent tree after m = λ m at other.
    record { same = up m other; directory = stays (parent_at tree m) (is.parents m (sym (was m other) ∙ at)) } in
    let same_size : size_at between dir ≡ 32 * (length entries + 2) = listed.size ∙ ap (λ (es : List DirEntry). 32 * (length es + 2)) (add.entries dir) in
    let same_size_then : size_at tree dir ≡ size_at between dir = sym (ap size_in (add.others dir (not_free dir is_dir))) in
    let size : 32 * (length (entry_put name number entries) + 2) ≡ size_at tree dir + 32 = omega (arith, length-put entries name number, same_size, same_size_then) in
    let grown : blocks_of (32 * (length (entry_put name number entries) + 2)) ≡ blocks_of (size_at tree dir + 32) = ap blocks_of size in
    let before : blocks_of (size_at between dir) ≡ blocks_of (size_at tree dir) = ap blocks_of (sym same_size_then) in
    let old_entry : (d : ℕ) (entry : DirEntry) → Contains (entries_at tree d) entry → is_directory after entry.node ≡ true → parent_at after entry.node ≡ d = λ d entry among at.
    let other : entry.node ≢ number = λ same.
    let none : links_at tree entry.node ≡ 0 = ap (links_at tree) same ∙ ap links_in free in
    omega (arith, none, entry_linked tree d entry is among) in
    up entry.node other ∙ is.below d entry among (sym (was entry.node other) ∙ at) in
    record {
      enough = subst (λ (n : ℕ). 16 ≤ n) (sym blocks) is.enough;
      most = subst (λ (n : ℕ). n ≤ 4096) (sym blocks) is.most;
      count = listed.count ∙ add.count ∙ is.count ∙ ap table_nodes (sym blocks);
      room = subst (λ (n : ℕ). 1 + table_end n + used_blocks after ≤ n) (sym blocks) (omega (arith, is.room, room.free, listed.used, add.used, grown, before));
      nodes = listed.nodes (add.nodes is.nodes (new_is_node dir content new)) (put_are entries name number (entries_are tree dir is is_dir) valid free_name) (omega (arith, size, room.below, same_size, same_size_then));
      links = λ k.
          let listed_names : names_of after k + count_of k entries ≡ names_of between k + count_of k (entry_put name number entries) =
          subst (λ (es : List DirEntry). names_of after k + count_of k es ≡ names_of between k + count_of k (entry_put name number entries)) (add.entries dir) (listed.names k) in
          omega (arith, is.links k, add.links k, listed.links k, add.names k, listed_names, count-put entries name number k);
      root_directory = stays root is.root_directory;
      root_parent = up root (not_free root is.root_directory) ∙ is.root_parent;
      parents = λ m at. elim (cases_eq m number) [
        | inl same ↦ subst (λ (n : ℕ). is_directory after n ≡ true) (sym (ap (parent_at after) same ∙ hung (ap (is_directory after) (sym same) ∙ at))) (stays dir is_dir)
        | inr other ↦ subst (λ (n : ℕ). is_directory after n ≡ true) (sym (keeps m at other).same) (keeps m at other).directory
      ];
      below = λ d entry among at. elim (cases_eq d dir) [
        | inl same ↦
            let among_put : Contains (entry_put name number entries) entry = subst (λ (es : List DirEntry). Contains es entry) (ap (entries_at after) same ∙ listed.here) among in
            elim (Contains-push_cases entries (entry_for number name) entry among_put) [
              | inl old ↦ old_entry dir entry old at ∙ sym same
              | inr is_new ↦
                  let node : number ≡ entry.node = ap (λ (e : DirEntry). e.node) is_new in
                  ap (parent_at after) (sym node) ∙ hung (ap (is_directory after) node ∙ at) ∙ sym same
            ]
        | inr other ↦ old_entry d entry (subst (λ (es : List DirEntry). Contains es entry) (ap entries_in (listed.others d other) ∙ add.entries d) among) at
      ];
      climbs = λ m at.
          let off : IsOff tree number dir = λ steps. not_free (climbed tree steps dir) (climbed_directory tree steps dir is is_dir) in
          elim (cases_eq m number) [
            | inl same ↦
                let at_number : is_directory after number ≡ true = ap (is_directory after) (sym same) ∙ at in
                let first : climbed tree (suc zero) number ≡ root = ap parent_in free in
                let way = climbs_moved tree after number dir keeps (hung at_number) (stays dir is_dir) off (is.climbs dir is_dir) (suc zero) number at_number first in
                (way.0, ap (climbed after way.0) same ∙ way.1)
            | inr other ↦ let way = is.climbs m (sym (was m other) ∙ at) in climbs_free tree after number keeps way.0 m at (λ steps. not_free (climbed tree steps m) (climbed_directory tree steps m is (sym (was m other) ∙ at))) way.1
          ];
    }

pub same_Ok : {A : Type 0} (x y : A) → ◌≡◌ {A = Result A Errno} (Ok x) (Ok y) → x ≡ y
same_Ok x y same = cc

pub err-ok : {A : Type 0} (e : Errno) (x : A) → ◌≡◌ {A = Result A Errno} (Err e) (Ok x) → ⊥
err-ok e x same = cc

-- a node is made at the free number where there is room
pub made_is : (tree : Tree) (dir : ℕ) (name : List ℕ) (content : Content) (number : ℕ) (after : Tree) → make tree dir name content ≡ Ok (number, after)
    → (free_node tree ≡ Some number) × (takes_entry tree dir (blocks_of (size_of content)) ≡ true) × (after ≡ with_new tree number dir name content)
made_is tree dir name content number after at = made_at (free_node tree) at
  where
    made_at : (free : Option ℕ) → make_at tree dir name content free ≡ Ok (number, after)
        → (free ≡ Some number) × (takes_entry tree dir (blocks_of (size_of content)) ≡ true) × (after ≡ with_new tree number dir name content)
    made_at None at = absurd (err-ok _ _ at)
    made_at (Some free) at =
        let made : ℕ × Tree = (free, with_new tree free dir name content) in
        elim (cases_Bool (takes_entry tree dir (blocks_of (size_of content)))) [
          | inl takes ↦
              let same = same_Ok made (number, after) (sym (cond-true (takes_entry tree dir (blocks_of (size_of content))) (Ok made) _ takes) ∙ at) in
              let node : free ≡ number = ap (λ (p : ℕ × Tree). p.0) same in
              (ap Some node, takes, sym (ap (λ (p : ℕ × Tree). p.1) same) ∙ ap (λ (n : ℕ). with_new tree n dir name content) node)
          | inr full ↦ absurd (err-ok _ _ (sym (cond-false (takes_entry tree dir (blocks_of (size_of content))) (Ok made) _ full) ∙ at))
        ]

pub make_keeps : (tree : Tree) (dir : ℕ) (name : List ℕ) (content : Content) (number : ℕ) (after : Tree) → IsTree tree → is_directory tree dir ≡ true → IsEntryName name
    → found tree dir name ≡ None → IsNewContent dir content → make tree dir name content ≡ Ok (number, after) → IsTree after
make_keeps tree dir name content number after is is_dir valid free_name new at =
    let made = made_is tree dir name content number after at in
    let free = free_is tree number made.0 in
    let between : Tree = with_node tree number (Some (record { links = 1; content = content })) in
    let add = added tree number content free.0 free.1 (new_entries_none dir content new) in
    let other : dir ≢ number = λ same. false≢true (sym (ap is_directory_in free.1) ∙ ap (is_directory tree) (sym same) ∙ is_dir) in
    let dir_between : is_directory between dir ≡ true = ap is_directory_in (add.others dir other) ∙ is_dir in
    let listed = relisted between dir (entry_put name number) dir_between in
    let listed_old = subst (λ (es : List DirEntry). Relisted between (with_new tree number dir name content) dir (entry_put name number es)) (add.entries dir) listed in
    subst IsTree (sym made.2) (make_tree tree between (with_new tree number dir name content) dir number name content is is_dir valid free_name new free.1 (room_of tree dir (blocks_of (size_of content)) made.1) add listed_old)

-- ---- what keeps every directory and every count of names

pub same_tree : (tree after : Tree) → IsTree tree → SameDirectories tree after → ((m : ℕ) → links_at after m ≡ links_at tree m) → 1 + table_end tree.blocks + used_blocks after ≤ tree.blocks → AreNodes after
    → IsTree after
same_tree tree after is same links room are =
    let stays : (m : ℕ) → is_directory after m ≡ true → is_directory tree m ≡ true = λ m at. sym (same.directories m) ∙ at in
    let keeps : (m : ℕ) → is_directory after m ≡ true → KeepsParent tree after m = λ m at.
    record { same = same.parents m; directory = same.directories (parent_at tree m) ∙ is.parents m (stays m at) } in
    record {
      enough = subst (λ (n : ℕ). 16 ≤ n) (sym same.blocks) is.enough;
      most = subst (λ (n : ℕ). n ≤ 4096) (sym same.blocks) is.most;
      count = same.count ∙ is.count ∙ ap table_nodes (sym same.blocks);
      room = subst (λ (n : ℕ). 1 + table_end n + used_blocks after ≤ n) (sym same.blocks) room;
      nodes = are;
      links = λ k. omega (arith, is.links k, links k, same.names k);
      root_directory = same.directories root ∙ is.root_directory;
      root_parent = same.parents root ∙ is.root_parent;
      parents = λ m at. subst (λ (n : ℕ). is_directory after n ≡ true) (sym (same.parents m)) (keeps m at).directory;
      below = λ d entry among at. same.parents entry.node ∙ is.below d entry (subst (λ (es : List DirEntry). Contains es entry) (same.entries d) among) (stays entry.node at);
      climbs = λ m at. let way = is.climbs m (stays m at) in (way.0, climbed_same tree after keeps way.0 m at ∙ way.1);
    }

-- the last description of a file is closed
pub closed_keeps : (tree : Tree) (number : ℕ) → IsTree tree → is_in_use tree number ≡ true → IsTree (closed tree number)
closed_keeps tree number is used =
    elim (cases_Bool (eqb (links_at tree number) 0)) [
      | inl none ↦
          let links : links_at tree number ≡ 0 = eqb-true (links_at tree number) 0 none in
          let no_dir : is_directory tree number ≡ false = false_from_ne_true (is_directory tree number) (λ dir. omega (arith, links, one_link tree number is dir)) in
          let at = is_number tree number used in
          let plain = not_directory (node_at tree number) no_dir in
          let same = same_directories tree number None at (sym no_dir) (sym plain.0) (sym plain.1) in
          let sum = summed blocks_in tree number None at in
          subst IsTree (sym (cond-true (eqb (links_at tree number) 0) (with_node tree number None) tree none))
          (same_tree tree (with_node tree number None) is same (seen_same links_in tree number None (sym links)) (omega (arith, sum, is.room)) (nodes-with_node tree number None is.nodes (λ node e. absurd (none-some node e))))
      | inr some ↦ subst IsTree (sym (cond-false (eqb (links_at tree number) 0) (with_node tree number None) tree some)) is
    ]
  where
    not_directory_content : (content : Content) → is_directory_content content ≡ false → (parent_of content ≡ root) × (entries_of content ≡ [])
    not_directory_content (File bytes) not_dir = (refl, refl)
    not_directory_content (Directory parent entries) not_dir = absurd (false≢true (sym not_dir))
    not_directory_content SocketName not_dir = (refl, refl)
    not_directory_content Fifo not_dir = (refl, refl)

    not_directory : (there : Option Node) → is_directory_in there ≡ false → (parent_in there ≡ root) × (entries_in there ≡ [])
    not_directory None not_dir = (refl, refl)
    not_directory (Some node) not_dir = not_directory_content node.content not_dir
