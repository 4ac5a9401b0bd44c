-- What each single change leaves of all that a tree has to keep: other entries in a directory, a link less, a new node, another parent.
use Rattle.std.proofs.Common.{◌≡◌, ◌≢◌, ℕ, zero, suc, ◌+◌, ◌-◌, ◌*◌, ◌<◌, ◌≤◌, Bool, true, false, cond, not, ◌&&◌, inl, inr, List, [], length, eqb, Option, Some, None, is_some, refl, sym, ap, subst, ◌∙◌, arith}
use Rattle.std.specs.Option.{option_map}
use Rattle.std.proofs.lemmas.Bool.{cases_Bool, cond-true, cond-false, false≢true, eq-eqb, ne_eqb, eqb-true, cases_lt, cases_eq, and_parts, and_cases, and_from, eqb-false, not_from_false}
use Rattle.std.proofs.lemmas.List.{set_past}
use Rattle.std.proofs.lemmas.Option.{same_Some, none-some}
use Rattle.kabi_types.specs.declared.inodes.DirEntry.{DirEntry}
use Rattle.posix_defs.specs.DiskFormat.{greatest_size, blocks_of}
use Rattle.posix_defs.specs.Tree.{Content, File, Directory, SocketName, Fifo, Node, Tree, node_at, with_node, is_in_use, is_directory, is_directory_in, is_directory_content, links_in, links_at, entries_of, entries_in, entries_at, parent_of, parent_in, parent_at, size_of, size_in, size_at, blocks_in, used_blocks}
use Rattle.posix_defs.specs.TreeChanges.{with_entries_in, with_entries, left_of, left_in, link_dropped, under, hung, hung_if_directory}
use Rattle.posix_defs.specs.PathCalls.{is_socket, is_socket_kind, kind_in, kind_of_content}
use Rattle.posix_defs.specs.IsTree.{AreEntries, IsNode, named_in, names_of}
use Rattle.posix_defs.proofs.TreeNodes.{IsNumber, is_number, directory_number, length-with_node, blocks-with_node, node_at-with_node, node_at-with_node_other, seen_same, summed, summed_same}
use Rattle.tree_laws.proofs.EntryLists.{count_of, one_at}

-- every node that is there may be there
abbrev pub AreNodes : Tree → Type 0
AreNodes tree = (number : ℕ) (node : Node) → node_at tree number ≡ Some node → IsNode node

pub nodes-with_node : (tree : Tree) (n : ℕ) (there : Option Node) → AreNodes tree → ((node : Node) → there ≡ Some node → IsNode node) → AreNodes (with_node tree n there)
nodes-with_node tree zero there are is number node at = are number node at
nodes-with_node tree (suc before) there are is number node at =
    elim (cases_eq number (suc before)) [
      | inl same ↦
          elim (cases_lt before (length tree.nodes)) [
            | inl lt ↦ is node (sym (node_at-with_node tree (suc before) there (record { above = omega arith; within = omega (arith, lt) })) ∙ ap (node_at (with_node tree (suc before) there)) (sym same) ∙ at)
            | inr past ↦ are number node (ap (λ (nodes : List (Option Node)). node_at (record tree { nodes = nodes }) number) (sym (set_past tree.nodes before there past)) ∙ at)
          ]
      | inr other ↦ are number node (sym (node_at-with_node_other tree (suc before) number there other) ∙ at)
    ]

-- ---- a directory with other entries

-- a directory as it stands under its number
pub directory_is : (there : Option Node) → is_directory_in there ≡ true → there ≡ Some (record { links = links_in there; content = Directory (parent_in there) (entries_in there) })
directory_is None is = absurd (false≢true is)
directory_is (Some node) is = ap (λ (content : Content). Some (record { links = node.links; content = content })) (content_is node.content is)
  where
    content_is : (content : Content) → is_directory_content content ≡ true → content ≡ Directory (parent_of content) (entries_of content)
    content_is (File bytes) is = absurd (false≢true is)
    content_is (Directory parent entries) is = refl
    content_is SocketName is = absurd (false≢true is)
    content_is Fifo is = absurd (false≢true is)

-- the same directory with other entries
abbrev pub listing : Tree → ℕ → List DirEntry → Node
listing tree dir entries = record { links = links_at tree dir; content = Directory (parent_at tree dir) entries }

-- what other entries of a directory leave
pub record Relisted (old new : Tree) (dir : ℕ) (entries : List DirEntry) : Type 0 where
  pub blocks : new.blocks ≡ old.blocks
  pub count : length new.nodes ≡ length old.nodes
  pub links : (m : ℕ) → links_at new m ≡ links_at old m
  pub directories : (m : ℕ) → is_directory new m ≡ is_directory old m
  pub sockets : (m : ℕ) → is_socket new m ≡ is_socket old m
  pub parents : (m : ℕ) → parent_at new m ≡ parent_at old m
  pub here : entries_at new dir ≡ entries
  pub others : (m : ℕ) → m ≢ dir → node_at new m ≡ node_at old m
  pub names : (k : ℕ) → names_of new k + count_of k (entries_at old dir) ≡ names_of old k + count_of k entries
  pub used : used_blocks new + blocks_of (size_at old dir) ≡ used_blocks old + blocks_of (32 * (length entries + 2))
  pub size : size_at old dir ≡ 32 * (length (entries_at old dir) + 2)
  pub nodes : AreNodes old → AreEntries entries → 32 * (length entries + 2) ≤ greatest_size → AreNodes new

pub with_entries_is : (tree : Tree) (dir : ℕ) (change : List DirEntry → List DirEntry) → is_directory tree dir ≡ true
    → with_entries tree dir change ≡ with_node tree dir (Some (listing tree dir (change (entries_at tree dir))))
with_entries_is tree dir change is =
    ap (λ (there : Option Node). with_node tree dir (option_map {T = Node} (λ node. record node { content = with_entries_in change node.content }) there)) (directory_is (node_at tree dir) is)

relisted_node : (tree : Tree) (dir : ℕ) (entries : List DirEntry) → is_directory tree dir ≡ true → Relisted tree (with_node tree dir (Some (listing tree dir entries))) dir entries
relisted_node tree dir entries is =
    let there : Option Node = Some (listing tree dir entries) in
    let number = directory_number tree dir is in
    let at = directory_is (node_at tree dir) is in
    record {
      blocks = blocks-with_node tree dir there;
      count = length-with_node tree dir there;
      links = seen_same links_in tree dir there refl;
      directories = seen_same is_directory_in tree dir there (sym is);
      sockets = seen_same (λ node. is_socket_kind (kind_in node)) tree dir there (sym (ap (λ (node : Option Node). is_socket_kind (kind_in node)) at));
      parents = seen_same parent_in tree dir there refl;
      here = ap entries_in (node_at-with_node tree dir there number);
      others = λ m other. node_at-with_node_other tree dir m there other;
      names = λ k. summed (named_in k) tree dir there number;
      used = summed blocks_in tree dir there number;
      size = ap size_in at;
      nodes = λ are is_list fits. nodes-with_node tree dir there are (λ node same.
          let old : IsNode (record { links = links_at tree dir; content = Directory (parent_at tree dir) (entries_at tree dir) }) = are dir _ at in
          subst IsNode (same_Some (listing tree dir entries) node same) (record { content = is_list; size = fits; links = old.links; single = λ _. old.single refl; socket = λ is_socket. absurd (false≢true is_socket) }));
    }

pub relisted : (tree : Tree) (dir : ℕ) (change : List DirEntry → List DirEntry) → is_directory tree dir ≡ true → Relisted tree (with_entries tree dir change) dir (change (entries_at tree dir))
relisted tree dir change is =
    subst (λ (new : Tree). Relisted tree new dir (change (entries_at tree dir))) (sym (with_entries_is tree dir change is)) (relisted_node tree dir (change (entries_at tree dir)) is)

-- ---- a link less

-- what one link less of a node leaves; a directory goes with it
pub record Dropped (old new : Tree) (number : ℕ) : Type 0 where
  pub blocks : new.blocks ≡ old.blocks
  pub count : length new.nodes ≡ length old.nodes
  pub links : (m : ℕ) → links_at new m + one_at number m ≡ links_at old m
  pub directories : (m : ℕ) → is_directory new m ≡ true → (is_directory old m ≡ true) × (m ≢ number)
  pub others : (m : ℕ) → m ≢ number → node_at new m ≡ node_at old m
  pub entries : (m : ℕ) → entries_at new m ≡ entries_at old m
  pub names : (k : ℕ) → names_of new k ≡ names_of old k
  pub used : used_blocks new ≤ used_blocks old
  -- a socket's name that stays has to have a link
  pub nodes : AreNodes old → (is_socket new number ≡ true → 0 < links_at new number) → AreNodes new

pub one_here : (n m : ℕ) → m ≡ n → one_at n m ≡ 1
one_here n m same = ap (λ (b : Bool). cond b 1 0) (eq-eqb n m (sym same))

pub one_off : (n m : ℕ) → m ≢ n → one_at n m ≡ 0
one_off n m other = ap (λ (b : Bool). cond b 1 0) (ne_eqb n m (λ e. other (sym e)))

-- the node changes to what has one link less and no other entries
dropped_to : (tree : Tree) (number : ℕ) (there : Option Node) → IsNumber tree number → links_in there + 1 ≡ links_at tree number → entries_at tree number ≡ [] → entries_in there ≡ []
    → is_directory_in there ≡ false → blocks_in there ≤ blocks_in (node_at tree number) → (AreNodes tree → (is_socket_kind (kind_in there) ≡ true → 0 < links_in there) → (node : Node) → there ≡ Some node → IsNode node)
    → Dropped tree (with_node tree number there) number
dropped_to tree number there is one_less none none_left no_directory smaller stays =
    let same_entries : entries_in there ≡ entries_in (node_at tree number) = none_left ∙ sym none in
    record {
      blocks = blocks-with_node tree number there;
      count = length-with_node tree number there;
      links = λ m. elim (cases_eq m number) [
        | inl same ↦
            let at : links_at (with_node tree number there) m ≡ links_in there = ap (λ (k : ℕ). links_at (with_node tree number there) k) same ∙ ap links_in (node_at-with_node tree number there is) in
            let was : links_at tree m ≡ links_at tree number = ap (links_at tree) same in
            omega (arith, at, was, one_less, one_here number m same)
        | inr other ↦
            let at : links_at (with_node tree number there) m ≡ links_at tree m = ap links_in (node_at-with_node_other tree number m there other) in
            omega (arith, at, one_off number m other)
      ];
      directories = λ m is_dir. elim (cases_eq m number) [
        | inl same ↦ absurd (false≢true (sym no_directory ∙ sym (ap is_directory_in (node_at-with_node tree number there is)) ∙ ap (is_directory (with_node tree number there)) (sym same) ∙ is_dir))
        | inr other ↦ (sym (ap is_directory_in (node_at-with_node_other tree number m there other)) ∙ is_dir, other)
      ];
      others = λ m other. node_at-with_node_other tree number m there other;
      entries = seen_same entries_in tree number there same_entries;
      names = λ k. summed_same (named_in k) tree number there is (ap (count_of k) same_entries);
      used = let sum = summed blocks_in tree number there is in omega (arith, sum, smaller);
      nodes = λ are linked. nodes-with_node tree number there are (stays are (λ is_name.
          let here = node_at-with_node tree number there is in
          subst (λ (node : Option Node). 0 < links_in node) here (linked (ap (λ (node : Option Node). is_socket_kind (kind_in node)) here ∙ is_name))));
    }

some_of : (there : Option Node) → is_some there ≡ true → (node : Node) × (there ≡ Some node)
some_of None used = absurd (false≢true used)
some_of (Some node) used = (node, refl)

pub node_of : (tree : Tree) (number : ℕ) → is_in_use tree number ≡ true → (node : Node) × (node_at tree number ≡ Some node)
node_of tree number used = some_of (node_at tree number) used

no_entries : (content : Content) → is_directory_content content ≡ false → entries_of content ≡ []
no_entries (File bytes) not_dir = refl
no_entries (Directory parent entries) not_dir = absurd (false≢true (sym not_dir))
no_entries SocketName not_dir = refl
no_entries Fifo not_dir = refl

entries_gone : (content : Content) → (is_directory_content content ≡ true → entries_of content ≡ []) → entries_of content ≡ []
entries_gone (File bytes) empty = refl
entries_gone (Directory parent entries) empty = empty refl
entries_gone SocketName empty = refl
entries_gone Fifo empty = refl

dropped_at : (tree : Tree) (number : ℕ) (opened : Bool) (node : Node) → AreNodes tree → IsNumber tree number → node_at tree number ≡ Some node → 0 < node.links
    → (is_directory_content node.content ≡ true → (entries_of node.content ≡ []) × (opened ≡ false)) → Dropped tree (with_node tree number (left_of opened node)) number
dropped_at tree number opened node are is at linked empty =
    let valid : IsNode node = are number node at in
    let entries : entries_at tree number ≡ [] = ap entries_in at ∙ entries_gone node.content (λ dir. (empty dir).0) in
    let last : Bool = eqb node.links 1 && not opened in
    let fewer : Node = record node { links = node.links - 1 } in
    elim (cases_Bool last) [
      | inl goes ↦
          let one_link : node.links ≡ 1 = eqb-true node.links 1 (and_parts (eqb node.links 1) (not opened) goes).0 in
          let was : links_at tree number ≡ 1 = ap links_in at ∙ one_link in
          subst (λ (there : Option Node). Dropped tree (with_node tree number there) number) (sym (cond-true last None (Some fewer) goes))
          (dropped_to tree number None is (omega (arith, was)) entries refl refl (omega arith) (λ _ _ n e. absurd (none-some n e)))
      | inr stays ↦
          let no_dir : is_directory_content node.content ≡ false =
          elim (cases_Bool (is_directory_content node.content)) [
            | inl dir ↦ absurd (false≢true (sym stays ∙ and_from (eqb node.links 1) (not opened) (eq-eqb node.links 1 (valid.single dir)) (not_from_false opened (empty dir).1)))
            | inr not_dir ↦ not_dir
          ] in
          let was : links_at tree number ≡ node.links = ap links_in at in
          let same_blocks : blocks_in (Some fewer) ≡ blocks_in (node_at tree number) = sym (ap blocks_in at) in
          subst (λ (there : Option Node). Dropped tree (with_node tree number there) number) (sym (cond-false last None (Some fewer) stays))
          (dropped_to tree number (Some fewer) is (omega (arith, was, linked)) entries (no_entries node.content no_dir) no_dir (omega (arith, same_blocks)) (λ _ still_linked n e.
          subst IsNode (same_Some fewer n e) (record { content = valid.content; size = valid.size; links = omega (arith, valid.links); single = λ dir. absurd (false≢true (sym no_dir ∙ dir)); socket = still_linked })))
    ]

-- a node in use with a link loses one; a directory is empty, and no description keeps it
pub dropped : (tree : Tree) (number : ℕ) (opened : Bool) → AreNodes tree → is_in_use tree number ≡ true → 0 < links_at tree number
    → (is_directory tree number ≡ true → (entries_at tree number ≡ []) × (opened ≡ false)) → Dropped tree (link_dropped tree number opened) number
dropped tree number opened are used linked empty =
    let node = node_of tree number used in
    let at = node.1 in
    subst (λ (there : Option Node). Dropped tree (with_node tree number (left_in opened there)) number) (sym at)
    (dropped_at tree number opened node.0 are (is_number tree number used) at (subst (λ (there : Option Node). 0 < links_in there) at linked)
    (subst (λ (there : Option Node). is_directory_in there ≡ true → (entries_in there ≡ []) × (opened ≡ false)) at empty))

-- a socket's name that no description keeps has a link more, or goes
left_linked : (opened : Bool) (there : Option Node) → 0 < links_in there → (is_socket_kind (kind_in there) ≡ true → opened ≡ false)
    → is_socket_kind (kind_in (left_in opened there)) ≡ true → 0 < links_in (left_in opened there)
left_linked opened None linked unopened is = linked
left_linked opened (Some node) linked unopened is = go (eqb node.links 1 && not opened) refl is
  where
    fewer : Node
    fewer = record node { links = node.links - 1 }

    more_links : is_socket_kind (kind_of_content node.content) ≡ true → (eqb node.links 1 && not opened) ≡ false → 0 < node.links - 1
    more_links is_name stays = elim (and_cases (eqb node.links 1) (not opened) stays) [
      | inl more ↦ let several : node.links ≢ 1 = eqb-false node.links 1 more in omega (arith, linked, several)
      | inr held ↦ absurd (false≢true (sym held ∙ not_from_false opened (unopened is_name)))
    ]

    go : (last : Bool) → (eqb node.links 1 && not opened) ≡ last → is_socket_kind (kind_in (cond last None (Some (record node { links = node.links - 1 })))) ≡ true
        → 0 < links_in (cond last None (Some (record node { links = node.links - 1 })))
    go true goes is_name = absurd (false≢true is_name)
    go false stays is_name = more_links is_name stays

pub socket_linked : (tree : Tree) (number : ℕ) (opened : Bool) → is_in_use tree number ≡ true → 0 < links_at tree number → (is_socket tree number ≡ true → opened ≡ false)
    → is_socket (link_dropped tree number opened) number ≡ true → 0 < links_at (link_dropped tree number opened) number
socket_linked tree number opened used linked unopened is_name =
    let here = node_at-with_node tree number (left_in opened (node_at tree number)) (is_number tree number used) in
    subst (λ (node : Option Node). 0 < links_in node) (sym here)
    (left_linked opened (node_at tree number) linked unopened (sym (ap (λ (node : Option Node). is_socket_kind (kind_in node)) here) ∙ is_name))

-- ---- a new node

-- what a new node without entries leaves
pub record Added (old new : Tree) (number : ℕ) (content : Content) : Type 0 where
  pub blocks : new.blocks ≡ old.blocks
  pub count : length new.nodes ≡ length old.nodes
  pub links : (m : ℕ) → links_at new m ≡ links_at old m + one_at number m
  pub here : node_at new number ≡ Some (record { links = 1; content = content })
  pub others : (m : ℕ) → m ≢ number → node_at new m ≡ node_at old m
  pub entries : (m : ℕ) → entries_at new m ≡ entries_at old m
  pub names : (k : ℕ) → names_of new k ≡ names_of old k
  pub used : used_blocks new ≡ used_blocks old + blocks_of (size_of content)
  pub nodes : AreNodes old → IsNode (record { links = 1; content = content }) → AreNodes new

pub added : (tree : Tree) (number : ℕ) (content : Content) → IsNumber tree number → node_at tree number ≡ None → entries_of content ≡ []
    → Added tree (with_node tree number (Some (record { links = 1; content = content }))) number content
added tree number content is free none =
    let there : Option Node = Some (record { links = 1; content = content }) in
    let same_entries : entries_in there ≡ entries_in (node_at tree number) = none ∙ sym (ap entries_in free) in
    record {
      blocks = blocks-with_node tree number there;
      count = length-with_node tree number there;
      links = λ m. elim (cases_eq m number) [
        | inl same ↦
            let at : links_at (with_node tree number there) m ≡ 1 = ap (links_at (with_node tree number there)) same ∙ ap links_in (node_at-with_node tree number there is) in
            let was : links_at tree m ≡ 0 = ap (links_at tree) same ∙ ap links_in free in
            omega (arith, at, was, one_here number m same)
        | inr other ↦
            let at : links_at (with_node tree number there) m ≡ links_at tree m = ap links_in (node_at-with_node_other tree number m there other) in
            omega (arith, at, one_off number m other)
      ];
      here = node_at-with_node tree number there is;
      others = λ m other. node_at-with_node_other tree number m there other;
      entries = seen_same entries_in tree number there same_entries;
      names = λ k. summed_same (named_in k) tree number there is (ap (count_of k) same_entries);
      used =
          let sum = summed blocks_in tree number there is in
          let none_before : blocks_in (node_at tree number) ≡ 0 = ap blocks_in free in
          omega (arith, sum, none_before);
      nodes = λ are valid. nodes-with_node tree number there are (λ node same. subst IsNode (same_Some _ node same) valid);
    }

-- ---- a link more, other bytes, another parent: what is seen of no node but that one

-- what a change leaves that keeps who is a directory, and its parent and entries
pub record SameDirectories (old new : Tree) : Type 0 where
  pub blocks : new.blocks ≡ old.blocks
  pub count : length new.nodes ≡ length old.nodes
  pub directories : (m : ℕ) → is_directory new m ≡ is_directory old m
  pub parents : (m : ℕ) → parent_at new m ≡ parent_at old m
  pub entries : (m : ℕ) → entries_at new m ≡ entries_at old m
  pub names : (k : ℕ) → names_of new k ≡ names_of old k

pub same_directories : (tree : Tree) (number : ℕ) (there : Option Node) → IsNumber tree number → is_directory_in there ≡ is_directory tree number → parent_in there ≡ parent_at tree number
    → entries_in there ≡ entries_at tree number → SameDirectories tree (with_node tree number there)
same_directories tree number there is same_kind same_parent same_entries = record {
  blocks = blocks-with_node tree number there;
  count = length-with_node tree number there;
  directories = seen_same is_directory_in tree number there same_kind;
  parents = seen_same parent_in tree number there same_parent;
  entries = seen_same entries_in tree number there same_entries;
  names = λ k. summed_same (named_in k) tree number there is (ap (count_of k) same_entries);
}

-- ---- a directory that hangs elsewhere

-- what another parent of a directory leaves; nothing changes where the node is none
pub record Hung (old new : Tree) (number to : ℕ) : Type 0 where
  pub blocks : new.blocks ≡ old.blocks
  pub count : length new.nodes ≡ length old.nodes
  pub links : (m : ℕ) → links_at new m ≡ links_at old m
  pub directories : (m : ℕ) → is_directory new m ≡ is_directory old m
  pub entries : (m : ℕ) → entries_at new m ≡ entries_at old m
  pub names : (k : ℕ) → names_of new k ≡ names_of old k
  pub used : used_blocks new ≡ used_blocks old
  pub others : (m : ℕ) → m ≢ number → parent_at new m ≡ parent_at old m
  pub here : is_directory new number ≡ true → parent_at new number ≡ to
  pub nodes : AreNodes old → AreNodes new
  pub elsewhere : (m : ℕ) → m ≢ number → node_at new m ≡ node_at old m
  pub file : is_directory old number ≡ false → (m : ℕ) → node_at new m ≡ node_at old m

hung_node : (tree : Tree) (number to : ℕ) → is_directory tree number ≡ true
    → hung tree number to ≡ with_node tree number (Some (record { links = links_at tree number; content = Directory to (entries_at tree number) }))
hung_node tree number to is =
    ap (λ (there : Option Node). with_node tree number (option_map {T = Node} (λ node. record node { content = under to node.content }) there)) (directory_is (node_at tree number) is)

hung_there : (tree : Tree) (number to : ℕ) → is_directory tree number ≡ true → Hung tree (with_node tree number (Some (record { links = links_at tree number; content = Directory to (entries_at tree number) }))) number to
hung_there tree number to is =
    let node : Node = record { links = links_at tree number; content = Directory to (entries_at tree number) } in
    let there : Option Node = Some node in
    let at = directory_number tree number is in
    let was = directory_is (node_at tree number) is in
    record {
      blocks = blocks-with_node tree number there;
      count = length-with_node tree number there;
      links = seen_same links_in tree number there refl;
      directories = seen_same is_directory_in tree number there (sym is);
      entries = seen_same entries_in tree number there refl;
      names = λ k. summed_same (named_in k) tree number there at refl;
      used = summed_same blocks_in tree number there at (sym (ap blocks_in was));
      others = λ m other. ap parent_in (node_at-with_node_other tree number m there other);
      here = λ _. ap parent_in (node_at-with_node tree number there at);
      nodes = λ are. nodes-with_node tree number there are (λ n same.
          let old : IsNode (record { links = links_at tree number; content = Directory (parent_at tree number) (entries_at tree number) }) = are number _ was in
          subst IsNode (same_Some node n same) (record { content = old.content; size = old.size; links = old.links; single = λ _. old.single refl; socket = λ is_socket. absurd (false≢true is_socket) }));
      elsewhere = λ m other. node_at-with_node_other tree number m there other;
      file = λ not m. absurd (false≢true (sym not ∙ is));
    }

pub hung_is : (tree : Tree) (number to : ℕ) → Hung tree (hung_if_directory tree number to) number to
hung_is tree number to =
    elim (cases_Bool (is_directory tree number)) [
      | inl is ↦ subst (λ (new : Tree). Hung tree new number to) (sym (cond-true (is_directory tree number) (hung tree number to) tree is ∙ hung_node tree number to is)) (hung_there tree number to is)
      | inr not_dir ↦ subst (λ (new : Tree). Hung tree new number to) (sym (cond-false (is_directory tree number) (hung tree number to) tree not_dir)) (record {
        blocks = refl;
        count = refl;
        links = λ m. refl;
        directories = λ m. refl;
        entries = λ m. refl;
        names = λ k. refl;
        used = refl;
        others = λ m other. refl;
        here = λ dir. absurd (false≢true (sym not_dir ∙ dir));
        nodes = λ are. are;
        elsewhere = λ m other. refl;
        file = λ not m. refl;
      })
    ]
