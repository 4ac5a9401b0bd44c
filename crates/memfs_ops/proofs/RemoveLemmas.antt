-- A name that goes, and its node with the last one.
use Rattle.std.proofs.Common.{◌≡◌, ◌≢◌, ℕ, zero, suc, ◌+◌, ◌*◌, ◌<◌, Bool, true, false, not, ◌&&◌, ◌||◌, eqb, eqb-true, ltb, List, [], ◌∷◌, length, Option, Some, None, Result, Ok, refl, sym, ap, ◌∙◌, subst, inl, inr, arith}
use Rattle.std.specs.Option.{option_map}
use Rattle.std.proofs.lemmas.Bool.{cases_Bool, cases_eq, cases_lt, false≢true, ne_eqb, ltb-false}
use Rattle.kabi_types.specs.declared.errnos.Errno.{Errno}
use Rattle.kabi_types.specs.declared.errnos.Errno.TheVariants.{EBUSY, EINVAL, ENOTDIR, ENOTEMPTY, EPERM}
use Rattle.kabi_types.specs.declared.inodes.DirEntry.{DirEntry}
use Rattle.kabi_types.specs.declared.inodes.Inode.{Inode}
use Rattle.kheap_slabs.specs.Objects.{object}
use Rattle.kheap_slabs.specs.Purse.{Purse}
use Rattle.kheap_slabs.specs.declared.objects.Name.{Name}
use Rattle.kheap_slabs.specs.Heap.{Heap}
use Rattle.lru_index.specs.NameKeys.{name_key}
use Rattle.lru_index.specs.Order.{Order}
use Rattle.lru_index.specs.declared.keys.NameKey.{NameKey}
use Rattle.posix_defs.specs.DiskFormat.{IsName}
use Rattle.posix_defs.specs.DiskTree.{StandsFor}
use Rattle.posix_defs.specs.IsTree.{IsTree}
use Rattle.posix_defs.specs.PathCalls as calls
use Rattle.posix_defs.specs.Paths.{IsLed, resolve}
use Rattle.posix_defs.specs.declared.walked.Walked.{Walked}
use Rattle.posix_defs.specs.declared.walked.Walked.TheVariants as walked
use Rattle.posix_defs.specs.PathCalls.{is_socket, is_empty, unless}
use Rattle.posix_defs.specs.Tree.{Content, File, Directory, SocketName, Fifo, Node, Tree, node_at, found, found_among, is_directory, is_directory_in, is_in_use, entries_at, entries_in, size_of, is_directory_content, entries_of, IsInodeAt, IsInodeIn}
use Rattle.posix_defs.specs.TreeChanges.{no_entry, place_of, unlink}
use Rattle.posix_defs.proofs.TreeNodes.{found_in_directory}
use Rattle.disk_laws.proofs.DiskNodes.{one_tree}
use Rattle.tree_laws.specs.Untouched.{IsElsewhere}
use Rattle.tree_laws.proofs.EntryLists.{stands_at}
use Rattle.tree_laws.proofs.PathLeads.{path_led}
use Rattle.tree_laws.proofs.TreeKeeps.{entries_are, found_named, found_not_root, unlink_keeps}
use Rattle.tree_laws.proofs.OtherNodes.{unlink_names}
use Rattle.memfs_node.proofs.Looking.{no_own, no_parent}
use Rattle.name_cache.specs.Names.{KeepsNames, name_slot, key_of}
use Rattle.memfs_ops.specs.FileTree.{TreeView, Stands, MayWalk}
use Rattle.memfs_ops.specs.Changing.{MidWay, ChangedTo}
use Rattle.memfs_ops.specs.Closing.{MayFree}
use Rattle.memfs_ops.specs.Entries.{HasEntry}
use Rattle.memfs_ops.specs.Removing.{ToldTo, is_held, TellsHeld, TellsOpened, HoldsNoSocket, MayUnlink}
use Rattle.memfs_ops.proofs.ChangeLemmas.{fetch_of}
use Rattle.memfs_ops.proofs.CloseLemmas.{links_of, same_pins}
use Rattle.memfs_ops.proofs.StepLemmas.{mid_stands}

pub free_of : (heap : Heap) (purse : Purse) → MayWalk heap purse → MayFree heap purse
free_of heap purse may = record { fetch = fetch_of heap purse may; few = may.few.1 }

-- ---- names that aren't cached

pub untold : (objects : List (Option Name)) (names : Order NameKey) (dir : ℕ) (name : List ℕ) (slot : ℕ) (n : Name) → KeepsNames objects names → name_slot names (name_key dir name) ≡ None → object objects slot ≡ Some n → IsElsewhere dir name n.dir n.name
untold objects names dir name slot n keeps none there = elim (cases_eq n.dir dir) [
  | inl same ↦ inr (λ called.
      let key : key_of n ≡ name_key dir name = ap (λ d. name_key d n.name) same ∙ ap (name_key dir) called in
      let at : name_slot names (name_key dir name) ≡ Some slot = keeps.only (name_key dir name) slot (ap (option_map key_of) there ∙ ap Some key) in
      let both : ◌≡◌ {A = Option ℕ} None (Some slot) = sym none ∙ at in
      absurd (cc))
  | inr differs ↦ inl differs
]

none_some : (n : ℕ) → ◌≡◌ {A = Option ℕ} None (Some n) → ⊥
none_some n e = cc

-- what is found has a name of an entry
pub has_entry : (tree : Tree) (dir : ℕ) (name : List ℕ) (node : ℕ) → IsTree tree → found tree dir name ≡ Some node → HasEntry tree dir name
has_entry tree dir name node is there = record {
  node = node;
  there = there;
  own = λ e. none_some node (sym (no_own tree dir name is e) ∙ there);
  parent = λ e. none_some node (sym (no_parent tree dir name is e) ∙ there);
}

pub entry_name : (tree : Tree) (dir : ℕ) (name : List ℕ) (node : ℕ) → IsTree tree → found tree dir name ≡ Some node → IsName name
entry_name tree dir name node is there =
    let stands = stands_at (entries_at tree dir) name node there in
    let are = entries_are tree dir is (found_in_directory tree dir name node there) in
    subst (λ (n : List ℕ). IsName n) stands.called (are.names (place_of name (entries_at tree dir)) no_entry stands.within).valid

-- a node in use has a number
pub in_use_above : (tree : Tree) (number : ℕ) → is_in_use tree number ≡ true → 0 < number
in_use_above tree zero used = absurd (cc)
in_use_above tree (suc before) used = omega arith

-- ---- the node of a name

pub node_apart : (tree : Tree) (pins : ℕ → ℕ) (dir : ℕ) (name : List ℕ) (number : ℕ) (opened : Bool) → MayUnlink tree pins dir name number opened → number ≢ dir
node_apart tree pins dir name number opened may same =
    let is_dir : is_directory tree number ≡ true = ap (is_directory tree) same ∙ found_in_directory tree dir name number may.there in
    let none : entries_at tree dir ≡ [] = ap (entries_at tree) (sym same) ∙ (may.directory is_dir).0 in
    none_some number (sym (ap (λ (es : List DirEntry). found_among es name) none) ∙ may.there)

pub some_links : (tree : Tree) (dir : ℕ) (name : List ℕ) (number : ℕ) (inode : Inode) → IsTree tree → found tree dir name ≡ Some number → IsInodeAt tree number inode → 0 < inode.nlink
some_links tree dir name number inode is there shows =
    let links = links_of tree number inode shows in
    let named = found_named tree dir name number there in
    omega (arith, links, named, is.links number)

-- ---- the end of an unlink

pub unlinked_stands : (heap : Heap) (fs : TreeView) (tree : Tree) (pins : ℕ → ℕ) (dir : ℕ) (name : List ℕ) (number : ℕ) (opened : Bool) → IsTree tree → MayUnlink tree pins dir name number opened → name_slot fs.names (name_key dir name) ≡ None
    → MidWay heap fs tree (unlink tree dir name number opened) pins → Stands heap fs (unlink tree dir name number opened) pins
unlinked_stands heap fs tree pins dir name number opened is may none mid =
    mid_stands heap fs tree (unlink tree dir name number opened) pins mid (unlink_keeps tree dir name number opened is may.there may.directory may.socket)
    (λ slot n there leads. unlink_names tree dir name number opened is may.there may.directory n.dir n.name (untold heap.names fs.names dir name slot n (mid 0).names none there) ∙ leads)

-- what holds of one tree of the disk holds of each
pub same_may : (heap : Heap) (fs : TreeView) (one other : Tree) (mine pins : ℕ → ℕ) (dir : ℕ) (name : List ℕ) (number : ℕ) (opened : Bool) → Stands heap fs one mine → Stands heap fs other pins → (opened ≡ false → pins number ≡ 0) → MayUnlink one mine dir name number opened
    → MayUnlink other pins dir name number opened
same_may heap fs one other mine pins dir name number opened s also held may =
    let same : one ≡ other = one_tree fs.disk.blocks one other s.behind also.behind in
    record {
      there = subst (λ (t : Tree). found t dir name ≡ Some number) same may.there;
      directory = subst (λ (t : Tree). is_directory t number ≡ true → (entries_at t number ≡ []) × (opened ≡ false)) same may.directory;
      socket = subst (λ (t : Tree). is_socket t number ≡ true → opened ≡ false) same may.socket;
      held = held;
    }

-- who isn't held is held by no one, whichever pins are named
pub held_alike : (heap : Heap) (fs : TreeView) (one other : Tree) (mine pins : ℕ → ℕ) (number : ℕ) → Stands heap fs one mine → Stands heap fs other pins → mine number ≡ 0 → pins number ≡ 0
held_alike heap fs one other mine pins number s also none = elim (cases_lt 0 (pins number)) [
  | inl some ↦ let same = same_pins pins mine heap.vnodes number also.held s.held some in absurd (omega (arith, same, none, some))
  | inr zero_pins ↦ omega arith
]

pub held_same : (heap : Heap) (fs : TreeView) (one other : Tree) (mine pins : ℕ → ℕ) (number : ℕ) (answer : Bool) → Stands heap fs one mine → Stands heap fs other pins → answer ≡ is_held mine number → is_held pins number ≡ answer
held_same heap fs one other mine pins number answer s also is = ap (ltb 0) same ∙ sym is
  where
    same : pins number ≡ mine number
    same = elim (cases_lt 0 (mine number)) [
      | inl some ↦ same_pins mine pins heap.vnodes number s.held also.held some
      | inr few ↦ let none : mine number ≡ 0 = omega (arith, few) in held_alike heap fs one other mine pins number s also none ∙ sym none
    ]

-- ---- what an unlink tells

pub no_held : (count : ℕ) → ltb 0 count ≡ false → count ≡ 0
no_held count is = let few = ltb-false 0 count is in omega (arith, few)

pub held_none : (count held : ℕ) (file : Bool) → count ≡ held → count ≡ 0 → not (eqb count 0) ≡ (ltb 0 held && file)
held_none count held file same none = ap (λ n. not (eqb n 0)) none ∙ ap (λ n. ltb 0 n && file) (sym none ∙ same)

pub held_some : (count held : ℕ) (file answer : Bool) → count ≡ held → count ≢ 0 → answer ≡ file → answer ≡ (ltb 0 held && file)
held_some count held file answer same some is = elim (cases_Bool (ltb 0 held)) [
  | inl more ↦ is ∙ sym (ap (λ b. b && file) more)
  | inr few ↦ let none = ltb-false 0 held few in absurd (some (omega (arith, same, none)))
]

pub held_false : (held dir socket : Bool) → dir ≡ true → (held && not (dir || socket)) ≡ false
held_false true dir socket is = ap (λ b. not (b || socket)) is
held_false false dir socket is = refl

pub socket_false : (held dir socket : Bool) → socket ≡ true → (held && not (dir || socket)) ≡ false
socket_false true true socket is = refl
socket_false true false socket is = ap not is
socket_false false dir socket is = refl

pub held_is : (held dir socket : Bool) → dir ≡ false → socket ≡ false → (held && not (dir || socket)) ≡ held
held_is true dir socket no_dir no_socket = ap (λ b. not (b || socket)) no_dir ∙ ap not no_socket
held_is false dir socket no_dir no_socket = refl

-- a name of a file or a socket may go
pub file_may : (tree : Tree) (pins : ℕ → ℕ) (dir : ℕ) (name : List ℕ) (number : ℕ) (opened : Bool) → found tree dir name ≡ Some number → is_directory tree number ≡ false → HoldsNoSocket tree pins → opened ≡ calls.is_held tree (is_held pins) number
    → MayUnlink tree pins dir name number opened
file_may tree pins dir name number opened there file none is = record {
  there = there;
  directory = λ yes. absurd (false≢true (sym file ∙ yes));
  socket = λ yes. is ∙ socket_false (is_held pins number) (is_directory tree number) (is_socket tree number) yes;
  held = λ no. elim (cases_Bool (is_socket tree number)) [
    | inl socket ↦ none number socket
    | inr plain ↦ no_held (pins number) (sym (held_is (is_held pins number) (is_directory tree number) (is_socket tree number) file plain) ∙ sym is ∙ no)
  ];
}

pub no_entries : (entries : List DirEntry) → eqb (length entries) 0 ≡ true → entries ≡ []
no_entries [] is = refl
no_entries (e ∷ es) is = let none : length (e ∷ es) ≡ 0 = eqb-true (length (e ∷ es)) 0 is in absurd (omega (arith, none))

-- a directory without entries that no one holds may go
pub dir_may : (tree : Tree) (pins : ℕ → ℕ) (dir : ℕ) (name : List ℕ) (number : ℕ) → found tree dir name ≡ Some number → is_empty tree number ≡ true → is_held pins number ≡ false → MayUnlink tree pins dir name number false
dir_may tree pins dir name number there empty none = record {
  there = there;
  directory = λ yes. (no_entries (entries_at tree number) empty, refl);
  socket = λ yes. refl;
  held = λ no. no_held (pins number) none;
}

-- how many entries a directory has is told by its size
size_tells : (there : Option Node) (inode : Inode) → IsInodeIn there inode → is_directory_in there ≡ true → inode.size ≡ 32 * (length (entries_in there) + 2)
size_tells None inode is dir = absurd (cc)
size_tells (Some node) inode is dir = by_content node.content inode.size is.size dir
  where
    by_content : (content : Content) (size : ℕ) → size ≡ size_of content → is_directory_content content ≡ true → size ≡ 32 * (length (entries_of content) + 2)
    by_content (File bytes) size is dir = absurd (cc)
    by_content (Directory parent entries) size is dir = is
    by_content SocketName size is dir = absurd (cc)
    by_content Fifo size is dir = absurd (cc)

pub empty_is : (tree : Tree) (number : ℕ) (inode : Inode) → IsInodeAt tree number inode → is_directory tree number ≡ true → inode.size ≡ 64 → is_empty tree number ≡ true
empty_is tree number inode shows dir is =
    let told = size_tells (node_at tree number) inode shows dir in
    let none : length (entries_at tree number) ≡ 0 = omega (arith, told, is) in
    ap (λ n. eqb n 0) none

pub empty_is_not : (tree : Tree) (number : ℕ) (inode : Inode) → IsInodeAt tree number inode → is_directory tree number ≡ true → inode.size ≢ 64 → is_empty tree number ≡ false
empty_is_not tree number inode shows dir more =
    let told = size_tells (node_at tree number) inode shows dir in
    elim (cases_eq (length (entries_at tree number)) 0) [
      | inl none ↦ absurd (more (omega (arith, told, none)))
      | inr some ↦ ne_eqb (length (entries_at tree number)) 0 some
    ]

-- a path that ends in neither of the dots
pub passed : (heap : Heap) (fs : TreeView) (tree : Tree) (led : Result Tree Errno) (pins : ℕ → ℕ) (answer : Result (Unit {0}) Errno) (own parent : Bool) → own ≡ false → parent ≡ false → ChangedTo heap fs tree led pins answer
    → ChangedTo heap fs tree (unless own EINVAL (unless parent ENOTEMPTY led)) pins answer
passed heap fs tree led pins answer own parent no_own no_parent is =
    subst (λ (b : Bool). ChangedTo heap fs tree (unless b EINVAL (unless parent ENOTEMPTY led)) pins answer) (sym no_own) (subst (λ (b : Bool). ChangedTo heap fs tree (unless b ENOTEMPTY led) pins answer) (sym no_parent) is)

-- a directory without entries
pub emptied : (heap : Heap) (fs : TreeView) (tree : Tree) (pins : ℕ → ℕ) (led : Result Tree Errno) (number : ℕ) (answer : Result (Unit {0}) Errno) → is_directory tree number ≡ true → is_empty tree number ≡ true → ChangedTo heap fs tree (unless (is_held pins number) EBUSY led) pins answer
    → ChangedTo heap fs tree (unless (not (is_directory tree number)) ENOTDIR (unless (not (is_empty tree number)) ENOTEMPTY (unless (is_held pins number) EBUSY led))) pins answer
emptied heap fs tree pins led number answer dir none is =
    subst (λ (b : Bool). ChangedTo heap fs tree (unless (not b) ENOTDIR (unless (not (is_empty tree number)) ENOTEMPTY (unless (is_held pins number) EBUSY led))) pins answer) (sym dir)
    (subst (λ (b : Bool). ChangedTo heap fs tree (unless (not b) ENOTEMPTY (unless (is_held pins number) EBUSY led)) pins answer) (sym none) is)

-- ---- tests that tell the same

pub told_alike : (heap : Heap) (fs : TreeView) (tree : Tree) (one other : Result (Option ℕ × Tree) Errno) (pins : ℕ → ℕ) (answer : Result (Option ℕ) Errno) → one ≡ other → ToldTo heap fs tree one pins answer → ToldTo heap fs tree other pins answer
told_alike heap fs tree one other pins answer same is = subst (λ (led : Result (Option ℕ × Tree) Errno). ToldTo heap fs tree led pins answer) same is

pub changed_alike : (heap : Heap) (fs : TreeView) (tree : Tree) (one other : Result Tree Errno) (pins : ℕ → ℕ) (answer : Result (Unit {0}) Errno) → one ≡ other → ChangedTo heap fs tree one pins answer → ChangedTo heap fs tree other pins answer
changed_alike heap fs tree one other pins answer same is = subst (λ (led : Result Tree Errno). ChangedTo heap fs tree led pins answer) same is

no_both : (b : Bool) → (b && false) ≡ false
no_both true = refl
no_both false = refl

both_held : (one other dir socket : Bool) → (dir ≡ false → socket ≡ false → other ≡ one) → (one && not (dir || socket)) ≡ (other && not (dir || socket))
both_held one other false false same = ap (λ b. b && true) (sym (same refl refl))
both_held one other false true same = no_both one ∙ sym (no_both other)
both_held one other true socket same = no_both one ∙ sym (no_both other)

pub opened_alike : (tree : Tree) (pins : ℕ → ℕ) (opened : ℕ → Bool) (number : ℕ) → TellsOpened tree pins opened → calls.is_held tree (is_held pins) number ≡ calls.is_held tree opened number
opened_alike tree pins opened number tells = both_held (is_held pins number) (opened number) (is_directory tree number) (is_socket tree number) (tells number)

pub unlink_alike : (tree : Tree) (pins : ℕ → ℕ) (opened : ℕ → Bool) (w : Walked) → TellsOpened tree pins opened → calls.unlink_led tree (is_held pins) w ≡ calls.unlink_led tree opened w
unlink_alike tree pins opened (walked.Node number) tells = refl
unlink_alike tree pins opened (walked.Named dir name number slashed) tells =
    ap (λ (held : Bool). unless (is_directory tree number) EPERM (Ok (calls.freed_by tree number, unlink tree dir name number held))) (opened_alike tree pins opened number tells)
unlink_alike tree pins opened (walked.Free dir name slashed) tells = refl
unlink_alike tree pins opened (walked.Fail errno) tells = refl

pub rmdir_alike : (tree : Tree) (pins : ℕ → ℕ) (held : ℕ → Bool) (w : Walked) → IsTree tree → IsLed tree w → TellsHeld pins held → calls.rmdir_led tree (is_held pins) w ≡ calls.rmdir_led tree held w
rmdir_alike tree pins held (walked.Node number) is led tells = refl
rmdir_alike tree pins held (walked.Named dir name number slashed) is led tells =
    ap (λ (used : Bool). unless (not (is_directory tree number)) ENOTDIR (unless (not (is_empty tree number)) ENOTEMPTY (unless used EBUSY (Ok (unlink tree dir name number false))))) (sym (tells number (found_not_root tree dir name number is led.1)))
rmdir_alike tree pins held (walked.Free dir name slashed) is led tells = refl
rmdir_alike tree pins held (walked.Fail errno) is led tells = refl

-- where a path leads in each tree of the disk
pub path_led_in : (tree : Tree) (cwd : ℕ) (path : List ℕ) (disk : List (List ℕ)) (one : Tree) → StandsFor disk tree → StandsFor disk one → IsTree tree → is_directory one cwd ≡ true → IsLed tree (resolve tree cwd path)
path_led_in tree cwd path disk one stands also is dir = path_led tree cwd path is (ap (λ (t : Tree). is_directory t cwd) (one_tree disk tree one stands also) ∙ dir)
