-- Where no node is a FIFO, no change of the tree makes one but `mkfifo`.
use Rattle.std.proofs.Common.{◌≡◌, ℕ, ◌+◌, ◌-◌, ◌==◌, ◌&&◌, ◌||◌, not, nat_le, nat_lt, Bool, true, false, cond, List, [], length, take, Option, None, Some, Result, Ok, Err, refl, sym, ◌∙◌}
use Rattle.std.specs.Option.{option_map}
use Rattle.kabi_types.specs.declared.errnos.Errno.{Errno}
use Rattle.kabi_types.specs.declared.errnos.Errno.TheVariants as errno
use Rattle.posix_defs.specs.declared.walked.Walked.{Walked}
use Rattle.posix_defs.specs.declared.walked.Walked.TheVariants as walked
use Rattle.posix_defs.specs.DiskContents.{own_name, parent_name}
use Rattle.posix_defs.specs.DiskFormat.{greatest_size, blocks_of}
use Rattle.posix_defs.specs.FileBytes.{fitting, overwritten, resized}
use Rattle.posix_defs.specs.Paths.{resolve}
use Rattle.posix_defs.specs.PathCalls.{Opening, bind_led, bind_path, ends_in, freed_by, goes_below, is_empty, is_fifo, is_fifo_kind, is_held, is_socket, kind_in, kind_of_content, link_from, link_path, link_to, mkdir_led, mkdir_path, node_led, open_led, open_path, open_there, rename_away, rename_led, rename_named, rename_onto, rename_path, rename_root, rmdir_led, rmdir_path, unless, unlink_led, unlink_path}
use Rattle.posix_defs.specs.Tree.{Content, File, Directory, SocketName, Node, Tree, free_node, is_directory, links_at, node_at, size_of, with_node}
use Rattle.posix_defs.specs.TreeChanges.{blocks_for, closed, entry_aimed, entry_put, entry_taken, hung_if_directory, left_in, link, link_added, link_dropped, make, make_at, most_links, rename_over, rename_to, resize, takes_entry, unlink, with_bytes, with_entries, with_new, write}
use Rattle.posix_defs.proofs.TreeNodes.{seen_same}
use Rattle.machine_laws.proofs.NodesAfter.{Looks, bytes_look, entries_look, hung_if_looks, to_looks}

-- no node is a FIFO
abbrev pub NoFifos : Tree → Type 0
NoFifos tree = (number : ℕ) → is_fifo tree number ≡ false

-- what an answer has, if it has something, has this
abbrev pub OkIs : {A : Type 0} → (A → Type 0) → Result A Errno → Type 0
OkIs Has (Ok x) = Has x
OkIs Has (Err errno) = Unit {0}

-- of a tree beside something else
abbrev pub TreeOf : {A : Type 0} → A × Tree → Type 0
TreeOf both = NoFifos both.1

passed : {A : Type 0} (Has : A → Type 0) (bad : Bool) (errno : Errno) (further : Result A Errno) → OkIs Has further → OkIs Has (unless bad errno further)
passed Has true errno further holds = tt
passed Has false errno further holds = holds

-- ---- one node

node_free : (tree : Tree) (number : ℕ) (there : Option Node) → is_fifo_kind (kind_in there) ≡ false → NoFifos tree → NoFifos (with_node tree number there)
node_free tree number there other none n = seen_same (λ o. is_fifo_kind (kind_in o)) tree number there (other ∙ sym (none number)) n ∙ none n

looks_free : (tree after : Tree) → Looks tree after → NoFifos tree → NoFifos after
looks_free tree after looks none n = looks.fifos n ∙ none n

pub bytes_free : (tree : Tree) (number : ℕ) (change : List ℕ → List ℕ) → NoFifos tree → NoFifos (with_bytes tree number change)
bytes_free tree number change none = looks_free tree (with_bytes tree number change) (bytes_look tree number change) none

pub write_free : (tree : Tree) (number at : ℕ) (bytes : List ℕ) → NoFifos tree → OkIs TreeOf (write tree number at bytes)
write_free tree number at bytes none = go (nat_le greatest_size at) (count == 0)
  where
    count : ℕ
    count = fitting (blocks_for tree number) at (length bytes)

    go : (a b : Bool) → OkIs TreeOf (cond a (Err errno.EFBIG) (cond b (Err errno.ENOSPC) (Ok (count, with_bytes tree number (overwritten at (take count bytes))))))
    go true b = tt
    go false true = tt
    go false false = bytes_free tree number (overwritten at (take count bytes)) none

pub resize_free : (tree : Tree) (number size : ℕ) → NoFifos tree → OkIs NoFifos (resize tree number size)
resize_free tree number size none = go (nat_lt greatest_size size) (nat_lt (blocks_for tree number) (blocks_of size))
  where
    go : (a b : Bool) → OkIs NoFifos (cond a (Err errno.EFBIG) (cond b (Err errno.ENOSPC) (Ok (with_bytes tree number (resized size)))))
    go true b = tt
    go false true = tt
    go false false = bytes_free tree number (resized size) none

-- the last description is closed
pub closed_free : (tree : Tree) (number : ℕ) → NoFifos tree → NoFifos (closed tree number)
closed_free tree number none = go (links_at tree number == 0)
  where
    go : (b : Bool) → NoFifos (cond b (with_node tree number None) tree)
    go true = node_free tree number None refl none
    go false = none

dropped_free : (tree : Tree) (number : ℕ) (held : Bool) → NoFifos tree → NoFifos (link_dropped tree number held)
dropped_free tree number held none = node_free tree number (left_in held (node_at tree number)) (left (node_at tree number) (none number)) none
  where
    left : (o : Option Node) → is_fifo_kind (kind_in o) ≡ false → is_fifo_kind (kind_in (left_in held o)) ≡ false
    left None e = e
    left (Some node) e = go (node.links == 1) held
      where
        go : (a b : Bool) → is_fifo_kind (kind_in (cond (a && not b) None (Some (record node { links = node.links - 1 })))) ≡ false
        go true true = e
        go true false = refl
        go false b = e

added_free : (tree : Tree) (number : ℕ) → NoFifos tree → NoFifos (link_added tree number)
added_free tree number none = node_free tree number (option_map {T = Node} (λ node. record node { links = node.links + 1 }) (node_at tree number)) (more (node_at tree number) (none number)) none
  where
    more : (o : Option Node) → is_fifo_kind (kind_in o) ≡ false → is_fifo_kind (kind_in (option_map {T = Node} (λ node. record node { links = node.links + 1 }) o)) ≡ false
    more None e = e
    more (Some node) e = e

-- ---- the changes

make_free : (tree : Tree) (dir : ℕ) (name : List ℕ) (content : Content) → is_fifo_kind (kind_of_content content) ≡ false → NoFifos tree → OkIs TreeOf (make tree dir name content)
make_free tree dir name content other none = go (free_node tree)
  where
    new : (number : ℕ) → NoFifos (with_new tree number dir name content)
    new number = looks_free (with_node tree number (Some (record { links = 1; content = content }))) (with_new tree number dir name content)
        (entries_look (with_node tree number (Some (record { links = 1; content = content }))) dir (entry_put name number))
        (node_free tree number (Some (record { links = 1; content = content })) other none)

    by : (number : ℕ) (b : Bool) → OkIs TreeOf (cond b (Ok (number, with_new tree number dir name content)) (Err errno.ENOSPC))
    by number true = new number
    by number false = tt

    go : (o : Option ℕ) → OkIs TreeOf (make_at tree dir name content o)
    go None = tt
    go (Some number) = by number (takes_entry tree dir (blocks_of (size_of content)))

link_free : (tree : Tree) (dir : ℕ) (name : List ℕ) (number : ℕ) → NoFifos tree → OkIs NoFifos (link tree dir name number)
link_free tree dir name number none = go (links_at tree number == most_links) (takes_entry tree dir 0)
  where
    go : (a b : Bool) → OkIs NoFifos (cond a (Err errno.EMLINK) (cond b (Ok (with_entries (link_added tree number) dir (entry_put name number))) (Err errno.ENOSPC)))
    go true b = tt
    go false true = looks_free (link_added tree number) _ (entries_look (link_added tree number) dir (entry_put name number)) (added_free tree number none)
    go false false = tt

unlink_free : (tree : Tree) (dir : ℕ) (name : List ℕ) (number : ℕ) (held : Bool) → NoFifos tree → NoFifos (unlink tree dir name number held)
unlink_free tree dir name number held none = dropped_free (with_entries tree dir (entry_taken name)) number held (looks_free tree _ (entries_look tree dir (entry_taken name)) none)

over_free : (tree : Tree) (dir : ℕ) (name : List ℕ) (number to : ℕ) (new : List ℕ) (replaced : ℕ) (held : Bool) → NoFifos tree → NoFifos (rename_over tree dir name number to new replaced held)
over_free tree dir name number to new replaced held none =
    let aimed : Tree = with_entries tree to (entry_aimed new number) in
    let dropped : Tree = link_dropped aimed replaced held in
    let taken : Tree = with_entries dropped dir (entry_taken name) in
    looks_free taken (hung_if_directory taken number to) (hung_if_looks taken number to) (looks_free dropped taken (entries_look dropped dir (entry_taken name))
    (dropped_free aimed replaced held (looks_free tree aimed (entries_look tree to (entry_aimed new number)) none)))

-- ---- the calls

there_free : (tree : Tree) (how : Opening) (number : ℕ) → NoFifos tree → OkIs TreeOf (open_there tree how number)
there_free tree how number none =
    passed TreeOf (how.creates && how.excludes) errno.EEXIST _ (passed TreeOf (is_directory tree number && (how.writes || how.creates)) errno.EISDIR _
    (passed TreeOf (is_socket tree number) errno.EOPNOTSUPP (Ok (number, cond how.truncates (with_bytes tree number (resized 0)) tree)) (go how.truncates)))
  where
    go : (b : Bool) → NoFifos (cond b (with_bytes tree number (resized 0)) tree)
    go true = bytes_free tree number (resized 0) none
    go false = none

pub open_free : (tree : Tree) (cwd : ℕ) (path : List ℕ) (how : Opening) → NoFifos tree → OkIs TreeOf (open_path tree cwd path how)
open_free tree cwd path how none = go (resolve tree cwd path)
  where
    go : (led : Walked) → OkIs TreeOf (open_led tree how led)
    go (walked.Node number) = there_free tree how number none
    go (walked.Named dir name number slashed) = there_free tree how number none
    go (walked.Free dir name slashed) = passed TreeOf (not how.creates || slashed) errno.ENOENT (make tree dir name (File [])) (make_free tree dir name (File []) refl none)
    go (walked.Fail errno) = tt

pub mkdir_free : (tree : Tree) (cwd : ℕ) (path : List ℕ) → NoFifos tree → OkIs TreeOf (mkdir_path tree cwd path)
mkdir_free tree cwd path none = go (resolve tree cwd path)
  where
    go : (led : Walked) → OkIs TreeOf (mkdir_led tree led)
    go (walked.Node number) = tt
    go (walked.Named dir name number slashed) = tt
    go (walked.Free dir name slashed) = make_free tree dir name (Directory dir []) refl none
    go (walked.Fail errno) = tt

pub bind_free : (tree : Tree) (cwd : ℕ) (path : List ℕ) → NoFifos tree → OkIs TreeOf (bind_path tree cwd path)
bind_free tree cwd path none = go (resolve tree cwd path)
  where
    go : (led : Walked) → OkIs TreeOf (bind_led tree led)
    go (walked.Node number) = tt
    go (walked.Named dir name number slashed) = tt
    go (walked.Free dir name slashed) = passed TreeOf slashed errno.ENOENT (make tree dir name SocketName) (make_free tree dir name SocketName refl none)
    go (walked.Fail errno) = tt

pub link_path_free : (tree : Tree) (cwd : ℕ) (old new : List ℕ) → NoFifos tree → OkIs NoFifos (link_path tree cwd old new)
link_path_free tree cwd old new none = from (node_led (resolve tree cwd old)) (resolve tree cwd new)
  where
    to : (number : ℕ) (led : Walked) → OkIs NoFifos (link_to tree number led)
    to number (walked.Node n) = tt
    to number (walked.Named dir name n slashed) = tt
    to number (walked.Free dir name slashed) = passed NoFifos slashed errno.ENOENT (link tree dir name number) (link_free tree dir name number none)
    to number (walked.Fail errno) = tt

    from : (found : Result ℕ Errno) (led : Walked) → OkIs NoFifos (link_from tree found led)
    from (Ok number) led = passed NoFifos (is_directory tree number) errno.EPERM (link_to tree number led) (to number led)
    from (Err errno) led = tt

pub rmdir_free : (tree : Tree) (cwd : ℕ) (path : List ℕ) (busy : ℕ → Bool) → NoFifos tree → OkIs NoFifos (rmdir_path tree cwd path busy)
rmdir_free tree cwd path busy none = passed NoFifos (ends_in own_name path) errno.EINVAL _ (passed NoFifos (ends_in parent_name path) errno.ENOTEMPTY _ (go (resolve tree cwd path)))
  where
    go : (led : Walked) → OkIs NoFifos (rmdir_led tree busy led)
    go (walked.Node number) = tt
    go (walked.Named dir name number slashed) = passed NoFifos (not (is_directory tree number)) errno.ENOTDIR _ (passed NoFifos (not (is_empty tree number)) errno.ENOTEMPTY _
        (passed NoFifos (busy number) errno.EBUSY (Ok (unlink tree dir name number false)) (unlink_free tree dir name number false none)))
    go (walked.Free dir name slashed) = tt
    go (walked.Fail errno) = tt

pub unlink_path_free : (tree : Tree) (cwd : ℕ) (path : List ℕ) (opened : ℕ → Bool) → NoFifos tree → OkIs TreeOf (unlink_path tree cwd path opened)
unlink_path_free tree cwd path opened none = go (resolve tree cwd path)
  where
    go : (led : Walked) → OkIs TreeOf (unlink_led tree opened led)
    go (walked.Node number) = tt
    go (walked.Named dir name number slashed) = passed TreeOf (is_directory tree number) errno.EPERM (Ok (freed_by tree number, unlink tree dir name number (is_held tree opened number)))
        (unlink_free tree dir name number (is_held tree opened number) none)
    go (walked.Free dir name slashed) = tt
    go (walked.Fail errno) = tt

onto_free : (tree : Tree) (opened busy : ℕ → Bool) (dir : ℕ) (name : List ℕ) (number to : ℕ) (new : List ℕ) (replaced : ℕ) → NoFifos tree
    → OkIs TreeOf (rename_onto tree opened busy dir name number to new replaced)
onto_free tree opened busy dir name number to new replaced none = go (number == replaced)
  where
    go : (b : Bool) → OkIs TreeOf (cond b (Ok (None, tree)) (unless (is_directory tree replaced && not (is_directory tree number)) errno.EISDIR
        (unless (is_directory tree number && not (is_directory tree replaced)) errno.ENOTDIR
        (unless (is_directory tree replaced && not (is_empty tree replaced)) errno.ENOTEMPTY
        (unless (is_directory tree replaced && busy replaced) errno.EBUSY
        (Ok (freed_by tree replaced, rename_over tree dir name number to new replaced (is_held tree opened replaced))))))))
    go true = none
    go false = passed TreeOf (is_directory tree replaced && not (is_directory tree number)) errno.EISDIR _ (passed TreeOf (is_directory tree number && not (is_directory tree replaced)) errno.ENOTDIR _
        (passed TreeOf (is_directory tree replaced && not (is_empty tree replaced)) errno.ENOTEMPTY _ (passed TreeOf (is_directory tree replaced && busy replaced) errno.EBUSY
        (Ok (freed_by tree replaced, rename_over tree dir name number to new replaced (is_held tree opened replaced)))
        (over_free tree dir name number to new replaced (is_held tree opened replaced) none))))

away_free : (tree : Tree) (dir : ℕ) (name : List ℕ) (number to : ℕ) (new : List ℕ) (slashed : Bool) → NoFifos tree → OkIs TreeOf (rename_away tree dir name number to new slashed)
away_free tree dir name number to new slashed none = passed TreeOf (slashed && not (is_directory tree number)) errno.ENOTDIR _
    (passed TreeOf (not (dir == to) && not (takes_entry tree to 0)) errno.ENOSPC (Ok (None, rename_to tree dir name number to new))
    (looks_free tree (rename_to tree dir name number to new) (to_looks tree dir name number to new) none))

pub rename_free : (tree : Tree) (cwd : ℕ) (old new : List ℕ) (opened busy : ℕ → Bool) → NoFifos tree → OkIs TreeOf (rename_path tree cwd old new opened busy)
rename_free tree cwd old new opened busy none = go (resolve tree cwd old) (resolve tree cwd new)
  where
    root : (led : Walked) → OkIs TreeOf (rename_root led)
    root (walked.Node number) = tt
    root (walked.Named dir name number slashed) = tt
    root (walked.Free dir name slashed) = tt
    root (walked.Fail errno) = tt

    named : (dir : ℕ) (name : List ℕ) (number : ℕ) (led : Walked) → OkIs TreeOf (rename_named tree opened busy dir name number led)
    named dir name number (walked.Node n) = tt
    named dir name number (walked.Named to last replaced slashed) = passed TreeOf (goes_below tree number to) errno.EINVAL _ (onto_free tree opened busy dir name number to last replaced none)
    named dir name number (walked.Free to last slashed) = passed TreeOf (goes_below tree number to) errno.EINVAL _ (away_free tree dir name number to last slashed none)
    named dir name number (walked.Fail errno) = tt

    go : (old new : Walked) → OkIs TreeOf (rename_led tree opened busy old new)
    go (walked.Node number) led = root led
    go (walked.Named dir name number slashed) led = named dir name number led
    go (walked.Free dir name slashed) led = tt
    go (walked.Fail errno) led = tt
