-- What an open comes to, on the disk and in the tree.
use Rattle.std.proofs.Common.{◌≡◌, ℕ, zero, suc, Bool, true, false, not, ◌||◌, cond, List, Option, Some, None, IsSome, Result, Ok, Err, ltb, refl, sym, ap, ◌∙◌, subst, arith}
use Rattle.std.specs.Option.{option_map}
use Rattle.std.proofs.lemmas.Bool.{cond-false, le-ltb}
use Rattle.std.proofs.lemmas.List.{set-get_or}
use Rattle.kabi_types.specs.declared.inodes.Inode.{Inode}
use Rattle.kabi_types.specs.declared.errnos.Errno.{Errno}
use Rattle.kabi_types.specs.declared.errnos.Errno.TheVariants.{EFBIG, ENOSPC}
use Rattle.kheap_slabs.specs.Heap.{Heap}
use Rattle.posix_defs.specs.DiskFormat.{blocks_of, greatest_size}
use Rattle.posix_defs.specs.FileBytes.{resized}
use Rattle.posix_defs.specs.PathCalls.{is_fifo, is_fifo_kind, is_socket, is_socket_kind, kind_of_content, kind_in}
use Rattle.posix_defs.specs.Tree.{Content, File, Directory, SocketName, Fifo, Node, Tree, node_at, with_node, is_directory, is_directory_in, is_directory_content, IsInodeAt, IsInodeIn, found}
use Rattle.posix_defs.specs.TreeChanges.{blocks_for, make, resize, with_bytes, with_bytes_in}
use Rattle.posix_defs.specs.declared.walked.Walked.{Walked}
use Rattle.vnode_cache.specs.Nodes.{node_slot}
use Rattle.memfs_ops.specs.FileTree.{TreeView, Stands, KeepsLast}
use Rattle.memfs_ops.specs.Fetching.{IsFile}
use Rattle.memfs_ops.specs.Changing.{ChangedTo, LedTo}
use Rattle.memfs_ops.specs.Opening.{OpenedAs, KeepsOpened}
use Rattle.posix_defs.specs.IsTree.{IsNewContent}
use Rattle.posix_defs.proofs.TreeNodes.{found_in_directory}
use Rattle.tree_laws.proofs.FoundAfter.{made_found}
use Rattle.tree_laws.proofs.TreeKeeps.{same_Ok}

-- a node put where it stands
same_node : (tree : Tree) (number : ℕ) → with_node tree number (node_at tree number) ≡ tree
same_node tree zero = refl
same_node tree (suc before) = ap (λ (nodes : List (Option Node)). record tree { nodes = nodes }) (set-get_or tree.nodes before None)

-- what is neither a directory nor a socket's name nor a FIFO is a file
file_content : (tree : Tree) (number links : ℕ) (content : Content) → node_at tree number ≡ Some (record { links = links; content = content }) → is_directory_content content ≡ false → is_socket_kind (kind_of_content content) ≡ false
    → is_fifo_kind (kind_of_content content) ≡ false → IsFile tree number
file_content tree number links (File bytes) there dir sock fifo = record { links = links; bytes = bytes; there = there }
file_content tree number links (Directory parent entries) there dir sock fifo = absurd (cc)
file_content tree number links SocketName there dir sock fifo = absurd (cc)
file_content tree number links Fifo there dir sock fifo = absurd (cc)

file_there : (tree : Tree) (number : ℕ) (there : Option Node) → node_at tree number ≡ there → IsSome there → is_directory_in there ≡ false → is_socket_kind (kind_in there) ≡ false → is_fifo_kind (kind_in there) ≡ false → IsFile tree number
file_there tree number None at some dir sock fifo = absurd (cc)
file_there tree number (Some node) at some dir sock fifo = file_content tree number node.links node.content at dir sock fifo

shown_there : (there : Option Node) (inode : Inode) → IsInodeIn there inode → IsSome there
shown_there None inode is = absurd is
shown_there (Some node) inode is = refl

pub is_file : (tree : Tree) (number : ℕ) (inode : Inode) → IsInodeAt tree number inode → is_directory tree number ≡ false → is_socket tree number ≡ false → is_fifo tree number ≡ false → IsFile tree number
is_file tree number inode is dir sock fifo = file_there tree number (node_at tree number) refl (shown_there (node_at tree number) inode is) dir sock fifo

-- what is no file has no bytes that could go
abbrev is_plain : Option Node → Bool
is_plain there = not (is_directory_in there || is_socket_kind (kind_in there) || is_fifo_kind (kind_in there))

other_stays : (tree : Tree) (number : ℕ) (there : Option Node) → node_at tree number ≡ there → is_plain there ≡ false → with_bytes tree number (resized 0) ≡ tree
other_stays tree number None at is = absurd (cc)
other_stays tree number (Some node) at is = by_content node.links node.content at is
  where
    stays : (links : ℕ) (content : Content) → node_at tree number ≡ Some (record { links = links; content = content }) → with_bytes_in (resized 0) content ≡ content → with_bytes tree number (resized 0) ≡ tree
    stays links content at same =
        ap (λ (o : Option Node). with_node tree number (option_map {T = Node} (λ n. record n { content = with_bytes_in (resized 0) n.content }) o)) at
        ∙ ap (λ (content : Content). with_node tree number (Some (record { links = links; content = content }))) same ∙ sym (ap (with_node tree number) at) ∙ same_node tree number

    by_content : (links : ℕ) (content : Content) → node_at tree number ≡ Some (record { links = links; content = content }) → is_plain (Some (record { links = links; content = content })) ≡ false
        → with_bytes tree number (resized 0) ≡ tree
    by_content links (File bytes) at is = absurd (cc)
    by_content links (Directory parent entries) at is = stays links (Directory parent entries) at refl
    by_content links SocketName at is = stays links SocketName at refl
    by_content links Fifo at is = stays links Fifo at refl

pub no_bytes_stay : (tree : Tree) (number : ℕ) → not (is_directory tree number || is_socket tree number || is_fifo tree number) ≡ false → with_bytes tree number (resized 0) ≡ tree
no_bytes_stay tree number is = other_stays tree number (node_at tree number) refl is

-- there is always room for no bytes
pub cut_is : (tree : Tree) (number : ℕ) → resize tree number 0 ≡ Ok (with_bytes tree number (resized 0))
cut_is tree number =
    let made : Tree = with_bytes tree number (resized 0) in
    cond-false (ltb greatest_size 0) (Err EFBIG) (cond (ltb (blocks_for tree number) (blocks_of 0)) (Err ENOSPC) (Ok made)) (le-ltb greatest_size 0 (omega arith))
    ∙ cond-false (ltb (blocks_for tree number) (blocks_of 0)) (Err ENOSPC) (Ok made) (le-ltb (blocks_for tree number) (blocks_of 0) (omega arith))

-- a file of which nothing is left
pub cut_stands : (heap : Heap) (fs : TreeView) (tree : Tree) (number : ℕ) (pins : ℕ → ℕ) (answer : Result (Unit {0}) Errno) → ChangedTo heap fs tree (resize tree number 0) pins answer → Stands heap fs (with_bytes tree number (resized 0)) pins
cut_stands heap fs tree number pins answer is = (subst (λ (led : Result Tree Errno). ChangedTo heap fs tree led pins answer) (cut_is tree number) is).1

-- ---- a node that was made

-- its name leads to it
pub record IsMade (heap : Heap) (fs : TreeView) (tree : Tree) (parent : ℕ) (name : List ℕ) (content : Content) (pins : ℕ → ℕ) (number : ℕ) : Type 0 where
  pub next : Tree
  pub is : make tree parent name content ≡ Ok (number, next)
  pub stands : Stands heap fs next pins
  pub named : found next parent name ≡ Some number
  pub directory : is_directory next parent ≡ true

made_next : (heap : Heap) (fs : TreeView) (tree : Tree) (parent : ℕ) (name : List ℕ) (content : Content) (pins : ℕ → ℕ) (number : ℕ) (led : Result (ℕ × Tree) Errno) → make tree parent name content ≡ led → is_directory tree parent ≡ true → found tree parent name ≡ None → IsNewContent parent content
    → LedTo heap fs tree led pins (Ok number) → IsMade heap fs tree parent name content pins number
made_next heap fs tree parent name content pins number (Ok (made, next)) at is_dir free new is =
    let same : made ≡ number = sym (same_Ok number made is.0) in
    let ok : ℕ → Result (ℕ × Tree) Errno = λ (n : ℕ). Ok (n, next) in
    let there : make tree parent name content ≡ Ok (number, next) = at ∙ ap ok same in
    let named = (made_found tree parent name content number next is_dir free new there).0 in
    record { next = next; is = there; stands = is.1; named = named; directory = found_in_directory next parent name number named }
made_next heap fs tree parent name content pins number (Err errno) at is_dir free new is = absurd (cc)

pub is_made : (heap : Heap) (fs : TreeView) (tree : Tree) (parent : ℕ) (name : List ℕ) (content : Content) (pins : ℕ → ℕ) (number : ℕ) → is_directory tree parent ≡ true → found tree parent name ≡ None → IsNewContent parent content
    → LedTo heap fs tree (make tree parent name content) pins (Ok number) → IsMade heap fs tree parent name content pins number
is_made heap fs tree parent name content pins number is_dir free new is = made_next heap fs tree parent name content pins number (make tree parent name content) refl is_dir free new is

-- it wasn't made
pub not_made : (heap : Heap) (fs : TreeView) (tree : Tree) (led : Result (ℕ × Tree) Errno) (pins : ℕ → ℕ) (errno : Errno) → LedTo heap fs tree led pins (Err errno) → OpenedAs heap fs tree led pins (Err errno)
not_made heap fs tree (Ok (made, next)) pins errno is = absurd (cc)
not_made heap fs tree (Err other) pins errno is = is

-- ---- what an open leaves cached

pub keeps_opened : (fs : TreeView) (led : Walked) (answer : Result ℕ Errno) → KeepsLast fs led → ((number : ℕ) → answer ≡ Ok number → IsSome (node_slot fs.vnodes number)) → KeepsOpened fs led answer
keeps_opened fs led (Ok number) last there = (last, there number refl)
keeps_opened fs led (Err errno) last there = tt
