-- The changes of a tree, each as one function, and what the calls on files make of them.
use Rattle.std.specs.Prelude.{ℕ, zero, suc, ◌+◌, ◌-◌, ◌<◌, ◌==◌, ◌≡◌, not, ◌&&◌, ◌||◌, Bool, if◌then◌else◌, List, [], ◌∷◌, ◌++◌, length, take, slice_set, nat_lt, nat_le, Option, None, Some, Result, Ok, Err}
use Rattle.std.specs.List.{position_or_len, swap_remove}
use Rattle.std.specs.Option.{option_map}
use Rattle.kabi_types.specs.declared.errnos.Errno.{Errno}
use Rattle.kabi_types.specs.declared.errnos.Errno.TheVariants.{EFBIG, EMLINK, ENOSPC}
use Rattle.kabi_types.specs.declared.inodes.DirEntry.{DirEntry}
use Rattle.posix_defs.specs.DiskFormat.{greatest_size, blocks_of}
use Rattle.posix_defs.specs.DiskContents.{entry_for}
use Rattle.posix_defs.specs.FileBytes.{resized, overwritten, fitting}
use Rattle.posix_defs.specs.Tree.{Content, File, Directory, Node, Tree, node_at, with_node, has_name, parent_at, links_at, size_at, size_of, free_blocks, free_node, is_directory, climbed}

-- ---- one node

-- the node's content becomes another
abbrev pub with_content : Tree → ℕ → (Content → Content) → Tree
with_content tree number change = with_node tree number (option_map {T = Node} (λ node. record node { content = change node.content }) (node_at tree number))

-- the entries of a directory become others; what is no directory stays as it is
abbrev pub with_entries_in : (List DirEntry → List DirEntry) → Content → Content
with_entries_in change (Directory parent entries) = Directory parent (change entries)
with_entries_in change content = content

-- a directory's entries become others
abbrev pub with_entries : Tree → ℕ → (List DirEntry → List DirEntry) → Tree
with_entries tree dir change = with_content tree dir (with_entries_in change)

-- a directory hangs below another parent; what is no directory stays as it is
abbrev pub under : ℕ → Content → Content
under parent (Directory _ entries) = Directory parent entries
under parent content = content

-- a directory's `..` names another parent
abbrev pub hung : Tree → ℕ → ℕ → Tree
hung tree dir parent = with_content tree dir (under parent)

-- the node has one link more
abbrev pub link_added : Tree → ℕ → Tree
link_added tree number = with_node tree number (option_map {T = Node} (λ node. record node { links = node.links + 1 }) (node_at tree number))

-- what is left of a node that loses a link: nothing after the last one, unless it is a file or a FIFO that a description opens
abbrev pub left_of : Bool → Node → Option Node
left_of opened node = if node.links == 1 && not opened then None else Some (record node { links = node.links - 1 })

-- the same where a node is in use; a free one stays free
abbrev pub left_in : Bool → Option Node → Option Node
left_in opened None = None
left_in opened (Some node) = left_of opened node

-- the node has one link less
abbrev pub link_dropped : Tree → ℕ → Bool → Tree
link_dropped tree number opened = with_node tree number (left_in opened (node_at tree number))

-- ---- one entry

-- where a name stands in a directory
abbrev pub place_of : List ℕ → List DirEntry → ℕ
place_of name entries = position_or_len (has_name name) entries

-- no entry
abbrev pub no_entry : DirEntry
no_entry = entry_for 0 []

-- a new entry is the last
abbrev pub entry_put : List ℕ → ℕ → List DirEntry → List DirEntry
entry_put name node entries = entries ++ entry_for node name ∷ []

-- the last entry moves to the place of one that goes
abbrev pub entry_taken : List ℕ → List DirEntry → List DirEntry
entry_taken name entries = swap_remove entries (place_of name entries) no_entry

-- an entry names another node, in its place
abbrev pub entry_aimed : List ℕ → ℕ → List DirEntry → List DirEntry
entry_aimed name node entries = slice_set entries (place_of name entries) (entry_for node name)

-- an entry has another name, in its place
abbrev pub entry_renamed : List ℕ → List ℕ → ℕ → List DirEntry → List DirEntry
entry_renamed old new node entries = slice_set entries (place_of old entries) (entry_for node new)

-- ---- room

-- how many blocks a directory needs for one entry more
abbrev pub entry_growth : Tree → ℕ → ℕ
entry_growth tree dir = blocks_of (size_at tree dir + 32) - blocks_of (size_at tree dir)

-- there is room for an entry of a directory, and for so many blocks beside it
abbrev pub takes_entry : Tree → ℕ → ℕ → Bool
takes_entry tree dir beside = nat_lt (size_at tree dir) greatest_size && nat_le (entry_growth tree dir + beside) (free_blocks tree)

-- ---- files

-- the bytes of a file become others; what is no file stays as it is
abbrev pub with_bytes_in : (List ℕ → List ℕ) → Content → Content
with_bytes_in change (File bytes) = File (change bytes)
with_bytes_in change content = content

-- a file's bytes become others
abbrev pub with_bytes : Tree → ℕ → (List ℕ → List ℕ) → Tree
with_bytes tree number change = with_content tree number (with_bytes_in change)

-- how many blocks a node has or could have
abbrev pub blocks_for : Tree → ℕ → ℕ
blocks_for tree number = blocks_of (size_at tree number) + free_blocks tree

-- a file of this size would take more blocks than that
abbrev pub HasNoRoom : Tree → ℕ → ℕ → Type 0
HasNoRoom tree number size = blocks_for tree number < blocks_of size

-- bytes are written at a place: as many as there is room for, which are told with the tree after it
abbrev pub write : Tree → ℕ → ℕ → List ℕ → Result (ℕ × Tree) Errno
write tree number at bytes =
    let count = fitting (blocks_for tree number) at (length bytes) in
    if nat_le greatest_size at then Err EFBIG
    else (if count == 0 then Err ENOSPC else Ok (count, with_bytes tree number (overwritten at (take count bytes))))

-- a file gets this size
abbrev pub resize : Tree → ℕ → ℕ → Result Tree Errno
resize tree number size =
    if nat_lt greatest_size size then Err EFBIG
    else (if nat_lt (blocks_for tree number) (blocks_of size) then Err ENOSPC else Ok (with_bytes tree number (resized size)))

-- the last description of a file or a FIFO is closed: without links it goes
abbrev pub closed : Tree → ℕ → Tree
closed tree number = if links_at tree number == 0 then with_node tree number None else tree

-- ---- names

-- a new node of one link, under a name of a directory
abbrev pub with_new : Tree → ℕ → ℕ → List ℕ → Content → Tree
with_new tree number dir name content =
    with_entries (with_node tree number (Some (record { links = 1; content = content }))) dir (entry_put name number)

-- a node is made under a new name, with this number: ENOSPC where no number is free, where the directory is at its greatest size,
-- and where too few blocks are free for the entry and the node
abbrev pub make_at : Tree → ℕ → List ℕ → Content → Option ℕ → Result (ℕ × Tree) Errno
make_at tree dir name content None = Err ENOSPC
make_at tree dir name content (Some number) =
    if takes_entry tree dir (blocks_of (size_of content)) then Ok (number, with_new tree number dir name content) else Err ENOSPC

-- a node is made under a new name, as the free one of the lowest number: that number, and the tree after it
abbrev pub make : Tree → ℕ → List ℕ → Content → Result (ℕ × Tree) Errno
make tree dir name content = make_at tree dir name content (free_node tree)

-- the greatest count of links
abbrev pub most_links : ℕ
most_links = 127

-- a node gets a further name
abbrev pub link : Tree → ℕ → List ℕ → ℕ → Result Tree Errno
link tree dir name number =
    if links_at tree number == most_links then Err EMLINK
    else (if takes_entry tree dir 0 then Ok (with_entries (link_added tree number) dir (entry_put name number)) else Err ENOSPC)

-- a name goes, and a link of its node: `opened` where a description opens the file. So also a directory goes, which has one link.
abbrev pub unlink : Tree → ℕ → List ℕ → ℕ → Bool → Tree
unlink tree dir name number opened = link_dropped (with_entries tree dir (entry_taken name)) number opened

-- a moved directory's `..` names the directory where it is now
abbrev pub hung_if_directory : Tree → ℕ → ℕ → Tree
hung_if_directory tree number parent = if is_directory tree number then hung tree number parent else tree

-- a node's name goes over to a name that is there: that entry gets the node in its place, the node that it had loses a link,
-- and the old entry is removed
abbrev pub rename_over : Tree → ℕ → List ℕ → ℕ → ℕ → List ℕ → ℕ → Bool → Tree
rename_over tree dir name number to new replaced opened =
    hung_if_directory (with_entries (link_dropped (with_entries tree to (entry_aimed new number)) replaced opened) dir (entry_taken name)) number to

-- a node's name goes over to a name that is missing: in the same directory the entry keeps its place, else it is put last in
-- the other one and then removed from the old
abbrev pub rename_to : Tree → ℕ → List ℕ → ℕ → ℕ → List ℕ → Tree
rename_to tree dir name number to new =
    if dir == to then with_entries tree dir (entry_renamed name new number)
    else hung_if_directory (with_entries (with_entries tree to (entry_put new number)) dir (entry_taken name)) number to

-- a directory is the other one, or a way up by `..` leads from that one to it
abbrev pub IsAtOrAbove : Tree → ℕ → ℕ → Type 0
IsAtOrAbove tree dir other = (steps : ℕ) × (climbed tree steps other ≡ dir)

-- from a directory, at most so many steps up by `..` lead to another one
abbrev pub is_above : Tree → ℕ → ℕ → ℕ → Bool
is_above tree zero dir at = at == dir
is_above tree (suc more) dir at = at == dir || is_above tree more dir (parent_at tree at)

-- the same as a test: no way up is longer than there are nodes
abbrev pub is_at_or_above : Tree → ℕ → ℕ → Bool
is_at_or_above tree dir other = is_above tree (length tree.nodes) dir other
