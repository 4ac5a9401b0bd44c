-- What is moved between memory, files, pipes and sockets are bytes.
use Rattle.std.proofs.Common.{◌≡◌, ℕ, zero, suc, ◌+◌, ◌-◌, ◌*◌, ◌/◌, ◌%◌, ◌^◌, ◌<◌, ◌≤◌, List, [], ◌∷◌, ◌++◌, length, take, drop, replicate, Option, None, Some, slice_index, slice_index_or, slice_set, unwrap_or, option_map, refl, sym, subst, inl, inr, arith}
use Rattle.std.specs.Int.{bytes_high_first, byte_at as number_byte, to_be_bytes, w32}
use Rattle.std.specs.List.{All, flat_map, range_with_len}
use Rattle.std.proofs.lemmas.List.{get_or_past}
use Rattle.std.proofs.lemmas.List.Concat.{flat_map-cons}
use Rattle.std.proofs.lemmas.List.Elements.{All-append, All-cons, All-drop, All-get_or, All-head, All-map, All-nil, All-replicate, All-set, All-tail, All-take}
use Rattle.kabi_types.specs.declared.inodes.DirEntry.{DirEntry}
use Rattle.posix_defs.specs.DiskContents.{entry_for, own_name, parent_name}
use Rattle.posix_defs.specs.DiskFormat.{entry_bytes}
use Rattle.posix_defs.specs.IsTree.{IsContent, IsEntryName, IsTree}
use Rattle.posix_defs.specs.Memory.{Memory, byte_at, loaded, no_memory, page_at, stored, with_byte, with_pages, with_range, without_pages, zero_page}
use Rattle.posix_defs.specs.PathCalls.{all_entries, bytes_in, bytes_of, list_node, read_node}
use Rattle.posix_defs.specs.Tree.{Content, File, Directory, Fifo, SocketName, Node, Tree, entries_at, entries_in, entries_of, node_at, parent_at}
use Rattle.kern_laws.proofs.TablePlaces.{below_or_not}
use Rattle.machine_laws.specs.Bytes.{AreBytes, HasMemoryBytes, HasPageBytes}

abbrev IsByte : ℕ → Type 0
IsByte byte = byte < 2 ^ 8

zero_byte : IsByte 0
zero_byte = omega arith

-- ---- memory

pub no_memory_bytes : HasMemoryBytes no_memory
unfolding no_memory
no_memory_bytes = All-replicate HasPageBytes 256 None tt

zero_page_bytes : AreBytes zero_page
unfolding zero_page
zero_page_bytes = All-replicate IsByte 4096 0 zero_byte

range_bytes : (memory : Memory) (first count : ℕ) (page : Option (List ℕ)) → HasPageBytes page → HasMemoryBytes memory → HasMemoryBytes (with_range memory first count page)
range_bytes memory first count page is has = All-append HasPageBytes (take first memory ++ replicate count page) (drop (first + count) memory)
    (All-append HasPageBytes (take first memory) (replicate count page) (All-take HasPageBytes first memory has) (All-replicate HasPageBytes count page is)) (All-drop HasPageBytes (first + count) memory has)

pub mapped_bytes : (memory : Memory) (first count : ℕ) → HasMemoryBytes memory → HasMemoryBytes (with_pages memory first count)
mapped_bytes memory first count has = range_bytes memory first count (Some zero_page) zero_page_bytes has

pub unmapped_bytes : (memory : Memory) (first count : ℕ) → HasMemoryBytes memory → HasMemoryBytes (without_pages memory first count)
unmapped_bytes memory first count has = range_bytes memory first count None tt has

page_bytes : (memory : Memory) (page : ℕ) → HasMemoryBytes memory → HasPageBytes (page_at memory page)
page_bytes memory page has = elim (below_or_not page (length memory)) [
  | inl h ↦ All-get_or HasPageBytes memory page None h has
  | inr h ↦ subst HasPageBytes (sym (get_or_past memory page None h)) tt
]

byte_bytes : (memory : Memory) (addr byte : ℕ) → IsByte byte → HasMemoryBytes memory → HasMemoryBytes (with_byte memory addr byte)
byte_bytes memory addr byte is has = All-set HasPageBytes memory (addr / 4096) (option_map (λ bytes. slice_set bytes (addr % 4096) byte) (page_at memory (addr / 4096)))
    (go (page_at memory (addr / 4096)) (page_bytes memory (addr / 4096) has)) has
  where
    go : (o : Option (List ℕ)) → HasPageBytes o → HasPageBytes (option_map (λ bytes. slice_set bytes (addr % 4096) byte) o)
    go None there = tt
    go (Some bytes) there = All-set IsByte bytes (addr % 4096) byte is there

pub stored_bytes : (memory : Memory) (addr : ℕ) (bytes : List ℕ) → AreBytes bytes → HasMemoryBytes memory → HasMemoryBytes (stored memory addr bytes)
stored_bytes memory addr [] are has = has
stored_bytes memory addr (byte ∷ bytes) are has = stored_bytes (with_byte memory addr byte) (addr + 1) bytes (All-tail IsByte byte bytes are) (byte_bytes memory addr byte (All-head IsByte byte bytes are) has)

pub loaded_bytes : (memory : Memory) (addr n : ℕ) → HasMemoryBytes memory → AreBytes (loaded memory addr n)
loaded_bytes memory addr n has = All-map IsByte (byte_at memory) (range_with_len addr n) (λ k d h. at (slice_index_or (range_with_len addr n) k d))
  where
    in_page : (page : List ℕ) (i : ℕ) → AreBytes page → IsByte (slice_index page i)
    in_page page i are = elim (below_or_not i (length page)) [
      | inl h ↦ All-get_or IsByte page i 0 h are
      | inr h ↦ subst IsByte (sym (get_or_past page i 0 h)) zero_byte
    ]

    of_page : (o : Option (List ℕ)) (i : ℕ) → HasPageBytes o → IsByte (slice_index (unwrap_or o []) i)
    of_page None i there = in_page [] i (All-nil IsByte)
    of_page (Some page) i there = in_page page i there

    at : (addr : ℕ) → IsByte (byte_at memory addr)
    at addr = of_page (page_at memory (addr / 4096)) (addr % 4096) (page_bytes memory (addr / 4096) has)

-- ---- files and directories

pub read_bytes : (tree : Tree) (number at n : ℕ) → IsTree tree → AreBytes (read_node tree number at n)
read_bytes tree number at n is = All-take IsByte n (drop at (bytes_in (node_at tree number))) (All-drop IsByte at (bytes_in (node_at tree number)) (go (node_at tree number) refl))
  where
    of_content : (content : Content) → IsContent content → AreBytes (bytes_of content)
    of_content (File bytes) are = are
    of_content (Directory parent entries) are = All-nil IsByte
    of_content SocketName are = All-nil IsByte
    of_content Fifo are = All-nil IsByte

    go : (o : Option Node) → node_at tree number ≡ o → AreBytes (bytes_in o)
    go None at_it = All-nil IsByte
    go (Some node) at_it = let it = is.nodes number node at_it in of_content node.content it.content

-- the bytes of a number
number_bytes : (k n : ℕ) → AreBytes (bytes_high_first k n)
number_bytes zero n = All-nil IsByte
number_bytes (suc k) n = All-cons IsByte (number_byte k n) (bytes_high_first k n) (one k) (number_bytes k n)
  where
    one : (k : ℕ) → IsByte (number_byte k n)
    one zero = omega arith
    one (suc i) = omega arith

entry_is_bytes : (entry : DirEntry) → length entry.name < 2 ^ 8 → AreBytes entry.name → AreBytes (entry_bytes entry)
unfolding entry_bytes
entry_is_bytes entry short name = All-append IsByte (to_be_bytes w32 entry.node) (length entry.name ∷ (entry.name ++ replicate (27 - length entry.name) 0)) (number_bytes 4 entry.node)
    (All-cons IsByte (length entry.name) (entry.name ++ replicate (27 - length entry.name) 0) short
    (All-append IsByte entry.name (replicate (27 - length entry.name) 0) name (All-replicate IsByte (27 - length entry.name) 0 zero_byte)))

entries_are_bytes : (entries : List DirEntry) → All (λ entry. (length entry.name < 2 ^ 8) × AreBytes entry.name) entries → AreBytes (flat_map entry_bytes entries)
entries_are_bytes [] are = All-nil IsByte
entries_are_bytes (entry ∷ entries) are =
    let first = All-head (λ entry. (length entry.name < 2 ^ 8) × AreBytes entry.name) entry entries are in
    subst AreBytes (sym (flat_map-cons entry_bytes entry entries))
    (All-append IsByte (entry_bytes entry) (flat_map entry_bytes entries) (entry_is_bytes entry first.0 first.1)
    (entries_are_bytes entries (All-tail (λ entry. (length entry.name < 2 ^ 8) × AreBytes entry.name) entry entries are)))

-- an entry whose name's length is a byte, and whose name are bytes
abbrev Named : DirEntry → Type 0
Named entry = (length entry.name < 2 ^ 8) × AreBytes entry.name

pub listed_bytes : (tree : Tree) (number at n : ℕ) → IsTree tree → AreBytes (list_node tree number at n)
listed_bytes tree number at n is = All-take IsByte (32 * (n / 32)) (drop at (flat_map entry_bytes (all_entries tree number))) (All-drop IsByte at (flat_map entry_bytes (all_entries tree number))
    (entries_are_bytes (all_entries tree number) (All-cons Named (entry_for number own_name) (entry_for (parent_at tree number) parent_name ∷ entries_at tree number) own
    (All-cons Named (entry_for (parent_at tree number) parent_name) (entries_at tree number) parent (named (node_at tree number) refl)))))
  where
    own : Named (entry_for number own_name)
    own = (omega arith, All-cons IsByte 46 [] (omega arith) (All-nil IsByte))

    parent : Named (entry_for (parent_at tree number) parent_name)
    parent = (omega arith, All-cons IsByte 46 (46 ∷ []) (omega arith) (All-cons IsByte 46 [] (omega arith) (All-nil IsByte)))

    one : (entry : DirEntry) → IsEntryName entry.name → Named entry
    one entry it = let name = it.valid in let short = name.len in ((let h : length entry.name ≤ 27 = short.1 in omega arith), λ k d h. subst IsByte (sym (same entry.name k d h)) (name.fits k))
      where
        same : (xs : List ℕ) (k d : ℕ) → k < length xs → slice_index_or xs k d ≡ slice_index xs k
        same [] k d h = absurd (omega arith)
        same (x ∷ xs) zero d h = refl
        same (x ∷ xs) (suc k) d h = same xs k d (omega arith)

    of_content : (content : Content) → IsContent content → All Named (entries_of content)
    of_content (File bytes) are = All-nil Named
    of_content SocketName are = All-nil Named
    of_content Fifo are = All-nil Named
    of_content (Directory up entries) are = λ k d h. one (slice_index_or entries k d) (are.names k d h)

    named : (o : Option Node) → node_at tree number ≡ o → All Named (entries_in o)
    named None at_it = All-nil Named
    named (Some node) at_it = let it = is.nodes number node at_it in of_content node.content it.content
