-- The bytes of a node as a list, and one by one.
use Rattle.std.proofs.Common.{◌≡◌, ℕ, ◌+◌, ◌<◌, ◌≤◌, List, length, get_or, take, drop, sym, ◌∙◌, arith, length-take, length-drop}
use Rattle.std.proofs.lemmas.List.{ext_get_or, get_or-take, get_or-drop}
use Rattle.std.proofs.lemmas.List.FromFn.{length-map-range_with_len, get_or-map-range_with_len}
use Rattle.kabi_types.specs.declared.inodes.Inode.{Inode}
use Rattle.posix_defs.specs.DiskContents.{byte_at, node_bytes}

pub bytes_len : (disk : List (List ℕ)) (inode : Inode) → length (node_bytes disk inode) ≡ inode.size
unfolding node_bytes
bytes_len disk inode = length-map-range_with_len (λ place. byte_at disk inode place) 0 inode.size

pub byte_of : (disk : List (List ℕ)) (inode : Inode) (k : ℕ) → k < inode.size → get_or (node_bytes disk inode) k 0 ≡ byte_at disk inode k
unfolding node_bytes
byte_of disk inode k lt = get_or-map-range_with_len (λ place. byte_at disk inode place) 0 inode.size k k 0 lt (omega arith)

pub bytes_are : (disk : List (List ℕ)) (inode : Inode) (bytes : List ℕ) → length bytes ≡ inode.size → ((k : ℕ) → k < inode.size → byte_at disk inode k ≡ get_or bytes k 0) → node_bytes disk inode ≡ bytes
bytes_are disk inode bytes len each =
    ext_get_or 0 (node_bytes disk inode) bytes (bytes_len disk inode ∙ sym len) (
    λ k lt. let within : k < inode.size = omega (arith, lt, bytes_len disk inode) in byte_of disk inode k within ∙ each k within
    )

-- bytes from a place on, one by one
pub bytes_from : (disk : List (List ℕ)) (inode : Inode) (at : ℕ) (part : List ℕ) → at + length part ≤ inode.size → ((k : ℕ) → k < length part → get_or part k 0 ≡ byte_at disk inode (at + k))
    → part ≡ take (length part) (drop at (node_bytes disk inode))
bytes_from disk inode at part within each =
    let all : List ℕ = node_bytes disk inode in
    let count : ℕ = length part in
    ext_get_or 0 part (take count (drop at all)) (omega (arith, length-take count (drop at all), length-drop at all, bytes_len disk inode, within)) (
    λ k lt. each k lt ∙ sym (byte_of disk inode (at + k) (omega (arith, lt, within))) ∙ sym (get_or-drop at all k 0) ∙ sym (get_or-take count (drop at all) k 0 lt)
    )
