-- A directory's bytes say one list of entries, of 32 bytes each.
use Rattle.std.proofs.Common.{◌≡◌, ℕ, ◌*◌, List, [], ◌∷◌, ◌++◌, inl, inr, length, refl, sym, ap, subst, ◌∙◌, arith}
use Rattle.std.specs.List.{flat_map, AllByRecursion}
use Rattle.std.proofs.lemmas.List.{length-append}
use Rattle.std.proofs.lemmas.List.Concat.{flat_map-cons}
use Rattle.std.proofs.lemmas.List.FromFn.{length-map-range_with_len}
use Rattle.kabi_types.specs.declared.inodes.Inode.{Inode}
use Rattle.kabi_types.specs.declared.inodes.DirEntry.{DirEntry}
use Rattle.posix_defs.specs.DiskFormat.{IsEntry, entry_bytes}
use Rattle.posix_defs.specs.DiskContents.{byte_at, node_bytes, HasEntries, Finds}
use Rattle.disk_laws.specs.TrueCaches.{HasName}
use Rattle.disk_laws.proofs.DiskSpelling.{split_same, length-entry_bytes, same_entry_bytes}
use Rattle.disk_laws.proofs.FormattedDisk.{one_inode}

abbrev list_bytes : List DirEntry → List ℕ
list_bytes entries = flat_map entry_bytes entries

length-list_bytes : (entries : List DirEntry) → AllByRecursion IsEntry entries → length (list_bytes entries) ≡ 32 * length entries
length-list_bytes [] each = refl
length-list_bytes (entry ∷ entries) each =
    omega (arith, ap length (flat_map-cons entry_bytes entry entries), length-append (entry_bytes entry) (list_bytes entries), length-entry_bytes entry each.0, length-list_bytes entries each.1)

same_lists : (one other : List DirEntry) → AllByRecursion IsEntry one → AllByRecursion IsEntry other → list_bytes one ≡ list_bytes other → one ≡ other
same_lists [] [] is_one is_other e = refl
same_lists [] (entry ∷ other) is_one is_other e = absurd (omega (arith, ap length e, length-list_bytes (entry ∷ other) is_other))
same_lists (entry ∷ one) [] is_one is_other e = absurd (omega (arith, ap length e, length-list_bytes (entry ∷ one) is_one))
same_lists (first ∷ one) (second ∷ other) is_one is_other e =
    let joined : entry_bytes first ++ list_bytes one ≡ entry_bytes second ++ list_bytes other = sym (flat_map-cons entry_bytes first one) ∙ e ∙ flat_map-cons entry_bytes second other in
    let parts = split_same (entry_bytes first) (entry_bytes second) (list_bytes one) (list_bytes other) (length-entry_bytes first is_one.0 ∙ sym (length-entry_bytes second is_other.0)) joined in
    let head : first ≡ second = same_entry_bytes first second is_one.0 is_other.0 parts.0 in
    ap (λ (entry : DirEntry). entry ∷ one) head ∙ ap (λ (rest : List DirEntry). second ∷ rest) (same_lists one other is_one.1 is_other.1 parts.1)

pub one_list : (disk : List (List ℕ)) (inode : Inode) (one other : List DirEntry) → HasEntries disk inode one → HasEntries disk inode other → one ≡ other
one_list disk inode one other has also = same_lists one other has.each also.each (sym has.bytes ∙ also.bytes)

length-node_bytes : (disk : List (List ℕ)) (inode : Inode) → length (node_bytes disk inode) ≡ inode.size
unfolding node_bytes
length-node_bytes disk inode = length-map-range_with_len (λ (place : ℕ). byte_at disk inode place) 0 inode.size

pub size_of_entries : (disk : List (List ℕ)) (inode : Inode) (entries : List DirEntry) → HasEntries disk inode entries → inode.size ≡ 32 * length entries
size_of_entries disk inode entries has = sym (length-node_bytes disk inode) ∙ ap length has.bytes ∙ length-list_bytes entries has.each

-- a name is found at one node
finds_one : (entries : List DirEntry) (name : List ℕ) (one other : ℕ) → Finds entries name one → Finds entries name other → one ≡ other
finds_one [] name one other first second = absurd first
finds_one (entry ∷ entries) name one other (inl here) (inl also) = sym here.1 ∙ also.1
finds_one (entry ∷ entries) name one other (inl here) (inr later) = absurd (later.0 here.0)
finds_one (entry ∷ entries) name one other (inr later) (inl here) = absurd (later.0 here.0)
finds_one (entry ∷ entries) name one other (inr later) (inr also) = finds_one entries name one other later.1 also.1

pub one_node : (disk : List (List ℕ)) (dir : ℕ) (name : List ℕ) (one other : ℕ) → HasName disk dir name one → HasName disk dir name other → one ≡ other
one_node disk dir name one other has also =
    let same_inode : also.inode ≡ has.inode = one_inode disk dir also.inode has.inode also.has has.has in
    let list : HasEntries disk has.inode also.entries = subst (λ (inode : Inode). HasEntries disk inode also.entries) same_inode also.list in
    let same_list : also.entries ≡ has.entries = one_list disk has.inode also.entries has.entries list has.list in
    finds_one has.entries name one other has.found (subst (λ (entries : List DirEntry). Finds entries name other) same_list also.found)
