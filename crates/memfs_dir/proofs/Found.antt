-- A look through the entries of a directory, block by block.
use Rattle.std.proofs.Common.{◌≡◌, ◌≢◌, ℕ, zero, suc, ◌+◌, ◌-◌, ◌*◌, ◌/◌, ◌%◌, ◌<◌, ◌≤◌, ◌⊎◌, true, false, cond, ltb, eqb, List, [], ◌∷◌, ◌++◌, map, length, get_or, inl, inr, Some, None, refl, sym, ap, subst, ◌∙◌, arith}
use Rattle.std.specs.List.{position_or_len, range_with_len}
use Rattle.std.proofs.lemmas.Bool.{cases_lt, lt-ltb, le-ltb, ne_eqb, cond-true, cond-false, false_from_ne_true}
use Rattle.std.proofs.lemmas.List.Sums.{position_or_len_is}
use Rattle.std.proofs.lemmas.Slice.Eq.{bytes_eq-Decides}
use Rattle.kabi_types.specs.declared.inodes.Inode.{Inode}
use Rattle.kabi_types.specs.declared.inodes.DirEntry.{DirEntry}
use Rattle.posix_defs.specs.Asking.{AskedInTurn}
use Rattle.posix_defs.specs.DiskFormat.{pointers_beside}
use Rattle.posix_defs.specs.SoundDisk.{block_bytes, block_of_run, Place, Data, Pointers, named_at, pointer_block}
use Rattle.posix_defs.specs.DiskContents.{data_block, HasEntries}
use Rattle.posix_defs.specs.Tree.{has_name}
use Rattle.posix_defs.specs.TreeChanges.{no_entry}
use Rattle.disk_laws.proofs.FreeBlocks.{direct_at}
use Rattle.memfs_dir.specs.Slots.{Spells, IsCalled}
use Rattle.memfs_dir.specs.Looking.{IsLookOf, blocks_at, entered, looked_at, looked_through}
use Rattle.memfs_dir.specs.Listed.{place_called}
use Rattle.memfs_dir.proofs.SlotBytes.{one_entry}
use Rattle.memfs_dir.proofs.DirectoryBytes.{spelled}

-- ---- where a name stands

pub called : (entry : DirEntry) (name : List ℕ) → entry.name ≡ name → has_name name entry ≡ true
called entry name is = (bytes_eq-Decides entry.name name).1 is

pub not_called : (entry : DirEntry) (name : List ℕ) → entry.name ≢ name → has_name name entry ≡ false
not_called entry name other = false_from_ne_true (has_name name entry) (λ is. other ((bytes_eq-Decides entry.name name).0 is))

pub first_called : (entries : List DirEntry) (name : List ℕ) (place : ℕ) → place < length entries → (get_or entries place no_entry).name ≡ name
    → ((k : ℕ) → k < place → (get_or entries k no_entry).name ≢ name) → place_called name entries ≡ Some place
first_called entries name place lt here before =
    let at = position_or_len_is (has_name name) entries place no_entry (omega (arith, lt)) (λ k k_lt. not_called (get_or entries k no_entry) name (before k k_lt)) (λ _. called (get_or entries place no_entry) name here) in
    cond-true (ltb (position_or_len (has_name name) entries) (length entries)) (Some (position_or_len (has_name name) entries)) None (lt-ltb (position_or_len (has_name name) entries) (length entries) (omega (arith, at, lt)))
    ∙ ap (λ (n : ℕ). Some n) at

pub none_called : (entries : List DirEntry) (name : List ℕ) → ((k : ℕ) → k < length entries → (get_or entries k no_entry).name ≢ name) → place_called name entries ≡ None
none_called entries name nowhere =
    let at = position_or_len_is (has_name name) entries (length entries) no_entry (omega arith) (λ k lt. not_called (get_or entries k no_entry) name (nowhere k lt)) (λ past. absurd (omega (arith, past))) in
    cond-false (ltb (position_or_len (has_name name) entries) (length entries)) (Some (position_or_len (has_name name) entries)) None (le-ltb (position_or_len (has_name name) entries) (length entries) (omega (arith, at)))

-- ---- one block

in_block : (index slot : ℕ) → slot < 32 → (32 * index + slot) / 32 ≡ index
in_block index slot lt = omega (arith, lt)

at_slot : (index slot : ℕ) → slot < 32 → (32 * index + slot) % 32 ≡ slot
at_slot index slot lt = omega (arith, lt)

-- the entries of a block, each in its slot
pub spelled_in : (disk : List (List ℕ)) (inode : Inode) (entries : List DirEntry) (index slot : ℕ) (block : List ℕ) → HasEntries disk inode entries → slot < 32 → 32 * index + slot < length entries
    → block_bytes disk (data_block disk inode index) ≡ block → Spells block slot (get_or entries (32 * index + slot) no_entry)
spelled_in disk inode entries index slot block has lt within is =
    let there : block_bytes disk (data_block disk inode ((32 * index + slot) / 32)) ≡ block = ap (λ (n : ℕ). block_bytes disk (data_block disk inode n)) (in_block index slot lt) ∙ is in
    subst (λ (n : ℕ). Spells block n (get_or entries (32 * index + slot) no_entry)) (at_slot index slot lt) (spelled disk inode entries (32 * index + slot) block has within there)

-- no entry up to a block, and none of the first of its slots, has the name
pub missing_on : (disk : List (List ℕ)) (inode : Inode) (entries : List DirEntry) (index slots : ℕ) (block name : List ℕ) → HasEntries disk inode entries → slots ≤ 32
    → block_bytes disk (data_block disk inode index) ≡ block → ((k : ℕ) → k < length entries → k < 32 * index → (get_or entries k no_entry).name ≢ name)
    → ((slot : ℕ) → slot < slots → ¬ (IsCalled block slot name)) → (k : ℕ) → k < length entries → k < 32 * index + slots → (get_or entries k no_entry).name ≢ name
missing_on disk inode entries index slots block name has few is before none k within lt = elim (cases_lt k (32 * index)) [
  | inl lower ↦ before k within lower
  | inr higher ↦
      let slot : ℕ = k - 32 * index in
      let at : 32 * index + slot ≡ k = omega (arith, higher) in
      let slot_lt : slot < slots = omega (arith, lt, higher) in
      let spells = spelled_in disk inode entries index slot block has (omega (arith, slot_lt, few)) (omega (arith, at, within)) is in
      λ same. none slot slot_lt (record { entry = get_or entries (32 * index + slot) no_entry; spells = spells; called = ap (λ (n : ℕ). (get_or entries n no_entry).name) at ∙ same })
]

pub found_in : (disk : List (List ℕ)) (inode : Inode) (entries : List DirEntry) (index slot : ℕ) (block name : List ℕ) → HasEntries disk inode entries → slot < 32 → 32 * index + slot < length entries
    → block_bytes disk (data_block disk inode index) ≡ block → ((k : ℕ) → k < length entries → k < 32 * index → (get_or entries k no_entry).name ≢ name)
    → ((before : ℕ) → before < slot → ¬ (IsCalled block before name)) → IsCalled block slot name → place_called name entries ≡ Some (32 * index + slot)
found_in disk inode entries index slot block name has lt within is before first here =
    let spells = spelled_in disk inode entries index slot block has lt within is in
    let same : get_or entries (32 * index + slot) no_entry ≡ here.entry = one_entry block slot (get_or entries (32 * index + slot) no_entry) here.entry spells here.spells in
    first_called entries name (32 * index + slot) within (ap (λ (entry : DirEntry). entry.name) same ∙ here.called)
    (λ k k_lt. missing_on disk inode entries index slot block name has (omega (arith, lt)) is before first k (omega (arith, k_lt, within)) k_lt)

-- a look that ends there has found the name, with its node
pub look_found : (disk : List (List ℕ)) (inode : Inode) (entries : List DirEntry) (index slot node : ℕ) (block name : List ℕ) → HasEntries disk inode entries → slot < 32 → 32 * index + slot < length entries
    → block_bytes disk (data_block disk inode index) ≡ block → ((k : ℕ) → k < length entries → k < 32 * index → (get_or entries k no_entry).name ≢ name)
    → ((before : ℕ) → before < slot → ¬ (IsCalled block before name)) → IsCalled block slot name → ((entry : DirEntry) → Spells block slot entry → node ≡ entry.node)
    → IsLookOf name entries (Some (record { place = 32 * index + slot; node = node }))
look_found disk inode entries index slot node block name has lt within is before first here told = (
  sym (found_in disk inode entries index slot block name has lt within is before first here),
  told (get_or entries (32 * index + slot) no_entry) (spelled_in disk inode entries index slot block has lt within is),
)

-- ---- what was asked for

pub asked_append : {Thing Question : Type 0} (asked : Thing → Question → Thing → Type 0) (first second third : Thing) (xs ys : List Question) → AskedInTurn asked first xs second → AskedInTurn asked second ys third
    → AskedInTurn asked first (xs ++ ys) third
asked_append {Thing} {Question} asked first second third [] ys one other = subst (λ (thing : Thing). AskedInTurn asked thing ys third) one other
asked_append {Thing} {Question} asked first second third (x ∷ xs) ys one other = (one.0, one.1, asked_append asked one.0 second third xs ys one.2 other)

-- what is asked of a thing is asked of what it stands for
pub asked_through : {A B Q : Type 0} (of : A → B) (asked : B → Q → B → Type 0) (before : A) (questions : List Q) (after : A)
    → AskedInTurn (λ a question b. asked (of a) question (of b)) before questions after → AskedInTurn asked (of before) questions (of after)
asked_through of asked before [] after is = ap of is
asked_through of asked before (question ∷ questions) after is = (of is.0, is.1, asked_through of asked is.0 questions after is.2)

map_both : (f : Place → ℕ) (xs ys : List Place) → map f (xs ++ ys) ≡ map f xs ++ map f ys
map_both f [] ys = refl
map_both f (x ∷ xs) ys = ap (λ (rest : List ℕ). f x ∷ rest) (map_both f xs ys)

-- one block more
asked_one : {Thing : Type 0} (asked : Thing → ℕ → Thing → Type 0) (disk : List (List ℕ)) (inode : Inode) (index number : ℕ) (first second third : Thing) → number ≡ data_block disk inode index
    → AskedInTurn asked first (blocks_at disk inode (entered index)) second → asked second number third → AskedInTurn asked first (blocks_at disk inode (looked_at index)) third
asked_one {Thing} asked disk inode index number first second third is pointers block =
    subst (λ (numbers : List ℕ). AskedInTurn asked first numbers third) (sym (map_both (λ there. named_at disk inode there) (entered index) (Data index ∷ [])))
    (asked_append asked first second third (blocks_at disk inode (entered index)) (data_block disk inode index ∷ []) pointers (third, subst (λ (n : ℕ). asked second n third) is block, refl))

pub asked_further : {Thing : Type 0} (asked : Thing → ℕ → Thing → Type 0) (disk : List (List ℕ)) (inode : Inode) (index number count : ℕ) (start first second third : Thing) → number ≡ data_block disk inode index → count ≡ suc index
    → AskedInTurn asked start (blocks_at disk inode (looked_through index)) first → AskedInTurn asked first (blocks_at disk inode (entered index)) second → asked second number third
    → AskedInTurn asked start (blocks_at disk inode (looked_through count)) third
asked_further {Thing} asked disk inode index number count start first second third is next before pointers block =
    subst (λ (n : ℕ). AskedInTurn asked start (blocks_at disk inode (looked_through n)) third) (sym next) (
    subst (λ (numbers : List ℕ). AskedInTurn asked start numbers third) (sym (map_both (λ there. named_at disk inode there) (looked_through index) (looked_at index)))
    (asked_append asked start first third (blocks_at disk inode (looked_through index)) (blocks_at disk inode (looked_at index)) before (asked_one asked disk inode index number first second third is pointers block))
    )

-- ---- the blocks of pointers on the way

-- those that a block of entries more takes, by their numbers
entered_are : (index from count : ℕ) → pointers_beside index ≡ from → pointers_beside (index + 1) - pointers_beside index ≡ count → entered index ≡ map Pointers (range_with_len from count)
entered_are index from count begins many =
    ap (λ (n : ℕ). map Pointers (range_with_len n (pointers_beside (index + 1) - pointers_beside index))) begins ∙ ap (λ (n : ℕ). map Pointers (range_with_len from n)) many

-- none within a run
pub none_entered : (index : ℕ) → (index < 10) ⊎ ((index - 10) % 256 ≢ 0) → entered index ≡ []
none_entered index (inl first) = entered_are index 0 0 (omega (arith, first)) (omega (arith, first))
none_entered index (inr inside) = entered_are index (pointers_beside index) 0 refl (omega (arith, inside))

-- at the first of a run its block, and with the second run the double block before
pub run_entered : (disk : List (List ℕ)) (inode : Inode) (run index : ℕ) → index ≡ 10 + 256 * run
    → blocks_at disk inode (entered index) ≡ cond (eqb run 1) (inode.double ∷ []) [] ++ pointer_block disk inode (block_of_run run) ∷ []
run_entered disk inode zero index is = ap (blocks_at disk inode) (entered_are index 0 1 (omega (arith, is)) (omega (arith, is)))
run_entered disk inode (suc zero) index is = ap (blocks_at disk inode) (entered_are index 1 2 (omega (arith, is)) (omega (arith, is)))
run_entered disk inode (suc (suc run)) index is =
    ap (blocks_at disk inode) (entered_are index (suc (suc (suc run))) 1 (omega (arith, is)) (omega (arith, is)))
    ∙ ap (λ (xs : List ℕ). xs ++ pointer_block disk inode (suc (suc (suc run))) ∷ []) (sym (cond-false (eqb (suc (suc run)) 1) (inode.double ∷ []) [] (ne_eqb (suc (suc run)) 1 (λ e. omega (arith, e)))))

-- where a run's block was asked for behind what was asked for before it
pub asked_for_run : {Thing : Type 0} (asked : Thing → ℕ → Thing → Type 0) (disk : List (List ℕ)) (inode : Inode) (run index number : ℕ) (first second third : Thing) → index ≡ 10 + 256 * run
    → number ≡ pointer_block disk inode (block_of_run run) → AskedInTurn asked first (cond (eqb run 1) (inode.double ∷ []) []) second → asked second number third
    → AskedInTurn asked first (blocks_at disk inode (entered index)) third
asked_for_run {Thing} asked disk inode run index number first second third is named double pointers =
    subst (λ (numbers : List ℕ). AskedInTurn asked first numbers third) (sym (run_entered disk inode run index is))
    (asked_append asked first second third (cond (eqb run 1) (inode.double ∷ []) []) (pointer_block disk inode (block_of_run run) ∷ []) double (third, subst (λ (n : ℕ). asked second n third) named pointers, refl))

pub asked_for_none : {Thing : Type 0} (asked : Thing → ℕ → Thing → Type 0) (disk : List (List ℕ)) (inode : Inode) (index : ℕ) (thing : Thing) → (index < 10) ⊎ ((index - 10) % 256 ≢ 0)
    → AskedInTurn asked thing (blocks_at disk inode (entered index)) thing
asked_for_none {Thing} asked disk inode index thing inside = subst (λ (places : List Place). AskedInTurn asked thing (blocks_at disk inode places) thing) (sym (none_entered index inside)) refl

-- ---- a block that the inode names itself

pub direct : (disk : List (List ℕ)) (inode : Inode) (index : ℕ) → index < 10 → (number : ℕ) → number ≡ get_or inode.direct index 0 → number ≡ data_block disk inode index
direct disk inode index lt number is = is ∙ sym (direct_at disk inode index lt)

-- no block of pointers is asked for on the way to it
pub near_asked : {Thing : Type 0} (asked : Thing → ℕ → Thing → Type 0) (disk : List (List ℕ)) (inode : Inode) (index : ℕ) (thing : Thing) → index < 10 → AskedInTurn asked thing (blocks_at disk inode (entered index)) thing
near_asked {Thing} asked disk inode index thing lt = asked_for_none asked disk inode index thing (inl lt)
