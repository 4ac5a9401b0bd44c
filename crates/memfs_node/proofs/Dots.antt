-- A directory gets its first two entries, `.` and `..`.
use Rattle.std.proofs.Common.{◌≡◌, ◌≢◌, ℕ, zero, suc, ◌+◌, ◌*◌, ◌^◌, ◌<◌, inl, inr, List, [], ◌∷◌, length, get_or, set, replicate, sym, ap, subst, ◌∙◌, arith}
use Rattle.std.proofs.lemmas.Bool.{cases_lt}
use Rattle.std.proofs.lemmas.List.{get_or-replicate, get_or_past, length-replicate, get_or-set_other, length-set}
use Rattle.std.specs.List.{All}
use Rattle.kabi_types.specs.declared.inodes.DirEntry.{DirEntry}
use Rattle.kabi_types.specs.declared.inodes.Inode.{Inode}
use Rattle.posix_defs.specs.DiskFormat.{blocks_of, IsForFiles, IsEntry, entry_bytes}
use Rattle.posix_defs.specs.SoundDisk.{block_bytes, Data}
use Rattle.posix_defs.specs.DiskContents.{data_block, byte_at, entry_for, own_name, parent_name}
use Rattle.posix_defs.specs.NodeChange.{Grows, WritesBlock}
use Rattle.posix_defs.specs.TreeChanges.{no_entry}
use Rattle.disk_laws.proofs.FreeBlocks.{named_is_for_files, direct_at}
use Rattle.disk_laws.proofs.BlockWritten.{block_written}
use Rattle.blk_map.proofs.AndBack.{changes_follow}
use Rattle.memfs_dir.proofs.DirectoryBytes.{lists, byte_at_slot}
use Rattle.memfs_node.specs.Dots.{HasDots, PutsDots}
use Rattle.memfs_node.proofs.Lowest.{SameMap}

-- ---- the two names are names

dots_are : (n k : ℕ) → k < n → ◌≢◌ {A = ℕ} (get_or (replicate n 46) k 0) 0 × ◌≢◌ {A = ℕ} (get_or (replicate n 46) k 0) 47
dots_are n k lt =
    let dot : ◌≡◌ {A = ℕ} (get_or (replicate n 46) k 0) 46 = get_or-replicate n k 46 0 lt in
    (λ e. omega (arith, dot, e), λ e. omega (arith, dot, e))

dots_fit : (n k : ℕ) → get_or (replicate n 46) k 0 < 2 ^ 8
dots_fit n k = elim (cases_lt k n) [
  | inl lt ↦ let dot : ◌≡◌ {A = ℕ} (get_or (replicate n 46) k 0) 46 = get_or-replicate n k 46 0 lt in omega (arith, dot)
  | inr past ↦ let none : ◌≡◌ {A = ℕ} (get_or (replicate n 46) k 0) 0 = get_or_past (replicate n 46) k 0 (omega (arith, past, length-replicate {A = ℕ} n 46)) in omega (arith, none)
]

pub own_is : (number : ℕ) → 0 < number → number < 2 ^ 32 → IsEntry (entry_for number own_name)
own_is number pos fits = record { node = (pos, fits); name = record { len = (omega arith, omega arith); fits = λ k. dots_fit 1 k; chars = λ k lt. dots_are 1 k lt } }

pub parent_is : (number : ℕ) → 0 < number → number < 2 ^ 32 → IsEntry (entry_for number parent_name)
parent_is number pos fits = record { node = (pos, fits); name = record { len = (omega arith, omega arith); fits = λ k. dots_fit 2 k; chars = λ k lt. dots_are 2 k lt } }

-- ---- its block

pub record Putting : Type 0 where
  pub number : ℕ
  pub before : List (List ℕ)
  pub old : Inode
  pub parent : ℕ
  pub grown : List (List ℕ)
  pub new : Inode
  pub block : List ℕ
  pub after : List (List ℕ)
  pub kind : old.kind ≡ 2
  pub empty : old.size ≡ 0
  pub pos : 0 < number
  pub pos_parent : 0 < parent
  pub fits : number < 2 ^ 32
  pub fits_parent : parent < 2 ^ 32
  pub grows : Grows number before old 64 grown new
  pub dots : HasDots block number parent
  pub is_set : after ≡ set grown (get_or new.direct 0 0) block

abbrev two : Putting → List DirEntry
two p = entry_for p.number own_name ∷ entry_for p.parent parent_name ∷ []

size_is : (p : Putting) → p.new.size ≡ 64
size_is p = p.grows.resizes.fields.2

first : (p : Putting) → data_block p.grown p.new 0 ≡ get_or p.new.direct 0 0
first p = direct_at p.grown p.new 0 (omega arith)

pub files : (p : Putting) → IsForFiles (length p.grown) (get_or p.new.direct 0 0)
files p = subst (λ (n : ℕ). IsForFiles (length p.grown) n) (first p)
    (named_is_for_files p.grown p.grows.resizes.changes.sound p.number p.new (Data 0) p.grows.resizes.has (omega (arith, size_is p)))

written : (p : Putting) → WritesBlock p.number p.grown p.new 0 p.block p.after
written p =
    let is : p.after ≡ set p.grown (data_block p.grown p.new 0) p.block = p.is_set ∙ ap (λ (n : ℕ). set p.grown n p.block) (sym (first p)) in
    subst (λ (disk : List (List ℕ)). WritesBlock p.number p.grown p.new 0 p.block disk) (sym is) (block_written p.grown p.number p.new 0 p.block p.grows.resizes.changes.sound p.grows.resizes.has (omega (arith, size_is p)))

there : (p : Putting) → block_bytes p.after (data_block p.after p.new 0) ≡ p.block
there p = let w = written p in ap (λ (n : ℕ). block_bytes p.after n) (w.names (Data 0) (omega (arith, size_is p))) ∙ w.this

spelled : (p : Putting) (k j : ℕ) → k < 2 → j < 32 → byte_at p.after p.new (32 * k + j) ≡ get_or (entry_bytes (get_or (two p) k no_entry)) j 0
spelled p zero j lt within = byte_at_slot p.after p.new 0 j p.block within (there p) ∙ p.dots.first j within
spelled p (suc zero) j lt within = byte_at_slot p.after p.new 1 j p.block within (there p) ∙ p.dots.second j within
spelled p (suc (suc k)) j lt within = absurd (omega (arith, lt))

are_entries : (p : Putting) → All IsEntry (two p)
are_entries p zero d lt = own_is p.number p.pos p.fits
are_entries p (suc zero) d lt = parent_is p.parent p.pos_parent p.fits_parent
are_entries p (suc (suc k)) d lt = absurd (omega (arith, lt))

pub puts : (p : Putting) → PutsDots p.number p.before p.old p.parent p.after p.new
puts p =
    let w = written p in
    let r = p.grows.resizes in
    let had : blocks_of p.old.size ≡ 0 = ap blocks_of p.empty in
    record {
      changes = changes_follow p.number p.before p.grown p.after r.changes w.changes;
      has = w.has;
      links = r.fields.1;
      size = size_is p;
      list = lists p.after p.new (two p) (r.fields.0 ∙ p.kind) (size_is p) (record { all = are_entries p; bytes = λ k j lt within. spelled p k j lt within });
      free = omega (arith, w.free, r.free, had);
    }

pub same_map : (p : Putting) → SameMap p.grown p.after
same_map p = record {
  count = ap length p.is_set ∙ length-set p.grown (get_or p.new.direct 0 0) p.block;
  map = ap (λ (disk : List (List ℕ)). block_bytes disk 0) p.is_set ∙ get_or-set_other {A = List ℕ} p.grown (get_or p.new.direct 0 0) 0 p.block _ (λ e. omega (arith, e, (files p).0));
}
