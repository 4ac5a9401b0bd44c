-- The blocks that a node gives up are those that its size no longer needs: first those of pointers, then those of bytes.
use Rattle.std.proofs.Common.{◌≡◌, ℕ, ◌+◌, ◌-◌, ◌*◌, ◌<◌, ◌≤◌, inl, inr, List, get_or, refl, sym, ap, ◌∙◌, arith}
use Rattle.std.proofs.lemmas.Bool.{cases_lt}
use Rattle.kabi_types.specs.declared.inodes.Inode.{Inode}
use Rattle.posix_defs.specs.DiskFormat.{data_blocks, pointer_blocks}
use Rattle.posix_defs.specs.SoundDisk.{pointer_block, Place, Data, Pointers, HasPlace, named_at}

pub record Forgetting : Type 0 where
  pub before : List (List ℕ)
  pub old : Inode
  pub size : ℕ
  pub dropped : List ℕ
  -- how many of pointers, and how many in all
  pub few : ℕ
  pub count : ℕ
  pub less : size ≤ old.size
  pub few_are : few ≡ pointer_blocks old.size - pointer_blocks size
  pub all_are : count ≡ few + (data_blocks old.size - data_blocks size)
  pub pointer_ones : (k : ℕ) → k < few → get_or dropped k 0 ≡ pointer_block before old (pointer_blocks size + k)
  pub data_ones : (k : ℕ) → k < data_blocks old.size - data_blocks size → get_or dropped (few + k) 0 ≡ named_at before old (Data (data_blocks size + k))

abbrev pub IsGivenUp : Forgetting → ℕ → Type 0
IsGivenUp f k = (place : Place) × HasPlace f.old.size place × ¬ (HasPlace f.size place) × (get_or f.dropped k 0 ≡ named_at f.before f.old place)

-- one block that goes, and two
pub one_each : (blocks : List ℕ) (named : ℕ → ℕ) (from many k : ℕ) → many ≡ 1 → get_or blocks 0 0 ≡ named from → k < many → get_or blocks k 0 ≡ named (from + k)
one_each blocks named from many k is first lt = let none : k ≡ 0 = omega (arith, is, lt) in ap (λ (n : ℕ). get_or blocks n 0) none ∙ first ∙ ap named (omega (arith, none))

pub two_each : (blocks : List ℕ) (named : ℕ → ℕ) (from many k : ℕ) → many ≡ 2 → get_or blocks 0 0 ≡ named from → get_or blocks 1 0 ≡ named (from + 1) → k < many → get_or blocks k 0 ≡ named (from + k)
two_each blocks named from many k is first second lt = elim (cases_lt k 1) [
  | inl one ↦ one_each blocks named from 1 k refl first one
  | inr past ↦ let last : k ≡ 1 = omega (arith, is, lt, past) in ap (λ (n : ℕ). get_or blocks n 0) last ∙ second ∙ ap (λ (n : ℕ). named (from + n)) (sym last)
]

-- a number below a difference, and one behind the first
below_sum : (k n m : ℕ) → k < n - m → m + k < n
below_sum k n m lt = omega arith

not_below : (m k : ℕ) → m + k < m → ⊥
not_below m k lt = omega arith

behind_first : (k few more all : ℕ) → all ≡ few + more → few ≤ k → k < all → (k - few < more) × (few + (k - few) ≡ k)
behind_first k few more all is past lt = (omega arith, omega arith)

pub each : (f : Forgetting) (k : ℕ) → k < f.count → IsGivenUp f k
each f k lt = elim (cases_lt k f.few) [
  | inl front ↦
      let block : ℕ = pointer_blocks f.size + k in
      let had : HasPlace f.old.size (Pointers block) = below_sum k (pointer_blocks f.old.size) (pointer_blocks f.size) (omega (arith, front, f.few_are)) in
      (Pointers block, had, λ is. not_below (pointer_blocks f.size) k is, f.pointer_ones k front)
  | inr past ↦
      let j : ℕ = k - f.few in
      let at = behind_first k f.few (data_blocks f.old.size - data_blocks f.size) f.count f.all_are past lt in
      let had : HasPlace f.old.size (Data (data_blocks f.size + j)) = below_sum j (data_blocks f.old.size) (data_blocks f.size) at.0 in
      (Data (data_blocks f.size + j), had, λ is. not_below (data_blocks f.size) j is, ap (λ (n : ℕ). get_or f.dropped n 0) (omega (arith, at.1)) ∙ f.data_ones j at.0)
]

within_difference : (x n m : ℕ) → m ≤ x → x < n → (x - m < n - m) × (m + (x - m) ≡ x)
within_difference x n m le lt = (omega arith, omega arith)

pub all : (f : Forgetting) (place : Place) → HasPlace f.old.size place → ¬ (HasPlace f.size place) → (k : ℕ) × (k < f.count) × (get_or f.dropped k 0 ≡ named_at f.before f.old place)
all f (Data index) had gone =
    let past : data_blocks f.size ≤ index = elim (cases_lt index (data_blocks f.size)) [ inl lt ↦ absurd (gone lt) | inr le ↦ le ] in
    let at = within_difference index (data_blocks f.old.size) (data_blocks f.size) past had in
    (f.few + (index - data_blocks f.size), omega (arith, at.0, f.all_are), f.data_ones (index - data_blocks f.size) at.0 ∙ ap (λ (n : ℕ). named_at f.before f.old (Data n)) at.1)
all f (Pointers block) had gone =
    let past : pointer_blocks f.size ≤ block = elim (cases_lt block (pointer_blocks f.size)) [ inl lt ↦ absurd (gone lt) | inr le ↦ le ] in
    let at = within_difference block (pointer_blocks f.old.size) (pointer_blocks f.size) past had in
    let front : block - pointer_blocks f.size < f.few = omega (arith, at.0, f.few_are) in
    (block - pointer_blocks f.size, omega (arith, front, f.all_are), f.pointer_ones (block - pointer_blocks f.size) front ∙ ap (λ (n : ℕ). pointer_block f.before f.old n) at.1)
