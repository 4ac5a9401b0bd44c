-- Ranges of memory, and bytes of a node that go there.
use Rattle.std.proofs.Common.{◌≡◌, ◌≢◌, ℕ, zero, suc, ◌+◌, ◌-◌, ◌<◌, ◌≤◌, ◌==◌, ◌&&◌, ℤ, pos, negsuc, Bool, true, false, inl, inr, None, Some, List, [], ◌∷◌, ◌++◌, take, drop, length, Option, refl, ap, sym, subst, ◌∙◌, arith, length-append}
use Rattle.std.proofs.lemmas.Bool.Decides.{eqb_tells, leb_tells}
use Rattle.std.specs.Prelude.{nat_le}
use Rattle.std.specs.Option.{option_or}
use Rattle.kabi_types.specs.Arguments.{count_of, invalid_unless, is_from, is_within, moved_fault, placed_fault, range_fault}
use Rattle.kabi_types.specs.declared.errnos.Errno.TheVariants.{EINVAL}
use Rattle.kheap_laws.proofs.OwnerLemmas.{IsOwned-same}
use Rattle.kheap_slabs.specs.Purse.{Purse}
use Rattle.kheap_slabs.specs.Heap.{Heap}
use Rattle.kheap_slabs.specs.Owners.{with_space}
use Rattle.memfs_ops.specs.Fetching.{Fetches}
use Rattle.memfs_ops.specs.FileTree.{TreeView}
use Rattle.page_space.specs.Contents.{IsOwnedWith, StandsFor as IsMemory}
use Rattle.page_space.specs.Putting.{Puts}
use Rattle.posix_defs.specs.Memory.{Memory, is_mapped_range, loaded}
use Rattle.posix_defs.specs.Process.{Table, memory_of}
use Rattle.proc_table.proofs.MemoryLemmas.{memory_at-stands}
use Rattle.proc_table.specs.Standing.{IsTable}
use Rattle.proc_table.specs.Table.{TableView}
use Rattle.proc_numbers.specs.Spaces.{HasSpace}
use Rattle.proc_numbers.proofs.Remembering.{mapped_so, memory_is}
use Rattle.proc_numbers.proofs.RightBytes.{mapped_at}
use Rattle.proc_files.specs.Reading.{HasRange, ReadsNode, TellsMapped}

-- whether a range is mapped is what its space tells
pub range_tells : (h : Heap) (kept : TableView) (table : Table) (pid : ℕ) (addr : ℤ) (n : ℕ) (space : List (Option ℕ)) (start count : ℕ) (result b : Bool) → count ≡ n → (0 < count → start ≡ count_of addr)
    → HasSpace h kept pid space → IsTable h kept table → ((memory : Memory) → IsMemory h space memory → result ≡ is_mapped_range memory start count) → result ≡ b
    → is_mapped_range (memory_of table pid) (count_of addr) n ≡ b
range_tells h kept table pid addr n space start count result b counted begins has is tells told =
    ap (is_mapped_range (memory_of table pid) (count_of addr)) (sym counted) ∙ sym (mapped_at (memory_of table pid) start (count_of addr) count begins)
    ∙ mapped_so h kept table pid space start count result b has is tells told

-- the same of the operands that a call has
pub as_mapped : (h : Heap) (kept : TableView) (table : Table) (pid : ℕ) (as_addr addr as_n n : ℤ) (result b : Bool) → as_addr ≡ addr → as_n ≡ n → TellsMapped h kept pid as_addr (count_of as_n) result → IsTable h kept table
    → result ≡ b → is_mapped_range (memory_of table pid) (count_of addr) (count_of n) ≡ b
as_mapped h kept table pid as_addr addr as_n n result b same_addr same_n tells is told =
    ap (λ a. is_mapped_range (memory_of table pid) (count_of a) (count_of n)) (sym same_addr) ∙ ap (λ m. is_mapped_range (memory_of table pid) (count_of as_addr) (count_of m)) (sym same_n) ∙ tells table is ∙ told

pub as_range : (h : Heap) (kept : TableView) (pid : ℕ) (as_addr addr as_n n : ℤ) (nodes : List (Option ℕ)) (start count : ℕ) → as_addr ≡ addr → as_n ≡ n → HasRange h kept pid as_addr (count_of as_n) nodes start count
    → HasRange h kept pid addr (count_of n) nodes start count
as_range h kept pid as_addr addr as_n n nodes start count same_addr same_n range =
    subst (λ a. HasRange h kept pid a (count_of n) nodes start count) same_addr (subst (λ m. HasRange h kept pid as_addr (count_of m) nodes start count) same_n range)

-- what isn't none is some
pub some_count : (n : ℕ) → (n == 0) ≡ false → (n ≢ 0) × (0 < n)
some_count n none = elim (eqb_tells n 0) [
  | inl same ↦ absurd (let both : true ≡ false = sym same.0 ∙ none in cc)
  | inr apart ↦ (apart.1, positive n apart.1)
]
  where
    positive : (m : ℕ) → m ≢ 0 → 0 < m
    positive zero some = absurd (some refl)
    positive (suc m) some = omega arith

pub no_count : (n : ℕ) → (n == 0) ≡ true → n ≡ 0
no_count n none = elim (eqb_tells n 0) [
  | inl same ↦ same.1
  | inr apart ↦ absurd (let both : true ≡ false = sym none ∙ apart.0 in cc)
]

-- ---- bytes that were read

take_front : (xs ys : List ℕ) → take (length xs) (xs ++ ys) ≡ xs
take_front [] ys = refl
take_front (x ∷ xs) ys = ap (λ rest. x ∷ rest) (take_front xs ys)

-- the room has them at its front
pub front_taken : (count : ℕ) (bytes was now : List ℕ) → now ≡ bytes ++ drop count was → count ≡ length bytes → take count now ≡ bytes
front_taken count bytes was now is counted = ap (take count) is ∙ ap (λ n. take n (bytes ++ drop count was)) counted ∙ take_front bytes (drop count was)

-- and is long enough
pub front_fits : (count : ℕ) (bytes was now : List ℕ) → now ≡ bytes ++ drop count was → count ≡ length bytes → count ≤ length now
front_fits count bytes was now is counted = let all = ap length is ∙ length-append bytes (drop count was) in omega (arith, all, counted)

module _ (old mid : Heap) (before spent : Purse) (was now : TreeView) (fetches : Fetches old mid before spent was now) where
  pub fetched_owned : (space : List (Option ℕ)) → IsOwnedWith old space → IsOwnedWith mid space
  fetched_owned space owned =
      (owned.0, IsOwned-same old mid (with_space space owned.0) (ap (λ (h : Heap). h.nodes) fetches.on.heap) (ap (λ (h : Heap). h.pages) fetches.on.heap) (ap (λ (h : Heap). h.chunks) fetches.on.heap) owned.1)

  pub fetched_nodes : mid.nodes ≡ old.nodes
  fetched_nodes = ap (λ (h : Heap). h.nodes) fetches.on.heap

  pub fetched_pages : spent.left.page ≡ before.left.page
  fetched_pages = ap (λ (p : Purse). p.left.page) fetches.on.purse

  pub reads_node : (new : Heap) (after : Purse) (space : List (Option ℕ)) (start count : ℕ) (bytes room : List ℕ) → take count room ≡ bytes → Puts mid spent new after space start (take count room)
      → ReadsNode old before new after was now space start bytes
  reads_node new after space start count bytes room are puts = record { mid = mid; spent = spent; fetches = fetches; puts = subst (Puts mid spent new after space start) are puts }

-- ---- operands that are right

right_of : (least : ℕ) (addr n : ℤ) (also : Bool) → option_or (invalid_unless (is_within least 32767 n && also)) (range_fault addr (count_of n)) ≡ None
    → (count_of n ≤ 32767) × (range_fault addr (count_of n) ≡ None) × (least ≤ count_of n)
right_of least addr (pos n) also fault = within (nat_le least n) (nat_le n 32767) also refl refl fault
  where
    within : (a b c : Bool) → nat_le least n ≡ a → nat_le n 32767 ≡ b → option_or (invalid_unless ((a && b) && c)) (range_fault addr n) ≡ None → (n ≤ 32767) × (range_fault addr n ≡ None) × (least ≤ n)
    within true true true p q is = (below n 32767 q, is, below least n p)
      where
        below : (m k : ℕ) → nat_le m k ≡ true → m ≤ k
        below m k e = elim (leb_tells m k) [
          | inl less ↦ less.1
          | inr more ↦ absurd (let g : true ≡ false = sym e ∙ more.0 in cc)
        ]
    within true true false p q is = absurd (let g : Some EINVAL ≡ None = is in cc)
    within true false c p q is = absurd (let g : Some EINVAL ≡ None = is in cc)
    within false b c p q is = absurd (let g : Some EINVAL ≡ None = is in cc)
right_of least addr (negsuc n) also fault = absurd (let g : Some EINVAL ≡ None = fault in cc)

and_true : (b : Bool) → (b && true) ≡ b
and_true true = refl
and_true false = refl

right_so : (least : ℕ) (addr n : ℤ) → moved_fault least addr n ≡ None → (count_of n ≤ 32767) × (range_fault addr (count_of n) ≡ None) × (least ≤ count_of n)
right_so least addr n fault = right_of least addr n true (ap (λ b. option_or (invalid_unless b) (range_fault addr (count_of n))) (and_true (is_within least 32767 n)) ∙ fault)

pub right_moved : (addr n : ℤ) → moved_fault 0 addr n ≡ None → (count_of n ≤ 32767) × (range_fault addr (count_of n) ≡ None)
right_moved addr n fault = let it = right_so 0 addr n fault in (it.0, it.1)

pub right_placed : (addr n at : ℤ) → placed_fault addr n at ≡ None → (count_of n ≤ 32767) × (range_fault addr (count_of n) ≡ None)
right_placed addr n at fault = let it = right_of 0 addr n (is_from 0 at) fault in (it.0, it.1)

pub right_listed : (addr n : ℤ) → moved_fault 32 addr n ≡ None → (count_of n ≤ 32767) × (range_fault addr (count_of n) ≡ None)
right_listed addr n fault = let it = right_so 32 addr n fault in (it.0, it.1)

pub least_listed : (addr n : ℤ) → moved_fault 32 addr n ≡ None → 32 ≤ count_of n
least_listed addr n fault = (right_so 32 addr n fault).2

-- ---- bytes that are written

-- what the machine has in the process's memory stands in its space
pub memory_here : (h : Heap) (kept : TableView) (table : Table) (pid : ℕ) (space : List (Option ℕ)) → HasSpace h kept pid space → IsTable h kept table → IsMemory h space (memory_of table pid)
memory_here h kept table pid space has is = subst (IsMemory h space) (sym (memory_is h kept table pid space has is)) (memory_at-stands h space)

-- the bytes that are left of a write of which none were moved
pub bytes_same : (memory : Memory) (start count addr n : ℕ) → start ≡ addr → count ≡ n → loaded memory (addr + 0) (n - 0) ≡ loaded memory start count
bytes_same memory start count addr n begins counted =
    ap (λ a. loaded memory a (n - 0)) (let e : addr + 0 ≡ start = omega (arith, begins) in e) ∙ ap (loaded memory start) (let e : n - 0 ≡ count = omega (arith, counted) in e)
