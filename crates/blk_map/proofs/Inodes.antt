-- The inode of a node that has another size.
use Rattle.std.proofs.Common.{◌≡◌, ◌≢◌, ℕ, ◌+◌, ◌-◌, ◌*◌, ◌%◌, ◌<◌, ◌≤◌, Bool, inl, inr, List, length, get_or, ltb, sym, ap, subst, ◌∙◌, arith}
use Rattle.std.proofs.lemmas.Bool.{cases_lt, lt-ltb, le-ltb, cond-true, cond-false}
use Rattle.std.proofs.lemmas.List.{get_or_past}
use Rattle.kabi_types.specs.declared.inodes.Inode.{Inode}
use Rattle.posix_defs.specs.DiskFormat.{block_size, data_blocks, IsForFiles, IsPointer, Fits, IsOfKind, IsInode, most_blocks}
use Rattle.posix_defs.specs.SoundDisk.{block_bytes, block_of_run, pointer_at, pointer_block, run_of, Data, named_at}
use Rattle.disk_laws.proofs.FreeBlocks.{direct_at, behind_at}
use Rattle.blk_map.specs.Named.{IsInHand, MayHaveSize, pointer_to}

pub pointer_direct : (direct behind : List ℕ) (index : ℕ) → index < 10 → pointer_to direct behind index ≡ get_or direct index 0
pointer_direct direct behind index lt = cond-true (ltb index 10) _ _ (lt-ltb index 10 lt)

pub pointer_behind : (direct behind : List ℕ) (index : ℕ) → 10 ≤ index → pointer_to direct behind index ≡ get_or behind ((index - 10) % 256) 0
pointer_behind direct behind index le = cond-false (ltb index 10) _ _ (le-ltb index 10 le)

-- these are the pointers of a run, where a node of so many blocks has one of them
abbrev pub HasPointersOf : List (List ℕ) → ℕ → ℕ → ℕ → List ℕ → Type 0
HasPointersOf disk pointers held run behind = 10 + 256 * run < held → (k : ℕ) → k < 256 → get_or behind k 0 ≡ pointer_at (block_bytes disk pointers) k

-- the pointers in hand are those that the node has
pub names_in_hand : (disk : List (List ℕ)) (inode : Inode) (behind : List ℕ) (run held : ℕ) → HasPointersOf disk (pointer_block disk inode (block_of_run run)) held run behind
    → (index : ℕ) → index < held → IsInHand run index → pointer_to inode.direct behind index ≡ named_at disk inode (Data index)
names_in_hand disk inode behind run held large index lt in_hand = elim (cases_lt index 10) [
  | inl first ↦ pointer_direct inode.direct behind index first ∙ sym (direct_at disk inode index first)
  | inr past ↦
      let here : run_of index ≡ run = elim in_hand [ inl first ↦ absurd (omega (arith, first, past)) | inr is ↦ is ] in
      let at : ℕ = (index - 10) % 256 in
      pointer_behind inode.direct behind index past ∙ large (omega (arith, lt, past, here)) at (omega arith)
      ∙ ap (λ (r : ℕ). pointer_at (block_bytes disk (pointer_block disk inode (block_of_run r))) at) (sym here) ∙ sym (behind_at disk inode index past)
]

pub pointer_is : (blocks pointer from size : ℕ) → (from < size → IsForFiles blocks pointer) → (size ≤ from → pointer ≡ 0) → IsPointer blocks (ltb from size) pointer
pointer_is blocks pointer from size files none = elim (cases_lt from size) [
  | inl needed ↦ subst (λ (b : Bool). IsPointer blocks b pointer) (sym (lt-ltb from size needed)) (files needed)
  | inr past ↦ subst (λ (b : Bool). IsPointer blocks b pointer) (sym (le-ltb from size past)) (none past)
]

pub none_needed : (blocks pointer from size : ℕ) → size ≤ from → IsPointer blocks (ltb from size) pointer → pointer ≡ 0
none_needed blocks pointer from size le is = subst (λ (b : Bool). IsPointer blocks b pointer) (le-ltb from size le) is

-- the pointers of an inode of this size
pub record Points (blocks size : ℕ) (new : Inode) : Type 0 where
  pub ten : length new.direct ≡ 10
  pub direct : (k : ℕ) → k < 10 → k < data_blocks size → IsForFiles blocks (get_or new.direct k 0)
  pub none : (k : ℕ) → k < 10 → data_blocks size ≤ k → get_or new.direct k 0 ≡ 0
  pub pointers : 10 < data_blocks size → IsForFiles blocks new.indirect
  pub no_pointers : data_blocks size ≤ 10 → new.indirect ≡ 0
  pub double : 266 < data_blocks size → IsForFiles blocks new.double
  pub no_double : data_blocks size ≤ 266 → new.double ≡ 0

of_kind : (blocks size : ℕ) (old new : Inode) → IsInode blocks old → MayHaveSize old.kind size → data_blocks size ≤ most_blocks → (new.kind ≡ old.kind) × (new.nlink ≡ old.nlink) × (new.size ≡ size) → IsOfKind new
of_kind blocks size old new valid kind most fields =
    let was = valid.kind in
    let not_free : old.kind ≢ 0 = λ none. elim kind [ inl is ↦ omega (arith, is, none) | inr is ↦ omega (arith, is.0, none) ] in
    let not_name : old.kind ≢ 3 = λ name. elim kind [ inl is ↦ omega (arith, is, name) | inr is ↦ omega (arith, is.0, name) ] in
    let not_fifo : old.kind ≢ 4 = λ fifo. elim kind [ inl is ↦ omega (arith, is, fifo) | inr is ↦ omega (arith, is.0, fifo) ] in
    record {
      kind = omega (arith, fields.0, was.kind);
      links = omega (arith, fields.1, was.links);
      size = omega (arith, fields.2, most);
      free = λ none. absurd (not_free (sym fields.0 ∙ none));
      entries = λ is. elim kind [
        | inl file ↦ absurd (omega (arith, file, is, fields.0))
        | inr directory ↦ ap (λ (n : ℕ). n % 32) fields.2 ∙ directory.1
      ];
      name = λ is. absurd (not_name (sym fields.0 ∙ is));
      fifo = λ is. absurd (not_fifo (sym fields.0 ∙ is));
    }

fits : (blocks size : ℕ) (old new : Inode) → blocks ≤ 4096 → IsInode blocks old → data_blocks size ≤ most_blocks → (new.kind ≡ old.kind) × (new.nlink ≡ old.nlink) × (new.size ≡ size) → Points blocks size new → Fits new
fits blocks size old new few valid most fields points =
    let was = valid.fits in
    record {
      kind = omega (arith, fields.0, was.kind);
      nlink = omega (arith, fields.1, was.nlink);
      size = omega (arith, fields.2, most);
      count = points.ten;
      direct = λ k. elim (cases_lt k 10) [
        | inl lt ↦ elim (cases_lt k (data_blocks size)) [
          | inl within ↦ omega (arith, (points.direct k lt within).1, few)
          | inr past ↦ omega (arith, points.none k lt past)
        ]
        | inr past ↦ omega (arith, get_or_past new.direct k 0 (omega (arith, past, points.ten)))
      ];
      indirect = elim (cases_lt 10 (data_blocks size)) [
        | inl large ↦ omega (arith, (points.pointers large).1, few)
        | inr small ↦ omega (arith, points.no_pointers small)
      ];
      double = elim (cases_lt 266 (data_blocks size)) [
        | inl large ↦ omega (arith, (points.double large).1, few)
        | inr small ↦ omega (arith, points.no_double small)
      ];
    }

pub is_inode : (blocks size : ℕ) (old new : Inode) → blocks ≤ 4096 → IsInode blocks old → MayHaveSize old.kind size → data_blocks size ≤ most_blocks → (new.kind ≡ old.kind) × (new.nlink ≡ old.nlink) × (new.size ≡ size)
    → Points blocks size new → IsInode blocks new
is_inode blocks size old new few valid kind most fields points =
    record {
      fits = fits blocks size old new few valid most fields points;
      kind = of_kind blocks size old new valid kind most fields;
      pointers = record {
        direct = λ k lt.
            pointer_is blocks (get_or new.direct k 0) (k * block_size) new.size (λ needed. points.direct k lt (omega (arith, needed, fields.2))) (λ past. points.none k lt (omega (arith, past, fields.2)));
        indirect = pointer_is blocks new.indirect (10 * block_size) new.size (λ needed. points.pointers (omega (arith, needed, fields.2))) (λ past. points.no_pointers (omega (arith, past, fields.2)));
        double = pointer_is blocks new.double (266 * block_size) new.size (λ needed. points.double (omega (arith, needed, fields.2))) (λ past. points.no_double (omega (arith, past, fields.2)));
      };
    }
