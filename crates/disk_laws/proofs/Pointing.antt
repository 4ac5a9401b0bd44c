-- The pointers of a node's blocks of pointers, by the places that they lead to.
use Rattle.std.proofs.Common.{◌≡◌, ℕ, zero, suc, ◌+◌, ◌*◌, ◌<◌, ◌≤◌, Bool, inl, inr, List, length, refl, sym, subst, arith}
use Rattle.std.proofs.lemmas.Bool.{cases_lt, lt-ltb, le-ltb}
use Rattle.kabi_types.specs.declared.inodes.Inode.{Inode}
use Rattle.posix_defs.specs.DiskFormat.{block_size, data_blocks, pointer_blocks, leads_to, needs_pointer, IsForFiles, IsPointer}
use Rattle.posix_defs.specs.SoundDisk.{block_bytes, HasInode, pointer_at, pointer_block, Place, Data, Pointers, HasPlace, named_at, Sound}
use Rattle.disk_laws.proofs.FreeBlocks.{has_run, in_run}

-- the place of a node whose block a pointer names
abbrev pub place_led : ℕ → ℕ → Place
place_led zero at = Data (10 + 256 * 0 + at)
place_led (suc zero) at = Pointers (suc (suc at))
place_led (suc (suc block)) at = Data (10 + 256 * suc block + at)

pub pointed : (disk : List (List ℕ)) (inode : Inode) (block at : ℕ) → at < 256 → named_at disk inode (place_led block at) ≡ pointer_at (block_bytes disk (pointer_block disk inode block)) at
pointed disk inode zero at lt = in_run disk inode zero at lt
pointed disk inode (suc zero) at lt = refl
pointed disk inode (suc (suc block)) at lt = in_run disk inode (suc block) at lt

pub has_led : (size block at : ℕ) → leads_to block at < data_blocks size → HasPlace size (place_led block at)
has_led size zero at lt = omega (arith, lt)
has_led size (suc zero) at lt = has_run size (suc at) (omega (arith, lt))
has_led size (suc (suc block)) at lt = omega (arith, lt)

-- where all that a size needs is for files, and all else 0, each is a pointer as the size has it
pub pointers_are : (blocks : ℕ) (disk : List (List ℕ)) (inode : Inode) → ((place : Place) → HasPlace inode.size place → IsForFiles blocks (named_at disk inode place))
    → ((block at : ℕ) → block < pointer_blocks inode.size → at < 256 → data_blocks inode.size ≤ leads_to block at → pointer_at (block_bytes disk (pointer_block disk inode block)) at ≡ 0)
    → (block at : ℕ) → block < pointer_blocks inode.size → at < 256 → IsPointer blocks (needs_pointer inode.size block at) (pointer_at (block_bytes disk (pointer_block disk inode block)) at)
pointers_are blocks disk inode files rest block at has lt =
    let pointer : ℕ = pointer_at (block_bytes disk (pointer_block disk inode block)) at in
    elim (cases_lt (leads_to block at * block_size) inode.size) [
      | inl needed ↦
          let there : IsForFiles blocks pointer = subst (IsForFiles blocks) (pointed disk inode block at lt) (files (place_led block at) (has_led inode.size block at (omega (arith, needed)))) in
          subst (λ (b : Bool). IsPointer blocks b pointer) (sym (lt-ltb (leads_to block at * block_size) inode.size needed)) there
      | inr past ↦
          let none : pointer ≡ 0 = rest block at has lt (omega (arith, past)) in
          subst (λ (b : Bool). IsPointer blocks b pointer) (sym (le-ltb (leads_to block at * block_size) inode.size past)) none
    ]

-- what a size doesn't need is 0
pub unneeded : (disk : List (List ℕ)) → Sound disk → (node : ℕ) (inode : Inode) (block at : ℕ) → HasInode disk node inode → block < pointer_blocks inode.size → at < 256 → data_blocks inode.size ≤ leads_to block at
    → pointer_at (block_bytes disk (pointer_block disk inode block)) at ≡ 0
unneeded disk sound node inode block at has within lt past =
    let pointer : ℕ = pointer_at (block_bytes disk (pointer_block disk inode block)) at in
    subst (λ (b : Bool). IsPointer (length disk) b pointer) (le-ltb (leads_to block at * block_size) inode.size (omega (arith, past))) (sound.pointers node inode block at has within lt)
