-- How long a file is after a write or a change of its size, and how many bytes so many blocks hold.
use Rattle.std.proofs.Common.{◌≡◌, ℕ, ◌+◌, ◌-◌, ◌*◌, ◌/◌, ◌^◌, ◌<◌, ◌≤◌, List, ◌++◌, length, min, take, drop, replicate, arith, length-append, length-drop, length-take}
use Rattle.std.specs.List.{All}
use Rattle.std.proofs.lemmas.List.{length-replicate}
use Rattle.std.proofs.lemmas.List.Elements.{All-append, All-take, All-drop, All-replicate}
use Rattle.posix_defs.specs.DiskFormat.{greatest_size, data_blocks, pointers_beside, blocks_of}
use Rattle.posix_defs.specs.FileBytes.{resized, overwritten, held_blocks, capacity}

pub length-resized : (size : ℕ) (bytes : List ℕ) → length (resized size bytes) ≡ size
length-resized size bytes =
    omega (arith, length-append (take size bytes) (replicate (size - length bytes) 0), length-take size bytes, length-replicate {A = ℕ} (size - length bytes) 0)

pub length-overwritten : (at : ℕ) (new old : List ℕ) → length (overwritten at new old) ≡ at + length new + (length old - (at + length new))
length-overwritten at new old =
    omega (arith, length-append (resized at old ++ new) (drop (at + length new) old), length-append (resized at old) new, length-resized at old, length-drop (at + length new) old)

pub bytes_resized : (size : ℕ) (bytes : List ℕ) → All (λ byte. byte < 2 ^ 8) bytes → All (λ byte. byte < 2 ^ 8) (resized size bytes)
bytes_resized size bytes are =
    let P : ℕ → Type 0 = λ byte. byte < 2 ^ 8 in
    All-append P (take size bytes) (replicate (size - length bytes) 0) (All-take P size bytes are) (All-replicate P (size - length bytes) 0 (omega arith))

pub bytes_overwritten : (at : ℕ) (new old : List ℕ) → All (λ byte. byte < 2 ^ 8) new → All (λ byte. byte < 2 ^ 8) old → All (λ byte. byte < 2 ^ 8) (overwritten at new old)
bytes_overwritten at new old are_new are =
    let P : ℕ → Type 0 = λ byte. byte < 2 ^ 8 in
    All-append P (resized at old ++ new) (drop (at + length new) old) (All-append P (resized at old) new (bytes_resized at old are) are_new) (All-drop P (at + length new) old are)

-- ---- how much so many blocks hold

-- so many blocks of bytes go into so many in all, with those of pointers
held_fits : (held blocks : ℕ) → held ≤ held_blocks blocks → held + pointers_beside held ≤ blocks
held_fits held blocks le = omega (arith, le)

fits_held : (held blocks : ℕ) → held + pointers_beside held ≤ blocks → held ≤ held_blocks blocks
fits_held held blocks le = omega (arith, le)

-- what fits takes no more blocks
pub capacity_fits : (blocks size : ℕ) → size ≤ capacity blocks → blocks_of size ≤ blocks
capacity_fits blocks size le = held_fits (data_blocks size) blocks (whole size (held_blocks blocks) (omega (arith, le)))
  where
    whole : (size held : ℕ) → size ≤ 1024 * held → data_blocks size ≤ held
    whole size held le = omega (arith, le)

-- and what takes no more blocks fits
pub fits_capacity : (blocks size : ℕ) → size ≤ greatest_size → blocks_of size ≤ blocks → size ≤ capacity blocks
fits_capacity blocks size most le = both size (held_blocks blocks) most (fits_held (data_blocks size) blocks le)
  where
    both : (size held : ℕ) → size ≤ greatest_size → data_blocks size ≤ held → size ≤ min greatest_size (1024 * held)
    both size held most le = omega (arith, most, le)
