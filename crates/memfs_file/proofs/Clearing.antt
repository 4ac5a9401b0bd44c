-- Zeros that are written behind the bytes of a file.
use Rattle.std.proofs.Common.{◌≡◌, ◌≢◌, ℕ, ◌+◌, ◌-◌, ◌%◌, ◌<◌, min, inl, inr, List, length, take, replicate, ◌∙◌, arith, length-take}
use Rattle.std.proofs.lemmas.List.{get_or-take, get_or-replicate, length-replicate}
use Rattle.kabi_types.specs.declared.inodes.Inode.{Inode}
use Rattle.posix_defs.specs.DiskFormat.{block_size}
use Rattle.memfs_file.specs.FileChange.{Puts, Clears}

pub cleared : (number : ℕ) (before : List (List ℕ)) (inode : Inode) (from to count : ℕ) (after : List (List ℕ)) → from % block_size ≢ 0 → from < to → count ≡ min (block_size - from % block_size) (to - from)
    → Puts number before inode from (take count (replicate block_size 0)) after → Clears number before inode from to after
cleared number before inode from to count after inside gap count_is puts =
    let bytes : List ℕ = take count (replicate block_size 0) in
    let len : length bytes ≡ count = omega (arith, length-take count (replicate {A = ℕ} block_size 0), length-replicate {A = ℕ} block_size 0, count_is) in
    record {
      changes = puts.changes;
      has = puts.has;
      map = puts.map;
      free = puts.free;
      zero = λ place le lt last.
          let here : place < from + count = omega (arith, le, lt, last, inside, count_is) in
          puts.new place le (omega (arith, here, len)) ∙ get_or-take count (replicate {A = ℕ} block_size 0) (place - from) 0 (omega (arith, le, here)) ∙ get_or-replicate block_size (place - from) 0 0 (omega (arith, le, here, count_is));
      rest = λ place lt off. puts.rest place lt (elim off [
        | inl front ↦ inl front
        | inr past ↦ elim past [
          | inl behind ↦ inr (omega (arith, behind, len, count_is))
          | inr further ↦ inr (omega (arith, further, len, count_is, inside))
        ]
      ]);
    }
