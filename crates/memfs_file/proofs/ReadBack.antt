-- What is read of a file after it was written or got another size.
use Rattle.std.proofs.Common.{◌≡◌, ℕ, ◌+◌, ◌<◌, ◌≤◌, ◌⊎◌, inl, inr, List, length, get_or, take, drop, ap, ◌∙◌, arith}
use Rattle.std.proofs.lemmas.List.{get_or_past}
use Rattle.kabi_types.specs.declared.inodes.Inode.{Inode}
use Rattle.posix_defs.specs.FileBytes.{overwritten, resized}
use Rattle.posix_defs.specs.DiskContents.{node_bytes}
use Rattle.tree_laws.proofs.FileBytesLaws.{written_back, written_before, written_behind, resized_at}
use Rattle.memfs_file.specs.FileChange.{Rewrites}
use Rattle.memfs_file.proofs.Bytes.{bytes_len}

module _ (disk after : List (List ℕ)) (number at : ℕ) (bytes : List ℕ) (old new : Inode) (r : Rewrites number disk old (overwritten at bytes (node_bytes disk old)) after new) where
  pub read_back : take (length bytes) (drop at (node_bytes after new)) ≡ bytes
  read_back = ap (λ (xs : List ℕ). take (length bytes) (drop at xs)) r.holds ∙ written_back at bytes (node_bytes disk old)

  pub others_stay : (place : ℕ) → (place < at) ⊎ (at + length bytes ≤ place) → get_or (node_bytes after new) place 0 ≡ get_or (node_bytes disk old) place 0
  others_stay place off = ap (λ (xs : List ℕ). get_or xs place 0) r.holds ∙ elim off [
    | inl before ↦ written_before at bytes (node_bytes disk old) place before
    | inr behind ↦ written_behind at bytes (node_bytes disk old) place behind
  ]

  pub gap_is_zero : (place : ℕ) → old.size ≤ place → place < at → get_or (node_bytes after new) place 0 ≡ 0
  gap_is_zero place past before = others_stay place (inl before) ∙ get_or_past (node_bytes disk old) place 0 (omega (arith, bytes_len disk old, past))

module _ (disk after : List (List ℕ)) (number size : ℕ) (old new : Inode) (r : Rewrites number disk old (resized size (node_bytes disk old)) after new) where
  pub bytes_stay : (place : ℕ) → place < size → get_or (node_bytes after new) place 0 ≡ get_or (node_bytes disk old) place 0
  bytes_stay place lt = ap (λ (xs : List ℕ). get_or xs place 0) r.holds ∙ resized_at size (node_bytes disk old) place lt

  pub rest_is_zero : (place : ℕ) → old.size ≤ place → place < size → get_or (node_bytes after new) place 0 ≡ 0
  rest_is_zero place past lt = bytes_stay place lt ∙ get_or_past (node_bytes disk old) place 0 (omega (arith, bytes_len disk old, past))
