-- What calls take of the free blocks, one after the other.
use Rattle.std.proofs.Common.{◌≡◌, ◌≢◌, ℕ, inl, inr, List, length, sym, ap, ◌∙◌, subst, arith}
use Rattle.std.proofs.lemmas.Bool.{cases_eq}
use Rattle.posix_defs.specs.DiskTree.{ChangesNode}
use Rattle.posix_defs.specs.SoundDisk.{block_bytes, bit_of, map_bit, IsFreeBlock, IsMarked, Sound}
use Rattle.disk_laws.proofs.OthersStay.{what_is_taken_stays}
use Rattle.blk_map.specs.Named.{FreesNone, PrefersLowest, TakesLowest, TakesNone}

-- where the map is what it was nothing is taken and nothing is freed
pub same_takes_none : (before after : List (List ℕ)) → block_bytes after 0 ≡ block_bytes before 0 → TakesNone before after
same_takes_none before after same block is = sym (ap (λ (map : List ℕ). bit_of map block) same) ∙ is

pub same_frees_none : (before after : List (List ℕ)) → block_bytes after 0 ≡ block_bytes before 0 → FreesNone before after
same_frees_none before after same block is = ap (λ (map : List ℕ). bit_of map block) same ∙ is

pub none_then_none : (before between after : List (List ℕ)) → TakesNone before between → TakesNone between after → TakesNone before after
none_then_none before between after one two block is = one block (two block is)

pub none_is_lowest : (before after : List (List ℕ)) → TakesNone before after → TakesLowest before after
none_is_lowest before after none block other free marked left = absurd (free.1 (none block marked))

pub unchanged_is_lowest : (before after : List (List ℕ)) → after ≡ before → TakesLowest before after
unchanged_is_lowest before after same = none_is_lowest before after (same_takes_none before after (ap (λ (disk : List (List ℕ)). block_bytes disk 0) same))

-- what leaves all blocks as they are may come before a call, and behind it
pub lowest_then : (before between after : List (List ℕ)) → between ≡ before → TakesLowest between after → TakesLowest before after
lowest_then before between after same lowest = subst (λ (disk : List (List ℕ)). TakesLowest disk after) same lowest

pub lowest_until : (before between after : List (List ℕ)) → after ≡ between → TakesLowest before between → TakesLowest before after
lowest_until before between after same lowest = subst (λ (disk : List (List ℕ)). TakesLowest before disk) (sym same) lowest

pub none_then_lowest : (before between after : List (List ℕ)) → length between ≡ length before → TakesNone before between → TakesLowest between after → TakesLowest before after
none_then_lowest before between after count none lowest block other free marked left =
    lowest block other (omega (arith, free.0, count), λ is. free.1 (none block is)) marked left

-- the second of two calls frees nothing, so what the first left is left
pub lowest_then_lowest : (before between after : List (List ℕ)) → length between ≡ length before → length after ≡ length between
    → TakesLowest before between → FreesNone between after → TakesLowest between after → TakesLowest before after
lowest_then_lowest before between after count also first frees second block other free marked left =
    let left_then : IsFreeBlock between other = (omega (arith, left.0, also), λ is. left.1 (frees other is)) in
    elim (cases_eq (map_bit between block) 1) [
      | inl taken ↦ first block other free taken left_then
      | inr later ↦ second block other (omega (arith, free.0, count), later) marked left
    ]

-- ---- where blocks are given back, too

pub none_preferred : (before after : List (List ℕ)) → TakesNone before after → PrefersLowest before after
none_preferred before after none block other free marked was left = absurd (free.1 (none block marked))

pub unchanged_preferred : (before after : List (List ℕ)) → after ≡ before → PrefersLowest before after
unchanged_preferred before after same = none_preferred before after (same_takes_none before after (ap (λ (disk : List (List ℕ)). block_bytes disk 0) same))

pub preferred_then : (before between after : List (List ℕ)) → between ≡ before → PrefersLowest between after → PrefersLowest before after
preferred_then before between after same lowest = subst (λ (disk : List (List ℕ)). PrefersLowest disk after) same lowest

-- One node takes blocks, then another one gives some back, and then the map stays: what the first took it keeps.
pub taken_and_given : (before taken given after : List (List ℕ)) (one other : ℕ) → one ≢ other → Sound before → ChangesNode before taken one → ChangesNode taken given other
    → length after ≡ length given → TakesLowest before taken → TakesNone taken given → TakesNone given after → FreesNone given after → PrefersLowest before after
taken_and_given before taken given after one other apart sound first second count lowest none none_then frees block left free marked was still =
    let kept : IsMarked taken left → IsMarked after left = λ is. frees left (what_is_taken_stays before taken given one other apart sound first second left was is) in
    lowest block left free (none block (none_then block marked)) (omega (arith, still.0, count, first.blocks, second.blocks), λ is. still.1 (kept is))
