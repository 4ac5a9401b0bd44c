-- Blocks that are asked for one after another.
use Rattle.std.proofs.Common.{◌≡◌, ℕ, ◌+◌, ◌-◌, ◌≤◌, List, [], ◌∷◌, ◌++◌, map, refl, sym, ap, subst, ◌∙◌, arith}
use Rattle.std.specs.List.{range_with_len}
use Rattle.std.proofs.lemmas.List.FromFn.{map-range_with_len_more}
use Rattle.kabi_types.specs.declared.inodes.Inode.{Inode}
use Rattle.posix_defs.specs.Asking.{AskedInTurn}
use Rattle.posix_defs.specs.DiskContents.{data_block}
use Rattle.memfs_file.specs.Ranges.{blocks_between}

pub asked_append : {Thing Question : Type 0} (asked : Thing → Question → Thing → Type 0) (first second third : Thing) (xs ys : List Question)
    → AskedInTurn asked first xs second → AskedInTurn asked second ys third → AskedInTurn asked first (xs ++ ys) third
asked_append {Thing} {Question} asked first second third [] ys none rest = subst (λ (thing : Thing). AskedInTurn asked thing ys third) none rest
asked_append {Thing} {Question} asked first second third (x ∷ xs) ys one rest = (one.0, one.1, asked_append asked one.0 second third xs ys one.2 rest)

pub asked_one_more : {Thing : Type 0} (asked : Thing → ℕ → Thing → Type 0) (first second third : Thing) (disk : List (List ℕ)) (inode : Inode) (from to : ℕ) → from ≤ to
    → AskedInTurn asked first (blocks_between disk inode from to) second → asked second (data_block disk inode to) third → AskedInTurn asked first (blocks_between disk inode from (to + 1)) third
asked_one_more {Thing} asked first second third disk inode from to le before now =
    let name : ℕ → ℕ = λ index. data_block disk inode index in
    let more : blocks_between disk inode from (to + 1) ≡ blocks_between disk inode from to ++ name to ∷ [] =
    (let count : to + 1 - from ≡ to - from + 1 = omega (arith, le) in ap (λ (n : ℕ). map name (range_with_len from n)) count) ∙ map-range_with_len_more name from (to - from) to (omega (arith, le))
    in
    subst (λ (blocks : List ℕ). AskedInTurn asked first blocks third) (sym more) (asked_append asked first second third (blocks_between disk inode from to) (name to ∷ []) before (third, now, refl))
