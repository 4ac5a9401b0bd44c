-- The way to a run of pointers: which block has it, and what is asked for to find it.
use Rattle.std.proofs.Common.{◌≡◌, ℕ, zero, suc, ◌-◌, ◌%◌, ◌<◌, ◌≤◌, Some, eqb, cond, List, [], ◌∷◌, map, refl, sym, ap, subst, ◌∙◌, arith}
use Rattle.std.specs.Prelude.{slice_get}
use Rattle.std.proofs.lemmas.Bool.{cond-false, ne_eqb}
use Rattle.kabi_types.specs.declared.inodes.Inode.{Inode}
use Rattle.posix_defs.specs.Asking.{AskedInTurn}
use Rattle.posix_defs.specs.SoundDisk.{block_bytes, pointer_at, pointer_block, block_of_run, run_of, on_way, Data, named_at}
use Rattle.disk_laws.proofs.FreeBlocks.{behind_at}
use Rattle.blk_map.proofs.Blocks.{got}

-- the double block names the blocks of all runs but the first
pub further_run : (disk : List (List ℕ)) (inode : Inode) (run : ℕ) → 0 < run → pointer_block disk inode (block_of_run run) ≡ pointer_at (block_bytes disk inode.double) (run - 1)
further_run disk inode zero pos = absurd (omega (arith, pos))
further_run disk inode (suc run) pos = ap (pointer_at (block_bytes disk inode.double)) (omega arith)

pub block_found : (disk between : List (List ℕ)) (inode : Inode) (index block : ℕ) (bytes : List ℕ) (found : ℕ) → 10 ≤ index → between ≡ disk → block ≡ pointer_block disk inode (block_of_run (run_of index))
    → slice_get between block ≡ Some bytes → found ≡ pointer_at bytes ((index - 10) % 256) → found ≡ named_at disk inode (Data index)
block_found disk between inode index block bytes found past kept is read value =
    let at : ℕ = (index - 10) % 256 in
    value ∙ ap (λ (b : List ℕ). pointer_at b at) (sym (got between block bytes read)) ∙ ap (λ (d : List (List ℕ)). pointer_at (block_bytes d block) at) kept
    ∙ ap (λ (n : ℕ). pointer_at (block_bytes disk n) at) is ∙ sym (behind_at disk inode index past)

-- ---- what is asked for

further_asks : (run double : ℕ) → 0 < run → cond (eqb run 0) [] (double ∷ []) ≡ double ∷ []
further_asks run double pos = cond-false (eqb run 0) [] (double ∷ []) (ne_eqb run 0 (λ e. omega (arith, e, pos)))

pub asked_none : {Thing : Type 0} (asked : Thing → ℕ → Thing → Type 0) (run double : ℕ) (before : Thing) → run ≡ 0 → AskedInTurn asked before (cond (eqb run 0) [] (double ∷ [])) before
asked_none asked run double before e = subst (λ (r : ℕ). AskedInTurn asked before (cond (eqb r 0) [] (double ∷ [])) before) (sym e) refl

pub asked_double : {Thing : Type 0} (asked : Thing → ℕ → Thing → Type 0) (run double : ℕ) (before after : Thing) → 0 < run → asked before double after → AskedInTurn asked before (cond (eqb run 0) [] (double ∷ [])) after
asked_double asked run double before after pos is = subst (λ (l : List ℕ). AskedInTurn asked before l after) (sym (further_asks run double pos)) (after, is, refl)

pub asked_way : {Thing : Type 0} (asked : Thing → ℕ → Thing → Type 0) (disk : List (List ℕ)) (inode : Inode) (run block : ℕ) (before between after : Thing)
    → AskedInTurn asked before (cond (eqb run 0) [] (inode.double ∷ [])) between → block ≡ pointer_block disk inode (block_of_run run) → asked between block after
    → AskedInTurn asked before (map (λ there. named_at disk inode there) (on_way run)) after
asked_way {Thing} asked disk inode zero block before between after first is last =
    (after, subst (λ (x : Thing). asked x inode.indirect after) first (subst (λ (n : ℕ). asked between n after) is last), refl)
asked_way {Thing} asked disk inode (suc run) block before between after first is last =
    let double : AskedInTurn asked before (inode.double ∷ []) between = subst (λ (l : List ℕ). AskedInTurn asked before l between) (further_asks (suc run) inode.double (omega arith)) first in
    (double.0, double.1, (after, subst (λ (n : ℕ). asked double.0 n after) is (subst (λ (x : Thing). asked x block after) double.2 last), refl))
