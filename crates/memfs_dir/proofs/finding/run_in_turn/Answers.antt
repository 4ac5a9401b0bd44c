use Rattle.std.proofs.Common.{◌≡◌, ◌≢◌, ℕ, ◌+◌, ◌-◌, ◌*◌, ◌/◌, ◌<◌, ◌≤◌, List, [], ◌∷◌, cond, eqb, length, get_or, refl, sym, ap, subst, ◌∙◌, arith}
use Rattle.std.proofs.lemmas.Bool.{cond-true, cond-false, eq-eqb, ne_eqb}
use Rattle.posix_defs.specs.Asking.{AskedInTurn}
use Rattle.posix_defs.specs.SoundDisk.{block_bytes, block_of_run, pointer_at, pointer_block, Pointers}
use Rattle.disk_laws.proofs.FreeBlocks.{named_is_for_files}
use Rattle.blk_map.proofs.Blocks.{got}
use Rattle.blk_map.proofs.Ways.{further_run}
use Rattle.memfs_dir.proofs.finding.run_in_turn.Goals.{then-run-eq1, else-run-eq1}
use Rattle.memfs_dir.proofs.finding.run_in_turn.Goals as goal

pub returns-then-run-eq0-clause-value : goal.returns-then-run-eq0-clause-value
returns-then-run-eq0-clause-value g c = ap (λ (run : ℕ). pointer_block (g.B.Blocks.blocks c.args.b.now) c.args.inode.now (block_of_run run)) (sym c.if-run-eq0.true)

pub returns-then-run-eq0-clause-asked : goal.returns-then-run-eq0-clause-asked
returns-then-run-eq0-clause-asked g c =
    let none = cond-false (eqb c.args.run 1) (c.args.inode.now.double ∷ []) [] (ne_eqb c.args.run 1 (λ e. omega (arith, e, c.if-run-eq0.true))) in
    subst (λ (l : List ℕ). AskedInTurn g.B.Blocks.asked c.args.b.now l c.args.b.now) (sym none) refl

-- the node has a double block
pub get-requires : goal.get-requires
get-requires g c =
    let disk : List (List ℕ) = g.B.Blocks.blocks c.args.b.now in
    (named_is_for_files disk c.requires.sound c.requires.node.0 c.args.inode.now (Pointers 1) c.requires.node.1.0 (omega (arith, c.requires.within, c.if-run-eq0.false))).1

pub returns-clause-double : goal.returns-clause-double
returns-clause-double g c = λ past k lt.
    let disk : List (List ℕ) = g.B.Blocks.blocks c.args.b.now in
    elim c.if-run-eq1.branch [
      | then-run-eq1 w ↦
          ap (λ (pointers : List ℕ). get_or pointers k 0) w.double-is ∙ w.pointers_in.ensures k lt
          ∙ ap (λ (bytes : List ℕ). pointer_at bytes k) (sym (got disk c.args.inode.now.double w.get.result w.get.ensures.value))
      | else-run-eq1 w ↦ ap (λ (pointers : List ℕ). get_or pointers k 0) w.double-is ∙ c.requires.double (omega (arith, w.if-run-eq1.false, c.if-run-eq0.false)) k lt
    ]

pub returns-clause-value : goal.returns-clause-value
returns-clause-value g c =
    let disk : List (List ℕ) = g.B.Blocks.blocks c.args.b.now in
    let few : c.args.run ≤ 256 = within c.args.run c.args.inode.now.size c.requires.within c.requires.node.1.0.valid.kind.size in
    let some : 0 < c.args.run = omega (arith, c.if-run-eq0.false) in
    returns-clause-double g c (omega (arith, some)) (c.args.run - 1) (omega (arith, few, some)) ∙ sym (further_run disk c.args.inode.now c.args.run some)
  where
    within : (run size : ℕ) → 10 + 256 * run < (size + 1023) / 1024 → size ≤ 1024 * 65802 → run ≤ 256
    within run size lt most = omega (arith, lt, most)
