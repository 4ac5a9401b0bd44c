use Rattle.std.proofs.Common.{◌≡◌, ◌≢◌, ℕ, ◌+◌, ◌-◌, ◌*◌, ◌%◌, ◌<◌, ◌≤◌, inl, inr, List, length, get_or, sym, ap, subst, ◌∙◌, arith}
use Rattle.posix_defs.specs.Asking.{AskedInTurn}
use Rattle.posix_defs.specs.SoundDisk.{block_bytes, block_of_run, run_of, Data, Pointers, pointer_at, pointer_block}
use Rattle.posix_defs.specs.DiskContents.{data_block}
use Rattle.disk_laws.proofs.FreeBlocks.{named_is_for_files, behind_at, has_way}
use Rattle.blk_map.proofs.Blocks.{got}
use Rattle.memfs_dir.specs.Looking.{blocks_at, entered}
use Rattle.memfs_dir.proofs.Found.{asked_for_none, asked_for_run}
use Rattle.memfs_dir.proofs.finding.block_in_turn.Goals.{then-place-eq0, else-place-eq0}
use Rattle.memfs_dir.proofs.finding.block_in_turn.Goals as goal

pub returns-then-index-lt-DIRECT_POINTERS-clause-asked : goal.returns-then-index-lt-DIRECT_POINTERS-clause-asked
returns-then-index-lt-DIRECT_POINTERS-clause-asked g c =
    asked_for_none g.B.Blocks.asked (g.B.Blocks.blocks c.args.b.now) c.args.inode.now c.args.index c.args.b.now (inl c.if-index-lt-DIRECT_POINTERS.true)

pub run_in_turn-number-requires-clause-within : goal.run_in_turn-number-requires-clause-within
run_in_turn-number-requires-clause-within g c = omega (arith, c.run_of.ensures, c.if-index-lt-DIRECT_POINTERS.false, c.if-place-eq0.true, c.requires.within)

pub run_in_turn-number-requires-clause-double : goal.run_in_turn-number-requires-clause-double
run_in_turn-number-requires-clause-double g c = λ past k lt. c.requires.double (omega (arith, past, c.run_of.ensures, c.if-index-lt-DIRECT_POINTERS.false, c.if-place-eq0.true)) k lt

-- the block of the run
pub get-requires : goal.get-requires
get-requires g c =
    let disk : List (List ℕ) = g.B.Blocks.blocks c.args.b.now in
    let inode = c.args.inode.now in
    let past : 10 ≤ c.args.index = omega (arith, c.if-index-lt-DIRECT_POINTERS.false) in
    let number : c.run_in_turn-number.result ≡ pointer_block disk inode (block_of_run (run_of c.args.index)) = c.run_in_turn-number.ensures.value ∙ ap (λ (n : ℕ). pointer_block disk inode (block_of_run n)) c.run_of.ensures in
    let files = named_is_for_files disk c.requires.sound c.requires.node.0 inode (Pointers (block_of_run (run_of c.args.index))) c.requires.node.1.0 (has_way inode.size c.args.index past c.requires.within) in
    omega (arith, number, files.1, ap length c.run_in_turn-number.ensures.kept)

pub returns-clause-pointers : goal.returns-clause-pointers
returns-clause-pointers g c = λ past k lt.
    let disk : List (List ℕ) = g.B.Blocks.blocks c.args.b.now in
    let inode = c.args.inode.now in
    let index : ℕ = c.args.index in
    let back : index + 1 - 1 ≡ index = omega arith in
    let at : ℕ → ℕ = λ n. pointer_at (block_bytes disk (pointer_block disk inode (block_of_run (run_of n)))) k in
    elim c.if-place-eq0.branch [
      | then-place-eq0 w ↦
          let number : w.run_in_turn-number.result ≡ pointer_block disk inode (block_of_run (run_of index)) = w.run_in_turn-number.ensures.value ∙ ap (λ (n : ℕ). pointer_block disk inode (block_of_run n)) w.run_of.ensures in
          ap (λ (pointers : List ℕ). get_or pointers k 0) w.pointers-is ∙ w.pointers_in.ensures k lt
          ∙ ap (λ (bytes : List ℕ). pointer_at bytes k) (sym (got (g.B.Blocks.blocks w.run_in_turn-number.new.b) w.run_in_turn-number.result w.get.result w.get.ensures.value))
          ∙ ap (λ (d : List (List ℕ)). pointer_at (block_bytes d w.run_in_turn-number.result) k) w.run_in_turn-number.ensures.kept
          ∙ ap (λ (n : ℕ). pointer_at (block_bytes disk n) k) number ∙ ap at (sym back)
      | else-place-eq0 w ↦
          let inside : (index - 10) % 256 ≢ 0 = λ e. omega (arith, e, w.if-place-eq0.false) in
          let same : run_of (index - 1) ≡ run_of index = omega (arith, inside) in
          ap (λ (pointers : List ℕ). get_or pointers k 0) w.pointers-is ∙ c.requires.pointers (omega (arith, past, inside)) k lt
          ∙ ap (λ (n : ℕ). pointer_at (block_bytes disk (pointer_block disk inode (block_of_run n))) k) same ∙ ap at (sym back)
    ]

pub returns-clause-double : goal.returns-clause-double
returns-clause-double g c = λ past k lt.
    let index : ℕ = c.args.index in
    elim c.if-place-eq0.branch [
      | then-place-eq0 w ↦
          ap (λ (double : List ℕ). get_or double k 0) w.double-is
          ∙ w.run_in_turn-number.ensures.double (omega (arith, past, w.run_of.ensures, w.if-place-eq0.true, c.if-index-lt-DIRECT_POINTERS.false)) k lt
      | else-place-eq0 w ↦
          let inside : (index - 10) % 256 ≢ 0 = λ e. omega (arith, e, w.if-place-eq0.false) in
          ap (λ (double : List ℕ). get_or double k 0) w.double-is ∙ c.requires.double (omega (arith, past, inside)) k lt
    ]

pub returns-clause-value : goal.returns-clause-value
returns-clause-value g c =
    let disk : List (List ℕ) = g.B.Blocks.blocks c.args.b.now in
    let inode = c.args.inode.now in
    let index : ℕ = c.args.index in
    let place : ℕ = (index - 10) % 256 in
    let past : 10 ≤ index = omega (arith, c.if-index-lt-DIRECT_POINTERS.false) in
    let back : index + 1 - 1 ≡ index = omega arith in
    returns-clause-pointers g c (omega (arith, past)) place (omega arith)
    ∙ ap (λ (n : ℕ). pointer_at (block_bytes disk (pointer_block disk inode (block_of_run (run_of n)))) place) back ∙ sym (behind_at disk inode index past)

pub returns-clause-on_disk : goal.returns-clause-on_disk
returns-clause-on_disk g c =
    let disk : List (List ℕ) = g.B.Blocks.blocks c.args.b.now in
    let node = c.requires.node.1.0 in
    subst (λ (n : ℕ). n < length disk) (sym (returns-clause-value g c)) (named_is_for_files disk c.requires.sound c.requires.node.0 c.args.inode.now (Data c.args.index) node c.requires.within).1

pub returns-clause-asked : goal.returns-clause-asked
returns-clause-asked g c =
    let disk : List (List ℕ) = g.B.Blocks.blocks c.args.b.now in
    let inode = c.args.inode.now in
    let index : ℕ = c.args.index in
    elim c.if-place-eq0.branch [
      | then-place-eq0 w ↦
          let run : ℕ = w.run_of.result in
          let starts : index ≡ 10 + 256 * run = omega (arith, w.run_of.ensures, w.if-place-eq0.true, c.if-index-lt-DIRECT_POINTERS.false) in
          subst (λ thing. AskedInTurn g.B.Blocks.asked c.args.b.now (blocks_at disk inode (entered index)) thing) (sym w.b-is)
          (asked_for_run g.B.Blocks.asked disk inode run index w.run_in_turn-number.result c.args.b.now w.run_in_turn-number.new.b w.get.new.self starts w.run_in_turn-number.ensures.value
          w.run_in_turn-number.ensures.asked w.get.ensures.asked)
      | else-place-eq0 w ↦
          let inside : (index - 10) % 256 ≢ 0 = λ e. omega (arith, e, w.if-place-eq0.false) in
          subst (λ thing. AskedInTurn g.B.Blocks.asked c.args.b.now (blocks_at disk inode (entered index)) thing) (sym w.b-is) (asked_for_none g.B.Blocks.asked disk inode index c.args.b.now (inr inside))
    ]
