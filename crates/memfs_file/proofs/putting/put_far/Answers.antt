use Rattle.std.proofs.Common.{◌≡◌, ℕ, ◌+◌, ◌*◌, ◌-◌, ◌<◌, ◌≤◌, max, min, List, length, get_or, sym, ap, subst, ◌∙◌, arith}
use Rattle.posix_defs.specs.DiskFormat.{data_blocks}
use Rattle.posix_defs.specs.SoundDisk.{block_bytes, block_of_run, pointer_at, pointer_block, run_of, Pointers, HasNode, Sound}
use Rattle.disk_laws.proofs.FreeBlocks.{has_run, named_is_for_files}
use Rattle.blk_map.proofs.Blocks.{got}
use Rattle.blk_map.specs.Runs.{run_first, run_end}
use Rattle.memfs_file.specs.FileChange.{PutsPart}
use Rattle.memfs_file.proofs.Pointers.{few_blocks}
use Rattle.memfs_file.proofs.Runs.{Piece, piece, run_is_had, run_pointers, done_before, done_at_first, done_there, done_then, done_at_last}
use Rattle.memfs_file.proofs.Written.{none_put, put_then}
use Rattle.memfs_file.proofs.putting.put_far.Goals as goal

-- the node has a double block
pub get-requires : goal.get-requires
get-requires g c =
    let disk : List (List ℕ) = g.B.Blocks.blocks c.args.b.now in
    let inode = c.args.inode.now in
    let far : 266 < data_blocks inode.size = omega (arith, c.requires.far, c.requires.range.1, few_blocks (c.args.at + length c.args.bytes.now) inode.size c.requires.within) in
    (named_is_for_files disk c.requires.sound c.requires.node.0 inode (Pointers 1) c.requires.node.1.0 (omega (arith, far))).1

pub loop-run-init : goal.loop-run-init
loop-run-init g c =
    let base : List (List ℕ) = g.B.Blocks.blocks c.get.new.self in
    let inode = c.args.inode.now in
    let sound : Sound base = subst (λ (d : List (List ℕ)). Sound d) (sym c.get.ensures.kept) c.requires.sound in
    record {
      puts = λ number has.
          subst (λ (n : ℕ). PutsPart number base inode c.args.at c.args.bytes.now c.args.from n base) (sym (done_at_first c.args.from c.args.to c.run_of-run.result c.requires.some c.run_of-run.ensures)) (
          none_put number base inode c.args.at c.args.bytes.now c.args.from sound has.0
          );
      follows = g.met.B.Blocks.follows_refl c.get.new.self;
    }

-- the pointers of the double block
pub pointers_of-pointers-requires : goal.pointers_of-pointers-requires
pointers_of-pointers-requires g c =
    let inode = c.args.inode.now in
    omega (arith, c.run_of-run-end.ensures, c.requires.range.1, few_blocks (c.args.at + length c.args.bytes.now) inode.size c.requires.within, c.requires.node.1.0.valid.kind.size)

pub put_run-requires : goal.put_run-requires
put_run-requires g c =
    let was : List (List ℕ) = g.B.Blocks.blocks c.args.b.now in
    let base : List (List ℕ) = g.B.Blocks.blocks c.get.new.self in
    let disk : List (List ℕ) = g.B.Blocks.blocks c.loop-run.b in
    let inode = c.args.inode.now in
    let number : ℕ = c.requires.node.0 in
    let run : ℕ = c.loop-run.run in
    let low : run_of c.args.from ≤ run = omega (arith, c.run_of-run.ensures, c.loop-run.auto.run) in
    let high : run ≤ run_of (c.args.to - 1) = omega (arith, c.run_of-run-end.ensures) in
    let first : c.max-first.result ≡ max c.args.from (run_first run) = omega (arith, c.max-first.ensures, c.run_first.ensures) in
    let end : c.min-end.result ≡ min c.args.to (run_end run) = omega (arith, c.min-end.ensures, c.run_start.ensures) in
    let p : Piece c.args.from c.args.to run c.max-first.result c.min-end.result = piece c.args.from c.args.to run c.max-first.result c.min-end.result c.requires.some low high first end in
    let puts = c.loop-run.invariant.puts number (subst (λ (d : List (List ℕ)). HasNode d number inode) (sym c.get.ensures.kept) c.requires.node.1) in
    let few : run ≤ 256 = omega (arith, high, c.run_of-run-end.ensures, c.requires.range.1, few_blocks (c.args.at + length c.args.bytes.now) inode.size c.requires.within, c.requires.node.1.0.valid.kind.size) in
    let names : (k : ℕ) → k < 256 → get_or c.pointers_in-double.result k 0 ≡ pointer_at (block_bytes was inode.double) k = λ k lt. c.pointers_in-double.ensures k lt ∙ ap (λ (bytes : List ℕ). pointer_at bytes k) (sym (got was inode.double c.get.result c.get.ensures.value)) in
    let named : c.pointers_of-pointers.result ≡ pointer_block was inode (block_of_run run) = run_pointers was inode c.pointers_in-double.result run c.pointers_of-pointers.result few names c.pointers_of-pointers.ensures in
    let within : c.args.to ≤ data_blocks inode.size = omega (arith, c.requires.range.1, few_blocks (c.args.at + length c.args.bytes.now) inode.size c.requires.within) in
    let large : 10 + 256 * run < data_blocks inode.size = run_is_had run c.args.to (data_blocks inode.size) c.requires.far high within in
    let still : pointer_block disk inode (block_of_run run) ≡ pointer_block base inode (block_of_run run) = puts.names (Pointers (block_of_run run)) (has_run inode.size run large) in
    record {
      sound = puts.changes.sound;
      node = (number, (puts.has, c.requires.node.1.1));
      some = p.some;
      run = omega (arith, p.ends, p.in_run);
      pointers = named ∙ ap (λ (d : List (List ℕ)). pointer_block d inode (block_of_run run)) (sym c.get.ensures.kept) ∙ sym still ∙ ap (λ (r : ℕ). pointer_block disk inode (block_of_run r)) (sym p.in_run);
      range = (omega (arith, c.requires.range.0, p.low), omega (arith, c.requires.range.1, p.high));
      within = c.requires.within;
    }

pub loop-run-preserved : goal.loop-run-preserved
loop-run-preserved g c =
    let base : List (List ℕ) = g.B.Blocks.blocks c.get.new.self in
    let disk : List (List ℕ) = g.B.Blocks.blocks c.loop-run.b in
    let after : List (List ℕ) = g.B.Blocks.blocks c.put_run.new.b in
    let inode = c.args.inode.now in
    let run : ℕ = c.loop-run.run in
    let from : ℕ = c.args.from in
    let to : ℕ = c.args.to in
    let low : run_of from ≤ run = omega (arith, c.run_of-run.ensures, c.loop-run.auto.run) in
    let high : run ≤ run_of (to - 1) = omega (arith, c.run_of-run-end.ensures) in
    let first : c.max-first.result ≡ max from (run_first run) = omega (arith, c.max-first.ensures, c.run_first.ensures) in
    let end : c.min-end.result ≡ min to (run_end run) = omega (arith, c.min-end.ensures, c.run_start.ensures) in
    let p : Piece from to run c.max-first.result c.min-end.result = piece from to run c.max-first.result c.min-end.result c.requires.some low high first end in
    record {
      puts = λ number has.
          let sofar : PutsPart number base inode c.args.at c.args.bytes.now from c.max-first.result disk =
          subst (λ (n : ℕ). PutsPart number base inode c.args.at c.args.bytes.now from n disk) (done_there from to run c.max-first.result c.requires.some high first) (c.loop-run.invariant.puts number has) in
          let more : PutsPart number disk inode c.args.at c.args.bytes.now c.max-first.result c.min-end.result after = c.put_run.ensures.puts number (sofar.has, has.1) in
          subst (λ (n : ℕ). PutsPart number base inode c.args.at c.args.bytes.now from n after) (sym (done_then from to run c.min-end.result c.requires.some low end)) (
          put_then number base disk after inode c.args.at c.args.bytes.now from c.max-first.result c.min-end.result p.low (omega (arith, p.some)) c.requires.within sofar more
          );
      follows = g.met.B.Blocks.follows_trans c.get.new.self c.loop-run.b c.put_run.new.b c.loop-run.invariant.follows c.put_run.ensures.follows;
    }

pub returns-clause-puts : goal.returns-clause-puts
returns-clause-puts g c = λ number has.
    let base : List (List ℕ) = g.B.Blocks.blocks c.get.new.self in
    let now : List (List ℕ) = g.B.Blocks.blocks c.loop-run.b in
    let inode = c.args.inode.now in
    let last : c.loop-run.run ≡ run_of (c.args.to - 1) + 1 = omega (arith, c.run_of-run-end.ensures) in
    let there : HasNode base number inode = subst (λ (d : List (List ℕ)). HasNode d number inode) (sym c.get.ensures.kept) has in
    subst (λ (d : List (List ℕ)). PutsPart number d inode c.args.at c.args.bytes.now c.args.from c.args.to now) c.get.ensures.kept (
    subst (λ (n : ℕ). PutsPart number base inode c.args.at c.args.bytes.now c.args.from n now) (done_at_last c.args.from c.args.to c.loop-run.run last) (c.loop-run.invariant.puts number there)
    )
