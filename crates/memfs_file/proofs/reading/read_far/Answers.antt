use Rattle.std.proofs.Common.{◌≡◌, ℕ, ◌+◌, ◌-◌, ◌*◌, ◌/◌, ◌<◌, ◌≤◌, ◌++◌, max, min, inl, inr, List, [], ◌∷◌, length, ltb, get_or, refl, sym, ap, subst, ◌∙◌, arith}
use Rattle.std.specs.List.{flat_map, range_with_len}
use Rattle.std.proofs.lemmas.Bool.{cond-true, lt-ltb}
use Rattle.posix_defs.specs.Asking.{AskedInTurn}
use Rattle.posix_defs.specs.DiskFormat.{block_size, data_blocks}
use Rattle.posix_defs.specs.SoundDisk.{block_bytes, block_of_run, pointer_at, pointer_block, run_of, Pointers, Sound}
use Rattle.posix_defs.specs.DiskContents.{byte_at}
use Rattle.disk_laws.proofs.FreeBlocks.{named_is_for_files}
use Rattle.blk_map.proofs.Blocks.{got}
use Rattle.blk_map.specs.Runs.{run_first, run_end}
use Rattle.memfs_file.specs.FileChange.{IsInUse}
use Rattle.memfs_file.specs.Ranges.{asked_in_run, blocks_between, double_for, pointers_for, runs_between}
use Rattle.memfs_file.proofs.Asking.{asked_append}
use Rattle.memfs_file.proofs.Pointers.{few_blocks}
use Rattle.memfs_file.proofs.Runs.{flat_more, Piece, piece, in_runs, run_pointers}
use Rattle.memfs_file.proofs.reading.read_far.Goals as goal

-- the node has a double block
pub get-requires : goal.get-requires
get-requires g c =
    let disk : List (List ℕ) = g.B.Blocks.blocks c.args.b.now in
    let inode = c.args.inode.now in
    let far : 266 < data_blocks inode.size = omega (arith, c.requires.far, c.requires.range.1, few_blocks (c.args.at + length c.args.out.now) inode.size c.requires.within) in
    (named_is_for_files disk c.requires.sound c.requires.node.0 inode (Pointers 1) c.requires.node.1.0 (omega (arith, far))).1

-- nothing is asked for at first
nothing_asked : {Thing : Type 0} (asked : Thing → ℕ → Thing → Type 0) (thing : Thing) (f : ℕ → List ℕ) (run first : ℕ) → run ≡ first → AskedInTurn asked thing (flat_map f (range_with_len first (run - first))) thing
nothing_asked {Thing} asked thing f run first same =
    let none : run - first ≡ 0 = omega (arith, same) in
    subst (λ (n : ℕ). AskedInTurn asked thing (flat_map f (range_with_len first n)) thing) (sym none) refl

-- a run more is asked for
run_asked : {Thing : Type 0} (asked : Thing → ℕ → Thing → Type 0) (first second third : Thing) (f : ℕ → List ℕ) (from run : ℕ) → from ≤ run
    → AskedInTurn asked first (flat_map f (range_with_len from (run - from))) second → AskedInTurn asked second (f run) third → AskedInTurn asked first (flat_map f (range_with_len from (run + 1 - from))) third
run_asked {Thing} asked first second third f from run le before now =
    let at : run ≡ from + (run - from) = omega (arith, le) in
    let count : run + 1 - from ≡ run - from + 1 = omega (arith, le) in
    let more : flat_map f (range_with_len from (run + 1 - from)) ≡ flat_map f (range_with_len from (run - from)) ++ f run = ap (λ (n : ℕ). flat_map f (range_with_len from n)) count ∙ flat_more f from (run - from) run at in
    subst (λ (xs : List ℕ). AskedInTurn asked first xs third) (sym more) (asked_append asked first second third (flat_map f (range_with_len from (run - from))) (f run) before now)

pub loop-run-init : goal.loop-run-init
loop-run-init g c =
    let disk : List (List ℕ) = g.B.Blocks.blocks c.get.new.self in
    record {
      here = λ k lt early. absurd (omega (arith, early, c.requires.range.0, c.run_of-run.ensures));
      kept = refl;
      asked = nothing_asked g.B.Blocks.asked c.get.new.self (asked_in_run disk c.args.inode.now c.args.from c.args.to) c.run_of-run.result (run_of c.args.from) c.run_of-run.ensures;
      follows = g.met.B.Blocks.follows_refl c.get.new.self;
    }

-- the pointers of the double block
pub pointers_of-pointers-requires : goal.pointers_of-pointers-requires
pointers_of-pointers-requires g c =
    let inode = c.args.inode.now in
    omega (arith, c.loop-run-test.true, c.run_of-run-end.ensures, c.requires.range.1, few_blocks (c.args.at + length c.args.out.now) inode.size c.requires.within, c.requires.node.1.0.valid.kind.size)

pub read_run-requires : goal.read_run-requires
read_run-requires g c =
    let was : List (List ℕ) = g.B.Blocks.blocks c.args.b.now in
    let disk : List (List ℕ) = g.B.Blocks.blocks c.loop-run.b in
    let inode = c.args.inode.now in
    let run : ℕ = c.loop-run.run in
    let same : was ≡ disk = sym (c.loop-run.invariant.kept ∙ c.get.ensures.kept) in
    let low : run_of c.args.from ≤ run = omega (arith, c.run_of-run.ensures, c.loop-run.auto.run) in
    let high : run ≤ run_of (c.args.to - 1) = omega (arith, c.loop-run-test.true, c.run_of-run-end.ensures) in
    let first : c.max-first.result ≡ max c.args.from (run_first run) = omega (arith, c.max-first.ensures, c.run_first.ensures) in
    let end : c.min-end.result ≡ min c.args.to (run_end run) = omega (arith, c.min-end.ensures, c.run_start.ensures) in
    let p : Piece c.args.from c.args.to run c.max-first.result c.min-end.result = piece c.args.from c.args.to run c.max-first.result c.min-end.result c.requires.some low high first end in
    let names : (k : ℕ) → k < 256 → get_or c.pointers_in-double.result k 0 ≡ pointer_at (block_bytes was inode.double) k = λ k lt. c.pointers_in-double.ensures k lt ∙ ap (λ (bytes : List ℕ). pointer_at bytes k) (sym (got was inode.double c.get.result c.get.ensures.value)) in
    let few : run ≤ 256 = omega (arith, high, c.loop-run-test.true, c.run_of-run-end.ensures, c.requires.range.1, few_blocks (c.args.at + length c.args.out.now) inode.size c.requires.within, c.requires.node.1.0.valid.kind.size) in
    let named : c.pointers_of-pointers.result ≡ pointer_block was inode (block_of_run run) = run_pointers was inode c.pointers_in-double.result run c.pointers_of-pointers.result few names c.pointers_of-pointers.ensures in
    let block : pointer_block was inode (block_of_run run) ≡ pointer_block disk inode (block_of_run (run_of c.max-first.result)) =
    ap (λ (d : List (List ℕ)). pointer_block d inode (block_of_run run)) same ∙ ap (λ (r : ℕ). pointer_block disk inode (block_of_run r)) (sym p.in_run) in
    record {
      sound = subst Sound same c.requires.sound;
      node = subst (λ (d : List (List ℕ)). IsInUse d inode) same c.requires.node;
      some = p.some;
      run = omega (arith, p.ends, p.in_run);
      pointers = named ∙ block;
      range = (omega (arith, c.requires.range.0, p.low), omega (arith, c.requires.range.1, p.high, c.loop-run.auto.out));
      within = omega (arith, c.requires.within, c.loop-run.auto.out);
    }

pub loop-run-preserved : goal.loop-run-preserved
loop-run-preserved g c =
    let inv = c.loop-run.invariant in
    let was : List (List ℕ) = g.B.Blocks.blocks c.args.b.now in
    let base : List (List ℕ) = g.B.Blocks.blocks c.get.new.self in
    let disk : List (List ℕ) = g.B.Blocks.blocks c.loop-run.b in
    let inode = c.args.inode.now in
    let run : ℕ = c.loop-run.run in
    let low : run_of c.args.from ≤ run = omega (arith, c.run_of-run.ensures, c.loop-run.auto.run) in
    let high : run ≤ run_of (c.args.to - 1) = omega (arith, c.loop-run-test.true, c.run_of-run-end.ensures) in
    let first : c.max-first.result ≡ max c.args.from (run_first run) = omega (arith, c.max-first.ensures, c.run_first.ensures) in
    let end : c.min-end.result ≡ min c.args.to (run_end run) = omega (arith, c.min-end.ensures, c.run_start.ensures) in
    let names : (k : ℕ) → k < 256 → get_or c.pointers_in-double.result k 0 ≡ pointer_at (block_bytes was inode.double) k = λ k lt. c.pointers_in-double.ensures k lt ∙ ap (λ (bytes : List ℕ). pointer_at bytes k) (sym (got was inode.double c.get.result c.get.ensures.value)) in
    let few : run ≤ 256 = omega (arith, high, c.loop-run-test.true, c.run_of-run-end.ensures, c.requires.range.1, few_blocks (c.args.at + length c.args.out.now) inode.size c.requires.within, c.requires.node.1.0.valid.kind.size) in
    let named : c.pointers_of-pointers.result ≡ pointer_block base inode (block_of_run run) =
    run_pointers was inode c.pointers_in-double.result run c.pointers_of-pointers.result few names c.pointers_of-pointers.ensures
    ∙ ap (λ (d : List (List ℕ)). pointer_block d inode (block_of_run run)) (sym c.get.ensures.kept) in
    let this : AskedInTurn g.B.Blocks.asked c.loop-run.b (asked_in_run base inode c.args.from c.args.to run) c.read_run.new.b =
    subst (λ (xs : List ℕ). AskedInTurn g.B.Blocks.asked c.loop-run.b xs c.read_run.new.b) (
    ap (λ (n : ℕ). pointers_for n c.min-end.result ++ blocks_between disk inode c.max-first.result c.min-end.result) named
    ∙ ap (λ (d : List (List ℕ)). pointers_for (pointer_block base inode (block_of_run run)) c.min-end.result ++ blocks_between d inode c.max-first.result c.min-end.result) inv.kept
    ∙ ap (λ (n : ℕ). pointers_for (pointer_block base inode (block_of_run run)) c.min-end.result ++ blocks_between base inode n c.min-end.result) first
    ∙ ap (λ (n : ℕ). pointers_for (pointer_block base inode (block_of_run run)) n ++ blocks_between base inode (max c.args.from (run_first run)) n) end
    ) c.read_run.ensures.asked in
    record {
      here = λ k lt within.
          let k_in : k < length c.args.out.now = omega (arith, lt, c.read_run.auto.out, c.loop-run.auto.out) in
          let index : ℕ = (c.args.at + k) / block_size in
          let index_in : index < c.args.to = omega (arith, k_in, c.requires.range.1) in
          elim (in_runs c.args.from c.args.to run c.max-first.result c.min-end.result index (omega (arith, c.requires.range.0)) index_in first end within) [
            | inl early ↦ c.read_run.ensures.others k (inl early.1) ∙ inv.here k (omega (arith, lt, c.read_run.auto.out)) early.0
            | inr now ↦ c.read_run.ensures.bytes k (omega (arith, lt, c.read_run.auto.out)) now.0 now.1 ∙ ap (λ (d : List (List ℕ)). byte_at d inode (c.args.at + k)) inv.kept
          ];
      kept = c.read_run.ensures.kept ∙ inv.kept;
      asked = run_asked g.B.Blocks.asked c.get.new.self c.loop-run.b c.read_run.new.b (asked_in_run base inode c.args.from c.args.to) (run_of c.args.from) run low inv.asked this;
      follows = g.met.B.Blocks.follows_trans c.get.new.self c.loop-run.b c.read_run.new.b inv.follows c.read_run.ensures.follows;
    }

pub returns-clause-bytes : goal.returns-clause-bytes
returns-clause-bytes g c = λ k lt.
    let inode = c.args.inode.now in
    let within : run_of ((c.args.at + k) / block_size) < c.loop-run.run = omega (arith, lt, c.run_of-run-end.ensures, c.requires.range.1) in
    c.loop-run.invariant.here k (omega (arith, lt, c.loop-run.auto.out)) within ∙ ap (λ (d : List (List ℕ)). byte_at d inode (c.args.at + k)) c.get.ensures.kept

pub returns-clause-asked : goal.returns-clause-asked
returns-clause-asked g c =
    let was : List (List ℕ) = g.B.Blocks.blocks c.args.b.now in
    let base : List (List ℕ) = g.B.Blocks.blocks c.get.new.self in
    let inode = c.args.inode.now in
    let runs : ℕ = run_of (c.args.to - 1) + 1 - run_of c.args.from in
    let last : c.loop-run.run - run_of c.args.from ≡ runs = omega (arith, c.run_of-run.ensures, c.run_of-run-end.ensures, c.loop-run.auto.run) in
    let all : AskedInTurn g.B.Blocks.asked c.get.new.self (flat_map (asked_in_run base inode c.args.from c.args.to) (range_with_len (run_of c.args.from) runs)) c.loop-run.b =
    subst (λ (n : ℕ). AskedInTurn g.B.Blocks.asked c.get.new.self (flat_map (asked_in_run base inode c.args.from c.args.to) (range_with_len (run_of c.args.from) n)) c.loop-run.b) last c.loop-run.invariant.asked in
    let rest : AskedInTurn g.B.Blocks.asked c.get.new.self (flat_map (asked_in_run was inode c.args.from c.args.to) (runs_between c.args.from c.args.to)) c.loop-run.b =
    subst (λ (d : List (List ℕ)). AskedInTurn g.B.Blocks.asked c.get.new.self (flat_map (asked_in_run d inode c.args.from c.args.to) (runs_between c.args.from c.args.to)) c.loop-run.b) c.get.ensures.kept all in
    let double : double_for inode c.args.to ≡ inode.double ∷ [] = cond-true (ltb 266 c.args.to) (inode.double ∷ []) [] (lt-ltb 266 c.args.to c.requires.far) in
    subst (λ (xs : List ℕ). AskedInTurn g.B.Blocks.asked c.args.b.now (xs ++ flat_map (asked_in_run was inode c.args.from c.args.to) (runs_between c.args.from c.args.to)) c.loop-run.b) (sym double) (
    asked_append g.B.Blocks.asked c.args.b.now c.get.new.self c.loop-run.b (inode.double ∷ []) (flat_map (asked_in_run was inode c.args.from c.args.to) (runs_between c.args.from c.args.to)) (c.get.new.self, c.get.ensures.asked, refl) rest
    )
