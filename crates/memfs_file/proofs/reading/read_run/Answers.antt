use Rattle.std.proofs.Common.{◌≡◌, ℕ, ◌+◌, ◌/◌, ◌%◌, ◌<◌, ◌≤◌, inl, inr, List, length, get_or, sym, ap, subst, ◌∙◌, arith}
use Rattle.std.proofs.lemmas.Bool.{cases_lt}
use Rattle.posix_defs.specs.DiskFormat.{block_size}
use Rattle.posix_defs.specs.SoundDisk.{block_bytes}
use Rattle.posix_defs.specs.DiskContents.{data_block}
use Rattle.blk_map.proofs.Blocks.{got}
use Rattle.memfs_file.proofs.Asking.{asked_one_more}
use Rattle.memfs_file.proofs.Pointers.{InRun, on_disk, pointer_names, block_on_disk, few_blocks}
use Rattle.memfs_file.proofs.reading.read_run.Goals as goal

pub pointers_behind-requires : goal.pointers_behind-requires
pointers_behind-requires g c = λ past.
    let disk : List (List ℕ) = g.B.Blocks.blocks c.args.b.now in
    let inode = c.args.inode.now in
    let r : InRun disk c.requires.node.0 inode c.args.pointers c.args.from c.args.to = record {
      sound = c.requires.sound;
      has = c.requires.node.1.0;
      some = c.requires.some;
      run = c.requires.run;
      pointers_are = c.requires.pointers;
      within = omega (arith, c.requires.range.1, few_blocks (c.args.at + length c.args.out.now) inode.size c.requires.within);
    } in
    on_disk disk c.requires.node.0 inode c.args.pointers c.args.from c.args.to r past

pub get-requires : goal.get-requires
get-requires g c =
    let disk : List (List ℕ) = g.B.Blocks.blocks c.args.b.now in
    let inode = c.args.inode.now in
    let index : ℕ = c.loop-index.index in
    let r : InRun disk c.requires.node.0 inode c.args.pointers c.args.from c.args.to = record {
      sound = c.requires.sound;
      has = c.requires.node.1.0;
      some = c.requires.some;
      run = c.requires.run;
      pointers_are = c.requires.pointers;
      within = omega (arith, c.requires.range.1, few_blocks (c.args.at + length c.args.out.now) inode.size c.requires.within);
    } in
    let named : c.pointer_of-number.result ≡ data_block disk inode index =
    c.pointer_of-number.ensures ∙ pointer_names disk c.requires.node.0 inode c.args.pointers c.args.from c.args.to r c.pointers_behind.new.behind c.pointers_behind.ensures.pointers index c.loop-index.auto.index (omega arith) in
    let same : length (g.B.Blocks.blocks c.loop-index.b) ≡ length disk = ap length (c.loop-index.invariant.kept ∙ c.pointers_behind.ensures.kept) in
    omega (arith, named, same, block_on_disk disk c.requires.node.0 inode c.args.pointers c.args.from c.args.to r index (omega arith))

pub loop-index-preserved : goal.loop-index-preserved
loop-index-preserved g c =
    let inv = c.loop-index.invariant in
    let was : List (List ℕ) = g.B.Blocks.blocks c.args.b.now in
    let disk : List (List ℕ) = g.B.Blocks.blocks c.pointers_behind.new.b in
    let inode = c.args.inode.now in
    let index : ℕ = c.loop-index.index in
    let r : InRun was c.requires.node.0 inode c.args.pointers c.args.from c.args.to = record {
      sound = c.requires.sound;
      has = c.requires.node.1.0;
      some = c.requires.some;
      run = c.requires.run;
      pointers_are = c.requires.pointers;
      within = omega (arith, c.requires.range.1, few_blocks (c.args.at + length c.args.out.now) inode.size c.requires.within);
    } in
    let named : c.pointer_of-number.result ≡ data_block disk inode index =
    c.pointer_of-number.ensures ∙ pointer_names was c.requires.node.0 inode c.args.pointers c.args.from c.args.to r c.pointers_behind.new.behind c.pointers_behind.ensures.pointers index c.loop-index.auto.index (omega arith)
    ∙ ap (λ (d : List (List ℕ)). data_block d inode index) (sym c.pointers_behind.ensures.kept) in
    let bytes : c.get.result ≡ block_bytes disk (data_block disk inode index) =
    sym (got (g.B.Blocks.blocks c.loop-index.b) c.pointer_of-number.result c.get.result c.get.ensures.value)
    ∙ ap (λ (d : List (List ℕ)). block_bytes d c.pointer_of-number.result) inv.kept ∙ ap (λ (n : ℕ). block_bytes disk n) named in
    record {
      here = λ k lt low before. elim (cases_lt ((c.args.at + k) / block_size) index) [
        | inl earlier ↦ c.copy_out.ensures.others k (λ e. omega (arith, e, earlier)) ∙ inv.here k (omega (arith, lt, c.copy_out.auto.out)) low earlier
        | inr late ↦
            let e : (c.args.at + k) / block_size ≡ index = omega (arith, late, before) in
            let place : ℕ = (c.args.at + k) % block_size in
            c.copy_out.ensures.here k (omega (arith, lt, c.copy_out.auto.out)) e ∙ ap (λ (block : List ℕ). get_or block place 0) bytes
            ∙ ap (λ (n : ℕ). get_or (block_bytes disk (data_block disk inode n)) place 0) (sym e)
      ];
      others = λ k off. elim off [
        | inl early ↦ c.copy_out.ensures.others k (λ e. omega (arith, e, early, c.loop-index.auto.index)) ∙ inv.others k (inl early)
        | inr late ↦ c.copy_out.ensures.others k (λ e. omega (arith, e, late)) ∙ inv.others k (inr (omega (arith, late)))
      ];
      kept = c.get.ensures.kept ∙ inv.kept;
      asked = asked_one_more g.B.Blocks.asked c.pointers_behind.new.b c.loop-index.b c.get.new.self disk inode c.args.from index c.loop-index.auto.index inv.asked
          (subst (λ (n : ℕ). g.B.Blocks.asked c.loop-index.b n c.get.new.self) named c.get.ensures.asked);
      follows = g.met.B.Blocks.follows_trans c.pointers_behind.new.b c.loop-index.b c.get.new.self inv.follows c.get.ensures.follows;
    }
