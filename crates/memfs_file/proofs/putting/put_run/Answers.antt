use Rattle.std.proofs.Common.{◌≡◌, ℕ, ◌+◌, ◌%◌, ◌<◌, List, length, get_or, set, sym, ap, subst, ◌∙◌, arith}
use Rattle.posix_defs.specs.DiskFormat.{block_size}
use Rattle.posix_defs.specs.SoundDisk.{block_bytes, HasNode, Sound}
use Rattle.posix_defs.specs.DiskContents.{data_block}
use Rattle.memfs_file.specs.FileChange.{PutsPart}
use Rattle.memfs_file.proofs.Pointers.{InRun, on_disk, pointer_names, block_on_disk, few_blocks}
use Rattle.memfs_file.proofs.Written.{none_put, put_more}
use Rattle.memfs_file.proofs.putting.put_run.Goals as goal

pub pointers_behind-requires : goal.pointers_behind-requires
pointers_behind-requires g c = λ past.
    let disk : List (List ℕ) = g.B.Blocks.blocks c.args.b.now in
    let inode = c.args.inode.now in
    let r : InRun disk c.requires.node.0 inode c.args.pointers c.args.from c.args.to = record {
      sound = c.requires.sound;
      has = c.requires.node.1.0;
      some = c.requires.some;
      run = c.requires.run;
      pointers_are = c.requires.pointers;
      within = omega (arith, c.requires.range.1, few_blocks (c.args.at + length c.args.bytes.now) inode.size c.requires.within);
    } in
    on_disk disk c.requires.node.0 inode c.args.pointers c.args.from c.args.to r past

pub put_part-requires-clause-on_disk : goal.put_part-requires-clause-on_disk
put_part-requires-clause-on_disk g c =
    let was : List (List ℕ) = g.B.Blocks.blocks c.args.b.now in
    let disk : List (List ℕ) = g.B.Blocks.blocks c.pointers_behind.new.b in
    let inode = c.args.inode.now in
    let index : ℕ = c.loop-index.index in
    let number : ℕ = c.requires.node.0 in
    let has : HasNode was number inode = c.requires.node.1 in
    let r : InRun was number inode c.args.pointers c.args.from c.args.to = record {
      sound = c.requires.sound;
      has = has.0;
      some = c.requires.some;
      run = c.requires.run;
      pointers_are = c.requires.pointers;
      within = omega (arith, c.requires.range.1, few_blocks (c.args.at + length c.args.bytes.now) inode.size c.requires.within);
    } in
    let named : c.pointer_of-block.result ≡ data_block was inode index =
    c.pointer_of-block.ensures ∙ pointer_names was number inode c.args.pointers c.args.from c.args.to r c.pointers_behind.new.behind c.pointers_behind.ensures.pointers index c.loop-index.auto.index (omega arith) in
    let puts = c.loop-index.invariant.puts number (subst (λ (d : List (List ℕ)). HasNode d number inode) (sym c.pointers_behind.ensures.kept) has) in
    let same : length (g.B.Blocks.blocks c.loop-index.b) ≡ length was = puts.changes.blocks ∙ ap length c.pointers_behind.ensures.kept in
    omega (arith, named, same, block_on_disk was number inode c.args.pointers c.args.from c.args.to r index (omega arith))

pub loop-index-init : goal.loop-index-init
loop-index-init g c =
    let disk : List (List ℕ) = g.B.Blocks.blocks c.pointers_behind.new.b in
    let sound : Sound disk = subst (λ (d : List (List ℕ)). Sound d) (sym c.pointers_behind.ensures.kept) c.requires.sound in
    record {
      puts = λ number has. none_put number disk c.args.inode.now c.args.at c.args.bytes.now c.args.from sound has.0;
      follows = g.met.B.Blocks.follows_refl c.pointers_behind.new.b;
    }

pub loop-index-preserved : goal.loop-index-preserved
loop-index-preserved g c =
    let was : List (List ℕ) = g.B.Blocks.blocks c.args.b.now in
    let disk : List (List ℕ) = g.B.Blocks.blocks c.pointers_behind.new.b in
    let now : List (List ℕ) = g.B.Blocks.blocks c.loop-index.b in
    let after : List (List ℕ) = g.B.Blocks.blocks c.put_part.new.b in
    let inode = c.args.inode.now in
    let index : ℕ = c.loop-index.index in
    let r : InRun was c.requires.node.0 inode c.args.pointers c.args.from c.args.to = record {
      sound = c.requires.sound;
      has = c.requires.node.1.0;
      some = c.requires.some;
      run = c.requires.run;
      pointers_are = c.requires.pointers;
      within = omega (arith, c.requires.range.1, few_blocks (c.args.at + length c.args.bytes.now) inode.size c.requires.within);
    } in
    let named : c.pointer_of-block.result ≡ data_block disk inode index =
    c.pointer_of-block.ensures ∙ pointer_names was c.requires.node.0 inode c.args.pointers c.args.from c.args.to r c.pointers_behind.new.behind c.pointers_behind.ensures.pointers index c.loop-index.auto.index (omega arith)
    ∙ ap (λ (d : List (List ℕ)). data_block d inode index) (sym c.pointers_behind.ensures.kept) in
    let put = c.put_part.ensures in
    record {
      puts = λ number has.
          put_more number disk inode c.args.at c.args.bytes.now c.args.from index now after (
          record {
            sofar = c.loop-index.invariant.puts number has;
            low = c.loop-index.auto.index;
            fits = c.requires.within;
            within = omega (arith, r.within);
            block = put.set.0;
            is_set = put.set.1 ∙ ap (λ (n : ℕ). set now n put.set.0) named;
            here = λ place le lt e. ap (λ (n : ℕ). get_or (block_bytes after n) (place % block_size) 0) (sym named) ∙ put.here place le lt e;
            off = λ place e outside. ap (λ (n : ℕ). get_or (block_bytes after n) (place % block_size) 0) (sym named) ∙ put.rest place e outside ∙ ap (λ (n : ℕ). get_or (block_bytes now n) (place % block_size) 0) named;
          }
          );
      follows = g.met.B.Blocks.follows_trans c.pointers_behind.new.b c.loop-index.b c.put_part.new.b c.loop-index.invariant.follows put.follows;
    }

pub returns-clause-puts : goal.returns-clause-puts
returns-clause-puts g c = λ number has.
    let disk : List (List ℕ) = g.B.Blocks.blocks c.pointers_behind.new.b in
    let now : List (List ℕ) = g.B.Blocks.blocks c.loop-index.b in
    let kept = c.pointers_behind.ensures.kept in
    let there : HasNode disk number c.args.inode.now = subst (λ (d : List (List ℕ)). HasNode d number c.args.inode.now) (sym kept) has in
    let ends : c.loop-index.index ≡ c.args.to = omega (arith, c.requires.some) in
    subst (λ (d : List (List ℕ)). PutsPart number d c.args.inode.now c.args.at c.args.bytes.now c.args.from c.args.to now) kept
    (subst (λ (n : ℕ). PutsPart number disk c.args.inode.now c.args.at c.args.bytes.now c.args.from n now) ends (c.loop-index.invariant.puts number there))
