use Rattle.std.proofs.Common.{◌≡◌, ◌≢◌, ℕ, ◌+◌, ◌-◌, ◌*◌, ◌<◌, ◌≤◌, length, inl, inr, List, [], set, sym, ap, subst, ◌∙◌, arith}
use Rattle.std.proofs.lemmas.List.{get_or-replicate, length-set}
use Rattle.posix_defs.specs.DiskFormat.{data_blocks, pointer_blocks, table_nodes, IsForFiles}
use Rattle.posix_defs.specs.SoundDisk.{block_bytes, bit_of, block_of_run, pointer_at, pointer_block, run_of, HasNode, Pointers, Sound}
use Rattle.disk_laws.proofs.FreeBlocks.{named_is_for_files, has_run}
use Rattle.blk_map.specs.Named.{IsInHand, pointer_to}
use Rattle.blk_map.specs.Pointing.{Repoints, WritesDouble}
use Rattle.blk_map.specs.Runs.{run_first}
use Rattle.blk_map.proofs.Blocks.{got}
use Rattle.blk_map.proofs.Counted.{few_go, last_run_within, pointers_more}
use Rattle.blk_map.proofs.Forgetting.{Forgetting, each, all}
use Rattle.blk_map.proofs.Giving.{Giving, gives, gives_take_none}
use Rattle.blk_map.proofs.InHand.{in_hand_last}
use Rattle.blk_map.proofs.Inodes.{HasPointersOf, names_in_hand}
use Rattle.blk_map.proofs.Repointing.{Had, double_on_disk, map_stays}
use Rattle.blk_map.proofs.shrinking.give_blocks.Goals as goal

-- who shrinks has no more of pointers
none_more : (size old : ℕ) → size ≤ old → 0 ≡ pointer_blocks size - pointer_blocks old
none_more size old le = omega (arith, pointers_more size old le)

pub pointers_at-pointers-requires-clause-within : goal.pointers_at-pointers-requires-clause-within
pointers_at-pointers-requires-clause-within g c = last_run_within c.run_of-run.result (data_blocks c.args.inode.now.size) (c.run_of-run.ensures ∙ ap (λ (n : ℕ). run_of (n - 1)) c.data_count-had.ensures) (omega (arith, c.requires.node.0.valid.kind.size))

pub pointers_at-pointers-requires-clause-double : goal.pointers_at-pointers-requires-clause-double
pointers_at-pointers-requires-clause-double g c = λ pos.
    double_on_disk (record { disk = g.B.Blocks.blocks c.args.b.now; number = c.args.number; old = c.args.inode.now; size = c.args.size; sound = c.requires.sound; has = c.requires.node.0 })

pub behind_of-requires-clause-within : goal.behind_of-requires-clause-within
behind_of-requires-clause-within g c = λ large.
    let before : List (List ℕ) = g.B.Blocks.blocks c.args.b.now in
    let here : 10 + 256 * c.run_of-run.result < data_blocks c.args.inode.now.size = omega (arith, large, c.data_count-had.ensures) in
    let files = named_is_for_files before c.requires.sound c.args.number c.args.inode.now (Pointers (block_of_run c.run_of-run.result)) c.requires.node.0 (has_run c.args.inode.now.size c.run_of-run.result here) in
    omega (arith, files.1, c.pointers_at-pointers.ensures.value, ap length c.pointers_at-pointers.ensures.kept)

pub behind_of-requires-clause-zeros : goal.behind_of-requires-clause-zeros
behind_of-requires-clause-zeros g c = λ k lt. get_or-replicate 256 k 0 0 lt

pub forget_pointers-dropped-requires : goal.forget_pointers-dropped-requires
forget_pointers-dropped-requires g c =
    let before : List (List ℕ) = g.B.Blocks.blocks c.args.b.now in
    let old = c.args.inode.now in
    let run : ℕ = c.run_of-run.result in
    let run_is : run ≡ run_of (data_blocks old.size - 1) = c.run_of-run.ensures ∙ ap (λ (n : ℕ). run_of (n - 1)) c.data_count-had.ensures in
    let kept : before ≡ g.B.Blocks.blocks c.behind_of.new.b = sym (c.behind_of.ensures.kept ∙ c.pointers_at-pointers.ensures.kept) in
    record {
      sound = subst Sound kept c.requires.sound;
      node = subst (λ (disk : List (List ℕ)). HasNode disk c.args.number old) kept c.requires.node;
      run = run_is;
      shrinks = omega (arith, c.requires.size);
      within = subst (λ (r : ℕ). run_first r ≤ data_blocks c.args.size) (sym run_is) c.requires.run;
      few = last_run_within run (data_blocks old.size) run_is (omega (arith, c.requires.node.0.valid.kind.size));
      pointers = λ large. c.pointers_at-pointers.ensures.value ∙ ap (λ (disk : List (List ℕ)). pointer_block disk old (block_of_run run)) kept;
    }

pub forget_all-requires : goal.forget_all-requires
forget_all-requires g c =
    let old = c.args.inode.now in
    let run : ℕ = c.run_of-run.result in
    let run_is : run ≡ run_of (data_blocks old.size - 1) = c.run_of-run.ensures ∙ ap (λ (n : ℕ). run_of (n - 1)) c.data_count-had.ensures in
    let first : run_first run ≤ data_blocks c.args.size = subst (λ (r : ℕ). run_first r ≤ data_blocks c.args.size) (sym run_is) c.requires.run in
    let go = few_go run (data_blocks old.size) (data_blocks c.args.size) run_is first (omega (arith, c.requires.size)) in
    record {
      few = last_run_within run (data_blocks old.size) run_is (omega (arith, c.requires.node.0.valid.kind.size));
      order = omega (arith, c.requires.size, c.data_count-had.ensures, c.data_count-left.ensures);
      within = (omega (arith, first, c.data_count-left.ensures), omega (arith, run_is, c.data_count-had.ensures));
      room = omega (arith, go, c.forget_pointers-dropped.ensures.many, c.data_count-had.ensures, c.data_count-left.ensures);
    }

pub unmark_all-requires-clause-few : goal.unmark_all-requires-clause-few
unmark_all-requires-clause-few g c =
    let old = c.args.inode.now in
    let run : ℕ = c.run_of-run.result in
    let run_is : run ≡ run_of (data_blocks old.size - 1) = c.run_of-run.ensures ∙ ap (λ (n : ℕ). run_of (n - 1)) c.data_count-had.ensures in
    let first : run_first run ≤ data_blocks c.args.size = subst (λ (r : ℕ). run_first r ≤ data_blocks c.args.size) (sym run_is) c.requires.run in
    let go = few_go run (data_blocks old.size) (data_blocks c.args.size) run_is first (omega (arith, c.requires.size)) in
    omega (arith, go, c.forget_all.ensures.many, c.forget_pointers-dropped.ensures.many, c.data_count-had.ensures, c.data_count-left.ensures)

pub unmark_all-requires-clause-within : goal.unmark_all-requires-clause-within
unmark_all-requires-clause-within g c = λ k lt.
    let before : List (List ℕ) = g.B.Blocks.blocks c.args.b.now in
    let old = c.args.inode.now in
    let run : ℕ = c.run_of-run.result in
    let had_is : c.data_count-had.result ≡ data_blocks old.size = c.data_count-had.ensures in
    let left_is : c.data_count-left.result ≡ data_blocks c.args.size = c.data_count-left.ensures in
    let run_is : run ≡ run_of (data_blocks old.size - 1) = c.run_of-run.ensures ∙ ap (λ (n : ℕ). run_of (n - 1)) had_is in
    let kept : g.B.Blocks.blocks c.behind_of.new.b ≡ before = c.behind_of.ensures.kept ∙ c.pointers_at-pointers.ensures.kept in
    let pointers_is : c.pointers_at-pointers.result ≡ pointer_block before old (block_of_run run) = c.pointers_at-pointers.ensures.value in
    let here : HasPointersOf before c.pointers_at-pointers.result (data_blocks old.size) run c.behind_of.new.behind = λ past k lt.
    c.behind_of.ensures.large (omega (arith, past, had_is)) k lt ∙ ap (λ (disk : List (List ℕ)). pointer_at (block_bytes disk c.pointers_at-pointers.result) k) c.pointers_at-pointers.ensures.kept
    in
    let large : HasPointersOf before (pointer_block before old (block_of_run run)) (data_blocks old.size) run c.behind_of.new.behind = λ past k lt. here past k lt ∙ ap (λ (n : ℕ). pointer_at (block_bytes before n) k) pointers_is in
    let f : Forgetting = record {
      before = before;
      old = old;
      size = c.args.size;
      dropped = c.forget_all.new.dropped.blocks;
      few = c.forget_pointers-dropped.result.count;
      count = c.forget_all.new.dropped.count;
      less = omega (arith, c.requires.size);
      few_are = c.forget_pointers-dropped.ensures.many;
      all_are = c.forget_all.ensures.many ∙ ap (λ (n : ℕ). c.forget_pointers-dropped.result.count + (n - c.data_count-left.result)) had_is ∙ ap (λ (n : ℕ). c.forget_pointers-dropped.result.count + (data_blocks old.size - n)) left_is;
      pointer_ones = λ k lt.
          c.forget_all.ensures.kept k lt ∙ c.forget_pointers-dropped.ensures.each k (omega (arith, lt, c.forget_pointers-dropped.ensures.many))
          ∙ ap (λ (disk : List (List ℕ)). pointer_block disk old (pointer_blocks c.args.size + k)) kept;
      data_ones = λ k lt.
          let within : data_blocks c.args.size + k < data_blocks old.size = omega (arith, lt) in
          let in_hand : IsInHand run (data_blocks c.args.size + k) = in_hand_last run (data_blocks old.size) (data_blocks c.args.size) (data_blocks c.args.size + k) run_is (subst (λ (r : ℕ). run_first r ≤ data_blocks c.args.size) (sym run_is) c.requires.run) (omega arith) within in
          c.forget_all.ensures.each k (omega (arith, lt, had_is, left_is)) ∙ ap (λ (n : ℕ). pointer_to c.forget_pointers-dropped.new.inode.direct c.behind_of.new.behind (n + k)) left_is
          ∙ ap (λ (direct : List ℕ). pointer_to direct c.behind_of.new.behind (data_blocks c.args.size + k)) c.forget_pointers-dropped.ensures.same.direct
          ∙ names_in_hand before old c.behind_of.new.behind run (data_blocks old.size) large (data_blocks c.args.size + k) within in_hand;
    } in
    let at = each f k lt in
    let files = named_is_for_files before c.requires.sound c.args.number old at.0 c.requires.node.0 at.1 in
    omega (arith, at.3, files.1, c.requires.sound.size.1)

pub settle-requires : goal.settle-requires
settle-requires g c =
    let before : List (List ℕ) = g.B.Blocks.blocks c.args.b.now in
    let old = c.args.inode.now in
    let run : ℕ = c.run_of-run.result in
    let run_is : run ≡ run_of (data_blocks old.size - 1) = c.run_of-run.ensures ∙ ap (λ (n : ℕ). run_of (n - 1)) c.data_count-had.ensures in
    let long : length (g.B.Blocks.blocks c.set.new.self) ≡ length before =
    ap length c.set.ensures.after ∙ length-set (g.B.Blocks.blocks c.get-map.new.self) 0 c.unmark_all.new.map
    ∙ ap length c.get-map.ensures.kept ∙ c.forget_pointers-dropped.ensures.count ∙ ap length (c.behind_of.ensures.kept ∙ c.pointers_at-pointers.ensures.kept) in
    record {
      few = last_run_within run (data_blocks old.size) run_is (omega (arith, c.requires.node.0.valid.kind.size));
      number = (c.requires.node.0.number.0, subst (λ (n : ℕ). c.args.number ≤ table_nodes n) (sym long) c.requires.node.0.number.1);
      within = λ large.
          let has = has_run old.size run (omega (arith, large, c.requires.size)) in
          let files = named_is_for_files before c.requires.sound c.args.number old (Pointers (block_of_run run)) c.requires.node.0 has in
          subst (λ (n : ℕ). IsForFiles n c.pointers_at-pointers.result) (sym long) (subst (IsForFiles (length before)) (sym c.pointers_at-pointers.ensures.value) files);
    }

pub returns : goal.returns
returns g c =
    let before : List (List ℕ) = g.B.Blocks.blocks c.args.b.now in
    let old = c.args.inode.now in
    let run : ℕ = c.run_of-run.result in
    let had_is : c.data_count-had.result ≡ data_blocks old.size = c.data_count-had.ensures in
    let left_is : c.data_count-left.result ≡ data_blocks c.args.size = c.data_count-left.ensures in
    let run_is : run ≡ run_of (data_blocks old.size - 1) = c.run_of-run.ensures ∙ ap (λ (n : ℕ). run_of (n - 1)) had_is in
    let kept : g.B.Blocks.blocks c.behind_of.new.b ≡ before = c.behind_of.ensures.kept ∙ c.pointers_at-pointers.ensures.kept in
    let pointers_is : c.pointers_at-pointers.result ≡ pointer_block before old (block_of_run run) = c.pointers_at-pointers.ensures.value in
    let here : HasPointersOf before c.pointers_at-pointers.result (data_blocks old.size) run c.behind_of.new.behind = λ past k lt.
    c.behind_of.ensures.large (omega (arith, past, had_is)) k lt ∙ ap (λ (disk : List (List ℕ)). pointer_at (block_bytes disk c.pointers_at-pointers.result) k) c.pointers_at-pointers.ensures.kept
    in
    let large : HasPointersOf before (pointer_block before old (block_of_run run)) (data_blocks old.size) run c.behind_of.new.behind = λ past k lt. here past k lt ∙ ap (λ (n : ℕ). pointer_at (block_bytes before n) k) pointers_is in
    let f : Forgetting = record {
      before = before;
      old = old;
      size = c.args.size;
      dropped = c.forget_all.new.dropped.blocks;
      few = c.forget_pointers-dropped.result.count;
      count = c.forget_all.new.dropped.count;
      less = omega (arith, c.requires.size);
      few_are = c.forget_pointers-dropped.ensures.many;
      all_are = c.forget_all.ensures.many ∙ ap (λ (n : ℕ). c.forget_pointers-dropped.result.count + (n - c.data_count-left.result)) had_is ∙ ap (λ (n : ℕ). c.forget_pointers-dropped.result.count + (data_blocks old.size - n)) left_is;
      pointer_ones = λ k lt.
          c.forget_all.ensures.kept k lt ∙ c.forget_pointers-dropped.ensures.each k (omega (arith, lt, c.forget_pointers-dropped.ensures.many))
          ∙ ap (λ (disk : List (List ℕ)). pointer_block disk old (pointer_blocks c.args.size + k)) kept;
      data_ones = λ k lt.
          let within : data_blocks c.args.size + k < data_blocks old.size = omega (arith, lt) in
          let in_hand : IsInHand run (data_blocks c.args.size + k) = in_hand_last run (data_blocks old.size) (data_blocks c.args.size) (data_blocks c.args.size + k) run_is (subst (λ (r : ℕ). run_first r ≤ data_blocks c.args.size) (sym run_is) c.requires.run) (omega arith) within in
          c.forget_all.ensures.each k (omega (arith, lt, had_is, left_is)) ∙ ap (λ (n : ℕ). pointer_to c.forget_pointers-dropped.new.inode.direct c.behind_of.new.behind (n + k)) left_is
          ∙ ap (λ (direct : List ℕ). pointer_to direct c.behind_of.new.behind (data_blocks c.args.size + k)) c.forget_pointers-dropped.ensures.same.direct
          ∙ names_in_hand before old c.behind_of.new.behind run (data_blocks old.size) large (data_blocks c.args.size + k) within in_hand;
    } in
    let pointed : List (List ℕ) = g.B.Blocks.blocks c.forget_pointers-dropped.new.b in
    let half = c.forget_pointers-dropped.new.inode in
    let names : Repoints before old c.args.size [] pointed half = subst (λ (disk : List (List ℕ)). Repoints disk old c.args.size [] pointed half) kept c.forget_pointers-dropped.ensures.names in
    let others : WritesDouble before c.args.size pointed half = subst (λ (disk : List (List ℕ)). WritesDouble disk c.args.size pointed half) kept c.forget_pointers-dropped.ensures.others in
    let h : Had = record { disk = before; number = c.args.number; old = old; size = c.args.size; sound = c.requires.sound; has = c.requires.node.0 } in
    let stays : block_bytes pointed 0 ≡ block_bytes before 0 = map_stays h [] pointed half names (none_more c.args.size old.size (omega (arith, c.requires.size))) (λ k lt. absurd (omega (arith, lt))) others in
    let map : block_bytes before 0 ≡ c.get-map.result = sym stays ∙ got pointed 0 c.get-map.result c.get-map.ensures.value in
    let giving : Giving = record {
      number = c.args.number;
      before = before;
      old = old;
      size = c.args.size;
      run = run;
      pointers = c.pointers_at-pointers.result;
      pointed = pointed;
      half = half;
      dropped = c.forget_all.new.dropped.blocks;
      count = c.forget_all.new.dropped.count;
      map = c.unmark_all.new.map;
      cleared = g.B.Blocks.blocks c.set.new.self;
      behind = c.behind_of.new.behind;
      direct_now = c.forget_all.new.direct;
      behind_now = c.forget_all.new.behind;
      after = g.B.Blocks.blocks c.settle.new.b;
      sound = c.requires.sound;
      had = c.requires.node.0;
      kind = c.requires.kind;
      less = omega (arith, c.requires.size);
      in_run = λ index past lt. in_hand_last run (data_blocks old.size) (data_blocks c.args.size) index run_is (subst (λ (r : ℕ). run_first r ≤ data_blocks c.args.size) (sym run_is) c.requires.run) past lt;
      has = pointers_is;
      behind_large = here;
      behind_small = λ few k lt. c.behind_of.ensures.small (omega (arith, few, had_is)) k lt;
      names = names;
      same = c.forget_pointers-dropped.ensures.same;
      pointed_count = c.forget_pointers-dropped.ensures.count ∙ ap length kept;
      pointed_others = others;
      each = λ k lt. each f k lt;
      all = λ place had gone. all f place had gone;
      map_these = c.unmark_all.ensures.these;
      map_others = λ block none. c.unmark_all.ensures.others block none ∙ ap (λ (bytes : List ℕ). bit_of bytes block) (sym map);
      map_only = λ block is. ap (λ (bytes : List ℕ). bit_of bytes block) map ∙ c.unmark_all.ensures.only block is;
      map_set = c.set.ensures.after ∙ ap (λ (disk : List (List ℕ)). set disk 0 c.unmark_all.new.map) c.get-map.ensures.kept;
      names_these = λ index past lt. c.forget_all.ensures.these index (omega (arith, past, left_is)) (omega (arith, lt, had_is));
      names_others = λ index in_hand which. c.forget_all.ensures.others index in_hand (elim which [ inl lt ↦ inl (omega (arith, lt, left_is)) | inr le ↦ inr (omega (arith, le, had_is)) ]);
      ten = c.forget_all.array_long;
      after_count = c.settle.ensures.count;
      after_slot = c.settle.ensures.slot;
      after_slots = c.settle.ensures.slots;
      after_named = c.settle.ensures.named;
      after_others = c.settle.ensures.others;
    } in
    let then = g.met.B.Blocks.follows_trans in
    record {
      resizes = gives giving;
      takes_none = gives_take_none giving;
      follows = then c.args.b.now c.pointers_at-pointers.new.b c.settle.new.b c.pointers_at-pointers.ensures.follows (
          then c.pointers_at-pointers.new.b c.behind_of.new.b c.settle.new.b c.behind_of.ensures.follows (
          then c.behind_of.new.b c.forget_pointers-dropped.new.b c.settle.new.b c.forget_pointers-dropped.ensures.follows (
          then c.forget_pointers-dropped.new.b c.get-map.new.self c.settle.new.b c.get-map.ensures.follows (
          then c.get-map.new.self c.set.new.self c.settle.new.b c.set.ensures.follows c.settle.ensures.follows))));
    }
