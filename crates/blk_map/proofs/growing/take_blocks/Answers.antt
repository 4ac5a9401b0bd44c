use Rattle.std.proofs.Common.{◌≡◌, ◌≢◌, ℕ, ◌+◌, ◌-◌, ◌*◌, ◌<◌, ◌≤◌, ◌⊎◌, inl, inr, List, length, get_or, take, drop, length-drop, sym, ap, subst, ◌∙◌, arith}
use Rattle.posix_defs.specs.DiskFormat.{data_blocks, pointer_blocks, IsForFiles}
use Rattle.posix_defs.specs.SoundDisk.{pointer_at, bit_of, block_bytes, block_of_run, pointer_block, run_of, IsFreeBlock}
use Rattle.blk_map.specs.Named.{IsInHand, pointer_to}
use Rattle.blk_map.specs.Pointing.{Repoints}
use Rattle.std.proofs.lemmas.Bool.{cases_lt}
use Rattle.std.proofs.lemmas.List.{get_or-drop, get_or-replicate, length-set, take_all}
use Rattle.disk_laws.proofs.FreeBlocks.{has_run}
use Rattle.blk_map.proofs.Counted.{given, given_least, run_few}
use Rattle.blk_map.proofs.Repointing.{Had, pointer_files}
use Rattle.blk_map.proofs.Taking.{Taking, taken_frees_none, taken_grows}
use Rattle.blk_map.proofs.growing.take_blocks.Goals as goal

pub name_pointers-pointers-requires-clause-few : goal.name_pointers-pointers-requires-clause-few
name_pointers-pointers-requires-clause-few g c =
    run_few c.run_of-run.result (data_blocks c.args.inode.now.size) (data_blocks c.args.size) (c.run_of-run.ensures ∙ ap run_of c.data_count-data.ensures) c.requires.size c.requires.most

pub name_pointers-pointers-requires-clause-many : goal.name_pointers-pointers-requires-clause-many
name_pointers-pointers-requires-clause-many g c =
    let taken : List ℕ = c.args.blocks.now in
    let all = given c.args.inode.now.size c.args.size (omega (arith, c.requires.size)) in
    omega (arith, length-drop (c.data_count.result - c.data_count-data.result) taken, c.requires.many, all, c.data_count.ensures, c.data_count-data.ensures)

pub name_pointers-pointers-requires-clause-free : goal.name_pointers-pointers-requires-clause-free
name_pointers-pointers-requires-clause-free g c = λ k lt.
    let taken : List ℕ = c.args.blocks.now in
    let more : ℕ = c.data_count.result - c.data_count-data.result in
    let rest : take (length taken - more) (drop more taken) ≡ drop more taken = take_all (length taken - more) (drop more taken) (omega (arith, length-drop more taken)) in
    let free : IsFreeBlock (g.B.Blocks.blocks c.args.b.now) (get_or (drop more taken) k 0) = subst (IsFreeBlock (g.B.Blocks.blocks c.args.b.now)) (sym (get_or-drop more taken k 0)) (c.requires.free (more + k) (omega (arith, lt, ap length rest, length-drop more taken))) in
    subst (λ (xs : List ℕ). IsFreeBlock (g.B.Blocks.blocks c.args.b.now) (get_or xs k 0)) (sym rest) free

pub behind_of-requires-clause-few : goal.behind_of-requires-clause-few
behind_of-requires-clause-few g c =
    run_few c.run_of-run.result (data_blocks c.args.inode.now.size) (data_blocks c.args.size) (c.run_of-run.ensures ∙ ap run_of c.data_count-data.ensures) c.requires.size c.requires.most

pub behind_of-requires-clause-within : goal.behind_of-requires-clause-within
behind_of-requires-clause-within g c = λ large.
    let before : List (List ℕ) = g.B.Blocks.blocks c.args.b.now in
    let taken : List ℕ = c.args.blocks.now in
    let more : ℕ = c.data_count.result - c.data_count-data.result in
    let h : Had = record { disk = before; number = c.args.number; old = c.args.inode.now; size = c.args.size; sound = c.requires.sound; has = c.requires.node.0 } in
    let here : 10 + 256 * c.run_of-run.result < data_blocks c.args.size = omega (arith, large, c.data_count-data.ensures, c.requires.size) in
    let all = given c.args.inode.now.size c.args.size (omega (arith, c.requires.size)) in
    let many : length (drop more taken) ≡ pointer_blocks c.args.size - pointer_blocks c.args.inode.now.size = omega (arith, length-drop more taken, c.requires.many, all, c.data_count.ensures, c.data_count-data.ensures) in
    let free : (k : ℕ) → k < length (drop more taken) → IsFreeBlock before (get_or (drop more taken) k 0) = λ k lt.
    subst (IsFreeBlock before) (sym (get_or-drop more taken k 0)) (c.requires.free (more + k) (omega (arith, lt, length-drop more taken)))
    in
    let rest : take (length taken - more) (drop more taken) ≡ drop more taken = take_all (length taken - more) (drop more taken) (omega (arith, length-drop more taken)) in
    let named : Repoints before c.args.inode.now c.args.size (drop more taken) (g.B.Blocks.blocks c.name_pointers-pointers.new.b) c.name_pointers-pointers.new.inode =
    subst (λ (xs : List ℕ). Repoints before c.args.inode.now c.args.size xs (g.B.Blocks.blocks c.name_pointers-pointers.new.b) c.name_pointers-pointers.new.inode) rest c.name_pointers-pointers.ensures.names in
    let files = pointer_files h (drop more taken) (g.B.Blocks.blocks c.name_pointers-pointers.new.b) c.name_pointers-pointers.new.inode named many free (block_of_run c.run_of-run.result) (has_run c.args.size c.run_of-run.result here) in
    let long : length (g.B.Blocks.blocks c.set.new.self) ≡ length before = ap length c.set.ensures.after ∙ length-set (g.B.Blocks.blocks c.name_pointers-pointers.new.b) 0 c.mark_all.new.map ∙ c.name_pointers-pointers.ensures.count in
    omega (arith, files.1, long, c.name_pointers-pointers.ensures.has here)

pub behind_of-requires-clause-zeros : goal.behind_of-requires-clause-zeros
behind_of-requires-clause-zeros g c = λ k lt. get_or-replicate 256 k 0 0 lt

pub settle-requires-clause-few : goal.settle-requires-clause-few
settle-requires-clause-few g c =
    run_few c.run_of-run.result (data_blocks c.args.inode.now.size) (data_blocks c.args.size) (c.run_of-run.ensures ∙ ap run_of c.data_count-data.ensures) c.requires.size c.requires.most

pub settle-requires-clause-within : goal.settle-requires-clause-within
settle-requires-clause-within g c = λ large.
    let before : List (List ℕ) = g.B.Blocks.blocks c.args.b.now in
    let taken : List ℕ = c.args.blocks.now in
    let more : ℕ = c.data_count.result - c.data_count-data.result in
    let h : Had = record { disk = before; number = c.args.number; old = c.args.inode.now; size = c.args.size; sound = c.requires.sound; has = c.requires.node.0 } in
    let all = given c.args.inode.now.size c.args.size (omega (arith, c.requires.size)) in
    let many : length (drop more taken) ≡ pointer_blocks c.args.size - pointer_blocks c.args.inode.now.size = omega (arith, length-drop more taken, c.requires.many, all, c.data_count.ensures, c.data_count-data.ensures) in
    let free : (k : ℕ) → k < length (drop more taken) → IsFreeBlock before (get_or (drop more taken) k 0) = λ k lt.
    subst (IsFreeBlock before) (sym (get_or-drop more taken k 0)) (c.requires.free (more + k) (omega (arith, lt, length-drop more taken)))
    in
    let rest : take (length taken - more) (drop more taken) ≡ drop more taken = take_all (length taken - more) (drop more taken) (omega (arith, length-drop more taken)) in
    let named : Repoints before c.args.inode.now c.args.size (drop more taken) (g.B.Blocks.blocks c.name_pointers-pointers.new.b) c.name_pointers-pointers.new.inode =
    subst (λ (xs : List ℕ). Repoints before c.args.inode.now c.args.size xs (g.B.Blocks.blocks c.name_pointers-pointers.new.b) c.name_pointers-pointers.new.inode) rest c.name_pointers-pointers.ensures.names in
    let files = pointer_files h (drop more taken) (g.B.Blocks.blocks c.name_pointers-pointers.new.b) c.name_pointers-pointers.new.inode named many free (block_of_run c.run_of-run.result) (has_run c.args.size c.run_of-run.result large) in
    let here : IsForFiles (length before) c.name_pointers-pointers.result = subst (IsForFiles (length before)) (sym (c.name_pointers-pointers.ensures.has large)) files in
    let long : length (g.B.Blocks.blocks c.zero_range-2.new.b) ≡ length before =
    c.zero_range-2.ensures.count ∙ c.zero_range.ensures.count ∙ ap length (c.behind_of.ensures.kept ∙ c.set.ensures.after) ∙ length-set (g.B.Blocks.blocks c.name_pointers-pointers.new.b) 0 c.mark_all.new.map ∙ c.name_pointers-pointers.ensures.count in
    subst (λ (n : ℕ). IsForFiles n c.name_pointers-pointers.result) (sym long) here

pub returns : goal.returns
returns g c =
    let before : List (List ℕ) = g.B.Blocks.blocks c.args.b.now in
    let old = c.args.inode.now in
    let taken : List ℕ = c.args.blocks.now in
    let had : ℕ = data_blocks old.size in
    let more : ℕ = data_blocks c.args.size - had in
    let run : ℕ = c.run_of-run.result in
    let here : c.args.map.now ≡ block_bytes before 0 = c.requires.map in
    let direct : List ℕ = c.name_all.new.direct in
    let behind : List ℕ = c.name_all.new.behind in
    let had_is : c.data_count-data.result ≡ had = c.data_count-data.ensures in
    let more_is : c.data_count.result - c.data_count-data.result ≡ more = omega (arith, c.data_count.ensures, had_is) in
    let run_is : run ≡ run_of had = c.run_of-run.ensures ∙ ap run_of had_is in
    let least = given_least old.size c.args.size (omega (arith, c.requires.size)) in
    let from_more : ℕ = c.data_count.result - c.data_count-data.result in
    let rest : take (length taken - from_more) (drop from_more taken) ≡ drop from_more taken = take_all (length taken - from_more) (drop from_more taken) (omega (arith, length-drop from_more taken)) in
    let named : Repoints before old c.args.size (drop from_more taken) (g.B.Blocks.blocks c.name_pointers-pointers.new.b) c.name_pointers-pointers.new.inode =
    subst (λ (xs : List ℕ). Repoints before old c.args.size xs (g.B.Blocks.blocks c.name_pointers-pointers.new.b) c.name_pointers-pointers.new.inode) rest c.name_pointers-pointers.ensures.names in
    let taking : Taking = record {
      number = c.args.number;
      before = before;
      old = old;
      size = c.args.size;
      taken = taken;
      run = run;
      pointed = g.B.Blocks.blocks c.name_pointers-pointers.new.b;
      half = c.name_pointers-pointers.new.inode;
      pointers = c.name_pointers-pointers.result;
      map = c.mark_all.new.map;
      marked = g.B.Blocks.blocks c.behind_of.new.b;
      behind = c.behind_of.new.behind;
      direct_now = direct;
      behind_now = behind;
      cleared = g.B.Blocks.blocks c.zero_range-2.new.b;
      after = g.B.Blocks.blocks c.settle.new.b;
      from = c.args.from;
      to = c.args.to;
      sound = c.requires.sound;
      had = c.requires.node.0;
      kind = c.requires.kind;
      more = omega (arith, c.requires.size);
      most = c.requires.most;
      run_is = run_is;
      in_run = subst (λ (r : ℕ). data_blocks c.args.size ≤ 10 + 256 * (r + 1)) (sym run_is) c.requires.run;
      many = c.requires.many;
      free = c.requires.free;
      apart = c.requires.apart;
      lowest = c.requires.lowest;
      has = c.name_pointers-pointers.ensures.has;
      names = subst (λ (n : ℕ). Repoints before old c.args.size (drop n taken) (g.B.Blocks.blocks c.name_pointers-pointers.new.b) c.name_pointers-pointers.new.inode) more_is named;
      same = c.name_pointers-pointers.ensures.same;
      pointed_count = c.name_pointers-pointers.ensures.count;
      pointed_others = c.name_pointers-pointers.ensures.others;
      map_these = c.mark_all.ensures.these;
      map_stays = λ block is. c.mark_all.ensures.stays block (ap (λ (map : List ℕ). bit_of map block) here ∙ is);
      map_only = λ block is. subst (λ (map : List ℕ). (bit_of map block ≡ 1) ⊎ ((k : ℕ) × (k < length taken) × (get_or taken k 0 ≡ block))) here (c.mark_all.ensures.only block is);
      map_set = c.behind_of.ensures.kept ∙ c.set.ensures.after;
      behind_large = λ was k lt.
          c.behind_of.ensures.large (omega (arith, was, had_is)) k lt ∙ ap (λ (disk : List (List ℕ)). pointer_at (block_bytes disk c.name_pointers-pointers.result) k) (sym c.behind_of.ensures.kept);
      behind_small = λ few k lt. c.behind_of.ensures.small (omega (arith, few, had_is)) k lt;
      names_these = λ k lt. ap (λ (n : ℕ). pointer_to direct behind (n + k)) (sym had_is) ∙ c.name_all.ensures.these k (omega (arith, lt, more_is));
      names_others = λ index in_hand which.
          c.name_all.ensures.others index (subst (λ (r : ℕ). IsInHand r index) c.run_of-run.ensures in_hand)
          (elim which [ inl lt ↦ inl (omega (arith, lt, had_is)) | inr le ↦ inr (omega (arith, le, had_is, more_is)) ]);
      ten = c.name_all.array_long;
      cleared_count = c.zero_range-2.ensures.count ∙ c.zero_range.ensures.count;
      cleared_these = λ k lt off.
          let within : k < length taken = omega (arith, lt, c.requires.many, least) in
          elim (cases_lt k c.place_among-first.result) [
            | inl below ↦
                c.zero_range-2.ensures.others (get_or taken k 0) (λ j le before e. omega (arith, le, before, below, more_is, c.max-last.ensures, c.requires.apart j k (omega (arith, before, more_is, c.requires.many, least)) within e))
                ∙ c.zero_range.ensures.these k (omega arith) below
            | inr past ↦ c.zero_range-2.ensures.these k (elim off [
              | inl low ↦ absurd (omega (arith, low, past, lt, had_is, more_is, c.place_among-first.ensures))
              | inr high ↦ omega (arith, high, past, lt, had_is, more_is, c.place_among.ensures, c.max-last.ensures)
            ]) (omega (arith, lt, more_is))
          ];
      cleared_others = λ block none.
          c.zero_range-2.ensures.others block (λ k le lt. none k (omega (arith, lt, more_is)))
          ∙ c.zero_range.ensures.others block (λ k le lt. none k (omega (arith, lt, more_is, c.place_among-first.ensures)));
      after_count = c.settle.ensures.count;
      after_slot = c.settle.ensures.slot;
      after_slots = c.settle.ensures.slots;
      after_named = c.settle.ensures.named;
      after_others = c.settle.ensures.others;
    } in
    let then = g.met.B.Blocks.follows_trans in
    record {
      grows = taken_grows taking;
      frees_none = taken_frees_none taking;
      follows = then c.args.b.now c.name_pointers-pointers.new.b c.settle.new.b c.name_pointers-pointers.ensures.follows (
          then c.name_pointers-pointers.new.b c.set.new.self c.settle.new.b c.set.ensures.follows (
          then c.set.new.self c.behind_of.new.b c.settle.new.b c.behind_of.ensures.follows (
          then c.behind_of.new.b c.zero_range.new.b c.settle.new.b c.zero_range.ensures.follows (
          then c.zero_range.new.b c.zero_range-2.new.b c.settle.new.b c.zero_range-2.ensures.follows c.settle.ensures.follows))));
    }
