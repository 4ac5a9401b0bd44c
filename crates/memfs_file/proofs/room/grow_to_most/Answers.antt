use Rattle.std.proofs.Common.{◌≡◌, ℕ, ◌+◌, ◌-◌, ◌/◌, ◌≤◌, max, List, Err, inl, inr, ap, subst, ◌∙◌, arith}
use Rattle.posix_defs.specs.DiskFormat.{block_size, data_blocks, blocks_of}
use Rattle.posix_defs.specs.SoundDisk.{free_in_map}
use Rattle.posix_defs.specs.FileBytes.{capacity}
use Rattle.blk_map.specs.Growing.{GrowsBut}
use Rattle.tree_laws.proofs.FileRoom.{capacity_fits, fits_capacity}
use Rattle.memfs_file.specs.FileChange.{blocks_for}
use Rattle.memfs_file.proofs.room.grow_to_most.Goals as goal

pub returns-in_err-grow_but-clause-err : goal.returns-in_err-grow_but-clause-err
returns-in_err-grow_but-clause-err g c =
    let before : List (List ℕ) = g.B.Blocks.blocks c.args.b.now in
    let old = c.args.inode.now in
    let most : ℕ = c.most_bytes-most.result in
    let blocks : c.block_count-had.result + c.free_count.result ≡ blocks_for before old = omega (arith, c.block_count-had.ensures, c.block_count.ensures, c.free_count.ensures.value, c.requires.full) in
    let is : most ≡ capacity (blocks_for before old) = c.most_bytes-most.ensures ∙ ap capacity blocks in
    let few : blocks_of most ≤ blocks_for before old = capacity_fits (blocks_for before old) most (omega (arith, is)) in
    let free : free_in_map (g.B.Blocks.blocks c.free_count.new.b) ≡ free_in_map before = ap free_in_map c.free_count.ensures.kept in
    let answer = c.in_err-grow_but.ensures in
    elim answer.err.0 [
      | inl big ↦ absurd (omega (arith, is, answer.big.0 (ap Err big)))
      | inr full ↦ absurd (omega (arith, few, free, (answer.full (omega (arith, is))).0 (ap Err full)))
    ]

pub returns-clause-ok : goal.returns-clause-ok
returns-clause-ok g c =
    let before : List (List ℕ) = g.B.Blocks.blocks c.args.b.now in
    let old = c.args.inode.now in
    let most : ℕ = c.most_bytes-most.result in
    let blocks : c.block_count-had.result + c.free_count.result ≡ blocks_for before old = omega (arith, c.block_count-had.ensures, c.block_count.ensures, c.free_count.ensures.value, c.requires.full) in
    let is : most ≡ capacity (blocks_for before old) = c.most_bytes-most.ensures ∙ ap capacity blocks in
    let held : old.size ≤ capacity (blocks_for before old) = fits_capacity (blocks_for before old) old.size c.requires.node.0.valid.kind.size (omega arith) in
    let size : most ≡ max old.size (c.args.at + (most - c.args.at)) = omega (arith, is, held, c.if-most-at.false) in
    let until : most / block_size ≡ (c.args.at + (most - c.args.at)) / block_size = omega (arith, c.if-most-at.false) in
    let after : List (List ℕ) = g.B.Blocks.blocks c.grow_but.new.b in
    let new = c.grow_but.new.inode in
    subst (λ (n : ℕ). GrowsBut (data_blocks c.args.at) ((c.args.at + (most - c.args.at)) / block_size) c.args.number before old n after new) size
    (subst (λ (n : ℕ). GrowsBut (data_blocks c.args.at) n c.args.number before old most after new) until
    (subst (λ (n : ℕ). GrowsBut n (most / block_size) c.args.number before old most after new) c.data_count.ensures
    (subst (λ (disk : List (List ℕ)). GrowsBut c.data_count.result (most / block_size) c.args.number disk old most after new) c.free_count.ensures.kept c.in_ok-grow_but.ensures.ok)))
