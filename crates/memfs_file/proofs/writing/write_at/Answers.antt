use Rattle.std.proofs.Common.{◌≡◌, ◌≢◌, ℕ, ◌+◌, ◌/◌, max, inl, List, length, take, sym, ◌∙◌, arith, length-take}
use Rattle.posix_defs.specs.DiskFormat.{block_size, data_blocks}
use Rattle.memfs_file.proofs.Lowest.{takes_lowest}
use Rattle.memfs_file.proofs.Rewriting.{overwrote}
use Rattle.memfs_file.proofs.writing.write_at.Goals as goal

pub returns-clause-ok : goal.returns-clause-ok
returns-clause-ok g c =
    let old = c.args.inode.now in
    let new = c.make_room.new.inode in
    let count : ℕ = c.in_ok-count.count in
    let bytes : List ℕ = take count c.args.bytes.now in
    let grows = c.in_ok-count.ensures.ok in
    let kind : new.kind ≢ 0 = λ e. c.requires.node.1 (sym grows.resizes.fields.0 ∙ e) in
    let clears = c.zero_gap.ensures.clears c.args.number (grows.resizes.has, kind) in
    let len : length bytes ≡ count = omega (arith, length-take count c.args.bytes.now, c.in_ok-count.ensures.count.0, c.min-wanted.ensures) in
    let size : max old.size (c.args.at + count) ≡ max old.size (c.args.at + length bytes) = omega (arith, len) in
    overwrote c.args.number (g.B.Blocks.blocks c.args.b.now) old (max old.size (c.args.at + count)) (g.B.Blocks.blocks c.make_room.new.b) new c.args.at (g.B.Blocks.blocks c.zero_gap.new.b)
    (record { from = data_blocks c.args.at; until = (c.args.at + count) / block_size; grows = grows; whole = λ k lt. inl (omega (arith, lt)); clears = clears }) bytes (g.B.Blocks.blocks c.put_bytes.new.b) size (c.put_bytes.ensures.puts c.args.number (clears.has, kind))

pub returns-clause-lowest : goal.returns-clause-lowest
returns-clause-lowest g c =
    let old = c.args.inode.now in
    let new = c.make_room.new.inode in
    let count : ℕ = c.in_ok-count.count in
    let grows = c.in_ok-count.ensures.ok in
    let kind : new.kind ≢ 0 = λ e. c.requires.node.1 (sym grows.resizes.fields.0 ∙ e) in
    let clears = c.zero_gap.ensures.clears c.args.number (grows.resizes.has, kind) in
    let puts = c.put_bytes.ensures.puts c.args.number (clears.has, kind) in
    takes_lowest (data_blocks c.args.at) ((c.args.at + count) / block_size) c.args.number (g.B.Blocks.blocks c.args.b.now) old (max old.size (c.args.at + count)) (g.B.Blocks.blocks c.make_room.new.b) new (g.B.Blocks.blocks c.put_bytes.new.b) grows
    (puts.changes.blocks ∙ clears.changes.blocks) (puts.map ∙ clears.map)
