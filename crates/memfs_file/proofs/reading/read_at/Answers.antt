use Rattle.std.proofs.Common.{◌≡◌, ℕ, List, ◌++◌, length, take, drop, ap, ◌∙◌, arith, length-take}
use Rattle.posix_defs.specs.DiskContents.{node_bytes}
use Rattle.memfs_file.proofs.Bytes.{bytes_from}
use Rattle.memfs_file.proofs.reading.read_at.Goals as goal

pub returns-clause-bytes : goal.returns-clause-bytes
returns-clause-bytes g c =
    let disk : List (List ℕ) = g.B.Blocks.blocks c.args.b.now in
    let count : ℕ = c.min-count.result in
    let part : List ℕ = c.read_range.new.out in
    let room : length (take count c.args.out.now) ≡ count = omega (arith, length-take count c.args.out.now, c.min-count.ensures) in
    let len : length part ≡ count = c.read_range.auto.out ∙ room in
    let is : part ≡ take (length part) (drop c.args.at (node_bytes disk c.args.inode.now)) = bytes_from disk c.args.inode.now c.args.at part (omega (arith, len, c.min-count.ensures, c.saturating_sub-there.ensures, c.if-count-eq0.false)) (λ k lt. c.read_range.ensures.bytes k (omega (arith, lt, len, room))) in
    ap (λ (xs : List ℕ). xs ++ drop count c.args.out.now) (is ∙ ap (λ (n : ℕ). take n (drop c.args.at (node_bytes disk c.args.inode.now))) len)
