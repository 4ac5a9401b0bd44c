use Rattle.std.proofs.Common.{◌≡◌, ℕ, ◌+◌, ◌-◌, ◌/◌, ◌<◌, List, subst, arith, rules}
use Rattle.std.specs.List.{AllByRecursion}
use Rattle.posix_defs.specs.Asking.{AskedInTurn}
use Rattle.posix_defs.specs.DiskFormat.{block_size}
use Rattle.posix_defs.specs.DiskContents.{data_block}
use Rattle.memfs_file.specs.Ranges.{asked_to_read}
use Rattle.cached_disk.specs.Lent.{Parts, parts, Asked, IsCached, IsReordered}
use Rattle.cached_disk.specs.declared.blocks.CachedBlocks.{CachedBlocks}
use Rattle.memfs_dir.proofs.Found.{asked_through}
use Rattle.cached_disk.proofs.InTurn.{nothing_read, last_cached}
use Rattle.cached_disk.proofs.LastBlock.{read_ends}
use Rattle.cached_disk.proofs.through.read_through.Goals as goal

abbrev of : CachedBlocks → Parts
of b = parts b.heap.now b.purse.now b.cache.now b.disk.now

pub returns-clause-saved : goal.returns-clause-saved
returns-clause-saved c =
    let before = parts c.args.heap.now c.args.purse.now c.args.cache.now c.args.disk.now in
    let blocks : List ℕ = asked_to_read c.args.disk.now.blocks c.args.inode.now c.args.at c.read_at.result in
    let asked : AskedInTurn Asked before blocks (of c.read_at.new.b) = asked_through of Asked _ blocks c.read_at.new.b c.read_at.ensures.asked in
    let saved : AllByRecursion (IsCached c.args.cache.now) blocks → IsReordered before (of c.read_at.new.b) = λ all. nothing_read blocks before (of c.read_at.new.b) all asked in
    search rules

pub returns-clause-last : goal.returns-clause-last
returns-clause-last c =
    let disk = c.args.disk.now.blocks in
    let inode = c.args.inode.now in
    let count : ℕ = c.read_at.result in
    let before = parts c.args.heap.now c.args.purse.now c.args.cache.now c.args.disk.now in
    let asked : AskedInTurn Asked before (asked_to_read disk inode c.args.at count) (of c.read_at.new.b) = asked_through of Asked _ (asked_to_read disk inode c.args.at count) c.read_at.new.b c.read_at.ensures.asked in
    let last : 0 < count → IsCached c.read_at.new.b.cache.now (data_block disk inode ((c.args.at + count - 1) / block_size)) = λ some.
    let ends = read_ends disk inode c.args.at count (λ none. omega arith) in
    last_cached ends.0 (data_block disk inode ((c.args.at + count - 1) / block_size)) before (of c.read_at.new.b) (subst (λ (l : List ℕ). AskedInTurn Asked before l (of c.read_at.new.b)) ends.1 asked) in
    search rules
