use Rattle.std.proofs.Common.{◌≡◌, ℕ, ◌+◌, ◌-◌, ◌*◌, ◌/◌, ◌++◌, List, length, min, take, drop, sym, ap, ◌∙◌, subst, arith}
use Rattle.std.proofs.lemmas.List.{length-take}
use Rattle.std.specs.List.{AllByRecursion}
use Rattle.posix_defs.specs.DiskFormat.{block_size}
use Rattle.posix_defs.specs.DiskContents.{data_block, node_bytes}
use Rattle.posix_defs.specs.SoundDisk.{HasNode}
use Rattle.memfs_node.proofs.Looking.{same_directory}
use Rattle.memfs_file.specs.Ranges.{asked_to_read}
use Rattle.cached_disk.specs.Lent.{IsCached}
use Rattle.memfs_ops.specs.FileTree.{TreeView}
use Rattle.memfs_ops.proofs.FetchLemmas.{used_fetches, listed_bytes, listed_count, whole_rest, asked_alike, last_alike}
use Rattle.memfs_ops.proofs.file_tree.FileTree.list_node.Goals as goal

pub held_inode-inode-requires : goal.held_inode-inode-requires
held_inode-inode-requires c =
    let r = c.requires.stands in
    (r.0, r.1, r.2, r.3)

pub read_bytes-requires-clause-stands : goal.read_bytes-requires-clause-stands
read_bytes-requires-clause-stands c =
    let r = c.requires.stands in
    (r.0, r.1, c.held_inode-inode.ensures.stands r.0 r.1 r.2)

pub read_bytes-requires-clause-node : goal.read_bytes-requires-clause-node
read_bytes-requires-clause-node c =
    let h = c.held_inode-inode in
    (c.args.node, subst (λ (v : TreeView). HasNode v.disk.blocks c.args.node h.result) (sym h.ensures.used.same) h.ensures.has)

pub returns-clause-count : goal.returns-clause-count
returns-clause-count c = λ tree pins stands.
    let r = c.requires.stands in
    let h = c.held_inode-inode in
    let b = c.read_bytes in
    let disk : List (List ℕ) = c.args.self.now.disk.blocks in
    let room : ℕ = length c.args.out.now in
    let whole : ℕ = room / 32 * 32 in
    let wide : whole ≡ 32 * (room / 32) = omega arith in
    let long : length (take whole c.args.out.now) ≡ min whole room = length-take whole c.args.out.now in
    let count : b.result ≡ min whole (h.result.size - c.place_of.result) = omega (arith, b.ensures.count, long, wide) in
    listed_count disk tree c.args.node c.args.at c.place_of.result room whole b.result h.result stands.behind (same_directory disk r.0 tree c.args.node r.2.behind stands.behind r.4) h.ensures.has c.place_of.ensures wide count

pub returns-clause-bytes : goal.returns-clause-bytes
returns-clause-bytes c = λ tree pins stands.
    let r = c.requires.stands in
    let h = c.held_inode-inode in
    let b = c.read_bytes in
    let disk : List (List ℕ) = c.args.self.now.disk.blocks in
    let out : List ℕ = c.args.out.now in
    let room : ℕ = length out in
    let whole : ℕ = room / 32 * 32 in
    let wide : whole ≡ 32 * (room / 32) = omega arith in
    let long : length (take whole out) ≡ min whole room = length-take whole out in
    let count : b.result ≡ min whole (h.result.size - c.place_of.result) = omega (arith, b.ensures.count, long, wide) in
    let bytes : List ℕ = take b.result (drop c.place_of.result (node_bytes disk h.result)) in
    let is : b.new.out ≡ bytes ++ drop b.result (take whole out) =
    subst (λ (v : TreeView). b.new.out ≡ take b.result (drop c.place_of.result (node_bytes v.disk.blocks h.result)) ++ drop b.result (take whole out)) h.ensures.used.same b.ensures.bytes in
    ap (λ (l : List ℕ). l ++ drop whole out) is
    ∙ whole_rest bytes out b.result whole (omega (arith, count)) (omega (arith, wide))
    ∙ ap (λ (l : List ℕ). l ++ drop b.result out) (listed_bytes disk tree c.args.node c.args.at c.place_of.result room whole b.result h.result stands.behind (same_directory disk r.0 tree c.args.node r.2.behind stands.behind r.4) h.ensures.has c.place_of.ensures wide count)

pub returns-clause-fetches : goal.returns-clause-fetches
returns-clause-fetches c =
    let h = c.held_inode-inode in
    used_fetches c.args.heap.now c.read_bytes.new.heap c.args.purse.now c.read_bytes.new.purse c.args.self.now h.new.self c.read_bytes.new.self h.ensures.used h.ensures.stands c.read_bytes.ensures.fetches

pub returns-clause-saved : goal.returns-clause-saved
returns-clause-saved c = λ inode has all.
    let h = c.held_inode-inode in
    let b = c.read_bytes in
    let disk : List (List ℕ) = c.args.self.now.disk.blocks in
    let room : ℕ = length c.args.out.now in
    let whole : ℕ = room / 32 * 32 in
    let long : length (take whole c.args.out.now) ≡ min whole room = length-take whole c.args.out.now in
    let count : b.result ≡ min whole (h.result.size - c.place_of.result) = omega (arith, b.ensures.count, long) in
    let asked = asked_alike disk c.args.node c.args.at c.place_of.result whole b.result inode h.result has h.ensures.has c.place_of.ensures count in
    let known = subst (λ (l : List ℕ). AllByRecursion (IsCached c.args.self.now.blocks) l) asked all in
    let then = subst (λ (v : TreeView). AllByRecursion (IsCached v.blocks) (asked_to_read v.disk.blocks h.result c.place_of.result b.result)) (sym h.ensures.used.same) known in
    b.ensures.saved then ∙ ap (λ (v : TreeView). v.disk) h.ensures.used.same

pub returns-clause-last : goal.returns-clause-last
returns-clause-last c = λ inode has some.
    let h = c.held_inode-inode in
    let b = c.read_bytes in
    let disk : List (List ℕ) = c.args.self.now.disk.blocks in
    let room : ℕ = length c.args.out.now in
    let whole : ℕ = room / 32 * 32 in
    let long : length (take whole c.args.out.now) ≡ min whole room = length-take whole c.args.out.now in
    let count : b.result ≡ min whole (h.result.size - c.place_of.result) = omega (arith, b.ensures.count, long) in
    let there = subst (λ (v : TreeView). IsCached b.new.self.blocks (data_block v.disk.blocks h.result ((c.place_of.result + b.result - 1) / block_size))) h.ensures.used.same (b.ensures.last some) in
    subst (λ (n : ℕ). IsCached b.new.self.blocks n) (last_alike disk c.args.node c.args.at c.place_of.result whole b.result inode h.result has h.ensures.has c.place_of.ensures count some) there
