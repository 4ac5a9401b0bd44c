use Rattle.std.proofs.Common.{◌≡◌, ap, refl, ◌∙◌, arith, ◌+◌, ◌-◌, ◌/◌, ◌++◌, List, ℕ, replicate, set, length}
use Rattle.posix_defs.specs.DiskFormat.{inode_bytes}
use Rattle.posix_defs.specs.DiskContents.{zeros, new_root}
use Rattle.disk_laws.proofs.FormattedDisk.{new_is_sound, new_root_is_empty}
use Rattle.disk_laws.proofs.DiskStands.{formatted_stands}
use Rattle.disk_layout.proofs.NewDisk.{is_formatted, length-new_root}
use Rattle.disk_layout.proofs.RegionBlocks.{two_regions}
use Rattle.std.proofs.lemmas.List.{length-set, length-replicate}
use Rattle.disk_layout.proofs.TableBlocks.{noted_none}
use Rattle.disk_layout.proofs.disks.RamDisk.boot.Goals as goal

pub returns-clause-formatted : goal.returns-clause-formatted
returns-clause-formatted c =
    let blocks : ℕ = c.args.blocks in
    let first : ℕ = blocks / 16 + 1 in
    let zero : List ℕ = zeros 1024 in
    let bytes : c.bytes_of.result ≡ inode_bytes (new_root blocks) = c.bytes_of.ensures ∙ ap inode_bytes c.root_of.ensures in
    let table : c.block_of.result ≡ inode_bytes (new_root blocks) ++ zeros (1024 - 64) =
    c.block_of.ensures ∙ ap (λ (x : List ℕ). x ++ zeros (1024 - length x)) bytes ∙ ap (λ (n : ℕ). inode_bytes (new_root blocks) ++ zeros (1024 - n)) (length-new_root blocks) in
    let front : c.write-2.new.self ≡ set (set (replicate first zero) 0 c.map_of.result) 1 c.block_of.result =
    c.write-2.ensures ∙ ap (λ (x : List (List ℕ)). set x 1 c.block_of.result) (c.write.ensures ∙ ap (λ (x : List (List ℕ)). set x 0 c.map_of.result) c.in_ok-table.ensures) in
    let behind : c.write-3.new.self ≡ set (replicate (blocks - first) zero) 0 c.root_entries.result =
    c.write-3.ensures ∙ ap (λ (x : List (List ℕ)). set x 0 c.root_entries.result) c.in_ok-contents.ensures in
    let disk_is = ap (λ (x : List (List ℕ)). x ++ c.write-3.new.self) front ∙ ap (λ (x : List (List ℕ)). set (set (replicate first zero) 0 c.map_of.result) 1 c.block_of.result ++ x) behind
    ∙ two_regions blocks first zero c.map_of.result c.block_of.result c.root_entries.result (omega (arith, c.requires.0)) (omega (arith, c.requires.0)) in
    is_formatted blocks first 1024 (replicate blocks zero) _ zero c.map_of.result c.block_of.result c.root_entries.result
    c.requires.0 refl refl refl refl disk_is c.map_of.ensures.len c.map_of.ensures.bytes table c.root_entries.ensures

pub invariant_of-result : goal.invariant_of-result
invariant_of-result c =
    let first : ℕ = c.args.blocks / 16 + 1 in
    let front : length c.write-2.new.self ≡ first =
    ap length c.write-2.ensures ∙ length-set c.write.new.self 1 c.block_of.result ∙ ap length c.write.ensures ∙ length-set c.in_ok-table.table 0 c.map_of.result ∙ ap length c.in_ok-table.ensures ∙ length-replicate first (zeros 1024) in
    let behind : length c.write-3.new.self ≡ c.args.blocks - first =
    ap length c.write-3.ensures ∙ length-set c.in_ok-contents.contents 0 c.root_entries.result ∙ ap length c.in_ok-contents.ensures ∙ length-replicate (c.args.blocks - first) (zeros 1024) in
    (omega (arith, front, behind, c.requires.0, c.requires.1), noted_none 32 c.write-2.new.self c.write-3.new.self (omega (arith, front, behind, c.requires.0)))

pub returns-clause-sound : goal.returns-clause-sound
returns-clause-sound c = new_is_sound c.args.blocks _ c.requires.0 c.requires.1 (returns-clause-formatted c)

pub returns-clause-root : goal.returns-clause-root
returns-clause-root c = new_root_is_empty c.args.blocks _ c.requires.0 c.requires.1 (returns-clause-formatted c)

pub returns-clause-tree : goal.returns-clause-tree
returns-clause-tree c = formatted_stands c.args.blocks _ c.requires.0 c.requires.1 (returns-clause-formatted c)
