-- A node that grows and shrinks back.
use Rattle.std.proofs.Common.{◌≡◌, ℕ, ◌≤◌, List, ap, subst, ◌∙◌, arith}
use Rattle.kabi_types.specs.declared.inodes.Inode.{Inode}
use Rattle.posix_defs.specs.DiskFormat.{blocks_of}
use Rattle.posix_defs.specs.SoundDisk.{block_bytes, free_in_map}
use Rattle.posix_defs.specs.DiskContents.{data_block, node_bytes}
use Rattle.posix_defs.specs.DiskTree.{ChangesNode}
use Rattle.posix_defs.specs.NodeChange.{Grows, Resizes}
use Rattle.disk_laws.proofs.OneNode.{same_bytes}

pub bytes_are_back : (number size : ℕ) (first second third : List (List ℕ)) (old grown new : Inode) → old.size ≤ size → Grows number first old size second grown → Resizes number second grown old.size third new
    → node_bytes third new ≡ node_bytes first old
bytes_are_back number size first second third old grown new le grows back =
    let up = grows.resizes in
    same_bytes first third old new back.fields.2 (
    λ index lt.
    let one = up.kept index lt (omega (arith, lt, le)) in
    let two = back.kept index (omega (arith, lt, le, up.fields.2)) lt in
    let block : block_bytes third (data_block first old index) ≡ block_bytes second (data_block first old index) =
    subst (λ (n : ℕ). block_bytes third n ≡ block_bytes second n) one.0 two.1 in
    (two.0 ∙ one.0, block ∙ one.1)
    )

pub changes_follow : (number : ℕ) (first second third : List (List ℕ)) → ChangesNode first second number → ChangesNode second third number → ChangesNode first third number
changes_follow number first second third one two =
    record {
      sound = two.sound;
      blocks = two.blocks ∙ one.blocks;
      inodes = λ other inode apart has. two.inodes other inode apart (one.inodes other inode apart has);
      bytes = λ other inode apart has. two.bytes other inode apart (one.inodes other inode apart has) ∙ one.bytes other inode apart has;
      names = λ other inode place apart has within. two.names other inode place apart (one.inodes other inode apart has) within ∙ one.names other inode place apart has within;
    }

pub free_is_back : (number size : ℕ) (first second third : List (List ℕ)) (old grown new : Inode) → Grows number first old size second grown → Resizes number second grown old.size third new
    → free_in_map third ≡ free_in_map first
free_is_back number size first second third old grown new grows back =
    let same : blocks_of grown.size ≡ blocks_of size = ap blocks_of grows.resizes.fields.2 in
    omega (arith, back.free, grows.resizes.free, same)
