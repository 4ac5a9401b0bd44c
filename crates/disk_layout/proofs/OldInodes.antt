-- What was an inode before there was a double block is one.
use Rattle.std.proofs.Common.{◌≡◌, ℕ, ◌*◌, ◌≤◌, Bool, refl, sym, subst, arith}
use Rattle.std.proofs.lemmas.Bool.{le-ltb}
use Rattle.posix_defs.specs.DiskFormat.{block_size, near_blocks, IsPointer, IsInode, inode_bytes}
use Rattle.disk_layout.specs.OldInode.{OldInode, IsOldInode, old_inode_bytes, renewed}

pub old_is_one : (blocks : ℕ) (old : OldInode) → IsOldInode blocks old → IsInode blocks (renewed old)
old_is_one blocks old is =
    record {
      fits = record { kind = omega (arith, is.kind); nlink = omega (arith, is.links); size = omega (arith, is.size); count = is.count; direct = is.fits.0; indirect = is.fits.1; double = omega arith };
      kind = record { kind = omega (arith, is.kind); links = is.links; size = omega (arith, is.size); free = is.free; entries = is.entries; name = is.name; fifo = λ at. absurd (omega (arith, at, is.kind)) };
      pointers = record {
        direct = is.direct;
        indirect = is.indirect;
        double = subst (λ (needed : Bool). IsPointer blocks needed 0) (sym (le-ltb (near_blocks * block_size) old.size (omega (arith, is.size)))) refl;
      };
    }

-- four zeros in place of the pointer, and eight behind them
pub old_bytes : (old : OldInode) → inode_bytes (renewed old) ≡ old_inode_bytes old
unfolding inode_bytes
old_bytes old = refl
