use Rattle.std.proofs.Common.{◌≡◌, ℕ, ◌<◌, length, get_or}
use Rattle.posix_defs.specs.DiskContents.{first_marked}
use Rattle.disk_layout.proofs.disks.map_of.Given as goal

abbrev pub invariant-loop-place : goal.invariant-loop-place
invariant-loop-place l = record { len : length l.map ≡ 1024; bytes : (k : ℕ) → k < l.place → get_or l.map k 0 ≡ first_marked l.used k }
