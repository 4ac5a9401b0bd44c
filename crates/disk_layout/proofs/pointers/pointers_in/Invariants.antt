use Rattle.std.proofs.Common.{◌≡◌, ℕ, ◌<◌, length, get_or}
use Rattle.posix_defs.specs.SoundDisk.{pointer_at}
use Rattle.disk_layout.proofs.pointers.pointers_in.Given as goal

abbrev pub invariant-loop-place : goal.invariant-loop-place
invariant-loop-place l = record { len : length l.pointers ≡ 256; read : (k : ℕ) → k < l.place → get_or l.pointers k 0 ≡ pointer_at l.block k }
