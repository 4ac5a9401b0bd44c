use Rattle.std.proofs.Common.{◌≡◌, ◌≢◌, ℕ, ◌+◌, ◌-◌, ◌*◌, ◌/◌, ◌<◌, ◌≤◌, Result, Ok, Err, IfErr, ap, ◌∙◌, arith}
use Rattle.kabi_types.specs.declared.errnos.Errno.{Errno}
use Rattle.kabi_types.specs.declared.errnos.Errno.TheVariants.{EFBIG, ENOSPC}
use Rattle.posix_defs.specs.DiskFormat.{data_blocks, most_blocks}
use Rattle.blk_map.proofs.growing.grow_but.Goals as goal

-- where there is no room for it the answer isn't that it is too big
not_big : (answer : Result (Unit {0}) Errno) (One Other : Type 0) → IfErr answer (λ fault. (fault ≡ ENOSPC) × One × Other) → answer ≢ Err EFBIG
not_big (Ok done) One Other err = λ e. absurd cc
not_big (Err fault) One Other err = λ e. let full : fault ≡ ENOSPC = err.0 in absurd cc

within_run : (n size run_size : ℕ) → run_size ≡ 1024 * (10 + 256 * ((n - 10) / 256 + 1)) → size ≤ run_size → (size + 1023) / 1024 ≤ 10 + 256 * ((n - 10) / 256 + 1)
within_run n size run_size is le = omega (arith, is, le)

pub size_in_run-requires : goal.size_in_run-requires
size_in_run-requires g c = omega (arith, c.requires.node.0.valid.kind.size, c.data_count-2.ensures)

pub grow_in_run-requires-clause-run : goal.grow_in_run-requires-clause-run
grow_in_run-requires-clause-run g c =
    within_run (data_blocks c.args.inode.now.size) c.args.size c.size_in_run.result (c.size_in_run.ensures ∙ ap (λ (n : ℕ). 1024 * (10 + 256 * ((n - 10) / 256 + 1))) c.data_count-2.ensures) (omega arith)
