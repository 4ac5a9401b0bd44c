use Rattle.std.proofs.Common.{◌≡◌, ◌<◌, ℕ, zero, suc, true, replicate, refl, arith}
use Rattle.proc_files.specs.Ending.{is_marked}
use Rattle.proc_files.proofs.ending.all_marks.Goals as goal
use Rattle.kabi_types.specs.Arguments.{most_descriptors}

each_marked : (n fd : ℕ) → fd < n → is_marked (replicate n true) fd ≡ true
each_marked zero fd below = absurd (omega (arith, below))
each_marked (suc n) zero below = refl
each_marked (suc n) (suc fd) below = each_marked n fd (omega (arith, below))

pub returns : goal.returns
returns c = λ fd below. each_marked most_descriptors fd below
