use Rattle.std.proofs.Common.{◌≡◌, ◌∙◌, Option, None, Some, refl, sym}
use Rattle.std.specs.Option.{option_map}
use Rattle.kabi_types.specs.declared.replies.Reply.TheVariants.{Pair}
use Rattle.lock_table.specs.Holding.{info_of}
use Rattle.lock_table.specs.declared.locks.LockInfo.{LockInfo}
use Rattle.posix_defs.specs.Calls.OnLocks.{lock_told}
use Rattle.posix_defs.specs.Locks.{Lock}
use Rattle.lock_calls.proofs.telling.told.Goals as goal

some_told : (first : Option Lock) (info : LockInfo) → Some info ≡ option_map info_of first → Pair info.pid info.kind ≡ lock_told first
some_told None info e = cc
some_told (Some lock) info e = cc

none_told : (first : Option Lock) → None ≡ option_map info_of first → Pair 0 2 ≡ lock_told first
none_told None e = refl
none_told (Some lock) e = cc

pub returns-in-Some : goal.returns-in-Some
returns-in-Some c = λ first e. some_told first c.in-Some.lock (sym c.in-Some.is ∙ e)

pub returns-in-None : goal.returns-in-None
returns-in-None c = λ first e. none_told first (sym c.in-None.is ∙ e)
