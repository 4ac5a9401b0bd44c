use Rattle.std.proofs.Common.{◌≡◌, Bool, true, false, Option, None, Some, is_none, is_some, refl}
use Rattle.std.specs.Option.{option_map}
use Rattle.kheap_laws.proofs.PaidLemmas.{IsPaid-nothing}
use Rattle.store_objects.proofs.CallingOpens.{takes_none}
use Rattle.lock_table.specs.Holding.{info_of}
use Rattle.lock_table.specs.declared.locks.LockInfo.{LockInfo}
use Rattle.posix_defs.specs.Locks.{Lock}
use Rattle.lock_calls.proofs.setting.set_if_clear.Goals as goal

tells : (first : Option Lock) (told : Option LockInfo) (some b : Bool) → told ≡ option_map info_of first → some ≡ is_some told → some ≡ b → (b ≡ true → false ≡ is_none first) × (b ≡ false → true ≡ is_none first)
tells None told some b is of same = (λ yes. cc, λ no. refl)
tells (Some lock) told some b is of same = (λ yes. refl, λ no. cc)

pub returns-then-is_some-clause-clear : goal.returns-then-is_some-clause-clear
returns-then-is_some-clause-clear c = λ locks holds. (tells _ _ _ true (c.conflict-first.ensures locks holds) c.is_some.ensures c.if-is_some.true).0 refl

pub returns-then-is_some-clause-locks : goal.returns-then-is_some-clause-locks
returns-then-is_some-clause-locks c = λ locks holds. holds

pub returns-then-is_some-clause-paid : goal.returns-then-is_some-clause-paid
returns-then-is_some-clause-paid c = IsPaid-nothing _ _ _ _ (takes_none c.args.objects.now.heap) refl refl

pub returns-clause-clear : goal.returns-clause-clear
returns-clause-clear c = λ locks holds. (tells _ _ _ false (c.conflict-first.ensures locks holds) c.is_some.ensures c.if-is_some.false).1 refl

pub returns-clause-locks : goal.returns-clause-locks
returns-clause-locks c = λ locks holds. c.set.ensures.holds locks holds
