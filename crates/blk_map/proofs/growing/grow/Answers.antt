use Rattle.std.proofs.Common.{Result, Ok, Err, OnOk}
use Rattle.kabi_types.specs.declared.errnos.Errno.{Errno}
use Rattle.blk_map.proofs.Growth.{all_zeros}
use Rattle.blk_map.proofs.growing.grow.Goals as goal

on_ok : (answer : Result (Unit {0}) Errno) (Fact Other : Type 0) → (Fact → Other) → OnOk answer Fact → OnOk answer Other
on_ok (Ok _) Fact Other gives fact = gives fact
on_ok (Err _) Fact Other gives fact = fact

pub returns-clause-ok : goal.returns-clause-ok
returns-clause-ok g c = on_ok c.grow_but.result _ _ all_zeros c.grow_but.ensures.ok
