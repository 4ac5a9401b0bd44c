-- What a need tells of the operands.
use Rattle.std.proofs.Common.{◌≡◌, ◌≢◌, Option, None, Some, cond, is_some, refl, sym, ap}
use Rattle.kabi_types.specs.declared.classes.Need.{Need}
use Rattle.kabi_types.specs.declared.errnos.Errno.{Errno}
use Rattle.kabi_types.specs.Arguments.{argument_fault}
use Rattle.kabi_types.specs.declared.calls.Call.{Call}
use Rattle.posix_defs.specs.Needs.{need_of, objects_of}
use Rattle.posix_defs.specs.Sizes.{no_need}

-- a call that may fill names has its operands right
pub right_by_need : (call : Call) (need : Need) → need ≡ need_of call → need.name ≢ 0 → None ≡ argument_fault call
unfolding need_of
right_by_need call need is some = go (argument_fault call) (ap (λ (n : Need). n.name) (sym is))
  where
    go : (told : Option Errno) → (cond (is_some told) no_need (objects_of call)).name ≡ need.name → None ≡ told
    go None same = refl
    go (Some which) same = absurd (some (sym same))
