-- Which calls may block.
use Rattle.std.proofs.Common.{◌≡◌, ℕ, ℤ, List, Option, None, Some, cond, refl, sym, ap, ◌∙◌}
use Rattle.std.specs.Prelude.{is_none}
use Rattle.kabi_types.specs.Arguments.{argument_fault}
use Rattle.kabi_types.specs.declared.calls.Call.{Call}
use Rattle.kabi_types.specs.declared.calls.CallKind.{CallKind}
use Rattle.kabi_types.specs.declared.calls.CallKind.TheVariants as kind
use Rattle.posix_defs.specs.Made.{made}
use Rattle.kabi_types.specs.declared.errnos.Errno.{Errno}
use Rattle.prog_ctl.specs.Waits.{wait_of}
use Rattle.prog_ctl.specs.declared.waits.Awaited.TheVariants.{OtherSide}

-- a call of none of the kinds that may block waits for nothing
pub waits_for_none : (which : CallKind) (numbers : List ℤ) (texts : List (List ℕ)) (done : ℕ)
    → (which ≡ kind.Waitpid → ⊥) → (which ≡ kind.Read → ⊥) → (which ≡ kind.Write → ⊥) → (which ≡ kind.Accept → ⊥) → (which ≡ kind.Poll → ⊥) → (which ≡ kind.OpenFile → ⊥) → (which ≡ kind.Setlkw → ⊥)
    → wait_of (made which numbers texts done) ≡ None
waits_for_none kind.Waitpid numbers texts done w r t a p o l = absurd (w refl)
waits_for_none kind.Read numbers texts done w r t a p o l = absurd (r refl)
waits_for_none kind.Write numbers texts done w r t a p o l = absurd (t refl)
waits_for_none kind.Accept numbers texts done w r t a p o l = absurd (a refl)
waits_for_none kind.Poll numbers texts done w r t a p o l = absurd (p refl)
waits_for_none kind.OpenFile numbers texts done w r t a p o l = absurd (o refl)
waits_for_none kind.Setlkw numbers texts done w r t a p o l = absurd (l refl)
waits_for_none _ numbers texts done w r t a p o l = refl

-- an `open` waits for the other side where nothing is wrong with its operands, and else for nothing
pub open_waits : (asked : Call) (numbers : List ℤ) (texts : List (List ℕ)) (done : ℕ) → asked ≡ made kind.OpenFile numbers texts done → argument_fault asked ≡ None
    → Some OtherSide ≡ wait_of (made kind.OpenFile numbers texts done)
open_waits asked numbers texts done is right = ap (λ (fault : Option Errno). cond (is_none fault) (Some OtherSide) None) (sym right ∙ ap argument_fault is)

pub open_fails : (asked : Call) (numbers : List ℤ) (texts : List (List ℕ)) (done : ℕ) (errno : Errno) → asked ≡ made kind.OpenFile numbers texts done → argument_fault asked ≡ Some errno
    → None ≡ wait_of (made kind.OpenFile numbers texts done)
open_fails asked numbers texts done errno is wrong = ap (λ (fault : Option Errno). cond (is_none fault) (Some OtherSide) None) (sym wrong ∙ ap argument_fault is)
