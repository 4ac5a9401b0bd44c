-- Which calls block.
use Rattle.std.proofs.Common.{◌≡◌, ℕ, ℤ, Bool, true, false, cond, List, Option, None, Some, refl, ap, sym, subst, ◌∙◌, ◌⊎◌, inl, inr}
use Rattle.std.specs.Prelude.{is_none}
use Rattle.kabi_types.specs.Arguments.{argument_fault}
use Rattle.kabi_types.specs.declared.calls.Call.{Call}
use Rattle.kabi_types.specs.declared.calls.Call.TheVariants as call
use Rattle.kabi_types.specs.declared.errnos.Errno.{Errno}
use Rattle.kabi_types.specs.declared.scripts.Script.{Script}
use Rattle.answer_laws.specs.Shapes.{may_block}
use Rattle.answer_laws.proofs.Blocking.{blocked_may}
use Rattle.posix_defs.specs.Answer.{Answer, Blocked}
use Rattle.posix_defs.specs.Calls.OnFiles.{open_file}
use Rattle.posix_defs.specs.Machine.{blocks, machine, unless_wrong}
use Rattle.posix_defs.specs.Plain.{Plain}
use Rattle.posix_defs.specs.Waiting.{waitpid}
use Rattle.prog_ctl.specs.Waits.{wait_of}
use Rattle.prog_ctl.specs.declared.waits.Awaited.{Awaited}
use Rattle.prog_ctl.specs.declared.waits.Awaited.TheVariants.{Child, Bytes, Room, Peer, Events, OtherSide, Lock}

-- whether a wait with right operands blocks
pub blocks_as : (script : Script) (plain : Plain) (pid : ℕ) (which options : ℤ) → argument_fault (call.Waitpid which options) ≡ None
    → blocks (machine script plain pid (call.Waitpid which options)) ≡ blocks (waitpid script plain pid which options)
blocks_as script plain pid which options right = ap (λ fault. blocks (unless_wrong script plain pid fault (waitpid script plain pid which options))) right

-- one with a wrong operand doesn't
pub wrong_goes_on : (script : Script) (plain : Plain) (pid : ℕ) (which options : ℤ) → is_none (argument_fault (call.Waitpid which options)) ≡ false
    → blocks (machine script plain pid (call.Waitpid which options)) ≡ false
wrong_goes_on script plain pid which options wrong = go (argument_fault (call.Waitpid which options)) wrong
  where
    go : (fault : Option Errno) → is_none fault ≡ false → blocks (unless_wrong script plain pid fault (waitpid script plain pid which options)) ≡ false
    go None e = cc
    go (Some errno) e = refl

-- what is right has no fault
pub no_fault : (fault : Option Errno) → is_none fault ≡ true → fault ≡ None
no_fault None e = refl
no_fault (Some errno) e = cc

-- so an open with right operands does as the definition says
pub opens_as : (script : Script) (plain : Plain) (pid : ℕ) (path : List ℕ) (flags : ℤ) → argument_fault (call.OpenFile path flags) ≡ None
    → blocks (machine script plain pid (call.OpenFile path flags)) ≡ blocks (open_file script plain pid path flags)
opens_as script plain pid path flags right = ap (λ fault. blocks (unless_wrong script plain pid fault (open_file script plain pid path flags))) right

-- ---- the call that waits

-- the call waits for this; an open whose operands are right for the other side
abbrev pub WaitsFor : Awaited → Call → Type 0
WaitsFor (Child pid options) which = call.Waitpid pid options ≡ which
WaitsFor (Bytes fd addr n) which = call.Read fd addr n ≡ which
WaitsFor (Room fd addr n done) which = call.Write fd addr n done ≡ which
WaitsFor (Peer fd) which = call.Accept fd ≡ which
WaitsFor (Events timeout entries) which = call.Poll timeout entries ≡ which
WaitsFor (Lock fd kind start length) which = call.Setlkw fd kind start length ≡ which
WaitsFor OtherSide which = (path : List ℕ) × (flags : ℤ) × (call.OpenFile path flags ≡ which) × (argument_fault (call.OpenFile path flags) ≡ None)

same_wait : (wait other : Awaited) (which : Call) → Some wait ≡ Some other → WaitsFor other which → WaitsFor wait which
same_wait wait other which e waits = let same : wait ≡ other = cc in subst (λ w. WaitsFor w which) (sym same) waits

pub is_waiting : (which : Call) (wait : Awaited) → Some wait ≡ wait_of which → WaitsFor wait which
is_waiting (call.Waitpid pid options) wait e = same_wait wait (Child pid options) (call.Waitpid pid options) e refl
is_waiting (call.Read fd addr n) wait e = same_wait wait (Bytes fd addr n) (call.Read fd addr n) e refl
is_waiting (call.Write fd addr n done) wait e = same_wait wait (Room fd addr n done) (call.Write fd addr n done) e refl
is_waiting (call.Accept fd) wait e = same_wait wait (Peer fd) (call.Accept fd) e refl
is_waiting (call.Poll timeout entries) wait e = same_wait wait (Events timeout entries) (call.Poll timeout entries) e refl
is_waiting (call.Setlkw fd kind start length) wait e = same_wait wait (Lock fd kind start length) (call.Setlkw fd kind start length) e refl
is_waiting (call.OpenFile path flags) wait e = go (argument_fault (call.OpenFile path flags)) refl e
  where
    go : (fault : Option Errno) → argument_fault (call.OpenFile path flags) ≡ fault → Some wait ≡ cond (is_none fault) (Some OtherSide) None → WaitsFor wait (call.OpenFile path flags)
    go None right same = same_wait wait OtherSide (call.OpenFile path flags) same (path, flags, refl, right)
    go (Some errno) wrong none = cc
is_waiting _ wait e = cc

-- the call is an open with a wrong operand
abbrev IsWrongOpen : Call → Type 0
IsWrongOpen which = (path : List ℕ) × (flags : ℤ) × (errno : Errno) × (which ≡ call.OpenFile path flags) × (argument_fault (call.OpenFile path flags) ≡ Some errno)

-- a call that waits for nothing never blocks: it is such an open, or one that never does
waits_not : (which : Call) → None ≡ wait_of which → (may_block which ≡ false) ⊎ IsWrongOpen which
waits_not (call.Waitpid pid options) e = cc
waits_not (call.Read fd addr n) e = cc
waits_not (call.Write fd addr n done) e = cc
waits_not (call.Accept fd) e = cc
waits_not (call.Poll timeout entries) e = cc
waits_not (call.Setlkw fd kind start length) e = cc
waits_not (call.OpenFile path flags) e = go (argument_fault (call.OpenFile path flags)) refl e
  where
    go : (fault : Option Errno) → argument_fault (call.OpenFile path flags) ≡ fault → None ≡ cond (is_none fault) (Some OtherSide) None
        → (may_block (call.OpenFile path flags) ≡ false) ⊎ IsWrongOpen (call.OpenFile path flags)
    go None right same = cc
    go (Some errno) wrong none = inr (path, flags, errno, refl, wrong)
waits_not _ e = inl refl

pub goes_on : (script : Script) (plain : Plain) (pid : ℕ) (which : Call) → None ≡ wait_of which → blocks (machine script plain pid which) ≡ false
goes_on script plain pid which none = elim (waits_not which none) [
  | inl never ↦ go never (machine script plain pid which) refl
  | inr wrong ↦
      ap (λ w. blocks (machine script plain pid w)) wrong.3
      ∙ ap (λ fault. blocks (unless_wrong script plain pid fault (open_file script plain pid wrong.0 wrong.1))) wrong.4
]
  where
    both : {X : Type 0} → may_block which ≡ true → may_block which ≡ false → X
    both e f = cc

    go : may_block which ≡ false → (answer : Answer) → machine script plain pid which ≡ answer → blocks answer ≡ false
    go never Blocked is = both (blocked_may script plain pid which is) never
    go never _ is = refl

-- ---- operands are handed on as numbers of 64 bits

module _ (script : Script) (plain : Plain) (pid : ℕ) (which : Call) (told : Bool) where
  pub told_one : (of : ℤ → Call) (x a : ℤ) → x ≡ a → of a ≡ which → told ≡ blocks (machine script plain pid (of x)) → told ≡ blocks (machine script plain pid which)
  told_one of x a e is said = said ∙ ap (λ w. blocks (machine script plain pid w)) (ap of e ∙ is)

  pub told_two : (of : ℤ → ℤ → Call) (x y a b : ℤ) → x ≡ a → y ≡ b → of a b ≡ which → told ≡ blocks (machine script plain pid (of x y)) → told ≡ blocks (machine script plain pid which)
  told_two of x y a b e f is said = said ∙ ap (λ w. blocks (machine script plain pid w)) (ap (λ v. of v y) e ∙ ap (of a) f ∙ is)

  pub told_three : (of : ℤ → ℤ → ℤ → Call) (x y z a b c : ℤ) → x ≡ a → y ≡ b → z ≡ c → of a b c ≡ which → told ≡ blocks (machine script plain pid (of x y z))
      → told ≡ blocks (machine script plain pid which)
  told_three of x y z a b c e f g is said =
      said ∙ ap (λ w. blocks (machine script plain pid w)) (ap (λ v. of v y z) e ∙ ap (λ v. of a v z) f ∙ ap (of a b) g ∙ is)

  pub told_four : (of : ℤ → ℤ → ℤ → ℤ → Call) (x y z w a b c d : ℤ) → x ≡ a → y ≡ b → z ≡ c → w ≡ d → of a b c d ≡ which → told ≡ blocks (machine script plain pid (of x y z w))
      → told ≡ blocks (machine script plain pid which)
  told_four of x y z w a b c d e f g h is said =
      said ∙ ap (λ call. blocks (machine script plain pid call)) (ap (λ v. of v y z w) e ∙ ap (λ v. of a v z w) f ∙ ap (λ v. of a b v w) g ∙ ap (of a b c) h ∙ is)
