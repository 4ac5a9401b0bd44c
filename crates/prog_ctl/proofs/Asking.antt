-- The kind of a call that is made of a statement, and the bound of one whose price is nothing.
use Rattle.std.proofs.Common.{◌≡◌, ℕ, ℤ, pos, List, Bool, true, false, cond, Option, None, Some, refl, ap, sym, ◌∙◌, is_none, is_some}
use Rattle.kabi_types.specs.Arguments.{argument_fault, is_number, path_fault}
use Rattle.kabi_types.specs.Call.{kind_of}
use Rattle.kabi_types.specs.declared.calls.Call.{Call}
use Rattle.kabi_types.specs.declared.calls.Call.TheVariants as call
use Rattle.kabi_types.specs.declared.calls.CallKind.{CallKind}
use Rattle.kabi_types.specs.declared.calls.CallKind.TheVariants as kind
use Rattle.kabi_types.specs.declared.errnos.Errno.{Errno}
use Rattle.kabi_types.specs.declared.scripts.Control.{Control}
use Rattle.kabi_types.specs.declared.scripts.Operand.{Operand}
use Rattle.kabi_types.specs.declared.scripts.Statement.{Statement}
use Rattle.kabi_types.specs.declared.scripts.Statement.TheVariants as statement
use Rattle.posix_defs.specs.Control.{call_at}
use Rattle.posix_defs.specs.Made.{made, number_at, text_at}
use Rattle.posix_defs.specs.Needs.{bound, cost}
use Rattle.posix_defs.specs.PriceList.{price_of}
use Rattle.posix_defs.specs.declared.prices.Price.{Price}
use Rattle.posix_defs.specs.declared.prices.Price.TheVariants.{Always, Copied}
use Rattle.prog_ctl.specs.Runnable.{IsNeverWrong, TakesPath}
use Rattle.prog_ctl.specs.Waits.{asked_for}

-- a call is of the kind of which it was made
pub kind_made : (which : CallKind) (numbers : List ℤ) (texts : List (List ℕ)) (done : ℕ) → kind_of (made which numbers texts done) ≡ which
kind_made kind.Getpid numbers texts done = refl
kind_made kind.Getppid numbers texts done = refl
kind_made kind.SchedYield numbers texts done = refl
kind_made kind.Fork numbers texts done = refl
kind_made kind.Exec numbers texts done = refl
kind_made kind.Exit numbers texts done = refl
kind_made kind.Waitpid numbers texts done = refl
kind_made kind.Kill numbers texts done = refl
kind_made kind.Mmap numbers texts done = refl
kind_made kind.Munmap numbers texts done = refl
kind_made kind.Store numbers texts done = refl
kind_made kind.Load numbers texts done = refl
kind_made kind.OpenFile numbers texts done = refl
kind_made kind.Close numbers texts done = refl
kind_made kind.Dup numbers texts done = refl
kind_made kind.Dup2 numbers texts done = refl
kind_made kind.Fcntl numbers texts done = refl
kind_made kind.Read numbers texts done = refl
kind_made kind.Write numbers texts done = refl
kind_made kind.Pread numbers texts done = refl
kind_made kind.Pwrite numbers texts done = refl
kind_made kind.Lseek numbers texts done = refl
kind_made kind.Readdir numbers texts done = refl
kind_made kind.Ftruncate numbers texts done = refl
kind_made kind.Fstat numbers texts done = refl
kind_made kind.Stat numbers texts done = refl
kind_made kind.Chdir numbers texts done = refl
kind_made kind.Mkdir numbers texts done = refl
kind_made kind.Rmdir numbers texts done = refl
kind_made kind.Unlink numbers texts done = refl
kind_made kind.Link numbers texts done = refl
kind_made kind.Rename numbers texts done = refl
kind_made kind.Pipe numbers texts done = refl
kind_made kind.Socket numbers texts done = refl
kind_made kind.Socketpair numbers texts done = refl
kind_made kind.Bind numbers texts done = refl
kind_made kind.Listen numbers texts done = refl
kind_made kind.Connect numbers texts done = refl
kind_made kind.Accept numbers texts done = refl
kind_made kind.Shutdown numbers texts done = refl
kind_made kind.Poll numbers texts done = refl
kind_made kind.Signal numbers texts done = refl
kind_made kind.Mkfifo numbers texts done = refl
kind_made kind.Setlk numbers texts done = refl
kind_made kind.Setlkw numbers texts done = refl
kind_made kind.Getlk numbers texts done = refl

-- a call whose price is nothing, whatever its operands are, may use nothing
pub bound_free : (call : Call) → price_of (kind_of call) ≡ Always 0 → bound call ≡ 0
unfolding bound
bound_free call free = go (is_some (argument_fault call)) (ap (λ (price : Price). cost price call) free)
  where
    go : (wrong : Bool) → cost (price_of (kind_of call)) call ≡ 0 → cond wrong 0 (cost (price_of (kind_of call)) call) ≡ 0
    go true none = refl
    go false none = none

-- a call whose price goes by its kind alone may use it, and nothing where an operand is wrong
pub bound_fixed : (call : Call) (bytes : ℕ) → price_of (kind_of call) ≡ Always bytes → bound call ≡ cond (is_none (argument_fault call)) bytes 0
unfolding bound
bound_fixed call bytes fixed = go (argument_fault call) (ap (λ (price : Price). cost price call) fixed)
  where
    go : (fault : Option Errno) → cost (price_of (kind_of call)) call ≡ bytes → cond (is_some fault) 0 (cost (price_of (kind_of call)) call) ≡ cond (is_none fault) bytes 0
    go None is = is
    go (Some _) is = refl

-- what is wrong with a call that takes one path and nothing else is wrong with the path
pub fault_on_path : (which : CallKind) (numbers : List ℤ) (texts : List (List ℕ)) (done : ℕ) → TakesPath which → argument_fault (made which numbers texts done) ≡ path_fault (text_at texts 0)
fault_on_path kind.Exec numbers texts done takes = refl
fault_on_path kind.Stat numbers texts done takes = refl
fault_on_path kind.Chdir numbers texts done takes = refl
fault_on_path kind.Mkdir numbers texts done takes = refl
fault_on_path kind.Rmdir numbers texts done takes = refl
fault_on_path kind.Unlink numbers texts done takes = refl
fault_on_path kind.Mkfifo numbers texts done takes = refl
fault_on_path _ numbers texts done takes = absurd takes

-- of these calls nothing can be wrong
pub fault_never : (which : CallKind) (numbers : List ℤ) (texts : List (List ℕ)) (done : ℕ) → IsNeverWrong which → argument_fault (made which numbers texts done) ≡ None
fault_never kind.Fork numbers texts done never = refl
fault_never kind.Dup numbers texts done never = refl
fault_never kind.Dup2 numbers texts done never = refl
fault_never kind.Pipe numbers texts done never = refl
fault_never kind.Socket numbers texts done never = refl
fault_never kind.Socketpair numbers texts done never = refl
fault_never kind.Accept numbers texts done never = refl
fault_never _ numbers texts done never = absurd never

-- the bound of a call, by what is wrong with it
pub bound_by_fault : (which : CallKind) (numbers : List ℤ) (texts : List (List ℕ)) (done bytes : ℕ) (right : Bool) (fault : Option Errno) → price_of which ≡ Always bytes
    → argument_fault (made which numbers texts done) ≡ fault → right ≡ is_none fault → cond right bytes 0 ≡ bound (made which numbers texts done)
bound_by_fault which numbers texts done bytes right fault price is said =
    ap (λ (b : Bool). cond b bytes 0) (said ∙ ap is_none (sym is)) ∙ sym (bound_fixed (made which numbers texts done) bytes (ap price_of (kind_made which numbers texts done) ∙ price))

-- of what makes a further descriptor alone the price goes by whether it does
pub copied_is : {bytes : ℕ} (which : CallKind) → price_of which ≡ Copied bytes → which ≡ kind.Fcntl
copied_is kind.Fcntl is = refl
copied_is _ is = cc

-- and another command may use nothing
pub bound_other : (numbers : List ℤ) (texts : List (List ℕ)) (done : ℕ) → is_number 0 (number_at numbers 1) ≡ false → bound (made kind.Fcntl numbers texts done) ≡ 0
unfolding bound
bound_other numbers texts done other = go (is_some (argument_fault (made kind.Fcntl numbers texts done)))
  where
    go : (wrong : Bool) → ◌≡◌ {A = ℕ} (cond wrong 0 (cond (is_number 0 (number_at numbers 1)) 256 0)) 0
    go true = refl
    go false = ap {B = ℕ} (λ (b : Bool). cond b 256 0) other

-- so nothing is asked for at the end of a program, and where a loop goes round again
pub asked_to_exit : asked_for (call.Exit (pos 0)) ≡ record { kind = kind.Exit; bound = 0 }
asked_to_exit = ap (λ (most : ℕ). record { kind = kind.Exit; bound = most }) (bound_free (call.Exit (pos 0)) refl)

pub asked_to_yield : asked_for call.SchedYield ≡ record { kind = kind.SchedYield; bound = 0 }
asked_to_yield = ap (λ (most : ℕ). record { kind = kind.SchedYield; bound = most }) (bound_free call.SchedYield refl)

-- a statement that isn't a call of the kernel by name makes a loop's
pub asked_elsewhere : (control : Control) (here : Statement) → ((which : CallKind) (operands : List Operand) (texts : List (List ℕ)) (first second : Option ℕ) → here ≡ statement.Invoke which operands texts first second → ⊥)
    → asked_for (call_at control (Some here)) ≡ record { kind = kind.SchedYield; bound = 0 }
asked_elsewhere control (statement.Invoke which operands texts first second) other = absurd (other which operands texts first second refl)
asked_elsewhere control _ other = asked_to_yield
