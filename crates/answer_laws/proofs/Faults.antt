-- A wrong operand is never told as ENOMEM.
use Rattle.std.proofs.Common.{◌≢◌, ℕ, ◌+◌, ◌-◌, nat_lt, ◌==◌, ◌&&◌, ◌||◌, not, ℤ, Bool, true, false, cond, List, length, Option, None, Some}
use Rattle.std.specs.List.{list_any}
use Rattle.std.specs.Option.{option_or}
use Rattle.kabi_types.specs.Arguments.{argument_fault, count_of, greatest_place, invalid_unless, is_from, is_minus_one, is_number, is_page_range, is_sendable, is_within, lie_in_space, locked_fault, may_be_descriptor, may_be_ignored, moved_fault, path_fault, paths_fault, placed_fault, range_fault, truncates_unwritten}
use Rattle.kabi_types.specs.OpenFlags.{are_open_flags}
use Rattle.kabi_types.specs.PathParts.{components, ends_in_dots, is_long}
use Rattle.kabi_types.specs.declared.calls.Call.{Call}
use Rattle.kabi_types.specs.declared.calls.Call.TheVariants as call
use Rattle.kabi_types.specs.declared.errnos.Errno.{Errno}
use Rattle.kabi_types.specs.declared.errnos.Errno.TheVariants.{EFAULT, ENAMETOOLONG, ENOENT, ENOMEM, EOVERFLOW}
use Rattle.answer_laws.proofs.NoWant.{IsNoWantFault}

invalid_no_want : (b : Bool) → IsNoWantFault (invalid_unless b)
invalid_no_want true = tt
invalid_no_want false = (λ e. cc)

or_no_want : (one other : Option Errno) → IsNoWantFault one → IsNoWantFault other → IsNoWantFault (option_or one other)
or_no_want None other this that = that
or_no_want (Some errno) other this that = this

cond_no_want : (b : Bool) (errno : Errno) → errno ≢ ENOMEM → IsNoWantFault (cond b None (Some errno))
cond_no_want true errno apart = tt
cond_no_want false errno apart = apart

path_no_want : (path : List ℕ) → IsNoWantFault (path_fault path)
path_no_want path = empty (length path == 0) (list_any is_long (components path))
  where
    long : (b : Bool) → IsNoWantFault (cond b (Some ENAMETOOLONG) None)
    long true = λ e. cc
    long false = tt

    empty : (b c : Bool) → IsNoWantFault (cond b (Some ENOENT) (cond c (Some ENAMETOOLONG) None))
    empty true c = λ e. cc
    empty false c = long c

range_no_want : (addr : ℤ) (n : ℕ) → IsNoWantFault (range_fault addr n)
range_no_want addr n = cond_no_want ((n == 0) || lie_in_space addr n) EFAULT (λ e. cc)

paths_no_want : (old new : List ℕ) → IsNoWantFault (paths_fault old new)
paths_no_want old new = or_no_want (path_fault old) (path_fault new) (path_no_want old) (path_no_want new)

moved_no_want : (least : ℕ) (addr n : ℤ) → IsNoWantFault (moved_fault least addr n)
moved_no_want least addr n = or_no_want (invalid_unless (is_within least 32767 n)) (range_fault addr (count_of n)) (invalid_no_want (is_within least 32767 n)) (range_no_want addr (count_of n))

placed_no_want : (addr n at : ℤ) → IsNoWantFault (placed_fault addr n at)
placed_no_want addr n at =
    or_no_want (invalid_unless (is_within 0 32767 n && is_from 0 at)) (range_fault addr (count_of n)) (invalid_no_want (is_within 0 32767 n && is_from 0 at)) (range_no_want addr (count_of n))

locked_no_want : (most : ℕ) (kind start size : ℤ) → IsNoWantFault (locked_fault most kind start size)
locked_no_want most kind start size =
    or_no_want (invalid_unless (is_within 0 most kind && (is_from 0 start && is_from 0 size))) _ (invalid_no_want (is_within 0 most kind && (is_from 0 start && is_from 0 size)))
    (beyond (nat_lt greatest_place (count_of start + (count_of size - 1))))
  where
    beyond : (b : Bool) → IsNoWantFault (cond b (Some EOVERFLOW) None)
    beyond true = λ e. cc
    beyond false = tt

pub fault_no : (which : Call) → IsNoWantFault (argument_fault which)
fault_no (call.Exec path) = path_no_want path
fault_no (call.Waitpid pid options) = invalid_no_want ((is_minus_one pid || is_from 1 pid) && is_within 0 1 options)
fault_no (call.Kill pid signal) = invalid_no_want (is_from 1 pid && is_sendable signal)
fault_no (call.Mmap length) = invalid_no_want (is_from 1 length)
fault_no (call.Munmap addr length) = invalid_no_want (is_from 1 length && is_page_range addr length)
fault_no (call.Store addr bytes) = range_no_want addr (length bytes)
fault_no (call.Load addr n) = or_no_want (invalid_unless (is_within 0 64 n)) (range_fault addr (count_of n)) (invalid_no_want (is_within 0 64 n)) (range_no_want addr (count_of n))
fault_no (call.OpenFile path flags) = or_no_want (invalid_unless (are_open_flags flags && not (truncates_unwritten flags))) (path_fault path) (invalid_no_want (are_open_flags flags && not (truncates_unwritten flags))) (path_no_want path)
fault_no (call.Fcntl _ cmd arg) = invalid_no_want (is_within 1 4 cmd || (is_number 0 cmd && may_be_descriptor arg))
fault_no (call.Read _ addr n) = moved_no_want 0 addr n
fault_no (call.Write _ addr n _) = moved_no_want 0 addr n
fault_no (call.Pread _ addr n at) = placed_no_want addr n at
fault_no (call.Pwrite _ addr n at) = placed_no_want addr n at
fault_no (call.Lseek _ _ whence) = invalid_no_want (is_within 0 2 whence)
fault_no (call.Readdir _ addr n) = moved_no_want 32 addr n
fault_no (call.Ftruncate _ length) = invalid_no_want (is_from 0 length)
fault_no (call.Stat path) = path_no_want path
fault_no (call.Chdir path) = path_no_want path
fault_no (call.Mkdir path) = path_no_want path
fault_no (call.Rmdir path) = path_no_want path
fault_no (call.Unlink path) = path_no_want path
fault_no (call.Link old new) = paths_no_want old new
fault_no (call.Rename old new) = or_no_want (paths_fault old new) (invalid_unless (not (ends_in_dots old || ends_in_dots new))) (paths_no_want old new) (invalid_no_want (not (ends_in_dots old || ends_in_dots new)))
fault_no (call.Bind _ path) = path_no_want path
fault_no (call.Connect _ path) = path_no_want path
fault_no (call.Shutdown _ how) = invalid_no_want (is_within 0 2 how)
fault_no (call.Poll timeout _) = invalid_no_want (is_number 0 timeout || is_minus_one timeout)
fault_no (call.Signal signal disposition) = invalid_no_want (may_be_ignored signal && is_within 0 1 disposition)
fault_no (call.Mkfifo path) = path_no_want path
fault_no (call.Setlk _ kind start size) = locked_no_want 2 kind start size
fault_no (call.Setlkw _ kind start size) = locked_no_want 2 kind start size
fault_no (call.Getlk _ kind start size) = locked_no_want 1 kind start size
fault_no _ = tt
