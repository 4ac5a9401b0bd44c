-- Worked histories: scripts, and entries that workers may have made of them, in one of the orders in which they may come.
use Rattle.std.specs.Prelude.{ℕ, suc, pos, negsuc, List, [], ◌∷◌, Option, None, Some, option_map, unwrap_or, codes}
use Rattle.kabi_types.specs.declared.calls.CallKind.{CallKind}
use Rattle.kabi_types.specs.declared.calls.CallKind.TheVariants as kind
use Rattle.kabi_types.specs.declared.errnos.Errno.TheVariants.{ECHILD, EFAULT, ESRCH}
use Rattle.kabi_types.specs.declared.replies.Reply.TheVariants.{Val, Waited, Fail}
use Rattle.kabi_types.specs.declared.entries.Cached.TheVariants as cached
use Rattle.kabi_types.specs.declared.entries.Entry.{Entry}
use Rattle.kabi_types.specs.declared.entries.Entry.TheVariants as entry
use Rattle.kabi_types.specs.declared.scripts.Chooser.TheVariants as chooser
use Rattle.kabi_types.specs.declared.scripts.Operand.{Operand}
use Rattle.kabi_types.specs.declared.scripts.Operand.TheVariants.{Number, Reg}
use Rattle.kabi_types.specs.declared.scripts.Policy.TheVariants.{Heaviest}
use Rattle.kabi_types.specs.declared.scripts.Script.{Script}
use Rattle.kabi_types.specs.declared.scripts.Statement.{Statement}
use Rattle.kabi_types.specs.declared.scripts.Statement.TheVariants.{If, Invoke, Label, Loop, Set}
use Rattle.kabi_types.specs.declared.scripts.Test.TheVariants.{Eq}
use Rattle.posix_defs.specs.History.{Past, boot_past}
use Rattle.run_pasts.specs.Follows.{follows}

-- how many of these entries may come one after another from a past on, before the first that may not
abbrev pub how_far : Script → Past → List Entry → ℕ
how_far script past [] = 0
how_far script past (added ∷ rest) = unwrap_or (option_map (λ next. suc (how_far script next rest)) (follows script past added)) 0

-- the same from boot on
abbrev pub good : Script → List Entry → ℕ
good script entries = how_far script (boot_past script) entries

-- ---- making scripts and entries

-- a script of one program, with so much heap
abbrev pub of_one : ℕ → List Statement → Script
of_one heap body = record {
  heap = heap;
  disk = 64;
  steps = 1000;
  policy = Heaviest;
  chooser = chooser.Plain;
  programs = record { name = codes "init"; body = body } ∷ [];
}

-- a call with these operands, whose values go to these registers
abbrev pub calls : CallKind → List Operand → Option ℕ → Option ℕ → Statement
calls which operands first second = Invoke which operands [] first second

-- a number, and minus one
abbrev pub number : ℕ → Operand
number n = Number (pos n)

abbrev pub minus_one : Operand
minus_one = Number (negsuc 0)

-- the call is over, with this value
abbrev pub gave : ℕ → CallKind → ℕ → Entry
gave pid which n = entry.Done pid which (Val (pos n))

-- ---- a process in a loop

-- `set r1 100`, `label more`, `r2 = getpid`, `loop r1 more`
abbrev pub spent_script : Script
spent_script = of_one 65536 (Set 1 (number 100) ∷ Label (codes "more") ∷ calls kind.Getpid [] (Some 2) None ∷ Loop 1 1 ∷ [])

abbrev pub round : List Entry → List Entry
round rest = gave 1 kind.Getpid 1 ∷ gave 1 kind.SchedYield 0 ∷ rest

abbrev pub spent : List Entry
spent = round (round (round (round (round (round (round (round (round (round [])))))))))

-- ---- children that sleep for ever are killed by their parent, one of them before its call had a turn

-- three times `r1 = fork`, `if r1 == 0 dreamer`; `kill r2 9`, `waitpid r2 0`, `kill r3 0`, `kill r2 0`, `kill r1 9`, twice `kill r3 9`,
-- `waitpid r1 0`, `waitpid r3 0`, `waitpid -1 0`, `exit 0`; `label dreamer`, `poll -1`, `exit 1`
abbrev pub killed_script : Script
killed_script = of_one 131072 (
    calls kind.Fork [] (Some 1) None ∷ If (Reg 1) Eq (number 0) 17
    ∷ calls kind.Fork [] (Some 2) None ∷ If (Reg 2) Eq (number 0) 17
    ∷ calls kind.Fork [] (Some 3) None ∷ If (Reg 3) Eq (number 0) 17
    ∷ calls kind.Kill (Reg 2 ∷ number 9 ∷ []) (Some 4) None
    ∷ calls kind.Waitpid (Reg 2 ∷ number 0 ∷ []) (Some 5) (Some 6)
    ∷ calls kind.Kill (Reg 3 ∷ number 0 ∷ []) (Some 4) None
    ∷ calls kind.Kill (Reg 2 ∷ number 0 ∷ []) (Some 4) None
    ∷ calls kind.Kill (Reg 1 ∷ number 9 ∷ []) (Some 4) None
    ∷ calls kind.Kill (Reg 3 ∷ number 9 ∷ []) (Some 4) None
    ∷ calls kind.Kill (Reg 3 ∷ number 9 ∷ []) (Some 4) None
    ∷ calls kind.Waitpid (Reg 1 ∷ number 0 ∷ []) (Some 5) (Some 6)
    ∷ calls kind.Waitpid (Reg 3 ∷ number 0 ∷ []) (Some 5) (Some 6)
    ∷ calls kind.Waitpid (minus_one ∷ number 0 ∷ []) (Some 5) None
    ∷ calls kind.Exit (number 0 ∷ []) None None
    ∷ Label (codes "dreamer") ∷ calls kind.Poll (minus_one ∷ []) None None ∷ calls kind.Exit (number 1 ∷ []) None None
    ∷ [])

-- up to the sleep of the second child
abbrev pub dreaming : List Entry → List Entry
dreaming rest = gave 1 kind.Fork 2 ∷ entry.Slept 2 kind.Poll ∷ gave 1 kind.Fork 3 ∷ gave 1 kind.Fork 4 ∷ entry.Slept 3 kind.Poll ∷ rest

-- from there to where the last child's call is given up
abbrev pub killing : List Entry → List Entry
killing rest =
    gave 1 kind.Kill 0 ∷ entry.Done 1 kind.Waitpid (Waited 3 9) ∷ gave 1 kind.Kill 0 ∷ entry.Done 1 kind.Kill (Fail ESRCH)
    ∷ gave 1 kind.Kill 0 ∷ gave 1 kind.Kill 0 ∷ entry.Gone 4 kind.Poll ∷ rest

abbrev pub killed : List Entry
killed = dreaming (killing (
    gave 1 kind.Kill 0 ∷ entry.Done 1 kind.Waitpid (Waited 2 9) ∷ entry.Done 1 kind.Waitpid (Waited 4 9)
    ∷ entry.Done 1 kind.Waitpid (Fail ECHILD) ∷ entry.Ended 1 kind.Exit 0 ∷ []))

-- ---- a call that is above all room is refused

-- `r1 = mmap 12288`, `r2 = store 4095 "x"`, `r3 = read 0 r1 4097`, `r4 = store r1 "abc"`
abbrev pub starved_script : Script
starved_script = of_one 11008 (
    calls kind.Mmap (number 12288 ∷ []) (Some 1) None
    ∷ Invoke kind.Store (number 4095 ∷ []) (codes "x" ∷ []) (Some 2) None
    ∷ calls kind.Read (number 0 ∷ Reg 1 ∷ number 4097 ∷ []) (Some 3) None
    ∷ Invoke kind.Store (Reg 1 ∷ []) (codes "abc" ∷ []) (Some 4) None
    ∷ [])

-- with so many bytes told as the bound
abbrev pub starved : ℕ → List Entry
starved bound = gave 1 kind.Mmap 4096 ∷ entry.Done 1 kind.Store (Fail EFAULT) ∷ entry.Refused 1 kind.Read bound ∷ gave 1 kind.Store 3 ∷ []

-- ---- children are killed, so that the fork of one of them may fit

-- four times `r1 = fork`, `r2 r3 = waitpid -1 0`, `exit 0`
abbrev pub crowded_script : Script
crowded_script = of_one 8192 (
    calls kind.Fork [] (Some 1) None ∷ calls kind.Fork [] (Some 1) None ∷ calls kind.Fork [] (Some 1) None ∷ calls kind.Fork [] (Some 1) None
    ∷ calls kind.Waitpid (minus_one ∷ number 0 ∷ []) (Some 2) (Some 3) ∷ calls kind.Exit (number 0 ∷ []) None None ∷ [])

-- up to where the heap is full
abbrev pub crowding : List Entry → List Entry
crowding rest =
    gave 1 kind.Fork 2 ∷ gave 1 kind.Fork 3 ∷ gave 1 kind.Fork 4 ∷ gave 1 kind.Fork 5 ∷ entry.Slept 1 kind.Waitpid
    ∷ gave 2 kind.Fork 6 ∷ rest

-- this process is killed for the second one's fork
abbrev pub falls : ℕ → Entry
falls pid = entry.Killed pid 2 3328 3200

abbrev pub crowded : List Entry
crowded = crowding (
    falls 6 ∷ falls 5 ∷ falls 4 ∷ falls 3 ∷ falls 2
    ∷ entry.Done 1 kind.Waitpid (Waited 2 9) ∷ entry.Ended 1 kind.Exit 0 ∷ [])

-- ---- what a call has cached goes again

-- `mkdir "/a"`, `exit 0`
abbrev pub cached_script : Script
cached_script = of_one 65536 (Invoke kind.Mkdir [] (codes "/a" ∷ []) None None ∷ calls kind.Exit (number 0 ∷ []) None None ∷ [])

-- behind a walk to a directory, which may have cached two names and no more
abbrev pub dropped : List Entry
dropped = gave 1 kind.Mkdir 0 ∷ entry.Evicted cached.Name ∷ entry.Evicted cached.Name ∷ entry.Evicted cached.Name ∷ []
