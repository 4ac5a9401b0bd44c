-- How a program goes on: its local statements, its next call, and where a reply goes.
use Rattle.std.specs.Prelude.{ℕ, zero, suc, ◌+◌, ℤ, pos, ◌-ℤ◌, int_lt, int_le, Bool, not, ◌&&◌, if◌then◌else◌, List, [], map, length, Option, None, Some, slice_get, slice_set, slice_index_or}
use Rattle.std.specs.Int.{w64, int_wrapping_add}
use Rattle.kabi_types.specs.declared.calls.Call.{Call}
use Rattle.kabi_types.specs.declared.calls.Call.TheVariants as call
use Rattle.kabi_types.specs.declared.replies.Reply.{Reply}
use Rattle.kabi_types.specs.declared.scripts.Control.{Control}
use Rattle.kabi_types.specs.declared.scripts.Operand.{Operand}
use Rattle.kabi_types.specs.declared.scripts.Operand.TheVariants.{Reg, Number}
use Rattle.kabi_types.specs.declared.scripts.Test.{Test}
use Rattle.kabi_types.specs.declared.scripts.Test.TheVariants.{Eq, Ne, Lt, Le}
use Rattle.kabi_types.specs.declared.scripts.Statement.{Statement}
use Rattle.kabi_types.specs.declared.scripts.Statement.TheVariants as statement
use Rattle.kabi_types.specs.declared.scripts.Program.{Program}
use Rattle.kabi_types.specs.declared.scripts.Script.{Script}
use Rattle.kabi_types.specs.Reply.{first_of, second_of}
use Rattle.posix_defs.specs.Made.{made}

-- the value of a register, a signed number
abbrev pub register_of : Control → ℕ → ℤ
register_of control register = slice_index_or control.regs register (pos 0)

-- the same control, where a register has another value
abbrev pub with_register : Control → ℕ → ℤ → Control
with_register control register value = record control { regs = slice_set control.regs register value }

-- at another place of the same program
abbrev pub at_place : Control → ℕ → Control
at_place control place = record control { place = place }

-- goes on to the next statement
abbrev pub forward : Control → Control
forward control = at_place control (control.place + 1)

-- what an operand comes to: the value that its register has now, or its own number
abbrev pub value_of : Control → Operand → ℤ
value_of control (Reg register) = register_of control register
value_of control (Number value) = value

-- whether a comparison of two signed numbers holds
abbrev pub passes : Test → ℤ → ℤ → Bool
passes Eq a b = int_le a b && int_le b a
passes Ne a b = not (int_le a b && int_le b a)
passes Lt a b = int_lt a b
passes Le a b = int_le a b

-- what a local statement leaves; None for one that makes a call
abbrev pub local : Control → Statement → Option Control
local control (statement.Set register value) = Some (forward (with_register control register (value_of control value)))
local control (statement.Add register value) = Some (forward (with_register control register (int_wrapping_add w64 (register_of control register) (value_of control value))))
local control (statement.If left test right place) = Some (if passes test (value_of control left) (value_of control right) then at_place control place else forward control)
local control (statement.Jump place) = Some (at_place control place)
local control (statement.Label _) = Some (forward control)
local control (statement.Loop register _) = if int_lt (pos 0) (register_of control register) then None else Some (forward control)
local control (statement.Invoke _ _ _ _ _) = None

-- the same of the statement at a place; None also at the end of the program, where `exit 0` is called
abbrev pub local_at : Control → Option Statement → Option Control
local_at control None = None
local_at control (Some here) = local control here

-- a local statement leads on to the rest; where a call is to be made, or the program ends, the control stays
abbrev pub carry_on : Control → (Control → Control) → Option Control → Control
carry_on control rest None = control
carry_on control rest (Some next) = rest next

-- as far as so many local statements lead
abbrev pub settle : ℕ → List Statement → Control → Control
settle zero body control = control
settle (suc turns) body control = carry_on control (λ next. settle turns body next) (local_at control (slice_get body control.place))

-- the statements of a program; none where the script has no program of that number
abbrev pub statements_of : Option Program → List Statement
statements_of None = []
statements_of (Some program) = program.body

-- the statements of the control's program
abbrev pub body_of : Script → Control → List Statement
body_of script control = statements_of (slice_get script.programs control.program)

-- before the next call: local statements lead on, so a program has no more of them than statements
abbrev pub settled : Script → Control → Control
settled script control = let body = body_of script control in settle (length body) body control

-- the statement that makes the next call; None at the end of the program
abbrev pub statement_of : Script → Control → Option Statement
statement_of script control = slice_get (body_of script control) control.place

-- the call that stands at a place: one that is named, of its operands as they are now and of what is done of it; sched_yield
-- at a loop that goes round again; `exit 0` at the end of the program
abbrev pub call_at : Control → Option Statement → Call
call_at control None = call.Exit (pos 0)
call_at control (Some (statement.Invoke kind operands texts _ _)) = made kind (map (value_of control) operands) texts control.done
-- a loop whose register is above 0
call_at control (Some _) = call.SchedYield

-- the next call: at the end of a program it is `exit 0`
abbrev pub call_of : Script → Control → Call
call_of script control = let here = settled script control in call_at here (statement_of script here)

-- a value goes to the register that is named for it, and to none where none is
abbrev pub into : Control → Option ℕ → ℤ → Control
into control None value = control
into control (Some register) value = with_register control register value

-- nothing of the next call is done yet
abbrev pub afresh : Control → Control
afresh control = record control { done = 0 }

-- what a reply leaves behind the call at a place: the first value goes to its register, then the second, which stays where both
-- name one register; a loop's register falls by one and its label is next; at the end of the program nothing changes
abbrev pub after_at : Control → Reply → Option Statement → Control
after_at control reply None = control
after_at control reply (Some (statement.Invoke _ _ _ first second)) = forward (into (into control first (first_of reply)) second (second_of reply))
after_at control reply (Some (statement.Loop register place)) = at_place (with_register control register (register_of control register -ℤ pos 1)) place
after_at control reply (Some _) = control

-- behind the call, with the reply's values in the registers that it names; a loop's register falls by one
abbrev pub after : Script → Control → Reply → Control
after script control reply = let here = settled script control in afresh (after_at here reply (statement_of script here))

-- a part of a write moved so many bytes
abbrev pub after_part : Control → ℕ → Control
after_part control moved = record control { done = control.done + moved }

-- at the start of another program: the registers are kept, and nothing of its first call is done
abbrev pub restarted : Control → ℕ → Control
restarted control program = record control { program = program; place = 0; done = 0 }
