-- A call that changes nothing but its caller's control.
use Rattle.std.proofs.Common.{◌≡◌, ℕ, ℤ, Some, refl, ap, sym, ◌∙◌, subst}
use Rattle.std.specs.Option.{option_map}
use Rattle.kabi_types.specs.declared.calls.Call.{Call}
use Rattle.kabi_types.specs.declared.errnos.Errno.{Errno}
use Rattle.kabi_types.specs.declared.replies.Reply.{Reply}
use Rattle.kabi_types.specs.declared.replies.Reply.TheVariants as reply
use Rattle.kabi_types.specs.declared.scripts.Script.{Script}
use Rattle.kheap_slabs.specs.declared.objects.Proc.{Proc}
use Rattle.posix_defs.specs.Account.{with_frames}
use Rattle.posix_defs.specs.Answer.{Answer, failed, replied}
use Rattle.posix_defs.specs.Memory.{Frames}
use Rattle.posix_defs.specs.MemoryCalls.{frames_after}
use Rattle.posix_defs.specs.Plain.{Plain}
use Rattle.posix_defs.specs.Process.{parent_in, parent_of}
use Rattle.posix_defs.specs.World.{World}
use Rattle.posix_defs.specs.declared.turner.Turned.{Turned}
use Rattle.posix_defs.specs.declared.turner.Turned.TheVariants as turned
use Rattle.proc_table.specs.Procs.{proc_of, process_of}
use Rattle.proc_table.proofs.FamilyLemmas.{process_is}
use Rattle.store_objects.specs.declared.objects.Objects.{Objects}
use Rattle.store_objects.specs.Objects.{procs_of}
use Rattle.store_objects.specs.Standing.{AreProcesses, Performs, StandsFor, WorldAfter, answered_in}
use Rattle.store_objects.proofs.Leading.{led_on}

-- the caller goes on behind its call, which got this reply: from each world that the objects stood for to that one
abbrev pub GoesOn : Script → Objects → ℕ → Reply → Objects → Type 0
GoesOn script old pid said new =
    (world : World) → StandsFor script old world → StandsFor script new (answered_in script world pid said)

-- a reply that leaves memory, where it is the answer
pub does_said : (script : Script) (old new : Objects) (pid : ℕ) (which : Call) (said : Reply) (told : Turned) (answer : Plain → Answer)
    → told ≡ turned.Done said → GoesOn script old pid said new → ((frames : Frames) → frames_after frames pid which said ≡ frames)
    → ((world : World) → StandsFor script old world → answer world.plain ≡ replied script world.plain pid said)
    → Performs script old pid which answer told new
does_said script old new pid which said told answer tells goes frames answers = λ world stands alive.
    subst (λ a. WorldAfter script new world pid which a told) (sym (answers world stands))
    (led_on script old new world world pid which said told stands tells (goes world stands) refl refl (ap (with_frames world.account) (sym (frames world.account.frames))) refl refl)

-- a failure
pub does_fail : (script : Script) (old new : Objects) (pid : ℕ) (which : Call) (errno : Errno) (told : Turned) (answer : Plain → Answer)
    → told ≡ turned.Done (reply.Fail errno) → GoesOn script old pid (reply.Fail errno) new
    → ((world : World) → StandsFor script old world → answer world.plain ≡ failed script world.plain pid errno)
    → Performs script old pid which answer told new
does_fail script old new pid which errno told answer tells goes fails =
    does_said script old new pid which (reply.Fail errno) told answer tells goes (λ frames. refl) fails

-- a number that is told
pub does_tell : (script : Script) (old new : Objects) (pid : ℕ) (which : Call) (number : ℤ) (told : Turned) (answer : Plain → Answer) (value : Plain → ℤ)
    → told ≡ turned.Done (reply.Val number) → GoesOn script old pid (reply.Val number) new
    → ((frames : Frames) → frames_after frames pid which (reply.Val number) ≡ frames)
    → ((world : World) → StandsFor script old world → number ≡ value world.plain)
    → ((plain : Plain) → answer plain ≡ replied script plain pid (reply.Val (value plain)))
    → Performs script old pid which answer told new
does_tell script old new pid which number told answer value tells goes frames is answers =
    does_said script old new pid which (reply.Val number) told answer tells goes frames
    (λ world stands. answers world.plain ∙ ap (λ z. replied script world.plain pid (reply.Val z)) (sym (is world stands)))

-- the parent of who is found is the machine's
pub parent_is : (script : Script) (objects : Objects) (plain : Plain) (pid : ℕ) (proc : Proc) → AreProcesses script objects plain
    → proc_of (procs_of objects) pid ≡ Some proc → parent_of plain.table pid ≡ proc.parent
parent_is script objects plain pid proc are found =
    ap parent_in (process_is objects.heap plain.table (procs_of objects) pid are.table.present ∙ ap (option_map (process_of objects.heap)) found)
