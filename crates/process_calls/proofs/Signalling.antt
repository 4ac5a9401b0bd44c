-- The call `signal`.
use Rattle.std.proofs.Common.{◌≡◌, ℕ, ℤ, pos, Bool, true, false, refl, ap, ◌∙◌, subst, w64}
use mir.Val.{of_z, to_z}
use Rattle.kabi_types.specs.Arguments.{count_of}
use Rattle.kabi_types.specs.declared.calls.Call.TheVariants as call
use Rattle.kabi_types.specs.declared.replies.Reply.TheVariants.{Val}
use Rattle.kabi_types.specs.declared.scripts.Script.{Script}
use Rattle.posix_defs.specs.Answer.{replied}
use Rattle.posix_defs.specs.Process.{ignores_of}
use Rattle.posix_defs.specs.Signals.{disposition_of, is_ignored, sig_ign, signal}
use Rattle.posix_defs.specs.World.{World}
use Rattle.posix_defs.specs.declared.turner.Turned.{Turned}
use Rattle.posix_defs.specs.declared.turner.Turned.TheVariants as turned
use Rattle.store_objects.specs.declared.objects.Objects.{Objects}
use Rattle.store_objects.specs.Standing.{Performs, StandsFor, WorldAfter, disposed_in}
use Rattle.store_objects.proofs.Leading.{led_on}
use Rattle.store_objects.proofs.Replies.{GoesOn}

-- a disposition is told as it is
pub told_whole : (ignored : Bool) → to_z w64 (of_z w64 (pos (disposition_of ignored))) ≡ pos (disposition_of ignored)
told_whole true = refl
told_whole false = refl

-- the caller ignores the signal or doesn't, and goes on with what it did before
pub does_signal : (script : Script) (old mid new : Objects) (pid : ℕ) (which disposition : ℤ) (ignored before : Bool) (said : ℤ) (told : Turned)
    → ((world : World) → StandsFor script old world → before ≡ is_ignored (ignores_of world.plain.table pid) (count_of which))
    → ((world : World) → StandsFor script old world → StandsFor script mid (disposed_in world pid (count_of which) ignored))
    → ignored ≡ sig_ign disposition → said ≡ pos (disposition_of before) → told ≡ turned.Done (Val said) → GoesOn script mid pid (Val said) new
    → Performs script old pid (call.Signal which disposition) (λ plain. signal script plain pid which disposition) told new
does_signal script old mid new pid which disposition ignored before said told was stands is says tells goes = λ world at alive.
    let base = disposed_in world pid (count_of which) ignored in
    subst (λ answer. WorldAfter script new world pid (call.Signal which disposition) answer told)
    (ap (λ b. replied script (disposed_in world pid (count_of which) b).plain pid (Val said)) is
    ∙ ap (λ z. replied script (disposed_in world pid (count_of which) (sig_ign disposition)).plain pid (Val z)) (says ∙ ap (λ b. pos (disposition_of b)) (was world at)))
    (led_on script mid new world base pid (call.Signal which disposition) (Val said) told (stands world at) tells (goes base (stands world at)) refl refl refl refl refl)
