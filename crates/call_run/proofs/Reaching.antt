-- A turn of a call that keeps what is kept reaches the world to which its answer leads.
use Rattle.std.proofs.Common.{◌≡◌, ℕ, ◌+◌, ◌≤◌, true, false, length, None, ap, sym, ◌∙◌, subst, arith}
use Rattle.std.specs.Option.{option_and_then}
use Rattle.kabi_types.specs.declared.calls.Call.{Call}
use Rattle.kabi_types.specs.declared.scripts.Script.{Script}
use Rattle.posix_defs.specs.Answer.{Answer}
use Rattle.posix_defs.specs.Plain.{Plain}
use Rattle.posix_defs.specs.Reaching.{IsLeft, has_succeeded, name_to_leave, path_to_leave, last_of}
use Rattle.kabi_types.specs.declared.errnos.Errno.{Errno}
use Rattle.kabi_types.specs.declared.replies.Reply.TheVariants as reply
use Rattle.posix_defs.specs.Paths.{resolve}
use Rattle.posix_defs.specs.Process.{directory_of}
use Rattle.posix_defs.specs.World.{World}
use Rattle.posix_defs.specs.declared.turner.Turned.TheVariants as turned
use Rattle.posix_defs.specs.declared.turner.Turned.{Turned}
use Rattle.store_objects.specs.declared.objects.Objects.{Objects}
use Rattle.store_objects.specs.Standing.{Performs}
use Rattle.store_objects.specs.Walking.{KeepsOn, Reaches, Serves}

keeps_same : (world next : World) (pid : ℕ) (which : Call) (told : Turned) → next.kept ≡ world.kept → next.reads ≡ world.reads
    → (has_succeeded told ≡ true → IsLeft next.plain.files.tree next.kept (name_to_leave world.plain pid which)) → KeepsOn world pid which told next
keeps_same world next pid which told kept reads left = record {
  names = no_more _ (ap (λ lists. length lists.names) kept);
  blocks = no_more _ (ap (λ lists. length lists.blocks) kept);
  vnodes = no_more _ (ap (λ lists. length lists.vnodes) kept);
  reads = as_many reads;
  untouched = λ _. (kept, reads);
  left = left;
  known = λ _. reads;
}
  where
    no_more : {new old : ℕ} (more : ℕ) → new ≡ old → new ≤ old + more
    no_more more same = omega (arith, same)

    as_many : {new old : ℕ} → new ≡ old → old ≤ new
    as_many same = omega (arith, same)

reaches : (script : Script) (old new : Objects) (pid : ℕ) (which : Call) (told : Turned) (answer : Plain → Answer) → Performs script old pid which answer told new
    → ((world next : World) → has_succeeded told ≡ true → IsLeft next.plain.files.tree next.kept (name_to_leave world.plain pid which)) → Reaches script old pid which answer told new
reaches script old new pid which told answer does left = λ world stands alive.
    let led = does world stands alive in record {
      next = led.next;
      stands = led.stands;
      tells = led.tells;
      account = led.account;
      keeps = keeps_same world led.next pid which told led.kept led.reads (left world led.next);
    }

-- what a call reaches from each world that was stood for it reaches from those that are sound
pub served : (script : Script) (old new : Objects) (pid : ℕ) (which : Call) (told : Turned) (answer : Plain → Answer) → Reaches script old pid which answer told new → Serves script old pid which answer told new
served script old new pid which told answer does = λ world stands sound alive. does world stands alive

-- where the call leaves no name in the caches
pub unnamed_served : (script : Script) (old new : Objects) (pid : ℕ) (which : Call) (told : Turned) (answer : Plain → Answer) → ((plain : Plain) → path_to_leave plain pid which ≡ None)
    → Performs script old pid which answer told new → Serves script old pid which answer told new
unnamed_served script old new pid which told answer unnamed does =
    served script old new pid which told answer
    (reaches script old new pid which told answer does
    (λ world next _. subst (λ path. IsLeft next.plain.files.tree next.kept (option_and_then (λ p. last_of (resolve world.plain.files.tree (directory_of world.plain.table pid) p)) path)) (sym (unnamed world.plain)) tt))

-- and where it fails
pub failed_served : (script : Script) (old new : Objects) (pid : ℕ) (which : Call) (errno : Errno) (told : Turned) (answer : Plain → Answer) → told ≡ turned.Done (reply.Fail errno)
    → Performs script old pid which answer told new → Serves script old pid which answer told new
failed_served script old new pid which errno told answer tells does =
    served script old new pid which told answer
    (reaches script old new pid which told answer does (λ world next ok. absurd (let both : true ≡ false = sym ok ∙ ap has_succeeded tells in cc)))
