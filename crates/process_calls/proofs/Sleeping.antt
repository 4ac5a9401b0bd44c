-- Whether a wait for a child would sleep.
use Rattle.std.proofs.Common.{◌≡◌, ℕ, ℤ, pos, not, Bool, true, false, cond, refl, ap, sym, ◌∙◌}
use Rattle.kabi_types.specs.declared.replies.Reply.TheVariants.{Val}
use Rattle.kabi_types.specs.declared.scripts.Script.{Script}
use Rattle.posix_defs.specs.Answer.{Blocked, replied}
use Rattle.posix_defs.specs.Machine.{blocks}
use Rattle.posix_defs.specs.Plain.{Plain}
use Rattle.posix_defs.specs.Waiting.{is_nohang, waitpid}
use Rattle.proc_table.specs.Changes.{reaped_of}
use Rattle.proc_table.specs.Standing.{answered_wait}
use Rattle.proc_table.specs.declared.reaped.Reaped.{Reaped}
use Rattle.proc_table.specs.declared.reaped.Reaped.TheVariants.{NoChild, Nobody, Took}
use Rattle.proc_table.proofs.FamilyLemmas.{found_is}
use Rattle.proc_table.proofs.LawLemmas.{wait_is}
use Rattle.store_objects.specs.declared.objects.Objects.{Objects}
use Rattle.store_objects.specs.Objects.{procs_of}
use Rattle.store_objects.specs.Standing.{AreProcesses}

unfoldable pub sleeps : Reaped → ℤ → Bool
sleeps Nobody options = not (is_nohang options)
sleeps NoChild options = false
sleeps (Took pid status) options = false

blocks_where : (script : Script) (plain : Plain) (pid : ℕ) (options : ℤ) (told : Reaped) → blocks (answered_wait script plain pid options told) ≡ sleeps told options
unfolding sleeps
blocks_where script plain pid options (Took child status) = refl
blocks_where script plain pid options NoChild = refl
blocks_where script plain pid options Nobody = go (is_nohang options)
  where
    go : (b : Bool) → blocks (cond b (replied script plain pid (Val (pos 0))) Blocked) ≡ not b
    go true = refl
    go false = refl

-- a wait blocks by what its caller would be answered
pub blocks_as_told : (script : Script) (objects : Objects) (plain : Plain) (pid : ℕ) (which options : ℤ) (told : Reaped)
    → AreProcesses script objects plain → reaped_of pid which (procs_of objects) ≡ told → blocks (waitpid script plain pid which options) ≡ sleeps told options
blocks_as_told script objects plain pid which options told are is =
    ap blocks (wait_is script plain pid which options)
    ∙ ap (λ r. blocks (answered_wait script plain pid options r)) (sym (found_is objects.heap plain.table (procs_of objects) pid which are.table.present) ∙ is)
    ∙ blocks_where script plain pid options told

pub not_nobody : (told : Reaped) (options : ℤ) → (told ≡ Nobody → ⊥) → sleeps told options ≡ false
unfolding sleeps
not_nobody Nobody options none = absurd (none refl)
not_nobody NoChild options none = refl
not_nobody (Took pid status) options none = refl
