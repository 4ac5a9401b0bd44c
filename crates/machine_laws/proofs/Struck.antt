-- What of another one's calls ends a process.
use Rattle.std.proofs.Common.{◌≡◌, ◌≢◌, ℕ, zero, suc, pos, true, false, None, refl, ap, sym, ◌∙◌, subst, inl, inr}
use Rattle.std.proofs.lemmas.Bool.Decides.{eqb_tells}
use Rattle.kabi_types.specs.Arguments.{count_of}
use Rattle.kabi_types.specs.declared.calls.Call.{Call}
use Rattle.kabi_types.specs.declared.calls.Call.TheVariants.{Kill}
use Rattle.kabi_types.specs.declared.scripts.Script.{Script}
use Rattle.posix_defs.specs.Answer.{Answer}
use Rattle.posix_defs.specs.Ending.{die_in}
use Rattle.posix_defs.specs.Forking.{child_of}
use Rattle.posix_defs.specs.Machine.{machine}
use Rattle.posix_defs.specs.Memory.{no_memory}
use Rattle.posix_defs.specs.Plain.{Plain}
use Rattle.posix_defs.specs.Process.{Table, is_alive, is_alive_in, process_at}
use Rattle.answer_laws.specs.Shapes as shape
use Rattle.answer_laws.specs.Shapes.{HasShape}
use Rattle.answer_laws.proofs.Shapes.{machine_shape}
use Rattle.kern_laws.proofs.Families.{others_live, still_alive}
use Rattle.kern_laws.proofs.Remembering.{alive_ignoring, alive_still, alive_working}
use Rattle.kern_laws.proofs.TablePlaces.{with_other}
use Rattle.machine_laws.specs.FileSteps.{LeadsTo}
use Rattle.machine_laws.specs.Own as own
use Rattle.machine_laws.specs.Own.{IsEndedBy}
use Rattle.machine_laws.proofs.Tables.{true_false}

module _ (script : Script) (plain : Plain) (pid who : ℕ) (call : Call) (apart : who ≢ pid) (alive : is_alive plain.table who ≡ true) where
  abbrev Ends : Answer → Type 0
  Ends given = LeadsTo (λ next. is_alive next.table who ≡ false → IsEndedBy pid who call) given

  -- who lives still hasn't ended
  lives : (table : Table) → is_alive table who ≡ true → is_alive table who ≡ false → IsEndedBy pid who call
  lives table still over = absurd (true_false still over)

  -- the end of another that isn't the first leaves it
  survives : (target status : ℕ) → who ≢ target → target ≢ 1 → is_alive (die_in plain.table target status) who ≡ true
  survives zero status other first = others_live plain.table zero who status alive other
  survives (suc zero) status other first = absurd (first refl)
  survives (suc (suc n)) status other first = others_live plain.table (suc (suc n)) who status alive other

  by_shape : (given : Answer) → HasShape script plain pid call given → Ends given
  by_shape given (shape.blocks may is) = subst Ends (sym is) tt
  by_shape given (shape.fails errno other is) = subst Ends (sym is) (lives plain.table alive)
  by_shape given (shape.tells files said is_said is) = subst Ends (sym is) (lives plain.table alive)
  by_shape given (shape.puts files memory said is_said put is) = subst Ends (sym is) (lives _ (alive_still plain.table pid who memory ∙ alive))
  by_shape given (shape.moves path directory called led is) = subst Ends (sym is) (lives _ (alive_working plain.table pid who directory ∙ alive))
  by_shape given (shape.disposes signal disposition ignores before called is) = subst Ends (sym is) (lives _ (alive_ignoring plain.table pid who ignores ∙ alive))
  by_shape given (shape.parts files moved part is) = subst Ends (sym is) (lives plain.table alive)
  by_shape given (shape.awaits files begun is) = subst Ends (sym is) (lives plain.table alive)
  by_shape given (shape.starts place is) = subst Ends (sym is) (lives _ (alive_still plain.table pid who no_memory ∙ alive))
  by_shape given (shape.forks is) = subst Ends (sym is) (lives _ (still_alive plain.table (child_of pid (process_at plain.table pid)) who alive))
  by_shape given (shape.reaps child status over is) = subst Ends (sym is)
      (lives _ (ap is_alive_in (with_other plain.table child who None (λ same. true_false (ap (is_alive plain.table) (sym same) ∙ alive) over)) ∙ alive))
  by_shape given (shape.ends status is) = subst Ends (sym is) (λ over. elim (eqb_tells pid 1) [
    | inl first ↦ own.with_first first.1
    | inr later ↦ absurd (true_false (survives pid status apart later.1) over)
  ])
  by_shape given (shape.ends_another target signal called first other lived is) = subst Ends (sym is) (λ over. elim (eqb_tells target who) [
    | inl hit ↦ own.struck signal (called ∙ ap (λ t. Kill (pos t) signal) hit.1)
    | inr missed ↦ absurd (true_false (survives target (count_of signal) (λ same. missed.1 (sym same)) first) over)
  ])

pub answers_end : (script : Script) (plain : Plain) (pid who : ℕ) (call : Call) → who ≢ pid → is_alive plain.table who ≡ true
    → LeadsTo (λ next. is_alive next.table who ≡ false → IsEndedBy pid who call) (machine script plain pid call)
answers_end script plain pid who call apart alive = by_shape script plain pid who call apart alive (machine script plain pid call) (machine_shape script plain pid call)
