-- Lines lead where the entries that they tell may lead.
use Rattle.std.proofs.Common.{◌≡◌, ℕ, ◌<◌, ◌^◌, true, cond, List, Option, None, Some, option_and_then, refl, ap, sym, ◌∙◌, subst, arith}
use Rattle.std.specs.Str.{bytes_eq}
use Rattle.std.proofs.lemmas.Option.{cond_some, none-some, option_and_then_some, same_Some}
use Rattle.std.proofs.lemmas.Slice.Eq.{bytes_eq-Decides}
use Rattle.kabi_types.specs.declared.entries.Entry.{Entry}
use Rattle.kabi_types.specs.declared.scripts.Script.{Script}
use Rattle.posix_defs.specs.History.{Past, MayFollow}
use Rattle.posix_defs.specs.Lines.{entry_line}
use Rattle.run_pasts.specs.Claims.{claim_of_entry}
use Rattle.run_pasts.specs.Turns.{Step, turn_of}
use Rattle.run_pasts.specs.declared.claims.Claim.{Claim}
use Rattle.run_pasts.proofs.Runs.{one_expected}
use Rattle.run_pasts.proofs.Steps.{may_follow, step_of, step_to}
use Rattle.claim_lines.specs.Claims.{claim_of}
use Rattle.claim_lines.specs.Good.{HasPids, line_leads, next_told}
use Rattle.claim_lines.proofs.Telling.{line_claims}

-- a line that leads somewhere is that of an entry that may come next
Tells : Script → Past → ℕ → List ℕ → Past → Type 0
Tells script past j line next = (added : Entry) × (line ≡ entry_line j added) × MayFollow script past added next

told_by : (script : Script) (past : Past) (j : ℕ) (line : List ℕ) (next : Past) (claim : Claim) (step : Option Step)
    → turn_of script past claim ≡ step → next_told j line step ≡ Some next → Tells script past j line next
unfolding Tells
told_by script past j line next claim None is h = absurd (none-some next h)
told_by script past j line next claim (Some step) is h =
    let parts = cond_some (bytes_eq (entry_line j step.added) line) step.next next h in
    (step.added, sym ((bytes_eq-Decides (entry_line j step.added) line).0 parts.0), subst (λ n. MayFollow script past step.added n) parts.1 (may_follow script past claim step is))

told_claim : (script : Script) (past : Past) (j : ℕ) (line : List ℕ) (next : Past) (claim : Option Claim)
    → next_told j line (option_and_then (turn_of script past) claim) ≡ Some next → Tells script past j line next
told_claim script past j line next None h = absurd (none-some next h)
told_claim script past j line next (Some claim) h = told_by script past j line next claim (turn_of script past claim) refl h

pub good_line : (script : Script) (past : Past) (j : ℕ) (line : List ℕ) (next : Past) → line_leads script past j line ≡ Some next
    → (added : Entry) × (line ≡ entry_line j added) × MayFollow script past added next
unfolding Tells
good_line script past j line next h = told_claim script past j line next (claim_of line) h

pub predicted_line : (script : Script) (past : Past) (j : ℕ) (added : Entry) (next : Past) → j < 2 ^ 64 → HasPids (claim_of_entry added)
    → MayFollow script past added next → line_leads script past j (entry_line j added) ≡ Some next
predicted_line script past j added next lt small may =
    ap (λ claim. next_told j (entry_line j added) (option_and_then (turn_of script past) claim)) (line_claims j added lt small)
    ∙ ap (next_told j (entry_line j added)) (step_of script past added next may)
    ∙ ap (λ b. cond b (Some next) None) ((bytes_eq-Decides (entry_line j added) (entry_line j added)).1 refl)

pub one_entry : (script : Script) (past : Past) (j : ℕ) (added : Entry) (next : Past) (other : Entry) (elsewhere : Past) → j < 2 ^ 64
    → HasPids (claim_of_entry added) → HasPids (claim_of_entry other) → MayFollow script past added next → MayFollow script past other elsewhere
    → entry_line j added ≡ entry_line j other → (added ≡ other) × (next ≡ elsewhere)
one_entry script past j added next other elsewhere lt small slight may also same =
    one_expected script past added next other elsewhere may also
    (same_Some _ _ (sym (line_claims j added lt small) ∙ ap claim_of same ∙ line_claims j other lt slight))
