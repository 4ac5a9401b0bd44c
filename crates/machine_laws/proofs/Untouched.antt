-- A call that reaches no node leaves the tree.
use Rattle.std.proofs.Common.{◌≡◌, ℕ, ◌&&◌, ◌||◌, Bool, true, false, Option, None, Some, is_none, refl, ap, sym, ◌∙◌}
use Rattle.kabi_types.specs.Arguments.{argument_fault}
use Rattle.kabi_types.specs.declared.calls.Call.{Call}
use Rattle.kabi_types.specs.declared.errnos.Errno.{Errno}
use Rattle.kabi_types.specs.declared.scripts.Script.{Script}
use Rattle.posix_defs.specs.Machine.{answer_to, machine, unless_wrong}
use Rattle.posix_defs.specs.Plain.{Plain}
use Rattle.posix_defs.specs.Reaching.{ends_node, names_node, reaches_node}
use Rattle.posix_defs.specs.Files.State.{Files}
use Rattle.machine_laws.specs.FileSteps as step
use Rattle.machine_laws.specs.FileSteps.{IsStep, LeadsTo}
use Rattle.machine_laws.proofs.Fading.{close_fades, closed_by_fades, exec_fades, tree_kept}
use Rattle.machine_laws.proofs.Leading.{steps_lead}
use Rattle.machine_laws.proofs.Stepping.{right}

-- two that don't hold, together or one of them
neither : (a b : Bool) → (a || b) ≡ false → (a ≡ false) × (b ≡ false)
neither false b e = (refl, e)
neither true b e = (e, absurd (no e))
  where
    no : true ≡ false → ⊥
    no f = cc

module _ (plain : Plain) (pid : ℕ) (call : Call) (next : Files) (unnamed : names_node plain.files pid call ≡ false) (unended : ends_node plain.files next ≡ false) where
  -- but the call names a node
  named : names_node plain.files pid call ≡ true → next.tree ≡ plain.files.tree
  named names = absurd (no (sym unnamed ∙ names))
    where
      no : false ≡ true → ⊥
      no e = cc

  called : (other : Call) → call ≡ other → names_node plain.files pid other ≡ true → next.tree ≡ plain.files.tree
  called other is names = named (ap (names_node plain.files pid) is ∙ names)

  -- what closing leads to has the tree
  kept : (after : Files) → next ≡ after → (ends_node plain.files after ≡ false → after.tree ≡ plain.files.tree) → next.tree ≡ plain.files.tree
  kept after is keeps = ap (λ files. files.tree) is ∙ keeps (sym (ap (ends_node plain.files) is) ∙ unended)

  tree_of : (after : Files) → next ≡ after → after.tree ≡ plain.files.tree → next.tree ≡ plain.files.tree
  tree_of after is same = ap (λ files. files.tree) is ∙ same

  pub by_step : {goes_on : Bool} → IsStep plain pid call goes_on next → next.tree ≡ plain.files.tree
  by_step (step.stays is) = tree_of _ is refl
  by_step (step.shares fd opened from to named_by free is) = tree_of _ is refl
  by_step (step.shares_over fd to opened named_by may apart is) = kept _ is (λ none. tree_kept plain.files _ (close_fades plain.files pid _) none)
  by_step (step.marks fd opened cloexec named_by is) = tree_of _ is refl
  by_step (step.closes fd opened named_by is) = kept _ is (λ none. tree_kept plain.files _ (close_fades plain.files pid _) none)
  by_step (step.describes fd opened description named_by target access between is) = tree_of _ is refl
  by_step (step.opens path flags fd there which free led other is) = called _ which refl
  by_step (step.writes fd addr n done opened number at offset written there wrote is) = named there.reached
  by_step (step.writes_at fd addr n opened number at written there wrote is) = named there.reached
  by_step (step.resizes fd opened number size tree there sized is) = named there.reached
  by_step (step.makes path made which led is) = called _ which refl
  by_step (step.makes_fifo path made which led is) = called _ which refl
  by_step (step.removes path tree which led is) = called _ which refl
  by_step (step.links old new tree which led is) = called _ which refl
  by_step (step.unlinks path left which led is) = called _ which refl
  by_step (step.renames old new left which led is) = called _ which refl
  by_step (step.pipes two free is) = tree_of _ is refl
  by_step (step.takes fd addr n opened place k which named_by on may moves is) = tree_of _ is refl
  by_step (step.puts fd addr n done opened place k which named_by on may moves is) = tree_of _ is refl
  by_step (step.joins path flags fd place there openings opens at may is) = tree_of _ is refl
  by_step (step.begins path flags fd there openings opens at may is) = tree_of _ is refl
  by_step (step.meets path flags opening which begun is) = tree_of _ is refl
  by_step (step.sockets fd free is) = tree_of _ is refl
  by_step (step.pairs two free is) = tree_of _ is refl
  by_step (step.binds fd path opened place made which named_by on fine led is) = called _ which refl
  by_step (step.listens fd opened place named_by on fine is) = tree_of _ is refl
  by_step (step.shuts fd how opened place named_by on fine is) = tree_of _ is refl
  by_step (step.connects fd opened place number listener named_by on fine listening room is) = tree_of _ is refl
  by_step (step.accepts fd opened place to taken named_by on free first is) = tree_of _ is refl
  by_step (step.receives fd addr n opened place k which named_by on moves is) = tree_of _ is refl
  by_step (step.sends fd addr n done opened place k which named_by on moves is) = tree_of _ is refl
  by_step (step.locks fd opened number asked sets named_so target is_file places clear is) = tree_of _ is refl
  by_step (step.starts is) = kept _ is (λ none. tree_kept plain.files _ (exec_fades plain.files pid) none)
  by_step (step.forks which is) = tree_of _ is refl
  by_step (step.ends_caller over ending is) = kept _ is (λ none. tree_kept plain.files _ (closed_by_fades plain.files pid) none)
  by_step (step.ends_other who ending is) = kept _ is (λ none. tree_kept plain.files _ (closed_by_fades plain.files who) none)

pub leaves_tree : (script : Script) (plain : Plain) (pid : ℕ) (call : Call)
    → LeadsTo (λ next. reaches_node plain pid call next ≡ false → next.files.tree ≡ plain.files.tree) (machine script plain pid call)
leaves_tree script plain pid call = go (argument_fault call) refl
  where
    go : (fault : Option Errno) → argument_fault call ≡ fault
        → LeadsTo (λ next. reaches_node plain pid call next ≡ false → next.files.tree ≡ plain.files.tree) (unless_wrong script plain pid fault (answer_to script plain pid call))
    go (Some e) is = λ none. refl
    go None is = steps_lead plain pid call _ follows (answer_to script plain pid call) (right script plain pid call is)
      where
        follows : (goes_on : Bool) (next : Plain) → IsStep plain pid call goes_on next.files → reaches_node plain pid call next ≡ false → next.files.tree ≡ plain.files.tree
        follows goes_on next stepped none =
            let both = neither (is_none (argument_fault call) && names_node plain.files pid call) (ends_node plain.files next.files) none in
            by_step plain pid call next.files (sym (ap (λ fault. is_none fault && names_node plain.files pid call) is) ∙ both.0) both.1 stepped
