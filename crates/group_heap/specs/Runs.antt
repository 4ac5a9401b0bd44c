-- What groups are before they run, and what has become of each.
use Rattle.std.specs.Prelude.{ℕ, ◌≡◌, ◌<◌, ◌≤◌, Bool, true, false, List, length, map, slice_index_or, None}
use Rattle.kabi_types.specs.declared.entries.End.{End}
use Rattle.kabi_types.specs.declared.scripts.Script.{Script}
use Rattle.posix_defs.specs.CoreState.{charged_in}
use Rattle.posix_defs.specs.Lines.{report}
use Rattle.posix_defs.specs.ValidScript.{IsValid}
use Rattle.posix_defs.specs.World.{World}
use Rattle.kern_core.specs.RunOver.{HasEndedOver}
use Rattle.kern_tasks.specs.View.{CoreView, HasBooted}
use Rattle.group_heap.specs.declared.groups.Group.{Group}
use Rattle.group_heap.specs.declared.groups.GroupEnd.{GroupEnd}
use Rattle.group_heap.specs.declared.groups.GroupEnd.TheVariants as end
use Rattle.group_heap.specs.declared.lists.Section.{Section}

-- the group hasn't run
abbrev pub has_waited : GroupEnd → Bool
has_waited end.NotRun = true
has_waited (end.Refused _) = false
has_waited (end.Ran _) = false

-- the group's name beside its script
abbrev pub section_of : {T : Type 0} → Group T → Section
section_of group = record { name = group.name; script = group.script }

abbrev pub sections_of : {T : Type 0} → List (Group T) → List Section
sections_of groups = map section_of groups

module _ {T : Type 0} (stands_for : T → World → Type 0) (script_of : T → Script) where
  -- The group hasn't run, and its core is at boot of its script, with that script's steps and heap.
  pub record IsAtStart (group : Group T) : Type 0 where
    pub valid : IsValid group.script
    pub booted : HasBooted stands_for (script_of group.core.store) group.core
    pub script : group.script ≡ script_of group.core.store
    pub steps : group.core.steps ≡ group.script.steps
    pub seat : group.seat ≡ None
    pub waits : group.outcome ≡ end.NotRun

-- The core has run the script to this end, and the text is the report of its run.
pub record TellsRun {T : Type 0} (stands_for : T → World → Type 0) (marks high : T → ℕ) (script : Script) (core : CoreView T) (how : End) (text : List ℕ) : Type 0 where
  pub steps : core.steps ≡ script.steps
  pub ended : HasEndedOver stands_for marks high script core how
  pub text_is : text ≡ report core.run how (charged_in ended.state) ended.state.world.reads

module _ {T : Type 0} (stands_for : T → World → Type 0) (marks high : T → ℕ) (whole : ℕ) where
  -- What an outcome says of its group, under this whole: Refused just where its heap is above that; else the core has run its script to
  -- this end, and the text is the report of that run.
  abbrev pub Says : Group T → GroupEnd → Type 0
  Says group end.NotRun = ⊥
  Says group (end.Refused heap) = (heap ≡ group.script.heap) × (whole < heap)
  Says group (end.Ran how) = (group.script.heap ≤ whole) × TellsRun stands_for marks high group.script group.core how group.text

  -- the group was refused, or has run
  abbrev pub IsDone : Group T → Type 0
  IsDone group = Says group group.outcome

  -- What the call of a group leaves of it, by its outcome. Where memory was wanting for its report, its core is at the end of its run.
  abbrev pub Leaves : Group T → Group T → GroupEnd → Type 0
  Leaves old new end.NotRun = (new.script.heap ≤ whole) × ((how : End) × HasEndedOver stands_for marks high new.script new.core how)
  Leaves old new (end.Refused heap) = (new.core ≡ old.core) × Says new (end.Refused heap)
  Leaves old new (end.Ran how) = Says new (end.Ran how)

  -- The group has the name and the script that it had, and no seat; it was refused, or has run, or memory was wanting for its report.
  pub record BecomesOf (old new : Group T) : Type 0 where
    pub name : new.name ≡ old.name
    pub script : new.script ≡ old.script
    pub seat : new.seat ≡ None
    pub left : Leaves old new new.outcome

  -- the same of all groups
  abbrev pub EachBecomes : List (Group T) → List (Group T) → Type 0
  EachBecomes old new = (place : ℕ) (d : Group T) → place < length old → BecomesOf (slice_index_or old place d) (slice_index_or new place d)
