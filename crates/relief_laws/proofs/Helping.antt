-- Why relief helps in the end.
use Rattle.std.proofs.Common.{◌≡◌, ◌||◌, ◌&&◌, not, cond, Bool, true, false, List, [], ◌∷◌, map, filter, inl, inr, refl, sym, ap, ◌∙◌, subst}
use Rattle.std.specs.Prelude.{is_some}
use Rattle.std.specs.List.{list_any}
use Rattle.kabi_types.specs.declared.scripts.Script.{Script}
use Rattle.posix_defs.specs.CoreEvent.{bury, buried, is_dead, stranded}
use Rattle.posix_defs.specs.CoreState.{CoreState, is_admitted, none_admitted, some_fits, some_wait_in_vain}
use Rattle.posix_defs.specs.Licence.{can_evict_any, is_licensed}
use Rattle.posix_defs.specs.Plain.{Plain}
use Rattle.posix_defs.specs.Process.{is_alive}
use Rattle.posix_defs.specs.Victim.{victim_of}
use Rattle.posix_defs.specs.declared.phases.Phase.{Phase}
use Rattle.posix_defs.specs.declared.phases.Phase.TheVariants.{User, Waiting, Admitted, Asleep, Stranded, Dead}
use Rattle.posix_defs.specs.declared.phases.Task.{Task}
use Rattle.relief_laws.specs.Measure.{ComesToAnEnd, IsHelpedInTheEnd, IsRelieved, at_once, by_relief, is_helped, unless_relieved}
use Rattle.relief_laws.proofs.Lowering.{comes_to_an_end}

-- who isn't admitted isn't in the end of its process either
stranded_still : (phase : Phase) → is_admitted phase ≡ false → is_admitted (stranded phase) ≡ false
stranded_still User none = refl
stranded_still (Waiting asked) none = refl
stranded_still (Admitted asked) none = none
stranded_still (Asleep asked) none = refl
stranded_still (Stranded asked) none = none
stranded_still Dead none = refl

buried_still : (alive : Bool) (task : Task) → is_admitted task.phase ≡ false
    → is_admitted (cond alive task (record task { phase = stranded task.phase })).phase ≡ false
buried_still true task none = none
buried_still false task none = stranded_still task.phase none

-- neither of two is, and what is dropped doesn't matter
or_none : (a b : Bool) → (a || b) ≡ false → (a ≡ false) × (b ≡ false)
or_none false b none = (refl, none)
or_none true b none = cc

kept_still : (kept : Bool) (task : Task) (tasks : List Task) → is_admitted task.phase ≡ false → list_any (λ t. is_admitted t.phase) tasks ≡ false
    → list_any (λ t. is_admitted t.phase) (cond kept (task ∷ tasks) tasks) ≡ false
kept_still true task tasks none rest = ap (λ b. b || list_any (λ t. is_admitted t.phase) tasks) none ∙ rest
kept_still false task tasks none rest = rest

-- the end of processes leaves none admitted where none was
none_buried : (plain : Plain) (tasks : List Task) → list_any (λ task. is_admitted task.phase) tasks ≡ false
    → list_any (λ task. is_admitted task.phase) (buried plain tasks) ≡ false
none_buried plain [] none = refl
none_buried plain (task ∷ tasks) none =
    let both = or_none (is_admitted task.phase) (list_any (λ t. is_admitted t.phase) tasks) none in
    kept_still (not (is_dead (bury plain task).phase)) (bury plain task) (buried plain tasks)
    (buried_still (is_alive plain.table task.pid) task both.0) (none_buried plain tasks both.1)

not_true : (b : Bool) → not b ≡ true → b ≡ false
not_true false is = refl
not_true true is = cc

-- relief admits nobody
none_relieved : (script : Script) (old new : CoreState) → IsRelieved script old new → none_admitted old ≡ true → none_admitted new ≡ true
none_relieved script old new relieved none = elim relieved [
  | inl evicts ↦ ap (λ tasks. not (list_any (λ task. is_admitted task.phase) tasks)) evicts.2.tasks ∙ none
  | inr kills ↦ ap (λ tasks. not (list_any (λ task. is_admitted task.phase) tasks)) kills.2.tasks
      ∙ ap not (none_buried new.world.plain old.tasks (not_true (list_any (λ task. is_admitted task.phase) old.tasks) none))
]

-- who isn't helped can be: something can be evicted, or a kill is licensed
at_hand : (script : Script) (s : CoreState) → none_admitted s ≡ true → is_helped script s ≡ false → (can_evict_any s.world || is_licensed script s) ≡ true
at_hand script s none =
    go (some_wait_in_vain script s) (none_admitted s) none (can_evict_any s.world) (some_fits script s) (is_some (victim_of script.policy s.world.plain s.world.account))
  where
    go : (vain unadmitted : Bool) → unadmitted ≡ true → (evicts fits victim : Bool) → (not vain || fits || not victim) ≡ false
        → (evicts || (vain && unadmitted && not evicts && not fits && victim)) ≡ true
    go vain unadmitted is true fits victim unhelped = refl
    go true true is false false true unhelped = refl
    go true true is false false false unhelped = cc
    go true true is false true victim unhelped = cc
    go false unadmitted is false fits victim unhelped = cc
    go true false is evicts fits victim unhelped = cc

helped_now : (script : Script) (s : CoreState) → none_admitted s ≡ true → ((new : CoreState) → IsRelieved script s new → IsHelpedInTheEnd script new)
    → IsHelpedInTheEnd script s
helped_now script s none later = go (is_helped script s) refl
  where
    go : (helped : Bool) → is_helped script s ≡ helped → IsHelpedInTheEnd script s
    go true is = at_once s is
    go false is = by_relief s (at_hand script s none is) later

helped_so : (script : Script) (s : CoreState) → ComesToAnEnd script s → none_admitted s ≡ true → IsHelpedInTheEnd script s
helped_so script _ (unless_relieved s next) none =
    helped_now script s none (λ new relieved. helped_so script new (next new relieved) (none_relieved script s new relieved none))

pub helped_in_the_end : (script : Script) (s : CoreState) → none_admitted s ≡ true → IsHelpedInTheEnd script s
helped_in_the_end script s none = helped_so script s (comes_to_an_end script s) none
