use Rattle.std.proofs.Common.{◌≡◌, ℕ, ◌+◌, ◌≤◌, ◌∙◌, ap, arith, refl, subst, sym}
use Rattle.std.specs.Prelude.{codes}
use Rattle.kabi_types.specs.declared.scripts.Script.{Script}
use Rattle.machine_laws.specs.Reached.{boots}
use Rattle.posix_defs.specs.Files.Descriptors.{none_open}
use Rattle.posix_defs.specs.Memory.{no_places}
use Rattle.posix_defs.specs.Plain.{place_of}
use Rattle.posix_defs.specs.Sizes.{reserve}
use Rattle.posix_defs.specs.ValidScript.{IsValid}
use Rattle.posix_defs.specs.World.{boot_world, live_of}
use Rattle.store_objects.specs.Objects.{AreKept}
use Rattle.store_objects.proofs.Booting.{boot_stands, boot_stands_for}
use Rattle.std.specs.List.{AllByRecursion}
use Rattle.call_run.specs.Sleepers.{IsTrulyTold}
use Rattle.call_run.specs.Stores.{Stands}
use Rattle.call_run.proofs.Minding.{minded_alone}
use Rattle.call_run.proofs.Resting.{mark_rests, mark_stands, with_heap}
use Rattle.call_run.proofs.store.Store.boot.Goals as goal

pub go_to_call-requires : goal.go_to_call-requires
go_to_call-requires g c =
    boot_stands c.in_ok-script.script _ (subst IsValid (sym c.in_ok-script.ensures) c.requires.valid) (c.place_of.ensures ∙ ap (place_of (codes "init")) c.items.ensures) refl

-- a store that has just begun has room for what is kept back
boot_live : (script : Script) → live_of (boot_world script) ≡ 640
unfolding no_places none_open
boot_live script = refl

begins : (script : Script) → IsValid script → live_of (boot_world script) + reserve ≤ script.heap
begins script valid = few (live_of (boot_world script)) script.heap (boot_live script) valid.least_heap
  where
    few : (live size : ℕ) → live ≡ 640 → 8192 ≤ size → live + reserve ≤ size
    few live size is least = omega (arith, is, least)

pub returns-clause-booted : goal.returns-clause-booted
returns-clause-booted g c =
    let objects = c.in_ok-objects.objects in
    let stands = boot_stands_for c.args.script.now c.in_ok-script.script objects c.place_of.result c.go_to_call.new.control c.requires.valid c.in_ok-script.ensures
    (c.place_of.ensures ∙ ap (place_of (codes "init")) c.items.ensures) c.go_to_call.ensures.settled
    c.go_to_call.ensures.stands c.go_to_call.ensures.rests c.in_ok-objects.ensures in
    subst (λ script. Stands (record { script = script; objects = with_heap objects c.mark.new.self; sleepers = c.new-2.result }) (boot_world c.args.script.now)) (sym c.in_ok-script.ensures)
    (record {
      objects = record {
        stands = mark_stands objects c.mark.new.self c.mark.ensures c.args.script.now (boot_world c.args.script.now) stands;
        reached = boots;
        spare = begins c.args.script.now c.requires.valid;
      };
      rests = mark_rests objects c.mark.new.self c.mark.ensures;
      told = minded_alone c.args.script.now (boot_world c.args.script.now).plain _ _ c.new-2.ensures.channels
          (subst (AllByRecursion (IsTrulyTold c.args.script.now (boot_world c.args.script.now).plain)) (sym c.new-2.ensures.told) tt);
    })

pub invariant_of-result : goal.invariant_of-result
invariant_of-result g c =
    let objects = c.in_ok-objects.objects in
    let stands = boot_stands_for c.args.script.now c.in_ok-script.script objects c.place_of.result c.go_to_call.new.control c.requires.valid c.in_ok-script.ensures
    (c.place_of.ensures ∙ ap (place_of (codes "init")) c.items.ensures) c.go_to_call.ensures.settled
    c.go_to_call.ensures.stands c.go_to_call.ensures.rests c.in_ok-objects.ensures in
    let kept = mark_stands objects c.mark.new.self c.mark.ensures c.args.script.now (boot_world c.args.script.now) stands in
    subst (λ script. AreKept script (with_heap objects c.mark.new.self)) (sym c.in_ok-script.ensures) kept.kept
