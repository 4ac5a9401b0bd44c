use Rattle.std.proofs.Common.{◌∙◌, ap, sym}
use Rattle.kheap_laws.proofs.PaidLemmas.{TakesNothing-trans}
use Rattle.store_objects.specs.Trees.{pins_in}
use Rattle.store_objects.specs.Working.{entered_pins}
use Rattle.store_objects.proofs.Callers.{placed_on}
use Rattle.store_objects.proofs.Moving.{is_held, it_was, kept_mid, root_held, root_stays_held, runs_new, stands_moved, works_then}
use Rattle.store_objects.proofs.directories.work_in.Goals as goal

pub directory_of-left-requires-clause-stored : goal.directory_of-left-requires-clause-stored
directory_of-left-requires-clause-stored c = c.requires.entered.2.kept.holds.stored

pub hold_once-requires : goal.hold_once-requires
hold_once-requires c = let some = c.requires.entered in record { held = (some.1.plain.files.tree, pins_in some.1.plain, some.2.tree, root_held some.1.plain) }

pub work_elsewhere-requires-clause-stored : goal.work_elsewhere-requires-clause-stored
work_elsewhere-requires-clause-stored c =
    let some = c.requires.entered in
    (kept_mid some.0 c.args.objects.now c.hold_once.new.objects some.1 c.args.directory some.2 c.hold_once.ensures.only c.hold_once.ensures.stands).holds.stored

pub work_elsewhere-requires-clause-there : goal.work_elsewhere-requires-clause-there
work_elsewhere-requires-clause-there c = placed_on c.args.objects.now c.hold_once.new.objects c.args.place (c.hold_once.ensures.only.procs) c.requires.there

pub let_go-requires : goal.let_go-requires
let_go-requires c = record {
  held = λ other.
      let some = c.requires.entered in
      let old = c.args.objects.now in
      let mid = c.hold_once.new.objects in
      let moved = c.work_elsewhere.new.self in
      let once = c.hold_once.ensures.only in
      let held = c.hold_once.ensures.stands in
      let moves = c.work_elsewhere.ensures in
      let proc = c.requires.alive.proc in
      let same = it_was some.0 old mid some.1 c.args.directory some.2 once held moved c.args.place.pid moves proc c.requires.alive.there in (
        some.1.plain.files.tree,
        entered_pins (pins_in some.1.plain) c.args.directory,
        stands_moved some.0 old mid some.1 c.args.directory some.2 once held moved c.args.place.pid moves,
        is_held some.0 old mid some.1 c.args.directory some.2 once held moved c.args.place.pid moves c.directory_of-left.result
            (c.directory_of-left.ensures proc c.requires.alive.there ∙ ap (λ p. p.cwd) (sym same)) (ap (λ p. p.status) same ∙ c.requires.alive.runs) other,
        root_stays_held some.1.plain c.args.directory c.directory_of-left.result other,
      );
}

pub returns-clause-runs : goal.returns-clause-runs
returns-clause-runs c = λ control runs.
    let some = c.requires.entered in
    let old = c.args.objects.now in
    let mid = c.hold_once.new.objects in
    let moved = c.work_elsewhere.new.self in
    let once = c.hold_once.ensures.only in
    let held = c.hold_once.ensures.stands in
    let moves = c.work_elsewhere.ensures in
    let proc = c.requires.alive.proc in
    let same = it_was some.0 old mid some.1 c.args.directory some.2 once held moved c.args.place.pid moves proc c.requires.alive.there in
    runs_new some.0 old mid some.1 c.args.directory some.2 once held moved c.args.place.pid moves c.let_go.new.objects c.directory_of-left.result c.let_go.ensures.only c.let_go.ensures.stands
    (c.directory_of-left.ensures proc c.requires.alive.there ∙ ap (λ p. p.cwd) (sym same)) (ap (λ p. p.status) same ∙ c.requires.alive.runs) control runs

pub returns-clause-stands : goal.returns-clause-stands
returns-clause-stands c = λ script world has.
    let old = c.args.objects.now in
    let mid = c.hold_once.new.objects in
    let moved = c.work_elsewhere.new.self in
    let once = c.hold_once.ensures.only in
    let held = c.hold_once.ensures.stands in
    let moves = c.work_elsewhere.ensures in
    let proc = c.requires.alive.proc in
    let same = it_was script old mid world c.args.directory has once held moved c.args.place.pid moves proc c.requires.alive.there in
    works_then script old mid world c.args.directory has once held moved c.args.place.pid moves c.let_go.new.objects c.directory_of-left.result c.let_go.ensures.only c.let_go.ensures.stands
    (c.directory_of-left.ensures proc c.requires.alive.there ∙ ap (λ p. p.cwd) (sym same)) (ap (λ p. p.status) same ∙ c.requires.alive.runs)

pub returns-clause-takes : goal.returns-clause-takes
returns-clause-takes c =
    TakesNothing-trans c.args.objects.now.heap c.hold_once.new.objects.heap c.let_go.new.objects.heap c.hold_once.ensures.takes
    (TakesNothing-trans c.hold_once.new.objects.heap c.work_elsewhere.new.self.heap c.let_go.new.objects.heap c.work_elsewhere.ensures.takes c.let_go.ensures.takes)

pub returns-clause-procs : goal.returns-clause-procs
returns-clause-procs c = c.let_go.ensures.only.procs ∙ c.work_elsewhere.ensures.same ∙ c.hold_once.ensures.only.procs
