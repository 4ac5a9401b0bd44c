use Rattle.std.proofs.Common.{◌∙◌, ap, refl, subst, sym, w64}
use Rattle.std.proofs.lemmas.Int.{to_z-of_z}
use Rattle.kabi_types.specs.Arguments.{count_of}
use Rattle.posix_defs.specs.Signals.{is_ignored}
use Rattle.proc_table.specs.Moves.{Disposes}
use Rattle.store_objects.proofs.Dispositions.{ignores_are, kept_disposed, one_disposed, runs_disposed, stands_disposed}
use Rattle.store_objects.proofs.disposing.dispose.Goals as goal

pub returns-clause-kept : goal.returns-clause-kept
returns-clause-kept c = λ script kept.
    let old = c.args.objects.now in
    let disposes = subst (λ z. Disposes old.heap c.dispose.new.heap old.procs c.args.place (count_of z) c.args.ignored c.dispose.result) (to_z-of_z w64 c.args.signal c.ranges.signal) c.dispose.ensures.disposes in
    kept_disposed script old (record old { heap = c.dispose.new.heap }) c.args.place.pid (count_of c.args.signal) c.args.ignored kept
    (one_disposed old (record old { heap = c.dispose.new.heap }) c.args.place (count_of c.args.signal) c.args.ignored c.dispose.result disposes refl refl refl refl refl c.dispose.ensures.takes)

pub returns-clause-runs : goal.returns-clause-runs
returns-clause-runs c =
    let old = c.args.objects.now in
    let some = c.requires.kept in
    let disposes = subst (λ z. Disposes old.heap c.dispose.new.heap old.procs c.args.place (count_of z) c.args.ignored c.dispose.result) (to_z-of_z w64 c.args.signal c.ranges.signal) c.dispose.ensures.disposes in
    runs_disposed some.0 old (record old { heap = c.dispose.new.heap }) c.args.place.pid (count_of c.args.signal) c.args.ignored some.1
    (one_disposed old (record old { heap = c.dispose.new.heap }) c.args.place (count_of c.args.signal) c.args.ignored c.dispose.result disposes refl refl refl refl refl c.dispose.ensures.takes)

pub returns-clause-before : goal.returns-clause-before
returns-clause-before c = λ script world stands.
    let old = c.args.objects.now in
    let disposes = subst (λ z. Disposes old.heap c.dispose.new.heap old.procs c.args.place (count_of z) c.args.ignored c.dispose.result) (to_z-of_z w64 c.args.signal c.ranges.signal) c.dispose.ensures.disposes in
    disposes.was ∙ ap (λ ignores. is_ignored ignores (count_of c.args.signal)) (sym (ignores_are script old world.plain c.args.place.pid disposes.proc stands.processes disposes.found))

pub returns-clause-stands : goal.returns-clause-stands
returns-clause-stands c = λ script world stands.
    let old = c.args.objects.now in
    let disposes = subst (λ z. Disposes old.heap c.dispose.new.heap old.procs c.args.place (count_of z) c.args.ignored c.dispose.result) (to_z-of_z w64 c.args.signal c.ranges.signal) c.dispose.ensures.disposes in
    stands_disposed script old (record old { heap = c.dispose.new.heap }) c.args.place.pid (count_of c.args.signal) c.args.ignored stands.kept
    (one_disposed old (record old { heap = c.dispose.new.heap }) c.args.place (count_of c.args.signal) c.args.ignored c.dispose.result disposes refl refl refl refl refl c.dispose.ensures.takes) world stands
