use Rattle.std.proofs.Common.{◌≡◌, ◌∙◌, ap, pos, refl, subst, sym, w64}
use Rattle.std.specs.Prelude.{Ok}
use Rattle.std.proofs.lemmas.Int.{to_z-of_z}
use Rattle.kabi_types.specs.declared.replies.Reply.TheVariants.{Fail, Val}
use Rattle.kheap_laws.proofs.PaidLemmas.{IsPaid-nothing, IsPaid-trans, TakesNothing-trans}
use Rattle.posix_defs.specs.declared.turner.Turned.TheVariants.{Done}
use Rattle.proc_table.specs.Accounting.{HasAccount, forked_account}
use Rattle.proc_table.specs.Changes.{forked_as}
use Rattle.proc_table.specs.Standing.{IsTable, forked_in}
use Rattle.store_objects.specs.declared.objects.Objects.{Objects}
use Rattle.store_objects.specs.Objects.{AreKept, Runs}
use Rattle.store_objects.proofs.Replies.{GoesOn}
use Rattle.process_calls.proofs.Forking.{child_there, copied, does_fork, does_full, kept_pinned, may_hold, number_of, runs_pinned, same_objects}
use Rattle.process_calls.proofs.Sharing.{can_share}
use Rattle.store_objects.proofs.Callers.{placed_on}
use Rattle.store_objects.proofs.GoingOn.{at_its_call}
use Rattle.process_calls.proofs.children.fork.Goals as goal

pub fork-requires-clause-alive : goal.fork-requires-clause-alive
fork-requires-clause-alive c = record { proc = c.requires.runs.proc; there = c.requires.runs.found; runs = c.requires.runs.up }

pub fork-requires-clause-shares : goal.fork-requires-clause-shares
fork-requires-clause-shares c = λ parent there. can_share c.args.script.now c.args.objects.now c.args.caller.now.place.pid parent c.requires.kept c.heap_is_well_formed.ensures there

pub behind-requires-clause-stands : goal.behind-requires-clause-stands
behind-requires-clause-stands c = let at = at_its_call c.args.script.now c.args.objects.now c.args.caller.now.place.pid c.args.caller.now.control c.requires.kept c.requires.runs in at.0

pub behind-requires-clause-rests : goal.behind-requires-clause-rests
behind-requires-clause-rests c = let at = at_its_call c.args.script.now c.args.objects.now c.args.caller.now.place.pid c.args.caller.now.control c.requires.kept c.requires.runs in at.1

pub move_on-requires-clause-stored : goal.move_on-requires-clause-stored
move_on-requires-clause-stored c = c.fork.ensures.moves.holds.stored

pub key_there-key-requires-clause-stored : goal.key_there-key-requires-clause-stored
key_there-key-requires-clause-stored c = c.fork.ensures.moves.holds.stored

pub key_there-key-requires-clause-there : goal.key_there-key-requires-clause-there
key_there-key-requires-clause-there c =
    child_there c.args.script.now c.args.objects.now (record { heap = c.fork.new.heap; procs = c.fork.new.self; tree = c.args.objects.now.tree; names = c.args.objects.now.names; fifos = c.args.objects.now.fifos; locks = c.args.objects.now.locks }) c.args.caller.now.place.pid c.in-Ok.child c.args.caller.now.control
    c.requires.kept c.requires.runs c.fork.ensures.moves refl refl refl refl
    (record { can = can_share c.args.script.now c.args.objects.now c.args.caller.now.place.pid c.requires.runs.proc c.requires.kept c.heap_is_well_formed.ensures c.requires.runs.found; descs = c.in-Ok.ensures.shared c.requires.runs.proc c.requires.runs.found })
    c.in-Ok.ensures.child (copied c.args.script.now c.args.objects.now (record { heap = c.fork.new.heap; procs = c.fork.new.self; tree = c.args.objects.now.tree; names = c.args.objects.now.names; fifos = c.args.objects.now.fifos; locks = c.args.objects.now.locks }) c.args.caller.now.place.pid c.in-Ok.child c.requires.kept c.in-Ok.ensures.child (number_of _ _ c.in-Ok.child (sym c.in-Ok.is ∙ c.fork.ensures.answer)) c.in-Ok.ensures.copies)

pub directory_of-directory-requires-clause-stored : goal.directory_of-directory-requires-clause-stored
directory_of-directory-requires-clause-stored c = c.requires.kept.holds.stored

pub hold_directory-requires : goal.hold_directory-requires
hold_directory-requires c = record {
  held = λ other.
      let some = c.requires.stands in
      may_hold c.args.script.now c.args.objects.now (record { heap = c.fork.new.heap; procs = c.fork.new.self; tree = c.args.objects.now.tree; names = c.args.objects.now.names; fifos = c.args.objects.now.fifos; locks = c.args.objects.now.locks }) c.move_on.new.self c.args.caller.now.place.pid c.in-Ok.child c.args.caller.now.control c.behind.result
      c.requires.kept c.requires.runs c.fork.ensures.moves refl refl refl refl
      (record { can = can_share c.args.script.now c.args.objects.now c.args.caller.now.place.pid c.requires.runs.proc c.requires.kept c.heap_is_well_formed.ensures c.requires.runs.found; descs = c.in-Ok.ensures.shared c.requires.runs.proc c.requires.runs.found })
      c.in-Ok.ensures.child (copied c.args.script.now c.args.objects.now (record { heap = c.fork.new.heap; procs = c.fork.new.self; tree = c.args.objects.now.tree; names = c.args.objects.now.names; fifos = c.args.objects.now.fifos; locks = c.args.objects.now.locks }) c.args.caller.now.place.pid c.in-Ok.child c.requires.kept c.in-Ok.ensures.child (number_of _ _ c.in-Ok.child (sym c.in-Ok.is ∙ c.fork.ensures.answer)) c.in-Ok.ensures.copies) (number_of _ _ c.in-Ok.child (sym c.in-Ok.is ∙ c.fork.ensures.answer)) c.move_on.ensures
      c.directory_of-directory.result (c.directory_of-directory.ensures c.requires.runs.proc c.requires.runs.found) other some.0 some.1 c.heap_is_well_formed.ensures;
}

pub go_on_anew-requires-clause-kept : goal.go_on_anew-requires-clause-kept
go_on_anew-requires-clause-kept c =
    kept_pinned c.args.script.now c.args.objects.now (record { heap = c.fork.new.heap; procs = c.fork.new.self; tree = c.args.objects.now.tree; names = c.args.objects.now.names; fifos = c.args.objects.now.fifos; locks = c.args.objects.now.locks }) c.move_on.new.self c.hold_directory.new.objects c.args.caller.now.place.pid c.in-Ok.child c.directory_of-directory.result c.args.caller.now.control c.behind.result
    c.requires.kept c.requires.runs c.fork.ensures.moves refl refl refl refl (record { can = can_share c.args.script.now c.args.objects.now c.args.caller.now.place.pid c.requires.runs.proc c.requires.kept c.heap_is_well_formed.ensures c.requires.runs.found; descs = c.in-Ok.ensures.shared c.requires.runs.proc c.requires.runs.found })
    c.in-Ok.ensures.child (copied c.args.script.now c.args.objects.now (record { heap = c.fork.new.heap; procs = c.fork.new.self; tree = c.args.objects.now.tree; names = c.args.objects.now.names; fifos = c.args.objects.now.fifos; locks = c.args.objects.now.locks }) c.args.caller.now.place.pid c.in-Ok.child c.requires.kept c.in-Ok.ensures.child (number_of _ _ c.in-Ok.child (sym c.in-Ok.is ∙ c.fork.ensures.answer)) c.in-Ok.ensures.copies) (number_of _ _ c.in-Ok.child (sym c.in-Ok.is ∙ c.fork.ensures.answer)) c.move_on.ensures
    (c.directory_of-directory.ensures c.requires.runs.proc c.requires.runs.found) c.hold_directory.ensures.only c.hold_directory.ensures.stands c.behind.ensures.stands c.behind.ensures.rests

pub go_on_anew-requires-clause-runs : goal.go_on_anew-requires-clause-runs
go_on_anew-requires-clause-runs c =
    runs_pinned c.args.script.now c.args.objects.now (record { heap = c.fork.new.heap; procs = c.fork.new.self; tree = c.args.objects.now.tree; names = c.args.objects.now.names; fifos = c.args.objects.now.fifos; locks = c.args.objects.now.locks }) c.move_on.new.self c.hold_directory.new.objects c.args.caller.now.place.pid c.in-Ok.child c.directory_of-directory.result c.args.caller.now.control c.behind.result
    c.requires.kept c.requires.runs c.fork.ensures.moves refl refl refl refl (record { can = can_share c.args.script.now c.args.objects.now c.args.caller.now.place.pid c.requires.runs.proc c.requires.kept c.heap_is_well_formed.ensures c.requires.runs.found; descs = c.in-Ok.ensures.shared c.requires.runs.proc c.requires.runs.found })
    c.in-Ok.ensures.child (copied c.args.script.now c.args.objects.now (record { heap = c.fork.new.heap; procs = c.fork.new.self; tree = c.args.objects.now.tree; names = c.args.objects.now.names; fifos = c.args.objects.now.fifos; locks = c.args.objects.now.locks }) c.args.caller.now.place.pid c.in-Ok.child c.requires.kept c.in-Ok.ensures.child (number_of _ _ c.in-Ok.child (sym c.in-Ok.is ∙ c.fork.ensures.answer)) c.in-Ok.ensures.copies) (number_of _ _ c.in-Ok.child (sym c.in-Ok.is ∙ c.fork.ensures.answer)) c.move_on.ensures
    (c.directory_of-directory.ensures c.requires.runs.proc c.requires.runs.found) c.hold_directory.ensures.only c.hold_directory.ensures.stands

pub go_on-requires-clause-kept : goal.go_on-requires-clause-kept
go_on-requires-clause-kept c =
    subst (AreKept c.args.script.now) (sym (same_objects c.args.objects.now c.fork.new.heap c.fork.new.self c.in-Err.ensures.unchanged.0 c.in-Err.ensures.unchanged.1)) c.requires.kept

pub go_on-requires-clause-runs : goal.go_on-requires-clause-runs
go_on-requires-clause-runs c =
    subst (λ objects. Runs objects c.args.caller.now.place.pid c.args.caller.now.control)
    (sym (same_objects c.args.objects.now c.fork.new.heap c.fork.new.self c.in-Err.ensures.unchanged.0 c.in-Err.ensures.unchanged.1)) c.requires.runs

pub go_on-requires-clause-placed : goal.go_on-requires-clause-placed
go_on-requires-clause-placed c =
    placed_on c.args.objects.now (record { heap = c.fork.new.heap; procs = c.fork.new.self; tree = c.args.objects.now.tree; names = c.args.objects.now.names; fifos = c.args.objects.now.fifos; locks = c.args.objects.now.locks })
    c.args.caller.now.place c.in-Err.ensures.unchanged.1 c.requires.placed

pub returns-in-Ok-clause-paid : goal.returns-in-Ok-clause-paid
returns-in-Ok-clause-paid c =
    IsPaid-trans c.args.objects.now.heap c.args.purse.now c.fork.new.heap c.fork.new.purse c.go_on_anew.new.objects.heap c.fork.new.purse c.fork.ensures.paid
    (IsPaid-trans c.fork.new.heap c.fork.new.purse c.move_on.new.self.heap c.fork.new.purse c.go_on_anew.new.objects.heap c.fork.new.purse
    (IsPaid-nothing c.fork.new.heap c.move_on.new.self.heap c.fork.new.purse c.fork.new.purse c.move_on.ensures.takes refl refl)
    (IsPaid-nothing c.move_on.new.self.heap c.go_on_anew.new.objects.heap c.fork.new.purse c.fork.new.purse
    (TakesNothing-trans c.move_on.new.self.heap c.hold_directory.new.objects.heap c.go_on_anew.new.objects.heap c.hold_directory.ensures.takes c.go_on_anew.ensures.takes) refl refl))

pub returns-in-Err-clause-paid : goal.returns-in-Err-clause-paid
returns-in-Err-clause-paid c =
    IsPaid-trans c.args.objects.now.heap c.args.purse.now c.fork.new.heap c.fork.new.purse c.go_on.new.objects.heap c.fork.new.purse c.fork.ensures.paid
    (IsPaid-nothing c.fork.new.heap c.go_on.new.objects.heap c.fork.new.purse c.fork.new.purse c.go_on.ensures.takes refl refl)

pub returns-in-Ok-clause-does : goal.returns-in-Ok-clause-does
returns-in-Ok-clause-does c =
    let script = c.args.script.now in
    let mid : Objects = record { heap = c.fork.new.heap; procs = c.fork.new.self; tree = c.args.objects.now.tree; names = c.args.objects.now.names; fifos = c.args.objects.now.fifos; locks = c.args.objects.now.locks } in
    let answer : Ok c.in-Ok.child ≡ forked_as _ c.args.objects.now.procs.last = sym c.in-Ok.is ∙ c.fork.ensures.answer in
    let value : _ ≡ pos c.in-Ok.child = to_z-of_z w64 c.from.result (record { sfits = c.from.type_inv }) ∙ c.from.ensures in
    does_fork script c.args.objects.now mid c.move_on.new.self c.hold_directory.new.objects c.args.caller.now.place.pid c.in-Ok.child c.directory_of-directory.result c.args.caller.now.control c.behind.result
    c.requires.kept c.requires.runs c.fork.ensures.moves refl refl refl refl
    (record { can = can_share c.args.script.now c.args.objects.now c.args.caller.now.place.pid c.requires.runs.proc c.requires.kept c.heap_is_well_formed.ensures c.requires.runs.found; descs = c.in-Ok.ensures.shared c.requires.runs.proc c.requires.runs.found })
    c.in-Ok.ensures.child (copied c.args.script.now c.args.objects.now (record { heap = c.fork.new.heap; procs = c.fork.new.self; tree = c.args.objects.now.tree; names = c.args.objects.now.names; fifos = c.args.objects.now.fifos; locks = c.args.objects.now.locks }) c.args.caller.now.place.pid c.in-Ok.child c.requires.kept c.in-Ok.ensures.child (number_of _ _ c.in-Ok.child (sym c.in-Ok.is ∙ c.fork.ensures.answer)) c.in-Ok.ensures.copies) (number_of _ _ c.in-Ok.child answer) c.move_on.ensures
    (c.directory_of-directory.ensures c.requires.runs.proc c.requires.runs.found) c.hold_directory.ensures.only c.hold_directory.ensures.stands
    c.go_on_anew.new.objects c.go_on_anew.result c.behind.ensures.stands c.behind.ensures.rests answer
    (λ table is. subst (λ r. IsTable c.fork.new.heap c.fork.new.self (forked_in table c.args.caller.now.place.pid r)) c.in-Ok.is (c.fork.ensures.table table is))
    (λ frames has. subst (λ r. HasAccount c.fork.new.heap c.fork.new.self (forked_account frames c.args.caller.now.place.pid r)) c.in-Ok.is (c.fork.ensures.account frames has))
    c.behind.ensures.leads
    (c.go_on_anew.ensures.told ∙ ap (λ z. Done (Val z)) value)
    (subst (λ z. GoesOn script c.hold_directory.new.objects c.args.caller.now.place.pid (Val z) c.go_on_anew.new.objects) value c.go_on_anew.ensures.goes)

pub returns-in-Err-clause-does : goal.returns-in-Err-clause-does
returns-in-Err-clause-does c =
    let same = same_objects c.args.objects.now c.fork.new.heap c.fork.new.self c.in-Err.ensures.unchanged.0 c.in-Err.ensures.unchanged.1 in
    does_full c.args.script.now c.args.objects.now c.go_on.new.objects c.args.caller.now.place.pid c.in-Err.errno c.go_on.result
    (sym c.in-Err.is ∙ c.fork.ensures.answer) c.go_on.ensures.told
    (subst (λ objects. GoesOn c.args.script.now objects c.args.caller.now.place.pid (Fail c.in-Err.errno) c.go_on.new.objects) same c.go_on.ensures.goes)

pub fork-requires-clause-own : goal.fork-requires-clause-own
fork-requires-clause-own c = c.requires.kept.leaves
