use Rattle.std.proofs.Common.{◌≡◌, Option, None, Some, ap, refl, sym, subst, ◌∙◌, w64}
use Rattle.std.specs.Option.{option_map}
use Rattle.std.proofs.lemmas.Int.{to_z-of_z}
use Rattle.kabi_types.specs.Arguments.{argument_fault}
use Rattle.kabi_types.specs.declared.calls.Call.TheVariants as call
use Rattle.kheap_laws.proofs.PaidLemmas.{IsPaid-nothing}
use Rattle.posix_defs.specs.Calls.OnFiles.{open_by}
use Rattle.posix_defs.specs.Needs.{need_of}
use Rattle.proc_table.specs.Opening.{half_in}
use Rattle.store_objects.specs.Walking.{Serves}
use Rattle.file_calls.proofs.Waiting.{serves_by}
use Rattle.file_calls.proofs.opening.open.Goals as goal

pub opening_of-requires-clause-stands : goal.opening_of-requires-clause-stands
opening_of-requires-clause-stands c = (c.args.script.now, c.requires.stands.0, c.requires.stands.1)

-- ---- it waits

pub open_again-requires-clause-stands : goal.open_again-requires-clause-stands
open_again-requires-clause-stands c = (c.requires.stands.0, c.requires.stands.1)

pub open_again-requires-clause-sleeps : goal.open_again-requires-clause-sleeps
open_again-requires-clause-sleeps c = λ world stands. sym (c.opening_of.ensures c.args.script.now world stands) ∙ ap (option_map half_in) c.in-Some.is

pub returns-in-Some-clause-paid : goal.returns-in-Some-clause-paid
returns-in-Some-clause-paid c = IsPaid-nothing c.args.objects.now.heap c.open_again.new.objects.heap c.args.purse.now c.args.purse.now c.open_again.ensures.takes refl refl

pub returns-in-Some-clause-does : goal.returns-in-Some-clause-does
returns-in-Some-clause-does c =
    serves_by c.args.script.now c.args.objects.now c.args.caller.now.place.pid c.args.path.now c.args.flags (Some (half_in c.in-Some.opening)) c.open_again.result c.open_again.new.objects
    (λ world stands. sym (ap (option_map half_in) c.in-Some.is) ∙ c.opening_of.ensures c.args.script.now world stands) (c.open_again.ensures.does c.args.path.now c.args.flags)

-- ---- it begins

pub open_anew-requires-clause-right : goal.open_anew-requires-clause-right
open_anew-requires-clause-right c = subst (λ z. argument_fault (call.OpenFile c.args.path.now z) ≡ None) (sym (to_z-of_z w64 c.args.flags c.ranges.flags)) c.requires.right

pub open_anew-requires-clause-needed : goal.open_anew-requires-clause-needed
open_anew-requires-clause-needed c = subst (λ z. c.args.purse.now.left ≡ need_of (call.OpenFile c.args.path.now z)) (sym (to_z-of_z w64 c.args.flags c.ranges.flags)) c.requires.needed

pub open_anew-requires-clause-begins : goal.open_anew-requires-clause-begins
open_anew-requires-clause-begins c =
    let some = c.requires.begins in
    some.2 (sym (c.opening_of.ensures c.args.script.now some.0 some.1) ∙ ap (option_map half_in) c.in-None.is)

pub returns-in-None-clause-does : goal.returns-in-None-clause-does
returns-in-None-clause-does c =
    serves_by c.args.script.now c.args.objects.now c.args.caller.now.place.pid c.args.path.now c.args.flags None c.open_anew.result c.open_anew.new.objects
    (λ world stands. sym (ap (option_map half_in) c.in-None.is) ∙ c.opening_of.ensures c.args.script.now world stands)
    (subst (λ z. Serves c.args.script.now c.args.objects.now c.args.caller.now.place.pid (call.OpenFile c.args.path.now z)
    (λ plain. open_by c.args.script.now plain c.args.caller.now.place.pid c.args.path.now z None) c.open_anew.result c.open_anew.new.objects) (to_z-of_z w64 c.args.flags c.ranges.flags) c.open_anew.ensures.does)
