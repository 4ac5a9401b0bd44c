use Rattle.std.proofs.Common.{◌∙◌, Some, ap, refl, sym, w64}
use Rattle.std.specs.Option.{option_map}
use Rattle.std.proofs.lemmas.Int.{to_z-of_z}
use Rattle.open_laws.specs.Described.{target_in}
use Rattle.proc_numbers.specs.declared.lookups.Found.{Found}
use Rattle.proc_numbers.proofs.OpenedBy.{is_there}
use Rattle.waking_laws.specs.Waking.{meet}
use Rattle.call_run.proofs.Meeting.{apart_by_keys, meets_nothing, target_found}
use Rattle.call_run.proofs.touching.is_near.Goals as goal

pub returns-in-Some : goal.returns-in-Some
returns-in-Some c = λ numbers files have quiet.
    let h = c.args.objects.now.heap in
    let kept = c.args.objects.now.procs in
    let found = c.in-Some.found in
    let same = c.opened.ensures.number ∙ to_z-of_z w64 c.args.fd c.ranges.fd in
    let target = target_found h kept c.args.who.pid c.opened.result c.args.fd numbers files c.opened.ensures.opened same have in
    ap (meet (Some (target_in numbers c.args.target))) (target ∙ ap (option_map (λ (it : Found). target_in numbers it.desc.target)) c.in-Some.is)
    ∙ apart_by_keys numbers h kept files have c.requires.owners c.args.target found.desc.target c.requires.held
    (found.key, found.desc, is_there h kept c.args.who.pid c.opened.result c.opened.ensures.opened found c.in-Some.is, refl) (sym c.meet.ensures ∙ quiet)

pub returns-in-None : goal.returns-in-None
returns-in-None c = λ numbers files have quiet.
    let same = c.opened.ensures.number ∙ to_z-of_z w64 c.args.fd c.ranges.fd in
    let target = target_found c.args.objects.now.heap c.args.objects.now.procs c.args.who.pid c.opened.result c.args.fd numbers files c.opened.ensures.opened same have in
    ap (meet (Some (target_in numbers c.args.target))) (target ∙ ap (option_map (λ (it : Found). target_in numbers it.desc.target)) c.in-None.is)
    ∙ meets_nothing (Some (target_in numbers c.args.target))
