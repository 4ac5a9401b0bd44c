use Rattle.std.proofs.Common.{◌≡◌, ap, arith, pos, sym, w64, ◌∙◌}
use Rattle.std.specs.Int.{cast_signed, cast_unsigned}
use Rattle.std.specs.Option.{option_map}
use Rattle.std.specs.Prelude.{nat_lt}
use Rattle.std.proofs.lemmas.Int.{fits_signed_from_abs, to_z-of_z}
use Rattle.open_laws.proofs.GoingLemmas.{target_there}
use Rattle.posix_defs.specs.Calls.Opened.{opened_at}
use Rattle.posix_defs.specs.Calls.OnFiles.{others_opened}
use Rattle.proc_numbers.specs.Found.{opened_in}
use Rattle.proc_numbers.proofs.OpenedBy.{is_there, opened_is}
use Rattle.proc_numbers.proofs.OtherSides.{none_below}
use Rattle.proc_numbers.proofs.meeting.is_met.Goals as goal

pub others_opens-requires : goal.others_opens-requires
others_opens-requires c =
    target_there c.args.heap.now c.in-Some.found.key c.in-Some.found.desc c.requires.owners.held
    (is_there c.args.heap.now c.args.procs.now c.args.place.pid c.opened-on.result c.opened-on.ensures.opened c.in-Some.found c.in-Some.is)

pub returns-in-Some : goal.returns-in-Some
returns-in-Some c = λ numbers files have.
    let fd : c.opened-on.result.fd ≡ pos c.args.opening.fd =
    c.opened-on.ensures.number
    ∙ (ap (λ z. cast_signed w64 (cast_unsigned w64 z)) c.from.ensures ∙ to_z-of_z w64 (pos c.args.opening.fd) (fits_signed_from_abs w64 (pos c.args.opening.fd) (omega arith))) in
    let at = ap (opened_at files c.args.place.pid) (sym fd)
    ∙ (opened_is c.args.heap.now c.args.procs.now c.args.place.pid c.opened-on.result c.opened-on.ensures.opened numbers files have ∙ ap (option_map (opened_in numbers)) c.in-Some.is) in
    ap (nat_lt c.args.opening.seen) (c.others_opens.ensures numbers files have.opened.piped ∙ sym (ap (others_opened files) at))

pub returns-in-None : goal.returns-in-None
returns-in-None c = λ numbers files have.
    let fd : c.opened-on.result.fd ≡ pos c.args.opening.fd =
    c.opened-on.ensures.number
    ∙ (ap (λ z. cast_signed w64 (cast_unsigned w64 z)) c.from.ensures ∙ to_z-of_z w64 (pos c.args.opening.fd) (fits_signed_from_abs w64 (pos c.args.opening.fd) (omega arith))) in
    let at = ap (opened_at files c.args.place.pid) (sym fd)
    ∙ (opened_is c.args.heap.now c.args.procs.now c.args.place.pid c.opened-on.result c.opened-on.ensures.opened numbers files have ∙ ap (option_map (opened_in numbers)) c.in-None.is) in
    none_below c.args.opening.seen ∙ sym (ap (λ o. nat_lt c.args.opening.seen (others_opened files o)) at)
