use Rattle.std.proofs.Common.{◌≡◌, Some, get_or, of_z, pos, refl, rules, subst, sym, to_z, w64}
use Rattle.std.proofs.lemmas.Int.{to_z-of_z}
use Rattle.std.proofs.lemmas.List.{drop_all}
use Rattle.open_laws.specs.Described.{target_in}
use Rattle.call_run.specs.Touching.{MeetsNone}
use Rattle.call_run.proofs.Meeting.{meets_alike, meets_none_on}
use Rattle.call_run.proofs.touching.some_near.Goals as goal

pub loop-entry-preserved : goal.loop-entry-preserved
loop-entry-preserved c = λ numbers files have behind.
    let entry = get_or c.args.entries.now c.loop-entry.entry-index (record { fd = pos 0; events = pos 0 }) in
    let fd : to_z w64 (of_z w64 entry.fd) ≡ entry.fd = search (rules, to_z-of_z) in
    c.loop-entry.invariant numbers files have
    (meets_none_on files c.args.who.pid (Some (target_in numbers c.args.target)) c.args.entries.now c.loop-entry.entry-index _ c.loop-entry-test.true
    (meets_alike files (Some (target_in numbers c.args.target)) c.args.who.pid c.args.who.pid (to_z w64 (of_z w64 entry.fd)) entry.fd refl fd (c.is_near.ensures numbers files have c.if-is_near.false)) behind)

pub returns : goal.returns
returns c = λ numbers files have none.
    c.loop-entry.invariant numbers files have
    (subst (MeetsNone files c.args.who.pid (Some (target_in numbers c.args.target))) (sym (drop_all c.loop-entry.entry-index c.args.entries.now c.loop-entry-test.false)) tt)
