use Rattle.std.proofs.Common.{◌<◌, ◌∷◌, [], length, get_or, sym, ap, ◌∙◌, subst, arith}
use Rattle.std.specs.List.{AllByRecursion}
use Rattle.std.proofs.lemmas.Option.{slice_get-get_or}
use Rattle.group_heap.specs.declared.lists.Section.{Section}
use Rattle.group_heap.specs.Runs.{IsAtStart, sections_of}
use Rattle.group_heap.proofs.Running.{place_of_all}
use Rattle.posix_defs.specs.ValidScript.{IsValid}
use Rattle.script_parse.proofs.Holds.{all_append}
use Rattle.kres_tool.specs.Run.{stands}
use Rattle.kres_tool.proofs.Grouping.{sections_more}
use Rattle.kres_tool.proofs.groups.boot_groups.Goals as goal

pub boot_group-requires : goal.boot_group-requires
boot_group-requires g c =
    let list = c.args.list.now in
    let place = c.loop-place.place in
    let test = c.loop-place-test.true in let long = c.len-place-end.ensures in
    let within : place < length list.sections = omega (arith, test, long) in
    let d : Section = record { name = c.name.result; script = c.script.result.now } in
    subst IsValid (sym (c.script.ensures (get_or list.sections place d) (slice_get-get_or list.sections place d within)))
    (place_of_all (λ section. IsValid section.script) list.sections place d within c.requires.fit.valid)

pub loop-place-preserved : goal.loop-place-preserved
loop-place-preserved g c =
    let here = c.loop-place in
    let list = c.args.list.now in
    let test = c.loop-place-test.true in let long = c.len-place-end.ensures in
    let within : here.place < length list.sections = omega (arith, test, long) in
    let group = c.in_ok-group.group in
    record {
      sections = ap sections_of c.in_ok-push.ensures.items
          ∙ sections_more here.groups.items list.sections here.place group within here.invariant.sections
          (λ section is. c.in_ok-group.ensures.name ∙ c.name.ensures section is) (λ section is. c.in_ok-group.ensures.script ∙ c.script.ensures section is);
      start = subst (AllByRecursion (IsAtStart stands (λ store. store.script))) (sym c.in_ok-push.ensures.items)
          (all_append (IsAtStart stands (λ store. store.script)) here.groups.items (group ∷ []) here.invariant.start (c.in_ok-group.ensures.start, tt));
    }
