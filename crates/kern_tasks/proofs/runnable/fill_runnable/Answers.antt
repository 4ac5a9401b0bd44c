use Rattle.std.proofs.Common.{◌≡◌, ◌<◌, ◌≤◌, ◌+◌, ◌++◌, ◌∷◌, [], drop, length, sym, ap, ◌∙◌, arith, append-nil}
use Rattle.std.specs.Prelude.{vec_len, vec_capacity}
use Rattle.std.proofs.lemmas.List.{drop_all}
use Rattle.kern_tasks.specs.Runnable.{is_runnable, places_from}
use Rattle.kern_tasks.proofs.Runnables.{filled_more, filled_past}
use Rattle.kern_tasks.proofs.runnable.fill_runnable.Goals as goal
use Rattle.kern_tasks.proofs.runnable.fill_runnable.Goals.{then-is_runnable, else-is_runnable}

pub loop-place-init : goal.loop-place-init
loop-place-init g c = record {
  few = omega (arith, c.clear.ensures.len);
  room = omega (arith, c.clear.ensures.capacity);
  rest = ap (λ items. items ++ places_from (is_runnable (g.T.Turner.settled c.args.store.now)) 0 c.args.tasks.now) c.clear.ensures.items;
}

pub push_reserved-requires : goal.push_reserved-requires
push_reserved-requires g c =
    let few : vec_len c.loop-place.runnable ≤ c.loop-place.place = c.loop-place.invariant.few in
    let room : vec_capacity c.args.runnable.now ≤ vec_capacity c.loop-place.runnable = c.loop-place.invariant.room in
    let here : c.loop-place.place < length c.args.tasks.now = c.loop-place-test.true in
    omega (arith, c.requires.room)

pub loop-place-preserved : goal.loop-place-preserved
loop-place-preserved g c =
    let settled = g.T.Turner.settled c.args.store.now in
    let behind = places_from (is_runnable settled) (c.loop-place.place + 1) (drop (c.loop-place.place + 1) c.args.tasks.now) in
    let few : vec_len c.loop-place.runnable ≤ c.loop-place.place = c.loop-place.invariant.few in
    let room : vec_capacity c.args.runnable.now ≤ vec_capacity c.loop-place.runnable = c.loop-place.invariant.room in
    elim c.if-is_runnable.branch [
      | then-is_runnable w ↦ record {
        few = omega (arith, ap vec_len w.runnable-is, w.push_reserved.ensures.len);
        room = omega (arith, ap vec_capacity w.runnable-is, w.push_reserved.ensures.capacity);
        rest = ap (λ v. v.items ++ behind) w.runnable-is ∙ ap (λ items. items ++ behind) w.push_reserved.ensures.items
            ∙ filled_more (is_runnable settled) c.args.tasks.now c.loop-place.place _ c.loop-place.runnable.items _ c.loop-place-test.true c.loop-place.invariant.rest
            (sym c.is_runnable.ensures ∙ w.if-is_runnable.true);
      }
      | else-is_runnable w ↦ record {
        few = omega (arith, ap vec_len w.runnable-is);
        room = omega (arith, ap vec_capacity w.runnable-is);
        rest = ap (λ v. v.items ++ behind) w.runnable-is
            ∙ filled_past (is_runnable settled) c.args.tasks.now c.loop-place.place _ c.loop-place.runnable.items _ c.loop-place-test.true c.loop-place.invariant.rest
            (sym c.is_runnable.ensures ∙ w.if-is_runnable.false);
      }
    ]

pub returns-clause-items : goal.returns-clause-items
returns-clause-items g c =
    let settled = g.T.Turner.settled c.args.store.now in
    sym (append-nil c.loop-place.runnable.items)
    ∙ ap (λ ts. c.loop-place.runnable.items ++ places_from (is_runnable settled) c.loop-place.place ts) (sym (drop_all c.loop-place.place c.args.tasks.now c.loop-place-test.false))
    ∙ c.loop-place.invariant.rest
