use Rattle.std.proofs.Common.{◌≡◌, ◌+◌, ◌++◌, Bool, cond, length, List, [], ◌∷◌, not, true, false, is_some, ap, sym, subst, ◌∙◌, append-nil, arith}
use Rattle.std.specs.List.{All}
use Rattle.std.proofs.lemmas.List.Elements.{All-push}
use Rattle.kabi_types.specs.declared.classes.Weight.{Weight}
use Rattle.kheap_slabs.specs.Objects.{object}
use Rattle.proc_table.specs.declared.places.Place.{Place}
use Rattle.proc_table.proofs.LeaveLemmas.{StandsAt, stands_at}
use Rattle.victim_core.specs.Victims.{IsInRange}
use Rattle.store_objects.specs.Objects.{procs_of}
use Rattle.proc_numbers.proofs.PlacedLeaves.{long_proc}
use Rattle.call_run.specs.Weights.{weights_in}
use Rattle.call_run.proofs.Weighing.{AreWeighed, here, is_whole, next, none_yet}
use Rattle.call_run.proofs.victims.weights_of.Goals as goal
use Rattle.call_run.proofs.victims.weights_of.Goals.{then-is_none, else-is_none}

pub loop-place-init : goal.loop-place-init
loop-place-init c =
    let kept = c.requires.kept.1 in
    let start = none_yet c.args.objects.now.heap c.args.objects.now.procs kept.holds kept.groups kept.leaves in
    subst (λ (places : List Place). AreWeighed c.args.objects.now.heap (weights_in c.args.objects.now.heap (procs_of c.args.objects.now)) places 0 c.new-weights.result.items)
    (sym c.listed-place-items.ensures.places)
    (subst (λ (ws : List Weight). AreWeighed c.args.objects.now.heap (weights_in c.args.objects.now.heap (procs_of c.args.objects.now)) c.args.objects.now.procs.listed 0 ws)
    (sym c.new-weights.ensures) start)

-- the place in hand
none : Place
none = record { pid = 0; key = 0 }

pub get_proc-proc-requires : goal.get_proc-proc-requires
unfolding none
get_proc-proc-requires c =
    let stands : StandsAt c.listed-place-items.result.now c.loop-place.place-index = stands_at c.listed-place-items.result.now c.loop-place.place-index c.loop-place-test.true in
    let at = here _ _ _ _ _ c.loop-place.invariant stands in
    ap (λ (place : Place). is_some (object c.args.objects.now.heap.procs place.key)) (stands.read none) ∙ ap is_some at.is

pub weight_of-requires-clause-owns : goal.weight_of-requires-clause-owns
unfolding none
weight_of-requires-clause-owns c =
    let stands : StandsAt c.listed-place-items.result.now c.loop-place.place-index = stands_at c.listed-place-items.result.now c.loop-place.place-index c.loop-place-test.true in
    let whole = is_whole _ _ _ _ _ c.loop-place.invariant stands c.get_proc-proc.result.now
    (sym (ap (λ (place : Place). object c.args.objects.now.heap.procs place.key) (stands.read none)) ∙ c.get_proc-proc.ensures) in
    whole.owns

pub weight_of-requires-clause-own : goal.weight_of-requires-clause-own
unfolding none
weight_of-requires-clause-own c =
    let stands : StandsAt c.listed-place-items.result.now c.loop-place.place-index = stands_at c.listed-place-items.result.now c.loop-place.place-index c.loop-place-test.true in
    let whole = is_whole _ _ _ _ _ c.loop-place.invariant stands c.get_proc-proc.result.now
    (sym (ap (λ (place : Place). object c.args.objects.now.heap.procs place.key) (stands.read none)) ∙ c.get_proc-proc.ensures) in
    whole.leaves

pub weight_of-requires-clause-rows : goal.weight_of-requires-clause-rows
weight_of-requires-clause-rows c = long_proc c.args.objects.now.heap _ c.get_proc-proc.result.now c.requires.whole c.get_proc-proc.ensures

pub weight_of-requires-clause-groups : goal.weight_of-requires-clause-groups
unfolding none
weight_of-requires-clause-groups c =
    let stands : StandsAt c.listed-place-items.result.now c.loop-place.place-index = stands_at c.listed-place-items.result.now c.loop-place.place-index c.loop-place-test.true in
    let whole = is_whole _ _ _ _ _ c.loop-place.invariant stands c.get_proc-proc.result.now
    (sym (ap (λ (place : Place). object c.args.objects.now.heap.procs place.key) (stands.read none)) ∙ c.get_proc-proc.ensures) in
    whole.groups

-- what is put behind the weights, where the process runs and where it doesn't
pushed : (before now : List Weight) (weight w : Weight) (told up : Bool) → now ≡ before ++ weight ∷ [] → weight ≡ w → told ≡ not up → up ≡ true
    → now ≡ before ++ cond told [] (w ∷ [])
pushed before now weight w told up same is told_is runs =
    same ∙ ap (λ v. before ++ v ∷ []) is ∙ ap (λ b. before ++ cond b [] (w ∷ [])) (sym (told_is ∙ ap not runs))

left : (before now : List Weight) (w : Weight) (told up : Bool) → now ≡ before → told ≡ not up → up ≡ false → now ≡ before ++ cond told [] (w ∷ [])
left before now w told up same told_is over =
    same ∙ sym (append-nil before) ∙ ap (λ b. before ++ cond b [] (w ∷ [])) (sym (told_is ∙ ap not over))

pub loop-place-preserved : goal.loop-place-preserved
unfolding none
loop-place-preserved c =
    let stands : StandsAt c.listed-place-items.result.now c.loop-place.place-index = stands_at c.listed-place-items.result.now c.loop-place.place-index c.loop-place-test.true in
    let is = sym (ap (λ (place : Place). object c.args.objects.now.heap.procs place.key) (stands.read none)) ∙ c.get_proc-proc.ensures in
    elim c.if-is_none.branch [
      | then-is_none w ↦ next _ _ _ _ _ c.loop-place.invariant stands c.get_proc-proc.result.now is c.if-is_none.weights.items
          (pushed c.loop-place.weights.items c.if-is_none.weights.items w.weight_of.result _ _ _ (ap (λ v. v.items) w.weights-is ∙ w.push.ensures.items) w.weight_of.ensures.weight c.is_none.ensures w.if-is_none.true)
          (let n : length c.if-is_none.weights.items ≡ length c.loop-place.weights.items + 1 = ap (λ v. length v.items) w.weights-is ∙ w.push.ensures.len in let few = c.loop-place.invariant.few in omega arith)
          (subst (All IsInRange) (sym (ap (λ v. v.items) w.weights-is ∙ w.push.ensures.items)) (All-push IsInRange c.loop-place.weights.items w.weight_of.result c.loop-place.invariant.in_range w.weight_of.ensures.in_range))
      | else-is_none w ↦ next _ _ _ _ _ c.loop-place.invariant stands c.get_proc-proc.result.now is c.if-is_none.weights.items
          (left c.loop-place.weights.items c.if-is_none.weights.items _ _ _ (ap (λ v. v.items) w.weights-is) c.is_none.ensures w.if-is_none.false)
          (let n : length c.if-is_none.weights.items ≡ length c.loop-place.weights.items = ap (λ v. length v.items) w.weights-is in let few = c.loop-place.invariant.few in omega arith)
          (subst (All IsInRange) (sym (ap (λ v. v.items) w.weights-is)) c.loop-place.invariant.in_range)
    ]
