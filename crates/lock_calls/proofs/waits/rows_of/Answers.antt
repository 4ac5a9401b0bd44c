use Rattle.std.proofs.Common.{◌≡◌, ℕ, ◌+◌, ◌<◌, ◌≤◌, length, List, Some, get_or, refl, ap, sym, ◌∙◌, subst, arith}
use Rattle.std.specs.Prelude.{slice_set}
use Rattle.std.proofs.lemmas.List.{length-replicate, length-set}
use Rattle.proc_table.specs.Table.{AreBetween, key_of}
use Rattle.proc_table.specs.declared.places.Place.{Place}
use Rattle.lock_calls.specs.Waiting.{IsRowOf, pid_at}
use Rattle.lock_calls.proofs.Rows.{HaveRows, all_rows, one_row}
use Rattle.lock_calls.proofs.WhoWaits.{placed_at}
use Rattle.lock_calls.proofs.waits.rows_of.Goals as goal

none : Place
none = record { pid = 0; key = 0 }

pub loop-place-init : goal.loop-place-init
loop-place-init c = record { at = refl; long = length-replicate {A = ℕ} 64 0; rows = λ k pid below is. absurd (omega (arith, below)) }

pub row_of-requires-clause-there : goal.row_of-requires-clause-there
unfolding none
row_of-requires-clause-there c =
    let items = c.listed-place-items.result.now in
    let within : c.loop-place.place-index < length items = (let test = c.loop-place-test.true in omega (arith, test)) in
    subst (λ (places : List Place). key_of places (get_or items c.loop-place.place-index none).pid ≡ Some (get_or items c.loop-place.place-index none).key) c.listed-place-items.ensures.places
    (placed_at items 0 c.args.objects.now.procs.last c.loop-place.place-index none
    (subst (λ (places : List Place). AreBetween 0 places c.args.objects.now.procs.last) (sym c.listed-place-items.ensures.places) c.requires.holds.rising) within)

pub loop-place-preserved : goal.loop-place-preserved
unfolding none
loop-place-preserved c =
    let items = c.listed-place-items.result.now in
    let k = c.loop-place.place-index in
    let within : k < length items = (let test = c.loop-place-test.true in omega (arith, test)) in
    let few : length items ≤ 64 = c.listed-place-items.ensures.few in
    let at : c.loop-place.at ≡ k = c.loop-place.invariant.at in
    let long : length c.loop-place.rows ≡ 64 = c.loop-place.invariant.long in
    record {
      at = omega (arith, at);
      long = length-set c.loop-place.rows c.loop-place.at c.row_of.result ∙ long;
      rows =
          subst (λ n. HaveRows (IsRowOf c.args.script.now c.args.objects.now) items (k + 1) (slice_set c.loop-place.rows n c.row_of.result)) (sym at)
          (one_row (IsRowOf c.args.script.now c.args.objects.now) items c.loop-place.rows k c.row_of.result none (omega (arith, within, few, long)) within c.row_of.ensures c.loop-place.invariant.rows);
    }

pub returns-clause-rows : goal.returns-clause-rows
returns-clause-rows c = λ k pid is.
    let items = c.listed-place-items.result.now in
    let past : length items ≤ c.loop-place.place-index = omega arith in
    all_rows (IsRowOf c.args.script.now c.args.objects.now) items c.loop-place.place-index c.loop-place.rows past c.loop-place.invariant.rows k pid
    (ap (λ (places : List Place). pid_at places k) c.listed-place-items.ensures.places ∙ is)

pub returns-clause-few : goal.returns-clause-few
returns-clause-few c = subst (λ (places : List Place). length places ≤ 64) c.listed-place-items.ensures.places c.listed-place-items.ensures.few
