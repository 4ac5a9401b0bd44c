use Rattle.std.proofs.Common.{◌≡◌, ◌∙◌, ◌<◌, ◌≤◌, ◌-◌, suc, length, take, ap, sym, arith}
use Rattle.proc_table.specs.Table.{key_of}
use Rattle.proc_table.specs.declared.places.Place.{Place}
use Rattle.proc_table.proofs.FindLemmas.{key_here, key_near, key_nowhere, key_passed, min_within}
use Rattle.proc_table.proofs.places.find.Goals as goal

-- what a place past the end would have
abbrev nobody : Place
nobody = record { pid = 0; key = 0 }

pub loop-places-init : goal.loop-places-init
loop-places-init c = record {
  within = min_within (length c.args.listed.now) c.args.pid c.min-places.result c.min-places.ensures;
  front = key_near c.args.listed.now c.requires.0 c.args.pid c.min-places.result c.requires.1 c.min-places.ensures;
}

pub returns-then-place-pid : goal.returns-then-place-pid
returns-then-place-pid c =
    let some : 0 < c.loop-places.places = c.loop-places-test.true in
    let within : c.loop-places.places ≤ length c.args.listed.now = c.loop-places.invariant.within in
    let here : suc (c.loop-places.places - 1) ≡ c.loop-places.places = omega arith in
    sym (key_here c.args.listed.now 0 c.requires.0 c.args.pid (c.loop-places.places - 1) nobody c.requires.1 (omega arith) c.if-place-pid.true)
    ∙ ap (λ n. key_of (take n c.args.listed.now) c.args.pid) here ∙ c.loop-places.invariant.front

pub returns-then-place-pid-2 : goal.returns-then-place-pid-2
returns-then-place-pid-2 c =
    let some : 0 < c.loop-places.places = c.loop-places-test.true in
    let within : c.loop-places.places ≤ length c.args.listed.now = c.loop-places.invariant.within in
    let here : suc (c.loop-places.places - 1) ≡ c.loop-places.places = omega arith in
    sym (key_nowhere c.args.listed.now 0 c.requires.0 c.args.pid (c.loop-places.places - 1) nobody c.requires.1 (omega arith) c.if-place-pid-2.true)
    ∙ ap (λ n. key_of (take n c.args.listed.now) c.args.pid) here ∙ c.loop-places.invariant.front

pub loop-places-preserved : goal.loop-places-preserved
loop-places-preserved c =
    let some : 0 < c.loop-places.places = c.loop-places-test.true in
    let within : c.loop-places.places ≤ length c.args.listed.now = c.loop-places.invariant.within in
    let here : suc (c.loop-places.places - 1) ≡ c.loop-places.places = omega arith in
    record {
      within = omega arith;
      front = sym (key_passed c.args.listed.now c.args.pid (c.loop-places.places - 1) nobody (omega arith) c.if-place-pid.false)
          ∙ ap (λ n. key_of (take n c.args.listed.now) c.args.pid) here ∙ c.loop-places.invariant.front;
    }
