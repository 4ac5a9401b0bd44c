use Rattle.std.proofs.Common.{◌≤◌, le_refl}
use Rattle.kheap_slabs.specs.Heap.{live_bytes}
use Rattle.kheap_laws.proofs.PaidLemmas.{TakesNothing-bytes}
use Rattle.machine_laws.proofs.Turning.{evicted_reached}
use Rattle.call_run.proofs.Resting.{mark_counts, mark_goes_on, mark_keeps, mark_rests, mark_since, mark_still}
use Rattle.call_run.proofs.Stores.{store_on}
use Rattle.call_run.proofs.turns.evict.Goals as goal

pub evict-requires : goal.evict-requires
evict-requires c = let stood = c.requires.stands in stood.2.stands.kept.caches

pub returns-clause-kept : goal.returns-clause-kept
returns-clause-kept c = λ script kept. mark_keeps c.evict.new.objects c.mark.new.self c.mark.ensures script (c.evict.ensures.kept script kept)

pub returns-clause-evicted : goal.returns-clause-evicted
returns-clause-evicted c = λ script world at can.
    let old = c.args.objects.now in
    let led = c.evict.ensures.evicted script world at.stands can in
    let less : live_bytes c.evict.new.objects.heap ≤ live_bytes old.heap = TakesNothing-bytes old.heap c.evict.new.objects.heap c.evict.ensures.takes in (
      led.0,
      mark_goes_on c.evict.new.objects c.mark.new.self c.mark.ensures script led.0
          (store_on script old c.evict.new.objects world led.0 at c.heap_is_well_formed.ensures led.1 (evicted_reached script world led.0 _ at.reached led.2) c.heap_is_well_formed-2.ensures less),
      led.2,
    )

pub returns-clause-same : goal.returns-clause-same
returns-clause-same c = λ script world at none.
    mark_goes_on c.evict.new.objects c.mark.new.self c.mark.ensures script world (record { stands = c.evict.ensures.same script world at.stands none; reached = at.reached; spare = at.spare })

pub returns-clause-marked : goal.returns-clause-marked
returns-clause-marked c = mark_counts c.args.objects.now.heap c.evict.new.objects.heap c.mark.new.self c.mark.ensures c.evict.ensures.takes.marks

pub returns-clause-since : goal.returns-clause-since
returns-clause-since c = λ script world at.
    mark_since script c.args.objects.now world c.evict.new.objects.heap c.mark.new.self c.mark.ensures c.requires.rests at.stands c.heap_is_well_formed.ensures (rw c.evict.ensures.takes.high (le_refl _))

pub returns-clause-high : goal.returns-clause-high
returns-clause-high c = λ script world at.
    mark_still script c.args.objects.now world c.evict.new.objects.heap c.mark.new.self c.mark.ensures c.requires.rests at.stands c.heap_is_well_formed.ensures c.evict.ensures.takes.high

pub returns-clause-rests : goal.returns-clause-rests
returns-clause-rests c = mark_rests c.evict.new.objects c.mark.new.self c.mark.ensures
