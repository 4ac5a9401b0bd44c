use Rattle.std.proofs.Common.{◌≡◌, ◌∙◌, Bool, true, false, not, Option, None, Some, is_some, sym, ap}
use Rattle.std.proofs.lemmas.List.{at_drop_all}
use Rattle.proc_table.specs.Table.{procs_at}
use Rattle.proc_table.proofs.OwnLemmas.{AreRising, rising_procs}
use Rattle.store_objects.specs.Objects.{procs_of}
use Rattle.process_calls.proofs.LowestBehind.{finds_here, first_behind, lowest_behind, none_behind}
use Rattle.process_calls.proofs.endings.live_behind.Goals as goal

no_status : {X : Type 0} (o : Option X) (none : Bool) → is_some o ≡ not none → none ≡ true → o ≡ None
no_status None none is holds = cc
no_status (Some x) none is holds = (let never : true ≡ false = is ∙ ap not holds in cc)

pub returns-then-is_none-clause-lowest : goal.returns-then-is_none-clause-lowest
returns-then-is_none-clause-lowest c =
    let objects = c.args.objects.now in
    let rising : AreRising 0 (procs_of objects) = rising_procs objects.heap.procs objects.procs.listed 0 objects.procs.last c.requires.stored c.requires.rising in
    lowest_behind (procs_of objects) 0 c.args.pid _ rising
    (sym c.loop-place.invariant.none
    ∙ finds_here objects.heap.procs c.listed-place-items.result.now c.args.pid c.loop-place.place-index c.get_proc.result.now c.loop-place-test.true
    c.loop-place.invariant.stored c.get_proc.ensures c.if-place-pid.true
    (no_status c.get_proc.result.now.status c.is_none.result c.is_none.ensures c.if-is_none.true))

pub returns-clause-none : goal.returns-clause-none
returns-clause-none c = λ _ q behind.
    let objects = c.args.objects.now in
    let rising : AreRising 0 (procs_of objects) = rising_procs objects.heap.procs objects.procs.listed 0 objects.procs.last c.requires.stored c.requires.rising in
    none_behind (procs_of objects) 0 c.args.pid q rising
    (sym c.loop-place.invariant.none
    ∙ at_drop_all (λ places. first_behind c.args.pid (procs_at objects.heap.procs places)) c.listed-place-items.result.now c.loop-place.place-index c.loop-place-test.false)
    behind
