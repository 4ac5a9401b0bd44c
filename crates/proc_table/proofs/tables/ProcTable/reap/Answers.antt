use Rattle.std.proofs.Common.{◌==◌, filter, is_some, not, ap, sym, ◌∙◌, subst}
use Rattle.proc_table.specs.Table.{AreBetween, TableView}
use Rattle.proc_table.proofs.PlaceLemmas.{AreBetween-filter, key_of-none, key_of-proc, none_not_some}
use Rattle.proc_table.proofs.ReapLemmas.{reaped-account, reaped-moves, reaped-procs}
use Rattle.proc_table.proofs.tables.ProcTable.reap.Goals as goal

pub free_proc-requires : goal.free_proc-requires
free_proc-requires c =
    let found = key_of-proc c.args.heap.now.procs c.args.self.now.listed c.args.pid c.in-Some.key c.requires.holds.stored (sym (c.in-Some.ensures)) in
    ap is_some found.1

pub unreachable-requires : goal.unreachable-requires
unreachable-requires c =
    none_not_some _ c.requires.over.proc (key_of-none c.args.heap.now.procs c.args.self.now.listed c.args.pid c.requires.holds.stored (sym (c.in-None.ensures))) c.requires.over.there

pub returns-clause-gone : goal.returns-clause-gone
returns-clause-gone c =
    reaped-procs c.args.heap.now c.free_proc.new.self c.args.self.now _ c.args.pid c.in-Some.key c.free_proc.result c.requires.holds c.requires.over
    (sym (c.in-Some.ensures)) c.free_proc.ensures.value c.free_proc.ensures.kept
    (ap (λ listed. record { listed = listed; last = c.self.inside.last }) c.keep_others.ensures
    ∙ ap (λ (table : TableView). record table { listed = filter (λ place. not (place.pid == c.args.pid)) table.listed }) c.self.view_is)

pub returns-clause-moves : goal.returns-clause-moves
returns-clause-moves c =
    reaped-moves c.args.heap.now c.free_proc.new.self c.args.self.now _ c.args.pid c.in-Some.key c.free_proc.result c.requires.holds c.requires.over
    (sym (c.in-Some.ensures)) c.free_proc.ensures.value c.free_proc.ensures.kept
    (ap (λ listed. record { listed = listed; last = c.self.inside.last }) c.keep_others.ensures
    ∙ ap (λ (table : TableView). record table { listed = filter (λ place. not (place.pid == c.args.pid)) table.listed }) c.self.view_is)

pub returns-clause-account : goal.returns-clause-account
returns-clause-account c =
    reaped-account c.args.heap.now c.free_proc.new.self c.args.self.now _ c.args.pid c.in-Some.key c.free_proc.result c.requires.holds c.requires.over
    (sym (c.in-Some.ensures)) c.free_proc.ensures.value c.free_proc.ensures.kept
    (ap (λ listed. record { listed = listed; last = c.self.inside.last }) c.keep_others.ensures
    ∙ ap (λ (table : TableView). record table { listed = filter (λ place. not (place.pid == c.args.pid)) table.listed }) c.self.view_is)

pub invariant_of-self : goal.invariant_of-self
invariant_of-self c =
    subst (λ places. AreBetween 0 places c.self.inside.last) (sym c.keep_others.ensures)
    (AreBetween-filter (λ place. not (place.pid == c.args.pid)) c.self.inside.listed.items 0 c.self.inside.last c.self.invariant)
