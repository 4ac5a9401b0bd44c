use Rattle.std.proofs.Common.{◌≡◌, Some, is_some, ap, subst, sym, ◌∙◌}
use Rattle.kheap_slabs.specs.Objects.{object}
use Rattle.kheap_slabs.specs.Heap.{Heap}
use Rattle.page_space.specs.Contents.{IsOwnedWith}
use Rattle.proc_table.proofs.ClearLemmas.{cleared-account, cleared-memory, cleared-moves, cleared-procs, cleared-table}
use Rattle.proc_table.proofs.PlaceLemmas.{key_of-none, key_of-proc, none_not_some}
use Rattle.proc_table.proofs.SpaceLemmas.{owned_with}
use Rattle.kheap_laws.proofs.PaidLemmas.{TakesNothing-trans}
use Rattle.proc_table.proofs.tables.ProcTable.clear_memory.Goals as goal

pub get_proc-proc-requires : goal.get_proc-proc-requires
get_proc-proc-requires c =
    let found = key_of-proc c.args.heap.now.procs c.args.self.now.listed c.args.pid c.in-Some.key c.requires.holds.stored (sym (c.in-Some.ensures)) in
    ap is_some found.1

pub release-requires : goal.release-requires
release-requires c = record {
  owned = subst (λ space. IsOwnedWith c.args.heap.now space) (sym c.of.ensures)
      (owned_with c.args.heap.now c.args.self.now c.requires.holds c.args.pid c.in-Some.key c.get_proc-proc.result.now (sym (c.in-Some.ensures)) c.get_proc-proc.ensures);
}

pub unreachable-requires : goal.unreachable-requires
unreachable-requires c =
    none_not_some _ c.requires.alive.proc (key_of-none c.args.heap.now.procs c.args.self.now.listed c.args.pid c.requires.holds.stored (sym (c.in-None.ensures))) c.requires.alive.there

-- the memory that goes is no part of the process's own object
still : (c : goal.After-set_proc_nodes) → object c.release.new.heap.procs c.in-Some.key ≡ Some c.get_proc-proc.result.now
still c = ap (λ (h : Heap). object h.procs c.in-Some.key) c.release.ensures.leaves.kept ∙ c.get_proc-proc.ensures

pub returns-clause-cleared : goal.returns-clause-cleared
returns-clause-cleared c =
    cleared-procs c.args.heap.now c.release.new.heap c.set_proc_nodes.new.self c.args.self.now c.requires.holds c.args.pid c.in-Some.key c.get_proc-proc.result.now c.requires.alive
    (sym (c.in-Some.ensures)) c.get_proc-proc.ensures c.of.result c.of.ensures c.release.ensures.leaves (c.set_proc_nodes.ensures.kept c.get_proc-proc.result.now (still c))

pub returns-clause-memory : goal.returns-clause-memory
returns-clause-memory c =
    cleared-memory c.args.heap.now c.release.new.heap c.set_proc_nodes.new.self c.args.self.now c.requires.holds c.args.pid c.in-Some.key c.get_proc-proc.result.now c.requires.alive
    (sym (c.in-Some.ensures)) c.get_proc-proc.ensures c.of.result c.of.ensures c.release.ensures.leaves (c.set_proc_nodes.ensures.kept c.get_proc-proc.result.now (still c))

pub returns-clause-table : goal.returns-clause-table
returns-clause-table c =
    cleared-table c.args.heap.now c.release.new.heap c.set_proc_nodes.new.self c.args.self.now c.requires.holds c.args.pid c.in-Some.key c.get_proc-proc.result.now c.requires.alive
    (sym (c.in-Some.ensures)) c.get_proc-proc.ensures c.of.result c.of.ensures c.release.ensures.leaves (c.set_proc_nodes.ensures.kept c.get_proc-proc.result.now (still c))

pub returns-clause-moves : goal.returns-clause-moves
returns-clause-moves c =
    cleared-moves c.args.heap.now c.release.new.heap c.set_proc_nodes.new.self c.args.self.now c.requires.holds c.args.pid c.in-Some.key c.get_proc-proc.result.now c.requires.alive
    (sym (c.in-Some.ensures)) c.get_proc-proc.ensures c.of.result c.of.ensures c.release.ensures.leaves (c.set_proc_nodes.ensures.kept c.get_proc-proc.result.now (still c))

pub returns-clause-account : goal.returns-clause-account
returns-clause-account c =
    cleared-account c.args.heap.now c.release.new.heap c.set_proc_nodes.new.self c.args.self.now c.requires.holds c.args.pid c.in-Some.key c.get_proc-proc.result.now c.requires.alive
    (sym (c.in-Some.ensures)) c.get_proc-proc.ensures c.of.result c.of.ensures c.release.ensures.leaves (c.set_proc_nodes.ensures.kept c.get_proc-proc.result.now (still c))

pub returns-clause-takes : goal.returns-clause-takes
returns-clause-takes c = TakesNothing-trans _ _ _ c.release.ensures.takes c.set_proc_nodes.ensures.takes
