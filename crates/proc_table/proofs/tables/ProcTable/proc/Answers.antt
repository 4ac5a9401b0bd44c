use Rattle.std.proofs.Common.{is_some, Some, ap, sym, ◌∙◌}
use Rattle.proc_table.proofs.PlaceLemmas.{key_of-none, key_of-proc, some_same}
use Rattle.proc_table.proofs.tables.ProcTable.proc.Goals as goal

pub get_proc-requires : goal.get_proc-requires
get_proc-requires c =
    let found = key_of-proc c.args.heap.now.procs c.args.self.now.listed c.args.pid c.in-Some.key c.requires (sym (c.in-Some.ensures)) in
    ap is_some found.1

pub returns-in-Some : goal.returns-in-Some
returns-in-Some c =
    let found = key_of-proc c.args.heap.now.procs c.args.self.now.listed c.args.pid c.in-Some.key c.requires (sym (c.in-Some.ensures)) in
    ap Some (some_same _ c.get_proc.result.now found.0 c.get_proc.ensures found.1) ∙ sym found.3

pub returns-in-None : goal.returns-in-None
returns-in-None c = sym (key_of-none c.args.heap.now.procs c.args.self.now.listed c.args.pid c.requires (sym (c.in-None.ensures)))
