use Rattle.std.proofs.Common.{is_some, ap, sym, ◌∙◌}
use Rattle.proc_table.proofs.PlaceLemmas.{key_of-proc}
use Rattle.proc_table.proofs.tables.ProcTable.at.Goals as goal

pub get_proc-requires : goal.get_proc-requires
get_proc-requires c =
    let found = key_of-proc c.args.heap.now.procs c.args.self.now.listed c.args.place.pid c.args.place.key c.requires.stored c.requires.there in
    ap is_some found.1

pub returns-clause-found : goal.returns-clause-found
returns-clause-found c =
    let found = key_of-proc c.args.heap.now.procs c.args.self.now.listed c.args.place.pid c.args.place.key c.requires.stored c.requires.there in
    found.3 ∙ sym found.1 ∙ c.get_proc.ensures
