use Rattle.proc_table.proofs.PlaceLemmas.{alone_by_key}
use Rattle.proc_table.proofs.tables.ProcTable.ends_alone.Goals as goal

pub returns-else-pid-eq-INIT : goal.returns-else-pid-eq-INIT
returns-else-pid-eq-INIT c = λ h stored.
    alone_by_key h c.args.self.now c.args.pid c.key_of.result c.is_none.result stored c.if-pid-eq-INIT.false c.key_of.ensures c.is_none.ensures
