use Rattle.std.proofs.Common.{◌∙◌, ap, sym}
use Rattle.std.specs.Prelude.{is_some}
use Rattle.proc_table.proofs.PlaceLemmas.{key_of-none, key_of-proc}
use Rattle.store_objects.proofs.objects.Objects.proc.Goals as goal

pub get_proc-requires : goal.get_proc-requires
get_proc-requires c =
    let named = key_of-proc c.args.self.now.heap.procs c.args.self.now.procs.listed c.args.pid c.in-Some.key c.requires (sym c.key_of.ensures ∙ c.in-Some.is) in
    ap is_some named.1

pub returns-in-Some : goal.returns-in-Some
returns-in-Some c =
    let named = key_of-proc c.args.self.now.heap.procs c.args.self.now.procs.listed c.args.pid c.in-Some.key c.requires (sym c.key_of.ensures ∙ c.in-Some.is) in
    sym c.get_proc.ensures ∙ named.1 ∙ sym named.3

pub returns-in-None : goal.returns-in-None
returns-in-None c = sym (key_of-none c.args.self.now.heap.procs c.args.self.now.procs.listed c.args.pid c.requires (sym c.key_of.ensures ∙ c.in-None.is))
