use Rattle.std.proofs.Common.{◌≡◌, is_some, Some, ap, subst, sym, ◌∙◌, w64}
use Rattle.std.proofs.lemmas.Int.{to_z-of_z}
use Rattle.proc_table.specs.Table.{key_of_target}
use Rattle.proc_table.proofs.PlaceLemmas.{some_same}
use Rattle.proc_table.proofs.TargetLemmas.{key_of_target-none, key_of_target-proc}
use Rattle.proc_table.proofs.tables.ProcTable.target.Goals as goal

pub get_proc-requires : goal.get_proc-requires
get_proc-requires c =
    let key_is : c.key_of_target.result ≡ key_of_target c.args.self.now.listed c.args.target =
    subst (λ z. c.key_of_target.result ≡ key_of_target c.args.self.now.listed z) (to_z-of_z w64 c.args.target c.ranges.target) c.key_of_target.ensures in
    let found = key_of_target-proc c.args.heap.now.procs c.args.self.now.listed c.args.target c.in-Some.key c.requires (sym key_is ∙ c.in-Some.is) in
    ap is_some found.1

pub returns-in-Some : goal.returns-in-Some
returns-in-Some c =
    let key_is : c.key_of_target.result ≡ key_of_target c.args.self.now.listed c.args.target =
    subst (λ z. c.key_of_target.result ≡ key_of_target c.args.self.now.listed z) (to_z-of_z w64 c.args.target c.ranges.target) c.key_of_target.ensures in
    let found = key_of_target-proc c.args.heap.now.procs c.args.self.now.listed c.args.target c.in-Some.key c.requires (sym key_is ∙ c.in-Some.is) in
    ap Some (some_same _ c.get_proc.result.now found.0 c.get_proc.ensures found.1) ∙ sym found.2

pub returns-in-None : goal.returns-in-None
returns-in-None c =
    let key_is : c.key_of_target.result ≡ key_of_target c.args.self.now.listed c.args.target =
    subst (λ z. c.key_of_target.result ≡ key_of_target c.args.self.now.listed z) (to_z-of_z w64 c.args.target c.ranges.target) c.key_of_target.ensures in
    sym (key_of_target-none c.args.heap.now.procs c.args.self.now.listed c.args.target c.requires (sym key_is ∙ c.in-None.is))
