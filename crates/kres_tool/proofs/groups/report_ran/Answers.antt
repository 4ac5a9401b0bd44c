use Rattle.std.proofs.lemmas.Result.{IfOk-weaker}
use denote.Exit.{no}
use denote.Param.{param}
use denote.Param.Send.{IsSend, arg_send, param_send, recorded_send, sendable, struct_send, view_send}
use denote.Struct.Declared as declared
use Rattle.std.proofs.Crossing.{crosses}
use Rattle.bound_table.proofs.table.BoundTable.TheSendSync as names
use Rattle.call_run.specs.contracts.calls.Buffers as held_buffers
use Rattle.call_run.specs.contracts.store.Store.{the_row as store_row}
use Rattle.call_run.specs.contracts.store.Store.TheInside as inside
use Rattle.fifo_nodes.proofs.table.FifoTable.TheSendSync as fifos
use Rattle.kabi_types.proofs.scripts.Script.TheSendSync as script
use Rattle.kheap_slabs.proofs.kheap.KHeap.TheSendSync as kheap
use Rattle.lock_table.proofs.table.LockTable.TheSendSync as locks
use Rattle.proc_table.proofs.tables.ProcTable.TheSendSync as procs
use Rattle.store_objects.specs.contracts.objects.Objects as held
use Rattle.victim_core.proofs.scores.Score.TheSendSync as score
use Rattle.kres_tool.proofs.Grouping.{report_of}
use Rattle.kres_tool.proofs.groups.report_ran.Goals as goal

-- the store may cross threads, since each of its fields may
pub run_groups-requires-send-T : goal.run_groups-requires-send-T
run_groups-requires-send-T g c κs within =
    let objects : IsSend held.the_field.row = struct_send (declared.shape held.the_type) (kheap.the_send, (procs.the_send, (c.a_tree_of_files_crosses_threads.ensures, (names.the_send, (fifos.the_send, (locks.the_send, tt)))))) in
    let buffers : IsSend held_buffers.the_field.row = struct_send (declared.shape held_buffers.the_type) (search (sendable, crosses) depth 20, (search (sendable, crosses) depth 20, tt)) in
    let fields : IsSend (inside.the_field (param 1 g.row.F) (param 2 g.row.G) g.F.Scorer g.G.Scorer).row =
    struct_send (declared.shape (inside.the_type (param 1 g.row.F) (param 2 g.row.G) g.F.Scorer g.G.Scorer))
    (script.the_field_send, (objects, (buffers, (score.the_field_send (param 1 g.row.F) (param 2 g.row.G) g.F.Scorer g.G.Scorer c.type_bounds.send-F c.type_bounds.send-G, (search (sendable, crosses) depth 20, tt))))) in
    let whole : IsSend (store_row (param 1 g.row.F) (param 2 g.row.G) g.F.Scorer g.G.Scorer) =
    view_send _ _ _ _ _ (recorded_send (inside.the_field (param 1 g.row.F) (param 2 g.row.G) g.F.Scorer g.G.Scorer).row _ _ (inside.the_type (param 1 g.row.F) (param 2 g.row.G) g.F.Scorer g.G.Scorer).to_one fields) in
    param_send _ _ (arg_send _ no _ whole)

pub returns : goal.returns
returns g c =
    IfOk-weaker c.report_groups.result _ _
    (λ text tells. report_of c.args.whole c.args.groups.now c.run_groups.new.groups text c.run_groups.auto.groups c.in_ok-run_groups.ensures.each c.in_ok-run_groups.ensures.ran tells)
    c.report_groups.ensures.report
