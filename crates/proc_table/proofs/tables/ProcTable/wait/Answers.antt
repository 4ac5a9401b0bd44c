use Rattle.std.proofs.Common.{◌≡◌, refl, subst, ◌∙◌, w64}
use Rattle.std.proofs.lemmas.Int.{to_z-of_z}
use Rattle.kheap_laws.proofs.PaidLemmas.{TakesNothing-refl}
use Rattle.proc_table.specs.Changes.{reaped_of}
use Rattle.proc_table.specs.Table.{processes}
use Rattle.proc_table.specs.declared.reaped.Reaped.TheVariants.{Took}
use Rattle.proc_table.proofs.HoldLemmas.{moves_same}
use Rattle.proc_table.proofs.WaitLemmas.{answer_found, reaped_table, took_ended, untaken_procs, untaken_table}
use Rattle.proc_table.proofs.tables.ProcTable.wait.Goals as goal

pub reap-requires-clause-over : goal.reap-requires-clause-over
reap-requires-clause-over c =
    let took : Took c.in-Took.child c.in-Took.status ≡ reaped_of c.args.pid c.args.which (processes c.args.heap.now c.args.self.now) =
    subst (λ z. Took c.in-Took.child c.in-Took.status ≡ reaped_of c.args.pid z (processes c.args.heap.now c.args.self.now)) (to_z-of_z w64 c.args.which c.ranges.which) c.in-Took.ensures in
    took_ended c.args.heap.now c.args.self.now c.args.pid c.args.which c.in-Took.child c.in-Took.status c.requires.holds took

pub returns-in-Took-clause-found : goal.returns-in-Took-clause-found
returns-in-Took-clause-found c = λ table is.
    let took : Took c.in-Took.child c.in-Took.status ≡ reaped_of c.args.pid c.args.which (processes c.args.heap.now c.args.self.now) =
    subst (λ z. Took c.in-Took.child c.in-Took.status ≡ reaped_of c.args.pid z (processes c.args.heap.now c.args.self.now)) (to_z-of_z w64 c.args.which c.ranges.which) c.in-Took.ensures in
    took ∙ answer_found c.args.heap.now c.args.self.now c.args.pid c.args.which table is

pub returns-in-Took-clause-table : goal.returns-in-Took-clause-table
returns-in-Took-clause-table c =
    reaped_table c.args.heap.now c.reap.new.heap c.args.self.now c.reap.new.self c.in-Took.child c.reap.ensures.gone c.reap.ensures.kept c.reap.ensures.last

pub returns-in_default : goal.returns-in_default
returns-in_default c =
    let answer : c.answer-answer.result ≡ reaped_of c.args.pid c.args.which (processes c.args.heap.now c.args.self.now) =
    subst (λ z. c.answer-answer.result ≡ reaped_of c.args.pid z (processes c.args.heap.now c.args.self.now)) (to_z-of_z w64 c.args.which c.ranges.which) c.answer-answer.ensures in
    record {
      answer = answer;
      last = refl;
      gone = untaken_procs c.answer-answer.result c.in_default.not-Took (processes c.args.heap.now c.args.self.now);
      kept = refl;
      found = λ table is. answer ∙ answer_found c.args.heap.now c.args.self.now c.args.pid c.args.which table is;
      table = λ table is. untaken_table c.answer-answer.result c.in_default.not-Took c.args.heap.now c.args.self.now table is;
      account = λ frames has. has;
      moves = moves_same c.args.heap.now c.args.self.now c.requires.holds;
      takes = TakesNothing-refl c.args.heap.now;
    }
