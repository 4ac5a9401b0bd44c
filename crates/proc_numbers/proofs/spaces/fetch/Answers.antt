use Rattle.std.proofs.Common.{◌≡◌, ◌+◌, ◌++◌, length, refl, ap, ◌∙◌, arith}
use Rattle.std.proofs.lemmas.List.{drop_all, append-nil}
use Rattle.posix_defs.specs.Memory.{loaded}
use Rattle.page_space.proofs.TakeLemmas.{IsTaking-none}
use Rattle.proc_numbers.proofs.Fetching.{fetched_more}
use Rattle.proc_numbers.proofs.spaces.fetch.Goals as goal

pub loop-done-init : goal.loop-done-init
loop-done-init c = IsTaking-none c.args.heap.now c.args.space.now c.args.addr c.args.out.now

pub loop-done-preserved : goal.loop-done-preserved
loop-done-preserved c =
    fetched_more c.args.heap.now c.args.space.now c.args.addr (c.args.addr + c.loop-done.done) c.args.out.now c.loop-done.out c.copy_out.new.out c.loop-done.done c.min-end.result
    c.loop-done.invariant refl (omega (arith, c.loop-done-test.true)) (omega (arith, c.loop-done.invariant.same)) c.copy_out.auto.out c.copy_out.ensures

pub returns : goal.returns
returns c = λ memory stands.
    let all : c.loop-done.done ≡ length c.args.out.now = omega (arith, c.loop-done.invariant.same, c.loop-done.invariant.within) in
    c.loop-done.invariant.taken memory stands
    ∙ (ap (λ rest. loaded memory c.args.addr c.loop-done.done ++ rest) (drop_all c.loop-done.done c.args.out.now (omega arith))
    ∙ (append-nil (loaded memory c.args.addr c.loop-done.done) ∙ ap (loaded memory c.args.addr) all))
