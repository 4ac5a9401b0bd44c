use Rattle.std.proofs.Common.{◌≡◌, ◌+◌, ℕ, ◌++◌, length, refl, ap, ◌∙◌, arith}
use Rattle.std.proofs.lemmas.List.{drop_all, append-nil}
use Rattle.posix_defs.specs.Memory.{loaded}
use Rattle.page_space.proofs.TakeLemmas.{IsTaking-none, IsTaking-more}
use Rattle.page_space.proofs.spaces.Space.copy_out.Goals as goal

pub loop-done-init : goal.loop-done-init
loop-done-init c = IsTaking-none c.args.heap.now c.args.self.now c.args.addr c.args.out.now

pub loop-done-preserved : goal.loop-done-preserved
loop-done-preserved c =
    let at : ℕ = c.args.addr + c.loop-done.done in
    IsTaking-more c.args.heap.now c.args.self.now c.args.addr at c.args.out.now c.loop-done.out c.take_piece-done.new.out c.loop-done.done c.take_piece-done.result
    c.loop-done.invariant refl (omega (arith, c.loop-done.invariant.same)) c.take_piece-done.ensures.count c.take_piece-done.auto.out c.take_piece-done.ensures.taken

pub returns : goal.returns
returns c = λ memory stands.
    let all : c.loop-done.done ≡ length c.args.out.now = omega (arith, c.loop-done.invariant.same, c.loop-done.invariant.within) in
    c.loop-done.invariant.taken memory stands
    ∙ (ap (λ rest. loaded memory c.args.addr c.loop-done.done ++ rest) (drop_all c.loop-done.done c.args.out.now (omega arith))
    ∙ (append-nil (loaded memory c.args.addr c.loop-done.done) ∙ ap (loaded memory c.args.addr) all))
