use Rattle.std.proofs.Common.{◌+◌, ◌-◌, ◌/◌, List, ℕ, length, refl, ◌∙◌, subst, arith}
use Rattle.std.proofs.lemmas.List.{take_all, take_rest}
use borrow.Rule.Slice.PartMut.{mid_of}
use Rattle.kheap_laws.proofs.PaidLemmas.{CanPay-kept}
use Rattle.page_space.specs.Putting.{Puts}
use Rattle.page_space.proofs.PutLemmas.{IsPutting-none, IsPutting-more}
use Rattle.page_space.proofs.spaces.Space.copy_in.Goals as goal

pub loop-done-init : goal.loop-done-init
loop-done-init c = IsPutting-none c.args.heap.now c.args.purse.now c.args.self.now c.args.addr c.args.bytes.now

pub put_piece-done-requires-clause-owned : goal.put_piece-done-requires-clause-owned
put_piece-done-requires-clause-owned c =
    let moves = c.loop-done.invariant.puts.moves in
    (c.requires.owned.0, moves.owners c.requires.owned.0 c.requires.owned.1)

pub put_piece-done-requires-clause-room : goal.put_piece-done-requires-clause-room
put_piece-done-requires-clause-room c =
    CanPay-kept c.args.heap.now c.loop-done.heap c.args.purse.now c.loop-done.purse c.loop-done.invariant.puts.paid c.requires.room

pub loop-done-preserved : goal.loop-done-preserved
loop-done-preserved c =
    let at : ℕ = c.args.addr + c.loop-done.done in
    IsPutting-more c.args.heap.now c.args.purse.now c.loop-done.heap c.loop-done.purse c.put_piece-done.new.heap c.put_piece-done.new.purse c.args.self.now
    c.args.addr at c.args.bytes.now c.loop-done.done c.put_piece-done.result c.requires.owned.0 (mid_of c.loop-done.done (length c.args.bytes.now - c.loop-done.done) c.args.bytes.now)
    c.loop-done.invariant c.loop-done-test.true refl c.requires.within (take_rest c.args.bytes.now c.loop-done.done) c.put_piece-done.ensures.count c.put_piece-done.ensures.puts c.requires.owned.1
    (c.loop-done.invariant.puts.mapped (at / 4096) ∙ c.requires.mapped at (omega arith) (omega arith))

pub returns : goal.returns
returns c =
    let moves = c.loop-done.invariant.puts.moves in
    record {
      puts = subst (λ (bytes : List ℕ). Puts c.args.heap.now c.args.purse.now c.loop-done.heap c.loop-done.purse c.args.self.now c.args.addr bytes)
          (take_all c.loop-done.done c.args.bytes.now c.loop-done-test.false) c.loop-done.invariant.puts;
      same = refl;
      owned = (c.requires.owned.0, moves.owners c.requires.owned.0 c.requires.owned.1);
    }
