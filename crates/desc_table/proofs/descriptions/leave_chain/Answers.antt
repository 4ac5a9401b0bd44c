use Rattle.std.proofs.Common.{sym, subst, arith}
use Rattle.kheap_slabs.specs.declared.objects.Desc.{Desc}
use Rattle.pipe_ends.specs.Links.{ClosesLink}
use Rattle.pipe_ends.specs.Standing.{HasEndAt}
use Rattle.fifo_nodes.proofs.ChainLemmas.{chain_kept}
use Rattle.open_laws.specs.Closing.{ClosesLinks, DropsLinks, IsClosable}
use Rattle.open_laws.proofs.DescribedLemmas.{counts_alike, one_desc}
use Rattle.desc_table.proofs.descriptions.leave_chain.Goals as goal

pub leave_end-requires : goal.leave_end-requires
leave_end-requires c =
    let there = c.requires.there in
    let found = c.get_desc-found.result.now in
    let closable = subst (λ (d : Desc). IsClosable c.args.heap.now d.access d.target) (one_desc c.args.heap.now.descs c.args.desc there.desc found there.there c.get_desc-found.ensures) there.closable in
    record {
      owned = c.requires.owned;
      chain = c.requires.chain;
      end = subst (HasEndAt c.args.heap.now c.in-Pipe.key) (sym c.may_write.ensures) (subst (IsClosable c.args.heap.now found.access) c.in-Pipe.is closable);
    }

pub returns-in-Pipe-clause-chain : goal.returns-in-Pipe-clause-chain
returns-in-Pipe-clause-chain c = λ closed found is links.
    let same = one_desc c.args.heap.now.descs c.args.desc found c.get_desc-found.result.now is c.get_desc-found.ensures in
    let mine = subst (DropsLinks c.leave_end.new.heap closed) same links in
    let closes = subst (ClosesLinks c.leave_end.new.heap closed c.get_desc-found.result.now.access) c.in-Pipe.is (mine.closes (omega arith)) in
    c.leave_end.ensures.chain closed (subst (ClosesLink c.leave_end.new.heap closed c.in-Pipe.key) (sym c.may_write.ensures) closes)

pub returns-then-found-ne1-clause-chain : goal.returns-then-found-ne1-clause-chain
returns-then-found-ne1-clause-chain c = λ closed found is links.
    let there = c.requires.there in
    let alike = counts_alike c.args.heap.now.descs c.args.desc found there.desc is there.there in
    let mine = counts_alike c.args.heap.now.descs c.args.desc c.get_desc-found.result.now there.desc c.get_desc-found.ensures there.there in
    chain_kept c.args.heap.now closed c.args.fifos.now (links.stays (omega (arith, alike, mine, there.named))) c.requires.chain

pub returns-in-Inode-clause-chain : goal.returns-in-Inode-clause-chain
returns-in-Inode-clause-chain c = λ closed found is links.
    let same = one_desc c.args.heap.now.descs c.args.desc found c.get_desc-found.result.now is c.get_desc-found.ensures in
    let mine = subst (DropsLinks c.args.heap.now closed) same links in
    let closes = subst (ClosesLinks c.args.heap.now closed c.get_desc-found.result.now.access) c.in-Inode.is (mine.closes (omega arith)) in
    chain_kept c.args.heap.now closed c.args.fifos.now closes c.requires.chain

pub returns-in-Sock-clause-chain : goal.returns-in-Sock-clause-chain
returns-in-Sock-clause-chain c = λ closed found is links.
    let same = one_desc c.args.heap.now.descs c.args.desc found c.get_desc-found.result.now is c.get_desc-found.ensures in
    let mine = subst (DropsLinks c.args.heap.now closed) same links in
    let closes = subst (ClosesLinks c.args.heap.now closed c.get_desc-found.result.now.access) c.in-Sock.is (mine.closes (omega arith)) in
    chain_kept c.args.heap.now closed c.args.fifos.now closes c.requires.chain
