use Rattle.std.proofs.Common.{take, arith}
use Rattle.kheap_slabs.proofs.ObjectLemmas.{object_of}
use Rattle.page_space.proofs.MoveLemmas.{counted_used}
use Rattle.page_space.proofs.PutLemmas.{PutsPiece-written}
use Rattle.page_space.proofs.spaces.Space.put_piece.Goals as goal

pub returns-clause-puts : goal.returns-clause-puts
returns-clause-puts c =
    let mid = c.own_frame-key.new.heap in
    let key = c.own_frame-key.result in
    let found = object_of mid.pages key (counted_used mid.pages key (omega (arith, c.own_frame-key.ensures.alone))) in
    PutsPiece-written c.args.heap.now mid c.write_page.new.self c.args.purse.now c.own_frame-key.new.purse c.args.self.now c.args.addr key found.0
    (take c.min-count.result c.args.bytes.now) c.requires.owned.0 c.requires.owned.1 c.heap_is_well_formed.ensures (omega arith) c.requires.mapped
    c.own_frame-key.ensures.named c.own_frame-key.ensures.alone c.own_frame-key.ensures.stays c.own_frame-key.ensures.entries
    c.own_frame-key.ensures.moves c.own_frame-key.ensures.own c.own_frame-key.ensures.account c.own_frame-key.ensures.paid c.own_frame-key.ensures.pays
    c.own_frame-key.ensures.at_most found.1 (c.write_page.ensures.kept found.0 found.1) c.write_page.ensures.takes
