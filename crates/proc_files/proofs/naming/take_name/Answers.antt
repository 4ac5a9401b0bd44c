use Rattle.std.proofs.Common.{ℕ, List, Option, None, ap, is_some, subst, sym}
use Rattle.kheap_slabs.proofs.ObjectLemmas.{InUse-within}
use Rattle.proc_files.specs.Names.{AreBound, name_of}
use Rattle.proc_files.proofs.Tables.{named_now, named_others}
use Rattle.proc_files.proofs.Ties.{bound_taken}
use Rattle.proc_files.proofs.naming.take_name.Goals as goal

pub free-requires : goal.free-requires
free-requires c = InUse-within c.args.names.now c.args.node (ap is_some (c.requires.bound.named c.args.key c.args.node c.requires.named))

pub returns-clause-bound : goal.returns-clause-bound
returns-clause-bound c =
    let old = c.args.heap.now in
    let new = c.name_sock.new.heap in
    let there = c.requires.there in
    let stands = c.name_sock.ensures.stands there.sockets there.stands in
    subst (λ (list : List (Option ℕ)). AreBound (name_of new.socks) list) (sym c.free.ensures)
    (bound_taken (name_of old.socks) (name_of new.socks) c.args.names.now c.requires.bound c.args.key c.args.node
    (named_others old new c.args.key None there.sockets there.stands there.used stands) c.requires.named
    (named_now old new c.args.key None there.sockets there.stands there.used stands))
