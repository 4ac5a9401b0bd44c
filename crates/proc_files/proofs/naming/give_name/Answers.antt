use Rattle.std.proofs.Common.{ℕ, List, Option, Some, subst, sym}
use Rattle.proc_files.specs.Names.{AreBound, name_of}
use Rattle.proc_files.proofs.Tables.{named_now, named_others}
use Rattle.proc_files.proofs.Ties.{bound_given}
use Rattle.proc_files.proofs.naming.give_name.Goals as goal

pub returns-clause-bound : goal.returns-clause-bound
returns-clause-bound c =
    let old = c.args.heap.now in
    let new = c.name_sock.new.heap in
    let there = c.requires.there in
    let stands = c.name_sock.ensures.stands there.sockets there.stands in
    subst (λ (list : List (Option ℕ)). AreBound (name_of new.socks) list) (sym c.bind.ensures)
    (bound_given (name_of old.socks) (name_of new.socks) c.args.names.now c.requires.bound c.args.key c.args.node
    (named_others old new c.args.key (Some c.args.node) there.sockets there.stands there.used stands) c.requires.unnamed c.requires.free c.requires.place
    (named_now old new c.args.key (Some c.args.node) there.sockets there.stands there.used stands))
