use Rattle.std.proofs.Common.{◌≡◌, ℕ, ◌+◌, ◌<◌, ◌≤◌, [], ◌∷◌, ◌++◌, ap, subst, sym, ◌∙◌}
use Rattle.kheap_slabs.specs.Heap.{Heap}
use Rattle.kheap_slabs.specs.Objects.{count}
use Rattle.kheap_slabs.specs.Purse.{Purse}
use Rattle.kheap_slabs.specs.declared.objects.Proc.{Proc}
use Rattle.page_space.specs.Contents.{IsOwnedWith}
use Rattle.kheap_laws.proofs.LeafOwners.{HoldLeaves-owns}
use Rattle.kheap_laws.proofs.PaidLemmas.{CanPay-kept, IsPaid-trans}
use Rattle.open_laws.specs.Sharing.{share_all}
use Rattle.proc_table.specs.Changes.{child_proc}
use Rattle.proc_table.specs.Moves.{IsForked}
use Rattle.proc_table.specs.Procs.{numbers_in, proc_of}
use Rattle.proc_table.specs.Table.{TableView, processes}
use Rattle.proc_table.proofs.ForkCopies.{has_owners, its_copies, spent_all}
use Rattle.proc_table.proofs.ForkLemmas.{forked-account, forked-child, forked-exact, forked-moves, forked-paid, forked-procs, forked-table, runs_of, shared-account, shared-descs, shared-exact, shared-forked, shared-holds, shared-moves, shared-table, shared-there}
use Rattle.proc_table.proofs.LeafTurns.{proc_inside}
use Rattle.proc_table.proofs.PlaceLemmas.{some_same}
use Rattle.proc_table.proofs.SpaceLemmas.{owned_proc}
use Rattle.proc_table.proofs.tables.ProcTable.fork.Goals as goal

pub copy_numbers-leaves-requires-clause-can : goal.copy_numbers-leaves-requires-clause-can
copy_numbers-leaves-requires-clause-can c = c.requires.shares c.in-Some.parent.now (sym c.in-Some.ensures)

pub copy_numbers-leaves-requires-clause-owns : goal.copy_numbers-leaves-requires-clause-owns
copy_numbers-leaves-requires-clause-owns c =
    HoldLeaves-owns c.args.heap.now.leaves (processes c.args.heap.now c.args.self.now) c.in-Some.parent.now c.requires.own
    (proc_inside (processes c.args.heap.now c.args.self.now) c.args.pid c.in-Some.parent.now (sym c.in-Some.ensures))

pub fork_from-space-requires-clause-owned : goal.fork_from-space-requires-clause-owned
fork_from-space-requires-clause-owned c =
    subst (λ space. IsOwnedWith c.copy_numbers-leaves.new.heap space) (sym c.of.ensures)
    (owned_proc c.copy_numbers-leaves.new.heap c.args.self.now (shared-holds c.args.heap.now c.copy_numbers-leaves.new.heap c.args.self.now _ _ _ c.copy_numbers-leaves.ensures.kept c.requires.holds) c.args.pid c.in-Some.parent.now
    (shared-there c.args.heap.now c.copy_numbers-leaves.new.heap c.args.self.now _ _ _ c.copy_numbers-leaves.ensures.kept c.args.pid c.in-Some.parent.now (sym c.in-Some.ensures)))

pub add_child-requires-clause-room : goal.add_child-requires-clause-room
add_child-requires-clause-room c =
    CanPay-kept c.copy_numbers-leaves.new.heap c.fork_from-space.new.heap c.copy_numbers-leaves.new.purse c.fork_from-space.new.purse c.fork_from-space.ensures.forked.paid c.copy_numbers-leaves.ensures.pays

pub returns-clause-child : goal.returns-clause-child
returns-clause-child c =
    subst (λ (last : ℕ). IsForked c.args.heap.now c.args.self.now c.add_child.new.heap c.add_child.new.self c.args.pid last)
    (sym (ap (λ (table : TableView). table.last) c.self.view_is ∙ c.add_child.ensures.added.last))
    (shared-forked c.args.heap.now c.copy_numbers-leaves.new.heap c.args.self.now _ _ _ c.copy_numbers-leaves.ensures.kept c.add_child.new.heap c.add_child.new.self c.args.pid _
    (forked-child c.copy_numbers-leaves.new.heap c.fork_from-space.new.heap c.add_child.new.heap c.copy_numbers-leaves.new.purse c.fork_from-space.new.purse c.add_child.new.purse c.args.self.now c.add_child.new.self
    c.args.pid c.in-Some.parent.now c.of.result c.fork_from-space.result c.copy_numbers-leaves.result
    (shared-holds c.args.heap.now c.copy_numbers-leaves.new.heap c.args.self.now _ _ _ c.copy_numbers-leaves.ensures.kept c.requires.holds)
    (shared-there c.args.heap.now c.copy_numbers-leaves.new.heap c.args.self.now _ _ _ c.copy_numbers-leaves.ensures.kept c.args.pid c.in-Some.parent.now (sym c.in-Some.ensures))
    (runs_of _ c.args.pid c.in-Some.parent.now c.requires.alive (sym c.in-Some.ensures))
    c.of.ensures c.fork_from-space.ensures.forked c.add_child.ensures.added c.add_child.ensures.groups c.copy_numbers-leaves.ensures.long))

pub returns-clause-table : goal.returns-clause-table
returns-clause-table c = λ table is.
    forked-table c.copy_numbers-leaves.new.heap c.fork_from-space.new.heap c.add_child.new.heap c.copy_numbers-leaves.new.purse c.fork_from-space.new.purse c.add_child.new.purse c.args.self.now c.add_child.new.self
    c.args.pid c.in-Some.parent.now c.of.result c.fork_from-space.result c.copy_numbers-leaves.result
    (shared-holds c.args.heap.now c.copy_numbers-leaves.new.heap c.args.self.now _ _ _ c.copy_numbers-leaves.ensures.kept c.requires.holds)
    (shared-there c.args.heap.now c.copy_numbers-leaves.new.heap c.args.self.now _ _ _ c.copy_numbers-leaves.ensures.kept c.args.pid c.in-Some.parent.now (sym c.in-Some.ensures))
    (runs_of _ c.args.pid c.in-Some.parent.now c.requires.alive (sym c.in-Some.ensures))
    c.of.ensures c.fork_from-space.ensures.forked c.add_child.ensures.added table
    (shared-table c.args.heap.now c.copy_numbers-leaves.new.heap c.args.self.now _ _ _ c.copy_numbers-leaves.ensures.kept table is)

pub returns-clause-moves : goal.returns-clause-moves
returns-clause-moves c =
    shared-moves c.args.heap.now c.copy_numbers-leaves.new.heap c.args.self.now _ _ _ c.copy_numbers-leaves.ensures.kept c.add_child.new.heap c.add_child.new.self
    (forked-moves c.copy_numbers-leaves.new.heap c.fork_from-space.new.heap c.add_child.new.heap c.copy_numbers-leaves.new.purse c.fork_from-space.new.purse c.add_child.new.purse c.args.self.now c.add_child.new.self
    c.args.pid c.in-Some.parent.now c.of.result c.fork_from-space.result c.copy_numbers-leaves.result
    (shared-holds c.args.heap.now c.copy_numbers-leaves.new.heap c.args.self.now _ _ _ c.copy_numbers-leaves.ensures.kept c.requires.holds)
    (shared-there c.args.heap.now c.copy_numbers-leaves.new.heap c.args.self.now _ _ _ c.copy_numbers-leaves.ensures.kept c.args.pid c.in-Some.parent.now (sym c.in-Some.ensures))
    (runs_of _ c.args.pid c.in-Some.parent.now c.requires.alive (sym c.in-Some.ensures))
    c.of.ensures c.fork_from-space.ensures.forked c.add_child.ensures.added)

pub returns-clause-shared : goal.returns-clause-shared
returns-clause-shared c = λ parent is.
    shared-descs c.args.heap.now c.copy_numbers-leaves.new.heap c.args.self.now _ _ _ c.copy_numbers-leaves.ensures.kept c.add_child.new.heap c.add_child.new.self
    (forked-moves c.copy_numbers-leaves.new.heap c.fork_from-space.new.heap c.add_child.new.heap c.copy_numbers-leaves.new.purse c.fork_from-space.new.purse c.add_child.new.purse c.args.self.now c.add_child.new.self
    c.args.pid c.in-Some.parent.now c.of.result c.fork_from-space.result c.copy_numbers-leaves.result
    (shared-holds c.args.heap.now c.copy_numbers-leaves.new.heap c.args.self.now _ _ _ c.copy_numbers-leaves.ensures.kept c.requires.holds)
    (shared-there c.args.heap.now c.copy_numbers-leaves.new.heap c.args.self.now _ _ _ c.copy_numbers-leaves.ensures.kept c.args.pid c.in-Some.parent.now (sym c.in-Some.ensures))
    (runs_of _ c.args.pid c.in-Some.parent.now c.requires.alive (sym c.in-Some.ensures))
    c.of.ensures c.fork_from-space.ensures.forked c.add_child.ensures.added)
    ∙ c.copy_numbers-leaves.ensures.descs
    ∙ ap (λ (p : Proc). share_all c.args.heap.now.descs (numbers_in c.args.heap.now p))
    (some_same (proc_of (processes c.args.heap.now c.args.self.now) c.args.pid) c.in-Some.parent.now parent (sym c.in-Some.ensures) is)

pub returns-clause-paid : goal.returns-clause-paid
returns-clause-paid c =
    IsPaid-trans c.args.heap.now c.args.purse.now c.copy_numbers-leaves.new.heap c.copy_numbers-leaves.new.purse c.add_child.new.heap c.add_child.new.purse
    c.copy_numbers-leaves.ensures.paid
    (forked-paid c.copy_numbers-leaves.new.heap c.fork_from-space.new.heap c.add_child.new.heap c.copy_numbers-leaves.new.purse c.fork_from-space.new.purse c.add_child.new.purse c.args.self.now c.add_child.new.self
    c.args.pid c.in-Some.parent.now c.of.result c.fork_from-space.result c.copy_numbers-leaves.result
    (shared-holds c.args.heap.now c.copy_numbers-leaves.new.heap c.args.self.now _ _ _ c.copy_numbers-leaves.ensures.kept c.requires.holds)
    (shared-there c.args.heap.now c.copy_numbers-leaves.new.heap c.args.self.now _ _ _ c.copy_numbers-leaves.ensures.kept c.args.pid c.in-Some.parent.now (sym c.in-Some.ensures))
    (runs_of _ c.args.pid c.in-Some.parent.now c.requires.alive (sym c.in-Some.ensures))
    c.of.ensures c.fork_from-space.ensures.forked c.add_child.ensures.added)

pub returns-clause-account : goal.returns-clause-account
returns-clause-account c = λ frames has.
    forked-account c.copy_numbers-leaves.new.heap c.fork_from-space.new.heap c.add_child.new.heap c.copy_numbers-leaves.new.purse c.fork_from-space.new.purse c.add_child.new.purse c.args.self.now c.add_child.new.self
    c.args.pid c.in-Some.parent.now c.of.result c.fork_from-space.result c.copy_numbers-leaves.result
    (shared-holds c.args.heap.now c.copy_numbers-leaves.new.heap c.args.self.now _ _ _ c.copy_numbers-leaves.ensures.kept c.requires.holds)
    (shared-there c.args.heap.now c.copy_numbers-leaves.new.heap c.args.self.now _ _ _ c.copy_numbers-leaves.ensures.kept c.args.pid c.in-Some.parent.now (sym c.in-Some.ensures))
    (runs_of _ c.args.pid c.in-Some.parent.now c.requires.alive (sym c.in-Some.ensures))
    c.of.ensures c.fork_from-space.ensures.forked c.add_child.ensures.added c.fork_from-space.ensures.account frames
    (shared-account c.args.heap.now c.copy_numbers-leaves.new.heap c.args.self.now _ _ _ c.copy_numbers-leaves.ensures.kept frames has)

pub returns-clause-exact : goal.returns-clause-exact
returns-clause-exact c =
    subst (λ n. count c.add_child.new.heap.nodes + c.add_child.new.purse.left.node ≡ count c.args.heap.now.nodes + n) (ap (λ (p : Purse). p.left.node) c.copy_numbers-leaves.ensures.spent)
    (shared-exact c.args.heap.now c.copy_numbers-leaves.new.heap c.args.self.now _ _ _ c.copy_numbers-leaves.ensures.kept c.add_child.new.heap c.copy_numbers-leaves.new.purse c.add_child.new.purse
    (forked-exact c.copy_numbers-leaves.new.heap c.fork_from-space.new.heap c.add_child.new.heap c.copy_numbers-leaves.new.purse c.fork_from-space.new.purse c.add_child.new.purse c.args.self.now c.add_child.new.self
    c.args.pid c.in-Some.parent.now c.of.result c.fork_from-space.result c.copy_numbers-leaves.result
    (shared-holds c.args.heap.now c.copy_numbers-leaves.new.heap c.args.self.now _ _ _ c.copy_numbers-leaves.ensures.kept c.requires.holds)
    (shared-there c.args.heap.now c.copy_numbers-leaves.new.heap c.args.self.now _ _ _ c.copy_numbers-leaves.ensures.kept c.args.pid c.in-Some.parent.now (sym c.in-Some.ensures))
    (runs_of _ c.args.pid c.in-Some.parent.now c.requires.alive (sym c.in-Some.ensures))
    c.of.ensures c.fork_from-space.ensures.forked c.add_child.ensures.added))

pub fork_from-space-requires-clause-left : goal.fork_from-space-requires-clause-left
fork_from-space-requires-clause-left c = subst (λ n. 4 ≤ n) (sym (ap (λ (p : Purse). p.left.node) c.copy_numbers-leaves.ensures.spent)) c.requires.left_nodes

pub add_child-requires-clause-left : goal.add_child-requires-clause-left
add_child-requires-clause-left c =
    subst (λ n. 0 < n) (sym (ap (λ (p : Purse). p.left.proc) c.fork_from-space.ensures.forked.spent ∙ ap (λ (p : Purse). p.left.proc) c.copy_numbers-leaves.ensures.spent)) c.requires.left_proc

pub returns-clause-own : goal.returns-clause-own
returns-clause-own c =
    let made =
    forked-procs c.copy_numbers-leaves.new.heap c.fork_from-space.new.heap c.add_child.new.heap c.copy_numbers-leaves.new.purse c.fork_from-space.new.purse c.add_child.new.purse c.args.self.now c.add_child.new.self
    c.args.pid c.in-Some.parent.now c.of.result c.fork_from-space.result c.copy_numbers-leaves.result
    (shared-holds c.args.heap.now c.copy_numbers-leaves.new.heap c.args.self.now _ _ _ c.copy_numbers-leaves.ensures.kept c.requires.holds)
    (shared-there c.args.heap.now c.copy_numbers-leaves.new.heap c.args.self.now _ _ _ c.copy_numbers-leaves.ensures.kept c.args.pid c.in-Some.parent.now (sym c.in-Some.ensures))
    (runs_of _ c.args.pid c.in-Some.parent.now c.requires.alive (sym c.in-Some.ensures))
    c.of.ensures c.fork_from-space.ensures.forked c.add_child.ensures.added
    ∙ ap (λ procs. procs ++ child_proc c.in-Some.parent.now (c.args.self.now.last + 1) c.fork_from-space.result c.copy_numbers-leaves.result ∷ []) (ap (λ (h : Heap). processes h c.args.self.now) c.copy_numbers-leaves.ensures.kept)
    in
    has_owners c.args.heap.now c.copy_numbers-leaves.new.heap c.fork_from-space.new.heap c.add_child.new.heap c.fork_from-space.new.purse c.add_child.new.purse c.args.self.now c.add_child.new.self c.in-Some.parent.now c.fork_from-space.result c.copy_numbers-leaves.result
    c.copy_numbers-leaves.ensures.kept c.fork_from-space.ensures.forked.kept c.add_child.ensures.added c.copy_numbers-leaves.ensures.numbers c.copy_numbers-leaves.ensures.leaves c.copy_numbers-leaves.ensures.namings
    c.requires.own made

pub returns-clause-copies : goal.returns-clause-copies
returns-clause-copies c = λ parent its.
    let made =
    forked-procs c.copy_numbers-leaves.new.heap c.fork_from-space.new.heap c.add_child.new.heap c.copy_numbers-leaves.new.purse c.fork_from-space.new.purse c.add_child.new.purse c.args.self.now c.add_child.new.self
    c.args.pid c.in-Some.parent.now c.of.result c.fork_from-space.result c.copy_numbers-leaves.result
    (shared-holds c.args.heap.now c.copy_numbers-leaves.new.heap c.args.self.now _ _ _ c.copy_numbers-leaves.ensures.kept c.requires.holds)
    (shared-there c.args.heap.now c.copy_numbers-leaves.new.heap c.args.self.now _ _ _ c.copy_numbers-leaves.ensures.kept c.args.pid c.in-Some.parent.now (sym c.in-Some.ensures))
    (runs_of _ c.args.pid c.in-Some.parent.now c.requires.alive (sym c.in-Some.ensures))
    c.of.ensures c.fork_from-space.ensures.forked c.add_child.ensures.added
    ∙ ap (λ procs. procs ++ child_proc c.in-Some.parent.now (c.args.self.now.last + 1) c.fork_from-space.result c.copy_numbers-leaves.result ∷ []) (ap (λ (h : Heap). processes h c.args.self.now) c.copy_numbers-leaves.ensures.kept)
    in
    its_copies c.args.heap.now c.copy_numbers-leaves.new.heap c.fork_from-space.new.heap c.add_child.new.heap c.fork_from-space.new.purse c.add_child.new.purse c.args.self.now c.add_child.new.self c.in-Some.parent.now c.fork_from-space.result c.copy_numbers-leaves.result
    c.copy_numbers-leaves.ensures.kept c.fork_from-space.ensures.forked.kept c.add_child.ensures.added c.copy_numbers-leaves.ensures.numbers c.copy_numbers-leaves.ensures.leaves c.copy_numbers-leaves.ensures.namings
    c.requires.own made
    c.args.pid _ c.requires.holds.stored c.requires.holds.rising (sym c.in-Some.ensures) (ap (λ (table : TableView). table.last) c.self.view_is ∙ c.add_child.ensures.added.last) parent its

pub returns-clause-spent : goal.returns-clause-spent
returns-clause-spent c =
    spent_all c.args.purse.now c.copy_numbers-leaves.new.purse c.fork_from-space.new.purse c.add_child.new.purse c.copy_numbers-leaves.ensures.spent c.fork_from-space.ensures.forked.spent c.add_child.ensures.added.spent
