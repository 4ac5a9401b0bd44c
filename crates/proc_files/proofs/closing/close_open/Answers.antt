use Rattle.std.proofs.Common.{◌∙◌, List, [], Option, Some, ap, pos, refl, subst, sym}
use Rattle.fifo_nodes.specs.Chain.{IsChain}
use Rattle.kheap_laws.proofs.PaidLemmas.{IsPaid-nothing, IsPaid-trans}
use Rattle.kheap_slabs.specs.Heap.{Heap}
use Rattle.kheap_slabs.specs.declared.objects.Lock.{Lock as HeldLock}
use Rattle.lock_table.specs.Chain.{HoldsLocks, IsLockTable}
use Rattle.open_laws.specs.Described.{inode_in}
use Rattle.open_laws.specs.Owned.{HasItsOwners}
use Rattle.posix_defs.specs.Files.State.{let_go}
use Rattle.posix_defs.specs.Locks.{Locks}
use Rattle.proc_numbers.proofs.Fronts.{queues_same, queues_then}
use Rattle.proc_numbers.specs.Found.{IsOpened, held_in}
use Rattle.proc_numbers.specs.Having.{AreListed, node_closed}
use Rattle.proc_numbers.specs.Naming.{named_at}
use Rattle.proc_numbers.specs.declared.lookups.Named.{Named}
use Rattle.proc_files.proofs.Closed.{close_on}
use Rattle.proc_files.proofs.Unlocking.{chain_locked, hold_locked, listed_locked, locks_closed, locks_stay, names_closed, opened_locked, owners_locked, some_locked}
use Rattle.proc_files.specs.Closing.{ClosesHolding}
use Rattle.proc_files.specs.NameHolding.{HoldNames, HoldSomeNames}
use Rattle.proc_files.proofs.closing.close_open.Goals as goal

-- ---- the heap without the locks

pub close_found-requires-clause-listed : goal.close_found-requires-clause-listed
close_found-requires-clause-listed c =
    subst (λ (h : Heap). AreListed h c.args.procs.now) (sym c.unlock.ensures.beside) (listed_locked c.args.heap.now c.unlock.new.heap.locks c.args.procs.now c.requires.listed)

pub close_found-requires-clause-owners : goal.close_found-requires-clause-owners
close_found-requires-clause-owners c =
    subst (λ (h : Heap). HasItsOwners h []) (sym c.unlock.ensures.beside) (owners_locked c.args.heap.now c.unlock.new.heap.locks [] c.requires.owners)

pub close_found-requires-clause-chain : goal.close_found-requires-clause-chain
close_found-requires-clause-chain c =
    subst (λ (h : Heap). IsChain h c.args.fifos.now) (sym c.unlock.ensures.beside) (chain_locked c.args.heap.now c.unlock.new.heap.locks c.args.fifos.now c.requires.chain)

pub close_found-requires-clause-opened : goal.close_found-requires-clause-opened
close_found-requires-clause-opened c =
    let on : Named = record { fd = pos c.args.found.now.number; found = Some c.args.found.now } in
    subst (λ (h : Heap). IsOpened h c.args.procs.now c.args.place.pid on) (sym c.unlock.ensures.beside)
    (opened_locked c.args.heap.now c.unlock.new.heap.locks c.args.procs.now c.args.place.pid on c.requires.opened)

pub close_found-requires-clause-hold : goal.close_found-requires-clause-hold
close_found-requires-clause-hold c =
    subst (λ (h : Heap). HoldSomeNames h c.args.procs.now c.args.tree.now c.args.names.now) (sym c.unlock.ensures.beside)
    (some_locked c.args.heap.now c.unlock.new.heap.locks c.args.procs.now c.args.tree.now c.args.names.now c.requires.hold)

pub close_found-requires-clause-may : goal.close_found-requires-clause-may
close_found-requires-clause-may c =
    close_on c.args.heap.now c.unlock.new.heap c.args.purse.now (record {
      vnodes = ap (λ (h : Heap). h.vnodes) c.unlock.ensures.beside;
      names = ap (λ (h : Heap). h.names) c.unlock.ensures.beside;
      blocks = ap (λ (h : Heap). h.blocks) c.unlock.ensures.beside;
      size = ap (λ (h : Heap). h.heap) c.unlock.ensures.beside;
    })
    c.unlock.ensures.takes c.requires.may

-- ---- the number is closed in it

pub returns-clause-closed : goal.returns-clause-closed
returns-clause-closed c = λ numbers others files hold.
    names_closed numbers others c.close_found.new.heap c.args.procs.now c.close_found.new.tree c.close_found.new.names files c.args.place.pid c.args.found.now.number
    (c.close_found.ensures.closed numbers others files
    (subst (λ (h : Heap). HoldNames numbers others h c.args.procs.now c.args.tree.now c.args.names.now files) (sym c.unlock.ensures.beside)
    (hold_locked c.args.heap.now c.unlock.new.heap.locks numbers others c.args.procs.now c.args.tree.now c.args.names.now files hold)))

pub returns-clause-locks : goal.returns-clause-locks
returns-clause-locks c = λ numbers others files hold held.
    let gone = let_go files.locks c.args.place.pid (inode_in c.args.found.now.desc.target) in
    let stay = locks_stay c.unlock.new.heap c.close_found.new.heap c.args.procs.now c.args.place.pid c.args.found.now.number c.close_found.ensures.closes in
    subst (λ (l : Locks). HoldsLocks c.close_found.new.heap.locks c.unlock.new.locks l)
    (sym (locks_closed numbers c.args.heap.now c.args.procs.now files c.args.place.pid c.args.found.now.number (held_in c.args.found.now) c.args.found.now.desc c.requires.opened.names c.requires.opened.there hold.held.opened))
    (subst (λ (shelf : List (Option HeldLock)). HoldsLocks shelf c.unlock.new.locks gone) (sym stay) (c.unlock.ensures.locks files.locks held))

pub returns-clause-locked : goal.returns-clause-locked
returns-clause-locked c =
    let stay = locks_stay c.unlock.new.heap c.close_found.new.heap c.args.procs.now c.args.place.pid c.args.found.now.number c.close_found.ensures.closes in
    subst (λ (shelf : List (Option HeldLock)). IsLockTable shelf c.unlock.new.locks) (sym stay) c.unlock.ensures.locked

pub returns-clause-closes : goal.returns-clause-closes
returns-clause-closes c =
    let stay = locks_stay c.unlock.new.heap c.close_found.new.heap c.args.procs.now c.args.place.pid c.args.found.now.number c.close_found.ensures.closes in
    subst (λ (h : Heap). ClosesHolding h c.close_found.new.heap c.args.procs.now c.args.place.pid c.args.found.now.number)
    (c.unlock.ensures.beside ∙ ap (λ (shelf : List (Option HeldLock)). record c.args.heap.now { locks = shelf }) (sym stay)) c.close_found.ensures.closes

pub returns-clause-queues : goal.returns-clause-queues
returns-clause-queues c =
    queues_then c.args.heap.now c.unlock.new.heap c.close_found.new.heap
    (queues_same c.args.heap.now c.unlock.new.heap (ap (λ (h : Heap). h.pipes) c.unlock.ensures.beside) (ap (λ (h : Heap). h.socks) c.unlock.ensures.beside)) c.close_found.ensures.queues

pub returns-clause-paid : goal.returns-clause-paid
returns-clause-paid c =
    IsPaid-trans c.args.heap.now c.args.purse.now c.unlock.new.heap c.args.purse.now c.close_found.new.heap c.close_found.new.purse
    (IsPaid-nothing c.args.heap.now c.unlock.new.heap c.args.purse.now c.args.purse.now c.unlock.ensures.takes refl refl) c.close_found.ensures.paid

pub returns-clause-cached : goal.returns-clause-cached
returns-clause-cached c = c.close_found.ensures.cached

pub returns-clause-stays : goal.returns-clause-stays
returns-clause-stays c = λ none.
    c.close_found.ensures.stays (ap (λ (h : Heap). node_closed h (named_at h c.args.procs.now c.args.place.pid c.args.found.now.number)) c.unlock.ensures.beside ∙ none)
