use Rattle.std.proofs.Common.{◌≡◌, ◌∙◌, [], None, Some, ap, is_some, refl, sym}
use Rattle.fifo_nodes.proofs.ChainLemmas.{chain_kept}
use Rattle.kheap_laws.proofs.PaidLemmas.{IsPaid-nothing, IsPaid-trans}
use Rattle.kheap_slabs.specs.Heap.{Heap}
use Rattle.memfs_ops.proofs.CachedLemmas.{cached_still}
use Rattle.pipe_ends.proofs.LinkLemmas.{links_same}
use Rattle.proc_numbers.specs.Closed.{without_number}
use Rattle.proc_numbers.proofs.Changes.{node_of_number}
use Rattle.proc_numbers.proofs.Fronts.{queues_same, queues_then}
use Rattle.proc_numbers.proofs.NumberCloses.{listed_on}
use Rattle.proc_numbers.specs.Found.{held_in}
use Rattle.proc_numbers.specs.Having.{node_closed}
use Rattle.proc_numbers.specs.Naming.{named_at}
use Rattle.proc_files.proofs.Beside.{listed_beside, owners_beside, same_pipes, same_socks}
use Rattle.proc_files.proofs.Closed.{close_again, close_on, fills_on, number_caches}
use Rattle.proc_files.proofs.OneClosed.{holds_still, holds_without, lets_go}
use Rattle.proc_files.proofs.UnnamedClosed.{closed_names_hold}
use Rattle.proc_files.proofs.Unnaming.{closes_before}
use Rattle.proc_files.specs.SocketGoing.{socket_going, unnamed}
use Rattle.proc_files.proofs.closing.close_found.Goals as goal

-- ---- the number is closed

pub unname_going-requires-clause-there : goal.unname_going-requires-clause-there
unname_going-requires-clause-there c = c.requires.opened.there

pub close_one-requires-clause-listed : goal.close_one-requires-clause-listed
close_one-requires-clause-listed c =
    listed_on c.args.heap.now c.unname_going.new.heap c.args.procs.now (ap (λ (h : Heap). h.procs) c.unname_going.ensures.beside) (ap (λ (h : Heap). h.leaves) c.unname_going.ensures.beside) c.requires.listed

pub close_one-requires-clause-number : goal.close_one-requires-clause-number
close_one-requires-clause-number c = c.requires.opened.number.1

pub close_one-requires-clause-is_open : goal.close_one-requires-clause-is_open
close_one-requires-clause-is_open c =
    ap is_some (ap (λ (h : Heap). named_at h c.args.procs.now c.args.place.pid c.args.found.now.number) c.unname_going.ensures.beside ∙ c.requires.opened.names)

pub close_one-requires-clause-chain : goal.close_one-requires-clause-chain
close_one-requires-clause-chain c =
    chain_kept c.args.heap.now c.unname_going.new.heap c.args.fifos.now (links_same c.args.heap.now c.unname_going.new.heap (ap (λ (h : Heap). h.pipes) c.unname_going.ensures.beside)) c.requires.chain

-- ---- no node goes

pub returns-in_default-clause-closed : goal.returns-in_default-clause-closed
returns-in_default-clause-closed c = λ numbers others files hold.
    let listed = (listed_on c.args.heap.now c.unname_going.new.heap c.args.procs.now (ap (λ (h : Heap). h.procs) c.unname_going.ensures.beside) (ap (λ (h : Heap). h.leaves) c.unname_going.ensures.beside) c.requires.listed) in
    let may = (close_on c.args.heap.now c.unname_going.new.heap c.args.purse.now (record {
      vnodes = ap (λ (h : Heap). h.vnodes) c.unname_going.ensures.beside;
      names = ap (λ (h : Heap). h.names) c.unname_going.ensures.beside;
      blocks = ap (λ (h : Heap). h.blocks) c.unname_going.ensures.beside;
      size = ap (λ (h : Heap). h.heap) c.unname_going.ensures.beside;
    })
    c.unname_going.ensures.takes c.requires.may) in
    closed_names_hold numbers others c.args.heap.now c.unname_going.new.heap c.close_one.new.heap c.args.procs.now c.args.tree.now c.args.tree.now c.args.names.now c.unname_going.new.names files c.args.place.pid c.args.found.now.number
    (held_in c.args.found.now) c.args.found.now.desc c.requires.opened.names c.requires.opened.there c.requires.listed c.requires.owners hold (ap (λ (h : Heap). h.procs) c.unname_going.ensures.beside) (ap (λ (h : Heap). h.leaves) c.unname_going.ensures.beside) (ap (λ (h : Heap). h.descs) c.unname_going.ensures.beside)
    listed c.unname_going.ensures.owners (c.unname_going.ensures.hold numbers others c.args.procs.now c.args.tree.now files hold) (record { mid = c.close_one.new.heap; closes = c.close_one.ensures.closes; caches = refl }) c.close_one.ensures.listed c.close_one.ensures.owners
    (holds_still c.unname_going.new.heap c.close_one.new.heap c.args.procs.now c.args.place.pid c.args.found.now.number c.args.purse.now c.args.tree.now listed c.unname_going.ensures.owners c.close_one.ensures.closes c.close_one.ensures.listed c.close_one.ensures.owners c.close_one.ensures.takes may
    c.close_one.ensures.closed c.close_one.result (node_of_number c.unname_going.new.heap c.close_one.new.heap c.args.procs.now c.args.place.pid c.args.found.now.number c.close_one.result listed c.close_one.ensures.closes c.close_one.ensures.node) c.in_default.is)

pub returns-in_default-clause-hold : goal.returns-in_default-clause-hold
returns-in_default-clause-hold c =
    let listed = (listed_on c.args.heap.now c.unname_going.new.heap c.args.procs.now (ap (λ (h : Heap). h.procs) c.unname_going.ensures.beside) (ap (λ (h : Heap). h.leaves) c.unname_going.ensures.beside) c.requires.listed) in
    let may = (close_on c.args.heap.now c.unname_going.new.heap c.args.purse.now (record {
      vnodes = ap (λ (h : Heap). h.vnodes) c.unname_going.ensures.beside;
      names = ap (λ (h : Heap). h.names) c.unname_going.ensures.beside;
      blocks = ap (λ (h : Heap). h.blocks) c.unname_going.ensures.beside;
      size = ap (λ (h : Heap). h.heap) c.unname_going.ensures.beside;
    })
    c.unname_going.ensures.takes c.requires.may) in
    let some = c.requires.hold in
    record {
      numbers = some.numbers;
      others = some.others;
      files = without_number some.files c.args.place.pid c.args.found.now.number;
      hold = closed_names_hold some.numbers some.others c.args.heap.now c.unname_going.new.heap c.close_one.new.heap c.args.procs.now c.args.tree.now c.args.tree.now c.args.names.now c.unname_going.new.names some.files c.args.place.pid c.args.found.now.number
          (held_in c.args.found.now) c.args.found.now.desc c.requires.opened.names c.requires.opened.there c.requires.listed c.requires.owners some.hold (ap (λ (h : Heap). h.procs) c.unname_going.ensures.beside) (ap (λ (h : Heap). h.leaves) c.unname_going.ensures.beside) (ap (λ (h : Heap). h.descs) c.unname_going.ensures.beside)
          listed c.unname_going.ensures.owners (c.unname_going.ensures.hold some.numbers some.others c.args.procs.now c.args.tree.now some.files some.hold) (record { mid = c.close_one.new.heap; closes = c.close_one.ensures.closes; caches = refl }) c.close_one.ensures.listed c.close_one.ensures.owners
          (holds_still c.unname_going.new.heap c.close_one.new.heap c.args.procs.now c.args.place.pid c.args.found.now.number c.args.purse.now c.args.tree.now listed c.unname_going.ensures.owners c.close_one.ensures.closes c.close_one.ensures.listed c.close_one.ensures.owners c.close_one.ensures.takes may
          c.close_one.ensures.closed c.close_one.result (node_of_number c.unname_going.new.heap c.close_one.new.heap c.args.procs.now c.args.place.pid c.args.found.now.number c.close_one.result listed c.close_one.ensures.closes c.close_one.ensures.node) c.in_default.is);
    }

pub returns-in_default-clause-closes : goal.returns-in_default-clause-closes
returns-in_default-clause-closes c =
    closes_before c.args.heap.now c.unname_going.new.heap c.close_one.new.heap c.args.procs.now c.args.place.pid c.args.found.now.number c.unname_going.ensures.beside c.unname_going.ensures.takes.high
    (record { mid = c.close_one.new.heap; closes = c.close_one.ensures.closes; caches = refl })

pub returns-in_default-clause-queues : goal.returns-in_default-clause-queues
returns-in_default-clause-queues c =
    queues_then c.args.heap.now c.unname_going.new.heap c.close_one.new.heap c.unname_going.ensures.queues c.close_one.ensures.queues

pub returns-in_default-clause-may : goal.returns-in_default-clause-may
returns-in_default-clause-may c =
    let listed = (listed_on c.args.heap.now c.unname_going.new.heap c.args.procs.now (ap (λ (h : Heap). h.procs) c.unname_going.ensures.beside) (ap (λ (h : Heap). h.leaves) c.unname_going.ensures.beside) c.requires.listed) in
    let may = (close_on c.args.heap.now c.unname_going.new.heap c.args.purse.now (record {
      vnodes = ap (λ (h : Heap). h.vnodes) c.unname_going.ensures.beside;
      names = ap (λ (h : Heap). h.names) c.unname_going.ensures.beside;
      blocks = ap (λ (h : Heap). h.blocks) c.unname_going.ensures.beside;
      size = ap (λ (h : Heap). h.heap) c.unname_going.ensures.beside;
    })
    c.unname_going.ensures.takes c.requires.may) in
    close_on c.unname_going.new.heap c.close_one.new.heap c.args.purse.now (number_caches c.unname_going.new.heap c.close_one.new.heap c.args.procs.now c.args.place.pid c.args.found.now.number c.close_one.ensures.closes) c.close_one.ensures.takes may

pub returns-in_default-clause-paid : goal.returns-in_default-clause-paid
returns-in_default-clause-paid c =
    IsPaid-trans c.args.heap.now c.args.purse.now c.unname_going.new.heap c.args.purse.now c.close_one.new.heap c.args.purse.now
    (IsPaid-nothing c.args.heap.now c.unname_going.new.heap c.args.purse.now c.args.purse.now c.unname_going.ensures.takes refl refl)
    (IsPaid-nothing c.unname_going.new.heap c.close_one.new.heap c.args.purse.now c.args.purse.now c.close_one.ensures.takes refl refl)

pub returns-in_default-clause-cached : goal.returns-in_default-clause-cached
returns-in_default-clause-cached c =
    cached_still c.args.tree.now

-- ---- one does

pub close_node-requires-clause-stands : goal.close_node-requires-clause-stands
close_node-requires-clause-stands c =
    let listed = (listed_on c.args.heap.now c.unname_going.new.heap c.args.procs.now (ap (λ (h : Heap). h.procs) c.unname_going.ensures.beside) (ap (λ (h : Heap). h.leaves) c.unname_going.ensures.beside) c.requires.listed) in
    let may = (close_on c.args.heap.now c.unname_going.new.heap c.args.purse.now (record {
      vnodes = ap (λ (h : Heap). h.vnodes) c.unname_going.ensures.beside;
      names = ap (λ (h : Heap). h.names) c.unname_going.ensures.beside;
      blocks = ap (λ (h : Heap). h.blocks) c.unname_going.ensures.beside;
      size = ap (λ (h : Heap). h.heap) c.unname_going.ensures.beside;
    })
    c.unname_going.ensures.takes c.requires.may) in
    let some = c.requires.hold in
    lets_go c.unname_going.new.heap c.close_one.new.heap c.args.procs.now c.args.place.pid c.args.found.now.number c.args.purse.now c.args.tree.now listed c.unname_going.ensures.owners c.close_one.ensures.closes c.close_one.ensures.listed c.close_one.ensures.owners c.close_one.ensures.takes may
    c.close_one.ensures.closed c.close_one.result (node_of_number c.unname_going.new.heap c.close_one.new.heap c.args.procs.now c.args.place.pid c.args.found.now.number c.close_one.result listed c.close_one.ensures.closes c.close_one.ensures.node) c.in-Some.node c.in-Some.is some.numbers some.others
    (unnamed some.numbers some.files (socket_going c.args.found.now.desc))
    (c.unname_going.ensures.hold some.numbers some.others c.args.procs.now c.args.tree.now some.files some.hold).held

pub close_node-requires-clause-fills : goal.close_node-requires-clause-fills
close_node-requires-clause-fills c =
    let listed = (listed_on c.args.heap.now c.unname_going.new.heap c.args.procs.now (ap (λ (h : Heap). h.procs) c.unname_going.ensures.beside) (ap (λ (h : Heap). h.leaves) c.unname_going.ensures.beside) c.requires.listed) in
    let may = (close_on c.args.heap.now c.unname_going.new.heap c.args.purse.now (record {
      vnodes = ap (λ (h : Heap). h.vnodes) c.unname_going.ensures.beside;
      names = ap (λ (h : Heap). h.names) c.unname_going.ensures.beside;
      blocks = ap (λ (h : Heap). h.blocks) c.unname_going.ensures.beside;
      size = ap (λ (h : Heap). h.heap) c.unname_going.ensures.beside;
    })
    c.unname_going.ensures.takes c.requires.may) in
    fills_on c.unname_going.new.heap c.close_one.new.heap c.args.purse.now (number_caches c.unname_going.new.heap c.close_one.new.heap c.args.procs.now c.args.place.pid c.args.found.now.number c.close_one.ensures.closes) may.free.fetch.fills

pub returns-clause-closed : goal.returns-clause-closed
returns-clause-closed c = λ numbers others files hold.
    let listed = (listed_on c.args.heap.now c.unname_going.new.heap c.args.procs.now (ap (λ (h : Heap). h.procs) c.unname_going.ensures.beside) (ap (λ (h : Heap). h.leaves) c.unname_going.ensures.beside) c.requires.listed) in
    let may = (close_on c.args.heap.now c.unname_going.new.heap c.args.purse.now (record {
      vnodes = ap (λ (h : Heap). h.vnodes) c.unname_going.ensures.beside;
      names = ap (λ (h : Heap). h.names) c.unname_going.ensures.beside;
      blocks = ap (λ (h : Heap). h.blocks) c.unname_going.ensures.beside;
      size = ap (λ (h : Heap). h.heap) c.unname_going.ensures.beside;
    })
    c.unname_going.ensures.takes c.requires.may) in
    closed_names_hold numbers others c.args.heap.now c.unname_going.new.heap c.close_node.new.heap c.args.procs.now c.args.tree.now c.close_node.new.self c.args.names.now c.unname_going.new.names files c.args.place.pid c.args.found.now.number
    (held_in c.args.found.now) c.args.found.now.desc c.requires.opened.names c.requires.opened.there c.requires.listed c.requires.owners hold (ap (λ (h : Heap). h.procs) c.unname_going.ensures.beside) (ap (λ (h : Heap). h.leaves) c.unname_going.ensures.beside) (ap (λ (h : Heap). h.descs) c.unname_going.ensures.beside)
    listed c.unname_going.ensures.owners (c.unname_going.ensures.hold numbers others c.args.procs.now c.args.tree.now files hold) (record { mid = c.close_one.new.heap; closes = c.close_one.ensures.closes; caches = c.close_node.ensures.pays.only }) (listed_beside c.close_one.new.heap c.close_node.new.heap c.close_node.ensures.pays.only c.args.procs.now c.close_one.ensures.listed) (owners_beside c.close_one.new.heap c.close_node.new.heap c.close_node.ensures.pays.only [] c.close_one.ensures.owners)
    (holds_without c.unname_going.new.heap c.close_one.new.heap c.args.procs.now c.args.place.pid c.args.found.now.number c.args.purse.now c.args.tree.now listed c.unname_going.ensures.owners c.close_one.ensures.closes c.close_one.ensures.listed c.close_one.ensures.owners c.close_one.ensures.takes may
    c.close_one.ensures.closed c.close_one.result (node_of_number c.unname_going.new.heap c.close_one.new.heap c.args.procs.now c.args.place.pid c.args.found.now.number c.close_one.result listed c.close_one.ensures.closes c.close_one.ensures.node) c.in-Some.node c.in-Some.is c.close_node.new.heap c.close_node.new.self c.close_node.ensures.pays.only c.close_node.ensures.stands)

pub returns-clause-hold : goal.returns-clause-hold
returns-clause-hold c =
    let listed = (listed_on c.args.heap.now c.unname_going.new.heap c.args.procs.now (ap (λ (h : Heap). h.procs) c.unname_going.ensures.beside) (ap (λ (h : Heap). h.leaves) c.unname_going.ensures.beside) c.requires.listed) in
    let may = (close_on c.args.heap.now c.unname_going.new.heap c.args.purse.now (record {
      vnodes = ap (λ (h : Heap). h.vnodes) c.unname_going.ensures.beside;
      names = ap (λ (h : Heap). h.names) c.unname_going.ensures.beside;
      blocks = ap (λ (h : Heap). h.blocks) c.unname_going.ensures.beside;
      size = ap (λ (h : Heap). h.heap) c.unname_going.ensures.beside;
    })
    c.unname_going.ensures.takes c.requires.may) in
    let some = c.requires.hold in
    record {
      numbers = some.numbers;
      others = some.others;
      files = without_number some.files c.args.place.pid c.args.found.now.number;
      hold = closed_names_hold some.numbers some.others c.args.heap.now c.unname_going.new.heap c.close_node.new.heap c.args.procs.now c.args.tree.now c.close_node.new.self c.args.names.now c.unname_going.new.names some.files c.args.place.pid c.args.found.now.number
          (held_in c.args.found.now) c.args.found.now.desc c.requires.opened.names c.requires.opened.there c.requires.listed c.requires.owners some.hold (ap (λ (h : Heap). h.procs) c.unname_going.ensures.beside) (ap (λ (h : Heap). h.leaves) c.unname_going.ensures.beside) (ap (λ (h : Heap). h.descs) c.unname_going.ensures.beside)
          listed c.unname_going.ensures.owners (c.unname_going.ensures.hold some.numbers some.others c.args.procs.now c.args.tree.now some.files some.hold) (record { mid = c.close_one.new.heap; closes = c.close_one.ensures.closes; caches = c.close_node.ensures.pays.only }) (listed_beside c.close_one.new.heap c.close_node.new.heap c.close_node.ensures.pays.only c.args.procs.now c.close_one.ensures.listed) (owners_beside c.close_one.new.heap c.close_node.new.heap c.close_node.ensures.pays.only [] c.close_one.ensures.owners)
          (holds_without c.unname_going.new.heap c.close_one.new.heap c.args.procs.now c.args.place.pid c.args.found.now.number c.args.purse.now c.args.tree.now listed c.unname_going.ensures.owners c.close_one.ensures.closes c.close_one.ensures.listed c.close_one.ensures.owners c.close_one.ensures.takes may
          c.close_one.ensures.closed c.close_one.result (node_of_number c.unname_going.new.heap c.close_one.new.heap c.args.procs.now c.args.place.pid c.args.found.now.number c.close_one.result listed c.close_one.ensures.closes c.close_one.ensures.node) c.in-Some.node c.in-Some.is c.close_node.new.heap c.close_node.new.self c.close_node.ensures.pays.only c.close_node.ensures.stands);
    }

pub returns-clause-closes : goal.returns-clause-closes
returns-clause-closes c =
    closes_before c.args.heap.now c.unname_going.new.heap c.close_node.new.heap c.args.procs.now c.args.place.pid c.args.found.now.number c.unname_going.ensures.beside c.unname_going.ensures.takes.high
    (record { mid = c.close_one.new.heap; closes = c.close_one.ensures.closes; caches = c.close_node.ensures.pays.only })

pub returns-clause-listed : goal.returns-clause-listed
returns-clause-listed c =
    listed_beside c.close_one.new.heap c.close_node.new.heap c.close_node.ensures.pays.only c.args.procs.now c.close_one.ensures.listed

pub returns-clause-owners : goal.returns-clause-owners
returns-clause-owners c =
    owners_beside c.close_one.new.heap c.close_node.new.heap c.close_node.ensures.pays.only [] c.close_one.ensures.owners

pub returns-clause-queues : goal.returns-clause-queues
returns-clause-queues c =
    queues_then c.args.heap.now c.close_one.new.heap c.close_node.new.heap (queues_then c.args.heap.now c.unname_going.new.heap c.close_one.new.heap c.unname_going.ensures.queues c.close_one.ensures.queues)
    (queues_same c.close_one.new.heap c.close_node.new.heap (same_pipes c.close_one.new.heap c.close_node.new.heap c.close_node.ensures.pays.only) (same_socks c.close_one.new.heap c.close_node.new.heap c.close_node.ensures.pays.only))

pub returns-clause-same : goal.returns-clause-same
returns-clause-same c =
    let listed = (listed_on c.args.heap.now c.unname_going.new.heap c.args.procs.now (ap (λ (h : Heap). h.procs) c.unname_going.ensures.beside) (ap (λ (h : Heap). h.leaves) c.unname_going.ensures.beside) c.requires.listed) in
    let may = (close_on c.args.heap.now c.unname_going.new.heap c.args.purse.now (record {
      vnodes = ap (λ (h : Heap). h.vnodes) c.unname_going.ensures.beside;
      names = ap (λ (h : Heap). h.names) c.unname_going.ensures.beside;
      blocks = ap (λ (h : Heap). h.blocks) c.unname_going.ensures.beside;
      size = ap (λ (h : Heap). h.heap) c.unname_going.ensures.beside;
    })
    c.unname_going.ensures.takes c.requires.may) in
    c.close_node.ensures.dropped may.vnodes may.blocks

pub returns-clause-may : goal.returns-clause-may
returns-clause-may c =
    let listed = (listed_on c.args.heap.now c.unname_going.new.heap c.args.procs.now (ap (λ (h : Heap). h.procs) c.unname_going.ensures.beside) (ap (λ (h : Heap). h.leaves) c.unname_going.ensures.beside) c.requires.listed) in
    let may = (close_on c.args.heap.now c.unname_going.new.heap c.args.purse.now (record {
      vnodes = ap (λ (h : Heap). h.vnodes) c.unname_going.ensures.beside;
      names = ap (λ (h : Heap). h.names) c.unname_going.ensures.beside;
      blocks = ap (λ (h : Heap). h.blocks) c.unname_going.ensures.beside;
      size = ap (λ (h : Heap). h.heap) c.unname_going.ensures.beside;
    })
    c.unname_going.ensures.takes c.requires.may) in
    close_again c.close_one.new.heap c.close_node.new.heap c.args.purse.now c.close_node.new.purse c.args.tree.now c.close_node.new.self c.close_node.ensures.pays
    (c.close_node.ensures.dropped may.vnodes may.blocks)
    (close_on c.unname_going.new.heap c.close_one.new.heap c.args.purse.now (number_caches c.unname_going.new.heap c.close_one.new.heap c.args.procs.now c.args.place.pid c.args.found.now.number c.close_one.ensures.closes) c.close_one.ensures.takes may)

pub returns-clause-paid : goal.returns-clause-paid
returns-clause-paid c =
    IsPaid-trans c.args.heap.now c.args.purse.now c.close_one.new.heap c.args.purse.now c.close_node.new.heap c.close_node.new.purse
    (IsPaid-trans c.args.heap.now c.args.purse.now c.unname_going.new.heap c.args.purse.now c.close_one.new.heap c.args.purse.now
    (IsPaid-nothing c.args.heap.now c.unname_going.new.heap c.args.purse.now c.args.purse.now c.unname_going.ensures.takes refl refl)
    (IsPaid-nothing c.unname_going.new.heap c.close_one.new.heap c.args.purse.now c.args.purse.now c.close_one.ensures.takes refl refl))
    c.close_node.ensures.pays.paid

pub returns-clause-cached : goal.returns-clause-cached
returns-clause-cached c =
    c.close_node.ensures.cached

pub returns-clause-stays : goal.returns-clause-stays
returns-clause-stays c = λ none.
    let listed = (listed_on c.args.heap.now c.unname_going.new.heap c.args.procs.now (ap (λ (h : Heap). h.procs) c.unname_going.ensures.beside) (ap (λ (h : Heap). h.leaves) c.unname_going.ensures.beside) c.requires.listed) in
    let node = (node_of_number c.unname_going.new.heap c.close_one.new.heap c.args.procs.now c.args.place.pid c.args.found.now.number c.close_one.result listed c.close_one.ensures.closes c.close_one.ensures.node) in
    absurd (let both : Some c.in-Some.node ≡ None = sym c.in-Some.is ∙ node ∙ (ap (λ (h : Heap). node_closed h (named_at h c.args.procs.now c.args.place.pid c.args.found.now.number)) c.unname_going.ensures.beside ∙ none) in cc)

pub returns-clause-chain : goal.returns-clause-chain
returns-clause-chain c =
    chain_kept c.close_one.new.heap c.close_node.new.heap c.close_one.new.fifos (links_same c.close_one.new.heap c.close_node.new.heap (same_pipes c.close_one.new.heap c.close_node.new.heap c.close_node.ensures.pays.only)) c.close_one.ensures.chain
