use Rattle.std.proofs.Common.{◌≡◌, ℕ, ◌∙◌, ◌-◌, [], List, Ok, Err, Option, Result, ap, refl, subst, sym}
use Rattle.std.specs.Prelude.{IsOk, MatchOption}
use Rattle.kabi_types.specs.declared.errnos.Errno.{Errno}
use Rattle.kheap_laws.proofs.PaidLemmas.{IsPaid-trans}
use Rattle.kheap_slabs.specs.Objects.{InUse}
use Rattle.kheap_slabs.specs.declared.objects.Sock.{Sock}
use Rattle.kheap_slabs.specs.Heap.{Heap}
use Rattle.memfs_ops.specs.FileTree.{KeepsLed, KnowsWay, in_call}
use Rattle.posix_defs.specs.Calls.OnSockets.{connect}
use Rattle.posix_defs.specs.PathCalls.{node_led, socket_found}
use Rattle.posix_defs.specs.Paths.{resolve}
use Rattle.posix_defs.specs.Process.{directory_of}
use Rattle.posix_defs.specs.Socket.{connect_fault}
use Rattle.posix_defs.specs.Sockets.{stage_at}
use Rattle.posix_defs.specs.Tree.{Tree, is_directory}
use Rattle.usock_core.specs.Answers.{Answers as IsFault, IsConnectedBy}
use Rattle.usock_core.proofs.StandingLemmas.{stands_same}
use Rattle.proc_numbers.proofs.Fronts.{queues_same, queues_then}
use Rattle.proc_numbers.proofs.NumberCloses.{listed_on}
use Rattle.proc_files.specs.Holders.{holders}
use Rattle.proc_files.proofs.Beside.{listed_beside, owners_beside, same_chunks, same_pipes, same_socks}
use Rattle.proc_numbers.specs.Answering.{zero_of}
use Rattle.proc_numbers.specs.Finding.{FindsSocket}
use Rattle.proc_numbers.proofs.Owners.{owners_change}
use Rattle.proc_numbers.proofs.Told.{queues_changed, socket_there}
use Rattle.proc_files.specs.NameAnswering.{AnswersConnecting}
use Rattle.proc_files.proofs.BindAnswers.{err_is, fills_on, no_fault, one_fault}
use Rattle.proc_files.proofs.ConnectAnswers.{connect_as, connect_done, connect_failed, connect_lost, connect_refused, fills_spent, on_done, same_socks_unless}
use Rattle.proc_files.proofs.connecting.connect_number.Goals as goal

-- ---- no socket

pub returns-in_err-found-clause-answers : goal.returns-in_err-found-clause-answers
returns-in_err-found-clause-answers c = λ numbers others script plain hold works.
    let gives = err_is c.in_err-found.field-0.0 c.from_residual.result c.from_residual.ensures.1 in
    subst
    (λ (r : Result (Unit {0}) Errno). AnswersConnecting numbers others c.args.heap.now c.args.heap.now c.args.procs.now c.args.tree.now c.args.names.now script plain c.args.place.pid (connect script plain c.args.place.pid c.args.on.now.fd c.args.path.now) (zero_of r))
    (sym gives)
    (connect_lost numbers others c.args.heap.now c.args.procs.now c.args.tree.now c.args.names.now script plain c.args.place.pid c.args.on.now.fd c.args.path.now c.in_err-found.field-0.0 hold
    (subst (FindsSocket numbers script plain c.args.place.pid c.args.on.now.fd (connect_as script plain c.args.place.pid c.args.path.now)) c.in_err-found.was
    (c.socket.ensures.found c.args.heap.now c.args.procs.now c.args.place.pid numbers script plain (connect_as script plain c.args.place.pid c.args.path.now) c.requires.opened hold.held.opened)))

-- ---- one that is connected or listens

pub can_connect-requires : goal.can_connect-requires
can_connect-requires c = socket_there c.args.heap.now [] c.in_ok-found.found.key c.requires.owners (c.in_ok-found.ensures.there c.args.heap.now c.args.procs.now c.args.place.pid c.requires.opened)

pub returns-in_err-can_connect-clause-answers : goal.returns-in_err-can_connect-clause-answers
returns-in_err-can_connect-clause-answers c = λ numbers others script plain hold works.
    let socketed = hold.held.opened.opened.socketed in
    let gives = err_is c.in_err-can_connect.field-0.0 c.from_residual-in_err-can_connect.result c.from_residual-in_err-can_connect.ensures.1 in
    subst
    (λ (r : Result (Unit {0}) Errno). AnswersConnecting numbers others c.args.heap.now c.args.heap.now c.args.procs.now c.args.tree.now c.args.names.now script plain c.args.place.pid (connect script plain c.args.place.pid c.args.on.now.fd c.args.path.now) (zero_of r))
    (sym gives)
    (connect_refused numbers others c.args.heap.now c.args.procs.now c.args.tree.now c.args.names.now script plain c.args.place.pid c.args.on.now.fd c.args.path.now c.in_ok-found.found c.requires.owners (c.in_ok-found.ensures.there c.args.heap.now c.args.procs.now c.args.place.pid c.requires.opened) hold
    (λ answer. subst (FindsSocket numbers script plain c.args.place.pid c.args.on.now.fd answer) c.in_ok-found.was
    (c.socket.ensures.found c.args.heap.now c.args.procs.now c.args.place.pid numbers script plain answer c.requires.opened hold.held.opened))
    c.in_err-can_connect.field-0.0
    (one_fault c.in_err-can_connect.field-0.0 (connect_fault (stage_at socketed.keyed c.in_ok-found.found.key))
    (subst (λ (r : Result (Unit {0}) Errno). IsFault r (connect_fault (stage_at socketed.keyed c.in_ok-found.found.key))) c.in_err-can_connect.was
    (c.can_connect.ensures.answer socketed.keyed socketed.stands))))

-- ---- a path that leads to a fault

pub find_name-requires-clause-stands : goal.find_name-requires-clause-stands
find_name-requires-clause-stands c =
    let hold = c.requires.hold in
    let some = hold.some in (
      some.files.tree,
      holders some.others some.files,
      some.hold.held.tree,
      ap (is_directory some.files.tree) (c.directory_of-cwd.ensures hold.directory hold.works) ∙ hold.is_dir,
    )

pub returns-in_err-node-clause-answers : goal.returns-in_err-node-clause-answers
returns-in_err-node-clause-answers c = λ numbers others script plain hold works.
    let socketed = hold.held.opened.opened.socketed in
    let pins = holders others plain.files in
    let gives = err_is c.in_err-node.field-0.0 c.from_residual-in_err-node.result c.from_residual-in_err-node.ensures.1 in
    subst
    (λ (r : Result (Unit {0}) Errno). AnswersConnecting numbers others c.args.heap.now c.find_name.new.heap c.args.procs.now c.find_name.new.self c.args.names.now script plain c.args.place.pid (connect script plain c.args.place.pid c.args.on.now.fd c.args.path.now) (zero_of r))
    (sym gives)
    (connect_failed numbers others c.args.heap.now c.args.procs.now c.args.tree.now c.args.names.now script plain c.args.place.pid c.args.on.now.fd c.args.path.now c.in_ok-found.found c.requires.owners (c.in_ok-found.ensures.there c.args.heap.now c.args.procs.now c.args.place.pid c.requires.opened) hold
    (λ answer. subst (FindsSocket numbers script plain c.args.place.pid c.args.on.now.fd answer) c.in_ok-found.was
    (c.socket.ensures.found c.args.heap.now c.args.procs.now c.args.place.pid numbers script plain answer c.requires.opened hold.held.opened))
    c.find_name.new.heap c.find_name.new.self c.find_name.ensures.looks.on.heap (c.find_name.ensures.looks.stands plain.files.tree pins hold.held.tree) c.directory_of-cwd.result
    (sym (c.directory_of-cwd.ensures (directory_of plain.table c.args.place.pid) works))
    (no_fault c.in_ok-can_connect.field-0 (connect_fault (stage_at socketed.keyed c.in_ok-found.found.key))
    (subst (λ (r : Result (Unit {0}) Errno). IsFault r (connect_fault (stage_at socketed.keyed c.in_ok-found.found.key))) c.in_ok-can_connect.was
    (c.can_connect.ensures.answer socketed.keyed socketed.stands)))
    c.in_err-node.field-0.0
    (sym c.in_err-node.was ∙ c.find_name.ensures.value plain.files.tree pins hold.held.tree))

pub returns-in_err-node-clause-listed : goal.returns-in_err-node-clause-listed
returns-in_err-node-clause-listed c = listed_beside c.args.heap.now c.find_name.new.heap c.find_name.ensures.looks.on.heap c.args.procs.now c.requires.listed

pub returns-in_err-node-clause-owners : goal.returns-in_err-node-clause-owners
returns-in_err-node-clause-owners c = owners_beside c.args.heap.now c.find_name.new.heap c.find_name.ensures.looks.on.heap [] c.requires.owners

pub returns-in_err-node-clause-queues : goal.returns-in_err-node-clause-queues
returns-in_err-node-clause-queues c =
    queues_same c.args.heap.now c.find_name.new.heap (same_pipes c.args.heap.now c.find_name.new.heap c.find_name.ensures.looks.on.heap)
    (same_socks c.args.heap.now c.find_name.new.heap c.find_name.ensures.looks.on.heap)

pub returns-in_err-node-clause-saved : goal.returns-in_err-node-clause-saved
returns-in_err-node-clause-saved c = λ plain pins directory stands works knows.
    (c.find_name.ensures.saved plain pins stands
    (subst (λ d. KnowsWay (in_call c.args.heap.now c.args.purse.now c.args.tree.now) plain d c.args.path.now) (sym (c.directory_of-cwd.ensures directory works)) knows)).disk

-- ---- a path that leads to a node

pub listener_under-listener-requires-clause-stands : goal.listener_under-listener-requires-clause-stands
listener_under-listener-requires-clause-stands c =
    let socks = (owners_beside c.args.heap.now c.find_name.new.heap c.find_name.ensures.looks.on.heap [] c.requires.owners).held.socks in (socks.sockets, socks.stands)

pub connect-requires-clause-owned : goal.connect-requires-clause-owned
connect-requires-clause-owned c = (owners_beside c.args.heap.now c.find_name.new.heap c.find_name.ensures.looks.on.heap [] c.requires.owners).objects

pub connect-requires-clause-idle : goal.connect-requires-clause-idle
connect-requires-clause-idle c =
    let idle = c.in_ok-can_connect.ensures.idle in
    let socks = same_socks c.args.heap.now c.find_name.new.heap c.find_name.ensures.looks.on.heap in
    record {
      sockets = idle.sockets;
      stands = stands_same c.args.heap.now c.find_name.new.heap idle.sockets socks (same_chunks c.args.heap.now c.find_name.new.heap c.find_name.ensures.looks.on.heap) idle.stands;
      used = subst (λ (list : List (Option Sock)). InUse list c.in_ok-found.found.key) (sym socks) idle.used;
      idle = idle.idle;
    }

pub returns-clause-answers : goal.returns-clause-answers
returns-clause-answers c = λ numbers others script plain hold works.
    let socketed = hold.held.opened.opened.socketed in
    let pins = holders others plain.files in
    connect_done numbers others c.args.heap.now c.args.procs.now c.args.tree.now c.args.names.now script plain c.args.place.pid c.args.on.now.fd c.args.path.now c.in_ok-found.found c.requires.owners (c.in_ok-found.ensures.there c.args.heap.now c.args.procs.now c.args.place.pid c.requires.opened) hold
    (λ answer. subst (FindsSocket numbers script plain c.args.place.pid c.args.on.now.fd answer) c.in_ok-found.was
    (c.socket.ensures.found c.args.heap.now c.args.procs.now c.args.place.pid numbers script plain answer c.requires.opened hold.held.opened))
    c.find_name.new.heap c.find_name.new.self c.find_name.ensures.looks.on.heap (c.find_name.ensures.looks.stands plain.files.tree pins hold.held.tree) c.directory_of-cwd.result
    (sym (c.directory_of-cwd.ensures (directory_of plain.table c.args.place.pid) works))
    (no_fault c.in_ok-can_connect.field-0 (connect_fault (stage_at socketed.keyed c.in_ok-found.found.key))
    (subst (λ (r : Result (Unit {0}) Errno). IsFault r (connect_fault (stage_at socketed.keyed c.in_ok-found.found.key))) c.in_ok-can_connect.was
    (c.can_connect.ensures.answer socketed.keyed socketed.stands)))
    c.in_ok-node.node
    (sym c.in_ok-node.was ∙ c.find_name.ensures.value plain.files.tree pins hold.held.tree)
    c.listener_under-listener.result c.listener_under-listener.ensures.listener
    c.connect.new.heap c.connect.result c.connect.ensures.answer c.connect.ensures.connected c.connect.ensures.others c.listener_under-listener.ensures.listens

pub returns-clause-listed : goal.returns-clause-listed
returns-clause-listed c =
    listed_on c.find_name.new.heap c.connect.new.heap c.args.procs.now (ap (λ (h : Heap). h.procs) c.connect.ensures.others.kept) (ap (λ (h : Heap). h.leaves) c.connect.ensures.others.kept)
    (listed_beside c.args.heap.now c.find_name.new.heap c.find_name.ensures.looks.on.heap c.args.procs.now c.requires.listed)

pub returns-clause-owners : goal.returns-clause-owners
returns-clause-owners c =
    owners_change c.find_name.new.heap c.connect.new.heap [] (record { others = c.connect.ensures.others; objects = c.connect.ensures.owned; held = c.connect.ensures.held })
    (owners_beside c.args.heap.now c.find_name.new.heap c.find_name.ensures.looks.on.heap [] c.requires.owners)

pub returns-clause-unchanged : goal.returns-clause-unchanged
returns-clause-unchanged c =
    same_socks_unless (MatchOption c.listener_under-listener.result ⊥ (IsConnectedBy c.find_name.new.heap c.connect.new.heap c.in_ok-found.found.key)) c.args.heap.now c.find_name.new.heap c.connect.new.heap c.connect.result
    c.find_name.ensures.looks.on.heap c.connect.ensures.connected

pub returns-clause-queues : goal.returns-clause-queues
returns-clause-queues c =
    queues_then c.args.heap.now c.find_name.new.heap c.connect.new.heap
    (queues_same c.args.heap.now c.find_name.new.heap (same_pipes c.args.heap.now c.find_name.new.heap c.find_name.ensures.looks.on.heap)
    (same_socks c.args.heap.now c.find_name.new.heap c.find_name.ensures.looks.on.heap))
    (queues_changed c.find_name.new.heap c.connect.new.heap c.connect.ensures.others c.connect.ensures.queues)

pub returns-clause-paid : goal.returns-clause-paid
returns-clause-paid c =
    IsPaid-trans c.args.heap.now c.args.purse.now c.find_name.new.heap c.find_name.new.purse c.connect.new.heap c.connect.new.purse c.find_name.ensures.looks.on.paid c.connect.ensures.paid

pub returns-clause-fills : goal.returns-clause-fills
returns-clause-fills c =
    fills_spent c.connect.new.heap c.find_name.new.purse c.connect.new.purse (c.find_name.new.purse.left.sock - 1) c.connect.result c.connect.ensures.spent
    (fills_on c.find_name.new.heap c.connect.new.heap c.find_name.new.purse c.connect.ensures.others c.find_name.ensures.looks.may.fills)

pub returns-clause-saved : goal.returns-clause-saved
returns-clause-saved c = λ plain pins directory stands works knows.
    (c.find_name.ensures.saved plain pins stands
    (subst (λ d. KnowsWay (in_call c.args.heap.now c.args.purse.now c.args.tree.now) plain d c.args.path.now) (sym (c.directory_of-cwd.ensures directory works)) knows)).disk

pub returns-clause-kept : goal.returns-clause-kept
returns-clause-kept c = λ plain pins directory stands works.
    on_done (KeepsLed c.find_name.new.self (resolve plain directory c.args.path.now)) c.connect.result
    (subst (λ d. KeepsLed c.find_name.new.self (resolve plain d c.args.path.now)) (c.directory_of-cwd.ensures directory works) (c.find_name.ensures.kept plain pins stands))

pub returns-in_err-node-clause-bytes : goal.returns-in_err-node-clause-bytes
returns-in_err-node-clause-bytes c = c.find_name.ensures.looks.on.bytes

pub returns-clause-bytes : goal.returns-clause-bytes
returns-clause-bytes c = c.find_name.ensures.looks.on.bytes

-- a socket's name is looked for under a path that leads to a node
led_there : (tree : Tree) (led : Result ℕ Errno) (found : Option ℕ) → Ok found ≡ socket_found tree led → IsOk led
led_there tree (Ok number) found is = refl
led_there tree (Err errno) found is = cc

pub returns-clause-found : goal.returns-clause-found
returns-clause-found c = λ plain pins directory stands works.
    let led : IsOk (node_led (resolve plain c.directory_of-cwd.result c.args.path.now)) =
    led_there plain (node_led (resolve plain c.directory_of-cwd.result c.args.path.now)) c.in_ok-node.node (sym c.in_ok-node.was ∙ c.find_name.ensures.value plain pins stands) in
    on_done (IsOk (node_led (resolve plain directory c.args.path.now))) c.connect.result
    (subst (λ d. IsOk (node_led (resolve plain d c.args.path.now))) (c.directory_of-cwd.ensures directory works) led)
