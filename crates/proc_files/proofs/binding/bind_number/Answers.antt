use Rattle.std.proofs.Common.{◌∙◌, ℕ, [], List, Option, Some, Result, ap, length, refl, subst, sym}
use Rattle.std.proofs.lemmas.List.{length-set}
use Rattle.kabi_types.specs.declared.errnos.Errno.{Errno}
use Rattle.kheap_laws.proofs.PaidLemmas.{IsPaid-nothing, IsPaid-trans}
use Rattle.kheap_slabs.specs.declared.objects.Sock.{Sock}
use Rattle.kheap_slabs.specs.Heap.{Heap}
use Rattle.memfs_ops.specs.Changing.{LedTo}
use Rattle.posix_defs.specs.Calls.OnSockets.{bind}
use Rattle.posix_defs.specs.PathCalls.{bind_path}
use Rattle.posix_defs.specs.Process.{directory_of}
use Rattle.posix_defs.specs.Socket.{bind_fault}
use Rattle.posix_defs.specs.Sockets.{socket_at}
use Rattle.posix_defs.specs.Tree.{is_directory}
use Rattle.usock_core.specs.Answers.{Answers as IsFault}
use Rattle.proc_numbers.proofs.Fronts.{queues_same, queues_then}
use Rattle.proc_numbers.proofs.NumberCloses.{listed_on}
use Rattle.proc_files.specs.Holders.{holders}
use Rattle.proc_files.proofs.Beside.{listed_beside, owners_beside, same_pipes, same_socks}
use Rattle.proc_numbers.specs.Answering.{zero_of}
use Rattle.proc_numbers.specs.Finding.{FindsSocket}
use Rattle.proc_numbers.proofs.Owners.{owners_change}
use Rattle.proc_numbers.proofs.Told.{queues_changed, socket_there}
use Rattle.proc_files.specs.NameAnswering.{AnswersNaming}
use Rattle.proc_files.specs.Names.{name_of}
use Rattle.proc_files.proofs.BindAnswers.{bind_as, bind_done, bind_failed, bind_lost, bind_refused, directory_there, err_is, fills_on, led_makes, made_free, made_place, may_bind, named_beside, no_fault, one_fault}
use Rattle.proc_files.proofs.Tables.{name_says}
use Rattle.proc_files.proofs.binding.bind_number.Goals as goal

-- ---- no socket

pub returns-in_err-found-clause-answers : goal.returns-in_err-found-clause-answers
returns-in_err-found-clause-answers c = λ numbers others script plain hold works.
    let gives = err_is c.in_err-found.field-0.0 c.from_residual.result c.from_residual.ensures.1 in
    subst
    (λ (r : Result (Unit {0}) Errno). AnswersNaming numbers others c.args.heap.now c.args.procs.now c.args.tree.now c.args.names.now script plain c.args.place.pid (bind script plain c.args.place.pid c.args.on.now.fd c.args.path.now) (zero_of r))
    (sym gives)
    (bind_lost numbers others c.args.heap.now c.args.procs.now c.args.tree.now c.args.names.now script plain c.args.place.pid c.args.on.now.fd c.args.path.now c.in_err-found.field-0.0 hold
    (subst (FindsSocket numbers script plain c.args.place.pid c.args.on.now.fd (bind_as script plain c.args.place.pid c.args.path.now)) c.in_err-found.was
    (c.socket.ensures.found c.args.heap.now c.args.procs.now c.args.place.pid numbers script plain (bind_as script plain c.args.place.pid c.args.path.now) c.requires.opened hold.held.opened)))

-- ---- one that is bound or connected

pub can_bind-requires : goal.can_bind-requires
can_bind-requires c = socket_there c.args.heap.now [] c.in_ok-found.found.key c.requires.owners (c.in_ok-found.ensures.there c.args.heap.now c.args.procs.now c.args.place.pid c.requires.opened)

pub returns-in_err-can_bind-clause-answers : goal.returns-in_err-can_bind-clause-answers
returns-in_err-can_bind-clause-answers c = λ numbers others script plain hold works.
    let socketed = hold.held.opened.opened.socketed in
    let gives = err_is c.in_err-can_bind.field-0.0 c.from_residual-in_err-can_bind.result c.from_residual-in_err-can_bind.ensures.1 in
    subst
    (λ (r : Result (Unit {0}) Errno). AnswersNaming numbers others c.args.heap.now c.args.procs.now c.args.tree.now c.args.names.now script plain c.args.place.pid (bind script plain c.args.place.pid c.args.on.now.fd c.args.path.now) (zero_of r))
    (sym gives)
    (bind_refused numbers others c.args.heap.now c.args.procs.now c.args.tree.now c.args.names.now script plain c.args.place.pid c.args.on.now.fd c.args.path.now c.in_ok-found.found c.requires.owners (c.in_ok-found.ensures.there c.args.heap.now c.args.procs.now c.args.place.pid c.requires.opened) hold
    (λ answer. subst (FindsSocket numbers script plain c.args.place.pid c.args.on.now.fd answer) c.in_ok-found.was
    (c.socket.ensures.found c.args.heap.now c.args.procs.now c.args.place.pid numbers script plain answer c.requires.opened hold.held.opened))
    c.in_err-can_bind.field-0.0
    (one_fault c.in_err-can_bind.field-0.0 (bind_fault (socket_at socketed.keyed c.in_ok-found.found.key))
    (subst (λ (r : Result (Unit {0}) Errno). IsFault r (bind_fault (socket_at socketed.keyed c.in_ok-found.found.key))) c.in_err-can_bind.was (c.can_bind.ensures socketed.keyed socketed.stands))))

-- ---- a path that leads to a fault

pub bind_name-requires-clause-stands : goal.bind_name-requires-clause-stands
bind_name-requires-clause-stands c =
    let hold = c.requires.hold in
    let some = hold.some in (
      some.files.tree,
      holders some.others some.files,
      some.hold.held.tree,
      ap (is_directory some.files.tree) (c.directory_of-cwd.ensures hold.directory hold.works) ∙ hold.is_dir,
    )

pub returns-in_err-node-clause-answers : goal.returns-in_err-node-clause-answers
returns-in_err-node-clause-answers c = λ numbers others script plain hold works.
    let socketed = hold.held.opened.opened.socketed in
    let pins = holders others plain.files in
    let gives = err_is c.in_err-node.field-0.0 c.from_residual-in_err-node.result c.from_residual-in_err-node.ensures.1 in
    subst
    (λ (r : Result (Unit {0}) Errno). AnswersNaming numbers others c.bind_name.new.heap c.args.procs.now c.bind_name.new.self c.args.names.now script plain c.args.place.pid (bind script plain c.args.place.pid c.args.on.now.fd c.args.path.now) (zero_of r))
    (sym gives)
    (bind_failed numbers others c.args.heap.now c.args.procs.now c.args.tree.now c.args.names.now script plain c.args.place.pid c.args.on.now.fd c.args.path.now c.in_ok-found.found c.requires.owners (c.in_ok-found.ensures.there c.args.heap.now c.args.procs.now c.args.place.pid c.requires.opened) hold
    (λ answer. subst (FindsSocket numbers script plain c.args.place.pid c.args.on.now.fd answer) c.in_ok-found.was
    (c.socket.ensures.found c.args.heap.now c.args.procs.now c.args.place.pid numbers script plain answer c.requires.opened hold.held.opened))
    c.bind_name.new.heap c.bind_name.new.self c.bind_name.ensures.pays.only c.directory_of-cwd.result
    (sym (c.directory_of-cwd.ensures (directory_of plain.table c.args.place.pid) works))
    (no_fault c.in_ok-can_bind.field-0 (bind_fault (socket_at socketed.keyed c.in_ok-found.found.key))
    (subst (λ (r : Result (Unit {0}) Errno). IsFault r (bind_fault (socket_at socketed.keyed c.in_ok-found.found.key))) c.in_ok-can_bind.was (c.can_bind.ensures socketed.keyed socketed.stands)))
    c.in_err-node.field-0.0
    (subst (λ (r : Result ℕ Errno). LedTo c.bind_name.new.heap c.bind_name.new.self plain.files.tree (bind_path plain.files.tree c.directory_of-cwd.result c.args.path.now) pins r) c.in_err-node.was
    (c.bind_name.ensures.answer plain.files.tree pins hold.held.tree)))

pub returns-in_err-node-clause-listed : goal.returns-in_err-node-clause-listed
returns-in_err-node-clause-listed c = listed_beside c.args.heap.now c.bind_name.new.heap c.bind_name.ensures.pays.only c.args.procs.now c.requires.listed

pub returns-in_err-node-clause-owners : goal.returns-in_err-node-clause-owners
returns-in_err-node-clause-owners c = owners_beside c.args.heap.now c.bind_name.new.heap c.bind_name.ensures.pays.only [] c.requires.owners

pub returns-in_err-node-clause-queues : goal.returns-in_err-node-clause-queues
returns-in_err-node-clause-queues c =
    queues_same c.args.heap.now c.bind_name.new.heap (same_pipes c.args.heap.now c.bind_name.new.heap c.bind_name.ensures.pays.only)
    (same_socks c.args.heap.now c.bind_name.new.heap c.bind_name.ensures.pays.only)

-- ---- a new name

pub give_name-requires-clause-owned : goal.give_name-requires-clause-owned
give_name-requires-clause-owned c = (owners_beside c.args.heap.now c.bind_name.new.heap c.bind_name.ensures.pays.only [] c.requires.owners).objects

pub give_name-requires-clause-there : goal.give_name-requires-clause-there
give_name-requires-clause-there c =
    socket_there c.bind_name.new.heap [] c.in_ok-found.found.key (owners_beside c.args.heap.now c.bind_name.new.heap c.bind_name.ensures.pays.only [] c.requires.owners)
    (named_beside c.args.heap.now c.bind_name.new.heap c.in_ok-found.found.key c.bind_name.ensures.pays.only (c.in_ok-found.ensures.there c.args.heap.now c.args.procs.now c.args.place.pid c.requires.opened))

pub give_name-requires-clause-unnamed : goal.give_name-requires-clause-unnamed
give_name-requires-clause-unnamed c =
    let socketed = c.requires.hold.some.hold.held.opened.opened.socketed in
    let fine = no_fault c.in_ok-can_bind.field-0 (bind_fault (socket_at socketed.keyed c.in_ok-found.found.key))
    (subst (λ (r : Result (Unit {0}) Errno). IsFault r (bind_fault (socket_at socketed.keyed c.in_ok-found.found.key))) c.in_ok-can_bind.was (c.can_bind.ensures socketed.keyed socketed.stands)) in
    ap (λ (socks : List (Option Sock)). name_of socks c.in_ok-found.found.key) (same_socks c.args.heap.now c.bind_name.new.heap c.bind_name.ensures.pays.only)
    ∙ name_says c.args.heap.now socketed.keyed socketed.stands.table c.in_ok-found.found.key
    ∙ (may_bind (socket_at socketed.keyed c.in_ok-found.found.key) fine).0

pub give_name-requires-clause-free : goal.give_name-requires-clause-free
give_name-requires-clause-free c =
    let hold = c.requires.hold in
    let some = hold.some in
    let pins = holders some.others some.files in
    let makes = led_makes c.bind_name.new.heap c.bind_name.new.self some.files.tree c.directory_of-cwd.result c.args.path.now pins c.in_ok-node.node some.hold.held.tree.is_tree
    (ap (is_directory some.files.tree) (c.directory_of-cwd.ensures hold.directory hold.works) ∙ hold.is_dir)
    (subst (λ (r : Result ℕ Errno). LedTo c.bind_name.new.heap c.bind_name.new.self some.files.tree (bind_path some.files.tree c.directory_of-cwd.result c.args.path.now) pins r) c.in_ok-node.was
    (c.bind_name.ensures.answer some.files.tree pins some.hold.held.tree)) in
    made_free some.numbers some.others c.args.heap.now c.args.procs.now c.args.tree.now c.args.names.now some.files some.hold makes.0 c.in_ok-node.node makes.1

pub give_name-requires-clause-place : goal.give_name-requires-clause-place
give_name-requires-clause-place c =
    let hold = c.requires.hold in
    let some = hold.some in
    let pins = holders some.others some.files in
    let makes = led_makes c.bind_name.new.heap c.bind_name.new.self some.files.tree c.directory_of-cwd.result c.args.path.now pins c.in_ok-node.node some.hold.held.tree.is_tree
    (ap (is_directory some.files.tree) (c.directory_of-cwd.ensures hold.directory hold.works) ∙ hold.is_dir)
    (subst (λ (r : Result ℕ Errno). LedTo c.bind_name.new.heap c.bind_name.new.self some.files.tree (bind_path some.files.tree c.directory_of-cwd.result c.args.path.now) pins r) c.in_ok-node.was
    (c.bind_name.ensures.answer some.files.tree pins some.hold.held.tree)) in
    made_place some.numbers some.others c.args.heap.now c.args.procs.now c.args.tree.now c.args.names.now some.files some.hold makes.0 c.in_ok-node.node makes.1

pub returns-clause-answers : goal.returns-clause-answers
returns-clause-answers c = λ numbers others script plain hold works.
    let socketed = hold.held.opened.opened.socketed in
    let pins = holders others plain.files in
    let some = c.requires.hold.some in
    bind_done numbers others c.args.heap.now c.args.procs.now c.args.tree.now c.args.names.now script plain c.args.place.pid c.args.on.now.fd c.args.path.now c.in_ok-found.found c.requires.owners (c.in_ok-found.ensures.there c.args.heap.now c.args.procs.now c.args.place.pid c.requires.opened) hold
    (λ answer. subst (FindsSocket numbers script plain c.args.place.pid c.args.on.now.fd answer) c.in_ok-found.was
    (c.socket.ensures.found c.args.heap.now c.args.procs.now c.args.place.pid numbers script plain answer c.requires.opened hold.held.opened))
    c.bind_name.new.heap c.bind_name.new.self c.bind_name.ensures.pays.only c.directory_of-cwd.result
    (sym (c.directory_of-cwd.ensures (directory_of plain.table c.args.place.pid) works))
    (no_fault c.in_ok-can_bind.field-0 (bind_fault (socket_at socketed.keyed c.in_ok-found.found.key))
    (subst (λ (r : Result (Unit {0}) Errno). IsFault r (bind_fault (socket_at socketed.keyed c.in_ok-found.found.key))) c.in_ok-can_bind.was (c.can_bind.ensures socketed.keyed socketed.stands)))
    c.in_ok-node.node
    (subst (λ (r : Result ℕ Errno). LedTo c.bind_name.new.heap c.bind_name.new.self plain.files.tree (bind_path plain.files.tree c.directory_of-cwd.result c.args.path.now) pins r) c.in_ok-node.was
    (c.bind_name.ensures.answer plain.files.tree pins hold.held.tree))
    (directory_there c.args.heap.now c.args.tree.now some.files.tree plain.files.tree (holders some.others some.files) pins c.directory_of-cwd.result some.hold.held.tree hold.held.tree
    (ap (is_directory some.files.tree) (c.directory_of-cwd.ensures c.requires.hold.directory c.requires.hold.works) ∙ c.requires.hold.is_dir))
    c.give_name.new.heap c.give_name.new.names c.give_name.ensures.change c.give_name.ensures.stands c.give_name.ensures.bound c.give_name.ensures.names

pub returns-clause-listed : goal.returns-clause-listed
returns-clause-listed c =
    listed_on c.bind_name.new.heap c.give_name.new.heap c.args.procs.now (ap (λ (h : Heap). h.procs) c.give_name.ensures.change.others.kept) (ap (λ (h : Heap). h.leaves) c.give_name.ensures.change.others.kept)
    (listed_beside c.args.heap.now c.bind_name.new.heap c.bind_name.ensures.pays.only c.args.procs.now c.requires.listed)

pub returns-clause-owners : goal.returns-clause-owners
returns-clause-owners c =
    owners_change c.bind_name.new.heap c.give_name.new.heap [] c.give_name.ensures.change
    (owners_beside c.args.heap.now c.bind_name.new.heap c.bind_name.ensures.pays.only [] c.requires.owners)

pub returns-clause-queues : goal.returns-clause-queues
returns-clause-queues c =
    queues_then c.args.heap.now c.bind_name.new.heap c.give_name.new.heap
    (queues_same c.args.heap.now c.bind_name.new.heap (same_pipes c.args.heap.now c.bind_name.new.heap c.bind_name.ensures.pays.only)
    (same_socks c.args.heap.now c.bind_name.new.heap c.bind_name.ensures.pays.only))
    (queues_changed c.bind_name.new.heap c.give_name.new.heap c.give_name.ensures.change.others c.give_name.ensures.queues)

pub returns-clause-paid : goal.returns-clause-paid
returns-clause-paid c =
    IsPaid-trans c.args.heap.now c.args.purse.now c.bind_name.new.heap c.bind_name.new.purse c.give_name.new.heap c.bind_name.new.purse c.bind_name.ensures.pays.paid
    (IsPaid-nothing c.bind_name.new.heap c.give_name.new.heap c.bind_name.new.purse c.bind_name.new.purse c.give_name.ensures.takes refl refl)

pub returns-clause-fills : goal.returns-clause-fills
returns-clause-fills c = fills_on c.bind_name.new.heap c.give_name.new.heap c.bind_name.new.purse c.give_name.ensures.change.others c.bind_name.ensures.pays.fills

pub returns-clause-places : goal.returns-clause-places
returns-clause-places c = ap length c.give_name.ensures.names ∙ length-set c.args.names.now c.in_ok-node.node (Some c.in_ok-found.found.key)
