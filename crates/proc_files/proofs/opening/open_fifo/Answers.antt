use Rattle.std.proofs.Common.{◌≡◌, ◌<◌, ◌∙◌, [], Ok, ap, arith, is_some, refl, subst, sym, w64}
use Rattle.std.proofs.lemmas.Int.{to_z-of_z}
use Rattle.fifo_nodes.proofs.ChainLemmas.{chain_kept}
use Rattle.memfs_ops.specs.Closing.{GoesThen}
use Rattle.memfs_ops.specs.FileTree.{one_more}
use Rattle.pipe_ends.proofs.LinkLemmas.{links_same}
use Rattle.posix_defs.specs.Calls.OnFiles.{end_opened, fifo_fault, fifo_pipe}
use Rattle.posix_defs.specs.Tree.{root}
use Rattle.proc_numbers.proofs.Changes.{changes_nothing}
use Rattle.proc_numbers.proofs.Fronts.{queues_same}
use Rattle.proc_files.specs.Holders.{holders}
use Rattle.proc_files.specs.Opening.{HaveAnew, end_came, opened_answer}
use Rattle.proc_files.proofs.Beside.{listed_beside, owners_beside, same_locks, same_pipes, same_socks}
use Rattle.proc_files.proofs.Changing.{caches_before, holding_of}
use Rattle.proc_files.proofs.FifoOpens.{end_answers, end_fault, end_leaves, fault_leaves, less_more, linked, positive}
use Rattle.proc_files.proofs.Holding.{stands_on}
use Rattle.proc_files.proofs.OpenAnswers.{more_here}
use Rattle.proc_files.proofs.opening.open_fifo.Goals as goal

pub fifo_fault-requires-clause-node : goal.fifo_fault-requires-clause-node
fifo_fault-requires-clause-node c =
    let some = c.requires.led.0 in
    positive some.numbers some.others c.args.heap.now c.args.procs.now c.args.tree.now some.files some.next c.args.node c.args.flags some.led c.requires.led.1

-- ---- it isn't opened

pub close_node-requires-clause-stands : goal.close_node-requires-clause-stands
close_node-requires-clause-stands c =
    let some = c.requires.led.0 in
    let pins = holders some.others some.files in
    let has_links = linked some.numbers some.others c.args.heap.now c.args.procs.now c.args.tree.now some.files some.next c.args.node c.args.flags some.led c.requires.led.1 in
    record {
      tree = some.next;
      pins = one_more pins c.args.node;
      stands = some.led.stands;
      held = more_here pins c.args.node;
      root_stays = subst (λ n. 0 < n) (sym (less_more pins c.args.node root)) (let held = some.led.beside.root in omega (arith, held));
      may = λ goes. absurd (let none = goes.links in omega (arith, has_links, none));
    }

pub returns-in-Some-clause-answers : goal.returns-in-Some-clause-answers
returns-in-Some-clause-answers c = λ numbers others script plain next led fifo.
    let flags = to_z-of_z w64 c.args.flags c.ranges.flags in
    record {
      now = numbers;
      keeps = record { descs = λ key used. refl; pipes = λ key used. refl; socks = λ key used. refl; frames = refl };
      files = plain.files;
      answers = end_fault script plain c.args.place.pid c.args.flags c.args.fd c.args.node c.in-Some.errno
          (ap (fifo_fault (fifo_pipe plain.files c.args.node)) (sym flags) ∙ sym (c.fifo_fault.ensures numbers plain.files led.opened.opened.piped) ∙ c.in-Some.is);
      holds = fault_leaves numbers others c.args.heap.now c.args.procs.now c.args.tree.now plain.files next c.args.node c.args.flags led fifo c.close_node.new.heap c.close_node.new.self c.close_node.ensures.pays.only
          (c.close_node.ensures.stands next (one_more (holders others plain.files) c.args.node) led.stands);
    }

pub returns-in-Some-clause-listed : goal.returns-in-Some-clause-listed
returns-in-Some-clause-listed c = listed_beside c.args.heap.now c.close_node.new.heap c.close_node.ensures.pays.only c.args.procs.now c.requires.listed

pub returns-in-Some-clause-owners : goal.returns-in-Some-clause-owners
returns-in-Some-clause-owners c = owners_beside c.args.heap.now c.close_node.new.heap c.close_node.ensures.pays.only [] c.requires.owners

pub returns-in-Some-clause-chain : goal.returns-in-Some-clause-chain
returns-in-Some-clause-chain c =
    chain_kept c.args.heap.now c.close_node.new.heap c.args.fifos.now (links_same c.args.heap.now c.close_node.new.heap (same_pipes c.args.heap.now c.close_node.new.heap c.close_node.ensures.pays.only)) c.requires.chain

pub returns-in-Some-clause-hold : goal.returns-in-Some-clause-hold
returns-in-Some-clause-hold c =
    let some = c.requires.led.0 in
    record {
      numbers = some.numbers;
      others = some.others;
      files = some.files;
      hold = fault_leaves some.numbers some.others c.args.heap.now c.args.procs.now c.args.tree.now some.files some.next c.args.node c.args.flags some.led c.requires.led.1 c.close_node.new.heap c.close_node.new.self
          c.close_node.ensures.pays.only (c.close_node.ensures.stands some.next (one_more (holders some.others some.files) c.args.node) some.led.stands);
    }

pub returns-in-Some-clause-changes : goal.returns-in-Some-clause-changes
returns-in-Some-clause-changes c =
    let only = c.close_node.ensures.pays.only in
    caches_before c.args.heap.now c.close_node.new.heap c.close_node.new.heap c.args.procs.now c.args.place.pid only
    (holding_of c.close_node.new.heap c.close_node.new.heap c.args.procs.now c.args.place.pid
    (changes_nothing c.close_node.new.heap c.args.procs.now c.args.place.pid (listed_beside c.args.heap.now c.close_node.new.heap only c.args.procs.now c.requires.listed) (ap is_some c.requires.there)))

pub returns-in-Some-clause-queues : goal.returns-in-Some-clause-queues
returns-in-Some-clause-queues c =
    let only = c.close_node.ensures.pays.only in
    queues_same c.args.heap.now c.close_node.new.heap (same_pipes c.args.heap.now c.close_node.new.heap only) (same_socks c.args.heap.now c.close_node.new.heap only)

pub returns-in-Some-clause-socks : goal.returns-in-Some-clause-socks
returns-in-Some-clause-socks c = same_socks c.args.heap.now c.close_node.new.heap c.close_node.ensures.pays.only

pub returns-in-Some-clause-locks : goal.returns-in-Some-clause-locks
returns-in-Some-clause-locks c = same_locks c.args.heap.now c.close_node.new.heap c.close_node.ensures.pays.only

pub returns-in-Some-clause-disk : goal.returns-in-Some-clause-disk
returns-in-Some-clause-disk c =
    let some = c.requires.led.0 in
    let has_links = linked some.numbers some.others c.args.heap.now c.args.procs.now c.args.tree.now some.files some.next c.args.node c.args.flags some.led c.requires.led.1 in
    let stays : GoesThen some.next (one_more (holders some.others some.files) c.args.node) c.args.node → ⊥ = λ goes. (let none = goes.links in omega (arith, has_links, none)) in
    (c.close_node.ensures.stays some.next (one_more (holders some.others some.files) c.args.node) some.led.stands stays).1

pub returns-in-Some-clause-names : goal.returns-in-Some-clause-names
returns-in-Some-clause-names c = c.close_node.ensures.cached.names

-- ---- it is

pub open_end-requires-clause-node : goal.open_end-requires-clause-node
open_end-requires-clause-node c =
    let some = c.requires.led.0 in
    positive some.numbers some.others c.args.heap.now c.args.procs.now c.args.tree.now some.files some.next c.args.node c.args.flags some.led c.requires.led.1

pub open_end-requires-clause-right : goal.open_end-requires-clause-right
open_end-requires-clause-right c =
    let some = c.requires.led.0 in
    (some.numbers, some.files, some.led.opened, sym (c.fifo_fault.ensures some.numbers some.files some.led.opened.opened.piped) ∙ c.in_default.is)

pub returns-clause-answers : goal.returns-clause-answers
returns-clause-answers c = λ numbers others script plain next led fifo.
    let flags = to_z-of_z w64 c.args.flags c.ranges.flags in
    let opened : HaveAnew numbers c.args.heap.now c.open_end.new.heap c.args.procs.now (end_opened plain.files c.args.place.pid c.args.flags c.args.fd c.args.node) =
    subst (λ z. HaveAnew numbers c.args.heap.now c.open_end.new.heap c.args.procs.now (end_opened plain.files c.args.place.pid z c.args.fd c.args.node)) flags (c.open_end.ensures.opened numbers plain.files led.opened) in
    let came : c.open_end.result ≡ end_came (fifo_pipe plain.files c.args.node) c.args.flags c.args.fd =
    c.open_end.ensures.came numbers plain.files led.opened ∙ ap (λ z. end_came (fifo_pipe plain.files c.args.node) z c.args.fd) flags in
    record {
      now = opened.now;
      keeps = opened.keeps;
      files = end_opened plain.files c.args.place.pid c.args.flags c.args.fd c.args.node;
      answers =
          end_answers script plain c.args.place.pid c.args.flags c.args.fd c.args.node
          (ap (fifo_fault (fifo_pipe plain.files c.args.node)) (sym flags) ∙ sym (c.fifo_fault.ensures numbers plain.files led.opened.opened.piped) ∙ c.in_default.is)
          ∙ ap (λ o. opened_answer script plain (end_opened plain.files c.args.place.pid c.args.flags c.args.fd c.args.node) c.args.place.pid (Ok o)) (sym came);
      holds = end_leaves numbers others c.args.heap.now c.args.procs.now c.args.tree.now plain.files next c.args.node c.args.flags led fifo [] c.requires.owners c.args.place.pid c.args.fd opened.now c.open_end.new.heap
          c.args.tree.now opened.have
          (stands_on c.args.heap.now c.open_end.new.heap c.args.tree.now next (one_more (holders others plain.files) c.args.node) c.open_end.ensures.stay led.stands);
    }

pub returns-clause-hold : goal.returns-clause-hold
returns-clause-hold c =
    let some = c.requires.led.0 in
    let flags = to_z-of_z w64 c.args.flags c.ranges.flags in
    let opened : HaveAnew some.numbers c.args.heap.now c.open_end.new.heap c.args.procs.now (end_opened some.files c.args.place.pid c.args.flags c.args.fd c.args.node) =
    subst (λ z. HaveAnew some.numbers c.args.heap.now c.open_end.new.heap c.args.procs.now (end_opened some.files c.args.place.pid z c.args.fd c.args.node)) flags
    (c.open_end.ensures.opened some.numbers some.files some.led.opened) in
    record {
      numbers = opened.now;
      others = some.others;
      files = end_opened some.files c.args.place.pid c.args.flags c.args.fd c.args.node;
      hold = end_leaves some.numbers some.others c.args.heap.now c.args.procs.now c.args.tree.now some.files some.next c.args.node c.args.flags some.led c.requires.led.1 [] c.requires.owners c.args.place.pid c.args.fd
          opened.now c.open_end.new.heap c.args.tree.now opened.have
          (stands_on c.args.heap.now c.open_end.new.heap c.args.tree.now some.next (one_more (holders some.others some.files) c.args.node) c.open_end.ensures.stay some.led.stands);
    }
