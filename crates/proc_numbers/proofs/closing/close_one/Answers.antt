use Rattle.std.proofs.Common.{◌≡◌, ◌∙◌, List, [], ◌∷◌, Option, Some, None, ap, refl, subst, sym, arith}
use Rattle.std.specs.Prelude.{slice_index_or}
use Rattle.kheap_slabs.specs.Objects.{object}
use Rattle.kheap_slabs.specs.declared.objects.Descriptor.{Descriptor as HeldDescriptor}
use Rattle.kheap_slabs.specs.declared.objects.Desc.{Desc}
use Rattle.kheap_slabs.specs.Heap.{Heap}
use Rattle.kheap_slabs.specs.Leaves.{LeavesChange, numbers_by}
use Rattle.kheap_laws.proofs.PaidLemmas.{TakesNothing-trans}
use Rattle.open_laws.specs.Described.{descs_left, node_left}
use Rattle.open_laws.specs.Owned.{HasItsOwners, all_namings}
use Rattle.open_laws.proofs.RelinkedLemmas.{held_relinked, relinked_descs}
use Rattle.fifo_nodes.proofs.ChainLemmas.{chain_kept}
use Rattle.pipe_ends.specs.Links.{link_at}
use Rattle.desc_table.specs.Numbered.{names_one}
use Rattle.posix_defs.specs.Files.State.{with_open}
use Rattle.proc_table.specs.Procs.{numbers_in}
use Rattle.proc_numbers.specs.Having.{OpensNoNode, node_closed, node_dropped, places_in}
use Rattle.proc_numbers.specs.Naming.{named_at}
use Rattle.proc_numbers.proofs.Droppable.{is_named}
use Rattle.proc_numbers.proofs.Fronts.{queues_dropped, queues_relinked, queues_same, queues_then}
use Rattle.proc_numbers.proofs.NumberCloses.{desc_between, droppable_between, have_closed, left_opens, listed_mid, listed_on, opened_mid, owners_mid, some_held}
use Rattle.proc_numbers.proofs.NumberOpens.{was_at}
use Rattle.proc_numbers.proofs.closing.close_one.Goals as goal

pub close_desc-requires-clause-owned : goal.close_desc-requires-clause-owned
close_desc-requires-clause-owned c =
    let opened = some_held (named_at c.args.heap.now c.args.procs.now c.args.place.pid c.args.fd) c.requires.is_open in
    let is : named_at c.args.heap.now c.args.procs.now c.args.place.pid c.args.fd ≡ Some (record { desc = c.clear_number-desc.result; close_on_exec = opened.0.close_on_exec }) =
    opened.1 ∙ ap (λ key. Some (record { desc = key; close_on_exec = opened.0.close_on_exec })) (sym (c.clear_number-desc.ensures.named opened.0 opened.1)) in
    let held : HeldDescriptor = record { desc = c.clear_number-desc.result; close_on_exec = opened.0.close_on_exec } in
    let at = sym (was_at c.args.heap.now c.clear_number-desc.new.heap c.args.procs.now c.args.place.pid c.args.fd None c.requires.listed c.clear_number-desc.ensures.turns) ∙ is in
    let owners : HasItsOwners c.clear_number-desc.new.heap (c.clear_number-desc.result ∷ []) = owners_mid c.args.heap.now c.clear_number-desc.new.heap c.args.procs.now c.args.place.pid c.args.fd held c.requires.listed c.clear_number-desc.ensures.turns at c.requires.owners in
    owners.objects

pub close_desc-requires-clause-there : goal.close_desc-requires-clause-there
close_desc-requires-clause-there c =
    let opened = some_held (named_at c.args.heap.now c.args.procs.now c.args.place.pid c.args.fd) c.requires.is_open in
    let is : named_at c.args.heap.now c.args.procs.now c.args.place.pid c.args.fd ≡ Some (record { desc = c.clear_number-desc.result; close_on_exec = opened.0.close_on_exec }) =
    opened.1 ∙ ap (λ key. Some (record { desc = key; close_on_exec = opened.0.close_on_exec })) (sym (c.clear_number-desc.ensures.named opened.0 opened.1)) in
    let held : HeldDescriptor = record { desc = c.clear_number-desc.result; close_on_exec = opened.0.close_on_exec } in
    let at = sym (was_at c.args.heap.now c.clear_number-desc.new.heap c.args.procs.now c.args.place.pid c.args.fd None c.requires.listed c.clear_number-desc.ensures.turns) ∙ is in
    droppable_between c.args.heap.now c.clear_number-desc.new.heap c.args.procs.now c.args.place.pid c.args.fd held c.requires.listed c.clear_number-desc.ensures.turns at c.requires.owners

pub returns-clause-closed : goal.returns-clause-closed
returns-clause-closed c =
    λ numbers files have.
    let opened = some_held (named_at c.args.heap.now c.args.procs.now c.args.place.pid c.args.fd) c.requires.is_open in
    let is : named_at c.args.heap.now c.args.procs.now c.args.place.pid c.args.fd ≡ Some (record { desc = c.clear_number-desc.result; close_on_exec = opened.0.close_on_exec }) =
    opened.1 ∙ ap (λ key. Some (record { desc = key; close_on_exec = opened.0.close_on_exec })) (sym (c.clear_number-desc.ensures.named opened.0 opened.1)) in
    let held : HeldDescriptor = record { desc = c.clear_number-desc.result; close_on_exec = opened.0.close_on_exec } in
    let at = sym (was_at c.args.heap.now c.clear_number-desc.new.heap c.args.procs.now c.args.place.pid c.args.fd None c.requires.listed c.clear_number-desc.ensures.turns) ∙ is in
    have_closed c.args.heap.now c.clear_number-desc.new.heap c.args.procs.now c.args.place.pid c.args.fd held c.requires.listed c.clear_number-desc.ensures.turns at numbers files have c.requires.owners c.close_desc.new.heap
    (ap (λ (h : Heap). h.procs) c.close_desc.ensures.kept) (ap (λ (h : Heap). h.leaves) c.close_desc.ensures.kept)
    (c.close_desc.ensures.opened numbers have.list (with_open files c.args.place.pid c.args.fd None) (opened_mid c.args.heap.now c.clear_number-desc.new.heap c.args.procs.now c.args.place.pid c.args.fd held c.requires.listed c.clear_number-desc.ensures.turns at numbers files have c.requires.owners))

pub returns-clause-listed : goal.returns-clause-listed
returns-clause-listed c =
    let opened = some_held (named_at c.args.heap.now c.args.procs.now c.args.place.pid c.args.fd) c.requires.is_open in
    let is : named_at c.args.heap.now c.args.procs.now c.args.place.pid c.args.fd ≡ Some (record { desc = c.clear_number-desc.result; close_on_exec = opened.0.close_on_exec }) =
    opened.1 ∙ ap (λ key. Some (record { desc = key; close_on_exec = opened.0.close_on_exec })) (sym (c.clear_number-desc.ensures.named opened.0 opened.1)) in
    let held : HeldDescriptor = record { desc = c.clear_number-desc.result; close_on_exec = opened.0.close_on_exec } in
    let at = sym (was_at c.args.heap.now c.clear_number-desc.new.heap c.args.procs.now c.args.place.pid c.args.fd None c.requires.listed c.clear_number-desc.ensures.turns) ∙ is in
    listed_on c.clear_number-desc.new.heap c.close_desc.new.heap c.args.procs.now (ap (λ (h : Heap). h.procs) c.close_desc.ensures.kept) (ap (λ (h : Heap). h.leaves) c.close_desc.ensures.kept)
    (listed_mid c.args.heap.now c.clear_number-desc.new.heap c.args.procs.now c.args.place.pid c.args.fd held c.requires.listed c.clear_number-desc.ensures.turns at)

pub returns-clause-owners : goal.returns-clause-owners
returns-clause-owners c =
    let opened = some_held (named_at c.args.heap.now c.args.procs.now c.args.place.pid c.args.fd) c.requires.is_open in
    let is : named_at c.args.heap.now c.args.procs.now c.args.place.pid c.args.fd ≡ Some (record { desc = c.clear_number-desc.result; close_on_exec = opened.0.close_on_exec }) =
    opened.1 ∙ ap (λ key. Some (record { desc = key; close_on_exec = opened.0.close_on_exec })) (sym (c.clear_number-desc.ensures.named opened.0 opened.1)) in
    let held : HeldDescriptor = record { desc = c.clear_number-desc.result; close_on_exec = opened.0.close_on_exec } in
    let at = sym (was_at c.args.heap.now c.clear_number-desc.new.heap c.args.procs.now c.args.place.pid c.args.fd None c.requires.listed c.clear_number-desc.ensures.turns) ∙ is in
    c.close_desc.ensures.owners [] (owners_mid c.args.heap.now c.clear_number-desc.new.heap c.args.procs.now c.args.place.pid c.args.fd held c.requires.listed c.clear_number-desc.ensures.turns at c.requires.owners)

pub returns-clause-closes : goal.returns-clause-closes
returns-clause-closes c =
    let turns = c.clear_number-desc.ensures.turns in
    let both = c.close_desc.ensures.kept ∙ ap (λ (h : Heap). record h { descs = c.close_desc.new.heap.descs; pipes = c.close_desc.new.heap.pipes; chunks = c.close_desc.new.heap.chunks; socks = c.close_desc.new.heap.socks }) turns.after in
    let procs : c.close_desc.new.heap.procs ≡ c.clear_number-desc.new.heap.procs = ap (λ (h : Heap). h.procs) c.close_desc.ensures.kept in
    let leaves : c.close_desc.new.heap.leaves ≡ c.clear_number-desc.new.heap.leaves = ap (λ (h : Heap). h.leaves) c.close_desc.ensures.kept in
    record {
      key = turns.key;
      proc = turns.proc;
      now = turns.now;
      turns = record {
        found = turns.turns.found;
        there = turns.turns.there;
        same = turns.turns.same;
        procs = procs ∙ turns.turns.procs;
        leaves = subst (λ l. LeavesChange c.args.heap.now.leaves l turns.proc.leaves turns.now.leaves) (sym leaves) turns.turns.leaves;
      };
      numbers = ap (λ l. numbers_by l turns.now.descriptors turns.now.leaves) leaves ∙ turns.numbers;
      namings = λ other.
          let moved = turns.namings other in
          let none : names_one other None ≡ 0 = refl in
          let same = ap (λ (h : Heap). all_namings h other) c.close_desc.ensures.kept in
          omega (arith, moved, none, same);
      beside =
          subst (λ (h : Heap). h ≡ record c.args.heap.now { procs = h.procs; leaves = h.leaves; descs = h.descs; pipes = h.pipes; chunks = h.chunks; socks = h.socks; high = h.high }) (sym both) refl
          ∙ ap (λ n. record c.args.heap.now { procs = c.close_desc.new.heap.procs; leaves = c.close_desc.new.heap.leaves; descs = c.close_desc.new.heap.descs; pipes = c.close_desc.new.heap.pipes; chunks = c.close_desc.new.heap.chunks; socks = c.close_desc.new.heap.socks; high = n })
          (ap (λ (h : Heap). h.high) c.close_desc.ensures.kept ∙ c.clear_number-desc.ensures.takes.high);
    }

pub returns-clause-node : goal.returns-clause-node
returns-clause-node c =
    λ proc found.
    let opened = some_held (named_at c.args.heap.now c.args.procs.now c.args.place.pid c.args.fd) c.requires.is_open in
    let is : named_at c.args.heap.now c.args.procs.now c.args.place.pid c.args.fd ≡ Some (record { desc = c.clear_number-desc.result; close_on_exec = opened.0.close_on_exec }) =
    opened.1 ∙ ap (λ key. Some (record { desc = key; close_on_exec = opened.0.close_on_exec })) (sym (c.clear_number-desc.ensures.named opened.0 opened.1)) in
    let held : HeldDescriptor = record { desc = c.clear_number-desc.result; close_on_exec = opened.0.close_on_exec } in
    let at = sym (was_at c.args.heap.now c.clear_number-desc.new.heap c.args.procs.now c.args.place.pid c.args.fd None c.requires.listed c.clear_number-desc.ensures.turns) ∙ is in
    let desc = desc_between c.args.heap.now c.clear_number-desc.new.heap c.args.procs.now c.args.place.pid c.args.fd held c.requires.listed c.clear_number-desc.ensures.turns at c.requires.owners in
    let slot : slice_index_or (numbers_in c.args.heap.now proc) c.args.fd None ≡ Some held = sym (ap (λ o. slice_index_or (places_in (numbers_in c.args.heap.now) o) c.args.fd None) found) ∙ is in
    let same : object c.args.heap.now.descs c.clear_number-desc.result ≡ Some desc.0 = sym (ap (λ (h : Heap). object h.descs c.clear_number-desc.result) c.clear_number-desc.ensures.turns.after) ∙ desc.1 in
    let pipes = ap (λ (h : Heap). h.pipes) c.clear_number-desc.ensures.turns.after in
    c.close_desc.ensures.node desc.0 desc.1
    ∙ (ap (λ p. node_left p desc.0) pipes ∙ sym (ap (node_closed c.args.heap.now) slot ∙ ap (node_dropped c.args.heap.now.pipes) same))

pub returns-clause-takes : goal.returns-clause-takes
returns-clause-takes c =
    TakesNothing-trans c.args.heap.now c.clear_number-desc.new.heap c.close_desc.new.heap c.clear_number-desc.ensures.takes c.close_desc.ensures.takes

pub returns-clause-nodes : goal.returns-clause-nodes
returns-clause-nodes c =
    λ none.
    let opened = some_held (named_at c.args.heap.now c.args.procs.now c.args.place.pid c.args.fd) c.requires.is_open in
    let is : named_at c.args.heap.now c.args.procs.now c.args.place.pid c.args.fd ≡ Some (record { desc = c.clear_number-desc.result; close_on_exec = opened.0.close_on_exec }) =
    opened.1 ∙ ap (λ key. Some (record { desc = key; close_on_exec = opened.0.close_on_exec })) (sym (c.clear_number-desc.ensures.named opened.0 opened.1)) in
    let held : HeldDescriptor = record { desc = c.clear_number-desc.result; close_on_exec = opened.0.close_on_exec } in
    let at = sym (was_at c.args.heap.now c.clear_number-desc.new.heap c.args.procs.now c.args.place.pid c.args.fd None c.requires.listed c.clear_number-desc.ensures.turns) ∙ is in
    let desc = desc_between c.args.heap.now c.clear_number-desc.new.heap c.args.procs.now c.args.place.pid c.args.fd held c.requires.listed c.clear_number-desc.ensures.turns at c.requires.owners in
    let drops = c.close_desc.ensures.drops desc.0 desc.1 in
    let mid = relinked_descs c.clear_number-desc.new.heap drops.mid drops.relinked in
    left_opens c.clear_number-desc.new.heap.descs c.close_desc.new.heap.descs c.clear_number-desc.result desc.0 desc.1 (drops.drops.descs ∙ ap (λ d. descs_left d c.clear_number-desc.result desc.0) mid) (subst (λ (d : List (Option Desc)). OpensNoNode d) (sym (ap (λ (h : Heap). h.descs) c.clear_number-desc.ensures.turns.after)) none)

pub returns-clause-queues : goal.returns-clause-queues
returns-clause-queues c =
    let opened = some_held (named_at c.args.heap.now c.args.procs.now c.args.place.pid c.args.fd) c.requires.is_open in
    let is : named_at c.args.heap.now c.args.procs.now c.args.place.pid c.args.fd ≡ Some (record { desc = c.clear_number-desc.result; close_on_exec = opened.0.close_on_exec }) =
    opened.1 ∙ ap (λ key. Some (record { desc = key; close_on_exec = opened.0.close_on_exec })) (sym (c.clear_number-desc.ensures.named opened.0 opened.1)) in
    let held : HeldDescriptor = record { desc = c.clear_number-desc.result; close_on_exec = opened.0.close_on_exec } in
    let at = sym (was_at c.args.heap.now c.clear_number-desc.new.heap c.args.procs.now c.args.place.pid c.args.fd None c.requires.listed c.clear_number-desc.ensures.turns) ∙ is in
    let owners = owners_mid c.args.heap.now c.clear_number-desc.new.heap c.args.procs.now c.args.place.pid c.args.fd held c.requires.listed c.clear_number-desc.ensures.turns at c.requires.owners in
    let desc = desc_between c.args.heap.now c.clear_number-desc.new.heap c.args.procs.now c.args.place.pid c.args.fd held c.requires.listed c.clear_number-desc.ensures.turns at c.requires.owners in
    queues_then c.args.heap.now c.clear_number-desc.new.heap c.close_desc.new.heap (queues_same c.args.heap.now c.clear_number-desc.new.heap (ap (λ (h : Heap). h.pipes) c.clear_number-desc.ensures.turns.after) (ap (λ (h : Heap). h.socks) c.clear_number-desc.ensures.turns.after))
    (let drops = c.close_desc.ensures.drops desc.0 desc.1 in
    queues_then c.clear_number-desc.new.heap drops.mid c.close_desc.new.heap (queues_relinked c.clear_number-desc.new.heap drops.mid drops.relinked)
    (queues_dropped drops.mid c.close_desc.new.heap c.clear_number-desc.result desc.0 (ap (λ d. object d c.clear_number-desc.result) (relinked_descs c.clear_number-desc.new.heap drops.mid drops.relinked) ∙ desc.1)
    (is_named c.clear_number-desc.new.heap _ owners c.clear_number-desc.result desc.0 desc.1)
    (held_relinked c.clear_number-desc.new.heap drops.mid drops.relinked owners.held) drops.drops))

pub close_desc-requires-clause-chain : goal.close_desc-requires-clause-chain
close_desc-requires-clause-chain c =
    chain_kept c.args.heap.now c.clear_number-desc.new.heap c.args.fifos.now (λ key. ap (λ (h : Heap). link_at h key) c.clear_number-desc.ensures.turns.after) c.requires.chain
