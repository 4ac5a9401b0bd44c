use Rattle.std.proofs.Common.{◌≡◌, ◌∙◌, ◌<◌, ap, eq-eqb, false, inl, inr, ne_eqb, not, refl, subst, sym, true, None, Some, w64}
use Rattle.std.proofs.lemmas.Bool.{cases_eq}
use Rattle.std.specs.Int.{cast_unsigned}
use Rattle.std.proofs.lemmas.Int.{to_z-of_z}
use Rattle.chunk_queue.specs.Moving.{would_wait}
use Rattle.kabi_types.specs.Arguments.{count_of}
use Rattle.posix_defs.specs.Machine.{blocks}
use Rattle.proc_numbers.specs.QueueEnds.{write_of}
use Rattle.proc_numbers.proofs.EndLemmas.{end_in, open_end}
use Rattle.proc_numbers.proofs.WriteCall.{asks_with, of_opened, write_asks, write_flows, write_nothing, write_sleeps, write_unmapped, node_flows}
use Rattle.proc_numbers.proofs.Remembering.{mapped_so}
use Rattle.proc_numbers.proofs.RightBytes.{moved_bytes}
use Rattle.proc_numbers.proofs.OpenedBy.{is_there}
use Rattle.proc_numbers.proofs.writing.write_waits.Goals as goal

pub returns-in_default : goal.returns-in_default
returns-in_default c = λ script numbers plain account stands.
    sym (ap blocks (write_asks script numbers plain c.args.place.pid c.args.on.now.fd c.args.addr c.args.n c.args.done
    ∙ asks_with script numbers plain c.args.place.pid c.args.on.now.fd c.args.addr c.args.n c.args.done _ c.writable.result None refl
    (c.writable.ensures.found c.args.heap.now c.args.procs.now c.args.place.pid numbers script plain (of_opened script numbers plain c.args.place.pid c.args.on.now.fd c.args.addr c.args.n c.args.done) c.requires.opened stands.opened) c.in_default.is))

pub returns-in_default-of : goal.returns-in_default-of
returns-in_default-of c = λ script numbers plain account stands.
    let opens = asks_with script numbers plain c.args.place.pid c.args.on.now.fd c.args.addr c.args.n c.args.done _ c.writable.result (Some c.in-Some.found) refl
    (c.writable.ensures.found c.args.heap.now c.args.procs.now c.args.place.pid numbers script plain (of_opened script numbers plain c.args.place.pid c.args.on.now.fd c.args.addr c.args.n c.args.done) c.requires.opened stands.opened) c.in-Some.is in
    node_flows script numbers plain c.args.place.pid c.args.on.now.fd c.args.addr c.args.n c.args.done c.in-Some.found (sym c.of.ensures ∙ c.in_default-of.is) opens

pub put_waits-requires-clause-there : goal.put_waits-requires-clause-there
put_waits-requires-clause-there c =
    end_in c.args.heap.now c.in-Some-of.queue c.requires.kept.owners (open_end c.args.heap.now c.in-Some.found.key c.in-Some.found.desc c.in-Some-of.queue c.requires.kept.owners (is_there c.args.heap.now c.args.procs.now c.args.place.pid c.args.on.now c.requires.opened c.in-Some.found c.in-Some.ensures.same) (sym c.of.ensures ∙ c.in-Some-of.is))

pub returns-then-not-put_waits : goal.returns-then-not-put_waits
returns-then-not-put_waits c = λ script numbers plain account stands.
    let heap = c.args.heap.now in
    let v = c.cast_unsigned-n.result in
    let right = moved_bytes c.args.addr c.args.n v c.requires.right
    (subst (λ z. v ≡ cast_unsigned w64 z) (to_z-of_z w64 c.args.n c.ranges.n) c.cast_unsigned-n.ensures) in
    let opens = asks_with script numbers plain c.args.place.pid c.args.on.now.fd c.args.addr c.args.n c.args.done _ c.writable.result (Some c.in-Some.found) refl
    (c.writable.ensures.found c.args.heap.now c.args.procs.now c.args.place.pid numbers script plain (of_opened script numbers plain c.args.place.pid c.args.on.now.fd c.args.addr c.args.n c.args.done) c.requires.opened stands.opened) c.in-Some.is in
    write_flows script numbers plain c.args.place.pid c.args.on.now.fd c.args.addr c.args.n c.args.done c.in-Some.found c.in-Some-of.queue (sym c.of.ensures ∙ c.in-Some-of.is) opens (count_of c.args.addr) v right.0 (λ some. refl)
    heap c.args.procs.now account stands c.requires.kept.owners (open_end c.args.heap.now c.in-Some.found.key c.in-Some.found.desc c.in-Some-of.queue c.requires.kept.owners (is_there c.args.heap.now c.args.procs.now c.args.place.pid c.args.on.now c.requires.opened c.in-Some.found c.in-Some.ensures.same) (sym c.of.ensures ∙ c.in-Some-of.is)) c.put_waits.result
    (λ behind stood. c.put_waits.ensures behind stood ∙ ap (λ m. would_wait (write_of c.in-Some-of.queue behind c.in-Some.found.desc.flags.nonblock v m)) c.saturating_sub-left.ensures) c.if-not-put_waits.true

pub returns-then-not-mapped : goal.returns-then-not-mapped
returns-then-not-mapped c = λ script numbers plain account stands.
    let heap = c.args.heap.now in
    let kept = c.args.procs.now in
    let v = c.cast_unsigned-n.result in
    let start = c.start_of-start.result in
    let right = moved_bytes c.args.addr c.args.n v c.requires.right
    (subst (λ z. v ≡ cast_unsigned w64 z) (to_z-of_z w64 c.args.n c.ranges.n) c.cast_unsigned-n.ensures) in
    let begins : 0 < v → start ≡ count_of c.args.addr = subst (λ z. 0 < v → start ≡ count_of z) (to_z-of_z w64 c.args.addr c.ranges.addr) c.start_of-start.ensures.start in
    let opens = asks_with script numbers plain c.args.place.pid c.args.on.now.fd c.args.addr c.args.n c.args.done _ c.writable.result (Some c.in-Some.found) refl
    (c.writable.ensures.found c.args.heap.now c.args.procs.now c.args.place.pid numbers script plain (of_opened script numbers plain c.args.place.pid c.args.on.now.fd c.args.addr c.args.n c.args.done) c.requires.opened stands.opened) c.in-Some.is in
    let tells = mapped_so heap kept plain.table c.args.place.pid c.space_of-space.result start v c.mapped.result false c.space_of-space.ensures stands.table c.mapped.ensures.memory c.if-not-mapped.true in
    sym (ap blocks (write_unmapped script numbers plain c.args.place.pid c.args.on.now.fd c.args.addr c.args.n c.args.done c.in-Some.found c.in-Some-of.queue (sym c.of.ensures ∙ c.in-Some-of.is) opens start v right.0 begins tells))

pub returns : goal.returns
returns c = λ script numbers plain account stands.
    let heap = c.args.heap.now in
    let kept = c.args.procs.now in
    let v = c.cast_unsigned-n.result in
    let start = c.start_of-start.result in
    let right = moved_bytes c.args.addr c.args.n v c.requires.right
    (subst (λ z. v ≡ cast_unsigned w64 z) (to_z-of_z w64 c.args.n c.ranges.n) c.cast_unsigned-n.ensures) in
    let begins : 0 < v → start ≡ count_of c.args.addr = subst (λ z. 0 < v → start ≡ count_of z) (to_z-of_z w64 c.args.addr c.ranges.addr) c.start_of-start.ensures.start in
    let opens = asks_with script numbers plain c.args.place.pid c.args.on.now.fd c.args.addr c.args.n c.args.done _ c.writable.result (Some c.in-Some.found) refl
    (c.writable.ensures.found c.args.heap.now c.args.procs.now c.args.place.pid numbers script plain (of_opened script numbers plain c.args.place.pid c.args.on.now.fd c.args.addr c.args.n c.args.done) c.requires.opened stands.opened) c.in-Some.is in
    let tells = mapped_so heap kept plain.table c.args.place.pid c.space_of-space.result start v c.mapped.result true c.space_of-space.ensures stands.table c.mapped.ensures.memory c.if-not-mapped.false in
    elim (cases_eq v 0) [
      | inl none ↦ ap not (eq-eqb v 0 none) ∙ sym (ap blocks (write_nothing script numbers plain c.args.place.pid c.args.on.now.fd c.args.addr c.args.n c.args.done c.in-Some.found c.in-Some-of.queue (sym c.of.ensures ∙ c.in-Some-of.is) opens start v right.0 begins tells none))
      | inr some ↦ ap not (ne_eqb v 0 some) ∙ sym c.if-not-put_waits.false
          ∙ write_sleeps script numbers plain c.args.place.pid c.args.on.now.fd c.args.addr c.args.n c.args.done c.in-Some.found c.in-Some-of.queue (sym c.of.ensures ∙ c.in-Some-of.is) opens start v right.0 begins heap kept account stands c.requires.kept.owners (open_end c.args.heap.now c.in-Some.found.key c.in-Some.found.desc c.in-Some-of.queue c.requires.kept.owners (is_there c.args.heap.now c.args.procs.now c.args.place.pid c.args.on.now c.requires.opened c.in-Some.found c.in-Some.ensures.same) (sym c.of.ensures ∙ c.in-Some-of.is)) tells some c.put_waits.result
          (λ behind stood. c.put_waits.ensures behind stood ∙ ap (λ m. would_wait (write_of c.in-Some-of.queue behind c.in-Some.found.desc.flags.nonblock v m)) c.saturating_sub-left.ensures)
    ]
