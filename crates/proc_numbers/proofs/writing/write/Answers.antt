use Rattle.std.proofs.Common.{◌≡◌, ◌∙◌, ◌+◌, ◌-◌, ◌<◌, false, pos, refl, subst, sym, true, None, Some, w64}
use Rattle.std.specs.Int.{cast_unsigned}
use Rattle.std.proofs.lemmas.Int.{to_z-of_z}
use Rattle.kabi_types.specs.Arguments.{count_of}
use Rattle.kabi_types.specs.declared.calls.Call.TheVariants as call
use Rattle.kabi_types.specs.declared.errnos.Errno.TheVariants.{EBADF, EFAULT, ENOTCONN}
use Rattle.kabi_types.specs.declared.replies.Reply.TheVariants.{Fail, Val}
use Rattle.posix_defs.specs.Memory.{loaded}
use Rattle.proc_table.specs.Procs.{memory_at}
use Rattle.proc_table.proofs.MemoryLemmas.{memory_at-stands}
use Rattle.proc_numbers.specs.PipeMoving.{moved_in}
use Rattle.proc_numbers.specs.QueueEnds.{PutsIn, write_of}
use Rattle.proc_numbers.proofs.EndLemmas.{beside_put, end_in, kept_put, only_queue, open_end}
use Rattle.proc_numbers.proofs.Leading.{leads_over}
use Rattle.proc_numbers.proofs.WriteCall.{asks_with, of_opened, write_asks, write_leads, write_nothing, write_unlinked, write_unmapped}
use Rattle.proc_numbers.proofs.Remembering.{mapped_so, memory_is}
use Rattle.proc_numbers.proofs.RightBytes.{moved_bytes}
use Rattle.proc_numbers.proofs.OpenedBy.{is_named, is_there}
use Rattle.proc_numbers.proofs.writing.write.Goals as goal

pub returns-in_default-clause-leads : goal.returns-in_default-clause-leads
returns-in_default-clause-leads c = λ script numbers plain account stands.
    leads_over script numbers c.args.heap.now c.args.procs.now plain account c.args.place.pid (call.Write c.args.on.now.fd c.args.addr c.args.n c.args.done) c.requires.kept stands _ (Fail EBADF)
    (write_asks script numbers plain c.args.place.pid c.args.on.now.fd c.args.addr c.args.n c.args.done
    ∙ asks_with script numbers plain c.args.place.pid c.args.on.now.fd c.args.addr c.args.n c.args.done _ c.writable.result None refl
    (c.writable.ensures.found c.args.heap.now c.args.procs.now c.args.place.pid numbers script plain (of_opened script numbers plain c.args.place.pid c.args.on.now.fd c.args.addr c.args.n c.args.done) c.requires.opened stands.opened) c.in_default.is) refl

pub unreachable-requires : goal.unreachable-requires
unreachable-requires c =
    only_queue c.args.heap.now c.args.procs.now c.args.place.pid c.args.on.now.fd c.in-Some.found c.requires.off
    (is_named c.args.heap.now c.args.procs.now c.args.place.pid c.args.on.now c.requires.opened c.in-Some.found c.in-Some.ensures.same) (is_there c.args.heap.now c.args.procs.now c.args.place.pid c.args.on.now c.requires.opened c.in-Some.found c.in-Some.ensures.same) (sym c.of.ensures ∙ c.in_default-of.is)

pub returns-then-not-mapped-clause-leads : goal.returns-then-not-mapped-clause-leads
returns-then-not-mapped-clause-leads c = λ script numbers plain account stands.
    let heap = c.args.heap.now in
    let kept = c.args.procs.now in
    let v = c.cast_unsigned-n.result in
    let start = c.start_of-start.result in
    let right = moved_bytes c.args.addr c.args.n v c.requires.right
    (subst (λ z. v ≡ cast_unsigned w64 z) (to_z-of_z w64 c.args.n c.ranges.n) c.cast_unsigned-n.ensures) in
    let begins : 0 < v → start ≡ count_of c.args.addr = subst (λ z. 0 < v → start ≡ count_of z) (to_z-of_z w64 c.args.addr c.ranges.addr) c.start_of-start.ensures.start in
    let opens = asks_with script numbers plain c.args.place.pid c.args.on.now.fd c.args.addr c.args.n c.args.done _ c.writable.result (Some c.in-Some.found) refl
    (c.writable.ensures.found c.args.heap.now c.args.procs.now c.args.place.pid numbers script plain (of_opened script numbers plain c.args.place.pid c.args.on.now.fd c.args.addr c.args.n c.args.done) c.requires.opened stands.opened) c.in-Some.is in
    let tells = mapped_so heap kept plain.table c.args.place.pid c.space_of-space.result start v c.mapped.result false c.space_of-space.ensures stands.table c.mapped.ensures.memory c.if-not-mapped.true in
    leads_over script numbers c.args.heap.now c.args.procs.now plain account c.args.place.pid (call.Write c.args.on.now.fd c.args.addr c.args.n c.args.done) c.requires.kept stands _ (Fail EFAULT)
    (write_unmapped script numbers plain c.args.place.pid c.args.on.now.fd c.args.addr c.args.n c.args.done c.in-Some.found c.in-Some-of.queue (sym c.of.ensures ∙ c.in-Some-of.is) opens start v right.0 begins tells) refl

pub returns-then-n-eq0-clause-leads : goal.returns-then-n-eq0-clause-leads
returns-then-n-eq0-clause-leads c = λ script numbers plain account stands.
    let heap = c.args.heap.now in
    let kept = c.args.procs.now in
    let v = c.cast_unsigned-n.result in
    let start = c.start_of-start.result in
    let right = moved_bytes c.args.addr c.args.n v c.requires.right
    (subst (λ z. v ≡ cast_unsigned w64 z) (to_z-of_z w64 c.args.n c.ranges.n) c.cast_unsigned-n.ensures) in
    let begins : 0 < v → start ≡ count_of c.args.addr = subst (λ z. 0 < v → start ≡ count_of z) (to_z-of_z w64 c.args.addr c.ranges.addr) c.start_of-start.ensures.start in
    let opens = asks_with script numbers plain c.args.place.pid c.args.on.now.fd c.args.addr c.args.n c.args.done _ c.writable.result (Some c.in-Some.found) refl
    (c.writable.ensures.found c.args.heap.now c.args.procs.now c.args.place.pid numbers script plain (of_opened script numbers plain c.args.place.pid c.args.on.now.fd c.args.addr c.args.n c.args.done) c.requires.opened stands.opened) c.in-Some.is in
    let tells = mapped_so heap kept plain.table c.args.place.pid c.space_of-space.result start v c.mapped.result true c.space_of-space.ensures stands.table c.mapped.ensures.memory c.if-not-mapped.false in
    leads_over script numbers c.args.heap.now c.args.procs.now plain account c.args.place.pid (call.Write c.args.on.now.fd c.args.addr c.args.n c.args.done) c.requires.kept stands _ (Val (pos 0))
    (write_nothing script numbers plain c.args.place.pid c.args.on.now.fd c.args.addr c.args.n c.args.done c.in-Some.found c.in-Some-of.queue (sym c.of.ensures ∙ c.in-Some-of.is) opens start v right.0 begins tells c.if-n-eq0.true) refl

pub is_linked-requires : goal.is_linked-requires
is_linked-requires c =
    end_in c.args.heap.now c.in-Some-of.queue c.requires.kept.owners (open_end c.args.heap.now c.in-Some.found.key c.in-Some.found.desc c.in-Some-of.queue c.requires.kept.owners (is_there c.args.heap.now c.args.procs.now c.args.place.pid c.args.on.now c.requires.opened c.in-Some.found c.in-Some.ensures.same) (sym c.of.ensures ∙ c.in-Some-of.is))

pub returns-then-not-is_linked-clause-leads : goal.returns-then-not-is_linked-clause-leads
returns-then-not-is_linked-clause-leads c = λ script numbers plain account stands.
    let heap = c.args.heap.now in
    let kept = c.args.procs.now in
    let v = c.cast_unsigned-n.result in
    let start = c.start_of-start.result in
    let right = moved_bytes c.args.addr c.args.n v c.requires.right
    (subst (λ z. v ≡ cast_unsigned w64 z) (to_z-of_z w64 c.args.n c.ranges.n) c.cast_unsigned-n.ensures) in
    let begins : 0 < v → start ≡ count_of c.args.addr = subst (λ z. 0 < v → start ≡ count_of z) (to_z-of_z w64 c.args.addr c.ranges.addr) c.start_of-start.ensures.start in
    let opens = asks_with script numbers plain c.args.place.pid c.args.on.now.fd c.args.addr c.args.n c.args.done _ c.writable.result (Some c.in-Some.found) refl
    (c.writable.ensures.found c.args.heap.now c.args.procs.now c.args.place.pid numbers script plain (of_opened script numbers plain c.args.place.pid c.args.on.now.fd c.args.addr c.args.n c.args.done) c.requires.opened stands.opened) c.in-Some.is in
    let tells = mapped_so heap kept plain.table c.args.place.pid c.space_of-space.result start v c.mapped.result true c.space_of-space.ensures stands.table c.mapped.ensures.memory c.if-not-mapped.false in
    leads_over script numbers c.args.heap.now c.args.procs.now plain account c.args.place.pid (call.Write c.args.on.now.fd c.args.addr c.args.n c.args.done) c.requires.kept stands _ (Fail ENOTCONN)
    (write_unlinked script numbers plain c.args.place.pid c.args.on.now.fd c.args.addr c.args.n c.args.done c.in-Some.found c.in-Some-of.queue (sym c.of.ensures ∙ c.in-Some-of.is) opens start v right.0 begins heap kept account stands c.requires.kept.owners (open_end c.args.heap.now c.in-Some.found.key c.in-Some.found.desc c.in-Some-of.queue c.requires.kept.owners (is_there c.args.heap.now c.args.procs.now c.args.place.pid c.args.on.now c.requires.opened c.in-Some.found c.in-Some.ensures.same) (sym c.of.ensures ∙ c.in-Some-of.is)) tells c.if-n-eq0.false c.is_linked.result c.is_linked.ensures c.if-not-is_linked.true) refl

pub put_from-requires-clause-there : goal.put_from-requires-clause-there
put_from-requires-clause-there c =
    end_in c.args.heap.now c.in-Some-of.queue c.requires.kept.owners (open_end c.args.heap.now c.in-Some.found.key c.in-Some.found.desc c.in-Some-of.queue c.requires.kept.owners (is_there c.args.heap.now c.args.procs.now c.args.place.pid c.args.on.now c.requires.opened c.in-Some.found c.in-Some.ensures.same) (sym c.of.ensures ∙ c.in-Some-of.is))

pub returns-clause-leads : goal.returns-clause-leads
returns-clause-leads c = λ script numbers plain account stands.
    let heap = c.args.heap.now in
    let kept = c.args.procs.now in
    let v = c.cast_unsigned-n.result in
    let start = c.start_of-start.result in
    let right = moved_bytes c.args.addr c.args.n v c.requires.right
    (subst (λ z. v ≡ cast_unsigned w64 z) (to_z-of_z w64 c.args.n c.ranges.n) c.cast_unsigned-n.ensures) in
    let begins : 0 < v → start ≡ count_of c.args.addr = subst (λ z. 0 < v → start ≡ count_of z) (to_z-of_z w64 c.args.addr c.ranges.addr) c.start_of-start.ensures.start in
    let opens = asks_with script numbers plain c.args.place.pid c.args.on.now.fd c.args.addr c.args.n c.args.done _ c.writable.result (Some c.in-Some.found) refl
    (c.writable.ensures.found c.args.heap.now c.args.procs.now c.args.place.pid numbers script plain (of_opened script numbers plain c.args.place.pid c.args.on.now.fd c.args.addr c.args.n c.args.done) c.requires.opened stands.opened) c.in-Some.is in
    let tells = mapped_so heap kept plain.table c.args.place.pid c.space_of-space.result start v c.mapped.result true c.space_of-space.ensures stands.table c.mapped.ensures.memory c.if-not-mapped.false in
    write_leads script numbers plain c.args.place.pid c.args.on.now.fd c.args.addr c.args.n c.args.done c.in-Some.found c.in-Some-of.queue (sym c.of.ensures ∙ c.in-Some-of.is) opens start v right.0 begins
    heap kept account stands c.requires.kept.owners (open_end c.args.heap.now c.in-Some.found.key c.in-Some.found.desc c.in-Some-of.queue c.requires.kept.owners (is_there c.args.heap.now c.args.procs.now c.args.place.pid c.args.on.now c.requires.opened c.in-Some.found c.in-Some.ensures.same) (sym c.of.ensures ∙ c.in-Some-of.is))
    tells c.if-n-eq0.false c.is_linked.result c.is_linked.ensures c.if-not-is_linked.false c.put_from.new.heap c.requires.kept c.put_from.ensures.leaves c.put_from.result c.put_from.ensures.told
    (λ behind stood. subst (λ m. PutsIn heap c.put_from.new.heap c.in-Some-of.queue behind (loaded m (start + c.args.done) (v - c.args.done)) (moved_in (write_of c.in-Some-of.queue behind c.in-Some.found.desc.flags.nonblock v (v - c.args.done))))
    (sym (memory_is heap kept plain.table c.args.place.pid c.space_of-space.result c.space_of-space.ensures stands.table))
    (c.put_from.ensures.puts behind (memory_at heap c.space_of-space.result) stood (memory_at-stands heap c.space_of-space.result)))
    c.put_from.ensures.refused

pub returns-clause-kept : goal.returns-clause-kept
returns-clause-kept c =
    let v = c.cast_unsigned-n.result in
    kept_put c.args.heap.now c.put_from.new.heap c.args.procs.now c.in-Some-of.queue (loaded (memory_at c.args.heap.now c.space_of-space.result) (c.start_of-start.result + c.args.done) (v - c.args.done))
    c.in-Some.found.desc.flags.nonblock v (v - c.args.done) c.requires.kept (open_end c.args.heap.now c.in-Some.found.key c.in-Some.found.desc c.in-Some-of.queue c.requires.kept.owners (is_there c.args.heap.now c.args.procs.now c.args.place.pid c.args.on.now c.requires.opened c.in-Some.found c.in-Some.ensures.same) (sym c.of.ensures ∙ c.in-Some-of.is)) c.put_from.ensures.leaves
    (λ behind stood. c.put_from.ensures.puts behind (memory_at c.args.heap.now c.space_of-space.result) stood (memory_at-stands c.args.heap.now c.space_of-space.result))

pub returns-clause-beside : goal.returns-clause-beside
returns-clause-beside c =
    beside_put c.args.heap.now c.put_from.new.heap c.in-Some-of.queue c.put_from.ensures.leaves

pub returns-in_default-clause-links : goal.returns-in_default-clause-links
returns-in_default-clause-links c = λ key. refl

pub returns-then-not-mapped-clause-links : goal.returns-then-not-mapped-clause-links
returns-then-not-mapped-clause-links c = λ key. refl

pub returns-then-n-eq0-clause-links : goal.returns-then-n-eq0-clause-links
returns-then-n-eq0-clause-links c = λ key. refl

pub returns-then-not-is_linked-clause-links : goal.returns-then-not-is_linked-clause-links
returns-then-not-is_linked-clause-links c = λ key. refl

pub returns-clause-links : goal.returns-clause-links
returns-clause-links c = c.put_from.ensures.links
