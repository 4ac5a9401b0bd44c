use Rattle.std.proofs.Common.{◌≡◌, ◌∙◌, ◌<◌, false, pos, refl, subst, sym, true, None, Some, w64}
use Rattle.std.specs.Int.{cast_unsigned}
use Rattle.std.proofs.lemmas.Int.{to_z-of_z}
use Rattle.kabi_types.specs.Arguments.{count_of}
use Rattle.kabi_types.specs.declared.calls.Call.TheVariants as call
use Rattle.kabi_types.specs.declared.errnos.Errno.TheVariants.{EBADF, EFAULT}
use Rattle.kabi_types.specs.declared.replies.Reply.TheVariants.{Fail, Val}
use Rattle.proc_numbers.proofs.EndLemmas.{end_in, kept_taken, only_queue, open_end}
use Rattle.proc_numbers.proofs.Leading.{leads_over}
use Rattle.proc_numbers.proofs.ReadCall.{asks_with, of_opened, read_asks, read_leads, read_nothing, read_unmapped}
use Rattle.proc_numbers.proofs.Remembering.{mapped_so}
use Rattle.proc_numbers.proofs.RightBytes.{moved_bytes}
use Rattle.proc_numbers.proofs.OpenedBy.{is_named, is_there}
use Rattle.proc_numbers.proofs.reading.read.Goals as goal

pub returns-in_default-clause-leads : goal.returns-in_default-clause-leads
returns-in_default-clause-leads c = λ script numbers plain account stands.
    leads_over script numbers c.args.heap.now c.args.procs.now plain account c.args.place.pid (call.Read c.args.on.now.fd c.args.addr c.args.n) c.requires.kept stands _ (Fail EBADF)
    (read_asks script numbers plain c.args.place.pid c.args.on.now.fd c.args.addr c.args.n
    ∙ asks_with script numbers plain c.args.place.pid c.args.on.now.fd c.args.addr c.args.n _ c.readable.result None refl
    (c.readable.ensures.found c.args.heap.now c.args.procs.now c.args.place.pid numbers script plain (of_opened script numbers plain c.args.place.pid c.args.on.now.fd c.args.addr c.args.n) c.requires.opened stands.opened) c.in_default.is) refl

pub unreachable-requires : goal.unreachable-requires
unreachable-requires c =
    only_queue c.args.heap.now c.args.procs.now c.args.place.pid c.args.on.now.fd c.in-Some.found c.requires.off
    (is_named c.args.heap.now c.args.procs.now c.args.place.pid c.args.on.now c.requires.opened c.in-Some.found c.in-Some.ensures.same) (is_there c.args.heap.now c.args.procs.now c.args.place.pid c.args.on.now c.requires.opened c.in-Some.found c.in-Some.ensures.same) (sym c.of.ensures ∙ c.in_default-of.is)

pub returns-then-not-mapped-clause-leads : goal.returns-then-not-mapped-clause-leads
returns-then-not-mapped-clause-leads c = λ script numbers plain account stands.
    let heap = c.args.heap.now in
    let kept = c.args.procs.now in
    let v = c.cast_unsigned-n.result in
    let start = c.start_of-start.result in
    let right = moved_bytes c.args.addr c.args.n v c.requires.right
    (subst (λ z. v ≡ cast_unsigned w64 z) (to_z-of_z w64 c.args.n c.ranges.n) c.cast_unsigned-n.ensures) in
    let begins : 0 < v → start ≡ count_of c.args.addr = subst (λ z. 0 < v → start ≡ count_of z) (to_z-of_z w64 c.args.addr c.ranges.addr) c.start_of-start.ensures.start in
    let opens = asks_with script numbers plain c.args.place.pid c.args.on.now.fd c.args.addr c.args.n _ c.readable.result (Some c.in-Some.found) refl
    (c.readable.ensures.found c.args.heap.now c.args.procs.now c.args.place.pid numbers script plain (of_opened script numbers plain c.args.place.pid c.args.on.now.fd c.args.addr c.args.n) c.requires.opened stands.opened) c.in-Some.is in
    let tells = mapped_so heap kept plain.table c.args.place.pid c.space_of-space.result start v c.mapped.result false c.space_of-space.ensures stands.table c.mapped.ensures.memory c.if-not-mapped.true in
    leads_over script numbers c.args.heap.now c.args.procs.now plain account c.args.place.pid (call.Read c.args.on.now.fd c.args.addr c.args.n) c.requires.kept stands _ (Fail EFAULT)
    (read_unmapped script numbers plain c.args.place.pid c.args.on.now.fd c.args.addr c.args.n c.in-Some.found c.in-Some-of.queue (sym c.of.ensures ∙ c.in-Some-of.is) opens start v right.0 begins tells) refl

pub returns-then-n-eq0-clause-leads : goal.returns-then-n-eq0-clause-leads
returns-then-n-eq0-clause-leads c = λ script numbers plain account stands.
    let heap = c.args.heap.now in
    let kept = c.args.procs.now in
    let v = c.cast_unsigned-n.result in
    let start = c.start_of-start.result in
    let right = moved_bytes c.args.addr c.args.n v c.requires.right
    (subst (λ z. v ≡ cast_unsigned w64 z) (to_z-of_z w64 c.args.n c.ranges.n) c.cast_unsigned-n.ensures) in
    let begins : 0 < v → start ≡ count_of c.args.addr = subst (λ z. 0 < v → start ≡ count_of z) (to_z-of_z w64 c.args.addr c.ranges.addr) c.start_of-start.ensures.start in
    let opens = asks_with script numbers plain c.args.place.pid c.args.on.now.fd c.args.addr c.args.n _ c.readable.result (Some c.in-Some.found) refl
    (c.readable.ensures.found c.args.heap.now c.args.procs.now c.args.place.pid numbers script plain (of_opened script numbers plain c.args.place.pid c.args.on.now.fd c.args.addr c.args.n) c.requires.opened stands.opened) c.in-Some.is in
    let tells = mapped_so heap kept plain.table c.args.place.pid c.space_of-space.result start v c.mapped.result true c.space_of-space.ensures stands.table c.mapped.ensures.memory c.if-not-mapped.false in
    leads_over script numbers c.args.heap.now c.args.procs.now plain account c.args.place.pid (call.Read c.args.on.now.fd c.args.addr c.args.n) c.requires.kept stands _ (Val (pos 0))
    (read_nothing script numbers plain c.args.place.pid c.args.on.now.fd c.args.addr c.args.n c.in-Some.found c.in-Some-of.queue (sym c.of.ensures ∙ c.in-Some-of.is) opens start v right.0 begins tells c.if-n-eq0.true) refl

pub take_in-requires-clause-there : goal.take_in-requires-clause-there
take_in-requires-clause-there c =
    end_in c.args.heap.now c.in-Some-of.queue c.requires.kept.owners (open_end c.args.heap.now c.in-Some.found.key c.in-Some.found.desc c.in-Some-of.queue c.requires.kept.owners (is_there c.args.heap.now c.args.procs.now c.args.place.pid c.args.on.now c.requires.opened c.in-Some.found c.in-Some.ensures.same) (sym c.of.ensures ∙ c.in-Some-of.is))

pub returns-clause-leads : goal.returns-clause-leads
returns-clause-leads c = λ script numbers plain account stands.
    let heap = c.args.heap.now in
    let kept = c.args.procs.now in
    let v = c.cast_unsigned-n.result in
    let start = c.start_of-start.result in
    let right = moved_bytes c.args.addr c.args.n v c.requires.right
    (subst (λ z. v ≡ cast_unsigned w64 z) (to_z-of_z w64 c.args.n c.ranges.n) c.cast_unsigned-n.ensures) in
    let begins : 0 < v → start ≡ count_of c.args.addr = subst (λ z. 0 < v → start ≡ count_of z) (to_z-of_z w64 c.args.addr c.ranges.addr) c.start_of-start.ensures.start in
    let opens = asks_with script numbers plain c.args.place.pid c.args.on.now.fd c.args.addr c.args.n _ c.readable.result (Some c.in-Some.found) refl
    (c.readable.ensures.found c.args.heap.now c.args.procs.now c.args.place.pid numbers script plain (of_opened script numbers plain c.args.place.pid c.args.on.now.fd c.args.addr c.args.n) c.requires.opened stands.opened) c.in-Some.is in
    let tells = mapped_so heap kept plain.table c.args.place.pid c.space_of-space.result start v c.mapped.result true c.space_of-space.ensures stands.table c.mapped.ensures.memory c.if-not-mapped.false in
    read_leads script numbers plain c.args.place.pid c.args.on.now.fd c.args.addr c.args.n c.in-Some.found c.in-Some-of.queue (sym c.of.ensures ∙ c.in-Some-of.is) opens start v right.0 begins
    heap kept account stands c.requires.kept.owners (open_end c.args.heap.now c.in-Some.found.key c.in-Some.found.desc c.in-Some-of.queue c.requires.kept.owners (is_there c.args.heap.now c.args.procs.now c.args.place.pid c.args.on.now c.requires.opened c.in-Some.found c.in-Some.ensures.same) (sym c.of.ensures ∙ c.in-Some-of.is))
    tells c.if-n-eq0.false c.args.purse.now c.take_in.new.heap c.take_in.new.purse c.space_of-space.result c.requires.kept c.space_of-space.ensures c.take_in.result c.take_in.ensures.told
    c.take_in.ensures.reads c.take_in.ensures.refused

pub returns-clause-kept : goal.returns-clause-kept
returns-clause-kept c =
    kept_taken c.args.heap.now c.args.purse.now c.take_in.new.heap c.take_in.new.purse c.args.procs.now c.args.place.pid c.space_of-space.result c.in-Some-of.queue c.start_of-start.result c.cast_unsigned-n.result
    c.in-Some.found.desc.flags.nonblock c.requires.kept c.space_of-space.ensures (open_end c.args.heap.now c.in-Some.found.key c.in-Some.found.desc c.in-Some-of.queue c.requires.kept.owners (is_there c.args.heap.now c.args.procs.now c.args.place.pid c.args.on.now c.requires.opened c.in-Some.found c.in-Some.ensures.same) (sym c.of.ensures ∙ c.in-Some-of.is)) c.take_in.ensures.reads c.take_in.ensures.refused

pub returns-in_default-clause-links : goal.returns-in_default-clause-links
returns-in_default-clause-links c = λ key. refl

pub returns-then-not-mapped-clause-links : goal.returns-then-not-mapped-clause-links
returns-then-not-mapped-clause-links c = λ key. refl

pub returns-then-n-eq0-clause-links : goal.returns-then-n-eq0-clause-links
returns-then-n-eq0-clause-links c = λ key. refl

pub returns-clause-links : goal.returns-clause-links
returns-clause-links c = c.take_in.ensures.links
