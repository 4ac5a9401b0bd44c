use Rattle.std.proofs.Common.{◌≡◌, ◌∙◌, ◌<◌, ap, false, subst, sym, true, w64}
use Rattle.std.specs.Int.{cast_unsigned}
use Rattle.std.specs.Option.{option_map}
use Rattle.std.proofs.lemmas.Int.{to_z-of_z}
use Rattle.kabi_types.specs.Arguments.{count_of}
use Rattle.posix_defs.specs.Answer.{Blocked}
use Rattle.proc_numbers.specs.Found.{opened_in}
use Rattle.proc_numbers.proofs.Breaking.{broken_so, may_be_written, node_whole, read_whole, unmapped_whole, unread_so, unwritten_whole}
use Rattle.proc_numbers.proofs.EndLemmas.{end_in, open_end}
use Rattle.proc_numbers.proofs.OpenedBy.{is_there, opened_is}
use Rattle.proc_numbers.proofs.Remembering.{mapped_so}
use Rattle.proc_numbers.proofs.RightBytes.{moved_bytes}
use Rattle.proc_numbers.proofs.writing.write_breaks.Goals as goal

pub returns-in_default : goal.returns-in_default
returns-in_default c = λ script numbers plain account stands.
    unwritten_whole script numbers plain c.args.place.pid c.args.on.now.fd c.args.addr c.args.n c.writable.result
    (c.writable.ensures.found c.args.heap.now c.args.procs.now c.args.place.pid numbers script plain (λ opened. Blocked) c.requires.opened stands.opened) c.in_default.is

pub returns-in_default-of : goal.returns-in_default-of
returns-in_default-of c = λ script numbers plain account stands.
    let opens = opened_is c.args.heap.now c.args.procs.now c.args.place.pid c.args.on.now c.requires.opened numbers plain.files stands.opened ∙ ap (option_map (opened_in numbers)) c.in-Some.ensures.same in
    let writes = may_be_written script numbers plain c.args.place.pid c.args.on.now.fd c.args.addr c.args.n c.in-Some.found opens c.writable.result
    (c.writable.ensures.found c.args.heap.now c.args.procs.now c.args.place.pid numbers script plain (λ opened. Blocked) c.requires.opened stands.opened) c.in-Some.is in
    node_whole script numbers plain c.args.place.pid c.args.on.now.fd c.args.addr c.args.n c.in-Some.found opens writes (sym c.of.ensures ∙ c.in_default-of.is)

pub is_unread-requires : goal.is_unread-requires
is_unread-requires c =
    end_in c.args.heap.now c.in-Some-of.queue c.requires.kept.owners (open_end c.args.heap.now c.in-Some.found.key c.in-Some.found.desc c.in-Some-of.queue c.requires.kept.owners (is_there c.args.heap.now c.args.procs.now c.args.place.pid c.args.on.now c.requires.opened c.in-Some.found c.in-Some.ensures.same) (sym c.of.ensures ∙ c.in-Some-of.is))

pub returns-then-not-is_unread : goal.returns-then-not-is_unread
returns-then-not-is_unread c = λ script numbers plain account stands.
    let opens = opened_is c.args.heap.now c.args.procs.now c.args.place.pid c.args.on.now c.requires.opened numbers plain.files stands.opened ∙ ap (option_map (opened_in numbers)) c.in-Some.ensures.same in
    let writes = may_be_written script numbers plain c.args.place.pid c.args.on.now.fd c.args.addr c.args.n c.in-Some.found opens c.writable.result
    (c.writable.ensures.found c.args.heap.now c.args.procs.now c.args.place.pid numbers script plain (λ opened. Blocked) c.requires.opened stands.opened) c.in-Some.is in
    let is_end = sym c.of.ensures ∙ c.in-Some-of.is in
    let is_open = open_end c.args.heap.now c.in-Some.found.key c.in-Some.found.desc c.in-Some-of.queue c.requires.kept.owners (is_there c.args.heap.now c.args.procs.now c.args.place.pid c.args.on.now c.requires.opened c.in-Some.found c.in-Some.ensures.same) is_end in
    read_whole script numbers plain c.args.place.pid c.args.on.now.fd c.args.addr c.args.n c.in-Some.found opens writes
    (sym (unread_so numbers c.args.heap.now c.args.procs.now plain account c.in-Some-of.queue c.in-Some.found.desc.target stands c.requires.kept.owners is_open is_end c.is_unread.result c.is_unread.ensures)
    ∙ c.if-not-is_unread.true)

pub returns-then-not-mapped : goal.returns-then-not-mapped
returns-then-not-mapped c = λ script numbers plain account stands.
    let heap = c.args.heap.now in
    let v = c.cast_unsigned-n.result in
    let start = c.start_of-start.result in
    let right = moved_bytes c.args.addr c.args.n v c.requires.right
    (subst (λ z. v ≡ cast_unsigned w64 z) (to_z-of_z w64 c.args.n c.ranges.n) c.cast_unsigned-n.ensures) in
    let begins : 0 < v → start ≡ count_of c.args.addr = subst (λ z. 0 < v → start ≡ count_of z) (to_z-of_z w64 c.args.addr c.ranges.addr) c.start_of-start.ensures.start in
    let opens = opened_is heap c.args.procs.now c.args.place.pid c.args.on.now c.requires.opened numbers plain.files stands.opened ∙ ap (option_map (opened_in numbers)) c.in-Some.ensures.same in
    let writes = may_be_written script numbers plain c.args.place.pid c.args.on.now.fd c.args.addr c.args.n c.in-Some.found opens c.writable.result
    (c.writable.ensures.found heap c.args.procs.now c.args.place.pid numbers script plain (λ opened. Blocked) c.requires.opened stands.opened) c.in-Some.is in
    unmapped_whole script numbers plain c.args.place.pid c.args.on.now.fd c.args.addr c.args.n c.in-Some.found opens writes start v right.0 begins
    (mapped_so heap c.args.procs.now plain.table c.args.place.pid c.space_of-space.result start v c.mapped.result false c.space_of-space.ensures stands.table c.mapped.ensures.memory c.if-not-mapped.true)

pub returns : goal.returns
returns c = λ script numbers plain account stands.
    let heap = c.args.heap.now in
    let v = c.cast_unsigned-n.result in
    let start = c.start_of-start.result in
    let right = moved_bytes c.args.addr c.args.n v c.requires.right
    (subst (λ z. v ≡ cast_unsigned w64 z) (to_z-of_z w64 c.args.n c.ranges.n) c.cast_unsigned-n.ensures) in
    let begins : 0 < v → start ≡ count_of c.args.addr = subst (λ z. 0 < v → start ≡ count_of z) (to_z-of_z w64 c.args.addr c.ranges.addr) c.start_of-start.ensures.start in
    let opens = opened_is heap c.args.procs.now c.args.place.pid c.args.on.now c.requires.opened numbers plain.files stands.opened ∙ ap (option_map (opened_in numbers)) c.in-Some.ensures.same in
    let writes = may_be_written script numbers plain c.args.place.pid c.args.on.now.fd c.args.addr c.args.n c.in-Some.found opens c.writable.result
    (c.writable.ensures.found heap c.args.procs.now c.args.place.pid numbers script plain (λ opened. Blocked) c.requires.opened stands.opened) c.in-Some.is in
    let is_end = sym c.of.ensures ∙ c.in-Some-of.is in
    let is_open = open_end heap c.in-Some.found.key c.in-Some.found.desc c.in-Some-of.queue c.requires.kept.owners (is_there heap c.args.procs.now c.args.place.pid c.args.on.now c.requires.opened c.in-Some.found c.in-Some.ensures.same) is_end in
    broken_so script numbers plain c.args.place.pid c.args.on.now.fd c.args.addr c.args.n c.in-Some.found opens writes start v right.0 begins
    (mapped_so heap c.args.procs.now plain.table c.args.place.pid c.space_of-space.result start v c.mapped.result true c.space_of-space.ensures stands.table c.mapped.ensures.memory c.if-not-mapped.false)
    (sym (unread_so numbers heap c.args.procs.now plain account c.in-Some-of.queue c.in-Some.found.desc.target stands c.requires.kept.owners is_open is_end c.is_unread.result c.is_unread.ensures)
    ∙ c.if-not-is_unread.false)
