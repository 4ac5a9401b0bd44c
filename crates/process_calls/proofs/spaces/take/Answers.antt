use Rattle.std.proofs.Common.{◌≡◌, ◌∙◌, ap, sym}
use Rattle.std.proofs.lemmas.List.{length-take-le}
use Rattle.std.specs.Prelude.{ℕ, Bool, List, Result, Ok, Err, if◌then◌else◌}
use Rattle.kabi_types.specs.declared.errnos.Errno.{Errno}
use Rattle.kabi_types.specs.declared.errnos.Errno.TheVariants.{EFAULT}
use Rattle.posix_defs.specs.Memory.{Memory, is_mapped_range, loaded}
use Rattle.proc_table.specs.Procs.{memory_at}
use Rattle.proc_table.proofs.MemoryLemmas.{memory_at-stands}
use Rattle.process_calls.proofs.SpacesInHand.{memory_is}
use Rattle.process_calls.proofs.spaces.take.Goals as goal

abbrev answered : ℕ → ℕ → Memory → Bool → Result (List ℕ) Errno
answered addr count memory b = if b then Ok (loaded memory addr count) else Err EFAULT

pub mapped-requires-clause-owned : goal.mapped-requires-clause-owned
mapped-requires-clause-owned c = c.space_of-space.ensures.owned

pub bytes_at-requires-clause-owned : goal.bytes_at-requires-clause-owned
bytes_at-requires-clause-owned c = c.space_of-space.ensures.owned

pub returns-then-not-mapped : goal.returns-then-not-mapped
returns-then-not-mapped c = λ script world stands.
    let memory = memory_at c.args.objects.now.heap c.space_of-space.result in
    let here = memory_is script c.args.objects.now world.plain c.args.place.pid c.args.place.key c.space_of-space.result c.space_of-space.ensures stands.processes in
    let known = c.mapped.ensures.memory memory (memory_at-stands c.args.objects.now.heap c.space_of-space.result) in
    sym (ap (λ m. answered c.args.addr c.args.count m (is_mapped_range m c.args.addr c.args.count)) here ∙ ap (answered c.args.addr c.args.count memory) (sym known ∙ c.if-not-mapped.true))

pub returns : goal.returns
returns c = λ script world stands.
    let memory = memory_at c.args.objects.now.heap c.space_of-space.result in
    let here = memory_is script c.args.objects.now world.plain c.args.place.pid c.args.place.key c.space_of-space.result c.space_of-space.ensures stands.processes in
    let there = memory_at-stands c.args.objects.now.heap c.space_of-space.result in
    let known = c.mapped.ensures.memory memory there in
    let took : c.bytes_at.result ≡ loaded memory c.args.addr c.args.count = c.bytes_at.ensures memory there ∙ ap (loaded memory c.args.addr) (length-take-le c.args.count _ c.requires.few) in
    sym (ap (λ m. answered c.args.addr c.args.count m (is_mapped_range m c.args.addr c.args.count)) here
    ∙ ap (answered c.args.addr c.args.count memory) (sym known ∙ c.if-not-mapped.false)
    ∙ ap Ok (sym took))
