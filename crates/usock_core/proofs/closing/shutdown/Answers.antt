use Rattle.std.proofs.Common.{[], refl, ap, ◌∙◌}
use Rattle.std.proofs.Common.{w64}
use Rattle.std.proofs.lemmas.Int.{to_z-of_z}
use Rattle.kheap_slabs.specs.declared.objects.Sock.{Sock}
use Rattle.usock_core.proofs.CallLemmas.{shut_stands, dropped_if, kept_if}
use Rattle.usock_core.proofs.HeldLemmas.{held_shut}
use Rattle.usock_core.proofs.closing.shutdown.Goals as goal

pub returns-then-shuts_reading-clause-stands : goal.returns-then-shuts_reading-clause-stands
returns-then-shuts_reading-clause-stands c sockets stands =
    let turns = c.drop_bytes.ensures.turns in
    shut_stands c.args.heap.now c.drop_bytes.new.heap c.args.key c.get_sock-sock.result.now turns.now c.args.how c.in-Connected.shut_read c.in-Connected.shut_write (λ bytes. []) sockets c.get_sock-sock.ensures c.in-Connected.is
    (ap (λ (s : Sock). s.state) turns.same ∙ rw (to_z-of_z w64 c.args.how c.ranges.how) at c.shut_further.ensures) (ap (λ (s : Sock). s.peer) turns.same) (ap (λ (s : Sock). s.waiting) turns.same) (ap (λ (s : Sock). s.node) turns.same)
    turns.becomes (dropped_if c.args.how (rw (to_z-of_z w64 c.args.how c.ranges.how) at c.if-shuts_reading.ensures)) stands

pub returns-else-shuts_reading-clause-stands : goal.returns-else-shuts_reading-clause-stands
returns-else-shuts_reading-clause-stands c sockets stands =
    let sock = c.get_sock-sock.result.now in
    shut_stands c.args.heap.now c.replace.new.heap c.args.key sock (record sock { state = c.shut_further.result }) c.args.how c.in-Connected.shut_read c.in-Connected.shut_write (λ bytes. bytes) sockets c.get_sock-sock.ensures c.in-Connected.is
    (rw (to_z-of_z w64 c.args.how c.ranges.how) at c.shut_further.ensures) refl refl refl c.replace.ensures.becomes (kept_if c.args.how (rw (to_z-of_z w64 c.args.how c.ranges.how) at c.if-shuts_reading.ensures)) stands

pub returns-then-shuts_reading-clause-held : goal.returns-then-shuts_reading-clause-held
returns-then-shuts_reading-clause-held c = held_shut c.args.heap.now c.drop_bytes.new.heap c.args.key c.args.how c.requires.there (returns-then-shuts_reading-clause-stands c)

pub returns-else-shuts_reading-clause-held : goal.returns-else-shuts_reading-clause-held
returns-else-shuts_reading-clause-held c = held_shut c.args.heap.now c.replace.new.heap c.args.key c.args.how c.requires.there (returns-else-shuts_reading-clause-stands c)
