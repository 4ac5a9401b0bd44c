use Rattle.std.proofs.Common.{◌≡◌, ◌<◌, false, true, None, sym, subst, w64, arith}
use Rattle.std.proofs.lemmas.Int.{to_z-of_z}
use Rattle.kabi_types.specs.Arguments.{count_of, range_fault}
use Rattle.proc_files.proofs.Ranges.{range_tells}
use Rattle.proc_files.proofs.spaces.range_of.Goals as goal

pub overflow_cast-count : goal.overflow_cast-count
overflow_cast-count c =
    let count : c.count_of-count.result ≡ count_of c.args.n = subst (λ z. c.count_of-count.result ≡ count_of z) (to_z-of_z w64 c.args.n c.ranges.n) c.count_of-count.ensures in
    let few = c.requires.few in omega (arith, count, few)

pub start_of-start-requires : goal.start_of-start-requires
start_of-start-requires c =
    let count : c.count_of-count.result ≡ count_of c.args.n = subst (λ z. c.count_of-count.result ≡ count_of z) (to_z-of_z w64 c.args.n c.ranges.n) c.count_of-count.ensures in
    subst (λ z. range_fault z c.count_of-count.result ≡ None) (sym (to_z-of_z w64 c.args.addr c.ranges.addr)) (subst (λ n. range_fault c.args.addr n ≡ None) (sym count) c.requires.right)

pub returns-then-mapped-clause-tells : goal.returns-then-mapped-clause-tells
returns-then-mapped-clause-tells c = λ table is.
    let count : c.count_of-count.result ≡ count_of c.args.n = subst (λ z. c.count_of-count.result ≡ count_of z) (to_z-of_z w64 c.args.n c.ranges.n) c.count_of-count.ensures in
    range_tells c.args.heap.now c.args.procs.now table c.args.place.pid c.args.addr (count_of c.args.n) c.space_of-space.result c.start_of-start.result c.count_of-count.result c.mapped.result true count
    (subst (λ z. 0 < c.count_of-count.result → c.start_of-start.result ≡ count_of z) (to_z-of_z w64 c.args.addr c.ranges.addr) c.start_of-start.ensures.start)
    c.space_of-space.ensures is c.mapped.ensures.memory c.if-mapped.true

pub returns-then-mapped-clause-range : goal.returns-then-mapped-clause-range
returns-then-mapped-clause-range c = record {
  space = c.space_of-space.ensures;
  mapped = c.mapped.ensures.pages c.if-mapped.true;
  within = c.start_of-start.ensures.within;
  begins = subst (λ z. 0 < c.count_of-count.result → c.start_of-start.result ≡ count_of z) (to_z-of_z w64 c.args.addr c.ranges.addr) c.start_of-start.ensures.start;
  counted = subst (λ z. c.count_of-count.result ≡ count_of z) (to_z-of_z w64 c.args.n c.ranges.n) c.count_of-count.ensures;
}

pub returns-else-mapped-clause-tells : goal.returns-else-mapped-clause-tells
returns-else-mapped-clause-tells c = λ table is.
    let count : c.count_of-count.result ≡ count_of c.args.n = subst (λ z. c.count_of-count.result ≡ count_of z) (to_z-of_z w64 c.args.n c.ranges.n) c.count_of-count.ensures in
    range_tells c.args.heap.now c.args.procs.now table c.args.place.pid c.args.addr (count_of c.args.n) c.space_of-space.result c.start_of-start.result c.count_of-count.result c.mapped.result false count
    (subst (λ z. 0 < c.count_of-count.result → c.start_of-start.result ≡ count_of z) (to_z-of_z w64 c.args.addr c.ranges.addr) c.start_of-start.ensures.start)
    c.space_of-space.ensures is c.mapped.ensures.memory c.if-mapped.false
