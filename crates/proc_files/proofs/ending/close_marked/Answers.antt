use Rattle.std.proofs.Common.{is_some, ap, ◌≡◌, ◌+◌, ◌∙◌, ℕ, cond, suc, refl, sym, subst, arith}
use Rattle.lock_table.specs.Chain.{HoldsLocks}
use Rattle.memfs_ops.proofs.CachedLemmas.{cached_still, cached_then}
use Rattle.kheap_laws.proofs.PaidLemmas.{IsPaid-refl, IsPaid-trans}
use Rattle.posix_defs.specs.Files.Closing.{after_close}
use Rattle.proc_numbers.proofs.Fronts.{queues_same, queues_then}
use Rattle.proc_files.specs.Ending.{ClosesIf, ClosesMarked, OnlyGoes, closed_where, is_marked}
use Rattle.proc_files.specs.Holders.{openings}
use Rattle.proc_files.specs.NameHolding.{HoldNames}
use Rattle.proc_files.proofs.Finding.{is_at}
use Rattle.proc_files.proofs.Endings.{marked_begins, marked_more}
use Rattle.proc_files.proofs.NodesEnd.{goes_still, goes_then}
use Rattle.proc_files.proofs.ending.close_marked.Goals as goal

pub loop-fd-init : goal.loop-fd-init
loop-fd-init c = record {
  closed = λ numbers others files hold. hold;
  locks = λ numbers others files hold held. held;
  listed = c.requires.listed;
  owners = c.requires.owners;
  chain = c.requires.chain;
  locked = c.requires.locked;
  hold = c.requires.hold;
  closes = marked_begins c.args.heap.now c.args.procs.now c.args.place.pid (is_marked c.args.marks.now) (is_at c.args.heap.now c.args.procs.now c.args.place.pid c.requires.listed (ap is_some c.requires.there));
  queues = queues_same c.args.heap.now c.args.heap.now refl refl;
  same = refl;
  may = c.requires.may;
  places = refl;
  paid = IsPaid-refl c.args.heap.now c.args.purse.now;
  goes = λ numbers others files hold. goes_still files;
  stays = λ numbers others files hold same. refl;
  cached = cached_still c.args.tree.now;
  reads = omega arith;
}

next_one : (n : ℕ) → suc n ≡ n + 1
next_one n = omega arith

pub loop-fd-preserved : goal.loop-fd-preserved
loop-fd-preserved c =
    let mid = c.loop-fd.heap in
    let new = c.close_if.new.heap in
    let fd = c.loop-fd.fd in
    let was = c.loop-fd.invariant in
    record {
      closed = λ numbers others files hold.
          let before = closed_where (is_marked c.args.marks.now) files c.args.place.pid fd in
          subst (λ n. HoldNames numbers others new c.args.procs.now c.close_if.new.tree c.close_if.new.names (closed_where (is_marked c.args.marks.now) files c.args.place.pid n)) (next_one fd)
          (subst (λ b. HoldNames numbers others new c.args.procs.now c.close_if.new.tree c.close_if.new.names (cond b (after_close before c.args.place.pid fd) before)) c.mark_at-marked.ensures
          (c.close_if.ensures.closed numbers others before (was.closed numbers others files hold)));
      locks = λ numbers others files hold held.
          let before = closed_where (is_marked c.args.marks.now) files c.args.place.pid fd in
          subst (λ n. HoldsLocks new.locks c.close_if.new.locks (closed_where (is_marked c.args.marks.now) files c.args.place.pid n).locks) (next_one fd)
          (subst (λ b. HoldsLocks new.locks c.close_if.new.locks (cond b (after_close before c.args.place.pid fd) before).locks) c.mark_at-marked.ensures
          (c.close_if.ensures.locks numbers others before (was.closed numbers others files hold) (was.locks numbers others files hold held)));
      listed = c.close_if.ensures.listed;
      owners = c.close_if.ensures.owners;
      chain = c.close_if.ensures.chain;
      locked = c.close_if.ensures.locked;
      hold = c.close_if.ensures.hold;
      closes =
          subst (ClosesMarked c.args.heap.now new c.args.procs.now c.args.place.pid (is_marked c.args.marks.now)) (next_one fd)
          (marked_more c.args.heap.now mid new c.args.procs.now c.args.place.pid fd (is_marked c.args.marks.now) was.closes
          (subst (ClosesIf mid new c.args.procs.now c.args.place.pid fd) c.mark_at-marked.ensures c.close_if.ensures.closes));
      queues = queues_then c.args.heap.now mid new was.queues c.close_if.ensures.queues;
      same = c.close_if.ensures.same ∙ was.same;
      may = c.close_if.ensures.may;
      places = c.close_if.ensures.places ∙ was.places;
      paid = IsPaid-trans c.args.heap.now c.args.purse.now mid c.loop-fd.purse new c.close_if.new.purse was.paid c.close_if.ensures.paid;
      goes = λ numbers others files hold.
          let before = closed_where (is_marked c.args.marks.now) files c.args.place.pid fd in
          subst (λ n. OnlyGoes files (closed_where (is_marked c.args.marks.now) files c.args.place.pid n)) (next_one fd)
          (goes_then files before (closed_where (is_marked c.args.marks.now) files c.args.place.pid (suc fd)) (was.goes numbers others files hold)
          (subst (λ b. OnlyGoes before (cond b (after_close before c.args.place.pid fd) before)) c.mark_at-marked.ensures (c.close_if.ensures.goes numbers others before (was.closed numbers others files hold))));
      stays = λ numbers others files hold same.
          let before = closed_where (is_marked c.args.marks.now) files c.args.place.pid fd in
          let next = closed_where (is_marked c.args.marks.now) files c.args.place.pid (suc fd) in
          let all : (n : ℕ) → openings next n ≡ openings files n =
          subst (λ k. (n : ℕ) → openings (closed_where (is_marked c.args.marks.now) files c.args.place.pid k) n ≡ openings files n) (sym (next_one fd)) same in
          let first = was.goes numbers others files hold in
          let second : OnlyGoes before next =
          subst (λ b. OnlyGoes before (cond b (after_close before c.args.place.pid fd) before)) c.mark_at-marked.ensures (c.close_if.ensures.goes numbers others before (was.closed numbers others files hold)) in
          c.close_if.ensures.stays numbers others before (was.closed numbers others files hold)
          (subst (λ b. (n : ℕ) → openings (cond b (after_close before c.args.place.pid fd) before) n ≡ openings before n) (sym c.mark_at-marked.ensures)
          (λ n. (let one = first.fewer n in let two = second.fewer n in let as_many = all n in omega (arith, one, two, as_many))))
          ∙ was.stays numbers others files hold (λ n. (let one = first.fewer n in let two = second.fewer n in let as_many = all n in omega (arith, one, two, as_many)));
      cached = cached_then c.args.tree.now c.loop-fd.tree c.close_if.new.tree was.cached c.close_if.ensures.cached;
      reads = (let first = was.reads in let second = c.close_if.ensures.reads in omega (arith, first, second));
    }

pub returns-clause-closed : goal.returns-clause-closed
returns-clause-closed c = λ numbers others files hold.
    subst (λ n. HoldNames numbers others c.loop-fd.heap c.args.procs.now c.loop-fd.tree c.loop-fd.names (closed_where (is_marked c.args.marks.now) files c.args.place.pid n)) (let e : c.loop-fd.fd ≡ c.args.below = omega arith in e)
    (c.loop-fd.invariant.closed numbers others files hold)

pub returns-clause-locks : goal.returns-clause-locks
returns-clause-locks c = λ numbers others files hold held.
    subst (λ n. HoldsLocks c.loop-fd.heap.locks c.loop-fd.locks (closed_where (is_marked c.args.marks.now) files c.args.place.pid n).locks) (let e : c.loop-fd.fd ≡ c.args.below = omega arith in e)
    (c.loop-fd.invariant.locks numbers others files hold held)

pub returns-clause-closes : goal.returns-clause-closes
returns-clause-closes c =
    subst (ClosesMarked c.args.heap.now c.loop-fd.heap c.args.procs.now c.args.place.pid (is_marked c.args.marks.now)) (let e : c.loop-fd.fd ≡ c.args.below = omega arith in e) c.loop-fd.invariant.closes

pub returns-clause-goes : goal.returns-clause-goes
returns-clause-goes c = λ numbers others files hold.
    subst (λ n. OnlyGoes files (closed_where (is_marked c.args.marks.now) files c.args.place.pid n)) (let e : c.loop-fd.fd ≡ c.args.below = omega arith in e) (c.loop-fd.invariant.goes numbers others files hold)

pub returns-clause-stays : goal.returns-clause-stays
returns-clause-stays c = λ numbers others files hold same.
    c.loop-fd.invariant.stays numbers others files hold
    (subst (λ k. (n : ℕ) → openings (closed_where (is_marked c.args.marks.now) files c.args.place.pid k) n ≡ openings files n) (sym (let e : c.loop-fd.fd ≡ c.args.below = omega arith in e)) same)

pub returns-clause-cached : goal.returns-clause-cached
returns-clause-cached c = c.loop-fd.invariant.cached
