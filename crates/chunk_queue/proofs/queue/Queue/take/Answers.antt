use Rattle.std.proofs.Common.{◌≡◌, ◌+◌, ◌-◌, ◌≤◌, ℕ, drop, refl, ap, ◌∙◌, arith}
use Rattle.std.proofs.lemmas.List.{drop-drop}
use Rattle.kheap_slabs.specs.declared.objects.QueueParts.{QueueParts}
use Rattle.kheap_laws.proofs.PaidLemmas.{TakesNothing-refl, TakesNothing-trans}
use Rattle.posix_defs.specs.QueuePlace.{QueuePlace, after_take}
use Rattle.chunk_queue.specs.Chained.{place_of, owned, unread}
use Rattle.chunk_queue.proofs.StepLemmas.{still_in, taken_none, taken_twice, len_taken, Turns-none, Turns-trans, Turns-as, OnlyChunks-trans, minus_zero, out_joins}
use Rattle.chunk_queue.proofs.queue.Queue.take.Goals as goal

pub pieces-init : goal.pieces-init
pieces-init c = record {
  within = omega arith;
  left = omega arith;
  owned = c.requires;
  place = taken_none c.args.heap.now c.requires.0 c.args.self.now c.requires.1 c.requires.2;
  bytes = Turns-none c.args.heap.now c.args.self.now;
  out = λ keys owners is. refl;
  others = refl;
  takes = TakesNothing-refl c.args.heap.now;
}

pub pieces-preserved : goal.pieces-preserved
pieces-preserved c =
    let so_far = c.pieces.invariant in
    let taken = c.take_front-done.ensures in
    let done : ℕ = c.pieces.done in
    let next : ℕ = c.take_front-done.result in
    let more : done ≤ next = omega (arith, taken.more) in
    let sum : done + (next - done) ≡ next = omega arith in
    let whole : c.self.inside.parts.len ≡ c.args.self.now.len = ap (λ (q : QueueParts). q.len) c.self.view_is in
    let left : c.take_front-done.new.self.len ≡ c.pieces.self.len - (next - done) = ap (λ (q : QueuePlace). q.len) taken.place ∙ len_taken (place_of c.pieces.self) (next - done) in
    record {
      within = taken.within;
      left = omega (arith, so_far.left, taken.within);
      owned = still_in c.pieces.heap c.take_front-done.new.heap c.pieces.self c.take_front-done.new.self (drop (next - done)) taken.bytes so_far.owned;
      place = taken.place ∙ ap (λ (q : QueuePlace). after_take q (next - done)) so_far.place ∙ taken_twice (place_of c.args.self.now) done (next - done) ∙ ap (after_take (place_of c.args.self.now)) sum;
      bytes = Turns-as c.args.heap.now c.take_front-done.new.heap c.args.self.now c.take_front-done.new.self (λ old. drop (next - done) (drop done old)) (drop next) (λ old. drop-drop (next - done) done old ∙ ap (λ (n : ℕ). drop n old) sum) (Turns-trans c.args.heap.now c.pieces.heap c.take_front-done.new.heap c.args.self.now c.pieces.self c.take_front-done.new.self (drop done) (drop (next - done)) so_far.bytes taken.bytes);
      out = λ keys owners is.
          let begun = so_far.bytes keys owners is in
          rw minus_zero (out_joins c.args.out.now c.pieces.out c.take_front-done.new.out (unread c.args.heap.now.chunks (owned c.args.self.now keys)) (unread c.pieces.heap.chunks (owned c.pieces.self begun.now_keys)) done next more (omega (arith, taken.within)) c.pieces.auto.out (rw minus_zero at (so_far.out keys owners is)) begun.has (taken.out begun.now_keys owners begun.is_owned));
      others = OnlyChunks-trans c.args.heap.now c.pieces.heap c.take_front-done.new.heap c.pieces.heap.chunks c.take_front-done.new.heap.chunks c.pieces.heap.high c.take_front-done.new.heap.high so_far.others taken.others;
      takes = TakesNothing-trans c.args.heap.now c.pieces.heap c.take_front-done.new.heap so_far.takes taken.takes;
    }

pub returns-clause-out : goal.returns-clause-out
returns-clause-out c keys owners is =
    let all : c.min-wanted.result ≡ c.pieces.done = omega arith in
    rw all (c.pieces.invariant.out keys owners is)

pub returns-clause-bytes : goal.returns-clause-bytes
returns-clause-bytes c =
    let all : c.min-wanted.result ≡ c.pieces.done = omega arith in
    rw all c.pieces.invariant.bytes
