use Rattle.std.proofs.Common.{◌≡◌, ◌+◌, ◌-◌, ◌<◌, ℕ, drop, sym, ap, ◌∙◌, arith}
use Rattle.std.proofs.lemmas.List.{drop-drop}
use Rattle.kheap_slabs.specs.declared.objects.QueueParts.{QueueParts}
use Rattle.kheap_laws.proofs.PaidLemmas.{TakesNothing-trans}
use Rattle.posix_defs.specs.QueuePlace.{QueuePlace}
use Rattle.chunk_queue.specs.Chained.{place_of}
use Rattle.chunk_queue.proofs.StepLemmas.{owns, some_bytes, first_there_is, still_in, Turns-trans, Turns-as, Turns-empty, OnlyChunks-trans, len_taken, taken_all}
use Rattle.chunk_queue.proofs.queue.Queue.clear.Goals as goal

pub prove-unreachable-requires : goal.prove-unreachable-requires
prove-unreachable-requires c =
    let so_far = c.pieces.invariant in
    let mine = owns c.pieces.heap so_far.owned.0 c.pieces.self so_far.owned.1 so_far.owned.2 in
    let place = ap (λ (q : QueueParts). q.place) c.self.view_is in
    omega (arith, mine.place)

pub skip-requires-clause-some : goal.skip-requires-clause-some
skip-requires-clause-some c =
    let so_far = c.pieces.invariant in
    some_bytes c.pieces.heap so_far.owned.0 c.pieces.self so_far.owned.1 c.in-Some.first (ap (λ (q : QueueParts). q.first) (sym c.self.view_is) ∙ c.in-Some.is) so_far.owned.2

pub pieces-smaller : goal.pieces-smaller
pieces-smaller c =
    let so_far = c.pieces.invariant in
    let some = some_bytes c.pieces.heap so_far.owned.0 c.pieces.self so_far.owned.1 c.in-Some.first (ap (λ (q : QueueParts). q.first) (sym c.self.view_is) ∙ c.in-Some.is) so_far.owned.2 in
    let was : c.self.inside.parts.len ≡ c.pieces.self.len = ap (λ (q : QueueParts). q.len) c.self.view_is in
    let left : c.skip.new.self.len ≡ c.pieces.self.len - c.min-count.result = ap (λ (q : QueuePlace). q.len) c.skip.ensures.place ∙ len_taken (place_of c.pieces.self) c.min-count.result in
    let smaller : c.skip.new.self.len < c.pieces.self.len = omega arith in
    smaller

pub pieces-preserved : goal.pieces-preserved
pieces-preserved c =
    let so_far = c.pieces.invariant in
    let skipped = c.skip.ensures in
    let count : ℕ = c.min-count.result in
    let past : ℕ = c.args.self.now.len - c.pieces.self.len in
    let was : c.self.inside.parts.len ≡ c.pieces.self.len = ap (λ (q : QueueParts). q.len) c.self.view_is in
    let left : c.skip.new.self.len ≡ c.pieces.self.len - count = ap (λ (q : QueuePlace). q.len) skipped.place ∙ len_taken (place_of c.pieces.self) count in
    let sum : past + count ≡ c.args.self.now.len - c.skip.new.self.len = omega (arith, so_far.less) in
    record {
      less = omega (arith, so_far.less);
      owned = still_in c.pieces.heap c.skip.new.heap c.pieces.self c.skip.new.self (drop count) skipped.bytes so_far.owned;
      bytes = Turns-as c.args.heap.now c.skip.new.heap c.args.self.now c.skip.new.self (λ old. drop count (drop past old)) (drop (c.args.self.now.len - c.skip.new.self.len)) (λ old. drop-drop count past old ∙ ap (λ (n : ℕ). drop n old) sum) (Turns-trans c.args.heap.now c.pieces.heap c.skip.new.heap c.args.self.now c.pieces.self c.skip.new.self (drop past) (drop count) so_far.bytes skipped.bytes);
      others = OnlyChunks-trans c.args.heap.now c.pieces.heap c.skip.new.heap c.pieces.heap.chunks c.skip.new.heap.chunks c.pieces.heap.high c.skip.new.heap.high so_far.others skipped.others;
      takes = TakesNothing-trans c.args.heap.now c.pieces.heap c.skip.new.heap so_far.takes skipped.takes;
    }

pub returns-clause-place : goal.returns-clause-place
returns-clause-place c =
    let so_far = c.pieces.invariant in
    let mine = owns c.pieces.heap so_far.owned.0 c.pieces.self so_far.owned.1 so_far.owned.2 in
    let len : c.pieces.self.len ≡ 0 = first_there_is c.pieces.heap so_far.owned.0 c.pieces.self so_far.owned.1 (ap (λ (q : QueueParts). q.first) (sym c.self.view_is) ∙ c.in_default.is) so_far.owned.2 in
    rw (len, mine.empty len) (sym (taken_all (place_of c.args.self.now) c.args.self.now.len (omega arith)))

pub returns-clause-bytes : goal.returns-clause-bytes
returns-clause-bytes c =
    let so_far = c.pieces.invariant in
    let none = first_there_is c.pieces.heap so_far.owned.0 c.pieces.self so_far.owned.1 (ap (λ (q : QueueParts). q.first) (sym c.self.view_is) ∙ c.in_default.is) so_far.owned.2 in
    Turns-empty c.args.heap.now c.pieces.heap c.args.self.now c.pieces.self (drop (c.args.self.now.len - c.pieces.self.len)) none so_far.bytes
