use Rattle.std.proofs.Common.{◌≡◌, ◌+◌, ◌-◌, ◌++◌, ◌≤◌, ℕ, List, length, take, drop, refl, sym, ap, ◌∙◌, arith, rules}
use Rattle.std.proofs.lemmas.Slice.{put_mid-paste}
use Rattle.std.proofs.lemmas.List.Edits.{paste_all}
use Rattle.std.proofs.lemmas.List.{length-take-le, length-drop}
use borrow.Rule.Slice.PartMut.{put_mid}
use Rattle.kheap_slabs.specs.declared.objects.QueueParts.{QueueParts}
use Rattle.chunk_queue.specs.Chained.{owned, unread}
use Rattle.chunk_queue.proofs.StepLemmas.{owns, first_used, first_there_is, front_bytes}
use Rattle.chunk_queue.proofs.queue.Queue.take_front.Goals as goal

pub unreachable-requires : goal.unreachable-requires
unreachable-requires c =
    let none = first_there_is c.args.heap.now c.requires.owned.0 c.args.self.now c.requires.owned.1 (ap (λ (q : QueueParts). q.first) (sym c.self.view_is) ∙ c.in_default.is) c.requires.owned.2 in
    omega (arith, none, c.requires.more, c.requires.there)

pub prove-unreachable-requires : goal.prove-unreachable-requires
prove-unreachable-requires c =
    let mine = owns c.args.heap.now c.requires.owned.0 c.args.self.now c.requires.owned.1 c.requires.owned.2 in
    let place = ap (λ (q : QueueParts). q.place) c.self.view_is in
    omega (arith, mine.place)

pub get_chunk-chunk-requires : goal.get_chunk-chunk-requires
get_chunk-chunk-requires c = first_used c.args.heap.now c.requires.owned.0 c.args.self.now c.requires.owned.1 c.in-Some.first (ap (λ (q : QueueParts). q.first) (sym c.self.view_is) ∙ c.in-Some.is) c.requires.owned.2

count_again : (done count : ℕ) → done + count - done ≡ count
count_again done count = omega arith

pub returns-clause-bytes : goal.returns-clause-bytes
returns-clause-bytes c keys owners is = rw count_again (c.skip.ensures.bytes keys owners is)

-- what was copied stands in the buffer
copied_in : (out copied bytes : List ℕ) (done count : ℕ) → copied ≡ bytes → length bytes ≡ count → put_mid done count out copied ≡ take done out ++ (bytes ++ drop (done + count) out)
copied_in out copied bytes done count same long =
    put_mid-paste done count out copied bytes count same refl (sym long) ∙ paste_all out done bytes count (sym long)

pub returns-clause-out : goal.returns-clause-out
returns-clause-out c keys owners is =
    let first = ap (λ (q : QueueParts). q.first) (sym c.self.view_is) ∙ c.in-Some.is in
    let place : c.self.inside.parts.place ≡ c.args.self.now.place = ap (λ (q : QueueParts). q.place) c.self.view_is in
    let count : ℕ = c.min-count.result in
    let chunk = c.get_chunk-chunk.result.now in
    let within : c.args.self.now.place + count ≤ 512 = omega arith in
    let there : count ≤ c.args.self.now.len = omega (arith, c.requires.there) in
    let front = front_bytes c.args.heap.now keys c.args.self.now owners c.in-Some.first chunk count (search rules) first c.get_chunk-chunk.ensures there within is in
    let long : length (take count (unread c.args.heap.now.chunks (owned c.args.self.now keys))) ≡ count = rw (← front) (length-take-le count (drop c.args.self.now.place chunk.bytes) (rw length-drop (let whole : length chunk.bytes ≡ 512 = search rules in omega (arith, within, whole)))) in
    let copied : c.copy_from_slice.new.self ≡ take count (unread c.args.heap.now.chunks (owned c.args.self.now keys)) = c.copy_from_slice.ensures.after ∙ rw (count_again, place) front in
    rw count_again (copied_in c.args.out.now c.copy_from_slice.new.self (take count (unread c.args.heap.now.chunks (owned c.args.self.now keys))) c.args.done count copied long)
