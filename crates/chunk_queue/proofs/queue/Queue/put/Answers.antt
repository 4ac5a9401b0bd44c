use Rattle.std.proofs.Common.{◌≡◌, ◌+◌, ◌-◌, ◌%◌, ◌++◌, ◌≤◌, ℕ, List, length, take, drop, refl, sym, ap, ◌∙◌, append_assoc, arith}
use Rattle.std.proofs.lemmas.List.{take_all, length-take-le, length-drop}
use Rattle.std.proofs.Math.Seq.{take-add}
use Rattle.kabi_types.specs.declared.classes.Class.TheVariants as class
use Rattle.kabi_types.specs.Counts.{counted}
use Rattle.kheap_laws.proofs.PaidLemmas.{IsPaid-trans, IsPaid-nothing, CanPay-kept}
use Rattle.posix_defs.specs.QueuePlace.{QueuePlace, chunks_of, after_put}
use Rattle.chunk_queue.specs.Chained.{place_of}
use Rattle.chunk_queue.proofs.StepLemmas.{owns, still_in, Turns-trans, Turns-as, OnlyChunks-trans, PaysChunks-trans, chunks_grown, chunks_put, chunks_more}
use Rattle.chunk_queue.proofs.queue.Queue.put.Goals as goal

pub pieces-init : goal.pieces-init
pieces-init c =
    let filled = c.fill-done.ensures in
    let paid = IsPaid-nothing c.args.heap.now c.fill-done.new.heap c.args.purse.now c.args.purse.now filled.takes refl refl in
    record {
      within = filled.count;
      owned = still_in c.args.heap.now c.fill-done.new.heap c.args.self.now c.fill-done.new.self (λ old. old ++ take c.fill-done.result c.args.bytes.now) filled.bytes c.requires.owned;
      full = filled.full;
      place = filled.place;
      bytes = filled.bytes;
      others = filled.others;
      pays = CanPay-kept c.args.heap.now c.fill-done.new.heap c.args.purse.now c.args.purse.now paid c.requires.pays;
      paid = paid;
      purse = refl;
      spent = ap (λ (k : ℕ). counted c.args.purse.now.left class.Chunk + k) filled.chunks;
    }

abbrev with_len : ℕ → ℕ → QueuePlace
with_len place len = record { place = place; len = len }

-- a piece of bytes behind those that were put already
piece_joins : (bytes : List ℕ) (done next : ℕ) → done ≤ next → take done bytes ++ take (next - done) (drop done bytes) ≡ take next bytes
piece_joins bytes done next more = sym (take-add done (next - done) bytes) ∙ ap (λ (n : ℕ). take n bytes) (whole done next more)
  where
    whole : (done next : ℕ) → done ≤ next → done + (next - done) ≡ next
    whole done next more = omega arith

length_piece : (bytes : List ℕ) (done next : ℕ) → done ≤ next → next ≤ length bytes → length (take (next - done) (drop done bytes)) ≡ next - done
length_piece bytes done next more within = length-take-le (next - done) (drop done bytes) (rw length-drop (omega arith))

pub pieces-preserved : goal.pieces-preserved
pieces-preserved c =
    let so_far = c.pieces.invariant in
    let added = c.add_chunk.ensures in
    let bytes : List ℕ = c.args.bytes.now in
    let done : ℕ = c.pieces.done in
    let next : ℕ = c.min-next.result in
    let piece = take (next - done) (drop done bytes) in
    let behind : done ≤ next = omega arith in
    let within : next ≤ length bytes = omega arith in
    let long : length piece ≡ next - done = length_piece bytes done next behind within in
    let mine = owns c.pieces.heap so_far.owned.0 c.pieces.self so_far.owned.1 so_far.owned.2 in
    let len : c.add_chunk.new.self.len ≡ c.pieces.self.len + length piece = ap (λ (q : QueuePlace). q.len) added.place in
    let place : c.add_chunk.new.self.place ≡ c.pieces.self.place = ap (λ (q : QueuePlace). q.place) added.place in
    let full : (c.pieces.self.place + c.pieces.self.len) % 512 ≡ 0 = so_far.full (omega arith) in
    let grown : chunks_of (place_of c.add_chunk.new.self) ≡ chunks_of (place_of c.pieces.self) + 1 = ap chunks_of added.place ∙ chunks_grown c.pieces.self.place c.pieces.self.len (length piece) mine.empty full (omega (arith, long)) (omega (arith, long)) in
    record {
      within = within;
      owned = still_in c.pieces.heap c.add_chunk.new.heap c.pieces.self c.add_chunk.new.self (λ old. old ++ piece) added.bytes so_far.owned;
      full = λ more. omega (arith, len, place, full, long);
      place = added.place ∙ ap (λ (q : QueuePlace). after_put q (length piece)) so_far.place ∙ ap (λ (k : ℕ). with_len c.args.self.now.place k) (omega (arith, long));
      bytes = Turns-as c.args.heap.now c.add_chunk.new.heap c.args.self.now c.add_chunk.new.self (λ old. (old ++ take done bytes) ++ piece) (λ old. old ++ take next bytes) (λ old. append_assoc old (take done bytes) piece ∙ ap (λ list. old ++ list) (piece_joins bytes done next behind)) (Turns-trans c.args.heap.now c.pieces.heap c.add_chunk.new.heap c.args.self.now c.pieces.self c.add_chunk.new.self (λ old. old ++ take done bytes) (λ old. old ++ piece) so_far.bytes added.bytes);
      others = OnlyChunks-trans c.args.heap.now c.pieces.heap c.add_chunk.new.heap c.pieces.heap.chunks c.add_chunk.new.heap.chunks c.pieces.heap.high c.add_chunk.new.heap.high so_far.others added.others;
      pays = CanPay-kept c.pieces.heap c.add_chunk.new.heap c.pieces.purse c.add_chunk.new.purse added.paid so_far.pays;
      paid = IsPaid-trans c.args.heap.now c.args.purse.now c.pieces.heap c.pieces.purse c.add_chunk.new.heap c.add_chunk.new.purse so_far.paid added.paid;
      purse = PaysChunks-trans c.args.purse.now c.pieces.purse c.add_chunk.new.purse so_far.purse added.purse;
      spent = omega (arith, so_far.spent, added.spent, grown);
    }

pub returns-clause-bytes : goal.returns-clause-bytes
returns-clause-bytes c =
    Turns-as c.args.heap.now c.pieces.heap c.args.self.now c.pieces.self (λ old. old ++ take c.pieces.done c.args.bytes.now) (λ old. old ++ c.args.bytes.now) (λ old. ap (λ list. old ++ list) (take_all c.pieces.done c.args.bytes.now (omega arith))) c.pieces.invariant.bytes

pub add_chunk-requires-clause-left : goal.add_chunk-requires-clause-left
add_chunk-requires-clause-left c =
    let so_far = c.pieces.invariant in
    let bytes : List ℕ = c.args.bytes.now in
    let first = owns c.args.heap.now c.requires.owned.0 c.args.self.now c.requires.owned.1 c.requires.owned.2 in
    let mine = owns c.pieces.heap so_far.owned.0 c.pieces.self so_far.owned.1 so_far.owned.2 in
    let most = chunks_put c.args.self.now.place c.args.self.now.len (length bytes) first.place first.empty (omega arith) in
    let place : c.pieces.self.place ≡ c.args.self.now.place = ap (λ (q : QueuePlace). q.place) so_far.place in
    let len : c.pieces.self.len ≡ c.args.self.now.len + c.pieces.done = ap (λ (q : QueuePlace). q.len) so_far.place in
    let fewer = chunks_more c.pieces.self.place c.pieces.self.len (length bytes - c.pieces.done) mine.empty (so_far.full (omega arith)) (omega arith) in
    let whole : chunks_of (record { place = c.pieces.self.place; len = c.pieces.self.len + (length bytes - c.pieces.done) }) ≡ chunks_of (record { place = c.args.self.now.place; len = c.args.self.now.len + length bytes }) = rw (place, len) (ap (λ (k : ℕ). chunks_of (record { place = c.args.self.now.place; len = k })) (omega arith)) in
    omega (arith, so_far.spent, most, fewer, whole, c.requires.enough)
