use Rattle.std.proofs.Common.{◌≡◌, ◌++◌, Some, length, drop, refl, sym, ap, ◌∙◌}
use Rattle.std.proofs.lemmas.List.{take-append-drop}
use Rattle.kabi_types.specs.declared.classes.Class.TheVariants as class
use Rattle.kheap_slabs.specs.Objects.{object, InUse, put}
use Rattle.kheap_slabs.specs.Purse.{Purse}
use Rattle.kheap_slabs.specs.Heap.{Heap}
use Rattle.kheap_slabs.proofs.ObjectLemmas.{object_of}
use Rattle.kheap_laws.proofs.PaidLemmas.{IsPaid-trans, IsPaid-spend, IsPaid-nothing}
use Rattle.chunk_queue.proofs.StepLemmas.{last_used, used_still, was_there, only_chunks, grows}
use Rattle.chunk_queue.proofs.queue.Queue.grow.Goals as goal

pub link-requires : goal.link-requires
link-requires c =
    let used = last_used c.args.heap.now c.requires.owned.0 c.args.self.now c.requires.owned.1 c.args.last c.requires.last c.requires.owned.2 in
    rw (ap (λ (h : Heap). h.chunks) c.insert_chunk-key.ensures.kept) (used_still c.args.heap.now.chunks c.insert_chunk-key.result c.args.last c.chunk_of.result c.insert_chunk-key.ensures.vacant used)

pub returns-clause-bytes : goal.returns-clause-bytes
returns-clause-bytes c keys owners is =
    let kept = c.insert_chunk-key.ensures.kept in
    let mid = ap (λ (h : Heap). h.chunks) kept in
    let used = last_used c.args.heap.now keys c.args.self.now owners c.args.last c.requires.last is in
    let there : InUse c.insert_chunk-key.new.self.chunks c.args.last = rw mid (used_still c.args.heap.now.chunks c.insert_chunk-key.result c.args.last c.chunk_of.result c.insert_chunk-key.ensures.vacant used) in
    let before = object_of c.insert_chunk-key.new.self.chunks c.args.last there in
    let last = c.link.ensures.linked before.0 before.1 in
    let added = c.chunk_of.result in
    let bytes : added.bytes ≡ c.args.bytes.now ++ drop (length c.args.bytes.now) added.bytes = sym (take-append-drop (length c.args.bytes.now) added.bytes) ∙ ap (λ list. list ++ drop (length c.args.bytes.now) added.bytes) c.chunk_of.ensures.bytes in
    let was : object c.args.heap.now.chunks c.args.last ≡ Some before.0 = was_there c.args.heap.now.chunks c.insert_chunk-key.result c.args.last added before.0 c.insert_chunk-key.ensures.vacant used (ap (λ list. object list c.args.last) (sym mid) ∙ before.1) in
    let chunks = ap (λ (h : Heap). h.chunks) last ∙ ap (λ list. put list c.args.last (record before.0 { next = Some c.insert_chunk-key.result })) mid in
    rw c.self.view_is (grows c.args.heap.now c.link.new.heap keys c.args.self.now owners c.args.last c.insert_chunk-key.result before.0 added c.args.bytes.now (drop (length c.args.bytes.now) added.bytes) c.heap-limit.ensures.well_formed c.requires.last was c.insert_chunk-key.ensures.vacant (ap (λ list. object list c.insert_chunk-key.result) (sym mid) ∙ c.insert_chunk-key.ensures.stored) c.chunk_of.ensures.last bytes c.requires.some c.requires.within c.requires.full chunks (ap (λ (h : Heap). h.nodes) last ∙ ap (λ (h : Heap). h.nodes) kept) (ap (λ (h : Heap). h.pages) last ∙ ap (λ (h : Heap). h.pages) kept) is)

pub returns-clause-others : goal.returns-clause-others
returns-clause-others c =
    let used = last_used c.args.heap.now c.requires.owned.0 c.args.self.now c.requires.owned.1 c.args.last c.requires.last c.requires.owned.2 in
    let there : InUse c.insert_chunk-key.new.self.chunks c.args.last = rw (ap (λ (h : Heap). h.chunks) c.insert_chunk-key.ensures.kept) (used_still c.args.heap.now.chunks c.insert_chunk-key.result c.args.last c.chunk_of.result c.insert_chunk-key.ensures.vacant used) in
    let before = object_of c.insert_chunk-key.new.self.chunks c.args.last there in
    only_chunks c.args.heap.now c.insert_chunk-key.new.self c.link.new.heap _ _ _ c.insert_chunk-key.ensures.kept (c.link.ensures.linked before.0 before.1)

pub returns-clause-paid : goal.returns-clause-paid
returns-clause-paid c =
    let left = ap (λ (p : Purse). p.left) c.spend.ensures.kept in
    let need = ap (λ (p : Purse). p.need) c.spend.ensures.kept in
    IsPaid-trans c.args.heap.now c.args.purse.now c.insert_chunk-key.new.self c.spend.new.self c.link.new.heap c.spend.new.self (IsPaid-spend class.Chunk c.args.heap.now c.insert_chunk-key.new.self c.args.purse.now c.spend.new.self c.insert_chunk-key.ensures.makes c.requires.left left need) (IsPaid-nothing c.insert_chunk-key.new.self c.link.new.heap c.spend.new.self c.spend.new.self c.link.ensures.takes refl refl)
