use borrow.Rule.Slice.PartMut.{mid_of}
use Rattle.std.proofs.lemmas.List.{length-take-le}
use Rattle.std.proofs.Common.{◌/◌, ◌%◌, ◌++◌, ℕ, drop, replicate, sym, ap, ◌∙◌, arith}
use Rattle.kheap_slabs.specs.declared.objects.PageEntry.TheVariants as entry
use Rattle.page_space.proofs.MoveLemmas.{counted_used, IsNamed-entry}
use Rattle.page_space.proofs.TakeLemmas.{taken_zero, taken_frame}
use Rattle.page_space.proofs.spaces.Space.take_piece.Goals as goal

pub get_page-requires : goal.get_page-requires
get_page-requires c =
    counted_used c.args.heap.now.pages c.in-Frame.key
    (IsNamed-entry c.args.heap.now.nodes c.args.heap.now.pages c.args.self.now (c.args.addr / 4096) (entry.Frame c.in-Frame.key) c.requires.owned.1.pages (sym c.entry.ensures ∙ c.in-Frame.is))

pub returns-in-Zero-clause-taken : goal.returns-in-Zero-clause-taken
returns-in-Zero-clause-taken c = λ memory stands.
    ap (λ bytes. bytes ++ drop c.min-count.result c.args.out.now)
    (c.fill.ensures.after (λ y same. same) ∙ ap (λ (n : ℕ). replicate n 0) (length-take-le c.min-count.result c.args.out.now (omega arith))
    ∙ sym (taken_zero c.args.heap.now c.args.self.now memory c.args.addr c.min-count.result stands (omega arith) (sym c.entry.ensures ∙ c.in-Zero.is) (omega arith)))

pub returns-in-Frame-clause-taken : goal.returns-in-Frame-clause-taken
returns-in-Frame-clause-taken c = λ memory stands.
    ap (λ bytes. bytes ++ drop c.min-count.result c.args.out.now)
    (c.copy_from_slice.ensures.after ∙ ap (λ (n : ℕ). mid_of (c.args.addr % 4096) n c.get_page.result.now.bytes) (omega arith)
    ∙ sym (taken_frame c.args.heap.now c.args.self.now memory c.args.addr c.min-count.result c.in-Frame.key c.get_page.result.now c.heap_is_well_formed.ensures stands (omega arith)
    (sym c.entry.ensures ∙ c.in-Frame.is) c.get_page.ensures (omega arith)))
