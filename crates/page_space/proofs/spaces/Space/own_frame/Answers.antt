use Rattle.std.proofs.Common.{Some, sym, ap, ◌∙◌}
use Rattle.kheap_slabs.specs.declared.objects.PageEntry.TheVariants as entry
use Rattle.page_space.specs.Contents.{content_of}
use Rattle.page_space.proofs.MoveLemmas.{counted_used, IsNamed-entry}
use Rattle.page_space.proofs.WriteLemmas.{zero_page_is}
use Rattle.page_space.proofs.spaces.Space.own_frame.Goals as goal

pub give_frame-requires-clause-content : goal.give_frame-requires-clause-content
give_frame-requires-clause-content c =
    ap (content_of c.args.heap.now.pages) (sym c.entry.ensures ∙ c.in-Zero.is) ∙ ap Some zero_page_is

pub get_page-requires : goal.get_page-requires
get_page-requires c =
    counted_used c.args.heap.now.pages c.in-Frame.key
    (IsNamed-entry c.args.heap.now.nodes c.args.heap.now.pages c.args.self.now c.args.page (entry.Frame c.in-Frame.key) c.requires.owned.1.pages (sym c.entry.ensures ∙ c.in-Frame.is))
