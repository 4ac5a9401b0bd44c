use Rattle.std.proofs.Common.{sym, ap, ◌∙◌, subst}
use Rattle.page_space.specs.Frames.{IsNamed}
use Rattle.page_space.proofs.MoveLemmas.{IsNamed-entry, unmapped-moves, unmapped-others}
use Rattle.page_space.proofs.AccountLemmas.{AccountFollows-unmapped, unmapped-account, unmapped-own}
use Rattle.page_space.proofs.ForkLemmas.{unmapped_is}
use Rattle.page_space.proofs.spaces.Space.unmap_page.Goals as goal

pub drop_entry-requires : goal.drop_entry-requires
drop_entry-requires c =
    subst (λ pages. IsNamed pages c.entry-entry.result) (sym (ap (λ h. h.pages) c.clear_entry.ensures.kept))
    (IsNamed-entry c.args.heap.now.nodes c.args.heap.now.pages c.args.self.now c.args.page c.entry-entry.result c.requires.owned.1.pages (sym c.entry-entry.ensures))

pub returns-then-is_mapped_entry-clause-stays : goal.returns-then-is_mapped_entry-clause-stays
returns-then-is_mapped_entry-clause-stays c =
    unmapped-others c.args.heap.now c.clear_entry.new.heap c.drop_entry.new.heap c.args.self.now c.clear_entry.new.self c.args.page
    c.clear_entry.ensures.turns c.clear_entry.ensures.kept c.entry-entry.result c.entry-entry.ensures
    c.drop_entry.ensures.counts c.drop_entry.ensures.named c.drop_entry.ensures.bytes c.drop_entry.ensures.kept
    c.requires.owned.0 c.requires.owned.1

pub returns-then-is_mapped_entry-clause-moves : goal.returns-then-is_mapped_entry-clause-moves
returns-then-is_mapped_entry-clause-moves c =
    unmapped-moves c.args.heap.now c.clear_entry.new.heap c.drop_entry.new.heap c.args.self.now c.clear_entry.new.self c.args.page
    c.clear_entry.ensures.turns c.clear_entry.ensures.kept c.entry-entry.result c.entry-entry.ensures
    c.drop_entry.ensures.counts c.drop_entry.ensures.named c.drop_entry.ensures.bytes c.drop_entry.ensures.kept

pub returns-then-is_mapped_entry-clause-account : goal.returns-then-is_mapped_entry-clause-account
returns-then-is_mapped_entry-clause-account c =
    unmapped-account c.args.heap.now c.clear_entry.new.heap c.drop_entry.new.heap c.args.self.now c.clear_entry.new.self c.args.page c.requires.within
    c.clear_entry.ensures.turns c.clear_entry.ensures.kept c.entry-entry.result c.entry-entry.ensures
    c.drop_entry.ensures.counts c.drop_entry.ensures.others c.drop_entry.ensures.kept c.requires.owned.0 c.requires.owned.1
    (returns-then-is_mapped_entry-clause-moves c)

pub returns-then-is_mapped_entry-clause-own : goal.returns-then-is_mapped_entry-clause-own
returns-then-is_mapped_entry-clause-own c =
    unmapped-own c.args.heap.now c.clear_entry.new.heap c.drop_entry.new.heap c.args.self.now c.clear_entry.new.self c.args.page c.requires.within
    c.clear_entry.ensures.turns c.clear_entry.ensures.kept c.entry-entry.result c.entry-entry.ensures
    c.drop_entry.ensures.counts c.drop_entry.ensures.others c.drop_entry.ensures.kept c.requires.owned.0 c.requires.owned.1
    (returns-then-is_mapped_entry-clause-moves c)

pub returns-else-is_mapped_entry-clause-account : goal.returns-else-is_mapped_entry-clause-account
returns-else-is_mapped_entry-clause-account c =
    AccountFollows-unmapped c.args.heap.now c.args.self.now c.args.page c.requires.within
    (sym c.entry-entry.ensures ∙ unmapped_is c.entry-entry.result (sym c.is_mapped_entry.ensures ∙ c.if-is_mapped_entry.false))
