use Rattle.std.proofs.Common.{◌≡◌, ◌<◌, None, Some, length, ap, ◌∙◌, sym}
use Rattle.std.specs.Option.{option_map}
use Rattle.lru_index.specs.Chain.{link_at, end_after}
use Rattle.lru_index.proofs.Table.{set_at, within_table}
use Rattle.lru_index.proofs.Chained.{chain_removed, chain_item}
use Rattle.lru_index.proofs.chain.Chain.remove.Goals as goal

pub returns-clause-item : goal.returns-clause-item
returns-clause-item g c items h = chain_item c.args.self.now items h c.args.place ∙ ap (option_map (λ u. u.item)) (sym c.link.ensures.value ∙ c.in-Some.is)

pub returns-clause-removed : goal.returns-clause-removed
returns-clause-removed g c items h =
    let old = c.args.self.now in
    let gone = c.in-Some.gone in
    let there : link_at old.links.items c.args.place ≡ Some gone = sym c.link.ensures.value ∙ c.in-Some.is in
    let found = chain_item old items h c.args.place ∙ ap (option_map (λ u. u.item)) there in
    let within : c.args.place < length old.links.items = within_table old.links.items c.args.place c.requires.there in
    chain_removed old c.set_colder.new.self (link_at c.set_link.new.self.links.items) (link_at c.set_warmer.new.self.links.items) c.args.place gone items h found there (λ q. ap (λ links. link_at links q) c.set_link.ensures.links ∙ set_at old.links.items c.args.place None within q) c.set_warmer.ensures.links c.set_colder.ensures.links (c.set_colder.ensures.coldest ∙ c.set_warmer.ensures.coldest ∙ ap (end_after gone.colder gone.warmer) c.set_link.ensures.coldest) (c.set_colder.ensures.warmest ∙ ap (end_after gone.warmer gone.colder) (c.set_warmer.ensures.warmest ∙ c.set_link.ensures.warmest))
