use Rattle.std.proofs.Common.{◌≡◌, ◌<◌, None, Some, length, ap, ◌∙◌, refl, sym, subst}
use Rattle.std.specs.Option.{option_map}
use Rattle.std.specs.Map.{lookup}
use Rattle.std.specs.Prelude.{nat_eq}
use Rattle.lru_index.specs.Chain.{link_at, link_of}
use Rattle.lru_index.proofs.Table.{set_at}
use Rattle.lru_index.proofs.Chained.{chain_put, chain_item}
use Rattle.lru_index.proofs.chain.Chain.add.Goals as goal

pub returns-clause-added : goal.returns-clause-added
returns-clause-added g c items h =
    let old = c.args.self.now in
    let linked = c.set_warmer.new.self in
    let last = link_of c.args.item old.warmest None in
    let absent : lookup (nat_eq c.args.place) items ≡ None = chain_item old items h c.args.place ∙ ap (option_map (λ u. u.item)) c.requires.free in
    let within : c.args.place < length linked.links.items = subst (λ n. c.args.place < n) (sym c.set_warmer.ensures.places ∙ linked.links.ok.0) c.requires.within in
    chain_put old _ (link_at linked.links.items) c.args.place c.args.item items h absent c.set_warmer.ensures.links (λ q. ap (λ links. link_at links q) c.set_link.ensures.links ∙ set_at linked.links.items c.args.place (Some last) within q) (c.set_link.ensures.coldest ∙ c.set_warmer.ensures.coldest) refl
