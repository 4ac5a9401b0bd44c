use Rattle.std.proofs.Common.{sym, ap, ◌∙◌, subst}
use Rattle.lru_index.specs.Keys.{same_name}
use Rattle.name_cache.specs.Names.{key_of, name_slot, KeepsNames}
use Rattle.name_cache.proofs.KeyLemmas.{same_key_laws}
use Rattle.cache_laws.proofs.KeepsLemmas.{keeps_used, keeps_touched}
use Rattle.name_cache.proofs.cache.NameCache.get.Goals as goal

pub get_name-requires : goal.get_name-requires
get_name-requires c = keeps_used same_key_laws same_name key_of c.args.heap.now.names c.args.self.now c.args.key c.in-Some.slot c.requires.keeps (ap (λ o. name_slot o c.args.key) (sym c.self.view_is) ∙ sym c.in-Some.ensures.slot)

pub returns-clause-keeps : goal.returns-clause-keeps
returns-clause-keeps c =
    keeps_touched same_key_laws same_name key_of c.args.heap.now.names c.self.inside.slots c.used.new.self c.args.key (subst (KeepsNames c.args.heap.now.names) (sym c.self.view_is) c.requires.keeps) c.used.ensures.finds c.used.ensures.pairs

pub returns-clause-same : goal.returns-clause-same
returns-clause-same c other = c.used.ensures.finds other ∙ ap (λ o. name_slot o other) c.self.view_is
