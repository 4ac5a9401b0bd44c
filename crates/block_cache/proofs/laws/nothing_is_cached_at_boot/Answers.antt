use Rattle.std.proofs.Common.{None, nat_eq, refl, replicate}
use Rattle.kheap_slabs.specs.declared.objects.Block.{Block}
use Rattle.cache_laws.proofs.KeepsLemmas.{keeps_none}
use Rattle.block_cache.proofs.laws.nothing_is_cached_at_boot.Goals as goal

pub returns-clause-keeps : goal.returns-clause-keeps
returns-clause-keeps c limit capacity = keeps_none nat_eq (λ (b : Block). b.number) limit capacity (replicate limit None) refl
