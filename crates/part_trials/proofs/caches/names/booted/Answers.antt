use Rattle.std.proofs.Common.{◌/◌, sym, ap, subst}
use Rattle.kabi_types.specs.Class.{size}
use Rattle.kabi_types.specs.declared.classes.Class.TheVariants as class
use Rattle.name_cache.specs.Names.{same_key, key_of, KeepsNames}
use Rattle.cache_laws.proofs.KeepsLemmas.{keeps_none}
use Rattle.part_trials.proofs.caches.names.booted.Goals as goal

pub returns : goal.returns
returns c = subst (KeepsNames c.in_ok-heap.heap.names) (sym c.in_ok-cache.ensures.empty) (keeps_none same_key key_of (65536 / size class.Name) c.args.capacity c.in_ok-heap.heap.names (ap (λ h. h.names) c.in_ok-heap.ensures.empty))
