use Rattle.vnode_cache.proofs.cache.VnodeCache.evict_coldest.Goals as goal

pub remove-requires-clause-there : goal.remove-requires-clause-there
remove-requires-clause-there c = c.in-Some.ensures.coldest.1

pub remove-requires-clause-loose : goal.remove-requires-clause-loose
remove-requires-clause-loose c = c.in-Some.ensures.coldest.0.loose
