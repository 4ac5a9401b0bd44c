use Rattle.std.proofs.Common.{◌≡◌, ◌∙◌, Some}
use Rattle.vnode_cache.proofs.TrueLemmas.{filled_true, told_true, absent_true, pinned_true}
use Rattle.vnode_cache.proofs.laws.a_cache_stays_true.Goals as goal

pub returns-clause-filled : goal.returns-clause-filled
returns-clause-filled c table = filled_true (λ n i. table n ≡ Some i)

pub returns-clause-told : goal.returns-clause-told
returns-clause-told c table next objects cache number slot was inode are keeps agrees = told_true (λ n i. table n ≡ Some i) (λ n i. next n ≡ Some i) objects cache number slot was inode are keeps (λ other x differs is. agrees other differs ∙ is)

pub returns-clause-absent : goal.returns-clause-absent
returns-clause-absent c table next objects cache number are keeps agrees = absent_true (λ n i. table n ≡ Some i) (λ n i. next n ≡ Some i) objects cache number are keeps (λ other x differs is. agrees other differs ∙ is)

pub returns-clause-pinned : goal.returns-clause-pinned
returns-clause-pinned c table = pinned_true (λ n i. table n ≡ Some i)
