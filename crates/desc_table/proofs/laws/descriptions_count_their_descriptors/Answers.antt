use Rattle.std.proofs.Common.{◌<◌, sym, subst}
use Rattle.open_laws.specs.Owned.{HasItsOwners}
use Rattle.open_laws.proofs.GoingLemmas.{no_chunk, no_desc, no_pipe, no_sock_left}
use Rattle.desc_table.proofs.GoingLemmas.{counted_there, owners_on}
use Rattle.desc_table.proofs.laws.descriptions_count_their_descriptors.Goals as goal

pub returns-clause-counts : goal.returns-clause-counts
returns-clause-counts c = λ old new had hand owners goes key. (owners_on goes owners).named.counts key

pub returns-clause-there : goal.returns-clause-there
returns-clause-there c = λ old new had hand owners goes key.
    let now : HasItsOwners new hand = owners_on goes owners in (
      (λ used. subst (λ n. 0 < n) (now.named.counts key) (now.named.named key used)),
      (λ some. counted_there new key (subst (λ n. 0 < n) (sym (now.named.counts key)) some)),
    )

pub returns-clause-owners : goal.returns-clause-owners
returns-clause-owners c = λ old new had hand owners goes. owners_on goes owners

pub returns-clause-none : goal.returns-clause-none
returns-clause-none c = λ old new had owners goes unnamed key.
    let now = owners_on goes owners in (no_desc new now unnamed key, no_pipe new now unnamed key, no_sock_left new now unnamed key, no_chunk new now unnamed key)
