use Rattle.std.proofs.Common.{ℕ, List, ◌++◌, length, ap}
use Rattle.std.proofs.lemmas.List.{drop-replicate}
use Rattle.lru_index.specs.declared.keys.NameKey.{NameKey}
use Rattle.lru_index.proofs.keys.NameKey.of_bytes.Goals as goal

with_back : ℕ → List ℕ → List ℕ → NameKey
with_back dir bytes back = record { dir = dir; len = length bytes; name = bytes ++ back }

pub returns : goal.returns
unfolding with_back
returns c =
    rw c.copy_from_slice.ensures.after (ap (with_back c.args.dir c.args.name.now) (drop-replicate (length c.args.name.now) 27 0))
