use Rattle.open_laws.proofs.ShareLemmas.{Shares}
use Rattle.desc_table.proofs.descriptions.share_descs.Given as goal

abbrev pub invariant-loop-place : goal.invariant-loop-place
invariant-loop-place l = Shares l.initial.heap l.heap l.places l.place-index
