-- What an entry says, without how it came out.
use Rattle.kabi_types.specs.declared.entries.Entry.{Entry}
use Rattle.kabi_types.specs.declared.entries.Entry.TheVariants as entry
use Rattle.run_pasts.specs.declared.claims.Claim.{Claim}
use Rattle.run_pasts.specs.declared.claims.Claim.TheVariants.{Did, Killed, Evicted}
use Rattle.run_pasts.specs.declared.claims.Deed.TheVariants as deed

-- who did what: nothing of the kind of the call, of replies, counts and statuses
abbrev pub claim_of_entry : Entry → Claim
claim_of_entry (entry.Done pid _ _) = Did pid deed.Done
claim_of_entry (entry.Part pid _ _) = Did pid deed.Part
claim_of_entry (entry.Refused pid _ _) = Did pid deed.Refused
claim_of_entry (entry.Slept pid _) = Did pid deed.Slept
claim_of_entry (entry.Ended pid _ _) = Did pid deed.Ended
claim_of_entry (entry.Gone pid _) = Did pid deed.Gone
claim_of_entry (entry.Killed pid waiter _ _) = Killed pid waiter
claim_of_entry (entry.Evicted what) = Evicted what
