-- What a line of a history claims: who did what. Nothing of calls, replies, counts and statuses is read.
use Rattle.std.specs.Prelude.{ℕ, if◌then◌else◌, List, Option, None, Some, option_map, option_and_then, codes}
use Rattle.std.specs.Str.{bytes_eq}
use Rattle.kabi_types.specs.declared.entries.Cached.{Cached}
use Rattle.kabi_types.specs.declared.entries.Cached.TheVariants as cached
use Rattle.run_pasts.specs.declared.claims.Claim.{Claim}
use Rattle.run_pasts.specs.declared.claims.Claim.TheVariants.{Did, Killed, Evicted}
use Rattle.run_pasts.specs.declared.claims.Deed.{Deed}
use Rattle.run_pasts.specs.declared.claims.Deed.TheVariants as deed
use Rattle.claim_lines.specs.Words.{first_word, pid_named, rest_of}

-- what a word says that a process did
abbrev pub deed_named : List ℕ → Option Deed
deed_named word =
    if bytes_eq word (codes "done") then Some deed.Done
    else (if bytes_eq word (codes "part") then Some deed.Part
    else (if bytes_eq word (codes "refused") then Some deed.Refused
    else (if bytes_eq word (codes "sleep") then Some deed.Slept
    else (if bytes_eq word (codes "ended") then Some deed.Ended
    else (if bytes_eq word (codes "gone") then Some deed.Gone else None)))))

-- the cache that a word names
abbrev pub cache_named : List ℕ → Option Cached
cache_named word =
    if bytes_eq word (codes "name") then Some cached.Name
    else (if bytes_eq word (codes "block") then Some cached.Block
    else (if bytes_eq word (codes "vnode") then Some cached.Vnode else None))

-- of a process, what a word says that it did, or whom the second word of the rest names, for whom it was killed
abbrev pub claim_of_pid : ℕ → List ℕ → List ℕ → Option Claim
claim_of_pid pid what rest =
    if bytes_eq what (codes "killed") then option_map (λ waiter. Killed pid waiter) (pid_named (first_word (rest_of rest)))
    else option_map (λ deed. Did pid deed) (deed_named what)

-- of a cache, or of the process that the first word names
abbrev pub claim_by : List ℕ → List ℕ → List ℕ → Option Claim
claim_by who what rest =
    if bytes_eq who (codes "evict") then option_map (λ cache. Evicted cache) (cache_named what)
    else option_and_then (λ pid. claim_of_pid pid what rest) (pid_named who)

-- by the words behind the number; None where they claim nothing
unfoldable pub claim_of : List ℕ → Option Claim
claim_of line = let said = rest_of line in let more = rest_of said in claim_by (first_word said) (first_word more) (rest_of more)
