-- Lines that tell what may come next.
use Rattle.std.specs.Prelude.{ℕ, ◌<◌, ◌^◌, if◌then◌else◌, List, Option, None, Some, option_and_then}
use Rattle.std.specs.Str.{bytes_eq}
use Rattle.kabi_types.specs.declared.scripts.Script.{Script}
use Rattle.posix_defs.specs.History.{Past}
use Rattle.posix_defs.specs.Lines.{entry_line}
use Rattle.run_pasts.specs.Turns.{Step, turn_of}
use Rattle.run_pasts.specs.declared.claims.Claim.{Claim}
use Rattle.run_pasts.specs.declared.claims.Claim.TheVariants.{Did, Killed, Evicted}
use Rattle.claim_lines.specs.Claims.{claim_of}

-- the pids of a claim have 32 bits, as all have that processes get
abbrev pub HasPids : Claim → Type 0
HasPids (Did pid _) = pid < 2 ^ 32
HasPids (Killed pid waiter) = (pid < 2 ^ 32) × (waiter < 2 ^ 32)
HasPids (Evicted _) = Unit {0}

-- where a step leads, if this is the line of its entry
abbrev pub next_told : ℕ → List ℕ → Option Step → Option Past
next_told j line None = None
next_told j line (Some step) = if bytes_eq (entry_line j step.added) line then Some step.next else None

-- Where a line of this number leads: what it claims is expected, and printed, and compared with it. None where no entry of that
-- line may come next.
abbrev pub line_leads : Script → Past → ℕ → List ℕ → Option Past
line_leads script past j line = next_told j line (option_and_then (turn_of script past) (claim_of line))
