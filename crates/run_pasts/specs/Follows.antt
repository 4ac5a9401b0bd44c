-- What may come next, computed, and where entries lead.
use Rattle.std.specs.Prelude.{if◌then◌else◌, List, [], ◌∷◌, Option, None, Some, option_map, option_and_then}
use Rattle.kabi_types.specs.declared.entries.Entry.{Entry}
use Rattle.kabi_types.specs.declared.scripts.Script.{Script}
use Rattle.posix_defs.specs.History.{Past, boot_past}
use Rattle.run_pasts.specs.Claims.{claim_of_entry}
use Rattle.run_pasts.specs.SameEntry.{is_same_entry}
use Rattle.run_pasts.specs.Turns.{Step, turn_of}
use Rattle.run_pasts.specs.declared.claims.Claim.{Claim}

-- the one entry of a claim that may come next; None where none may
abbrev pub expected : Script → Past → Claim → Option Entry
expected script past claim = option_map (λ step. step.added) (turn_of script past claim)

-- where a step leads, if it is to this entry
abbrev pub next_by : Entry → Option Step → Option Past
next_by added None = None
next_by added (Some step) = if is_same_entry step.added added then Some step.next else None

-- where an entry leads that may come next: it is the one that is expected of who did what by it; None where it may not
abbrev pub follows : Script → Past → Entry → Option Past
follows script past added = next_by added (turn_of script past (claim_of_entry added))

-- where entries lead, one after another, from a past on; None where one of them may not come next
abbrev pub led_on : Script → Past → List Entry → Option Past
led_on script past [] = Some past
led_on script past (added ∷ rest) = option_and_then (λ next. led_on script next rest) (follows script past added)

-- where a history leads from boot on; None where it is no legal one
abbrev pub past_of : Script → List Entry → Option Past
past_of script history = led_on script (boot_past script) history
