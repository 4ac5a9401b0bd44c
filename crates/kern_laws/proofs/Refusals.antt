-- ENOMEM is answered as a refusal alone.
use Rattle.std.proofs.Common.{List, [], ◌∷◌, ◌++◌}
use Rattle.std.specs.List.{AllByRecursion}
use Rattle.kabi_types.specs.declared.entries.Entry.{Entry}
use Rattle.kabi_types.specs.declared.entries.Entry.TheVariants as entry
use Rattle.kabi_types.specs.declared.scripts.Script.{Script}
use Rattle.posix_defs.specs.Plain.{call_of}
use Rattle.kern_laws.proofs.Errors.{never_wants}
use Rattle.posix_defs.specs.History.{Past, IsRun, boots, goes_on, MayFollow, WantsNothing}

entry_wants_nothing : (script : Script) (past next : Past) (added : Entry) → MayFollow script past added next → WantsNothing added
entry_wants_nothing script past next (entry.Done pid _ reply) follows = never_wants script past.plain follows.plain pid (call_of script past.plain pid) reply follows.answers
entry_wants_nothing script past next (entry.Part _ _ _) follows = tt
entry_wants_nothing script past next (entry.Refused _ _ _) follows = tt
entry_wants_nothing script past next (entry.Slept _ _) follows = tt
entry_wants_nothing script past next (entry.Ended _ _ _) follows = tt
entry_wants_nothing script past next (entry.Gone _ _) follows = tt
entry_wants_nothing script past next (entry.Killed _ _ _ _) follows = tt
entry_wants_nothing script past next (entry.Evicted _) follows = tt

all_and_one : (history : List Entry) (added : Entry) → AllByRecursion WantsNothing history → WantsNothing added → AllByRecursion WantsNothing (history ++ added ∷ [])
all_and_one [] added all one = (one, tt)
all_and_one (first ∷ history) added all one = (all.0, all_and_one history added all.1 one)

pub wants_nothing : {script : Script} {history : List Entry} {past : Past} → IsRun script history past → AllByRecursion WantsNothing history
wants_nothing boots = tt
wants_nothing {script} (goes_on history past next added before follows) =
    all_and_one history added (wants_nothing before) (entry_wants_nothing script past next added follows)
