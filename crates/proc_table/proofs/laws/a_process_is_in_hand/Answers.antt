use Rattle.std.proofs.Common.{ap, ◌∙◌}
use Rattle.std.specs.Option.{option_map}
use Rattle.proc_table.specs.Procs.{process_of}
use Rattle.proc_table.proofs.AccountLemmas.{accounted_of}
use Rattle.proc_table.proofs.FamilyLemmas.{process_is}
use Rattle.proc_table.proofs.MemoryLemmas.{length-memory_at, memory_at-stands}
use Rattle.proc_table.proofs.PlaceLemmas.{key_of-none, key_of-proc}
use Rattle.proc_table.proofs.SpaceLemmas.{owned_proc}
use Rattle.proc_table.specs.Table.{processes}
use Rattle.proc_table.proofs.laws.a_process_is_in_hand.Goals as goal

pub returns-clause-key : goal.returns-clause-key
returns-clause-key c = λ h kept pid key holds found.
    let named = key_of-proc h.procs kept.listed pid key holds.stored found in (named.0, named.1, named.3)

pub returns-clause-none : goal.returns-clause-none
returns-clause-none c = λ h kept pid holds none. key_of-none h.procs kept.listed pid holds.stored none

pub returns-clause-there : goal.returns-clause-there
returns-clause-there c = λ h kept table pid proc is there. process_is h table (processes h kept) pid is.present ∙ ap (option_map (process_of h)) there

pub returns-clause-gone : goal.returns-clause-gone
returns-clause-gone c = λ h kept table pid is none. process_is h table (processes h kept) pid is.present ∙ ap (option_map (process_of h)) none

pub returns-clause-space : goal.returns-clause-space
returns-clause-space c = λ h kept pid proc holds there. owned_proc h kept holds pid proc there

pub returns-clause-stands : goal.returns-clause-stands
returns-clause-stands c = memory_at-stands

pub returns-clause-whole : goal.returns-clause-whole
returns-clause-whole c = length-memory_at

pub returns-clause-account : goal.returns-clause-account
returns-clause-account c = accounted_of
