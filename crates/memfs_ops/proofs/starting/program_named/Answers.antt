use Rattle.std.proofs.Common.{nat_eq, Some, None, ap, ◌∙◌, rules, tests}
use Rattle.std.specs.List.{starts_with}
use Rattle.std.specs.Option.{ok_or}
use Rattle.std.proofs.lemmas.Iterator.{YieldsList-from_slice}
use Rattle.std.proofs.lemmas.Iterator.Adapters.{position_from-zero}
use Rattle.std.proofs.lemmas.Iterator.Search.{position_from_yields_List}
use Rattle.kabi_types.specs.declared.scripts.Program.{Program}
use Rattle.kabi_types.specs.declared.errnos.Errno.TheVariants.{ENOEXEC}
use Rattle.posix_defs.specs.PathCalls.{first_line}
use Rattle.memfs_ops.proofs.starting.program_named.Goals as goal

pub returns-in-Some : goal.returns-in-Some
returns-in-Some c =
    let is = position_from_yields_List (λ (program : Program). starts_with nat_eq c.args.bytes.now (first_line program)) _ _ (Some c.in-Some.place) c.in-Some.ensures.ran (YieldsList-from_slice c.args.programs.now cc) (λ x b q k. search (rules, tests)) in
    ap (λ o. ok_or o ENOEXEC) (is ∙ position_from-zero (λ (program : Program). starts_with nat_eq c.args.bytes.now (first_line program)) c.args.programs.now)

pub returns-in-None : goal.returns-in-None
returns-in-None c =
    let is = position_from_yields_List (λ (program : Program). starts_with nat_eq c.args.bytes.now (first_line program)) _ _ None c.in-None.ensures.ran (YieldsList-from_slice c.args.programs.now cc) (λ x b q k. search (rules, tests)) in
    ap (λ o. ok_or o ENOEXEC) (is ∙ position_from-zero (λ (program : Program). starts_with nat_eq c.args.bytes.now (first_line program)) c.args.programs.now)
