use Rattle.std.proofs.Common.{◌≡◌, ◌≤◌, length, Ok, subst, sym}
use Rattle.std.specs.Prelude.{string_bytes}
use Rattle.std.proofs.lemmas.Result.{IfOk-weaker}
use Rattle.posix_defs.specs.Canonical.{canonical}
use Rattle.posix_defs.specs.ScriptText.{ReadsText}
use Rattle.posix_defs.specs.ValidScript.{IsValid}
use Rattle.script_parse.proofs.PrintedScripts.{canonical_reads}
use Rattle.script_parse.proofs.scripts.print.Goals as goal

pub returns-clause-reads : goal.returns-clause-reads
returns-clause-reads c =
    let script = c.args.script.now in
    IfOk-weaker c.canonical_text.result (λ text. string_bytes text ≡ canonical script)
    (λ text. IsValid script → length (string_bytes text) ≤ 1048576 → ReadsText (string_bytes text) (Ok script))
    (λ text is valid short. subst (λ l. ReadsText l (Ok script)) (sym is) (canonical_reads script valid (subst (λ l. length l ≤ 1048576) is short)))
    c.canonical_text.ensures
