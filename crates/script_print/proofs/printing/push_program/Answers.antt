use Rattle.std.proofs.Common.{[], ◌∷◌, map, ap, sym}
use Rattle.std.specs.Prelude.{codes}
use Rattle.std.specs.List.{flat_map}
use Rattle.std.proofs.lemmas.Grind.{flat_map-append}
use Rattle.posix_defs.specs.Canonical.{line_text, shown_bytes, statement_words}
use Rattle.posix_defs.specs.declared.said.Word.TheVariants.{Bare}
use Rattle.script_print.proofs.Printed.{adds_both, adds_same, last_added}
use Rattle.script_print.proofs.printing.push_program.Goals as goal

pub returns : goal.returns
returns c =
    let program = c.args.program.now in
    let name = adds_same (ap shown_bytes c.items.ensures.same) c.push_name.ensures in
    let first = adds_both (adds_both c.push.ensures (last_added name)) c.push-2.ensures in
    let body = adds_same (ap (λ body. flat_map line_text (map (statement_words body) body)) c.items-2.ensures) c.push_body.ensures in
    let more = sym (flat_map-append line_text (map (statement_words program.body) program.body) ((Bare (codes "end") ∷ []) ∷ [])) in
    adds_both first (adds_same more (adds_both body c.push-3.ensures))
