use Rattle.std.proofs.Common.{◌≡◌, ℕ, List, [], ◌∷◌, ◌++◌, ap, sym, subst, ◌∙◌}
use Rattle.std.specs.Prelude.{codes}
use Rattle.std.specs.List.{flat_map}
use Rattle.std.proofs.lemmas.Grind.{flat_map-append}
use Rattle.std.proofs.lemmas.List.{append_assoc}
use Rattle.posix_defs.specs.Canonical.{chooser_lines, line_text, number_word, policy_text, program_lines}
use Rattle.posix_defs.specs.declared.said.Word.{Word}
use Rattle.posix_defs.specs.declared.said.Word.TheVariants.{Bare}
use Rattle.script_print.specs.Printing.{Adds}
use Rattle.script_print.proofs.Printed.{adds_both}
use Rattle.script_print.proofs.printing.push_script.Goals as goal

grouped : (a b c d e f : List ℕ) → ((((a ++ b) ++ c) ++ d) ++ e) ++ f ≡ a ++ (b ++ (c ++ (d ++ (e ++ f))))
grouped a b c d e f = simp append_assoc

lines_of : (a b c d : List Word) (chooser programs : List (List Word))
    → ((((line_text a ++ line_text b) ++ line_text c) ++ line_text d) ++ flat_map line_text chooser) ++ flat_map line_text programs
    ≡ flat_map line_text (a ∷ b ∷ c ∷ d ∷ chooser ++ programs)
lines_of a b c d chooser programs =
    grouped (line_text a) (line_text b) (line_text c) (line_text d) (flat_map line_text chooser) (flat_map line_text programs)
    ∙ ap (λ rest. line_text a ++ (line_text b ++ (line_text c ++ (line_text d ++ rest)))) (sym (flat_map-append line_text chooser programs))

pub returns : goal.returns
returns c =
    let script = c.args.script.now in
    let settings = adds_both (adds_both (adds_both c.push_setting.ensures c.push_setting-2.ensures) c.push_setting-3.ensures) c.push_policy.ensures in
    let all = adds_both (adds_both settings c.push_chooser.ensures) c.push_programs.ensures in
    rw (← c.from.ensures, ← c.from-2.ensures, ← c.items.ensures)
    (subst (λ text. Adds c.args.out.now text c.push_programs.new.out)
    (lines_of (Bare (codes "heap") ∷ number_word script.heap ∷ []) (Bare (codes "disk") ∷ number_word c.from.result ∷ [])
    (Bare (codes "steps") ∷ number_word c.from-2.result ∷ []) (Bare (codes "policy") ∷ Bare (policy_text script.policy) ∷ [])
    (chooser_lines script.chooser) (flat_map program_lines c.items.result.now)) all)
