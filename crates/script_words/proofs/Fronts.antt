-- What was read, before what is still to be read.
use Rattle.std.proofs.Common.{◌≡◌, ◌≤◌, length, arith, ℕ, List, [], ◌∷◌, ◌++◌, Option, None, Some, option_map, refl, ap, sym}
use Rattle.std.proofs.lemmas.List.{append_assoc, length-append}
use Rattle.posix_defs.specs.declared.said.Word.{Word}
use Rattle.posix_defs.specs.ScriptWords.{with_byte, with_word}

abbrev pub before_text : List ℕ → Option (List ℕ × List ℕ) → Option (List ℕ × List ℕ)
before_text text said = option_map (λ p. (text ++ p.0, p.1)) said

pub next_byte : (text : List ℕ) (byte : ℕ) (said : Option (List ℕ × List ℕ)) → before_text text (with_byte byte said) ≡ before_text (text ++ byte ∷ []) said
next_byte text byte None = refl
next_byte text byte (Some p) = ap (λ t. Some (t, p.1)) (sym (append_assoc text (byte ∷ []) p.0))

abbrev pub before_words : List Word → Option (List Word) → Option (List Word)
before_words words said = option_map (λ more. words ++ more) said

pub next_word : (words : List Word) (word : Word) (said : Option (List Word)) → before_words words (with_word word said) ≡ before_words (words ++ word ∷ []) said
next_word words word None = refl
next_word words word (Some more) = ap Some (sym (append_assoc words (word ∷ []) more))

-- what follows a front isn't longer
pub rest_shorter : (line front rest : List ℕ) → line ≡ front ++ rest → length rest ≤ length line
rest_shorter line front rest is = omega (arith, ap length is, length-append front rest)

pub no_bytes : (line : List ℕ) → length line ≡ 0 → [] ≡ line
no_bytes [] none = refl
no_bytes (byte ∷ line) none = absurd (omega (arith, none))
