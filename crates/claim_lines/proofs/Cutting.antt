-- How far a word goes, and what its digits say, as a loop comes along.
use Rattle.std.proofs.Common.{◌≡◌, ℕ, ◌+◌, ◌<◌, ◌≤◌, Bool, true, false, cond, List, [], ◌∷◌, ◌++◌, length, get_or, take, drop, Option, None, Some, option_and_then, refl, ap, sym, ◌∙◌, append_assoc, arith}
use Rattle.std.proofs.lemmas.Bool.{cond-false, cond-true}
use Rattle.std.proofs.lemmas.List.{append-nil, at_drop_all, at_drop_more, take_more, take_all}
use Rattle.claim_lines.specs.Words.{first_word, is_gap, more_by, number_after, rest_of}

-- so far no word ended, where a word is looked for from the front of these bytes
pub record NotYet (bytes : List ℕ) (at : ℕ) : Type 0 where
  pub word : first_word bytes ≡ take at bytes ++ first_word (drop at bytes)
  pub rest : rest_of bytes ≡ rest_of (drop at bytes)

pub none_yet : (bytes : List ℕ) → NotYet bytes 0
none_yet bytes = record { word = refl; rest = refl }

-- it ends here
pub word_here : (bytes : List ℕ) (at : ℕ) → NotYet bytes at → at < length bytes → is_gap (get_or bytes at 0) ≡ true → take at bytes ≡ first_word bytes
word_here bytes at so lt ends =
    sym (so.word ∙ ap (λ w. take at bytes ++ w) (at_drop_more first_word bytes at 0 lt ∙ cond-true (is_gap (get_or bytes at 0)) [] _ ends) ∙ append-nil (take at bytes))

pub rest_here : (bytes : List ℕ) (at : ℕ) → NotYet bytes at → at < length bytes → is_gap (get_or bytes at 0) ≡ true → drop (at + 1) bytes ≡ rest_of bytes
rest_here bytes at so lt ends =
    sym (so.rest ∙ at_drop_more rest_of bytes at 0 lt ∙ cond-true (is_gap (get_or bytes at 0)) (drop (at + 1) bytes) _ ends)

-- it doesn't end here
pub not_here : (bytes : List ℕ) (at : ℕ) → NotYet bytes at → at < length bytes → is_gap (get_or bytes at 0) ≡ false → NotYet bytes (at + 1)
not_here bytes at so lt goes = record {
  word =
      so.word ∙ ap (λ w. take at bytes ++ w) (at_drop_more first_word bytes at 0 lt ∙ cond-false (is_gap (get_or bytes at 0)) [] _ goes)
      ∙ sym (append_assoc (take at bytes) (get_or bytes at 0 ∷ []) (first_word (drop (at + 1) bytes)))
      ∙ ap (λ w. w ++ first_word (drop (at + 1) bytes)) (sym (take_more bytes at 0 lt));
  rest = so.rest ∙ at_drop_more rest_of bytes at 0 lt ∙ cond-false (is_gap (get_or bytes at 0)) _ (rest_of (drop (at + 1) bytes)) goes;
}

-- it ends nowhere
pub word_all : (bytes : List ℕ) (at : ℕ) → NotYet bytes at → length bytes ≤ at → bytes ≡ first_word bytes
word_all bytes at so le =
    sym (so.word ∙ ap (λ w. take at bytes ++ w) (at_drop_all first_word bytes at le) ∙ append-nil (take at bytes) ∙ take_all at bytes le)

pub rest_none : (bytes : List ℕ) (at : ℕ) → NotYet bytes at → length bytes ≤ at → [] ≡ rest_of bytes
rest_none bytes at so le = sym (so.rest ∙ at_drop_all rest_of bytes at le)

-- the number goes on with one digit more
pub digit_more : (n : ℕ) (digits : List ℕ) (at : ℕ) → at < length digits
    → number_after n (drop at digits) ≡ option_and_then (λ more. number_after more (drop (at + 1) digits)) (more_by n (get_or digits at 0))
digit_more n digits at lt = at_drop_more (number_after n) digits at 0 lt
