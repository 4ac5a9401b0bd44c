-- Lines that are cut off a text, one by one.
use Rattle.std.proofs.Common.{◌≡◌, ℕ, zero, suc, ◌+◌, ◌-◌, ◌≤◌, ◌==◌, false, true, List, [], ◌∷◌, ◌++◌, length, take, refl, sym, ap, ◌∙◌, subst, arith}
use Rattle.std.specs.Prelude.{if◌then◌else◌}
use Rattle.std.specs.List.{All}
use Rattle.std.proofs.Math.Seq.{take-append_seam, take-append-add}
use Rattle.std.proofs.lemmas.List.{length-append}
use Rattle.std.proofs.lemmas.List.Splits.{join_with_byte-slice_split, slice_split_at, slice_split_none}
use Rattle.std.proofs.lemmas.List.Elements.{All-append}
use Rattle.posix_defs.specs.ScriptWords.{ends_word, is_blank}
use Rattle.group_heap.specs.Texts.{BeginsSection, IsWithin, StartsSection, lines_of, text_of, up_to_blank}

-- how many bytes lines have, each with a newline behind it
abbrev pub bytes_of : List (List ℕ) → ℕ
bytes_of [] = 0
bytes_of (line ∷ lines) = length line + 1 + bytes_of lines

pub bytes_more : (lines : List (List ℕ)) (line : List ℕ) → bytes_of (lines ++ line ∷ []) ≡ bytes_of lines + (length line + 1)
bytes_more [] line = omega arith
bytes_more (first ∷ lines) line = let more = bytes_more lines line in omega arith

pub length_more : (lines : List (List ℕ)) (line : List ℕ) → length (lines ++ line ∷ []) ≡ length lines + 1
length_more lines line = omega (arith, length-append lines (line ∷ []))

-- a text is its lines, put together
pub joined : (text : List ℕ) → text_of (lines_of text) ≡ text
joined text = join_with_byte-slice_split 10 text

-- The lines that stand before another one are so many of the bytes, without the newline behind them.
front_taken : (lines : List (List ℕ)) (line : List ℕ) (rest : List (List ℕ)) → take (bytes_of lines - 1) (text_of (lines ++ line ∷ rest)) ≡ text_of lines
front_taken [] line rest = refl
front_taken (first ∷ []) line rest =
    let long : length first + 1 + 0 - 1 ≡ length first = omega arith in
    ap (λ n. take n (first ++ 10 ∷ text_of (line ∷ rest))) long ∙ take-append_seam first (10 ∷ text_of (line ∷ rest))
front_taken (first ∷ second ∷ lines) line rest =
    let some : length first + 1 + bytes_of (second ∷ lines) - 1 ≡ length first + suc (bytes_of (second ∷ lines) - 1) = omega arith in
    ap (λ n. take n (first ++ 10 ∷ text_of (second ∷ lines ++ line ∷ rest))) some
    ∙ take-append-add first (10 ∷ text_of (second ∷ lines ++ line ∷ rest)) (suc (bytes_of (second ∷ lines) - 1))
    ∙ ap (λ t. first ++ 10 ∷ t) (front_taken (second ∷ lines) line rest)

pub front_of : (text : List ℕ) (lines : List (List ℕ)) (line : List ℕ) (rest : List (List ℕ)) → lines_of text ≡ lines ++ line ∷ rest
    → take (bytes_of lines - 1) text ≡ text_of lines
front_of text lines line rest is = ap (λ t. take (bytes_of lines - 1) t) (sym (joined text) ∙ ap text_of is) ∙ front_taken lines line rest

pub first_line : (text first next : List ℕ) → text ≡ first ++ (10 ∷ next) → All (λ byte. (byte == 10) ≡ false) first → lines_of text ≡ first ∷ lines_of next
first_line text first next is plain = ap lines_of is ∙ slice_split_at (λ byte. byte == 10) first 10 next plain refl

pub last_line : (text : List ℕ) → All (λ byte. (byte == 10) ≡ false) text → lines_of text ≡ text ∷ []
last_line text plain = slice_split_none (λ byte. byte == 10) text plain

first_plain : (byte : ℕ) (word : List ℕ) → All (λ b. is_blank b ≡ false) (byte ∷ word) → is_blank byte ≡ false
first_plain byte word plain = plain zero byte (omega arith)

others_plain : (byte : ℕ) (word : List ℕ) → All (λ b. is_blank b ≡ false) (byte ∷ word) → All (λ b. is_blank b ≡ false) word
others_plain byte word plain = λ k d within. plain (suc k) d (omega (arith, within))

pub word_is : (word rest : List ℕ) → All (λ byte. is_blank byte ≡ false) word → ends_word rest ≡ true → up_to_blank (word ++ rest) ≡ word
word_is [] [] plain ends = refl
word_is [] (byte ∷ rest) plain ends = ap (λ b. if b then [] else byte ∷ up_to_blank rest) ends
word_is (byte ∷ word) rest plain ends =
    ap (λ b. if b then [] else byte ∷ up_to_blank (word ++ rest)) (first_plain byte word plain)
    ∙ ap (λ w. byte ∷ w) (word_is word rest (others_plain byte word plain) ends)

-- a line more that begins no section
pub one_more : (lines : List (List ℕ)) (line : List ℕ) → IsWithin lines → (BeginsSection line → ⊥) → IsWithin (lines ++ line ∷ [])
one_more lines line within none = All-append (λ l. BeginsSection l → ⊥) lines (line ∷ []) within (only line none)
  where
    only : (line : List ℕ) → (BeginsSection line → ⊥) → IsWithin (line ∷ [])
    only line none zero d within = none
    only line none (suc k) d within = absurd (omega (arith, within))

-- each line has a newline
pub no_more : (lines : List (List ℕ)) → length lines ≤ bytes_of lines
no_more [] = omega arith
no_more (line ∷ lines) = let more = no_more lines in omega (arith, more)

pub starts : (line : List ℕ) (lines rest : List (List ℕ)) → rest ≡ line ∷ lines → BeginsSection line → StartsSection rest
starts line lines rest is begins = subst StartsSection (sym is) begins
