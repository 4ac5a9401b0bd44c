-- A printed text of one piece for each element of a list.
use Rattle.std.proofs.Common.{◌≡◌, ◌≤◌, ℕ, List, [], ◌∷◌, ◌++◌, map, take, length, Option, refl, sym, ap, subst, get_or, ◌+◌, ◌<◌, ◌∙◌}
use Rattle.std.specs.List.{flat_map}
use Rattle.std.proofs.lemmas.List.{append_assoc, append-nil, take_all, take_more}
use Rattle.std.proofs.lemmas.List.Folds.{flat_map-map}
use Rattle.std.proofs.lemmas.Grind.{flat_map-append}
use Rattle.posix_defs.specs.Canonical.{further_words, word_text, words_text}
use Rattle.posix_defs.specs.Lines.{blank}
use Rattle.posix_defs.specs.declared.said.Word.{Word}
use Rattle.script_print.specs.Printing.{Adds}

-- two texts, one behind the other
pub adds_both : {a b c : Option (List ℕ)} {s t : List ℕ} → Adds a s b → Adds b t c → Adds a (s ++ t) c
adds_both {a} {b} {c} {s} {t} first second = record {
  is = λ now is.
      let mid = second.is now is in
      let old = first.is mid.0 mid.1 in
      (old.0, old.1, mid.2 ∙ ap (λ l. l ++ t) old.2 ∙ append_assoc old.0 s t);
}

-- a text that is spelled in another way
pub adds_same : {a b : Option (List ℕ)} {s t : List ℕ} → s ≡ t → Adds a s b → Adds a t b
adds_same {a} {b} same adds = subst (λ text. Adds a text b) same adds

-- the last word of a line, before which its blank stands already
pub last_added : {a b : Option (List ℕ)} {text : List ℕ} → Adds a text b → Adds a (text ++ []) b
last_added {a} {b} {text} adds = adds_same (sym (append-nil text)) adds

further_of : (front back : List Word) → further_words front ++ further_words back ≡ further_words (front ++ back)
further_of front back = sym (flat_map-append (λ word. blank ++ word_text word) front back)

-- words, and then further ones
pub words_added : {a b c : Option (List ℕ)} (first : Word) (front back : List Word) → Adds a (words_text (first ∷ front)) b → Adds b (further_words back) c
    → Adds a (words_text (first ∷ front ++ back)) c
words_added first front back words further =
    adds_same (append_assoc (word_text first) (further_words front) (further_words back) ∙ ap (λ l. word_text first ++ l) (further_of front back))
    (adds_both words further)

-- words with a blank behind each, before a word and its further ones
pub words_before : (front : List Word) (word : Word) (back : List Word)
    → flat_map (λ word. word_text word ++ blank) front ++ words_text (word ∷ back) ≡ words_text (front ++ word ∷ back)
words_before [] word back = refl
words_before (first ∷ []) word back = append_assoc (word_text first ++ blank) [] (words_text (word ∷ back)) ∙ append_assoc (word_text first) blank (words_text (word ∷ back))
words_before (first ∷ second ∷ front) word back =
    append_assoc (word_text first ++ blank) (flat_map (λ word. word_text word ++ blank) (second ∷ front)) (words_text (word ∷ back))
    ∙ ap (λ l. (word_text first ++ blank) ++ l) (words_before (second ∷ front) word back)
    ∙ append_assoc (word_text first) blank (words_text (second ∷ front ++ word ∷ back))

-- Where all elements are taken, the text is that of the whole list.
pub all_printed : {X Y : Type 0} (old new : Option (List ℕ)) (piece : Y → List ℕ) (of : X → Y) (count : ℕ) (xs : List X) → length xs ≤ count
    → Adds old (flat_map (λ x. piece (of x)) (take count xs)) new → Adds old (flat_map piece (map of xs)) new
all_printed old new piece of count xs all adds =
    let same : flat_map (λ x. piece (of x)) (take count xs) ≡ flat_map piece (map of xs) =
    ap (flat_map (λ x. piece (of x))) (take_all count xs all) ∙ sym (flat_map-map piece of xs) in
    adds_same same adds

-- the pieces of several lists, one list behind another
nested : {X Y : Type 0} (piece : Y → List ℕ) (of : X → List Y) (xs : List X) → flat_map (λ x. flat_map piece (of x)) xs ≡ flat_map piece (flat_map of xs)
nested piece of [] = refl
nested piece of (x ∷ xs) = ap (λ l. flat_map piece (of x) ++ l) (nested piece of xs) ∙ sym (flat_map-append piece (of x) (flat_map of xs))

pub all_lists_printed : {X Y : Type 0} (old new : Option (List ℕ)) (piece : Y → List ℕ) (of : X → List Y) (count : ℕ) (xs : List X) → length xs ≤ count
    → Adds old (flat_map (λ x. flat_map piece (of x)) (take count xs)) new → Adds old (flat_map piece (flat_map of xs)) new
all_lists_printed old new piece of count xs all adds =
    let same : flat_map (λ x. flat_map piece (of x)) (take count xs) ≡ flat_map piece (flat_map of xs) =
    ap (flat_map (λ x. flat_map piece (of x))) (take_all count xs all) ∙ nested piece of xs in
    adds_same same adds

-- one more element
pub next_printed : {X : Type 0} (old so_far new : Option (List ℕ)) (piece : X → List ℕ) (xs : List X) (count : ℕ) (d : X) → count < length xs
    → Adds old (flat_map piece (take count xs)) so_far → Adds so_far (piece (get_or xs count d)) new
    → Adds old (flat_map piece (take (count + 1) xs)) new
next_printed old so_far new piece xs count d within first second =
    let x = get_or xs count d in
    let same : flat_map piece (take count xs) ++ piece x ≡ flat_map piece (take (count + 1) xs) =
    ap (λ l. flat_map piece (take count xs) ++ l) (sym (append-nil (piece x))) ∙ sym (flat_map-append piece (take count xs) (x ∷ []))
    ∙ ap (flat_map piece) (sym (take_more xs count d within)) in
    adds_same same (adds_both first second)

pub next_item : {X : Type 0} (old so_far new : Option (List ℕ)) (piece : X → List ℕ) (xs : List X) (count : ℕ) (x : X) → count < length xs
    → x ≡ get_or xs count x → Adds old (flat_map piece (take count xs)) so_far → Adds so_far (piece x) new
    → Adds old (flat_map piece (take (count + 1) xs)) new
next_item old so_far new piece xs count x within is first second =
    next_printed old so_far new piece xs count x within first (adds_same (ap piece is) second)
