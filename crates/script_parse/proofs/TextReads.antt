-- Every text reads in one way: as the reader reads it.
use Rattle.std.proofs.Common.{◌≡◌, ℕ, ◌≤◌, Bool, true, false, ◌==◌, List, [], ◌∷◌, ◌++◌, length, Option, None, Some, Result, Ok, Err, refl, sym, ap, ◌∙◌, subst, append-nil, append_assoc, arith, inl, inr}
use Rattle.std.specs.Prelude.{nat_le, if◌then◌else◌, is_some, codes}
use Rattle.std.specs.List.{slice_split}
use Rattle.kabi_types.specs.declared.scripts.FaultKind.{FaultKind}
use Rattle.kabi_types.specs.declared.scripts.FaultKind.TheVariants as kind
use Rattle.kabi_types.specs.declared.scripts.Script.{Script}
use Rattle.kabi_types.specs.declared.scripts.ScriptFault.{ScriptFault}
use Rattle.posix_defs.specs.ScriptValues.{rank}
use Rattle.posix_defs.specs.ScriptParts.{Line, Part, Alone, Program as Begun}
use Rattle.posix_defs.specs.ScriptMeaning.{script_of, programs_of}
use Rattle.posix_defs.specs.ScriptFaults.{most_programs, how_many, has_program, IsToldBefore}
use Rattle.posix_defs.specs.ScriptText.{most_bytes, at_line_0, IsClean, ReadsParts, faulty, no_init, clean, ReadsText, too_long, reads}
use Rattle.script_read.specs.Drafting.{Reads, at_start, finish_from}
use Rattle.script_read.specs.Drafting as draft
use Rattle.script_parse.proofs.OneReading.{lines_read, lines_are, reading, reading_by}
use Rattle.script_parse.proofs.FirstFaults.{none_of}
use Rattle.script_parse.proofs.PartFaults.{fault_of, part_fault, program_fault, wrong_parts, Counted}
use Rattle.script_parse.proofs.FirstParts.{told_first, clean_is, has_first}
use Rattle.script_parse.proofs.TextParts.{numbered, lines_numbered, numbered_is, numbered_from, machine_is, parts_from, parts_of, parts_are, counted}
use Rattle.script_parse.proofs.TextMeaning.{draft_of, Matches, nothing_above, matches_alone, matches_program, told_of, result, follows}

-- where no part is at fault, the reader has the programs of all of them
matches_by : (above : List Part) (first : Line) (name : List ℕ) (body : Option (List Line)) (full again : Bool) → nat_le most_programs (how_many above) ≡ full
    → program_fault full again first.number body ≡ None → Matches above → Matches (above ++ Begun first name body ∷ [])
matches_by above first name body true again is_full none old = let wrong : true ≡ false = ap is_some none in absurd cc
matches_by above first name body false true is_full none old = let wrong : true ≡ false = ap is_some none in absurd cc
matches_by above first name None false false is_full none old = let wrong : true ≡ false = ap is_some none in absurd cc
matches_by above first name (Some body) false false is_full none old = matches_program above first name body is_full old

matches_part : (above : List Part) (part : Part) → part_fault above part ≡ None → Matches above → Matches (above ++ part ∷ [])
matches_part above (Alone line) none old = matches_alone above line old
matches_part above (Begun first name body) none old =
    matches_by above first name body (nat_le most_programs (how_many above)) (has_program name above) refl none old

matches_all : (above parts : List Part) → wrong_parts above parts ≡ None → Matches above → Matches (above ++ parts)
matches_all above [] none old = subst Matches (sym (append-nil above)) old
matches_all above (part ∷ parts) none old =
    let both = none_of (part_fault above part) (wrong_parts (above ++ part ∷ []) parts) none in
    subst Matches (append_assoc above (part ∷ []) parts) (matches_all (above ++ part ∷ []) parts both.1 (matches_part above part both.0 old))

ended_by : (parts : List Part) (has : Bool) → IsClean parts → has_program (codes "init") parts ≡ has → draft.has_program (codes "init") (programs_of parts) ≡ has
    → ReadsParts parts (finish_from (draft_of parts) None)
ended_by parts true is_clean has same =
    subst (λ b. ReadsParts parts (if b then Ok (script_of parts) else at_line_0 kind.NoInit)) (sym same) (clean is_clean has)
ended_by parts false is_clean has same =
    subst (λ b. ReadsParts parts (if b then Ok (script_of parts) else at_line_0 kind.NoInit)) (sym same) (no_init is_clean has)

parts_read : (parts : List Part) (found : Option ScriptFault) → wrong_parts [] parts ≡ found → Counted 1 parts → ReadsParts parts (result [] parts)
parts_read parts (Some fault) is counted =
    subst (λ f. ReadsParts parts (told_of f (finish_from (draft_of parts) None))) (sym is)
    (faulty fault (has_first parts fault is) (told_first parts fault counted is))
parts_read parts None is counted =
    let same = (matches_all [] parts is nothing_above).named (codes "init") in
    subst (λ f. ReadsParts parts (told_of f (finish_from (draft_of parts) None))) (sym is)
    (ended_by parts (has_program (codes "init") parts) (clean_is parts is) refl (sym same))

abbrev texts_of : List ℕ → List (List ℕ)
texts_of text = slice_split (λ byte. byte == 10) text

-- what the reader answers to the lines of a text
machine_read : (texts : List (List ℕ)) → lines_read at_start 1 texts ≡ result [] (parts_from None (numbered 1 texts))
machine_read texts = machine_is at_start 1 texts ∙ follows (numbered 1 texts) [] None nothing_above tt

lines_mean : (texts : List (List ℕ)) → ReadsParts (parts_from None (numbered 1 texts)) (lines_read at_start 1 texts)
lines_mean texts =
    let lines = numbered 1 texts in
    let parts = parts_from None lines in
    subst (ReadsParts parts) (sym (machine_read texts))
    (parts_read parts (wrong_parts [] parts) refl (counted 1 lines parts (parts_of lines None tt) (numbered_from 1 texts)))

-- a text that is short enough means what the reader reads
pub text_means : (text : List ℕ) (outcome : Result Script ScriptFault) → length text ≤ most_bytes → Reads at_start 1 (texts_of text) outcome
    → ReadsText text outcome
text_means text outcome short read =
    let lines = numbered 1 (texts_of text) in
    reads text lines (parts_from None lines) outcome short (lines_numbered 1 (texts_of text)) (parts_of lines None tt)
    (subst (ReadsParts (parts_from None lines)) (lines_are at_start 1 (texts_of text) outcome read) (lines_mean (texts_of text)))

-- two faults, each told before the other

abbrev kind_at : ℕ → FaultKind
kind_at n =
    if n == 1 then kind.NotUtf8
    else if n == 2 then kind.UnknownWord
    else if n == 3 then kind.BadNumber
    else if n == 4 then kind.OutOfRange
    else if n == 5 then kind.NoSuchLabel
    else if n == 6 then kind.WrongWay
    else if n == 7 then kind.TwiceDefined
    else if n == 8 then kind.Unended
    else if n == 9 then kind.NoInit
    else kind.TooLong

kind_of_rank : (what : FaultKind) → kind_at (rank what) ≡ what
kind_of_rank kind.NotUtf8 = refl
kind_of_rank kind.UnknownWord = refl
kind_of_rank kind.BadNumber = refl
kind_of_rank kind.OutOfRange = refl
kind_of_rank kind.NoSuchLabel = refl
kind_of_rank kind.WrongWay = refl
kind_of_rank kind.TwiceDefined = refl
kind_of_rank kind.Unended = refl
kind_of_rank kind.NoInit = refl
kind_of_rank kind.TooLong = refl

one_fault : (first second : ScriptFault) → IsToldBefore first second.line second.what → IsToldBefore second first.line first.what → first ≡ second
one_fault first second (inl less) (inl more) = absurd (omega (arith, less, more))
one_fault first second (inl less) (inr same) = absurd (omega (arith, less, same.0))
one_fault first second (inr same) (inl less) = absurd (omega (arith, less, same.0))
one_fault first second (inr there) (inr back) =
    let rank_same : rank first.what ≡ rank second.what = omega (arith, there.1, back.1) in
    let line_same : first.line ≡ second.line = there.0 in
    let what_same : first.what ≡ second.what = sym (kind_of_rank first.what) ∙ ap kind_at rank_same ∙ kind_of_rank second.what in
    ap (λ l. fault_of l first.what) line_same ∙ ap (fault_of second.line) what_same

parts_read_once : (parts : List Part) (first second : Result Script ScriptFault) → ReadsParts parts first → ReadsParts parts second → first ≡ second
parts_read_once parts _ _ (faulty first has before) (faulty second has_too before_too) =
    ap Err (one_fault first second (before second.line second.what has_too) (before_too first.line first.what has))
parts_read_once parts _ _ (faulty first has before) (no_init is_clean none) = absurd (is_clean first.line first.what has)
parts_read_once parts _ _ (faulty first has before) (clean is_clean some) = absurd (is_clean first.line first.what has)
parts_read_once parts _ _ (no_init is_clean none) (faulty first has before) = absurd (is_clean first.line first.what has)
parts_read_once parts _ _ (no_init is_clean none) (no_init is_clean_too none_too) = refl
parts_read_once parts _ _ (no_init is_clean none) (clean is_clean_too some) = let wrong : false ≡ true = sym none ∙ some in absurd cc
parts_read_once parts _ _ (clean is_clean some) (faulty first has before) = absurd (is_clean first.line first.what has)
parts_read_once parts _ _ (clean is_clean some) (no_init is_clean_too none) = let wrong : false ≡ true = sym none ∙ some in absurd cc
parts_read_once parts _ _ (clean is_clean some) (clean is_clean_too some_too) = refl

short_is : (text : List ℕ) → length text ≤ most_bytes → reading text ≡ lines_read at_start 1 (texts_of text)
short_is text short = let within : nat_le (length text) most_bytes ≡ true = grind (arith, short) in ap (λ b. reading_by b text) within

-- whatever a text reads as, the reader reads it so
pub reads_as : (text : List ℕ) (outcome : Result Script ScriptFault) → ReadsText text outcome → reading text ≡ outcome
reads_as _ _ (too_long text long) = let over : nat_le (length text) most_bytes ≡ false = grind (arith, long) in ap (λ b. reading_by b text) over
reads_as _ _ (reads text lines parts outcome short are_lines are_parts read) =
    let texts = texts_of text in
    let same : parts_from None (numbered 1 texts) ≡ parts =
    ap (parts_from None) (numbered_is 1 texts lines are_lines) ∙ parts_are lines parts are_parts in
    short_is text short
    ∙ parts_read_once parts (lines_read at_start 1 texts) outcome
    (subst (λ p. ReadsParts p (lines_read at_start 1 texts)) same (lines_mean texts)) read

reading_by_has : (text : List ℕ) (within : Bool) → nat_le (length text) most_bytes ≡ within → ReadsText text (reading_by within text)
reading_by_has text true is =
    let lines = numbered 1 (texts_of text) in
    reads text lines (parts_from None lines) (lines_read at_start 1 (texts_of text)) (grind (arith, is))
    (lines_numbered 1 (texts_of text)) (parts_of lines None tt) (lines_mean (texts_of text))
reading_by_has text false is = too_long text (grind (arith, is))

-- every text reads as the reader reads it
pub has_reading : (text : List ℕ) → ReadsText text (reading text)
has_reading text = reading_by_has text (nat_le (length text) most_bytes) refl
