-- The scripts of a text of groups are valid, and the whole has its range.
use Rattle.std.proofs.Common.{◌≡◌, ℕ, ◌+◌, ◌≤◌, Bool, true, false, List, [], ◌∷◌, ◌++◌, length, Option, None, Some, Result, Ok, Err, IfOk, subst}
use Rattle.std.specs.Prelude.{if◌then◌else◌, codes}
use Rattle.std.specs.List.{AllByRecursion}
use Rattle.kabi_types.specs.declared.scripts.ScriptFault.{ScriptFault}
use Rattle.kabi_types.specs.declared.scripts.FaultKind.{FaultKind}
use Rattle.kabi_types.specs.declared.scripts.FaultKind.TheVariants.{UnknownWord}
use Rattle.posix_defs.specs.declared.said.Word.{Word}
use Rattle.posix_defs.specs.ScriptLines.{natural, only}
use Rattle.posix_defs.specs.ScriptValues.{with, ◌>>=◌, is_word}
use Rattle.posix_defs.specs.ValidScript.{IsValid}
use Rattle.script_parse.proofs.ValidValues.{natural_is}
use Rattle.script_parse.proofs.ValidScripts.{reads_valid}
use Rattle.group_heap.specs.declared.lists.Section.{Section}
use Rattle.group_heap.specs.Texts.{Groups, ReadsFront, ReadsGroups, ReadsSections, front_said, groups_of, text_of}
use Rattle.group_heap.specs.Texts as spec

abbrev AllValid : List Section → Type 0
AllValid sections = AllByRecursion (λ section. IsValid section.script) sections

valid_more : (sections : List Section) (section : Section) → AllValid sections → IsValid section.script → AllValid (sections ++ section ∷ [])
valid_more [] section all valid = (valid, tt)
valid_more (first ∷ sections) section all valid = (all.0, valid_more sections section all.1 valid)

sections_valid : (before : List Section) (line : ℕ) (lines : List (List ℕ)) (outcome : Result (List Section) ScriptFault) → ReadsSections before line lines outcome → AllValid before
    → IfOk outcome AllValid
sections_valid before line lines outcome (spec.ReadsSections.none sections line') all = all
sections_valid before line lines outcome (spec.ReadsSections.misnamed before' line' first lines' words kind has is) all = tt
sections_valid before line lines outcome (spec.ReadsSections.faulty before' line' first body rest words name fault has is within starts says) all = tt
sections_valid before line lines outcome (spec.ReadsSections.reads before' line' first body rest words section outcome' has is within starts says more) all =
    sections_valid (before' ++ section ∷ []) (line' + 1 + length body) rest outcome' more (valid_more before' section all (reads_valid (text_of body) (Ok section.script) says))

of_groups : (whole : ℕ) (outcome : Result (List Section) ScriptFault) → IfOk outcome AllValid → IfOk (groups_of whole outcome) (λ groups. AllValid groups.sections)
of_groups whole (Ok sections) all = all
of_groups whole (Err fault) all = tt

front_valid : (whole : Option ℕ) (line : ℕ) (lines : List (List ℕ)) (outcome : Result Groups ScriptFault) → ReadsFront whole line lines outcome
    → IfOk outcome (λ groups. AllValid groups.sections)
front_valid whole line lines outcome (spec.ReadsFront.nothing whole' line') = tt
front_valid whole line lines outcome (spec.ReadsFront.stops whole' line' first lines' words kind none has is) = tt
front_valid whole line lines outcome (spec.ReadsFront.goes_on whole' next line' first lines' words outcome' none has is more) = front_valid next (line' + 1) lines' outcome' more
front_valid whole line lines outcome (spec.ReadsFront.sections bytes line' first lines' outcome' begins says) =
    of_groups bytes outcome' (sections_valid [] line' (first ∷ lines') outcome' says tt)

pub groups_valid : (text : List ℕ) (groups : Groups) → ReadsGroups text (Ok groups) → AllByRecursion (λ section. IsValid section.script) groups.sections
groups_valid text groups (spec.ReadsGroups.reads outcome short says) = front_valid _ 1 _ (Ok groups) says

-- ---- the whole

abbrev InRange : ℕ → Type 0
InRange bytes = (8192 ≤ bytes) × (bytes ≤ 8388608)

abbrev KnownInRange : Option ℕ → Type 0
KnownInRange None = Unit {0}
KnownInRange (Some bytes) = InRange bytes

only_in_range : (words : List Word) → IfOk (only (natural 8192 8388608) words) InRange
only_in_range [] = tt
only_in_range (word ∷ []) = natural_is 8192 8388608 word
only_in_range (word ∷ more ∷ words) = tt

whole_of : (said : Result ℕ FaultKind) (next : Option ℕ) → IfOk said InRange → with Some said ≡ Ok next → KnownInRange next
whole_of (Ok bytes) next within is = let same : Some bytes ≡ next = cc in subst KnownInRange same within
whole_of (Err kind) next within is = absurd cc

whole_if : (b : Bool) (rest : List Word) (next : Option ℕ) → (if b then with Some (only (natural 8192 8388608) rest) else Err UnknownWord) ≡ Ok next → KnownInRange next
whole_if true rest next is = whole_of (only (natural 8192 8388608) rest) next (only_in_range rest) is
whole_if false rest next is = let wrong : Err UnknownWord ≡ Ok next = is in absurd cc

whole_said : (whole next : Option ℕ) (words : Result (List Word) FaultKind) → KnownInRange whole → (words >>= front_said whole) ≡ Ok next → KnownInRange next
whole_said whole next (Ok []) within is = let same : whole ≡ next = cc in subst KnownInRange same within
whole_said None next (Ok (word ∷ rest)) within is = whole_if (is_word (codes "whole") word) rest next is
whole_said (Some bytes) next (Ok (word ∷ rest)) within is = let wrong : Err UnknownWord ≡ Ok next = is in absurd cc
whole_said whole next (Err kind) within is = absurd cc

of_whole : (whole : ℕ) (outcome : Result (List Section) ScriptFault) → InRange whole → IfOk (groups_of whole outcome) (λ groups. InRange groups.whole)
of_whole whole (Ok sections) within = within
of_whole whole (Err fault) within = tt

front_within : (whole : Option ℕ) (line : ℕ) (lines : List (List ℕ)) (outcome : Result Groups ScriptFault) → ReadsFront whole line lines outcome → KnownInRange whole
    → IfOk outcome (λ groups. InRange groups.whole)
front_within whole line lines outcome (spec.ReadsFront.nothing whole' line') within = tt
front_within whole line lines outcome (spec.ReadsFront.stops whole' line' first lines' words kind none has is) within = tt
front_within whole line lines outcome (spec.ReadsFront.goes_on whole' next line' first lines' words outcome' none has is more) within =
    front_within next (line' + 1) lines' outcome' more (whole_said whole' next words within is)
front_within whole line lines outcome (spec.ReadsFront.sections bytes line' first lines' outcome' begins says) within = of_whole bytes outcome' within

pub whole_within : (text : List ℕ) (groups : Groups) → ReadsGroups text (Ok groups) → (8192 ≤ groups.whole) × (groups.whole ≤ 8388608)
whole_within text groups (spec.ReadsGroups.reads outcome short says) = front_within None 1 _ (Ok groups) says tt
