-- A text of groups: how much all of them may hold, and a section for each; or the fault that it has.
use Rattle.std.specs.Prelude.{ℕ, ◌+◌, ◌≡◌, ◌<◌, ◌≤◌, Bool, true, ◌==◌, nat_le, if◌then◌else◌, List, [], ◌∷◌, ◌++◌, length, Option, None, Some, is_some, Result, Ok, Err, codes}
use Rattle.std.specs.List.{All, join_with_byte, list_any, slice_split}
use Rattle.std.specs.Str.{IsUtf8, bytes_eq}
use Rattle.kabi_types.specs.declared.scripts.FaultKind.{FaultKind}
use Rattle.kabi_types.specs.declared.scripts.FaultKind.TheVariants.{UnknownWord, OutOfRange, TwiceDefined, NoInit, TooLong}
use Rattle.kabi_types.specs.declared.scripts.ScriptFault.{ScriptFault}
use Rattle.posix_defs.specs.declared.said.Word.{Word}
use Rattle.posix_defs.specs.ScriptLines.{natural, only}
use Rattle.posix_defs.specs.ScriptText.{ReadsText, most_bytes}
use Rattle.posix_defs.specs.ScriptValues.{with, ◌>>=◌, is_word, name}
use Rattle.posix_defs.specs.ScriptWords.{LineWords, is_blank}
use Rattle.group_heap.specs.declared.lists.Section.{Section}

-- what a text of groups says: how many bytes all heaps that run may have together, and the groups in their order
pub record Groups : Type 0 where
  pub whole : ℕ
  pub sections : List Section

-- the most groups that a text may have
abbrev pub most_groups : ℕ
most_groups = 8

-- a line is at fault; line 0 where none is
abbrev pub fault_at : {A : Type 0} → ℕ → FaultKind → Result A ScriptFault
fault_at line kind = Err (record { line = line; what = kind })

-- the lines of a text
abbrev pub lines_of : List ℕ → List (List ℕ)
lines_of text = slice_split (λ byte. byte == 10) text

-- lines as a text of their own
abbrev pub text_of : List (List ℕ) → List ℕ
text_of lines = join_with_byte 10 lines

-- the bytes before the first blank
abbrev pub up_to_blank : List ℕ → List ℕ
up_to_blank [] = []
up_to_blank (byte ∷ line) = if is_blank byte then [] else byte ∷ up_to_blank line

-- the first word of a line, as it stands there; nothing where the line is blank
abbrev pub first_word : List ℕ → List ℕ
first_word [] = []
first_word (byte ∷ line) = if is_blank byte then first_word line else byte ∷ up_to_blank line

-- A line begins a section: it is UTF-8, and its first word is `group`, whatever follows.
abbrev pub BeginsSection : List ℕ → Type 0
BeginsSection line = IsUtf8 line × (first_word line ≡ codes "group")

-- lines of which none begins a section
abbrev pub IsWithin : List (List ℕ) → Type 0
IsWithin lines = All (λ line. BeginsSection line → ⊥) lines

-- there is no line, or the first one begins a section
abbrev pub StartsSection : List (List ℕ) → Type 0
StartsSection [] = Unit {0}
StartsSection (line ∷ lines) = BeginsSection line

-- Before the first section: what the words of a line say, where the whole is known or not. The first line that says something has to
-- say the whole, from 8192 to 8388608 bytes, and behind it none may say anything.
abbrev pub front_said : Option ℕ → List Word → Result (Option ℕ) FaultKind
front_said whole [] = Ok whole
front_said None (word ∷ words) = if is_word (codes "whole") word then with Some (only (natural 8192 8388608) words) else Err UnknownWord
front_said (Some whole) (word ∷ words) = Err UnknownWord

-- the name that stands alone behind the first word of a line
abbrev pub name_said : List Word → Result (List ℕ) FaultKind
name_said [] = Err UnknownWord
name_said (word ∷ words) = only name words

-- one of these sections has this name
abbrev pub has_section : List ℕ → List Section → Bool
has_section name sections = list_any (λ section. bytes_eq section.name name) sections

-- a section of this name may stand behind these
abbrev pub may_follow : List Section → List ℕ → Result (List ℕ) FaultKind
may_follow before name =
    if nat_le most_groups (length before) then Err OutOfRange
    else if has_section name before then Err TwiceDefined
    else Ok name

-- The name of a section behind these, by the words of its first line; or the least fault that the line has.
abbrev pub section_said : List Section → List Word → Result (List ℕ) FaultKind
section_said before words = name_said words >>= may_follow before

-- the fault of a section's text, whose lines are counted behind the section's first; that line itself where no line is at fault
abbrev pub fault_behind : ℕ → ScriptFault → ScriptFault
fault_behind line fault = record { line = line + fault.line; what = fault.what }

-- Behind these sections, and from a line number on, these lines read as further sections, all of which are these, or have this fault.
-- The first of them begins a section, which goes on to the next line that begins one; what stands in between is a script.
pub data ReadsSections : List Section → ℕ → List (List ℕ) → Result (List Section) ScriptFault → Type 0 where
  none : (sections : List Section) (line : ℕ) → ReadsSections sections line [] (Ok sections)
  misnamed : (before : List Section) (line : ℕ) (first : List ℕ) (lines : List (List ℕ)) (words : Result (List Word) FaultKind) (kind : FaultKind)
      → LineWords first words → (words >>= section_said before) ≡ Err kind → ReadsSections before line (first ∷ lines) (fault_at line kind)
  faulty : (before : List Section) (line : ℕ) (first : List ℕ) (body lines : List (List ℕ)) (words : Result (List Word) FaultKind) (name : List ℕ) (fault : ScriptFault)
      → LineWords first words → (words >>= section_said before) ≡ Ok name → IsWithin body → StartsSection lines
      → ReadsText (text_of body) (Err fault) → ReadsSections before line (first ∷ body ++ lines) (Err (fault_behind line fault))
  reads : (before : List Section) (line : ℕ) (first : List ℕ) (body lines : List (List ℕ)) (words : Result (List Word) FaultKind) (section : Section)
      (outcome : Result (List Section) ScriptFault)
      → LineWords first words → (words >>= section_said before) ≡ Ok section.name → IsWithin body → StartsSection lines
      → ReadsText (text_of body) (Ok section.script) → ReadsSections (before ++ section ∷ []) (line + 1 + length body) lines outcome
      → ReadsSections before line (first ∷ body ++ lines) outcome

-- the whole beside the sections
abbrev pub groups_of : ℕ → Result (List Section) ScriptFault → Result Groups ScriptFault
groups_of whole (Ok sections) = Ok (record { whole = whole; sections = sections })
groups_of whole (Err fault) = Err fault

-- Where the whole is known or not, and from a line number on, these lines read as groups, or have this fault. Until the whole is known
-- no line begins a section.
pub data ReadsFront : Option ℕ → ℕ → List (List ℕ) → Result Groups ScriptFault → Type 0 where
  nothing : (whole : Option ℕ) (line : ℕ) → ReadsFront whole line [] (fault_at 0 NoInit)
  stops : (whole : Option ℕ) (line : ℕ) (first : List ℕ) (lines : List (List ℕ)) (words : Result (List Word) FaultKind) (kind : FaultKind)
      → (is_some whole ≡ true → BeginsSection first → ⊥) → LineWords first words → (words >>= front_said whole) ≡ Err kind
      → ReadsFront whole line (first ∷ lines) (fault_at line kind)
  goes_on : (whole next : Option ℕ) (line : ℕ) (first : List ℕ) (lines : List (List ℕ)) (words : Result (List Word) FaultKind) (outcome : Result Groups ScriptFault)
      → (is_some whole ≡ true → BeginsSection first → ⊥) → LineWords first words → (words >>= front_said whole) ≡ Ok next
      → ReadsFront next (line + 1) lines outcome → ReadsFront whole line (first ∷ lines) outcome
  sections : (whole line : ℕ) (first : List ℕ) (lines : List (List ℕ)) (outcome : Result (List Section) ScriptFault)
      → BeginsSection first → ReadsSections [] line (first ∷ lines) outcome → ReadsFront (Some whole) line (first ∷ lines) (groups_of whole outcome)

-- The text reads as groups, or has this fault.
pub data ReadsGroups (text : List ℕ) : Result Groups ScriptFault → Type 0 where
  too_long : most_bytes < length text → ReadsGroups text (fault_at 0 TooLong)
  reads : (outcome : Result Groups ScriptFault) → length text ≤ most_bytes → ReadsFront None 1 (lines_of text) outcome → ReadsGroups text outcome
