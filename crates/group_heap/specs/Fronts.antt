-- What is read before the first section.
use Rattle.std.specs.Prelude.{ℕ, ⊤, ◌+◌, ◌≤◌, ◌≡◌, true, List, [], length, Option, None, Some, is_some, Result, Ok, Err}
use Rattle.std.specs.Borrow.{Bor}
use Rattle.kabi_types.specs.declared.scripts.ScriptFault.{ScriptFault}
use Rattle.group_heap.specs.declared.faults.GroupFault.{GroupFault}
use Rattle.group_heap.specs.declared.faults.GroupFault.TheVariants as fault
use Rattle.group_heap.specs.declared.lists.Section.{Section}
use Rattle.group_heap.specs.Texts.{BeginsSection, ReadsFront, ReadsSections, groups_of, lines_of}

-- where the whole is known or not, no section begins with this line
abbrev pub BeginsNone : Option ℕ → List ℕ → Type 0
BeginsNone whole line = is_some whole ≡ true → BeginsSection line → ⊥

-- The whole is this, and the first section begins with this line.
pub record BeginsFirst (whole : Option ℕ) (line : List ℕ) (bytes : ℕ) : Type 0 where
  pub known : whole ≡ Some bytes
  pub begins : BeginsSection line

-- The text reads as groups with this whole, whose sections are what the rest reads as, from its first line on, which has this number.
pub record IsFront (text : List ℕ) (whole line : ℕ) (rest : List ℕ) : Type 0 where
  pub reads : (outcome : Result (List Section) ScriptFault) → ReadsSections [] line (lines_of rest) outcome → ReadsFront None 1 (lines_of text) (groups_of whole outcome)
  pub few : line + length rest ≤ 1048577

-- what was read of a text up to the first section, or the fault that it has
abbrev pub LeadsTo : List ℕ → Result (ℕ × ℕ × Bor (List ℕ)) GroupFault → Type 0
LeadsTo text (Ok front) = IsFront text front.0 front.1 front.2.now
LeadsTo text (Err (fault.Bad what)) = ReadsFront None 1 (lines_of text) (Err what)
LeadsTo text (Err fault.Memory) = ⊤
