-- A text that grows, whatever the host's memory allows.
use Rattle.std.specs.Prelude.{ℕ, Bool, true, false, ◌≡◌, List, ◌++◌, Option, None, Some}

-- a text that is whole
abbrev pub whole_text : Bool → List ℕ → Option (List ℕ)
whole_text true text = Some text
whole_text false text = None

-- Where there is a text now, there was one before, to which this was added.
pub record Adds (old : Option (List ℕ)) (text : List ℕ) (new : Option (List ℕ)) : Type 0 where
  pub is : (now : List ℕ) → new ≡ Some now → (was : List ℕ) × (old ≡ Some was) × (now ≡ was ++ text)
