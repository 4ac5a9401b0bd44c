-- What the value of the worked use stands for.
use Rattle.std.specs.Prelude.{◌≡◌, ℕ, ◌==◌, false, List, Option, Some, None}
use Rattle.turn_words.specs.declared.items.Item.{Item}
use Rattle.turn_words.specs.Items.{is_given}

-- after these items just the process that is kept is given out, or none
abbrev pub IsDesk : Option ℕ → List Item → Type 0
IsDesk None items = (pid : ℕ) → is_given pid items ≡ false
IsDesk (Some given) items = (pid : ℕ) → is_given pid items ≡ (given == pid)
