-- Questions to a thing that changes as it answers, as a disk behind a cache does.
use Rattle.std.specs.Prelude.{◌≡◌, List, [], ◌∷◌}

-- one question after another, in this order, leads from the thing as it was to the thing as it is
abbrev pub AskedInTurn : {Thing Question : Type 0} → (Thing → Question → Thing → Type 0) → Thing → List Question → Thing → Type 0
AskedInTurn {Thing} {Question} asked before [] after = after ≡ before
AskedInTurn {Thing} {Question} asked before (question ∷ questions) after = (between : Thing) × asked before question between × AskedInTurn asked between questions after
