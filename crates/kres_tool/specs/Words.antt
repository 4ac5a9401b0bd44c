-- The words of the command line.
use Rattle.std.specs.Prelude.{ℕ, ⊤, ◌≡◌, ◌≤◌, List, [], ◌∷◌, map, Option, Some, None, String, string_bytes, codes, decimal}
use Rattle.kres_tool.specs.declared.commands.Command.{Command}
use Rattle.kres_tool.specs.declared.commands.Command.TheVariants.{OnScript, Table, Gen, Load, Groups}
use Rattle.kres_tool.specs.declared.commands.Threaded.{Threaded}
use Rattle.kres_tool.specs.declared.commands.Threaded.TheVariants as threaded
use Rattle.kres_tool.specs.declared.commands.Task.TheVariants.{Sim, Threads, Print}

-- the words of a command; a number is its digits, with no sign and no zero before others
abbrev pub words_of : Command → List (List ℕ)
words_of (OnScript Sim) = codes "sim" ∷ []
words_of (OnScript (Threads workers)) = codes "threads" ∷ decimal workers ∷ []
words_of (OnScript Print) = codes "print" ∷ []
words_of Table = codes "table" ∷ []
words_of (Gen rounds) = codes "gen" ∷ decimal rounds ∷ []
words_of (Load rounds) = codes "load" ∷ decimal rounds ∷ []
words_of (Groups workers) = codes "groups" ∷ decimal workers ∷ []

-- the command by which this is done in threads
abbrev pub command_by : Threaded → Command
command_by (threaded.Script workers) = OnScript (Threads workers)
command_by (threaded.Groups workers) = Groups workers

-- what the command does in threads
abbrev pub threaded_by : Command → Option Threaded
threaded_by (OnScript (Threads workers)) = Some (threaded.Script workers)
threaded_by (OnScript Sim) = None
threaded_by (OnScript Print) = None
threaded_by Table = None
threaded_by (Gen rounds) = None
threaded_by (Load rounds) = None
threaded_by (Groups workers) = Some (threaded.Groups workers)

-- the most rounds of a generated script
abbrev pub most_rounds : ℕ
most_rounds = 1000

-- the most workers that run a script, or groups
abbrev pub most_workers : ℕ
most_workers = 64

abbrev pub IsAllowed : Command → Type 0
IsAllowed (OnScript Sim) = ⊤
IsAllowed (OnScript (Threads workers)) = (1 ≤ workers) × (workers ≤ most_workers)
IsAllowed (OnScript Print) = ⊤
IsAllowed Table = ⊤
IsAllowed (Gen rounds) = rounds ≤ most_rounds
IsAllowed (Load rounds) = rounds ≤ most_rounds
IsAllowed (Groups workers) = (1 ≤ workers) × (workers ≤ most_workers)

module _ {A : Type 0} where
  -- the words are this command
  abbrev pub Asks : List (String A) → Command → Type 0
  Asks words asked = (map string_bytes words ≡ words_of asked) × IsAllowed asked

  -- the words start no thread
  pub record AsksNoThread (words : List (String A)) : Type 0 where
    pub script : (workers : ℕ) → Asks words (OnScript (Threads workers)) → ⊥
    pub groups : (workers : ℕ) → Asks words (Groups workers) → ⊥
