-- Entries that lead from one past to another, and whose they are.
use Rattle.std.specs.Prelude.{ℕ, ◌≡◌, false, List, [], ◌∷◌, ◌++◌}
use Rattle.std.specs.List.{AllByRecursion}
use Rattle.kabi_types.specs.declared.entries.Entry.{Entry}
use Rattle.kabi_types.specs.declared.scripts.Script.{Script}
use Rattle.posix_defs.specs.History.{MayFollow, Past}
use Rattle.kern_laws.specs.Sleeping.{is_of}

-- These entries may come one after another behind what has led to a past, and lead to another.
pub data Follow (script : Script) (past : Past) : List Entry → Past → Type 0 where
  none : Follow script past [] past
  more : (entries : List Entry) (between next : Past) (added : Entry) → Follow script past entries between → MayFollow script between added next
      → Follow script past (entries ++ added ∷ []) next

-- none of these entries is one of this process: of its calls, or that tells that it was killed
abbrev pub AreOfOthers : ℕ → List Entry → Type 0
AreOfOthers who entries = AllByRecursion (λ added. is_of who added ≡ false) entries
