-- A run without names.
use Rattle.std.specs.Prelude.{[]}
use Rattle.kabi_types.specs.declared.scripts.Chooser.TheVariants.{Plain}
use Rattle.kabi_types.specs.declared.scripts.Policy.TheVariants.{Heaviest}
use Rattle.kabi_types.specs.declared.scripts.Script.{Script}
use Rattle.charge_words.specs.Names.{ChargeWord}

-- the least script, without a program
abbrev pub no_script : Script
no_script = record { heap = 0; disk = 0; steps = 0; policy = Heaviest; chooser = Plain; programs = [] }

-- a charge word of no table
abbrev pub no_word : ChargeWord
no_word = record { table = record { words = 0; slots = 0; views_name = 0; atom = 0; block = 0; offset = 0; slot_names = [] }; heap = 0 }
