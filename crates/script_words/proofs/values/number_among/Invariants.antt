use Rattle.std.proofs.Common.{◌≡◌, map, drop}
use Rattle.posix_defs.specs.ScriptValues.{among}
use Rattle.script_words.proofs.values.number_among.Given as goal

abbrev pub invariant-loop-name : goal.invariant-loop-name
invariant-loop-name l = among (map (λ entry. (entry.0.now, entry.1)) l.entries) l.word ≡ among (map (λ entry. (entry.0.now, entry.1)) (drop l.name-index l.entries)) l.word
