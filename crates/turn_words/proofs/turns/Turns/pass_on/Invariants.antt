use Rattle.turn_words.proofs.turns.Turns.pass_on.Given as goal

-- the step reads the item that the call was handed
abbrev pub ghosts-pass_with : goal.ghosts-pass_with
ghosts-pass_with g a = record { item = a.item.now }
