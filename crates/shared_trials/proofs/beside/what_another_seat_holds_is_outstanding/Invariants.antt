use Rattle.shared_trials.specs.Pair.{pair}
use Rattle.shared_trials.proofs.beside.what_another_seat_holds_is_outstanding.Given as goal

abbrev pub ghosts-tells_what_is_outstanding : goal.ghosts-tells_what_is_outstanding
ghosts-tells_what_is_outstanding g a = record { script = pair 8192; steps = 10; charge = a.word.now }
