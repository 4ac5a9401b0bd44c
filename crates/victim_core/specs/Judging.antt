-- The victim among the weights that were looked at so far.
use Rattle.std.specs.Prelude.{◌≡◌, ◌==◌, ◌&&◌, nat_lt, if◌then◌else◌, List, Option, None, Some}
use Rattle.std.specs.List.{All}
use Rattle.kabi_types.specs.declared.classes.Weight.{Weight}
use Rattle.kabi_types.specs.declared.scripts.Policy.{Policy}
use Rattle.posix_defs.specs.Victim.{score_of}
use Rattle.victim_core.specs.declared.best.Best.{Best}
use Rattle.victim_core.specs.Victims.{IsVictim}

-- the one that scores more, of equals the one with the higher pid
abbrev pub better_of : Option Best → Best → Best
better_of None next = next
better_of (Some best) next =
    if nat_lt next.score best.score then best
    else (if (next.score == best.score) && nat_lt next.pid best.pid then best else next)

-- the best of these weights is known, if a process other than the first is among them
abbrev pub IsJudged : Policy → List Weight → Option Best → Type 0
IsJudged policy weights None = All (λ w. w.pid ≡ 1) weights
IsJudged policy weights (Some best) =
    (victim : IsVictim policy weights best.pid) × (best.score ≡ score_of policy victim.weight)
