-- Which of the processes whose weights are known is the victim, and what is asked of a weight.
use Rattle.std.specs.Prelude.{◌≡◌, ◌≢◌, ◌⊎◌, ℕ, ◌^◌, ◌<◌, ◌≤◌, List, [], ◌∷◌}
use Rattle.std.specs.List.{All, Contains}
use Rattle.kabi_types.specs.declared.classes.Weight.{Weight}
use Rattle.kabi_types.specs.declared.scripts.Policy.{Policy}
use Rattle.posix_defs.specs.Victim.{score_of}

-- no process weighs more: an address space has 256 pages, in 4 nodes
pub record IsInRange (w : Weight) : Type 0 where
  pub pid : w.pid < 2 ^ 32
  pub frames : w.frames ≤ 256
  pub nodes : w.nodes ≤ 4
  pub descs : w.descs ≤ 128

-- the first process, or one that scores less than the other, or the same with a pid that is no higher
abbrev pub StandsBehind : Policy → Weight → Weight → Type 0
StandsBehind policy other w =
    w.pid ≢ 1 → (score_of policy w < score_of policy other) ⊎ ((score_of policy w ≡ score_of policy other) × (w.pid ≤ other.pid))

-- a process but the first has this pid and one of these weights, and they all stand behind that weight
pub record IsVictim (policy : Policy) (weights : List Weight) (pid : ℕ) : Type 0 where
  pub weight : Weight
  pub there : Contains weights weight
  pub of_pid : weight.pid ≡ pid
  pub not_first : pid ≢ 1
  pub greatest : All (StandsBehind policy weight) weights

-- the pids rise
abbrev pub RisesByPid : List Weight → Type 0
RisesByPid [] = Unit {0}
RisesByPid (w ∷ weights) = All (λ v. w.pid < v.pid) weights × RisesByPid weights
