-- Who is killed where heap has to be freed: the heaviest live process but the first, or the youngest.
use Rattle.std.specs.Prelude.{ℕ, ◌+◌, ◌*◌, ◌==◌, ◌&&◌, not, nat_le, if◌then◌else◌, List, [], ◌∷◌, Option, None, Some}
use Rattle.kabi_types.specs.Class.{size}
use Rattle.kabi_types.specs.declared.classes.Class.TheVariants as class
use Rattle.kabi_types.specs.declared.classes.Weight.{Weight}
use Rattle.kabi_types.specs.declared.scripts.Policy.{Policy}
use Rattle.kabi_types.specs.declared.scripts.Policy.TheVariants.{Heaviest, Youngest}
use Rattle.posix_defs.specs.Memory.{frames_in, nodes_in, places_of}
use Rattle.posix_defs.specs.Process.{Table, is_alive_in}
use Rattle.posix_defs.specs.Plain.{Plain}
use Rattle.posix_defs.specs.Account.{Account}
use Rattle.posix_defs.specs.Files.Descriptors.{open_count}
use Rattle.posix_defs.specs.Files.State.{descriptors_of}

-- how much a process weighs under a policy
abbrev pub score_of : Policy → Weight → ℕ
score_of Heaviest w = size class.Proc + size class.Page * w.frames + size class.Node * w.nodes + size class.Desc * w.descs
score_of Youngest w = w.pid

-- what a process holds beside itself: frames and groups of pages of its memory, and open descriptors
abbrev pub weight_of : Plain → Account → ℕ → Weight
weight_of plain account pid = record {
  pid = pid;
  frames = frames_in (places_of account.frames pid);
  nodes = nodes_in (places_of account.frames pid);
  descs = open_count (descriptors_of plain.files pid);
}

-- the weights of the live processes from this pid on, but the first
abbrev pub weights_from : Plain → Account → ℕ → Table → List Weight
weights_from plain account pid [] = []
weights_from plain account pid (there ∷ table) =
    let others = weights_from plain account (pid + 1) table in
    if is_alive_in there && not (pid == 1) then weight_of plain account pid ∷ others else others

-- the greater of a weight and those after it; of equals the later, whose pid is higher
abbrev pub greatest : Policy → Weight → List Weight → Weight
greatest policy w [] = w
greatest policy w (v ∷ weights) = greatest policy (if nat_le (score_of policy w) (score_of policy v) then v else w) weights

-- the pid of the greatest of these weights, of equals that of the last; None where there is none
abbrev pub pid_of_greatest : Policy → List Weight → Option ℕ
pid_of_greatest policy [] = None
pid_of_greatest policy (w ∷ weights) = let chosen = greatest policy w weights in Some chosen.pid

-- the process to kill; None where none but the first is alive
abbrev pub victim_of : Policy → Plain → Account → Option ℕ
victim_of policy plain account = pid_of_greatest policy (weights_from plain account 1 plain.table)
