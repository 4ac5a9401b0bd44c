-- Lists of processes: who is live behind an entry, told anew by who was live before it, and the lowest that passes a test.
use Rattle.std.specs.Prelude.{◌≡◌, ℕ, ◌==◌, ◌&&◌, not, cond, nat_lt, Bool, true, List, [], ◌∷◌, ◌++◌, filter, Option, None, Some}
use Rattle.std.specs.List.{AllByRecursion, list_any}
use Rattle.posix_defs.specs.Plain.{Plain, last_pid}
use Rattle.posix_defs.specs.Process.{is_alive}
use Rattle.kern_shared.specs.declared.held.Held.{Held}

-- of these processes those that are alive, but for one
abbrev pub alive_but : Plain → ℕ → List ℕ → List ℕ
alive_but plain pid pids = filter (λ other. not (other == pid) && is_alive plain.table other) pids

-- one process, or none
abbrev pub if_so : Bool → ℕ → List ℕ
if_so there pid = cond there (pid ∷ []) []

-- who doesn't doze: those of before, the process itself where it doesn't sleep, and one that was made
abbrev pub awake_after : Plain → ℕ → Bool → ℕ → List ℕ → List ℕ
awake_after plain pid sleeps before awake =
    (alive_but plain pid awake ++ if_so (is_alive plain.table pid && not sleeps) pid) ++ if_so (not (last_pid plain == before)) (last_pid plain)

-- who dozes: those of before, and the process itself where it sleeps
abbrev pub dozing_after : Plain → ℕ → Bool → List ℕ → List ℕ
dozing_after plain pid sleeps dozing = alive_but plain pid dozing ++ if_so (is_alive plain.table pid && sleeps) pid

-- each of these is alive
abbrev pub AreAlive : Plain → List ℕ → Type 0
AreAlive plain pids = AllByRecursion (λ pid. is_alive plain.table pid ≡ true) pids

-- the process is one of those that passes hold
abbrev pub is_held : ℕ → List Held → Bool
is_held pid held = list_any (λ (h : Held). h.pid == pid) held

-- a process is below the one that was found, if one was
abbrev pub is_below : ℕ → Option ℕ → Bool
is_below pid None = true
is_below pid (Some other) = nat_lt pid other

-- the lowest that passes, of the one that was found before and these
abbrev pub lowest : (ℕ → Bool) → Option ℕ → List ℕ → Option ℕ
lowest passes found [] = found
lowest passes found (pid ∷ pids) = lowest passes (cond (is_below pid found && passes pid) (Some pid) found) pids

-- what each of these needs, by its pid
abbrev pub AreNeeds : (ℕ → ℕ) → List Held → Type 0
AreNeeds need held = AllByRecursion (λ (h : Held). h.bound ≡ need h.pid) held
