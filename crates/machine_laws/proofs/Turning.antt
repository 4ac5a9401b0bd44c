-- A turn, a refusal, an eviction and a kill lead from a machine that is reached to one that is.
use Rattle.std.proofs.Common.{◌≡◌, ℕ, Bool, true, false, refl, sym, subst}
use Rattle.kabi_types.specs.declared.entries.Cached.{Cached}
use Rattle.kabi_types.specs.declared.scripts.Script.{Script}
use Rattle.posix_defs.specs.Answer.{Answer, Blocked, Done, Part, Ended}
use Rattle.posix_defs.specs.Killing.{sigkill}
use Rattle.posix_defs.specs.Machine.{machine}
use Rattle.posix_defs.specs.Plain.{Plain, call_of}
use Rattle.posix_defs.specs.Process.{is_alive}
use Rattle.posix_defs.specs.Relief.{Evicts, Kills, refused_in}
use Rattle.posix_defs.specs.Turn.{Tells, TurnsTo, TurnsWhere}
use Rattle.posix_defs.specs.World.{World}
use Rattle.posix_defs.specs.declared.turner.Turned.{Turned}
use Rattle.machine_laws.specs.Reached as reached
use Rattle.machine_laws.specs.Reached.{IsReached}

-- the machine that an answer leads to
answered_reached : (script : Script) (old new : Plain) (pid : ℕ) (told : Turned) → IsReached script old → is_alive old.table pid ≡ true → (answer : Answer)
    → machine script old pid (call_of script old pid) ≡ answer → Tells answer old told new → IsReached script new
answered_reached script old new pid told before alive Blocked is tells = subst (IsReached script) (sym tells.1) before
answered_reached script old new pid told before alive (Done reply next) is tells = subst (IsReached script) (sym tells.1) (reached.replies old pid reply next before alive is)
answered_reached script old new pid told before alive (Part moved next) is tells = subst (IsReached script) (sym tells.1) (reached.moves old pid moved next before alive is)
answered_reached script old new pid told before alive (Ended status next) is tells = subst (IsReached script) (sym tells.1) (reached.ends old pid status next before alive is)

pub turned_reached : (script : Script) (old new : World) (pid : ℕ) (told : Turned) → IsReached script old.plain → TurnsTo script old pid (call_of script old.plain pid) told new → IsReached script new.plain
turned_reached script old new pid told before turns = by_life (is_alive old.plain.table pid) refl turns
  where
    by_life : (alive : Bool) → is_alive old.plain.table pid ≡ alive → TurnsWhere alive script old pid (call_of script old.plain pid) told new → IsReached script new.plain
    by_life true alive answers = answered_reached script old.plain new.plain pid told before alive (machine script old.plain pid (call_of script old.plain pid)) refl answers.answer
    by_life false gone stays = subst (λ (world : World). IsReached script world.plain) (sym stays.1) before

pub refused_reached : (script : Script) (old : World) (pid : ℕ) → IsReached script old.plain → IsReached script (refused_in script old pid).plain
refused_reached script old pid before = reached.refuses old.plain pid before

pub evicted_reached : (script : Script) (old new : World) (what : Cached) → IsReached script old.plain → Evicts old what new → IsReached script new.plain
evicted_reached script old new what before evicts = subst (IsReached script) (sym evicts.plain) before

pub killed_reached : (script : Script) (old new : World) (pid : ℕ) → IsReached script old.plain → Kills old pid new → IsReached script new.plain
killed_reached script old new pid before kills = subst (IsReached script) (sym kills.plain) (reached.kills old.plain pid sigkill before)
