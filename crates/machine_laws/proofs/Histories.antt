-- The machine of a history is one that its calls, refusals and kills lead to.
use Rattle.std.proofs.Common.{◌≡◌, List, ap, sym, subst}
use Rattle.kabi_types.specs.declared.entries.Entry.{Entry}
use Rattle.kabi_types.specs.declared.entries.Entry.TheVariants as entry
use Rattle.kabi_types.specs.declared.scripts.Script.{Script}
use Rattle.posix_defs.specs.History as history
use Rattle.posix_defs.specs.History.{IsRun, MayFollow, Past}
use Rattle.posix_defs.specs.Plain.{Plain}
use Rattle.machine_laws.specs.Reached as reached
use Rattle.machine_laws.specs.Reached.{IsReached}

-- where a history has led to, its machine is the one that it says
at_end : (script : Script) (past next : Past) (plain : Plain) → next.plain ≡ plain → IsReached script plain → IsReached script next.plain
at_end script past next plain is reaches = subst (IsReached script) (sym is) reaches

follows_reached : (script : Script) (past : Past) (added : Entry) (next : Past) → IsReached script past.plain → MayFollow script past added next → IsReached script next.plain
follows_reached script past (entry.Done pid kind reply) next before is =
    at_end script past next is.plain (ap (λ n. n.plain) is.leads) (reached.replies past.plain pid reply is.plain before is.may_run.alive is.answers)
follows_reached script past (entry.Part pid kind moved) next before is =
    at_end script past next is.plain (ap (λ n. n.plain) is.leads) (reached.moves past.plain pid moved is.plain before is.may_run.alive is.answers)
follows_reached script past (entry.Ended pid kind status) next before is =
    at_end script past next is.plain (ap (λ n. n.plain) is.leads) (reached.ends past.plain pid status is.plain before is.may_run.alive is.answers)
follows_reached script past (entry.Slept pid kind) next before is = at_end script past next past.plain (ap (λ n. n.plain) is.leads) before
follows_reached script past (entry.Refused pid kind asked) next before is =
    at_end script past next _ (ap (λ n. n.plain) is.leads) (reached.refuses past.plain pid before)
follows_reached script past (entry.Gone pid kind) next before is = at_end script past next past.plain (ap (λ n. n.plain) is.leads) before
follows_reached script past (entry.Killed pid waiter need live) next before is =
    at_end script past next _ (ap (λ n. n.plain) is.leads) (reached.kills past.plain pid _ before)
follows_reached script past (entry.Evicted what) next before is = at_end script past next past.plain (ap (λ n. n.plain) is.leads) before

pub run_reached : {script : Script} {taken : List Entry} {past : Past} → IsRun script taken past → IsReached script past.plain
run_reached {script} history.boots = reached.boots
run_reached {script} (history.goes_on taken past next added before follows) = follows_reached script past added next (run_reached before) follows
