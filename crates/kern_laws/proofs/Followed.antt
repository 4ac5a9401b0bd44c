-- Where a turn, a refusal, an eviction and a kill lead a history, and a world that stands for it.
use Rattle.std.proofs.Common.{◌≡◌, ℕ, ◌+◌, ◌*◌, ◌<◌, ◌≤◌, true, false, List, ◌∷◌, length, Some, refl, ap, sym, ◌∙◌, subst, arith}
use Rattle.kabi_types.specs.Call.{kind_of}
use Rattle.kabi_types.specs.Class.{size}
use Rattle.kabi_types.specs.declared.classes.Class.TheVariants as class
use Rattle.kabi_types.specs.declared.classes.Need.{Need}
use Rattle.kabi_types.specs.declared.entries.Cached.{Cached}
use Rattle.kabi_types.specs.declared.entries.Cached.TheVariants as cached
use Rattle.kabi_types.specs.declared.entries.Entry.TheVariants as entry
use Rattle.kabi_types.specs.declared.errnos.Errno.TheVariants.{ENOMEM}
use Rattle.kabi_types.specs.declared.replies.Reply.TheVariants.{Fail}
use Rattle.kabi_types.specs.declared.scripts.Script.{Script}
use Rattle.posix_defs.specs.declared.turner.Turned.{Turned}
use Rattle.posix_defs.specs.declared.turner.Turned.TheVariants as turned
use Rattle.posix_defs.specs.Account.{account_on}
use Rattle.posix_defs.specs.Answer.{Answer, Blocked, Done, Part, Ended}
use Rattle.posix_defs.specs.CoreEvent.{entry_of, refusal}
use Rattle.posix_defs.specs.CoreState.{asked_by}
use Rattle.posix_defs.specs.Ending.{die}
use Rattle.posix_defs.specs.History.{AreCovered, MayFollow, MayRun, Past, fills_after, had_turn, is_up, moves_on, one_more, others, still_asleep}
use Rattle.posix_defs.specs.Killing.{sigkill}
use Rattle.posix_defs.specs.Licence.{can_evict_any}
use Rattle.posix_defs.specs.Machine.{machine}
use Rattle.posix_defs.specs.Needs.{bound, need_of}
use Rattle.posix_defs.specs.Plain.{Plain, answered, call_of}
use Rattle.posix_defs.specs.Process.{is_alive}
use Rattle.posix_defs.specs.Relief.{Evicts, Kills}
use Rattle.posix_defs.specs.Sizes.{reserve, room}
use Rattle.posix_defs.specs.Turn.{Tells, account_after}
use Rattle.posix_defs.specs.Victim.{victim_of}
use Rattle.posix_defs.specs.World.{Kept, MayKeep, World, base, live_of, pins}
use Rattle.kern_laws.specs.Filled.{AreFilled}
use Rattle.kern_laws.proofs.Caches.{SizesAfter, all_pinned, keeps_left, pins_kept, root_is_pinned, sizes_left}

-- whose last entry says that it sleeps, behind a turn
abbrev pub sleepers_told : Turned → ℕ → List ℕ → List ℕ
sleepers_told (turned.Done _) pid asleep = others pid asleep
sleepers_told (turned.Part _) pid asleep = pid ∷ others pid asleep
sleepers_told turned.Sleep pid asleep = pid ∷ asleep
sleepers_told (turned.Ended _) pid asleep = others pid asleep
sleepers_told turned.Gone pid asleep = asleep

-- where a turn leads a history
pub record TurnLeads (script : Script) (past : Past) (pid : ℕ) (told : Turned) (new : Plain) : Type 0 where
  pub next : Past
  pub follows : MayFollow script past (entry_of pid (kind_of (call_of script past.plain pid)) told) next
  pub plain_is : next.plain ≡ new
  pub account_is : next.account ≡ account_after past.account past.plain pid (call_of script past.plain pid) (machine script past.plain pid (call_of script past.plain pid))
  pub asleep : next.asleep ≡ still_asleep script new (sleepers_told told pid past.asleep)
  pub filled : next.filled ≡ fills_after past.filled (need_of (call_of script past.plain pid))
  pub evicted : next.evicted ≡ past.evicted

-- the history behind an answer
abbrev led : Script → Past → ℕ → Plain → Answer → List ℕ → Past
led script past pid plain answer sleepers =
    moves_on script (had_turn past (call_of script past.plain pid)) plain (account_after past.account past.plain pid (call_of script past.plain pid) answer) sleepers

-- a turn adds the entry that it tells, and the machine goes on as it says
pub turn_legal : (script : Script) (past : Past) (pid : ℕ) (told : Turned) (new : Plain) → is_alive past.plain.table pid ≡ true → is_up past pid ≡ true
    → bound (call_of script past.plain pid) ≤ room script.heap
    → Tells (machine script past.plain pid (call_of script past.plain pid)) past.plain told new
    → TurnLeads script past pid told new
turn_legal script past pid told new alive up fits tells = go (machine script past.plain pid (call_of script past.plain pid)) refl tells
  where
    may_run : MayRun script past pid (kind_of (call_of script past.plain pid))
    may_run = record { alive = alive; of_kind = refl; fits_ever = fits }

    lead : (answer : Answer) (plain : Plain) (sleepers : List ℕ) (turn : Turned) → machine script past.plain pid (call_of script past.plain pid) ≡ answer
        → sleepers ≡ sleepers_told turn pid past.asleep → told ≡ turn → new ≡ plain
        → MayFollow script past (entry_of pid (kind_of (call_of script past.plain pid)) turn) (led script past pid plain answer sleepers)
        → TurnLeads script past pid told new
    lead answer plain sleepers turn is sleep tell goes follows = record {
      next = led script past pid plain answer sleepers;
      follows = subst (λ t. MayFollow script past (entry_of pid (kind_of (call_of script past.plain pid)) t) (led script past pid plain answer sleepers)) (sym tell) follows;
      plain_is = sym goes;
      account_is = ap (account_after past.account past.plain pid (call_of script past.plain pid)) (sym is);
      asleep = ap (λ p. still_asleep script p sleepers) (sym goes) ∙ ap (still_asleep script new) (sleep ∙ ap (λ t. sleepers_told t pid past.asleep) (sym tell));
      filled = refl;
      evicted = refl;
    }

    go : (answer : Answer) → machine script past.plain pid (call_of script past.plain pid) ≡ answer → Tells answer past.plain told new → TurnLeads script past pid told new
    go Blocked is t = lead Blocked past.plain (pid ∷ past.asleep) turned.Sleep is refl t.0 t.1 (record { may_run = may_run; up = up; blocked = is; leads = refl })
    go (Done reply plain) is t =
        lead (Done reply plain) plain (others pid past.asleep) (turned.Done reply) is refl t.0 t.1 (record { may_run = may_run; plain = plain; answers = is; leads = refl })
    go (Part moved plain) is t =
        lead (Part moved plain) plain (pid ∷ others pid past.asleep) (turned.Part moved) is refl t.0 t.1 (record { may_run = may_run; plain = plain; answers = is; leads = refl })
    go (Ended status plain) is t =
        lead (Ended status plain) plain (others pid past.asleep) (turned.Ended status) is refl t.0 t.1 (record { may_run = may_run; plain = plain; answers = is; leads = refl })

-- a turn fills no more than it needs
pub filled_turn : (past next : Past) (old new : Kept) (need : Need) → AreFilled old past → next.filled ≡ fills_after past.filled need → next.evicted ≡ past.evicted
    → length new.names ≤ length old.names + need.name → length new.blocks ≤ length old.blocks + need.block → length new.vnodes ≤ length old.vnodes + need.vnode
    → AreFilled new next
filled_turn past next old new need filled more same names blocks vnodes =
    let fn : next.filled.names ≡ past.filled.names + need.name = ap (λ f. f.names) more in
    let fb : next.filled.blocks ≡ past.filled.blocks + need.block = ap (λ f. f.blocks) more in
    let fv : next.filled.vnodes ≡ past.filled.vnodes + need.vnode = ap (λ f. f.vnodes) more in
    let en : next.evicted.names ≡ past.evicted.names = ap (λ f. f.names) same in
    let eb : next.evicted.blocks ≡ past.evicted.blocks = ap (λ f. f.blocks) same in
    let ev : next.evicted.vnodes ≡ past.evicted.vnodes = ap (λ f. f.vnodes) same in
    record { names = omega (arith, filled.names); blocks = omega (arith, filled.blocks); vnodes = omega (arith, filled.vnodes) }

-- the history behind a refusal
abbrev pub past_refused : Script → Past → ℕ → Past
past_refused script past pid = moves_on script past (answered script past.plain pid (Fail ENOMEM)) past.account (others pid past.asleep)

-- a live process's call may be refused whose bound is above what the heap can ever give
pub refused_legal : (script : Script) (past : Past) (pid : ℕ) → is_alive past.plain.table pid ≡ true
    → room script.heap < bound (call_of script past.plain pid)
    → MayFollow script past (refusal pid (asked_by script past.plain pid)) (past_refused script past pid)
refused_legal script past pid alive never = record { alive = alive; of_kind = refl; is_bound = refl; never_fits = never; leads = refl }

-- the history behind a kill
abbrev pub past_killed : Script → Past → ℕ → Past
past_killed script past pid =
    moves_on script past (die past.plain pid sigkill) (account_on past.plain (die past.plain pid sigkill) past.account) (others pid past.asleep)

-- the victim may be killed for a call that is up and doesn't fit, where nothing can be evicted
pub killed_legal : (script : Script) (past : Past) (world : World) (pid waiter : ℕ) → world.plain ≡ past.plain → world.account ≡ past.account
    → MayKeep world.plain world.kept → can_evict_any world ≡ false → victim_of script.policy past.plain past.account ≡ Some pid
    → is_alive past.plain.table waiter ≡ true → is_up past waiter ≡ true → bound (call_of script past.plain waiter) ≤ room script.heap
    → script.heap < live_of world + reserve + bound (call_of script past.plain waiter)
    → MayFollow script past (entry.Killed pid waiter (bound (call_of script past.plain waiter)) (live_of world)) (past_killed script past pid)
killed_legal script past world pid waiter plain account may_keep bare victim alive up fits full = record {
  victim = victim;
  alive = alive;
  up = up;
  is_bound = refl;
  fits_ever = fits;
  all_pinned = all_pinned world may_keep bare ∙ ap (λ p. base p world.account + size class.Vnode * pins p) plain
      ∙ ap (λ a. base past.plain a + size class.Vnode * pins past.plain) account;
  too_much = full;
  leads = refl;
}

-- a world behind a kill, and the history that it stands for
pub record KillLeads (script : Script) (past : Past) (pid : ℕ) (after : World) : Type 0 where
  pub plain_is : (past_killed script past pid).plain ≡ after.plain
  pub account_is : (past_killed script past pid).account ≡ after.account
  pub filled : AreFilled after.kept (past_killed script past pid)

pub kill_leads : (script : Script) (past : Past) (world : World) (pid : ℕ) (after : World) → past.plain ≡ world.plain → past.account ≡ world.account
    → AreFilled world.kept past → Kills world pid after → KillLeads script past pid after
kill_leads script past world pid after plain account filled kills =
    let goes : die past.plain pid sigkill ≡ after.plain = ap (λ p. die p pid sigkill) plain ∙ sym kills.plain in
    record {
      plain_is = goes;
      account_is = ap (λ p. account_on past.plain p past.account) goes ∙ ap (λ p. account_on p after.plain past.account) plain
          ∙ ap (account_on world.plain after.plain) account ∙ sym kills.account;
      filled = record {
        names = omega (arith, filled.names, kills.names);
        blocks = omega (arith, filled.blocks, kills.blocks);
        vnodes = omega (arith, filled.vnodes, kills.vnodes);
      };
    }

-- one object more was evicted than before, and the caches keep as many less
pub filled_less : (past : Past) (old new : Kept) (what : Cached) (sleepers : List ℕ) → AreFilled old past → SizesAfter old what new → 0 < length new.vnodes
    → AreCovered (one_more past.evicted what) past.filled × AreFilled new (record past { asleep = sleepers; evicted = one_more past.evicted what })
filled_less past old new cached.Name sleepers filled sizes root_stays = (
  record { names = omega (arith, filled.names, sizes.0); blocks = omega (arith, filled.blocks); vnodes = omega (arith, filled.vnodes, sizes.2, root_stays) },
  record { names = omega (arith, filled.names, sizes.0); blocks = omega (arith, filled.blocks, sizes.1); vnodes = omega (arith, filled.vnodes, sizes.2) },
)
filled_less past old new cached.Block sleepers filled sizes root_stays = (
  record { names = omega (arith, filled.names); blocks = omega (arith, filled.blocks, sizes.1); vnodes = omega (arith, filled.vnodes, sizes.2, root_stays) },
  record { names = omega (arith, filled.names, sizes.0); blocks = omega (arith, filled.blocks, sizes.1); vnodes = omega (arith, filled.vnodes, sizes.2) },
)
filled_less past old new cached.Vnode sleepers filled sizes root_stays = (
  record { names = omega (arith, filled.names); blocks = omega (arith, filled.blocks); vnodes = omega (arith, filled.vnodes, sizes.2, root_stays) },
  record { names = omega (arith, filled.names, sizes.0); blocks = omega (arith, filled.blocks, sizes.1); vnodes = omega (arith, filled.vnodes, sizes.2) },
)

-- the history behind an eviction
abbrev pub past_evicted : Script → Past → Cached → Past
past_evicted script past what = record (moves_on script past past.plain past.account past.asleep) { evicted = one_more past.evicted what }

-- an object goes that isn't pinned: it was filled once, and what is left may be kept
pub record EvictionLeads (script : Script) (past : Past) (what : Cached) (after : World) : Type 0 where
  pub follows : MayFollow script past (entry.Evicted what) (past_evicted script past what)
  pub may_keep : MayKeep after.plain after.kept
  pub filled : AreFilled after.kept (past_evicted script past what)

pub eviction_leads : (script : Script) (past : Past) (world : World) (what : Cached) (after : World) → MayKeep world.plain world.kept
    → AreFilled world.kept past → Evicts world what after → EvictionLeads script past what after
eviction_leads script past world what after may_keep filled evicts =
    let may = keeps_left world.plain world.kept what after.kept evicts.kept may_keep in
    let many : pins world.plain ≤ length after.kept.vnodes = pins_kept world.plain after.kept may in
    let one : 0 < pins world.plain = root_is_pinned world.plain in
    let counts = filled_less past world.kept after.kept what (still_asleep script past.plain past.asleep) filled (sizes_left world.plain world.kept what after.kept evicts.kept)
    (omega arith) in
    record {
      follows = record { covered = counts.0; leads = refl };
      may_keep = subst (λ p. MayKeep p after.kept) (sym evicts.plain) may;
      filled = record { names = counts.1.names; blocks = counts.1.blocks; vnodes = counts.1.vnodes };
    }
