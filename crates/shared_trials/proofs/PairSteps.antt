-- What the two processes of the tests do, by cases.
use Rattle.std.proofs.Common.{◌≡◌, ◌≢◌, ℕ, zero, suc, ◌+◌, ◌≤◌, max, ap, ◌∙◌, Bool, true, false, cond, not, [], lit≤, refl, sym, subst, arith}
use Rattle.std.specs.Prelude.{Option, None, Some, is_some}
use Rattle.kabi_types.specs.declared.calls.Call.{Call}
use Rattle.kabi_types.specs.declared.entries.Cached.{Cached}
use Rattle.kabi_types.specs.declared.entries.Cached.TheVariants.{Name, Block, Vnode}
use Rattle.kabi_types.specs.declared.scripts.Script.{Script}
use Rattle.posix_defs.specs.declared.turner.Turned.{Turned}
use Rattle.posix_defs.specs.declared.turner.Turned.TheVariants.{Gone}
use Rattle.posix_defs.specs.Calls.OnFiles.{open_file}
use Rattle.posix_defs.specs.Machine.{would_block}
use Rattle.posix_defs.specs.Memory.{no_places}
use Rattle.posix_defs.specs.Files.Closing.{after_end_of}
use Rattle.posix_defs.specs.Files.Descriptors.{none_open}
use Rattle.posix_defs.specs.Needs.{bound, need_of, slack}
use Rattle.posix_defs.specs.Process.{is_alive}
use Rattle.posix_defs.specs.Plain.{call_of, last_pid}
use Rattle.posix_defs.specs.Sizes.{reserve}
use Rattle.posix_defs.specs.Account.{account_on}
use Rattle.posix_defs.specs.Ending.{die}
use Rattle.posix_defs.specs.Killing.{sigkill}
use Rattle.posix_defs.specs.Victim.{victim_of}
use Rattle.posix_defs.specs.World.{MayKeep, World, boot_world, can_evict, live_of}
use Rattle.posix_defs.specs.Relief.{Evicts, Kills, refused_in}
use Rattle.posix_defs.specs.Turn.{Answers, TurnsTo, TurnsWhere}
use Rattle.shared_trials.specs.declared.scenes.Act.{Act}
use Rattle.shared_trials.specs.declared.scenes.Next.{Next}
use Rattle.shared_trials.specs.declared.scenes.Next.TheVariants as next
use Rattle.shared_trials.specs.declared.scenes.Scene.{Scene}
use Rattle.shared_trials.specs.declared.scenes.Scene.TheVariants.{Young, Alone, Two, Exited, Killed, Over, BothOver}
use Rattle.shared_trials.specs.declared.scenes.Who.{Who}
use Rattle.shared_trials.specs.Pair.{act_of, cached_by, cached_without, call_as, can_lose, first_act, first_after, first_refused, held_in, last_in, live_at, pair, scene_after, scene_killed, scene_refused, second_act, second_after, second_refused, told_of, who, victim_in, without_child, world_at, kept_of}

nobody : false ≡ true → ⊥
nobody e = cc

-- what is cached may be kept
may_keep : (now : Scene) (cached : Bool) → MayKeep (world_at now cached).plain (kept_of cached)
may_keep Young false = record { names = tt; blocks = tt; vnodes = (tt, tt); pinned = λ node e. e; true_names = tt; on_disk = tt; in_use = (refl, tt) }
may_keep Young true = record { names = tt; blocks = (tt, tt); vnodes = (tt, tt); pinned = λ node e. e; true_names = tt; on_disk = (lit≤ tt, tt); in_use = (refl, tt) }
may_keep (Alone a) false = record { names = tt; blocks = tt; vnodes = (tt, tt); pinned = λ node e. e; true_names = tt; on_disk = tt; in_use = (refl, tt) }
may_keep (Alone a) true = record { names = tt; blocks = (tt, tt); vnodes = (tt, tt); pinned = λ node e. e; true_names = tt; on_disk = (lit≤ tt, tt); in_use = (refl, tt) }
may_keep (Two a b) false = record { names = tt; blocks = tt; vnodes = (tt, tt); pinned = λ node e. e; true_names = tt; on_disk = tt; in_use = (refl, tt) }
may_keep (Two a b) true = record { names = tt; blocks = (tt, tt); vnodes = (tt, tt); pinned = λ node e. e; true_names = tt; on_disk = (lit≤ tt, tt); in_use = (refl, tt) }
may_keep (Exited a) false = record { names = tt; blocks = tt; vnodes = (tt, tt); pinned = λ node e. e; true_names = tt; on_disk = tt; in_use = (refl, tt) }
may_keep (Exited a) true = record { names = tt; blocks = (tt, tt); vnodes = (tt, tt); pinned = λ node e. e; true_names = tt; on_disk = (lit≤ tt, tt); in_use = (refl, tt) }
may_keep (Killed a b) false = record { names = tt; blocks = tt; vnodes = (tt, tt); pinned = λ node e. e; true_names = tt; on_disk = tt; in_use = (refl, tt) }
may_keep (Killed a b) true = record { names = tt; blocks = (tt, tt); vnodes = (tt, tt); pinned = λ node e. e; true_names = tt; on_disk = (lit≤ tt, tt); in_use = (refl, tt) }
may_keep Over false = record { names = tt; blocks = tt; vnodes = (tt, tt); pinned = λ node e. e; true_names = tt; on_disk = tt; in_use = (refl, tt) }
may_keep Over true = record { names = tt; blocks = (tt, tt); vnodes = (tt, tt); pinned = λ node e. e; true_names = tt; on_disk = (lit≤ tt, tt); in_use = (refl, tt) }
may_keep (BothOver b) false = record { names = tt; blocks = tt; vnodes = (tt, tt); pinned = λ node e. e; true_names = tt; on_disk = tt; in_use = (refl, tt) }
may_keep (BothOver b) true = record { names = tt; blocks = (tt, tt); vnodes = (tt, tt); pinned = λ node e. e; true_names = tt; on_disk = (lit≤ tt, tt); in_use = (refl, tt) }

-- a process that does this next makes this call
abbrev IsCall : ℕ → ℕ → Scene → Bool → Option Act → Type 0
IsCall heap pid now cached None = Unit {0}
IsCall heap pid now cached (Some act) = call_as act ≡ call_of (pair heap) (world_at now cached).plain pid

first_calls : (heap : ℕ) (now : Scene) (cached : Bool) → IsCall heap 1 now cached (first_act now)
first_calls heap Young cached = refl
first_calls heap (Alone next.Open) cached = refl
first_calls heap (Alone next.Exit) cached = refl
first_calls heap (Two next.Open b) cached = refl
first_calls heap (Two next.Exit b) cached = refl
first_calls heap (Exited next.Open) cached = refl
first_calls heap (Exited next.Exit) cached = refl
first_calls heap (Killed next.Open b) cached = refl
first_calls heap (Killed next.Exit b) cached = refl
first_calls heap Over cached = tt
first_calls heap (BothOver b) cached = tt

second_calls : (heap : ℕ) (now : Scene) (cached : Bool) → IsCall heap 2 now cached (second_act now)
second_calls heap Young cached = tt
second_calls heap (Alone a) cached = tt
second_calls heap (Two a next.Open) cached = refl
second_calls heap (Two a next.Exit) cached = refl
second_calls heap (Exited a) cached = tt
second_calls heap (Killed a b) cached = tt
second_calls heap Over cached = tt
second_calls heap (BothOver b) cached = tt

-- the turn of a process that does this next
abbrev HasTurn : ℕ → ℕ → Scene → Bool → Scene → Option Act → Type 0
HasTurn heap pid now cached after None = Unit {0}
HasTurn heap pid now cached after (Some act) =
    Answers (pair heap) (world_at now cached) pid (call_as act) (told_of (Some act)) (world_at after (cached_by (Some act) cached))

first_turns : (heap : ℕ) (now : Scene) (cached : Bool) → HasTurn heap 1 now cached (first_after now) (first_act now)
unfolding open_file bound need_of no_places none_open after_end_of
first_turns heap Young false = record { answer = (refl, refl); account = refl; may_keep = may_keep (Two next.Open next.Open) false; live = lit≤ tt; names = lit≤ tt; blocks = lit≤ tt; vnodes = lit≤ tt; reads = lit≤ tt; untouched = λ _. (refl, refl); left = λ _. tt; known = λ _. refl }
first_turns heap Young true = record { answer = (refl, refl); account = refl; may_keep = may_keep (Two next.Open next.Open) true; live = lit≤ tt; names = lit≤ tt; blocks = lit≤ tt; vnodes = lit≤ tt; reads = lit≤ tt; untouched = λ _. (refl, refl); left = λ _. tt; known = λ _. refl }
first_turns heap (Alone next.Open) false = record { answer = (refl, refl); account = refl; may_keep = may_keep (Alone next.Exit) true; live = lit≤ tt; names = lit≤ tt; blocks = lit≤ tt; vnodes = lit≤ tt; reads = lit≤ tt; untouched = λ e. cc; left = λ e. absurd (nobody e); known = λ _. refl }
first_turns heap (Alone next.Open) true = record { answer = (refl, refl); account = refl; may_keep = may_keep (Alone next.Exit) true; live = lit≤ tt; names = lit≤ tt; blocks = lit≤ tt; vnodes = lit≤ tt; reads = lit≤ tt; untouched = λ e. cc; left = λ e. absurd (nobody e); known = λ _. refl }
first_turns heap (Alone next.Exit) false = record { answer = (refl, refl); account = refl; may_keep = may_keep Over false; live = lit≤ tt; names = lit≤ tt; blocks = lit≤ tt; vnodes = lit≤ tt; reads = lit≤ tt; untouched = λ _. (refl, refl); left = λ _. tt; known = λ _. refl }
first_turns heap (Alone next.Exit) true = record { answer = (refl, refl); account = refl; may_keep = may_keep Over true; live = lit≤ tt; names = lit≤ tt; blocks = lit≤ tt; vnodes = lit≤ tt; reads = lit≤ tt; untouched = λ _. (refl, refl); left = λ _. tt; known = λ _. refl }
first_turns heap (Two next.Open b) false = record { answer = (refl, refl); account = refl; may_keep = may_keep (Two next.Exit b) true; live = lit≤ tt; names = lit≤ tt; blocks = lit≤ tt; vnodes = lit≤ tt; reads = lit≤ tt; untouched = λ e. cc; left = λ e. absurd (nobody e); known = λ _. refl }
first_turns heap (Two next.Open b) true = record { answer = (refl, refl); account = refl; may_keep = may_keep (Two next.Exit b) true; live = lit≤ tt; names = lit≤ tt; blocks = lit≤ tt; vnodes = lit≤ tt; reads = lit≤ tt; untouched = λ e. cc; left = λ e. absurd (nobody e); known = λ _. refl }
first_turns heap (Two next.Exit b) false = record { answer = (refl, refl); account = refl; may_keep = may_keep (BothOver b) false; live = lit≤ tt; names = lit≤ tt; blocks = lit≤ tt; vnodes = lit≤ tt; reads = lit≤ tt; untouched = λ _. (refl, refl); left = λ _. tt; known = λ _. refl }
first_turns heap (Two next.Exit b) true = record { answer = (refl, refl); account = refl; may_keep = may_keep (BothOver b) true; live = lit≤ tt; names = lit≤ tt; blocks = lit≤ tt; vnodes = lit≤ tt; reads = lit≤ tt; untouched = λ _. (refl, refl); left = λ _. tt; known = λ _. refl }
first_turns heap (Exited next.Open) false = record { answer = (refl, refl); account = refl; may_keep = may_keep (Exited next.Exit) true; live = lit≤ tt; names = lit≤ tt; blocks = lit≤ tt; vnodes = lit≤ tt; reads = lit≤ tt; untouched = λ e. cc; left = λ e. absurd (nobody e); known = λ _. refl }
first_turns heap (Exited next.Open) true = record { answer = (refl, refl); account = refl; may_keep = may_keep (Exited next.Exit) true; live = lit≤ tt; names = lit≤ tt; blocks = lit≤ tt; vnodes = lit≤ tt; reads = lit≤ tt; untouched = λ e. cc; left = λ e. absurd (nobody e); known = λ _. refl }
first_turns heap (Exited next.Exit) false = record { answer = (refl, refl); account = refl; may_keep = may_keep (BothOver next.Exit) false; live = lit≤ tt; names = lit≤ tt; blocks = lit≤ tt; vnodes = lit≤ tt; reads = lit≤ tt; untouched = λ _. (refl, refl); left = λ _. tt; known = λ _. refl }
first_turns heap (Exited next.Exit) true = record { answer = (refl, refl); account = refl; may_keep = may_keep (BothOver next.Exit) true; live = lit≤ tt; names = lit≤ tt; blocks = lit≤ tt; vnodes = lit≤ tt; reads = lit≤ tt; untouched = λ _. (refl, refl); left = λ _. tt; known = λ _. refl }
first_turns heap (Killed next.Open b) false = record { answer = (refl, refl); account = refl; may_keep = may_keep (Killed next.Exit b) true; live = lit≤ tt; names = lit≤ tt; blocks = lit≤ tt; vnodes = lit≤ tt; reads = lit≤ tt; untouched = λ e. cc; left = λ e. absurd (nobody e); known = λ _. refl }
first_turns heap (Killed next.Open b) true = record { answer = (refl, refl); account = refl; may_keep = may_keep (Killed next.Exit b) true; live = lit≤ tt; names = lit≤ tt; blocks = lit≤ tt; vnodes = lit≤ tt; reads = lit≤ tt; untouched = λ e. cc; left = λ e. absurd (nobody e); known = λ _. refl }
first_turns heap (Killed next.Exit b) false = record { answer = (refl, refl); account = refl; may_keep = may_keep (BothOver b) false; live = lit≤ tt; names = lit≤ tt; blocks = lit≤ tt; vnodes = lit≤ tt; reads = lit≤ tt; untouched = λ _. (refl, refl); left = λ _. tt; known = λ _. refl }
first_turns heap (Killed next.Exit b) true = record { answer = (refl, refl); account = refl; may_keep = may_keep (BothOver b) true; live = lit≤ tt; names = lit≤ tt; blocks = lit≤ tt; vnodes = lit≤ tt; reads = lit≤ tt; untouched = λ _. (refl, refl); left = λ _. tt; known = λ _. refl }
first_turns heap Over cached = tt
first_turns heap (BothOver b) cached = tt

second_turns : (heap : ℕ) (now : Scene) (cached : Bool) → HasTurn heap 2 now cached (second_after now) (second_act now)
unfolding open_file bound need_of no_places none_open after_end_of
second_turns heap Young cached = tt
second_turns heap (Alone a) cached = tt
second_turns heap (Two a next.Open) false = record { answer = (refl, refl); account = refl; may_keep = may_keep (Two a next.Exit) true; live = lit≤ tt; names = lit≤ tt; blocks = lit≤ tt; vnodes = lit≤ tt; reads = lit≤ tt; untouched = λ e. cc; left = λ e. absurd (nobody e); known = λ _. refl }
second_turns heap (Two a next.Open) true = record { answer = (refl, refl); account = refl; may_keep = may_keep (Two a next.Exit) true; live = lit≤ tt; names = lit≤ tt; blocks = lit≤ tt; vnodes = lit≤ tt; reads = lit≤ tt; untouched = λ e. cc; left = λ e. absurd (nobody e); known = λ _. refl }
second_turns heap (Two a next.Exit) false = record { answer = (refl, refl); account = refl; may_keep = may_keep (Exited a) false; live = lit≤ tt; names = lit≤ tt; blocks = lit≤ tt; vnodes = lit≤ tt; reads = lit≤ tt; untouched = λ _. (refl, refl); left = λ _. tt; known = λ _. refl }
second_turns heap (Two a next.Exit) true = record { answer = (refl, refl); account = refl; may_keep = may_keep (Exited a) true; live = lit≤ tt; names = lit≤ tt; blocks = lit≤ tt; vnodes = lit≤ tt; reads = lit≤ tt; untouched = λ _. (refl, refl); left = λ _. tt; known = λ _. refl }
second_turns heap (Exited a) cached = tt
second_turns heap (Killed a b) cached = tt
second_turns heap Over cached = tt
second_turns heap (BothOver b) cached = tt

-- who lives
pub who_lives : (now : Scene) (cached : Bool) (pid : ℕ) → is_alive (world_at now cached).plain.table pid ≡ is_some (act_of (who pid) now)
who_lives Young cached zero = refl
who_lives Young cached (suc zero) = refl
who_lives Young cached (suc (suc zero)) = refl
who_lives Young cached (suc (suc (suc n))) = refl
who_lives (Alone a) cached zero = refl
who_lives (Alone a) cached (suc zero) = refl
who_lives (Alone a) cached (suc (suc zero)) = refl
who_lives (Alone a) cached (suc (suc (suc n))) = refl
who_lives (Two a b) cached zero = refl
who_lives (Two a b) cached (suc zero) = refl
who_lives (Two a b) cached (suc (suc zero)) = refl
who_lives (Two a b) cached (suc (suc (suc n))) = refl
who_lives (Exited a) cached zero = refl
who_lives (Exited a) cached (suc zero) = refl
who_lives (Exited a) cached (suc (suc zero)) = refl
who_lives (Exited a) cached (suc (suc (suc n))) = refl
who_lives (Killed a b) cached zero = refl
who_lives (Killed a b) cached (suc zero) = refl
who_lives (Killed a b) cached (suc (suc zero)) = refl
who_lives (Killed a b) cached (suc (suc (suc n))) = refl
who_lives Over cached zero = refl
who_lives Over cached (suc zero) = refl
who_lives Over cached (suc (suc zero)) = refl
who_lives Over cached (suc (suc (suc n))) = refl
who_lives (BothOver b) cached zero = refl
who_lives (BothOver b) cached (suc zero) = refl
who_lives (BothOver b) cached (suc (suc zero)) = refl
who_lives (BothOver b) cached (suc (suc (suc n))) = refl

-- a turn of a process, that lives or has ended
gone_turns : (script : Script) (world : World) (which : Call) (alive : Bool) (pid : ℕ) → alive ≡ false → TurnsWhere alive script world pid which Gone world
gone_turns script world which alive pid is = subst (λ b. TurnsWhere b script world pid which Gone world) (sym is) (refl, refl)

-- what is said of the turn of a process by what it does next
abbrev TurnsBy : ℕ → ℕ → Scene → Bool → Scene → Option Act → Type 0
TurnsBy heap pid now cached after act =
    (which : Call) → (is_alive (world_at now cached).plain.table pid ≡ true → which ≡ call_of (pair heap) (world_at now cached).plain pid)
    → TurnsTo (pair heap) (world_at now cached) pid which (told_of act) (world_at after (cached_by act cached))

by_act : (heap pid : ℕ) (now : Scene) (cached : Bool) (after : Scene) (act : Option Act) → is_alive (world_at now cached).plain.table pid ≡ is_some act
    → (act ≡ None → after ≡ now) → IsCall heap pid now cached act → HasTurn heap pid now cached after act → TurnsBy heap pid now cached after act
by_act heap pid now cached after None alive stays is turns =
    λ which calls. subst (λ s. TurnsTo (pair heap) (world_at now cached) pid which Gone (world_at s cached)) (sym (stays refl))
    (gone_turns (pair heap) (world_at now cached) which (is_alive (world_at now cached).plain.table pid) pid alive)
by_act heap pid now cached after (Some act) alive stays is turns =
    λ which calls. subst (λ b. TurnsWhere b (pair heap) (world_at now cached) pid which (told_of (Some act)) (world_at after (cached_by (Some act) cached))) (sym alive)
    (subst (λ w. Answers (pair heap) (world_at now cached) pid w (told_of (Some act)) (world_at after (cached_by (Some act) cached))) (is ∙ sym (calls alive)) turns)

first_stays : (now : Scene) → first_act now ≡ None → first_after now ≡ now
first_stays Young none = cc
first_stays (Alone a) none = cc
first_stays (Two a b) none = cc
first_stays (Exited a) none = cc
first_stays (Killed a b) none = cc
first_stays Over none = refl
first_stays (BothOver b) none = refl

second_stays : (now : Scene) → second_act now ≡ None → second_after now ≡ now
second_stays Young none = refl
second_stays (Alone a) none = refl
second_stays (Two a b) none = cc
second_stays (Exited a) none = refl
second_stays (Killed a b) none = refl
second_stays Over none = refl
second_stays (BothOver b) none = refl

pub pair_turns : (heap : ℕ) (now : Scene) (cached : Bool) (pid : ℕ) → TurnsBy heap pid now cached (scene_after (who pid) now) (act_of (who pid) now)
pair_turns heap now cached zero = by_act heap zero now cached now None (who_lives now cached zero) (λ _. refl) tt tt
pair_turns heap now cached (suc zero) =
    by_act heap 1 now cached (first_after now) (first_act now) (who_lives now cached 1) (first_stays now) (first_calls heap now cached) (first_turns heap now cached)
pair_turns heap now cached (suc (suc zero)) =
    by_act heap 2 now cached (second_after now) (second_act now) (who_lives now cached 2) (second_stays now) (second_calls heap now cached) (second_turns heap now cached)
pair_turns heap now cached (suc (suc (suc n))) =
    by_act heap (suc (suc (suc n))) now cached now None (who_lives now cached (suc (suc (suc n)))) (λ _. refl) tt tt

-- the call that a live process makes next
pub pair_calls : (heap : ℕ) (now : Scene) (cached : Bool) (pid : ℕ) → IsCall heap pid now cached (act_of (who pid) now)
pair_calls heap now cached zero = tt
pair_calls heap now cached (suc zero) = first_calls heap now cached
pair_calls heap now cached (suc (suc zero)) = second_calls heap now cached
pair_calls heap now cached (suc (suc (suc n))) = tt

-- it never blocks
first_ready : (heap : ℕ) (now : Scene) (cached : Bool) → is_some (first_act now) ≡ true → would_block (pair heap) (world_at now cached).plain 1 ≡ false
unfolding open_file none_open
first_ready heap Young cached lives = refl
first_ready heap (Alone next.Open) cached lives = refl
first_ready heap (Alone next.Exit) cached lives = refl
first_ready heap (Two next.Open b) cached lives = refl
first_ready heap (Two next.Exit b) cached lives = refl
first_ready heap (Exited next.Open) cached lives = refl
first_ready heap (Exited next.Exit) cached lives = refl
first_ready heap (Killed next.Open b) cached lives = refl
first_ready heap (Killed next.Exit b) cached lives = refl
first_ready heap Over cached lives = cc
first_ready heap (BothOver b) cached lives = cc

second_ready : (heap : ℕ) (now : Scene) (cached : Bool) → is_some (second_act now) ≡ true → would_block (pair heap) (world_at now cached).plain 2 ≡ false
unfolding open_file none_open
second_ready heap Young cached lives = cc
second_ready heap (Alone a) cached lives = cc
second_ready heap (Two a next.Open) cached lives = refl
second_ready heap (Two a next.Exit) cached lives = refl
second_ready heap (Exited a) cached lives = cc
second_ready heap (Killed a b) cached lives = cc
second_ready heap Over cached lives = cc
second_ready heap (BothOver b) cached lives = cc

pub pair_ready : (heap : ℕ) (now : Scene) (cached : Bool) (pid : ℕ) → is_alive (world_at now cached).plain.table pid ≡ true
    → true ≡ not (would_block (pair heap) (world_at now cached).plain pid)
pair_ready heap now cached zero lives = absurd (nobody (sym (who_lives now cached zero) ∙ lives))
pair_ready heap now cached (suc zero) lives = ap not (sym (first_ready heap now cached (sym (who_lives now cached 1) ∙ lives)))
pair_ready heap now cached (suc (suc zero)) lives = ap not (sym (second_ready heap now cached (sym (who_lives now cached 2) ∙ lives)))
pair_ready heap now cached (suc (suc (suc n))) lives = absurd (nobody (sym (who_lives now cached (suc (suc (suc n)))) ∙ lives))

-- a live process's call is refused
first_refuses : (heap : ℕ) (now : Scene) (cached : Bool) → is_some (first_act now) ≡ true → world_at (first_refused now) cached ≡ refused_in (pair heap) (world_at now cached) 1
first_refuses heap Young cached lives = refl
first_refuses heap (Alone next.Open) cached lives = refl
first_refuses heap (Alone next.Exit) cached lives = refl
first_refuses heap (Two next.Open b) cached lives = refl
first_refuses heap (Two next.Exit b) cached lives = refl
first_refuses heap (Exited next.Open) cached lives = refl
first_refuses heap (Exited next.Exit) cached lives = refl
first_refuses heap (Killed next.Open b) cached lives = refl
first_refuses heap (Killed next.Exit b) cached lives = refl
first_refuses heap Over cached lives = cc
first_refuses heap (BothOver b) cached lives = cc

second_refuses : (heap : ℕ) (now : Scene) (cached : Bool) → is_some (second_act now) ≡ true → world_at (second_refused now) cached ≡ refused_in (pair heap) (world_at now cached) 2
second_refuses heap Young cached lives = cc
second_refuses heap (Alone a) cached lives = cc
second_refuses heap (Two a next.Open) cached lives = refl
second_refuses heap (Two a next.Exit) cached lives = refl
second_refuses heap (Exited a) cached lives = cc
second_refuses heap (Killed a b) cached lives = cc
second_refuses heap Over cached lives = cc
second_refuses heap (BothOver b) cached lives = cc

pub pair_refuses : (heap : ℕ) (now : Scene) (cached : Bool) (pid : ℕ) → is_alive (world_at now cached).plain.table pid ≡ true
    → world_at (scene_refused (who pid) now) cached ≡ refused_in (pair heap) (world_at now cached) pid
pair_refuses heap now cached zero lives = absurd (nobody (sym (who_lives now cached zero) ∙ lives))
pair_refuses heap now cached (suc zero) lives = first_refuses heap now cached (sym (who_lives now cached 1) ∙ lives)
pair_refuses heap now cached (suc (suc zero)) lives = second_refuses heap now cached (sym (who_lives now cached 2) ∙ lives)
pair_refuses heap now cached (suc (suc (suc n))) lives = absurd (nobody (sym (who_lives now cached (suc (suc (suc n)))) ∙ lives))

-- where it doesn't live, or the first is meant, nothing changes
child_stays : (now : Scene) → is_some (second_act now) ≡ false → without_child now ≡ now
child_stays Young ended = refl
child_stays (Alone a) ended = refl
child_stays (Two a b) ended = cc
child_stays (Exited a) ended = refl
child_stays (Killed a b) ended = refl
child_stays Over ended = refl
child_stays (BothOver b) ended = refl

pub none_killed : (now : Scene) (cached : Bool) (pid : ℕ) → is_alive (world_at now cached).plain.table pid ≡ false → scene_killed (who pid) now ≡ now
none_killed now cached zero ended = refl
none_killed now cached (suc zero) ended = refl
none_killed now cached (suc (suc zero)) ended = child_stays now (sym (who_lives now cached 2) ∙ ended)
none_killed now cached (suc (suc (suc n))) ended = refl

pub first_not_killed : (now : Scene) (pid : ℕ) → pid ≡ 1 → scene_killed (who pid) now ≡ now
first_not_killed now pid is = subst (λ n. scene_killed (who n) now ≡ now) (sym is) refl

-- what all takes of the heap
pub pair_live : (now : Scene) (cached : Bool) → live_of (world_at now cached) ≡ live_at now cached
unfolding no_places none_open
pair_live Young false = refl
pair_live Young true = refl
pair_live (Alone a) false = refl
pair_live (Alone a) true = refl
pair_live (Two a b) false = refl
pair_live (Two a b) true = refl
pair_live (Exited a) false = refl
pair_live (Exited a) true = refl
pair_live (Killed a b) false = refl
pair_live (Killed a b) true = refl
pair_live Over false = refl
pair_live Over true = refl
pair_live (BothOver b) false = refl
pair_live (BothOver b) true = refl

-- the child is killed
die_plain : (a b : Next) (cached : Bool) → (world_at (Killed a b) cached).plain ≡ die (world_at (Two a b) cached).plain 2 sigkill
unfolding none_open after_end_of
die_plain a b cached = refl

die_account : (a b : Next) (cached : Bool) → (world_at (Killed a b) cached).account ≡ account_on (world_at (Two a b) cached).plain (world_at (Killed a b) cached).plain (world_at (Two a b) cached).account
die_account a b cached = refl

die_live : (a b : Next) (cached : Bool) → live_of (world_at (Killed a b) cached) ≤ live_of (world_at (Two a b) cached)
die_live a b cached = within _ _ _ (pair_live (Killed a b) cached) (pair_live (Two a b) cached)
  where
    within : (n k l : ℕ) → n ≡ l → k ≡ l → n ≤ k
    within n k l one two = omega arith

no_less : (n : ℕ) → n ≤ n
no_less n = omega arith

two_die : (a b : Next) (cached : Bool) → Kills (world_at (Two a b) cached) 2 (world_at (Killed a b) cached)
two_die a b cached = record {
  plain = die_plain a b cached;
  account = die_account a b cached;
  may_keep = may_keep (Killed a b) cached;
  live = die_live a b cached;
  names = no_less 0;
  blocks = no_less _;
  vnodes = no_less 1;
  reads = no_less 0;
  untouched = λ _. (refl, refl);
}

child_dies : (now : Scene) (cached : Bool) → is_some (second_act now) ≡ true → Kills (world_at now cached) 2 (world_at (without_child now) cached)
child_dies Young cached lives = absurd (nobody lives)
child_dies (Alone a) cached lives = absurd (nobody lives)
child_dies (Two a b) cached lives = two_die a b cached
child_dies (Exited a) cached lives = absurd (nobody lives)
child_dies (Killed a b) cached lives = absurd (nobody lives)
child_dies Over cached lives = absurd (nobody lives)
child_dies (BothOver b) cached lives = absurd (nobody lives)

pub pair_kills : (now : Scene) (cached : Bool) (pid : ℕ) → is_alive (world_at now cached).plain.table pid ≡ true → pid ≢ 1
    → Kills (world_at now cached) pid (world_at (scene_killed (who pid) now) cached)
pair_kills now cached zero lives other = absurd (nobody (sym (who_lives now cached zero) ∙ lives))
pair_kills now cached (suc zero) lives other = absurd (other refl)
pair_kills now cached (suc (suc zero)) lives other = child_dies now cached (sym (who_lives now cached 2) ∙ lives)
pair_kills now cached (suc (suc (suc n))) lives other = absurd (nobody (sym (who_lives now cached (suc (suc (suc n)))) ∙ lives))

pub refused_live : (now : Scene) (pid : ℕ) → held_in (scene_refused (who pid) now) ≡ held_in now
refused_live Young zero = refl
refused_live Young (suc zero) = refl
refused_live Young (suc (suc zero)) = refl
refused_live Young (suc (suc (suc n))) = refl
refused_live (Alone a) zero = refl
refused_live (Alone a) (suc zero) = refl
refused_live (Alone a) (suc (suc zero)) = refl
refused_live (Alone a) (suc (suc (suc n))) = refl
refused_live (Two a b) zero = refl
refused_live (Two a b) (suc zero) = refl
refused_live (Two a b) (suc (suc zero)) = refl
refused_live (Two a b) (suc (suc (suc n))) = refl
refused_live (Exited a) zero = refl
refused_live (Exited a) (suc zero) = refl
refused_live (Exited a) (suc (suc zero)) = refl
refused_live (Exited a) (suc (suc (suc n))) = refl
refused_live (Killed a b) zero = refl
refused_live (Killed a b) (suc zero) = refl
refused_live (Killed a b) (suc (suc zero)) = refl
refused_live (Killed a b) (suc (suc (suc n))) = refl
refused_live Over zero = refl
refused_live Over (suc zero) = refl
refused_live Over (suc (suc zero)) = refl
refused_live Over (suc (suc (suc n))) = refl
refused_live (BothOver b) zero = refl
refused_live (BothOver b) (suc zero) = refl
refused_live (BothOver b) (suc (suc zero)) = refl
refused_live (BothOver b) (suc (suc (suc n))) = refl

pub killed_live : (now : Scene) (pid : ℕ) → held_in (scene_killed (who pid) now) ≡ held_in now
killed_live Young zero = refl
killed_live Young (suc zero) = refl
killed_live Young (suc (suc zero)) = refl
killed_live Young (suc (suc (suc n))) = refl
killed_live (Alone a) zero = refl
killed_live (Alone a) (suc zero) = refl
killed_live (Alone a) (suc (suc zero)) = refl
killed_live (Alone a) (suc (suc (suc n))) = refl
killed_live (Two a b) zero = refl
killed_live (Two a b) (suc zero) = refl
killed_live (Two a b) (suc (suc zero)) = refl
killed_live (Two a b) (suc (suc (suc n))) = refl
killed_live (Exited a) zero = refl
killed_live (Exited a) (suc zero) = refl
killed_live (Exited a) (suc (suc zero)) = refl
killed_live (Exited a) (suc (suc (suc n))) = refl
killed_live (Killed a b) zero = refl
killed_live (Killed a b) (suc zero) = refl
killed_live (Killed a b) (suc (suc zero)) = refl
killed_live (Killed a b) (suc (suc (suc n))) = refl
killed_live Over zero = refl
killed_live Over (suc zero) = refl
killed_live Over (suc (suc zero)) = refl
killed_live Over (suc (suc (suc n))) = refl
killed_live (BothOver b) zero = refl
killed_live (BothOver b) (suc zero) = refl
killed_live (BothOver b) (suc (suc zero)) = refl
killed_live (BothOver b) (suc (suc (suc n))) = refl

-- what a cache can lose, and its block goes
pub pair_caches : (now : Scene) (cached : Bool) → (can_evict (world_at now cached).plain (kept_of cached) Name ≡ false) × (can_evict (world_at now cached).plain (kept_of cached) Block ≡ cached)
    × (can_evict (world_at now cached).plain (kept_of cached) Vnode ≡ false)
pair_caches Young false = (refl, refl, refl)
pair_caches Young true = (refl, refl, refl)
pair_caches (Alone a) false = (refl, refl, refl)
pair_caches (Alone a) true = (refl, refl, refl)
pair_caches (Two a b) false = (refl, refl, refl)
pair_caches (Two a b) true = (refl, refl, refl)
pair_caches (Exited a) false = (refl, refl, refl)
pair_caches (Exited a) true = (refl, refl, refl)
pair_caches (Killed a b) false = (refl, refl, refl)
pair_caches (Killed a b) true = (refl, refl, refl)
pair_caches Over false = (refl, refl, refl)
pair_caches Over true = (refl, refl, refl)
pair_caches (BothOver b) false = (refl, refl, refl)
pair_caches (BothOver b) true = (refl, refl, refl)

pub block_goes : (now : Scene) → Evicts (world_at now true) Block (world_at now false)
block_goes now = record {
  plain = refl;
  account = refl;
  kept = (7, record { front = []; back = []; was = refl; is = refl }, refl);
  reads = refl;
}

-- whom the policy kills
pub pair_victim : (heap : ℕ) (now : Scene) (cached : Bool) → victim_of (pair heap).policy (world_at now cached).plain (world_at now cached).account ≡ victim_in now
pair_victim heap Young cached = refl
pair_victim heap (Alone a) cached = refl
pair_victim heap (Two a b) cached = refl
pair_victim heap (Exited a) cached = refl
pair_victim heap (Killed a b) cached = refl
pair_victim heap Over cached = refl
pair_victim heap (BothOver b) cached = refl

pub pair_boots : (heap : ℕ) → world_at Young false ≡ boot_world (pair heap)
pair_boots heap = refl

-- worlds are the same where the scene and what is cached are
pub same_world : {now other : Scene} {cached kept : Bool} → now ≡ other → cached ≡ kept → world_at now cached ≡ world_at other kept
same_world {other = other} {cached = cached} at has = ap (λ s. world_at s cached) at ∙ ap (world_at other) has

-- the youngest process
pub pair_last : (now : Scene) (cached : Bool) → last_pid (world_at now cached).plain ≡ last_in now
pair_last Young cached = refl
pair_last (Alone a) cached = refl
pair_last (Two a b) cached = refl
pair_last (Exited a) cached = refl
pair_last (Killed a b) cached = refl
pair_last Over cached = refl
pair_last (BothOver b) cached = refl

-- what each cache can lose
pub pair_can : (now : Scene) (cached : Bool) (what : Cached) → can_evict (world_at now cached).plain (kept_of cached) what ≡ can_lose what cached
pair_can now cached Name = (pair_caches now cached).0
pair_can now cached Block = (pair_caches now cached).1
pair_can now cached Vnode = (pair_caches now cached).2

-- ---- of a store that stands for a world

pub pair_turned : (heap : ℕ) (now : Scene) (cached : Bool) (pid : ℕ) (which : Call) (one : Who) (act : Option Act) (led : Scene) (kept : Bool) (told : Turned) (world : World)
    → world ≡ world_at now cached → one ≡ who pid → act ≡ act_of one now → led ≡ scene_after one now → kept ≡ cached_by act cached → told ≡ told_of act
    → (is_alive (world_at now cached).plain.table pid ≡ true → which ≡ call_of (pair heap) (world_at now cached).plain pid)
    → TurnsTo (pair heap) world pid which told (world_at led kept)
pair_turned heap now cached pid which one act led kept told world is name does leads keeps tells calls =
    let named = ap (λ o. act_of o now) name in
    let acts = does ∙ named in
    let leading : led ≡ scene_after (who pid) now = leads ∙ ap (λ o. scene_after o now) name in
    let keeping : kept ≡ cached_by (act_of (who pid) now) cached = keeps ∙ ap (λ a. cached_by a cached) acts in
    let telling : told ≡ told_of (act_of (who pid) now) = tells ∙ ap told_of acts in
    subst (λ w. TurnsTo (pair heap) w pid which told (world_at led kept)) (sym is)
    (subst (λ t. TurnsTo (pair heap) (world_at now cached) pid which t (world_at led kept)) (sym telling)
    (subst (λ w. TurnsTo (pair heap) (world_at now cached) pid which (told_of (act_of (who pid) now)) w) (sym (same_world leading keeping))
    (pair_turns heap now cached pid which calls)))

-- no turn takes more than its bound
turns_live : (alive : Bool) (script : Script) (world after : World) (pid : ℕ) (which : Call) (told : Turned) → TurnsWhere alive script world pid which told after
    → live_of after ≤ live_of world + bound which
turns_live true script world after pid which told turns = turns.live
turns_live false script world after pid which told turns = let same : live_of after ≡ live_of world = ap live_of turns.1 in omega (arith, same)

pub turned_high : (script : Script) (now : Scene) (cached : Bool) (pid : ℕ) (which : Call) (led : Scene) (kept : Bool) (told : Turned) (world : World) (high : ℕ)
    → world ≡ world_at now cached → TurnsTo script world pid which told (world_at led kept) → high ≡ max (live_at now cached) (live_at led kept)
    → high ≤ live_of world + bound which + slack which
turned_high script now cached pid which led kept told world high is turns most =
    let more : live_of (world_at led kept) ≤ live_of world + bound which = turns_live (is_alive world.plain.table pid) script world (world_at led kept) pid which told turns in
    let before : live_of world ≡ live_at now cached = ap live_of is ∙ pair_live now cached in
    let after : live_of (world_at led kept) ≡ live_at led kept = pair_live led kept in
    within (live_of world) (bound which) (slack which) (live_at now cached) (live_at led kept) (live_of (world_at led kept)) high more before after most
  where
    within : (l b s a k m h : ℕ) → m ≤ l + b → l ≡ a → m ≡ k → h ≡ max a k → h ≤ l + b + s
    within l b s a k m h more before after most = omega arith

pub pair_since : (now : Scene) (cached : Bool) (led : Scene) (kept : Bool) (world : World) (high : ℕ) → world ≡ world_at now cached
    → high ≡ max (live_at now cached) (live_at led kept) → live_of world ≤ high
pair_since now cached led kept world high is most =
    let before : live_of world ≡ live_at now cached = ap live_of is ∙ pair_live now cached in
    within (live_of world) (live_at now cached) (live_at led kept) high before most
  where
    within : (l a k h : ℕ) → l ≡ a → h ≡ max a k → l ≤ h
    within l a k h before most = omega arith

-- where no more is live behind a call
no_more : (now : Scene) (cached : Bool) (led : Scene) (kept : Bool) (world : World) (high : ℕ) → world ≡ world_at now cached
    → high ≡ max (live_at now cached) (live_at led kept) → live_at led kept ≤ live_at now cached → high ≤ live_of world
no_more now cached led kept world high is most less =
    let before : live_of world ≡ live_at now cached = ap live_of is ∙ pair_live now cached in
    within (live_of world) (live_at now cached) (live_at led kept) high before most less
  where
    within : (l a k h : ℕ) → l ≡ a → h ≡ max a k → k ≤ a → h ≤ l
    within l a k h before most less = omega arith

as_much : (now led : Scene) (cached kept : Bool) → held_in led ≡ held_in now → kept ≡ cached → live_at led kept ≤ live_at now cached
as_much now led cached kept held same = let e : live_at led kept ≡ live_at now cached = ap (λ b. held_in led + cond b 1088 0) same ∙ ap (λ n. n + cond cached 1088 0) held in omega (arith, e)

pub pair_refused : (heap : ℕ) (now : Scene) (cached : Bool) (pid : ℕ) (one : Who) (led : Scene) (kept : Bool) (world : World) → world ≡ world_at now cached → one ≡ who pid
    → led ≡ scene_refused one now → kept ≡ cached → is_alive world.plain.table pid ≡ true → refused_in (pair heap) world pid ≡ world_at led kept
pair_refused heap now cached pid one led kept world is name leads keeps lives =
    let leading : led ≡ scene_refused (who pid) now = leads ∙ ap (λ o. scene_refused o now) name in
    ap (λ w. refused_in (pair heap) w pid) is ∙ sym (pair_refuses heap now cached pid (subst (λ (w : World). is_alive w.plain.table pid ≡ true) is lives)) ∙ sym (same_world leading keeps)

pub refused_high : (now : Scene) (cached : Bool) (pid : ℕ) (one : Who) (led : Scene) (kept : Bool) (world : World) (high : ℕ) → world ≡ world_at now cached → one ≡ who pid
    → led ≡ scene_refused one now → kept ≡ cached → high ≡ max (live_at now cached) (live_at led kept) → high ≤ live_of world
refused_high now cached pid one led kept world high is name leads keeps most =
    no_more now cached led kept world high is most (as_much now led cached kept (ap held_in (leads ∙ ap (λ o. scene_refused o now) name) ∙ refused_live now pid) keeps)

pub pair_killed : (now : Scene) (cached : Bool) (pid : ℕ) (one : Who) (led : Scene) (kept : Bool) (world : World) → world ≡ world_at now cached → one ≡ who pid
    → led ≡ scene_killed one now → kept ≡ cached → is_alive world.plain.table pid ≡ true → pid ≢ 1 → Kills world pid (world_at led kept)
pair_killed now cached pid one led kept world is name leads keeps lives other =
    let leading : led ≡ scene_killed (who pid) now = leads ∙ ap (λ o. scene_killed o now) name in
    subst (λ w. Kills w pid (world_at led kept)) (sym is) (subst (λ w. Kills (world_at now cached) pid w) (sym (same_world leading keeps))
    (pair_kills now cached pid (subst (λ (w : World). is_alive w.plain.table pid ≡ true) is lives) other))

pub pair_spared : (now : Scene) (cached : Bool) (pid : ℕ) (one : Who) (led : Scene) (kept : Bool) (world : World) → world ≡ world_at now cached → one ≡ who pid
    → led ≡ scene_killed one now → kept ≡ cached → is_alive world.plain.table pid ≡ false → world ≡ world_at led kept
pair_spared now cached pid one led kept world is name leads keeps ended =
    let leading : led ≡ scene_killed (who pid) now = leads ∙ ap (λ o. scene_killed o now) name in
    is ∙ sym (same_world (leading ∙ none_killed now cached pid (subst (λ (w : World). is_alive w.plain.table pid ≡ false) is ended)) keeps)

pub first_spared : (now : Scene) (cached : Bool) (pid : ℕ) (one : Who) (led : Scene) (kept : Bool) (world : World) → world ≡ world_at now cached → one ≡ who pid
    → led ≡ scene_killed one now → kept ≡ cached → pid ≡ 1 → world ≡ world_at led kept
first_spared now cached pid one led kept world is name leads keeps first =
    let leading : led ≡ scene_killed (who pid) now = leads ∙ ap (λ o. scene_killed o now) name in is ∙ sym (same_world (leading ∙ first_not_killed now pid first) keeps)

pub killed_high : (now : Scene) (cached : Bool) (pid : ℕ) (one : Who) (led : Scene) (kept : Bool) (world : World) (high : ℕ) → world ≡ world_at now cached → one ≡ who pid
    → led ≡ scene_killed one now → kept ≡ cached → high ≡ max (live_at now cached) (live_at led kept) → high ≤ live_of world + reserve
killed_high now cached pid one led kept world high is name leads keeps most =
    let within : high ≤ live_of world = no_more now cached led kept world high is most (as_much now led cached kept (ap held_in (leads ∙ ap (λ o. scene_killed o now) name) ∙ killed_live now pid) keeps) in
    more high (live_of world) within
  where
    more : (h l : ℕ) → h ≤ l → h ≤ l + reserve
    more h l within = omega arith

pub pair_evicts : (now : Scene) (cached : Bool) (what : Cached) (kept : Bool) (world : World) → world ≡ world_at now cached → kept ≡ cached_without what cached
    → can_evict world.plain world.kept what ≡ true → Evicts world what (world_at now kept)
pair_evicts now cached what kept world is keeps can =
    subst (λ w. Evicts w what (world_at now kept)) (sym is) (subst (λ b. Evicts (world_at now cached) what (world_at now b)) (sym keeps)
    (goes cached what (sym (pair_can now cached what) ∙ subst (λ (w : World). can_evict w.plain w.kept what ≡ true) is can)))
  where
    goes : (cached : Bool) (what : Cached) → can_lose what cached ≡ true → Evicts (world_at now cached) what (world_at now (cached_without what cached))
    goes cached Name can = cc
    goes false Block can = cc
    goes true Block can = block_goes now
    goes cached Vnode can = cc

pub pair_keeps : (now : Scene) (cached : Bool) (what : Cached) (kept : Bool) (world : World) → world ≡ world_at now cached → kept ≡ cached_without what cached
    → can_evict world.plain world.kept what ≡ false → world ≡ world_at now kept
pair_keeps now cached what kept world is keeps none =
    is ∙ ap (world_at now) (sym (keeps ∙ stays cached what (sym (pair_can now cached what) ∙ subst (λ (w : World). can_evict w.plain w.kept what ≡ false) is none)))
  where
    stays : (cached : Bool) (what : Cached) → can_lose what cached ≡ false → cached_without what cached ≡ cached
    stays cached Name none = refl
    stays false Block none = refl
    stays true Block none = cc
    stays cached Vnode none = refl

pub evicted_high : (now : Scene) (cached : Bool) (what : Cached) (kept : Bool) (world : World) (high : ℕ) → world ≡ world_at now cached → kept ≡ cached_without what cached
    → high ≡ max (live_at now cached) (live_at now kept) → high ≤ live_of world
evicted_high now cached what kept world high is keeps most = no_more now cached now kept world high is most (subst (λ b. live_at now b ≤ live_at now cached) (sym keeps) (less cached what))
  where
    fewer : (n : ℕ) → n + 0 ≤ n + 1088
    fewer n = omega arith

    same : (n : ℕ) → n ≤ n
    same n = omega arith

    less : (cached : Bool) (what : Cached) → live_at now (cached_without what cached) ≤ live_at now cached
    less cached Name = same (live_at now cached)
    less false Block = same (live_at now false)
    less true Block = fewer (held_in now)
    less cached Vnode = same (live_at now cached)

-- the call of a process that does this next
pub next_is : (heap : ℕ) (now : Scene) (cached : Bool) (pid : ℕ) (one : Who) (act : Act) (world : World) → world ≡ world_at now cached → one ≡ who pid → act_of one now ≡ Some act
    → call_as act ≡ call_of (pair heap) world.plain pid
next_is heap now cached pid one act world is name does =
    subst (λ (w : World). call_as act ≡ call_of (pair heap) w.plain pid) (sym is) (subst (IsCall heap pid now cached) (ap (λ o. act_of o now) (sym name) ∙ does) (pair_calls heap now cached pid))

-- who lives does something next
pub next_some : (now : Scene) (cached : Bool) (pid : ℕ) (one : Who) (world : World) → world ≡ world_at now cached → one ≡ who pid → is_alive world.plain.table pid ≡ is_some (act_of one now)
next_some now cached pid one world is name = ap (λ (w : World). is_alive w.plain.table pid) is ∙ who_lives now cached pid ∙ ap (λ o. is_some (act_of o now)) (sym name)
