-- What the processes of the tests do, by cases.
use Rattle.std.proofs.Common.{◌≡◌, ◌≢◌, ℕ, zero, suc, ◌+◌, ◌-◌, ◌≤◌, ap, ◌∙◌, pos, Bool, true, false, lit≤, refl, sym, subst, arith}
use Rattle.kabi_types.specs.declared.calls.Call.{Call}
use Rattle.kabi_types.specs.declared.replies.Reply.TheVariants.{Val}
use Rattle.posix_defs.specs.declared.turner.Turned.TheVariants.{Done, Ended}
use Rattle.posix_defs.specs.Memory.{no_places}
use Rattle.posix_defs.specs.Files.Closing.{after_end_of}
use Rattle.posix_defs.specs.Files.Descriptors.{none_open}
use Rattle.posix_defs.specs.Needs.{bound, need_of}
use Rattle.posix_defs.specs.Process.{is_alive}
use Rattle.posix_defs.specs.Plain.{call_of}
use Rattle.posix_defs.specs.World.{World, boot_kept, live_of}
use Rattle.posix_defs.specs.Turn.{Answers, TurnsTo}
use Rattle.shared_trials.specs.Sample.{sample, world_at, live_at}

-- worlds of the process that asks for its pid are the same where its place and its life are
pub same_world : {place other : ℕ} {lives living : Bool} → place ≡ other → lives ≡ living → world_at place lives boot_kept ≡ world_at other living boot_kept
same_world {other = other} {lives = lives} at life = ap (λ n. world_at n lives boot_kept) at ∙ ap (λ b. world_at other b boot_kept) life

-- the process that asks for its pid ends
falls : (k : ℕ) → 128 ≤ 640 + k
falls k = omega arith

some_more : (n k : ℕ) → n ≤ n + k
some_more n k = omega arith

ends_at : (place : ℕ) → place ≢ 0 → place ≤ 2 → Answers sample (world_at place true boot_kept) 1 (call_of sample (world_at place true boot_kept).plain 1) (Ended 0) (world_at place false boot_kept)
unfolding no_places none_open after_end_of
ends_at zero other few = absurd (other refl)
ends_at (suc zero) other few = record { answer = (refl, refl); account = refl; may_keep = record { names = tt; blocks = tt; vnodes = (tt, tt); pinned = λ node e. e; true_names = tt; on_disk = tt; in_use = (refl, tt) }; live = falls _; names = some_more 0 _; blocks = some_more 0 _; vnodes = some_more 1 _; reads = lit≤ tt; untouched = λ _. (refl, refl); left = λ _. tt; known = λ _. refl }
ends_at (suc (suc zero)) other few = record { answer = (refl, refl); account = refl; may_keep = record { names = tt; blocks = tt; vnodes = (tt, tt); pinned = λ node e. e; true_names = tt; on_disk = tt; in_use = (refl, tt) }; live = falls _; names = some_more 0 _; blocks = some_more 0 _; vnodes = some_more 1 _; reads = lit≤ tt; untouched = λ _. (refl, refl); left = λ _. tt; known = λ _. refl }
ends_at (suc (suc (suc n))) other few = absurd (let l : suc (suc (suc n)) ≤ 2 = few in omega arith)

pub sample_ends : (place pid : ℕ) (lives : Bool) (which : Call) → place ≢ 0 → place ≤ 2 → is_alive (world_at place lives boot_kept).plain.table pid ≡ true
    → (is_alive (world_at place lives boot_kept).plain.table pid ≡ true → which ≡ call_of sample (world_at place lives boot_kept).plain pid)
    → TurnsTo sample (world_at place lives boot_kept) pid which (Ended 0) (world_at place false boot_kept)
sample_ends place zero true which other few alive calls = cc
sample_ends place zero false which other few alive calls = cc
sample_ends place (suc zero) true which other few alive calls =
    subst (λ w. Answers sample (world_at place true boot_kept) 1 w (Ended 0) (world_at place false boot_kept)) (sym (calls refl)) (ends_at place other few)
sample_ends place (suc zero) false which other few alive calls = cc
sample_ends place (suc (suc n)) true which other few alive calls = cc
sample_ends place (suc (suc n)) false which other few alive calls = cc

-- what the process that asks for its pid takes of the heap
pub sample_live : (place : ℕ) (lives : Bool) → live_of (world_at place lives boot_kept) ≡ live_at lives
unfolding no_places none_open
sample_live place true = refl
sample_live place false = refl

asks_at : Answers sample (world_at 0 true boot_kept) 1 (call_of sample (world_at 0 true boot_kept).plain 1) (Done (Val (pos 1))) (world_at 1 true boot_kept)
unfolding bound need_of no_places none_open
asks_at = record { answer = (refl, refl); account = refl; may_keep = record { names = tt; blocks = tt; vnodes = (tt, tt); pinned = λ node e. e; true_names = tt; on_disk = tt; in_use = (refl, tt) }; live = lit≤ tt; names = lit≤ tt; blocks = lit≤ tt; vnodes = lit≤ tt; reads = lit≤ tt; untouched = λ _. (refl, refl); left = λ _. tt; known = λ _. refl }

-- it asks for its pid
pub sample_asks : (place pid : ℕ) (lives : Bool) (which : Call) → place ≡ 0 → is_alive (world_at place lives boot_kept).plain.table pid ≡ true
    → (is_alive (world_at place lives boot_kept).plain.table pid ≡ true → which ≡ call_of sample (world_at place lives boot_kept).plain pid)
    → TurnsTo sample (world_at place lives boot_kept) pid which (Done (Val (pos 1))) (world_at 1 lives boot_kept)
sample_asks (suc n) pid lives which at alive calls = cc
sample_asks zero zero true which at alive calls = cc
sample_asks zero zero false which at alive calls = cc
sample_asks zero (suc zero) true which at alive calls =
    subst (λ w. Answers sample (world_at 0 true boot_kept) 1 w (Done (Val (pos 1))) (world_at 1 true boot_kept)) (sym (calls refl)) asks_at
sample_asks zero (suc zero) false which at alive calls = cc
sample_asks zero (suc (suc n)) true which at alive calls = cc
sample_asks zero (suc (suc n)) false which at alive calls = cc

-- since a mark the process that asks for its pid took as much as at it
pub sample_since : (world : World) (place : ℕ) (lives : Bool) (high : ℕ) → world ≡ world_at place lives boot_kept → high ≡ live_at lives → live_of world ≤ high
sample_since world place lives high is same =
    let live : live_of world ≡ live_at lives = ap live_of is ∙ sample_live place lives in
    at_least (live_of world) (live_at lives) high live same
  where
    at_least : (a b c : ℕ) → a ≡ b → c ≡ b → a ≤ c
    at_least a b c one other = omega arith

pub no_less : {a b : ℕ} → a ≡ b → b ≤ a
no_less same = omega (arith, same)
