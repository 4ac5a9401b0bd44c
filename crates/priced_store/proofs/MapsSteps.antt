-- What the process does, by how far it has come.
use Rattle.std.proofs.Common.{◌≡◌, ℕ, zero, suc, ◌+◌, ◌*◌, ◌/◌, ◌==◌, ◌&&◌, ◌<◌, ◌≤◌, min, max, ℤ, ap, ◌∙◌, Bool, true, false, not, lit≤, refl, sym, subst, arith}
use Rattle.std.proofs.lemmas.Bool.{eqb-true, false_from_ne_true}
use Rattle.std.specs.Prelude.{Option, None, IfSome, if◌then◌else◌, is_some, slice_get}
use Rattle.kabi_types.specs.Arguments.{count_of, invalid_unless, is_from}
use Rattle.kabi_types.specs.declared.calls.Call.{Call}
use Rattle.kabi_types.specs.declared.calls.Call.TheVariants as call
use Rattle.kabi_types.specs.declared.entries.Cached.{Cached}
use Rattle.kabi_types.specs.declared.entries.Cached.TheVariants.{Name, Block, Vnode}
use Rattle.posix_defs.specs.declared.turner.Turned.{Turned}
use Rattle.posix_defs.specs.declared.turner.Turned.TheVariants.{Gone}
use Rattle.posix_defs.specs.Files.Closing.{after_end_of}
use Rattle.posix_defs.specs.Files.Descriptors.{none_open}
use Rattle.posix_defs.specs.Machine.{would_block}
use Rattle.posix_defs.specs.Memory.{lowest_free_run, no_memory, no_places}
use Rattle.posix_defs.specs.Needs.{bound, need_of, pages_in, slack}
use Rattle.posix_defs.specs.Plain.{call_of}
use Rattle.posix_defs.specs.Process.{is_alive}
use Rattle.posix_defs.specs.Relief.{refused_in}
use Rattle.posix_defs.specs.Sizes.{reserve}
use Rattle.posix_defs.specs.Turn.{Answers, TurnsTo, TurnsWhere}
use Rattle.posix_defs.specs.ValidScript.{AreApart, IsStatement, IsValid}
use Rattle.posix_defs.specs.Victim.{victim_of}
use Rattle.posix_defs.specs.World.{MayKeep, World, boot_kept, boot_world, can_evict, live_of}
use Rattle.priced_store.specs.declared.stages.Stage.{Stage}
use Rattle.priced_store.specs.declared.stages.Stage.TheVariants.{Begun, Mapped, Refused, Over}
use Rattle.priced_store.specs.Prices.{groups_of, price}
use Rattle.priced_store.specs.Worlds.{body, call_at, lives_at, live_in, maps, stage_after, stage_refused, told_at, world_in}

-- the root's node may be kept
may_keep : (now : Stage) → MayKeep (world_in now).plain boot_kept
unfolding none_open no_memory
may_keep Begun = record { names = tt; blocks = tt; vnodes = (tt, tt); pinned = λ node e. e; true_names = tt; on_disk = tt; in_use = (refl, tt) }
may_keep Mapped = record { names = tt; blocks = tt; vnodes = (tt, tt); pinned = λ node e. e; true_names = tt; on_disk = tt; in_use = (refl, tt) }
may_keep Refused = record { names = tt; blocks = tt; vnodes = (tt, tt); pinned = λ node e. e; true_names = tt; on_disk = tt; in_use = (refl, tt) }
may_keep Over = record { names = tt; blocks = tt; vnodes = (tt, tt); pinned = λ node e. e; true_names = tt; on_disk = tt; in_use = (refl, tt) }

-- it makes this call
calls_at : (heap : ℕ) (now : Stage) → call_at now ≡ call_of (maps heap) (world_in now).plain 1
calls_at heap Begun = refl
calls_at heap Mapped = refl
calls_at heap Refused = refl
calls_at heap Over = refl

falls : (k : ℕ) → 128 ≤ 640 + k
falls k = omega arith

falls_more : (k : ℕ) → 128 ≤ 1152 + k
falls_more k = omega arith

some_more : (n k : ℕ) → n ≤ n + k
some_more n k = omega arith

-- the turn of its call, by stages
begins : (heap : ℕ) → Answers (maps heap) (world_in Begun) 1 (call_at Begun) (told_at Begun) (world_in Mapped)
unfolding bound need_of lowest_free_run none_open no_memory no_places
begins heap = record { answer = (refl, refl); account = refl; may_keep = may_keep Mapped; live = lit≤ tt; names = lit≤ tt; blocks = lit≤ tt; vnodes = lit≤ tt; reads = lit≤ tt; untouched = λ _. (refl, refl); left = λ _. tt; known = λ _. refl }

ends_mapped : (heap : ℕ) → Answers (maps heap) (world_in Mapped) 1 (call_at Mapped) (told_at Mapped) (world_in Over)
unfolding none_open no_memory no_places after_end_of
ends_mapped heap = record { answer = (refl, refl); account = refl; may_keep = may_keep Over; live = falls_more _; names = some_more 0 _; blocks = some_more 0 _; vnodes = some_more 1 _; reads = lit≤ tt; untouched = λ _. (refl, refl); left = λ _. tt; known = λ _. refl }

ends_refused : (heap : ℕ) → Answers (maps heap) (world_in Refused) 1 (call_at Refused) (told_at Refused) (world_in Over)
unfolding none_open no_places after_end_of
ends_refused heap = record { answer = (refl, refl); account = refl; may_keep = may_keep Over; live = falls _; names = some_more 0 _; blocks = some_more 0 _; vnodes = some_more 1 _; reads = lit≤ tt; untouched = λ _. (refl, refl); left = λ _. tt; known = λ _. refl }

turns_at : (heap : ℕ) (now : Stage) → lives_at now ≡ true → Answers (maps heap) (world_in now) 1 (call_at now) (told_at now) (world_in (stage_after now))
turns_at heap Begun lives = begins heap
turns_at heap Mapped lives = ends_mapped heap
turns_at heap Refused lives = ends_refused heap
turns_at heap Over lives = cc

-- it never sleeps
never_blocks : (heap : ℕ) (now : Stage) → would_block (maps heap) (world_in now).plain 1 ≡ false
unfolding lowest_free_run none_open no_memory
never_blocks heap Begun = refl
never_blocks heap Mapped = refl
never_blocks heap Refused = refl
never_blocks heap Over = refl

-- its call is refused
refuses_at : (heap : ℕ) (now : Stage) → lives_at now ≡ true → world_in (stage_refused now) ≡ refused_in (maps heap) (world_in now) 1
refuses_at heap Begun lives = refl
refuses_at heap Mapped lives = refl
refuses_at heap Refused lives = refl
refuses_at heap Over lives = cc

-- what all takes of the heap
pub live_at : (now : Stage) → live_of (world_in now) ≡ live_in now
unfolding none_open no_memory no_places
live_at Begun = refl
live_at Mapped = refl
live_at Refused = refl
live_at Over = refl

-- nothing can go from a cache
none_goes : (now : Stage) (what : Cached) → can_evict (world_in now).plain boot_kept what ≡ false
unfolding none_open
none_goes Begun Name = refl
none_goes Begun Block = refl
none_goes Begun Vnode = refl
none_goes Mapped Name = refl
none_goes Mapped Block = refl
none_goes Mapped Vnode = refl
none_goes Refused Name = refl
none_goes Refused Block = refl
none_goes Refused Vnode = refl
none_goes Over Name = refl
none_goes Over Block = refl
none_goes Over Vnode = refl

-- there is nobody to kill
no_victim : (heap : ℕ) (now : Stage) → victim_of (maps heap).policy (world_in now).plain (world_in now).account ≡ None
no_victim heap Begun = refl
no_victim heap Mapped = refl
no_victim heap Refused = refl
no_victim heap Over = refl

pub maps_boots : (heap : ℕ) → world_in Begun ≡ boot_world (maps heap)
maps_boots heap = refl

-- it lives, and nobody else does
who_lives : (now : Stage) (pid : ℕ) → is_alive (world_in now).plain.table pid ≡ ((pid == 1) && lives_at now)
who_lives now zero = refl
who_lives Begun (suc zero) = refl
who_lives Mapped (suc zero) = refl
who_lives Refused (suc zero) = refl
who_lives Over (suc zero) = refl
who_lives now (suc (suc n)) = sym (ap (λ b. b && lives_at now) (false_from_ne_true (suc (suc n) == 1) (λ e. more n (eqb-true (suc (suc n)) 1 e))))
  where
    more : (n : ℕ) → suc (suc n) ≡ 1 → ⊥
    more n e = omega arith

both : (a b : Bool) → (a && b) ≡ true → (a ≡ true) × (b ≡ true)
both true true e = (refl, refl)
both true false e = cc
both false b e = cc

-- ---- prices

grows : (pages : ℕ) → 512 * min 4 (pages / 64 + 1) ≤ 512 * min 4 ((pages + 62) / 64 + 1)
grows pages = omega arith

either : (right : Bool) (some most : ℕ) → 512 * some ≤ 512 * most → 512 * (if right then some else 0) ≤ (if is_some (invalid_unless right) then 0 else 512 * most)
either true some most within = within
either false some most within = lit≤ tt

-- the core reserves no less for a mapping
pub map_within : (length : ℤ) → 512 * groups_of length ≤ bound (call.Mmap length)
unfolding bound
map_within length = either (is_from 1 length) _ _ (grows (pages_in (count_of length)))

-- ---- numbers

at_least : {a b : ℕ} → a ≡ b → b ≤ a
at_least same = omega (arith, same)

and_more : {a b : ℕ} (more : ℕ) → a ≡ b → a ≤ b + more
and_more more same = omega (arith, same)

and_both : {a b : ℕ} (more other : ℕ) → a ≡ b → a ≤ b + more + other
and_both more other same = omega (arith, same)

between : (live at used risen after high : ℕ) → live ≡ at → used ≡ at → risen ≡ used → risen ≤ after → high ≡ after → live ≤ high
between live at used risen after high a b c d e = omega arith

below : (live at used risen after high cost bound slack : ℕ) → live ≡ at → used ≡ at → risen ≡ used → after ≤ max risen (used + cost) → high ≡ after → cost ≤ bound → high ≤ live + bound + slack
below live at used risen after high cost bound slack a b c d e f = omega arith

fits : (live at used heap cost bound : ℕ) → live ≡ at → used ≡ at → cost ≤ bound → live + bound + reserve ≤ heap → used + cost ≤ heap
fits live at used heap cost bound a b c d = omega arith

-- ---- of a store that stands for a world

module _ (now : Stage) (world : World) (is : world ≡ world_in now) where
  pub lives_so : (pid : ℕ) → ((pid == 1) && lives_at now) ≡ is_alive world.plain.table pid
  lives_so pid = sym (ap (λ (w : World). is_alive w.plain.table pid) is ∙ who_lives now pid)

  pub of_first : (pid : ℕ) → is_alive world.plain.table pid ≡ true → (pid ≡ 1) × (lives_at now ≡ true)
  of_first pid lives = let parts = both (pid == 1) (lives_at now) (lives_so pid ∙ lives) in (eqb-true pid 1 parts.0, parts.1)

  pub next_so : (heap pid : ℕ) → is_alive world.plain.table pid ≡ true → call_at now ≡ call_of (maps heap) world.plain pid
  next_so heap pid lives = calls_at heap now ∙ ap (λ (w : World). call_of (maps heap) w.plain 1) (sym is) ∙ ap (call_of (maps heap) world.plain) (sym (of_first pid lives).0)

  pub ready_so : (heap pid : ℕ) → is_alive world.plain.table pid ≡ true → true ≡ not (would_block (maps heap) world.plain pid)
  ready_so heap pid lives =
      ap not (sym (never_blocks heap now) ∙ ap (λ (w : World). would_block (maps heap) w.plain 1) (sym is) ∙ ap (would_block (maps heap) world.plain) (sym (of_first pid lives).0))

  pub live_so : live_of world ≡ live_in now
  live_so = ap live_of is ∙ live_at now

  pub cached_so : (what : Cached) → false ≡ can_evict world.plain world.kept what
  cached_so what = sym (ap (λ (w : World). can_evict w.plain w.kept what) is ∙ none_goes now what)

  pub never_goes : (what : Cached) → can_evict world.plain world.kept what ≡ true → ⊥
  never_goes what can = never (cached_so what ∙ can)
    where
      never : false ≡ true → ⊥
      never e = cc

  pub victim_so : (heap : ℕ) → ◌≡◌ {A = Option ℕ} None (victim_of (maps heap).policy world.plain world.account)
  victim_so heap = sym (ap (λ (w : World). victim_of (maps heap).policy w.plain w.account) is ∙ no_victim heap now)

  pub refused_so : (heap pid : ℕ) (led : Stage) → led ≡ stage_refused now → is_alive world.plain.table pid ≡ true → refused_in (maps heap) world pid ≡ world_in led
  refused_so heap pid led leads lives =
      let first = of_first pid lives in
      ap (refused_in (maps heap) world) first.0 ∙ ap (λ w. refused_in (maps heap) w 1) is ∙ sym (refuses_at heap now first.1) ∙ ap world_in (sym leads)

  pub turned_so : (heap pid : ℕ) (which : Call) (led : Stage) (told : Turned) → led ≡ stage_after now → told ≡ told_at now → is_alive world.plain.table pid ≡ true
      → (is_alive world.plain.table pid ≡ true → which ≡ call_of (maps heap) world.plain pid) → TurnsTo (maps heap) world pid which told (world_in led)
  turned_so heap pid which led told leads tells lives calls =
      let first = of_first pid lives in
      let made : call_at now ≡ which = next_so heap pid lives ∙ sym (calls lives) in
      subst (λ b. TurnsWhere b (maps heap) world pid which told (world_in led)) (sym lives)
      (subst (λ s. Answers (maps heap) world pid which told (world_in s)) (sym leads)
      (subst (λ t. Answers (maps heap) world pid which t (world_in (stage_after now))) (sym tells)
      (subst (λ n. Answers (maps heap) world n which (told_at now) (world_in (stage_after now))) (sym first.0)
      (subst (λ w. Answers (maps heap) w 1 which (told_at now) (world_in (stage_after now))) (sym is)
      (subst (λ k. Answers (maps heap) (world_in now) 1 k (told_at now) (world_in (stage_after now))) made (turns_at heap now first.1))))))

  pub gone_so : (heap pid : ℕ) (which : Call) → is_alive world.plain.table pid ≡ false → TurnsTo (maps heap) world pid which Gone world
  gone_so heap pid which ended = subst (λ b. TurnsWhere b (maps heap) world pid which Gone world) (sym ended) (refl, refl)

  -- the call's price is the stage's
  pub price_so : (heap pid : ℕ) (which : Call) → is_alive world.plain.table pid ≡ true
      → (is_alive world.plain.table pid ≡ true → which ≡ call_of (maps heap) world.plain pid) → price (call_at now) ≡ price which
  price_so heap pid which lives calls = ap price (next_so heap pid lives ∙ sym (calls lives))

  -- a mark by which nothing was made
  pub still : (used risen high : ℕ) → used ≡ live_in now → risen ≡ used → high ≡ risen → high ≡ live_of world
  still used risen high taken rests marks = marks ∙ rests ∙ taken ∙ sym live_so

  pub still_since : (used risen high : ℕ) → used ≡ live_in now → risen ≡ used → high ≡ risen → live_of world ≤ high
  still_since used risen high taken rests marks = at_least (still used risen high taken rests marks)

  pub still_within : (used risen high more : ℕ) → used ≡ live_in now → risen ≡ used → high ≡ risen → high ≤ live_of world + more
  still_within used risen high more taken rests marks = and_more more (still used risen high taken rests marks)

  pub still_high : (used risen high : ℕ) → used ≡ live_in now → risen ≡ used → high ≡ risen → high ≤ live_of world
  still_high used risen high taken rests marks = at_least (sym (still used risen high taken rests marks))

  pub still_turn : (used risen high bound slack : ℕ) → used ≡ live_in now → risen ≡ used → high ≡ risen → high ≤ live_of world + bound + slack
  still_turn used risen high bound slack taken rests marks = and_both bound slack (still used risen high taken rests marks)

  -- a turn that is paid
  pub turned_since : (used risen after high : ℕ) → used ≡ live_in now → risen ≡ used → risen ≤ after → high ≡ after → live_of world ≤ high
  turned_since used risen after high taken rests rises marks = let live : live_of world ≡ live_in now = live_so in
      between (live_of world) (live_in now) used risen after high live taken rests rises marks

  pub turned_within : (used risen after high cost bound slack : ℕ) → used ≡ live_in now → risen ≡ used → after ≤ max risen (used + cost) → high ≡ after → cost ≤ bound
      → high ≤ live_of world + bound + slack
  turned_within used risen after high cost bound slack taken rests paid marks within = let live : live_of world ≡ live_in now = live_so in
      below (live_of world) (live_in now) used risen after high cost bound slack live taken rests paid marks within

  -- the heap has room for the price
  pub room_so : (used heap cost bound : ℕ) → used ≡ live_in now → cost ≤ bound → live_of world + bound + reserve ≤ heap → used + cost ≤ heap
  room_so used heap cost bound taken within room = let live : live_of world ≡ live_in now = live_so in
      fits (live_of world) (live_in now) used heap cost bound live taken within room

-- a turn by which nothing was made keeps to every price
pub keeps_still : (used risen high cost : ℕ) → risen ≡ used → high ≡ risen → high ≤ used + cost
keeps_still used risen high cost rests marks = omega arith

pub same_within : {a b c : ℕ} → a ≡ b → c ≡ b → a ≤ c
same_within one other = omega (arith, one, other)

-- a turn keeps to its price
pub keeps_to_price : (used risen after high cost : ℕ) → risen ≡ used → after ≤ max risen (used + cost) → high ≡ after → high ≤ used + cost
keeps_to_price used risen after high cost rests paid marks = omega arith

-- its one statement is right
body_is : (at : ℕ) → IfSome (slice_get body at) (IsStatement body at)
body_is zero = (((refl, refl), tt), record { values_are = refl; texts_are = refl }, tt)
body_is (suc n) = tt

programs_are_apart : AreApart (maps 0).programs
programs_are_apart zero zero less = absurd (let none : 0 < 0 = less in omega arith)
programs_are_apart zero (suc b) less = tt
programs_are_apart (suc a) b less = tt

-- the script is one that a text says
pub maps_valid : (heap : ℕ) → 8192 ≤ heap → heap ≤ 8388608 → IsValid (maps heap)
maps_valid heap least most = record {
  least_heap = least;
  most_heap = most;
  least_disk = lit≤ tt;
  most_disk = lit≤ tt;
  least_steps = lit≤ tt;
  most_steps = lit≤ tt;
  chooser = tt;
  most_programs = lit≤ tt;
  programs = (record { name = refl; short = lit≤ tt; body = body_is }, tt);
  apart = programs_are_apart;
  init = record { at = 0; program = _; is_there = refl; is_named = refl };
}
