-- What the calls on memory do to it and to the account's frames.
use Rattle.std.proofs.Common.{◌≡◌, ◌≢◌, ℕ, zero, suc, ◌+◌, ◌/◌, ◌<◌, ◌≤◌, Bool, true, false, List, [], ◌∷◌, ◌++◌, length, map, Option, None, Some, is_some, refl, ap, sym, ◌∙◌, subst, ◌⊎◌, inl, inr, arith, length-append}
use Rattle.std.proofs.lemmas.Bool.Decides.{eqb_tells}
use Rattle.std.proofs.lemmas.List.{get_or_past, get_or-replicate, length-map, length-replicate}
use Rattle.kabi_types.specs.declared.scripts.Script.{Script}
use Rattle.posix_defs.specs.Account.{forget_dead}
use Rattle.posix_defs.specs.ByPid.{with_pid}
use Rattle.posix_defs.specs.Ending.{die_in, ended_as, left_behind}
use Rattle.posix_defs.specs.Forking.{child_of}
use Rattle.posix_defs.specs.Memory.{Frame, Frames, Memory, Place, Places, Unmapped, after_clear, after_fork, after_put, boot_frames, is_mapped, is_place, no_memory, no_places, page_at, place_at, places_of, stored, with_places, with_range}
use Rattle.posix_defs.specs.Needs.{pages_touched}
use Rattle.posix_defs.specs.Plain.{Plain, boot_plain}
use Rattle.posix_defs.specs.Process.{Ignores, Process, Table, ignoring, is_alive, is_alive_in, memory_in, memory_of, process_at, remembering, with_directory, with_ignores, with_memory, working_in}
use Rattle.kern_laws.proofs.Families.{alive_there}
use Rattle.kern_laws.proofs.Remembering.{alive_ignoring, alive_still, alive_working}
use Rattle.kern_laws.proofs.TablePlaces.{at_end, below_or_not, is_gone, same_in_front, was_made, with_other, with_same}
use Rattle.machine_laws.proofs.Shutting.{length_with}
use Rattle.machine_laws.specs.Framed.{AreFramed, Names, bytes_at}
use Rattle.machine_laws.proofs.FramePlaces.{length_none, nobody, places_earlier, places_last, places_other, places_same}
use Rattle.machine_laws.proofs.Framing.{Goes, Holds, IsAsOne, Page, fresh, goes_as_before, goes_changed, lone, stayed}
use Rattle.machine_laws.proofs.Ranges.{Ranged, length_ranged, past, put, ranged, untouched}
use Rattle.machine_laws.proofs.StoredPages.{length_stored, stored_elsewhere, stored_mapped, within_touched}
use Rattle.machine_laws.proofs.Tables.{die_dead, die_place, ended_dead, true_false}
use Rattle.machine_laws.proofs.WrittenPages.{IsOwn, Writes, writes_all}

-- ---- memories without a page

length_no_memory : length no_memory ≡ 256
unfolding no_memory
length_no_memory = length-replicate {A = Option (List ℕ)} 256 None

no_place_below : (page : ℕ) → page < 256 → place_at no_places page ≡ Unmapped
unfolding no_places
no_place_below page below = get_or-replicate 256 page Unmapped Unmapped below

no_page_below : (page : ℕ) → page < 256 → page_at no_memory page ≡ None
unfolding no_memory
no_page_below page below = get_or-replicate {A = Option (List ℕ)} 256 page None None below

none_mapped : (page : ℕ) → is_place (place_at no_places page) ≡ is_mapped no_memory page
none_mapped page = elim (below_or_not page 256) [
  | inl h ↦ ap is_place (no_place_below page h) ∙ sym (ap is_some (no_page_below page h))
  | inr h ↦ ap is_place (get_or_past no_places page Unmapped (subst (λ n. n ≤ page) (sym length_none) h))
      ∙ sym (ap is_some (get_or_past no_memory page None (subst (λ n. n ≤ page) (sym length_no_memory) h)))
]

-- ---- what a process has in memory

own_memory : (table : Table) (pid : ℕ) (memory : Memory) → is_alive table pid ≡ true → memory_of (with_memory table pid memory) pid ≡ memory
own_memory table pid memory alive = let there = alive_there table pid alive in let made = was_made table pid there.0 there.1 in
    ap memory_in (with_same table pid (remembering memory (process_at table pid)) made.0 made.1) ∙ ap (λ o. memory_in (remembering memory o)) there.1

moved_memory : (table : Table) (pid who directory : ℕ) → is_alive table pid ≡ true → memory_of (with_directory table pid directory) who ≡ memory_of table who
moved_memory table pid who directory alive = elim (eqb_tells who pid) [
  | inl alike ↦ ap (memory_of (with_directory table pid directory)) alike.1 ∙ own ∙ sym (ap (memory_of table) alike.1)
  | inr apart ↦ ap memory_in (with_other table pid who (working_in directory (process_at table pid)) apart.1)
]
  where
    keeps : (o : Option Process) → memory_in (working_in directory o) ≡ memory_in o
    keeps None = refl
    keeps (Some process) = refl

    own : memory_of (with_directory table pid directory) pid ≡ memory_of table pid
    own = let there = alive_there table pid alive in let made = was_made table pid there.0 there.1 in
        ap memory_in (with_same table pid (working_in directory (process_at table pid)) made.0 made.1) ∙ keeps (process_at table pid)

disposed_memory : (table : Table) (pid who : ℕ) (ignores : Ignores) → is_alive table pid ≡ true → memory_of (with_ignores table pid ignores) who ≡ memory_of table who
disposed_memory table pid who ignores alive = elim (eqb_tells who pid) [
  | inl alike ↦ ap (memory_of (with_ignores table pid ignores)) alike.1 ∙ own ∙ sym (ap (memory_of table) alike.1)
  | inr apart ↦ ap memory_in (with_other table pid who (ignoring ignores (process_at table pid)) apart.1)
]
  where
    keeps : (o : Option Process) → memory_in (ignoring ignores o) ≡ memory_in o
    keeps None = refl
    keeps (Some process) = refl

    own : memory_of (with_ignores table pid ignores) pid ≡ memory_of table pid
    own = let there = alive_there table pid alive in let made = was_made table pid there.0 there.1 in
        ap memory_in (with_same table pid (ignoring ignores (process_at table pid)) made.0 made.1) ∙ keeps (process_at table pid)

length_die : (table : Table) (target status : ℕ) → length (die_in table target status) ≡ length table
length_die table zero status = length_with (map (left_behind zero) table) zero (ended_as status (process_at table zero)) ∙ length-map table (left_behind zero)
length_die table (suc zero) status = length-map table (λ _. None)
length_die table (suc (suc n)) status = length_with (map (left_behind (suc (suc n))) table) (suc (suc n)) (ended_as status (process_at table (suc (suc n)))) ∙ length-map table (left_behind (suc (suc n)))

module _ (plain : Plain) (frames : Frames) (holds : Holds plain frames) where
  framed : AreFramed plain frames
  framed = holds.framed

  -- ---- memory stays

  -- nobody has something else in memory, and nobody is made
  pub goes_still : (next : Plain) → length next.table ≡ length plain.table
      → ((who : ℕ) → is_alive next.table who ≡ true → (is_alive plain.table who ≡ true) × (memory_of next.table who ≡ memory_of plain.table who))
      → Goes plain frames next (forget_dead next frames)
  goes_still next counted each = goes_as_before plain frames next frames holds (holds.counted ∙ sym counted) refl (λ who alive. let before = each who alive in
      record { one = who; alive = before.0; memory = before.1; places = refl })

  -- the table is the same
  pub goes_quiet : (next : Plain) → next.table ≡ plain.table → Goes plain frames next (forget_dead next frames)
  goes_quiet next same = goes_still next (ap (λ table. length table) same) (λ who alive. (ap (λ table. is_alive table who) (sym same) ∙ alive, ap (λ table. memory_of table who) same))

  -- the same, and the account is as it was
  pub goes_same : (next : Plain) → next.table ≡ plain.table → Goes plain frames next frames
  goes_same next same = record {
    holds = record {
      counted = holds.counted ∙ sym (ap (λ table. length table) same);
      long = λ who alive. holds.long who (lives who alive) ∙ sym (ap (λ table. length (memory_of table who)) same);
      made = λ who page frame names. holds.made who page frame (named who page frame names);
      framed = record {
        mapped = λ who page alive. framed.mapped who page (lives who alive) ∙ sym (ap (λ table. is_mapped (memory_of table who) page) same);
        once = λ who one other frame names too. framed.once who one other frame (named who one frame names) (named who other frame too);
        same = λ who page other there frame names too. bytes other there ∙ framed.same who page other there frame (named who page frame names) (named other there frame too) ∙ sym (bytes who page);
      };
    };
    unwritten = λ one page other there frame apart names too who at now. bytes who at ∙ framed.same one page who at frame names (named who at frame now);
  }
    where
      lives : (who : ℕ) → is_alive next.table who ≡ true → is_alive plain.table who ≡ true
      lives who alive = ap (λ table. is_alive table who) (sym same) ∙ alive

      named : (who page frame : ℕ) → Names next frames who page frame → Names plain frames who page frame
      named who page frame names = record { alive = lives who names.alive; named = names.named }

      bytes : (who page : ℕ) → bytes_at next who page ≡ bytes_at plain who page
      bytes who page = ap (λ table. page_at (memory_of table who) page) same

  -- a process has ended
  pub goes_ended : (next : Plain) (target status : ℕ) → is_alive plain.table target ≡ true → next.table ≡ die_in plain.table target status → Goes plain frames next (forget_dead next frames)
  goes_ended next target status lived same = goes_still next (ap (λ table. length table) same ∙ length_die plain.table target status) each
    where
      each : (who : ℕ) → is_alive next.table who ≡ true → (is_alive plain.table who ≡ true) × (memory_of next.table who ≡ memory_of plain.table who)
      each who alive = go (is_alive plain.table who) refl
        where
          still : is_alive (die_in plain.table target status) who ≡ true
          still = ap (λ table. is_alive table who) (sym same) ∙ alive

          go : (b : Bool) → is_alive plain.table who ≡ b → (is_alive plain.table who ≡ true) × (memory_of next.table who ≡ memory_of plain.table who)
          go false dead = absurd (true_false still (die_dead plain.table target status who dead))
          go true lives = elim (eqb_tells who target) [
            | inl alike ↦ absurd (true_false still (ap (is_alive (die_in plain.table target status)) alike.1 ∙ ended_dead plain.table target status lived))
            | inr apart ↦ (let place = die_place plain.table target status who apart.1 lives still in (lives, ap (λ table. memory_of table who) same ∙ place.memory))
          ]

  -- a process was waited for
  pub goes_reaped : (next : Plain) (child : ℕ) → next.table ≡ with_pid plain.table child None → Goes plain frames next (forget_dead next frames)
  goes_reaped next child same = goes_still next (ap (λ table. length table) same ∙ length_with plain.table child None) (λ who alive. each who (ap (λ table. is_alive table who) (sym same) ∙ alive))
    where
      each : (who : ℕ) → is_alive (with_pid plain.table child None) who ≡ true → (is_alive plain.table who ≡ true) × (memory_of next.table who ≡ memory_of plain.table who)
      each who alive = elim (eqb_tells who child) [
        | inl alike ↦ absurd (true_false alive (ap (is_alive (with_pid plain.table child None)) alike.1 ∙ ap is_alive_in (is_gone plain.table child)))
        | inr apart ↦ (let stays = with_other plain.table child who None apart.1 in
            (ap is_alive_in (sym stays) ∙ alive, ap (λ table. memory_of table who) same ∙ ap memory_in stays))
      ]

  -- a process works in another directory
  pub goes_moved : (pid directory : ℕ) → is_alive plain.table pid ≡ true → (next : Plain) → next.table ≡ with_directory plain.table pid directory → Goes plain frames next (forget_dead next frames)
  goes_moved pid directory alive next same = goes_still next (ap (λ table. length table) same ∙ length_with plain.table pid (working_in directory (process_at plain.table pid))) (λ who lives. (
    sym (alive_working plain.table pid who directory) ∙ ap (λ table. is_alive table who) (sym same) ∙ lives,
    ap (λ table. memory_of table who) same ∙ moved_memory plain.table pid who directory alive,
  ))

  -- a process ignores other signals
  pub goes_disposed : (pid : ℕ) (ignores : Ignores) → is_alive plain.table pid ≡ true → (next : Plain) → next.table ≡ with_ignores plain.table pid ignores → Goes plain frames next (forget_dead next frames)
  goes_disposed pid ignores alive next same = goes_still next (ap (λ table. length table) same ∙ length_with plain.table pid (ignoring ignores (process_at plain.table pid))) (λ who lives. (
    sym (alive_ignoring plain.table pid who ignores) ∙ ap (λ table. is_alive table who) (sym same) ∙ lives,
    ap (λ table. memory_of table who) same ∙ disposed_memory plain.table pid who ignores alive,
  ))

  -- ---- one process has something else in memory

  module _ (pid : ℕ) (alive : is_alive plain.table pid ≡ true) where
    made : (0 < pid) × (pid ≤ length plain.table)
    made = let there = alive_there plain.table pid alive in was_made plain.table pid there.0 there.1

    within : pid ≤ length frames.places
    within = subst (λ n. pid ≤ n) (sym holds.counted) made.1

    own : IsOwn frames pid
    own = record {
      made = λ page frame is. holds.made pid page frame (record { alive = alive; named = is });
      once = λ one other frame is too. framed.once pid one other frame (record { alive = alive; named = is }) (record { alive = alive; named = too });
    }

    -- what the others have when it has something else
    others : (next : Plain) (memory : Memory) → next.table ≡ with_memory plain.table pid memory → (after : Frames) → ((who : ℕ) → who ≢ pid → places_of after who ≡ places_of frames who)
        → (who : ℕ) → who ≢ pid → is_alive next.table who ≡ true
        → (is_alive plain.table who ≡ true) × (memory_of next.table who ≡ memory_of plain.table who) × (places_of after who ≡ places_of frames who)
    others next memory same after places who apart lives = (
      sym (alive_still plain.table pid who memory) ∙ ap (λ table. is_alive table who) (sym same) ∙ lives,
      ap (λ table. memory_of table who) same ∙ ap memory_in (with_other plain.table pid who (remembering memory (process_at plain.table pid)) apart),
      places who apart,
    )

    own_now : (next : Plain) (memory : Memory) → next.table ≡ with_memory plain.table pid memory → memory_of next.table pid ≡ memory
    own_now next memory same = ap (λ table. memory_of table pid) same ∙ own_memory plain.table pid memory alive

    as_many : (next : Plain) (memory : Memory) → next.table ≡ with_memory plain.table pid memory → length next.table ≡ length plain.table
    as_many next memory same = ap (λ table. length table) same ∙ length_with plain.table pid (remembering memory (process_at plain.table pid))

    -- bytes are put in memory
    pub goes_put : (next : Plain) (addr : ℕ) (bytes : List ℕ) → next.table ≡ with_memory plain.table pid (stored (memory_of plain.table pid) addr bytes)
        → Goes plain frames next (forget_dead next (after_put frames pid addr (length bytes)))
    goes_put next addr bytes same = goes_changed plain frames next (after_put frames pid addr (length bytes)) pid holds (record {
      alive = alive;
      counted = writes.counted ∙ holds.counted ∙ sym (as_many next memory same);
      grows = writes.grows;
      others = others next memory same (after_put frames pid addr (length bytes)) writes.others;
      long = writes.long ∙ holds.long pid alive ∙ sym (length_stored (memory_of plain.table pid) addr bytes) ∙ sym (ap (λ list. length list) (own_now next memory same));
      mapped = λ page. writes.mapped page ∙ framed.mapped pid page alive ∙ sym (stored_mapped (memory_of plain.table pid) addr bytes page) ∙ sym (ap (λ m. is_mapped m page) (own_now next memory same));
      own = writes.keeps own;
      each = each;
    })
      where
        memory : Memory
        memory = stored (memory_of plain.table pid) addr bytes

        count : ℕ
        count = pages_touched addr (length bytes)

        writes : Writes pid (addr / 4096) count frames (after_put frames pid addr (length bytes))
        writes = writes_all count pid (addr / 4096) frames made.0 within

        aside : (page frame : ℕ) → (page < addr / 4096) ⊎ (addr / 4096 + count ≤ page) → place_at (places_of (after_put frames pid addr (length bytes)) pid) page ≡ Frame frame
            → Page plain frames next pid page frame
        aside page frame side is = stayed (sym (writes.outside page side) ∙ is)
            (ap (λ m. page_at m page) (own_now next memory same) ∙ stored_elsewhere (memory_of plain.table pid) addr bytes page (λ i less. within_touched addr (length bytes) page i side less))

        each : (page frame : ℕ) → place_at (places_of (after_put frames pid addr (length bytes)) pid) page ≡ Frame frame → Page plain frames next pid page frame
        each page frame is = elim (below_or_not page (addr / 4096)) [
          | inl below ↦ aside page frame (inl below) is
          | inr low ↦ elim (below_or_not page (addr / 4096 + count)) [
            | inr above ↦ aside page frame (inr above) is
            | inl high ↦ elim (writes.inside page frame low high is) [ inl later ↦ fresh later | inr only ↦ lone only ]
          ]
        ]

    -- pages are mapped, or aren't any more
    pub goes_ranged : (next : Plain) (first count : ℕ) (place : Place) (content : Option (List ℕ)) → ((frame : ℕ) → place ≢ Frame frame) → is_place place ≡ is_some content
        → next.table ≡ with_memory plain.table pid (with_range (memory_of plain.table pid) first count content)
        → Goes plain frames next (forget_dead next (with_places frames pid (with_range (places_of frames pid) first count place)))
    goes_ranged next first count place content no_frame agree same = goes_changed plain frames next after pid holds (record {
      alive = alive;
      counted = length_with frames.places pid places ∙ holds.counted ∙ sym (as_many next memory same);
      grows = omega arith;
      others = others next memory same after (λ who apart. places_other frames.places frames.made frames.made pid who places apart);
      long = ap (λ list. length list) now ∙ length_ranged first count (places_of frames pid) (memory_of plain.table pid) place content (holds.long pid alive)
          ∙ sym (ap (λ list. length list) (own_now next memory same));
      mapped = λ page. ap (λ list. is_place (place_at list page)) now ∙ mapped page (at page) ∙ sym (ap (λ m. is_mapped m page) (own_now next memory same));
      own = record {
        made = λ page frame is. own.made page frame (named page frame is);
        once = λ one other frame is too. own.once one other frame (named one frame is) (named other frame too);
      };
      each = λ page frame is. stayed (named page frame is) (ap (λ m. page_at m page) (own_now next memory same) ∙ content_stays page frame is);
    })
      where
        memory : Memory
        memory = with_range (memory_of plain.table pid) first count content

        places : Places
        places = with_range (places_of frames pid) first count place

        after : Frames
        after = with_places frames pid places

        now : places_of after pid ≡ places
        now = places_same frames.places frames.made pid places made.0 within

        at : (page : ℕ) → Ranged (places_of frames pid) (memory_of plain.table pid) place Unmapped content None places memory page
        at page = ranged place Unmapped content None first count page (places_of frames pid) (memory_of plain.table pid) (holds.long pid alive)

        mapped : (page : ℕ) → Ranged (places_of frames pid) (memory_of plain.table pid) place Unmapped content None places memory page → is_place (place_at places page) ≡ is_mapped memory page
        mapped page (untouched one two) = ap is_place one ∙ framed.mapped pid page alive ∙ sym (ap is_some two)
        mapped page (put one two) = ap is_place one ∙ agree ∙ sym (ap is_some two)
        mapped page (past one two) = ap is_place one ∙ sym (ap is_some two)

        unmapped : (frame : ℕ) → Unmapped ≡ Frame frame → ⊥
        unmapped frame e = cc

        stays : (page frame : ℕ) → place_at places page ≡ Frame frame → Ranged (places_of frames pid) (memory_of plain.table pid) place Unmapped content None places memory page
            → (place_at (places_of frames pid) page ≡ Frame frame) × (page_at memory page ≡ page_at (memory_of plain.table pid) page)
        stays page frame is (untouched one two) = (sym one ∙ is, two)
        stays page frame is (put one two) = absurd (no_frame frame (sym one ∙ is))
        stays page frame is (past one two) = absurd (unmapped frame (sym one ∙ is))

        is_there : (page frame : ℕ) → place_at (places_of after pid) page ≡ Frame frame → place_at places page ≡ Frame frame
        is_there page frame is = ap (λ list. place_at list page) (sym now) ∙ is

        named : (page frame : ℕ) → place_at (places_of after pid) page ≡ Frame frame → place_at (places_of frames pid) page ≡ Frame frame
        named page frame is = let two = stays page frame (is_there page frame is) (at page) in two.0

        content_stays : (page frame : ℕ) → place_at (places_of after pid) page ≡ Frame frame → page_at memory page ≡ page_at (memory_of plain.table pid) page
        content_stays page frame is = let two = stays page frame (is_there page frame is) (at page) in two.1

    -- all memory goes
    pub goes_cleared : (next : Plain) → next.table ≡ with_memory plain.table pid no_memory → Goes plain frames next (forget_dead next (after_clear frames pid))
    goes_cleared next same = goes_changed plain frames next (after_clear frames pid) pid holds (record {
      alive = alive;
      counted = length_with frames.places pid no_places ∙ holds.counted ∙ sym (as_many next no_memory same);
      grows = omega arith;
      others = others next no_memory same (after_clear frames pid) (λ who apart. places_other frames.places frames.made frames.made pid who no_places apart);
      long = ap (λ list. length list) now ∙ length_none ∙ sym length_no_memory ∙ sym (ap (λ list. length list) (own_now next no_memory same));
      mapped = λ page. ap (λ list. is_place (place_at list page)) now ∙ none_mapped page ∙ sym (ap (λ m. is_mapped m page) (own_now next no_memory same));
      own = record {
        made = λ page frame is. absurd (nobody page frame (gone page frame is));
        once = λ one other frame is too. absurd (nobody one frame (gone one frame is));
      };
      each = λ page frame is. absurd (nobody page frame (gone page frame is));
    })
      where
        now : places_of (after_clear frames pid) pid ≡ no_places
        now = places_same frames.places frames.made pid no_places made.0 within

        gone : (page frame : ℕ) → place_at (places_of (after_clear frames pid) pid) page ≡ Frame frame → place_at no_places page ≡ Frame frame
        gone page frame is = ap (λ list. place_at list page) (sym now) ∙ is

    -- a child is made
    pub goes_forked : (next : Plain) → next.table ≡ plain.table ++ child_of pid (process_at plain.table pid) ∷ [] → Goes plain frames next (forget_dead next (after_fork frames pid))
    goes_forked next same = goes_as_before plain frames next (after_fork frames pid) holds counted refl each
      where
        child : Option Process
        child = child_of pid (process_at plain.table pid)

        counted : length (after_fork frames pid).places ≡ length next.table
        counted = let a = length-append frames.places (places_of frames pid ∷ []) in let b = length-append plain.table (child ∷ []) in
            let c = holds.counted in let d = ap (λ (table : Table). length table) same in omega (arith, a, b, c, d)

        same_memory : (o : Option Process) → memory_in (child_of pid o) ≡ memory_in o
        same_memory None = refl
        same_memory (Some process) = refl

        each : (who : ℕ) → is_alive next.table who ≡ true → IsAsOne plain frames next (after_fork frames pid) who
        each who lives = elim (below_or_not (length plain.table) who) [
          | inr old ↦ record {
            one = who;
            alive = ap is_alive_in (sym (same_in_front plain.table child who old)) ∙ ap (λ table. is_alive table who) (sym same) ∙ lives;
            memory = ap (λ table. memory_of table who) same ∙ ap memory_in (same_in_front plain.table child who old);
            places = places_earlier frames.places frames.made frames.made who (places_of frames pid) (subst (λ n. who ≤ n) (sym holds.counted) old);
          }
          | inl behind ↦ (let last : who ≡ suc (length plain.table) = is_child who behind lives in record {
            one = pid;
            alive = alive;
            memory = ap (λ table. memory_of table who) same ∙ ap (memory_of (plain.table ++ child ∷ [])) last ∙ ap memory_in (at_end plain.table child) ∙ same_memory (process_at plain.table pid);
            places = places_last frames.places frames.made who (places_of frames pid) (last ∙ ap suc (sym holds.counted));
          })
        ]
          where
            is_child : (who : ℕ) → length plain.table < who → is_alive next.table who ≡ true → who ≡ suc (length plain.table)
            is_child who behind lives = let there = alive_there next.table who lives in let it = was_made next.table who there.0 there.1 in
                let a = length-append plain.table (child ∷ []) in let d = ap (λ (table : Table). length table) same in let h = it.1 in omega (arith, a, d, h, behind)

-- ---- at the beginning

-- no page is mapped
pub boot_holds : (script : Script) → Holds (boot_plain script) boot_frames
boot_holds script = record {
  counted = refl;
  long = long;
  made = λ who page frame names. absurd (names_none who page frame names);
  framed = record {
    mapped = mapped;
    once = λ who one other frame names too. absurd (names_none who one frame names);
    same = λ who page other there frame names too. absurd (names_none who page frame names);
  };
}
  where
    no_places_of : (who : ℕ) → places_of boot_frames who ≡ no_places
    no_places_of zero = refl
    no_places_of (suc zero) = refl
    no_places_of (suc (suc n)) = refl

    no_memory_of : (who : ℕ) → memory_of (boot_plain script).table who ≡ no_memory
    no_memory_of zero = refl
    no_memory_of (suc zero) = refl
    no_memory_of (suc (suc n)) = refl

    names_none : (who page frame : ℕ) → Names (boot_plain script) boot_frames who page frame → ⊥
    names_none who page frame names = nobody page frame (ap (λ places. place_at places page) (sym (no_places_of who)) ∙ names.named)

    long : (who : ℕ) → is_alive (boot_plain script).table who ≡ true → length (places_of boot_frames who) ≡ length (memory_of (boot_plain script).table who)
    long who alive = ap (λ list. length list) (no_places_of who) ∙ length_none ∙ sym length_no_memory ∙ sym (ap (λ list. length list) (no_memory_of who))

    mapped : (who page : ℕ) → is_alive (boot_plain script).table who ≡ true → is_place (place_at (places_of boot_frames who) page) ≡ is_mapped (memory_of (boot_plain script).table who) page
    mapped who page alive = ap (λ places. is_place (place_at places page)) (no_places_of who) ∙ none_mapped page ∙ sym (ap (λ memory. is_mapped memory page) (no_memory_of who))
