-- Frames are what the account means by them, and shared ones stay unwritten, from one machine to the next.
use Rattle.std.proofs.Common.{◌≡◌, ◌≢◌, ℕ, ◌<◌, ◌≤◌, true, length, ap, sym, ◌∙◌, subst, inl, inr, arith}
use Rattle.std.proofs.lemmas.Bool.Decides.{eqb_tells}
use Rattle.posix_defs.specs.Account.{forget_dead}
use Rattle.posix_defs.specs.Memory.{Frame, Frames, is_mapped, is_place, page_at, place_at, places_of}
use Rattle.posix_defs.specs.Plain.{Plain}
use Rattle.posix_defs.specs.Process.{is_alive, memory_of}
use Rattle.machine_laws.specs.Framed.{AreFramed, Names, StayUnwritten, bytes_at}
use Rattle.machine_laws.proofs.FramePlaces.{length_kept, places_kept}
use Rattle.machine_laws.proofs.WrittenPages.{IsAlone, IsOwn}

-- what is kept from one machine to the next
pub record Holds (plain : Plain) (frames : Frames) : Type 0 where
  pub counted : length frames.places ≡ length plain.table
  pub long : (who : ℕ) → is_alive plain.table who ≡ true → length (places_of frames who) ≡ length (memory_of plain.table who)
  pub made : (who page frame : ℕ) → Names plain frames who page frame → frame < frames.made
  pub framed : AreFramed plain frames

-- the next machine keeps it, and what two processes named stays unwritten
pub record Goes (plain : Plain) (frames : Frames) (next : Plain) (after : Frames) : Type 0 where
  pub holds : Holds next after
  pub unwritten : StayUnwritten plain frames next after

-- ---- each process is as one was before

-- Each process that lives is as one that lived before: itself, or its parent.
pub record IsAsOne (plain : Plain) (frames : Frames) (next : Plain) (after : Frames) (who : ℕ) : Type 0 where
  pub one : ℕ
  pub alive : is_alive plain.table one ≡ true
  pub memory : memory_of next.table who ≡ memory_of plain.table one
  pub places : places_of after who ≡ places_of frames one

module _ (plain : Plain) (frames : Frames) (next : Plain) (after : Frames) (holds : Holds plain frames)
    (counted : length after.places ≡ length next.table) (made : after.made ≡ frames.made)
    (each : (who : ℕ) → is_alive next.table who ≡ true → IsAsOne plain frames next after who) where
  kept : (who : ℕ) → is_alive next.table who ≡ true → places_of (forget_dead next after) who ≡ places_of after who
  kept who alive = places_kept (is_alive next.table) after who alive

  -- who names a frame now is as one who named it before
  named_before : (who page frame : ℕ) → (names : Names next (forget_dead next after) who page frame) → (as_one : IsAsOne plain frames next after who) → Names plain frames as_one.one page frame
  named_before who page frame names as_one = record {
    alive = as_one.alive;
    named = ap (λ places. place_at places page) (sym (kept who names.alive ∙ as_one.places)) ∙ names.named;
  }

  bytes_before : (who page : ℕ) (as_one : IsAsOne plain frames next after who) → bytes_at next who page ≡ bytes_at plain as_one.one page
  bytes_before who page as_one = ap (λ memory. page_at memory page) as_one.memory

  pub goes_as_before : Goes plain frames next (forget_dead next after)
  goes_as_before = record {
    holds = record {
      counted = length_kept (is_alive next.table) 1 after.places ∙ counted;
      long = λ who alive. let as_one = each who alive in
          ap (λ list. length list) (kept who alive ∙ as_one.places) ∙ holds.long as_one.one as_one.alive ∙ sym (ap (λ list. length list) as_one.memory);
      made = λ who page frame names. let as_one = each who names.alive in
          subst (λ n. frame < n) (sym made) (holds.made as_one.one page frame (named_before who page frame names as_one));
      framed = record {
        mapped = λ who page alive. let as_one = each who alive in
            ap (λ places. is_place (place_at places page)) (kept who alive ∙ as_one.places) ∙ framed.mapped as_one.one page as_one.alive
            ∙ sym (ap (λ memory. is_mapped memory page) as_one.memory);
        once = λ who one other frame names too. let as_one = each who names.alive in
            framed.once as_one.one one other frame (named_before who one frame names as_one) (named_before who other frame too as_one);
        same = λ who page other there frame names too. let as_one = each who names.alive in let as_other = each other too.alive in
            bytes_before other there as_other
            ∙ framed.same as_one.one page as_other.one there frame (named_before who page frame names as_one) (named_before other there frame too as_other)
            ∙ sym (bytes_before who page as_one);
      };
    };
    unwritten = λ one page other there frame apart names too who at now. let as_one = each who now.alive in
        bytes_before who at as_one ∙ framed.same one page as_one.one at frame names (named_before who at frame now as_one);
  }
    where
      framed : AreFramed plain frames
      framed = holds.framed

-- ---- one process is another now

-- a page of the process that names a frame now has what it had, or names a new frame, or one that nobody else named
pub data Page (plain : Plain) (frames : Frames) (next : Plain) (pid page frame : ℕ) : Type 0 where
  stayed : place_at (places_of frames pid) page ≡ Frame frame → bytes_at next pid page ≡ bytes_at plain pid page → Page plain frames next pid page frame
  fresh : frames.made ≤ frame → Page plain frames next pid page frame
  lone : IsAlone frames pid page frame → Page plain frames next pid page frame

-- One process has something else in memory, and the account says of the others what it said.
pub record Changes (plain : Plain) (frames : Frames) (next : Plain) (after : Frames) (pid : ℕ) : Type 0 where
  pub alive : is_alive plain.table pid ≡ true
  pub counted : length after.places ≡ length next.table
  pub grows : frames.made ≤ after.made
  pub others : (who : ℕ) → who ≢ pid → is_alive next.table who ≡ true → (is_alive plain.table who ≡ true) × (memory_of next.table who ≡ memory_of plain.table who)
      × (places_of after who ≡ places_of frames who)
  pub long : length (places_of after pid) ≡ length (memory_of next.table pid)
  pub mapped : (page : ℕ) → is_place (place_at (places_of after pid) page) ≡ is_mapped (memory_of next.table pid) page
  pub own : IsOwn after pid
  pub each : (page frame : ℕ) → place_at (places_of after pid) page ≡ Frame frame → Page plain frames next pid page frame

module _ (plain : Plain) (frames : Frames) (next : Plain) (after : Frames) (pid : ℕ) (holds : Holds plain frames) (changes : Changes plain frames next after pid) where
  places_now : (who : ℕ) → is_alive next.table who ≡ true → places_of (forget_dead next after) who ≡ places_of after who
  places_now who alive = places_kept (is_alive next.table) after who alive

  framed : AreFramed plain frames
  framed = holds.framed

  -- another names what it named
  other_named : (who page frame : ℕ) → who ≢ pid → Names next (forget_dead next after) who page frame → Names plain frames who page frame
  other_named who page frame apart names = let before = changes.others who apart names.alive in record {
    alive = before.0;
    named = ap (λ places. place_at places page) (sym (places_now who names.alive ∙ before.2)) ∙ names.named;
  }

  other_bytes : (who page frame : ℕ) → who ≢ pid → Names next (forget_dead next after) who page frame → bytes_at next who page ≡ bytes_at plain who page
  other_bytes who page frame apart names = let before = changes.others who apart names.alive in ap (λ memory. page_at memory page) before.1

  own_place : (who page frame : ℕ) → who ≡ pid → Names next (forget_dead next after) who page frame → place_at (places_of after pid) page ≡ Frame frame
  own_place who page frame is names = ap (λ p. place_at (places_of after p) page) (sym is) ∙ ap (λ places. place_at places page) (sym (places_now who names.alive)) ∙ names.named

  -- a page of the process and one of another that name the same frame have the same bytes
  mixed : (page other there frame : ℕ) → place_at (places_of after pid) page ≡ Frame frame → other ≢ pid → Names next (forget_dead next after) other there frame
      → bytes_at next pid page ≡ bytes_at next other there
  mixed page other there frame is apart names = go (changes.each page frame is)
    where
      before : Names plain frames other there frame
      before = other_named other there frame apart names

      go : Page plain frames next pid page frame → bytes_at next pid page ≡ bytes_at next other there
      go (stayed had bytes) = bytes ∙ framed.same other there pid page frame before (record { alive = changes.alive; named = had }) ∙ sym (other_bytes other there frame apart names)
      go (fresh later) = absurd (let h = holds.made other there frame before in omega (arith, later, h))
      go (lone only) = absurd (only.alone other there apart before.named)

  same : (who page other there frame : ℕ) → Names next (forget_dead next after) who page frame → Names next (forget_dead next after) other there frame
      → bytes_at next other there ≡ bytes_at next who page
  same who page other there frame names too = elim (eqb_tells who pid) [
    | inl own ↦ elim (eqb_tells other pid) [
      | inl also ↦ (let it = changes.own in let at = it.once there page frame (own_place other there frame also.1 too) (own_place who page frame own.1 names) in
          ap (λ p. bytes_at next p there) (also.1 ∙ sym own.1) ∙ ap (bytes_at next who) at)
      | inr apart ↦ sym (mixed page other there frame (own_place who page frame own.1 names) apart.1 too) ∙ sym (ap (λ p. bytes_at next p page) own.1)
    ]
    | inr apart ↦ elim (eqb_tells other pid) [
      | inl also ↦ ap (λ p. bytes_at next p there) also.1 ∙ mixed there who page frame (own_place other there frame also.1 too) apart.1 names
      | inr both ↦ other_bytes other there frame both.1 too
          ∙ framed.same who page other there frame (other_named who page frame apart.1 names) (other_named other there frame both.1 too)
          ∙ sym (other_bytes who page frame apart.1 names)
    ]
  ]

  once : (who one other frame : ℕ) → Names next (forget_dead next after) who one frame → Names next (forget_dead next after) who other frame → one ≡ other
  once who one other frame names too = elim (eqb_tells who pid) [
    | inl own ↦ (let it = changes.own in it.once one other frame (own_place who one frame own.1 names) (own_place who other frame own.1 too))
    | inr apart ↦ framed.once who one other frame (other_named who one frame apart.1 names) (other_named who other frame apart.1 too)
  ]

  mapped_now : (who page : ℕ) → is_alive next.table who ≡ true → is_place (place_at (places_of (forget_dead next after) who) page) ≡ is_mapped (memory_of next.table who) page
  mapped_now who page alive = ap (λ places. is_place (place_at places page)) (places_now who alive) ∙ elim (eqb_tells who pid) [
    | inl own ↦ ap (λ p. is_place (place_at (places_of after p) page)) own.1 ∙ changes.mapped page ∙ sym (ap (λ p. is_mapped (memory_of next.table p) page) own.1)
    | inr apart ↦ (let before = changes.others who apart.1 alive in
        ap (λ places. is_place (place_at places page)) before.2 ∙ framed.mapped who page before.0 ∙ sym (ap (λ memory. is_mapped memory page) before.1))
  ]

  long_now : (who : ℕ) → is_alive next.table who ≡ true → length (places_of (forget_dead next after) who) ≡ length (memory_of next.table who)
  long_now who alive = ap (λ list. length list) (places_now who alive) ∙ elim (eqb_tells who pid) [
    | inl own ↦ ap (λ p. length (places_of after p)) own.1 ∙ changes.long ∙ sym (ap (λ p. length (memory_of next.table p)) own.1)
    | inr apart ↦ (let before = changes.others who apart.1 alive in
        ap (λ list. length list) before.2 ∙ holds.long who before.0 ∙ sym (ap (λ list. length list) before.1))
  ]

  made_now : (who page frame : ℕ) → Names next (forget_dead next after) who page frame → frame < after.made
  made_now who page frame names = elim (eqb_tells who pid) [
    | inl own ↦ (let it = changes.own in it.made page frame (own_place who page frame own.1 names))
    | inr apart ↦ (let h = holds.made who page frame (other_named who page frame apart.1 names) in let grows = changes.grows in omega (arith, h, grows))
  ]

  unwritten : StayUnwritten plain frames next (forget_dead next after)
  unwritten one page other there frame apart names too who at now = elim (eqb_tells who pid) [
    | inr another ↦ other_bytes who at frame another.1 now ∙ framed.same one page who at frame names (other_named who at frame another.1 now)
    | inl own ↦ ap (λ p. bytes_at next p at) own.1 ∙ go (changes.each at frame (own_place who at frame own.1 now))
  ]
    where
      go : Page plain frames next pid at frame → bytes_at next pid at ≡ bytes_at plain one page
      go (stayed had bytes) = bytes ∙ framed.same one page pid at frame names (record { alive = changes.alive; named = had })
      go (fresh later) = absurd (let h = holds.made one page frame names in omega (arith, later, h))
      go (lone only) = absurd (elim (eqb_tells one pid) [
        | inr first ↦ only.alone one page first.1 names.named
        | inl first ↦ only.alone other there (λ second. apart (first.1 ∙ sym second)) too.named
      ])

  pub goes_changed : Goes plain frames next (forget_dead next after)
  goes_changed = record {
    holds = record {
      counted = length_kept (is_alive next.table) 1 after.places ∙ changes.counted;
      long = long_now;
      made = made_now;
      framed = record { mapped = mapped_now; once = once; same = same };
    };
    unwritten = unwritten;
  }
