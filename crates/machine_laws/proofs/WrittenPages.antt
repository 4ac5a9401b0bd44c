-- What the account says after bytes were put in pages of a process: each names a new frame, or one that nobody else named.
use Rattle.std.proofs.Common.{◌≡◌, ◌≢◌, ℕ, zero, suc, ◌+◌, ◌<◌, ◌≤◌, nat_lt, Bool, true, false, cond, length, slice_set, refl, ap, sym, ◌∙◌, subst, ◌⊎◌, inl, inr, arith}
use Rattle.std.proofs.lemmas.Bool.{ltb-false}
use Rattle.std.proofs.lemmas.Bool.Decides.{eqb_tells}
use Rattle.std.proofs.lemmas.List.{get_or-set_same, get_or-set_other, get_or_past, length-set}
use Rattle.posix_defs.specs.Memory.{Frames, Place, Places, Unmapped, Zero, Frame, fresh_at, is_place, namings, place_at, places_of, written_as, written_at, written_from}
use Rattle.kern_laws.proofs.TablePlaces.{below_or_not}
use Rattle.machine_laws.proofs.Shutting.{length_with}
use Rattle.machine_laws.proofs.FramePlaces.{named_twice, places_other, places_same}

-- no other process names the frame of this page
pub record IsAlone (frames : Frames) (pid page frame : ℕ) : Type 0 where
  pub named : place_at (places_of frames pid) page ≡ Frame frame
  pub alone : (who there : ℕ) → who ≢ pid → place_at (places_of frames who) there ≡ Frame frame → ⊥

-- the frames that a process names were made, and it names each by one page
pub record IsOwn (frames : Frames) (pid : ℕ) : Type 0 where
  pub made : (page frame : ℕ) → place_at (places_of frames pid) page ≡ Frame frame → frame < frames.made
  pub once : (one other frame : ℕ) → place_at (places_of frames pid) one ≡ Frame frame → place_at (places_of frames pid) other ≡ Frame frame → one ≡ other

-- Bytes were put in pages of a process.
pub record Writes (pid first count : ℕ) (old new : Frames) : Type 0 where
  pub counted : length new.places ≡ length old.places
  pub grows : old.made ≤ new.made
  pub others : (who : ℕ) → who ≢ pid → places_of new who ≡ places_of old who
  pub long : length (places_of new pid) ≡ length (places_of old pid)
  pub mapped : (page : ℕ) → is_place (place_at (places_of new pid) page) ≡ is_place (place_at (places_of old pid) page)
  pub outside : (page : ℕ) → (page < first) ⊎ (first + count ≤ page) → place_at (places_of new pid) page ≡ place_at (places_of old pid) page
  pub inside : (page frame : ℕ) → first ≤ page → page < first + count → place_at (places_of new pid) page ≡ Frame frame → (old.made ≤ frame) ⊎ IsAlone old pid page frame
  pub keeps : IsOwn old pid → IsOwn new pid

writes_none : (pid first : ℕ) (frames : Frames) → Writes pid first 0 frames frames
writes_none pid first frames = record {
  counted = refl;
  grows = omega arith;
  others = λ who apart. refl;
  long = refl;
  mapped = λ page. refl;
  outside = λ page where_. refl;
  inside = λ page frame low high is. absurd (omega arith);
  keeps = λ own. own;
}

writes_then : (pid first count : ℕ) (old between new : Frames) → Writes pid first 1 old between → Writes pid (first + 1) count between new → Writes pid first (suc count) old new
writes_then pid first count old between new one two = record {
  counted = two.counted ∙ one.counted;
  grows = (let a : old.made ≤ between.made = one.grows in let b : between.made ≤ new.made = two.grows in omega arith);
  others = λ who apart. two.others who apart ∙ one.others who apart;
  long = two.long ∙ one.long;
  mapped = λ page. two.mapped page ∙ one.mapped page;
  outside = λ page side. elim side [
    | inl below ↦ two.outside page (inl (omega arith)) ∙ one.outside page (inl below)
    | inr above ↦ two.outside page (inr (omega arith)) ∙ one.outside page (inr (omega arith))
  ];
  inside = inside;
  keeps = λ own. two.keeps (one.keeps own);
}
  where
    later : (page frame : ℕ) → first + 1 ≤ page → (between.made ≤ frame) ⊎ IsAlone between pid page frame → (old.made ≤ frame) ⊎ IsAlone old pid page frame
    later page frame behind (inl new_one) = inl (let a : old.made ≤ between.made = one.grows in omega arith)
    later page frame behind (inr own) = inr (record {
      named = sym (one.outside page (inr (omega arith))) ∙ own.named;
      alone = λ who there apart is. own.alone who there apart (ap (λ places. place_at places there) (one.others who apart) ∙ is);
    })

    inside : (page frame : ℕ) → first ≤ page → page < first + suc count → place_at (places_of new pid) page ≡ Frame frame → (old.made ≤ frame) ⊎ IsAlone old pid page frame
    inside page frame low high is = elim (below_or_not page (first + 1)) [
      | inl here ↦ one.inside page frame low here (sym (two.outside page (inl here)) ∙ is)
      | inr behind ↦ later page frame behind (two.inside page frame behind (omega arith) is)
    ]

-- ---- one page

-- a page stays, where no other process names its frame
writes_own : (pid page : ℕ) (frames : Frames) → ((frame : ℕ) → place_at (places_of frames pid) page ≡ Frame frame → IsAlone frames pid page frame) → Writes pid page 1 frames frames
writes_own pid page frames alone = record {
  counted = refl;
  grows = omega arith;
  others = λ who apart. refl;
  long = refl;
  mapped = λ other. refl;
  outside = λ other side. refl;
  inside = λ other frame low high is. let here : other ≡ page = omega arith in
      inr (subst (λ p. IsAlone frames pid p frame) (sym here) (alone frame (ap (place_at (places_of frames pid)) (sym here) ∙ is)));
  keeps = λ own. own;
}

frame_same : (one other : ℕ) → Frame one ≡ Frame other → one ≡ other
frame_same one other e = cc

not_mapped : false ≡ true → ⊥
not_mapped e = cc

-- a page gets a new frame
writes_new : (pid page : ℕ) (frames : Frames) → 0 < pid → pid ≤ length frames.places → is_place (place_at (places_of frames pid) page) ≡ true
    → Writes pid page 1 frames (fresh_at frames pid page)
writes_new pid page frames positive within mapped_it = record {
  counted = length_with frames.places pid (slice_set had page (Frame frames.made));
  grows = omega arith;
  others = λ who apart. places_other frames.places (frames.made + 1) frames.made pid who (slice_set had page (Frame frames.made)) apart;
  long = ap (λ list. length list) own ∙ length-set had page (Frame frames.made);
  mapped = mapped;
  outside = λ other side. elsewhere other (λ here. elim side [ inl below ↦ omega arith | inr above ↦ omega arith ]);
  inside = λ other frame low high is. let at : other ≡ page = omega arith in
      inl (let same : frames.made ≡ frame = frame_same frames.made frame (sym (ap (place_at (places_of (fresh_at frames pid page) pid)) at ∙ here) ∙ is) in omega arith);
  keeps = keeps;
}
  where
    had : Places
    had = places_of frames pid

    own : places_of (fresh_at frames pid page) pid ≡ slice_set had page (Frame frames.made)
    own = places_same frames.places (frames.made + 1) pid (slice_set had page (Frame frames.made)) positive within

    inside_it : page < length had
    inside_it = elim (below_or_not page (length had)) [ inl h ↦ h | inr h ↦ absurd (not_mapped (sym (ap is_place (get_or_past had page Unmapped h)) ∙ mapped_it)) ]

    here : place_at (places_of (fresh_at frames pid page) pid) page ≡ Frame frames.made
    here = ap (λ places. place_at places page) own ∙ get_or-set_same had page (Frame frames.made) Unmapped inside_it

    elsewhere : (other : ℕ) → other ≢ page → place_at (places_of (fresh_at frames pid page) pid) other ≡ place_at had other
    elsewhere other apart = ap (λ places. place_at places other) own ∙ get_or-set_other had page other (Frame frames.made) Unmapped apart

    mapped : (other : ℕ) → is_place (place_at (places_of (fresh_at frames pid page) pid) other) ≡ is_place (place_at had other)
    mapped other = elim (eqb_tells other page) [
      | inl alike ↦ ap (λ p. is_place (place_at (places_of (fresh_at frames pid page) pid) p)) alike.1 ∙ ap is_place here ∙ sym mapped_it ∙ sym (ap (λ p. is_place (place_at had p)) alike.1)
      | inr apart ↦ ap is_place (elsewhere other apart.1)
    ]

    -- a frame of the process is the new one, at that page, or one of before
    which : (other frame : ℕ) → place_at (places_of (fresh_at frames pid page) pid) other ≡ Frame frame
        → ((other ≡ page) × (frame ≡ frames.made)) ⊎ ((other ≢ page) × (place_at had other ≡ Frame frame))
    which other frame is = elim (eqb_tells other page) [
      | inl alike ↦ inl (alike.1, frame_same frame frames.made (sym is ∙ ap (place_at (places_of (fresh_at frames pid page) pid)) alike.1 ∙ here))
      | inr apart ↦ inr (apart.1, sym (elsewhere other apart.1) ∙ is)
    ]

    keeps : IsOwn frames pid → IsOwn (fresh_at frames pid page) pid
    keeps before = record { made = made; once = once }
      where
        made : (other frame : ℕ) → place_at (places_of (fresh_at frames pid page) pid) other ≡ Frame frame → frame < frames.made + 1
        made other frame is = elim (which other frame is) [
          | inl new_one ↦ (let e : frame ≡ frames.made = new_one.1 in omega arith)
          | inr old_one ↦ (let h : frame < frames.made = before.made other frame old_one.1 in omega arith)
        ]

        once : (one other frame : ℕ) → place_at (places_of (fresh_at frames pid page) pid) one ≡ Frame frame → place_at (places_of (fresh_at frames pid page) pid) other ≡ Frame frame → one ≡ other
        once one other frame is too = elim (which one frame is) [
          | inl new_one ↦ elim (which other frame too) [
            | inl also ↦ new_one.0 ∙ sym also.0
            | inr old_one ↦ (let e : frame ≡ frames.made = new_one.1 in let h : frame < frames.made = before.made other frame old_one.1 in absurd (omega arith))
          ]
          | inr old_one ↦ elim (which other frame too) [
            | inl also ↦ (let e : frame ≡ frames.made = also.1 in let h : frame < frames.made = before.made one frame old_one.1 in absurd (omega arith))
            | inr both ↦ before.once one other frame old_one.1 both.1
          ]
        ]

writes_one : (pid page : ℕ) (frames : Frames) → 0 < pid → pid ≤ length frames.places → Writes pid page 1 frames (written_at frames pid page)
writes_one pid page frames positive within = go (place_at (places_of frames pid) page) refl
  where
    by_count : (frame : ℕ) → place_at (places_of frames pid) page ≡ Frame frame → (b : Bool) → nat_lt 1 (namings frames.places frame) ≡ b
        → Writes pid page 1 frames (cond b (fresh_at frames pid page) frames)
    by_count frame is true shared = writes_new pid page frames positive within (ap is_place is)
    by_count frame is false single = writes_own pid page frames (λ other named. record {
      named = named;
      alone = λ who there apart too. (let same : frame ≡ other = frame_same frame other (sym is ∙ named) in
          let twice = named_twice frames who there pid page frame apart (subst (λ f. place_at (places_of frames who) there ≡ Frame f) (sym same) too) is in
          let few = ltb-false 1 (namings frames.places frame) single in omega (arith, twice, few));
    })

    go : (place : Place) → place_at (places_of frames pid) page ≡ place → Writes pid page 1 frames (written_as frames pid page place)
    go Unmapped is = writes_own pid page frames (λ frame named. absurd (unmapped frame (sym is ∙ named)))
      where
        unmapped : (frame : ℕ) → Unmapped ≡ Frame frame → ⊥
        unmapped frame e = cc
    go Zero is = writes_new pid page frames positive within (ap is_place is)
    go (Frame frame) is = by_count frame is (nat_lt 1 (namings frames.places frame)) refl

pub writes_all : (count : ℕ) (pid first : ℕ) (frames : Frames) → 0 < pid → pid ≤ length frames.places → Writes pid first count frames (written_from frames pid first count)
writes_all zero pid first frames positive within = writes_none pid first frames
writes_all (suc count) pid first frames positive within = let one = writes_one pid first frames positive within in
    writes_then pid first count frames (written_at frames pid first) (written_from (written_at frames pid first) pid (first + 1) count) one
    (writes_all count pid (first + 1) (written_at frames pid first) positive (subst (λ n. pid ≤ n) (sym one.counted) within))
