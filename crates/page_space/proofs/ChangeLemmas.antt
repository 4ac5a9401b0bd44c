-- Changes of one space, one after another.
use Rattle.std.proofs.Common.{◌≡◌, ◌⊎◌, ℕ, zero, suc, ◌<◌, true, eqb, is_some, List, Option, None, Some, refl, sym, ap, ◌∙◌, subst, inl, inr, ⊎_elim, arith, ◌/◌, []}
use Rattle.std.specs.Option.{option_map}
use Rattle.std.specs.List.{Contains}
use Rattle.std.proofs.lemmas.List.Elements.{Contains-append_cases, Contains-append_left, Contains-append_right}
use Rattle.std.proofs.lemmas.Bool.{cases_eq, ne_eqb, cond-false, false≢true}
use Rattle.kheap_slabs.specs.Objects.{object, InUse}
use Rattle.kheap_slabs.specs.declared.objects.Node.{Node}
use Rattle.kheap_slabs.specs.declared.objects.PageEntry.{PageEntry}
use Rattle.kheap_slabs.specs.declared.objects.PageEntry.TheVariants as entry
use Rattle.kheap_slabs.specs.Heap.{Heap}
use Rattle.kheap_slabs.specs.Keys.{ChangesKeys}
use Rattle.kheap_slabs.specs.Spaces.{keys_in, OwnsNodes, names_page, bytes_at}
use Rattle.kheap_laws.proofs.KeyLemmas.{contains_or_not}
use Rattle.page_space.specs.Changes.{NamesPage, OwnChanges, OwnForks}
use Rattle.page_space.specs.Entries.{entry_at, PageTurns}
use Rattle.kheap_laws.proofs.KeyPlaces.{key_there}
use Rattle.page_space.proofs.TurnLemmas.{entry_stays}

module _ {X : Type 0} where
  unused : (objects : List (Option X)) (key : ℕ) → object objects key ≡ None → InUse objects key → ⊥
  unused objects key vacant used = false≢true (sym (ap is_some vacant) ∙ used)

  used_or_vacant : (objects : List (Option X)) (key : ℕ) → InUse objects key ⊎ (object objects key ≡ None)
  used_or_vacant objects key = by (object objects key) refl
    where
      by : (x : Option X) → object objects key ≡ x → InUse objects key ⊎ (object objects key ≡ None)
      by None is = inr is
      by (Some x) is = inl (ap is_some is)

  pub ChangesKeys-refl : (objects : List (Option X)) (keys : List ℕ) → ChangesKeys objects objects keys keys
  ChangesKeys-refl objects keys = record { outside = λ key outside. refl; fresh = λ key there. inl there; left = λ key there used. there }

  pub ChangesKeys-trans : (a b c : List (Option X)) (first second third : List ℕ) → ChangesKeys a b first second → ChangesKeys b c second third → ChangesKeys a c first third
  ChangesKeys-trans a b c first second third one two = record {
    outside = λ key outside.
        let not_first : Contains first key → ⊥ = λ there. outside (Contains-append_left first third key there) in
        let not_third : Contains third key → ⊥ = λ there. outside (Contains-append_right first third key there) in
        ⊎_elim
        (λ between. ⊎_elim (λ there. absurd (not_first there))
        (λ vacant. ⊎_elim (λ used. absurd (not_third (two.left key between used))) (λ gone. gone ∙ sym vacant) (used_or_vacant c key))
        (one.fresh key between))
        (λ apart.
        two.outside key (λ there. ⊎_elim apart not_third (Contains-append_cases second third key there))
        ∙ one.outside key (λ there. ⊎_elim not_first apart (Contains-append_cases first second key there)))
        (contains_or_not second key);
    fresh = λ key there. ⊎_elim
        (λ between. one.fresh key between)
        (λ vacant. ⊎_elim
        (λ mine. inl mine)
        (λ not_mine. ⊎_elim
        (λ between. one.fresh key between)
        (λ apart. inr (sym (one.outside key (λ named. ⊎_elim not_mine apart (Contains-append_cases first second key named))) ∙ vacant))
        (contains_or_not second key))
        (contains_or_not first key))
        (two.fresh key there);
    left = λ key there used. ⊎_elim
        (λ between. two.left key between used)
        (λ apart. ⊎_elim
        (λ later. later)
        (λ not_later. absurd (apart (one.left key there
        (subst (λ o. is_some o ≡ true) (two.outside key (λ named. ⊎_elim apart not_later (Contains-append_cases second third key named))) used))))
        (contains_or_not third key))
        (contains_or_not second key);
  }

pub frame_or_not : (e : PageEntry) (key : ℕ) → (e ≡ entry.Frame key) ⊎ (e ≡ entry.Frame key → ⊥)
frame_or_not entry.Unmapped key = inr (λ same. cc)
frame_or_not entry.Zero key = inr (λ same. cc)
frame_or_not (entry.Frame other) key = ⊎_elim (λ same. inl (ap entry.Frame same)) (λ apart. inr (λ same. apart (of_frame other key same))) (cases_eq other key)
  where
    of_frame : (one two : ℕ) → entry.Frame one ≡ entry.Frame two → one ≡ two
    of_frame one two same = cc

named_below : (nodes : List (Option Node)) (space : List (Option ℕ)) (key n : ℕ)
    → ((page : ℕ) × (page < n) × (entry_at nodes space page ≡ entry.Frame key)) ⊎ ((page : ℕ) → page < n → entry_at nodes space page ≡ entry.Frame key → ⊥)
named_below nodes space key zero = inr (λ page below is. omega arith)
named_below nodes space key (suc n) = ⊎_elim
    (λ here. inl (n, omega arith, here))
    (λ apart. ⊎_elim
    (λ found. inl (found.0, omega (arith, found.1), found.2))
    (λ none. inr (λ page below is. ⊎_elim (λ last. apart (sym (ap (entry_at nodes space) last) ∙ is)) (λ before. none page (omega arith) is) (cases_eq page n)))
    (named_below nodes space key n))
    (frame_or_not (entry_at nodes space n) key)

named_or_not : (nodes : List (Option Node)) (space : List (Option ℕ)) (key : ℕ) → NamesPage nodes space key ⊎ (NamesPage nodes space key → ⊥)
named_or_not nodes space key = ⊎_elim inl (λ none. inr (λ named. none named.0 named.1 named.2)) (named_below nodes space key 256)

pub OwnChanges-refl : (h : Heap) (space : List (Option ℕ)) → OwnChanges h h space space
OwnChanges-refl h space = record {
  nodes = ChangesKeys-refl h.nodes (keys_in space);
  stay = λ key used apart. refl;
  fresh = λ key named. inl named;
}

pub OwnChanges-trans : (a b c : Heap) (first second third : List (Option ℕ)) → OwnChanges a b first second → OwnChanges b c second third → OwnChanges a c first third
OwnChanges-trans a b c first second third one two = record {
  nodes = ChangesKeys-trans a.nodes b.nodes c.nodes (keys_in first) (keys_in second) (keys_in third) one.nodes two.nodes;
  stay = λ key used apart.
      two.stay key (ap is_some (one.stay key used apart) ∙ used) (λ named. ⊎_elim apart (λ vacant. unused a.pages key vacant used) (one.fresh key named))
      ∙ one.stay key used apart;
  fresh = λ key named. ⊎_elim
      (λ between. one.fresh key between)
      (λ vacant. ⊎_elim
      (λ used. ⊎_elim (λ mine. inl mine)
      (λ apart. absurd (unused b.pages key vacant (ap is_some (one.stay key used apart) ∙ used)))
      (named_or_not a.nodes first key))
      (λ gone. inr gone)
      (used_or_vacant a.pages key))
      (two.fresh key named);
}

pub names_none : (e : PageEntry) (key : ℕ) → (e ≡ entry.Frame key → ⊥) → names_page key e ≡ 0
names_none entry.Unmapped key apart = refl
names_none entry.Zero key apart = refl
names_none (entry.Frame other) key apart = cond-false (eqb other key) 1 0 (ne_eqb other key (λ same. apart (ap entry.Frame same)))

-- one page of the space turned to an entry that names no page, or one that wasn't there
pub OwnChanges-turned : (old new : Heap) (space now : List (Option ℕ)) (page : ℕ) (was is : PageEntry) → page < 256
    → PageTurns old.nodes new.nodes space now page was is
    → ((key : ℕ) → names_page key was ≡ 0 → InUse old.pages key → object new.pages key ≡ object old.pages key)
    → ((key : ℕ) → is ≡ entry.Frame key → object old.pages key ≡ None)
    → OwnChanges old new space now
OwnChanges-turned old new space now page was is below turns others vacant = record {
  nodes = turns.keys;
  stay = λ key used apart. others key (names_none was key (λ same. apart (page, below, turns.before ∙ same))) used;
  fresh = λ key named. ⊎_elim
      (λ here. inr (vacant key (sym turns.after ∙ (ap (entry_at new.nodes now) (sym here) ∙ named.2))))
      (λ apart. inl (named.0, named.1, sym (turns.others named.0 apart) ∙ named.2))
      (cases_eq named.0 page);
}

-- a space without nodes has joined
pub OwnForks-none : (h : Heap) (of empty : List (Option ℕ)) → keys_in empty ≡ [] → OwnForks h h of empty
OwnForks-none h of empty none = record {
  nodes = λ key outside. refl;
  fresh = λ key there. let in_none : Contains [] key = subst (λ keys. Contains keys key) none there in absurd (omega (arith, in_none.1));
  pages = λ key apart. refl;
  bytes = λ key. refl;
}

-- one page more: its entry is shared, and the new space gets it
pub OwnForks-more : (old mid new : Heap) (of now then : List (Option ℕ)) (page : ℕ) (e : PageEntry) → OwnForks old mid of now → OwnsNodes old.nodes of → page < 256
    → ChangesKeys mid.nodes new.nodes (keys_in now) (keys_in then) → e ≡ entry_at mid.nodes of page
    → ((key : ℕ) → names_page key e ≡ 0 → object new.pages key ≡ object mid.pages key)
    → ((key : ℕ) → e ≡ entry.Frame key → bytes_at new.pages key ≡ bytes_at mid.pages key)
    → OwnForks old new of then
OwnForks-more old mid new of now then page e own owns below keys is rest shared = record {
  nodes = λ key outside. ⊎_elim
      (λ there. ⊎_elim (λ used. absurd (outside (keys.left key there used))) (λ vacant. vacant ∙ sym (own.fresh key there)) (used_or_vacant new.nodes key))
      (λ apart. keys.outside key (λ named. ⊎_elim apart outside (Contains-append_cases (keys_in now) (keys_in then) key named)) ∙ own.nodes key apart)
      (contains_or_not (keys_in now) key);
  fresh = λ key there. ⊎_elim
      (λ before. own.fresh key before)
      (λ vacant. ⊎_elim (λ before. own.fresh key before) (λ apart. sym (own.nodes key apart) ∙ vacant) (contains_or_not (keys_in now) key))
      (keys.fresh key there);
  pages = λ key apart. rest key (names_none e key (λ same. apart (page, below, sym was ∙ (sym is ∙ same)))) ∙ own.pages key apart;
  bytes = λ key. ⊎_elim
      (λ same. shared key same ∙ own.bytes key)
      (λ apart. ap (option_map (λ p. p.bytes)) (rest key (names_none e key apart)) ∙ own.bytes key)
      (frame_or_not e key);
}
  where
    was : entry_at mid.nodes of page ≡ entry_at old.nodes of page
    was = entry_stays old.nodes mid.nodes of of page refl (λ key named.
        own.nodes key (λ there. unused old.nodes key (own.fresh key there) (owns.used key (key_there of (page / 64) key named))))
