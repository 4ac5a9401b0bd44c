-- Objects and things go on standing for one another where nothing changes, one pair changes, one is made and one goes.
use Rattle.std.proofs.Common.{◌≡◌, ◌≢◌, ℕ, zero, suc, ◌<◌, ◌≤◌, length-append, Bool, true, false, List, [], ◌∷◌, ◌++◌, length, set, get_or, Option, None, Some, IsSome, refl, sym, ap, subst, ◌∙◌, cond, eqb, inl, inr, eq-eqb, ne_eqb, arith}
use Rattle.std.proofs.lemmas.Bool.{cases_eq, cases_lt}
use Rattle.std.proofs.lemmas.List.{get_or-set_same, get_or-set_other, get_or_append_left, get_or_at, get_or_past}
use Rattle.kheap_slabs.specs.Objects.{object, InUse, put, without}
use Rattle.kheap_slabs.proofs.ObjectLemmas.{object-put, object-put_other, object-without, object-without_other, object_of, InUse-within}
use Rattle.kheap_slabs.specs.declared.objects.Page.{Page}
use Rattle.kheap_slabs.specs.Spaces.{count_at}
use Rattle.posix_defs.specs.Memory.{Places, namings}
use Rattle.open_laws.specs.Placed.{ArePlaced, numbered, SaysStill, OthersStay, named_times, frames_there, Counts}

none_some : {X : Type 0} (x : X) → None ≡ Some x → ⊥
none_some x same = cc

some_same : {X : Type 0} {a b : X} → Some a ≡ Some b → a ≡ b
some_same same = cc

-- what is some thing is in use
used_by : {X : Type 0} (o : Option X) (x : X) → o ≡ Some x → IsSome o
used_by o x is = subst IsSome (sym is) refl

numbered_here : (number : ℕ → ℕ) (key place : ℕ) → numbered number key place key ≡ place
numbered_here number key place = ap (λ b. cond b place (number key)) (eq-eqb key key refl)

numbered_other : (number : ℕ → ℕ) (key place other : ℕ) → other ≢ key → numbered number key place other ≡ number other
numbered_other number key place other apart = ap (λ b. cond b place (number other)) (ne_eqb other key apart)

module _ {X Y : Type 0} where
  -- ---- nothing changes

  -- keys name the same objects and have the same numbers, places have the same things, and the objects say of them what
  -- they said or what it has become
  pub placed_unchanged : (before after : ℕ → X → Y → Type 0) (number now : ℕ → ℕ) (old new : List (Option X)) (things later : ℕ → Option Y)
      → ((key : ℕ) → object new key ≡ object old key) → ((place : ℕ) → later place ≡ things place) → ((key : ℕ) → InUse old key → now key ≡ number key)
      → ((key : ℕ) (x : X) (y : Y) → object old key ≡ Some x → things (number key) ≡ Some y → before key x y → after key x y)
      → ArePlaced before number old things → ArePlaced after now new later
  placed_unchanged before after number now old new things later objects same numbers still are = record {
    there = λ key x is. let was = sym (objects key) ∙ is in let found = are.there key x was in
        (found.0, ap later (numbers key (used_by (object old key) x was)) ∙ same (number key) ∙ found.1);
    means = λ key x y is says. let was = sym (objects key) ∙ is in
        let said = sym (ap later (numbers key (used_by (object old key) x was)) ∙ same (number key)) ∙ says in
        still key x y was said (are.means key x y was said);
    once = λ one other used used_other e.
        let u : InUse old one = subst IsSome (objects one) used in
        let v : InUse old other = subst IsSome (objects other) used_other in
        are.once one other u v (sym (numbers one u) ∙ e ∙ numbers other v);
    found = λ place y is. let f = are.found place y (sym (same place) ∙ is) in
        (f.0, subst IsSome (sym (objects f.0)) f.1, numbers f.0 f.1 ∙ f.2);
  }

  -- ---- one pair changes

  -- an object in use becomes another, and its thing what that one says
  pub placed_changed : (before after : ℕ → X → Y → Type 0) (number : ℕ → ℕ) (old new : List (Option X)) (things later : ℕ → Option Y) (key : ℕ) (x : X) (y : Y)
      → InUse old key → object new key ≡ Some x → later (number key) ≡ Some y → after key x y
      → OthersStay old new things later key (number key) → SaysStill old things number before after key
      → ArePlaced before number old things → ArePlaced after number new later
  placed_changed before after number old new things later key x y used stored put_there says stay still are = record {
    there = λ other z is. elim (cases_eq other key) [
      | inl same ↦ (y, ap (λ k. later (number k)) same ∙ put_there)
      | inr apart ↦ let f = are.there other z (sym (stay.objects other apart) ∙ is) in (f.0, stay.things (number other) (far other (old_used other z apart is) apart) ∙ f.1)
    ];
    means = λ other z w is said. elim (cases_eq other key) [
      | inl same ↦ here other z w same is said
      | inr apart ↦ let was = sym (stay.objects other apart) ∙ is in
          let then = sym (stay.things (number other) (far other (old_used other z apart is) apart)) ∙ said in
          still other z w apart was then (are.means other z w was then)
    ];
    once = λ one other u v e. are.once one other (old_use one u) (old_use other v) e;
    found = λ place z is. elim (cases_eq place (number key)) [
      | inl same ↦ (key, used_by (object new key) x stored, sym same)
      | inr apart ↦ let f = are.found place z (sym (stay.things place apart) ∙ is) in
          let away : f.0 ≢ key = λ e. apart (sym f.2 ∙ ap number e) in
          (f.0, subst IsSome (sym (stay.objects f.0 away)) f.1, f.2)
    ];
  }
    where
      old_use : (other : ℕ) → InUse new other → InUse old other
      old_use other u = elim (cases_eq other key) [
        | inl same ↦ subst (InUse old) (sym same) used
        | inr apart ↦ subst IsSome (stay.objects other apart) u
      ]

      old_used : (other : ℕ) (z : X) → other ≢ key → object new other ≡ Some z → InUse old other
      old_used other z apart is = used_by (object old other) z (sym (stay.objects other apart) ∙ is)

      far : (other : ℕ) → InUse old other → other ≢ key → number other ≢ number key
      far other u apart e = apart (are.once other key u used e)

      here : (other : ℕ) (z : X) (w : Y) → other ≡ key → object new other ≡ Some z → later (number other) ≡ Some w → after other z w
      here other z w same is said =
          let a : z ≡ x = some_same (sym is ∙ ap (object new) same ∙ stored) in
          let b : w ≡ y = some_same (sym said ∙ ap (λ k. later (number k)) same ∙ put_there) in
          subst (λ k. after k z w) (sym same) (subst (λ v. after key v w) (sym a) (subst (λ v. after key x v) (sym b) says))

  -- ---- one is made

  -- a key that was free names an object, and its thing is made at a place where none was
  pub placed_made : (before after : ℕ → X → Y → Type 0) (number : ℕ → ℕ) (old new : List (Option X)) (things later : ℕ → Option Y) (key place : ℕ) (x : X) (y : Y)
      → object old key ≡ None → object new key ≡ Some x → things place ≡ None → later place ≡ Some y → after key x y
      → OthersStay old new things later key place → SaysStill old things number before after key
      → ArePlaced before number old things → ArePlaced after (numbered number key place) new later
  placed_made before after number old new things later key place x y vacant stored empty put_there says stay still are = record {
    there = λ other z is. elim (cases_eq other key) [
      | inl same ↦ (y, ap later (at_key other same) ∙ put_there)
      | inr apart ↦ let was = sym (stay.objects other apart) ∙ is in let f = are.there other z was in
          (f.0, ap later (numbered_other number key place other apart) ∙ stay.things (number other) (far other f.0 f.1) ∙ f.1)
    ];
    means = λ other z w is said. elim (cases_eq other key) [
      | inl same ↦ here other z w same is said
      | inr apart ↦ let was = sym (stay.objects other apart) ∙ is in let f = are.there other z was in
          let then = sym (stay.things (number other) (far other f.0 f.1)) ∙ ap later (sym (numbered_other number key place other apart)) ∙ said in
          still other z w apart was then (are.means other z w was then)
    ];
    once = λ one other u v e. elim (cases_eq one key) [
      | inl same ↦ elim (cases_eq other key) [
        | inl same2 ↦ same ∙ sym same2
        | inr apart ↦ absurd (not_here other v apart (sym (numbered_other number key place other apart) ∙ sym e ∙ at_key one same))
      ]
      | inr apart ↦ elim (cases_eq other key) [
        | inl same ↦ absurd (not_here one u apart (sym (numbered_other number key place one apart) ∙ e ∙ at_key other same))
        | inr apart2 ↦ are.once one other (old_use one u apart) (old_use other v apart2) (sym (numbered_other number key place one apart) ∙ e ∙ numbered_other number key place other apart2)
      ]
    ];
    found = λ at z is. elim (cases_eq at place) [
      | inl same ↦ (key, used_by (object new key) x stored, numbered_here number key place ∙ sym same)
      | inr apart ↦ let f = are.found at z (sym (stay.things at apart) ∙ is) in
          let away : f.0 ≢ key = not_key f.0 f.1 in
          (f.0, subst IsSome (sym (stay.objects f.0 away)) f.1, numbered_other number key place f.0 away ∙ f.2)
    ];
  }
    where
      at_key : (other : ℕ) → other ≡ key → numbered number key place other ≡ place
      at_key other same = ap (numbered number key place) same ∙ numbered_here number key place

      far : (other : ℕ) (w : Y) → things (number other) ≡ Some w → number other ≢ place
      far other w is e = none_some w (sym empty ∙ ap things (sym e) ∙ is)

      old_use : (other : ℕ) → InUse new other → other ≢ key → InUse old other
      old_use other u apart = subst IsSome (stay.objects other apart) u

      not_here : (other : ℕ) → InUse new other → other ≢ key → number other ≢ place
      not_here other u apart =
          let o = object_of old other (old_use other u apart) in let f = are.there other o.0 o.1 in
          far other f.0 f.1

      not_key : (other : ℕ) → InUse old other → other ≢ key
      not_key other u e = let o = object_of old other u in none_some o.0 (sym vacant ∙ ap (object old) (sym e) ∙ o.1)

      here : (other : ℕ) (z : X) (w : Y) → other ≡ key → object new other ≡ Some z → later (numbered number key place other) ≡ Some w → after other z w
      here other z w same is said =
          let a : z ≡ x = some_same (sym is ∙ ap (object new) same ∙ stored) in
          let b : w ≡ y = some_same (sym said ∙ ap later (at_key other same) ∙ put_there) in
          subst (λ k. after k z w) (sym same) (subst (λ v. after key v w) (sym a) (subst (λ v. after key x v) (sym b) says))

  -- ---- one goes

  -- a key in use is free from now on, and its thing is gone
  pub placed_gone : (before after : ℕ → X → Y → Type 0) (number : ℕ → ℕ) (old new : List (Option X)) (things later : ℕ → Option Y) (key : ℕ)
      → InUse old key → object new key ≡ None → later (number key) ≡ None
      → OthersStay old new things later key (number key) → SaysStill old things number before after key
      → ArePlaced before number old things → ArePlaced after number new later
  placed_gone before after number old new things later key used gone left stay still are = record {
    there = λ other z is. let apart = not_key other z is in
        let f = are.there other z (sym (stay.objects other apart) ∙ is) in
        (f.0, stay.things (number other) (far other (used_by (object old other) z (sym (stay.objects other apart) ∙ is)) apart) ∙ f.1);
    means = λ other z w is said. let apart = not_key other z is in
        let was = sym (stay.objects other apart) ∙ is in
        let then = sym (stay.things (number other) (far other (used_by (object old other) z was) apart)) ∙ said in
        still other z w apart was then (are.means other z w was then);
    once = λ one other u v e. are.once one other (old_use one u) (old_use other v) e;
    found = λ place z is. let away : place ≢ number key = λ e. none_some z (sym left ∙ ap later (sym e) ∙ is) in
        let f = are.found place z (sym (stay.things place away) ∙ is) in
        let apart : f.0 ≢ key = λ e. away (sym f.2 ∙ ap number e) in
        (f.0, subst IsSome (sym (stay.objects f.0 apart)) f.1, f.2);
  }
    where
      not_key : (other : ℕ) (z : X) → object new other ≡ Some z → other ≢ key
      not_key other z is e = none_some z (sym gone ∙ ap (object new) (sym e) ∙ is)

      old_use : (other : ℕ) → InUse new other → InUse old other
      old_use other u = let o = object_of new other u in subst IsSome (stay.objects other (not_key other o.0 o.1)) u

      far : (other : ℕ) → InUse old other → other ≢ key → number other ≢ number key
      far other u apart e = apart (are.once other key u used e)

  -- ---- by lists

  -- what a put and a removal at a key and at its place leave of all others
  pub stay_changed : (old : List (Option X)) (things : List (Option Y)) (key place : ℕ) (x : Option X) (y : Option Y)
      → OthersStay old (set old key x) (object things) (object (set things place y)) key place
  stay_changed old things key place x y = record {
    objects = λ other apart. get_or-set_other old key other x None apart;
    things = λ other apart. get_or-set_other things place other y None apart;
  }

module _ {Y : Type 0} where
  -- what is put at a place where something was stands there
  pub put_at : (things : List (Option Y)) (place : ℕ) (was : Y) (y : Option Y) → object things place ≡ Some was → object (set things place y) place ≡ y
  put_at things place was y is = get_or-set_same things place y None (InUse-within things place (used_by (object things place) was is))

  -- nothing is past the end
  pub none_past : (things : List (Option Y)) (place : ℕ) → length things ≤ place → object things place ≡ None
  none_past things place past = get_or_past things place None past

module _ {X Y : Type 0} where
  pub law_keeps : (says : ℕ → X → Y) (number now : ℕ → ℕ) (objects : List (Option X)) (things : List (Option Y))
      → ((key : ℕ) → InUse objects key → now key ≡ number key)
      → ArePlaced (λ key x y. y ≡ says key x) number objects (object things) → ArePlaced (λ key x y. y ≡ says key x) now objects (object things)
  law_keeps says number now objects things numbers are =
      placed_unchanged (λ key x y. y ≡ says key x) (λ key x y. y ≡ says key x) number now objects objects (object things) (object things)
      (λ key. refl) (λ place. refl) numbers (λ key x y is said it. it) are

  pub law_changes : (says : ℕ → X → Y) (number : ℕ → ℕ) (objects : List (Option X)) (things : List (Option Y)) (key : ℕ) (x : X) → InUse objects key
      → ArePlaced (λ key x y. y ≡ says key x) number objects (object things)
      → ArePlaced (λ key x y. y ≡ says key x) number (put objects key x) (object (set things (number key) (Some (says key x))))
  law_changes says number objects things key x used are =
      let o = object_of objects key used in let f = are.there key o.0 o.1 in
      placed_changed (λ key x y. y ≡ says key x) (λ key x y. y ≡ says key x) number objects (put objects key x) (object things) (object (set things (number key) (Some (says key x)))) key x (says key x)
      used (object-put objects key x (InUse-within objects key used)) (put_at things (number key) f.0 (Some (says key x)) f.1) refl
      (stay_changed objects things key (number key) (Some x) (Some (says key x))) (λ other z w apart is said it. it) are

  pub law_makes : (says : ℕ → X → Y) (number : ℕ → ℕ) (objects : List (Option X)) (things : List (Option Y)) (key : ℕ) (x : X) → object objects key ≡ None → key < length objects
      → ArePlaced (λ key x y. y ≡ says key x) number objects (object things)
      → ArePlaced (λ key x y. y ≡ says key x) (numbered number key (length things)) (put objects key x) (object (things ++ Some (says key x) ∷ []))
  law_makes says number objects things key x vacant within are =
      placed_made (λ key x y. y ≡ says key x) (λ key x y. y ≡ says key x) number objects (put objects key x) (object things) (object (things ++ Some (says key x) ∷ [])) key (length things) x (says key x)
      vacant (object-put objects key x within) (none_past things (length things) (omega arith)) (get_or_at things (Some (says key x)) [] None (length things) refl) refl
      (record { objects = λ other apart. get_or-set_other objects key other (Some x) None apart; things = longer })
      (λ other z w apart is said it. it) are
    where
      longer : (place : ℕ) → place ≢ length things → object (things ++ Some (says key x) ∷ []) place ≡ object things place
      longer place apart = elim (cases_lt place (length things)) [
        | inl below ↦ get_or_append_left things (Some (says key x) ∷ []) None place below
        | inr above ↦ none_past (things ++ Some (says key x) ∷ []) place (rw length-append (omega (arith, above, apart))) ∙ sym (none_past things place above)
      ]

  pub law_goes : (says : ℕ → X → Y) (number : ℕ → ℕ) (objects : List (Option X)) (things : List (Option Y)) (key : ℕ) → InUse objects key
      → ArePlaced (λ key x y. y ≡ says key x) number objects (object things)
      → ArePlaced (λ key x y. y ≡ says key x) number (without objects key) (object (set things (number key) None))
  law_goes says number objects things key used are =
      let o = object_of objects key used in let f = are.there key o.0 o.1 in
      placed_gone (λ key x y. y ≡ says key x) (λ key x y. y ≡ says key x) number objects (without objects key) (object things) (object (set things (number key) None)) key
      used (object-without objects key (InUse-within objects key used)) (put_at things (number key) f.0 None f.1)
      (stay_changed objects things key (number key) None None) (λ other z w apart is said it. it) are

-- ---- frames

is_named : (count : ℕ) → 0 < count → named_times count ≡ Some count
is_named count some = ap (λ b. cond b None (Some count)) (ne_eqb count 0 (λ none. omega (arith, some, none)))

named_is : (count m : ℕ) → named_times count ≡ Some m → (m ≡ count) × (0 < count)
named_is count m is = elim (cases_eq count 0) [
  | inl none ↦ absurd (none_some m (sym (ap (λ b. cond b None (Some count)) (eq-eqb count 0 none)) ∙ is))
  | inr apart ↦ let some : 0 < count = omega (arith, apart) in (some_same (sym is ∙ is_named count some), some)
]

count_is : (pages : List (Option Page)) (key : ℕ) (page : Page) → object pages key ≡ Some page → count_at pages key ≡ page.count
count_is pages key page is = rw is refl

pub frames_placed : (number : ℕ → ℕ) (pages : List (Option Page)) (places : List Places)
    → ((key : ℕ) → InUse pages key → namings places (number key) ≡ count_at pages key)
    → ((key : ℕ) → InUse pages key → 0 < count_at pages key)
    → ((one other : ℕ) → InUse pages one → InUse pages other → number one ≡ number other → one ≡ other)
    → ((frame : ℕ) → 0 < namings places frame → (key : ℕ) × InUse pages key × (number key ≡ frame))
    → ArePlaced Counts number pages (frames_there places)
frames_placed number pages places counts named once found = record {
  there = λ key page is. let used = used_by (object pages key) page is in
      (namings places (number key), is_named (namings places (number key)) (subst (λ n. 0 < n) (sym (counts key used)) (named key used)));
  means = λ key page n is said. let used = used_by (object pages key) page is in
      sym (count_is pages key page is) ∙ sym (counts key used) ∙ sym (named_is (namings places (number key)) n said).0;
  once = once;
  found = λ frame n is. found frame (named_is (namings places frame) n is).1;
}
