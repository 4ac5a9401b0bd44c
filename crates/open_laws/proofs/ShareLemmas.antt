-- Descriptors that are shared one after another.
use Rattle.std.proofs.Common.{◌≡◌, ◌≢◌, ℕ, zero, suc, ◌+◌, ◌<◌, ◌≤◌, Bool, true, false, List, [], ◌∷◌, set, drop, length, get_or, cond, eqb, count_by, Option, None, Some, IsSome, refl, sym, ap, subst, ◌∙◌, arith, eq-eqb, ne_eqb, inl, inr, drop-cons}
use Rattle.std.proofs.lemmas.Bool.{cases_eq}
use Rattle.std.proofs.lemmas.List.{drop_all}
use Rattle.std.proofs.lemmas.List.Sums.{sum_by-cons}
use Rattle.std.specs.Option.{option_map}
use Rattle.kheap_slabs.specs.Objects.{object, InUse, put}
use Rattle.kheap_slabs.proofs.ObjectLemmas.{object_of}
use Rattle.kheap_slabs.specs.declared.objects.Desc.{Desc}
use Rattle.kheap_slabs.specs.declared.objects.Descriptor.{Descriptor}
use Rattle.kheap_slabs.specs.Heap.{Heap}
use Rattle.kheap_slabs.specs.Paid.{TakesNothing}
use Rattle.kheap_laws.proofs.PaidLemmas.{TakesNothing-refl, TakesNothing-trans}
use Rattle.posix_defs.specs.Files.State.{Files}
use Rattle.open_laws.specs.Placed.{Numbers}
use Rattle.open_laws.specs.Described.{CountedList, counting, after_share}
use Rattle.open_laws.specs.Open.{AreOpen}
use Rattle.open_laws.specs.Owned.{names_desc, desc_count, desc_count_at, HasItsOwners}
use Rattle.open_laws.specs.Sharing.{share_one, share_all, after_shares, hand_with, CanShare}
use Rattle.open_laws.proofs.CloseLemmas.{described}
use Rattle.open_laws.proofs.DropLemmas.{open_shared}
use Rattle.open_laws.proofs.OwnerLemmas.{count_at_set, one_if, owners_shared, set_here, set_other}

-- sharing one is a put
pub share_put : (descs : List (Option Desc)) (key : ℕ) (desc : Desc) → object descs key ≡ Some desc → share_one descs key ≡ put descs key (counting desc (desc.count + 1))
share_put descs key desc is = ap (λ (o : Option Desc). set descs key (option_map (λ (d : Desc). counting d (d.count + 1)) o)) is

-- how often a Desc is named by one descriptor and the others
named_first : (descriptor : Descriptor) (places : List (Option Descriptor)) (key : ℕ)
    → count_by (names_desc key) (Some descriptor ∷ places) ≡ one_if (eqb descriptor.desc key) + count_by (names_desc key) places
named_first descriptor places key = sum_by-cons (λ o. one_if (names_desc key o)) (Some descriptor) places

named_none : (places : List (Option Descriptor)) (key : ℕ) → count_by (names_desc key) (None ∷ places) ≡ count_by (names_desc key) places
named_none places key = let whole = sum_by-cons (λ o. one_if (names_desc key o)) None places in omega (arith, whole)

pub can_rest_none : (descs : List (Option Desc)) (places : List (Option Descriptor)) → CanShare descs (None ∷ places) → CanShare descs places
can_rest_none descs places can = record {
  there = λ key some. can.there key (let same = named_none places key in omega (arith, some, same));
  small = λ key some. let same = named_none places key in let small = can.small key (omega (arith, some, same)) in omega (arith, small, same);
}

-- the first one can be shared
pub can_first : (descs : List (Option Desc)) (descriptor : Descriptor) (places : List (Option Descriptor)) → CanShare descs (Some descriptor ∷ places)
    → InUse descs descriptor.desc × (desc_count_at descs descriptor.desc + 1 < 4294967296)
can_first descs descriptor places can =
    let named = named_first descriptor places descriptor.desc in
    let here = ap one_if (eq-eqb descriptor.desc descriptor.desc refl) in
    let small = can.small descriptor.desc (omega (arith, named, here)) in
    (can.there descriptor.desc (omega (arith, named, here)), omega (arith, named, here, small))

-- and then the rest
pub can_rest : (descs : List (Option Desc)) (descriptor : Descriptor) (places : List (Option Descriptor)) (desc : Desc) → object descs descriptor.desc ≡ Some desc
    → CanShare descs (Some descriptor ∷ places) → CanShare (put descs descriptor.desc (counting desc (desc.count + 1))) places
can_rest descs descriptor places desc is can = record {
  there = λ key some. elim (cases_eq key descriptor.desc) [
    | inl here ↦ subst (InUse now) (sym here) (subst IsSome (sym (set_here descs descriptor.desc desc (Some (counting desc (desc.count + 1))) is)) refl)
    | inr apart ↦ subst IsSome (sym (set_other descs descriptor.desc key (Some (counting desc (desc.count + 1))) apart))
        (can.there key (let named = named_first descriptor places key in omega (arith, some, named)))
  ];
  small = λ key some.
      let named = named_first descriptor places key in
      go key (eqb descriptor.desc key) (count_at_set descs descriptor.desc desc (Some (counting desc (desc.count + 1))) is key) named (can.small key (omega (arith, some, named)));
}
  where
    now : List (Option Desc)
    now = put descs descriptor.desc (counting desc (desc.count + 1))

    go : (key : ℕ) (b : Bool)
        → desc_count_at (put descs descriptor.desc (counting desc (desc.count + 1))) key + cond b desc.count 0 ≡ desc_count_at descs key + cond b (desc.count + 1) 0
        → count_by (names_desc key) (Some descriptor ∷ places) ≡ one_if b + count_by (names_desc key) places
        → desc_count_at descs key + count_by (names_desc key) (Some descriptor ∷ places) < 4294967296
        → desc_count_at (put descs descriptor.desc (counting desc (desc.count + 1))) key + count_by (names_desc key) places < 4294967296
    go key true moved named small = omega (arith, moved, named, small)
    go key false moved named small = omega (arith, moved, named, small)

-- ---- what is left to share

pub record Shares (old now : Heap) (all : List (Option Descriptor)) (at : ℕ) : Type 0 where
  pub kept : now ≡ described old now.descs
  pub rest : share_all now.descs (drop at all) ≡ share_all old.descs all
  pub can : CanShare now.descs (drop at all)
  pub takes : TakesNothing old now

pub shares_first : (old : Heap) (all : List (Option Descriptor)) → CanShare old.descs all → Shares old old all 0
shares_first old all can = record { kept = refl; rest = refl; can = can; takes = TakesNothing-refl old }

pub behind : (all : List (Option Descriptor)) (at : ℕ) (place : Option Descriptor) → at < length all → get_or all at None ≡ place → drop at all ≡ place ∷ drop (suc at) all
behind all at place within is = drop-cons all at None within ∙ ap (λ (o : Option Descriptor). o ∷ drop (suc at) all) is

pub shares_none : (old now : Heap) (all : List (Option Descriptor)) (at : ℕ) → drop at all ≡ None ∷ drop (suc at) all → Shares old now all at → Shares old now all (suc at)
shares_none old now all at is shares = record {
  kept = shares.kept;
  rest = sym (ap (share_all now.descs) is) ∙ shares.rest;
  can = can_rest_none now.descs (drop (suc at) all) (subst (CanShare now.descs) is shares.can);
  takes = shares.takes;
}

pub shares_next : (old now new : Heap) (all : List (Option Descriptor)) (at : ℕ) (descriptor : Descriptor) → drop at all ≡ Some descriptor ∷ drop (suc at) all
    → ((found : Desc) → object now.descs descriptor.desc ≡ Some found → new ≡ described now (put now.descs descriptor.desc (counting found (found.count + 1)))) → TakesNothing now new
    → Shares old now all at → Shares old new all (suc at)
shares_next old now new all at descriptor is kept takes shares =
    let can : CanShare now.descs (Some descriptor ∷ drop (suc at) all) = subst (CanShare now.descs) is shares.can in
    let held = object_of now.descs descriptor.desc (can_first now.descs descriptor (drop (suc at) all) can).0 in
    let is_now = kept held.0 held.1 in
    let descs_now : new.descs ≡ put now.descs descriptor.desc (counting held.0 (held.0.count + 1)) = ap (λ (h : Heap). h.descs) is_now in
    record {
      kept = is_now ∙ (ap (λ (d : List (Option Desc)). described now d) (sym descs_now) ∙ ap (λ (h : Heap). described h new.descs) shares.kept);
      rest = ap (λ (d : List (Option Desc)). share_all d (drop (suc at) all)) (descs_now ∙ sym (share_put now.descs descriptor.desc held.0 held.1))
          ∙ (sym (ap (share_all now.descs) is) ∙ shares.rest);
      can = subst (λ (d : List (Option Desc)). CanShare d (drop (suc at) all)) (sym descs_now) (can_rest now.descs descriptor (drop (suc at) all) held.0 held.1 can);
      takes = TakesNothing-trans old now new shares.takes takes;
    }

-- ---- what they stand for

-- where this heap is another but for its Descs, each call on what is shared goes on
pub opened_all : (numbers : Numbers) (h : Heap) (list : CountedList) (files : Files) (places : List (Option Descriptor)) → CanShare h.descs places → AreOpen numbers h list files
    → AreOpen numbers (described h (share_all h.descs places)) (after_shares numbers.descs list places) files
opened_all numbers h list files [] can are = are
opened_all numbers h list files (None ∷ places) can are = opened_all numbers h list files places (can_rest_none h.descs places can) are
opened_all numbers h list files (Some descriptor ∷ places) can are =
    let held = object_of h.descs descriptor.desc (can_first h.descs descriptor places can).0 in
    let now = put h.descs descriptor.desc (counting held.0 (held.0.count + 1)) in
    subst (λ (d : List (Option Desc)). AreOpen numbers (described h (share_all d places)) (after_shares numbers.descs (after_share list (numbers.descs descriptor.desc)) places) files)
    (sym (share_put h.descs descriptor.desc held.0 held.1))
    (opened_all numbers (described h now) (after_share list (numbers.descs descriptor.desc)) files places (can_rest h.descs descriptor places held.0 held.1 can)
    (open_shared numbers h list files descriptor.desc held.0 held.1 are))

pub owners_all : (h : Heap) (hand : List ℕ) (places : List (Option Descriptor)) → CanShare h.descs places → HasItsOwners h hand
    → HasItsOwners (described h (share_all h.descs places)) (hand_with places hand)
owners_all h hand [] can owners = owners
owners_all h hand (None ∷ places) can owners = owners_all h hand places (can_rest_none h.descs places can) owners
owners_all h hand (Some descriptor ∷ places) can owners =
    let held = object_of h.descs descriptor.desc (can_first h.descs descriptor places can).0 in
    let now = put h.descs descriptor.desc (counting held.0 (held.0.count + 1)) in
    subst (λ (d : List (Option Desc)). HasItsOwners (described h (share_all d places)) (hand_with places (descriptor.desc ∷ hand)))
    (sym (share_put h.descs descriptor.desc held.0 held.1))
    (owners_all (described h now) (descriptor.desc ∷ hand) places (can_rest h.descs descriptor places held.0 held.1 can)
    (owners_shared h hand descriptor.desc held.0 held.1 owners))

-- all are shared where none is left
pub all_shared : (old now : Heap) (all : List (Option Descriptor)) (at : ℕ) → length all ≤ at → Shares old now all at → now ≡ described old (share_all old.descs all)
all_shared old now all at past shares =
    let none : drop at all ≡ [] = drop_all at all past in
    shares.kept ∙ ap (λ (d : List (Option Desc)). described old d) (sym (ap (share_all now.descs) none) ∙ shares.rest)
