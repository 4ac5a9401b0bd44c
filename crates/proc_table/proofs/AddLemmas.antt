-- A process is added behind the others.
use Rattle.std.proofs.Common.{◌≡◌, ℕ, ◌<◌, List, [], ◌∷◌, ◌++◌, Option, None, Some, refl, sym, ap, ◌∙◌, subst, inl, inr, Contains, append_assoc}
use Rattle.std.specs.List.{AllByRecursion, cons_option}
use Rattle.std.proofs.lemmas.List.{map-append}
use Rattle.std.proofs.lemmas.List.Elements.{Contains-append_left, Contains-append_right, Contains-push, Contains-push_cases}
use Rattle.kheap_slabs.specs.Objects.{object, put}
use Rattle.kheap_slabs.specs.declared.objects.Proc.{Proc}
use Rattle.kheap_slabs.specs.Heap.{Heap}
use Rattle.kheap_slabs.specs.Keys.{ChangesKeys, Splits}
use Rattle.kheap_slabs.specs.Owners.{Owners, with_space, IsOwned}
use Rattle.kheap_slabs.proofs.ObjectLemmas.{object-put_other}
use Rattle.kheap_laws.proofs.OwnerLemmas.{IsOwned-same, IsOwned-space_from_front}
use Rattle.proc_table.specs.Procs.{IsLight}
use Rattle.proc_table.specs.Table.{AreBetween, AreStored, TableView, keys_of, processes, procs_at, with_procs}
use Rattle.proc_table.specs.declared.places.Place.{Place}
use Rattle.proc_table.proofs.OwnLemmas.{all_append, spaces_in}
use Rattle.proc_table.proofs.PlaceLemmas.{AreBetween-more, AreStored-missed, Misses, Misses-vacant, at_stored, procs_at-missed}

procs_more : (objects : List (Option Proc)) (places : List Place) (place : Place) (child : Proc) → object objects place.key ≡ Some child
    → procs_at objects (places ++ place ∷ []) ≡ procs_at objects places ++ child ∷ []
procs_more objects [] place child there = ap (λ o. cons_option o []) there
procs_more objects (first ∷ places) place child there =
    ap (cons_option (object objects first.key)) (procs_more objects places place child there) ∙ over (object objects first.key)
  where
    over : (o : Option Proc) → cons_option o (procs_at objects places ++ child ∷ []) ≡ cons_option o (procs_at objects places) ++ child ∷ []
    over None = refl
    over (Some proc) = refl

stored_more : (objects : List (Option Proc)) (places : List Place) (place : Place) (child : Proc) → object objects place.key ≡ Some child → child.pid ≡ place.pid
    → AreStored objects places → AreStored objects (places ++ place ∷ [])
stored_more objects [] place child there pid stored = (at_stored objects place child there pid, tt)
stored_more objects (first ∷ places) place child there pid stored = (stored.0, stored_more objects places place child there pid stored.1)

keys_more : (places : List Place) (place : Place) → keys_of (places ++ place ∷ []) ≡ keys_of places ++ place.key ∷ []
keys_more [] place = refl
keys_more (first ∷ places) place = ap (λ keys. first.key ∷ keys) (keys_more places place)

-- the keys are one more, which was vacant
added_keys : (old new : List (Option Proc)) (keys : List ℕ) (key : ℕ) (child : Proc) → object old key ≡ None → new ≡ put old key child
    → ChangesKeys old new keys (keys ++ key ∷ [])
added_keys old new keys key child vacant is = record {
  outside = λ other absent. ap (λ objects. object objects other) is
      ∙ object-put_other old key other child (λ same. absent (subst (Contains (keys ++ (keys ++ key ∷ []))) (sym same) (Contains-append_right keys (keys ++ key ∷ []) key (Contains-push keys key))));
  fresh = λ other there. elim (Contains-push_cases keys key other there) [
    | inl had ↦ inl had
    | inr same ↦ inr (subst (λ k. object old k ≡ None) same vacant)
  ];
  left = λ other there used. Contains-append_left keys (key ∷ []) other there;
}

module _ (mid new : Heap) (was now : TableView) (child : Proc) (key : ℕ) (vacant : object mid.procs key ≡ None) (stored : object new.procs key ≡ Some child)
    (listed : now.listed ≡ was.listed ++ record { pid = child.pid; key = key } ∷ []) (last : now.last ≡ child.pid)
    (kept : new ≡ record mid { procs = put mid.procs key child; high = new.high })
    (before : AreStored mid.procs was.listed) where
  abbrev place : Place
  place = record { pid = child.pid; key = key }

  procs_are : new.procs ≡ put mid.procs key child
  procs_are = ap (λ (h : Heap). h.procs) kept

  misses : Misses key was.listed
  misses = Misses-vacant mid.procs was.listed key before vacant

  pub added-procs : processes new now ≡ processes mid was ++ child ∷ []
  added-procs =
      ap (procs_at new.procs) listed
      ∙ procs_more new.procs was.listed (record { pid = child.pid; key = key }) child stored
      ∙ ap (λ procs. procs_at procs was.listed ++ child ∷ []) procs_are
      ∙ ap (λ procs. procs ++ child ∷ []) (procs_at-missed mid.procs was.listed key (Some child) misses)

  pub added-stored : AreStored new.procs now.listed
  added-stored =
      subst (AreStored new.procs) (sym listed)
      (stored_more new.procs was.listed (record { pid = child.pid; key = key }) child stored refl
      (subst (λ procs. AreStored procs was.listed) (sym procs_are) (AreStored-missed mid.procs was.listed key (Some child) misses before)))

  pub added-rising : AreBetween 0 was.listed was.last → was.last < child.pid → AreBetween 0 now.listed now.last
  added-rising rising next =
      subst (AreBetween 0 now.listed) (sym last)
      (subst (λ places. AreBetween 0 places child.pid) (sym listed) (AreBetween-more was.listed 0 was.last child.pid key rising next))

  pub added-light : AllByRecursion IsLight (processes mid was) → IsLight child → AllByRecursion IsLight (processes new now)
  added-light light also = subst (AllByRecursion IsLight) (sym added-procs) (all_append IsLight (processes mid was) (child ∷ []) light (also, tt))

  pub added-keys : ChangesKeys mid.procs new.procs (keys_of was.listed) (keys_of now.listed)
  added-keys =
      subst (ChangesKeys mid.procs new.procs (keys_of was.listed)) (sym (ap keys_of listed ∙ keys_more was.listed (record { pid = child.pid; key = key })))
      (added_keys mid.procs new.procs (keys_of was.listed) key child vacant procs_are)

  splits : (rest : List (List (Option ℕ))) → Splits (spaces_in (processes mid was ++ child ∷ []) ++ rest) child.nodes (spaces_in (processes mid was) ++ rest)
  splits rest = record {
    before = spaces_in (processes mid was);
    after = rest;
    whole_is = ap (λ spaces. spaces ++ rest) (map-append (λ (p : Proc). p.nodes) (processes mid was) (child ∷ [])) ∙ append_assoc (spaces_in (processes mid was)) (child.nodes ∷ []) rest;
    rest_is = refl;
  }

  pub added-owned : (others : Owners) → IsOwned mid (with_space child.nodes (with_procs (processes mid was) others)) → IsOwned new (with_procs (processes new now) others)
  added-owned others owned =
      subst (λ procs. IsOwned new (with_procs procs others)) (sym added-procs)
      (IsOwned-same mid new (with_procs (processes mid was ++ child ∷ []) others) (ap (λ (h : Heap). h.nodes) kept) (ap (λ (h : Heap). h.pages) kept) (ap (λ (h : Heap). h.chunks) kept)
      (IsOwned-space_from_front mid (with_procs (processes mid was ++ child ∷ []) others) child.nodes (spaces_in (processes mid was) ++ others.spaces) (splits others.spaces) owned))
