-- Each pipe has an end that some process has open.
use Rattle.std.proofs.Common.{◌≡◌, ℕ, zero, suc, ◌+◌, ◌<◌, ◌&&◌, ◌⊎◌, Bool, true, false, cond, List, [], ◌∷◌, Option, None, Some, inl, inr, refl, ap, sym, ◌∙◌, subst, arith}
use Rattle.std.specs.Prelude.{count_by}
use Rattle.std.proofs.lemmas.Bool.Decides.{eqb_tells}
use Rattle.std.proofs.lemmas.List.Sums.{sum_by-cons}
use Rattle.kabi_types.specs.declared.scripts.Script.{Script}
use Rattle.kheap_slabs.specs.Objects.{InUse, object}
use Rattle.kheap_slabs.specs.declared.objects.Desc.{Desc}
use Rattle.kheap_slabs.specs.declared.objects.Target.{Target}
use Rattle.kheap_slabs.specs.declared.objects.Target.TheVariants as target
use Rattle.kheap_slabs.proofs.ObjectLemmas.{object_of}
use Rattle.open_laws.specs.Described.{access_in}
use Rattle.open_laws.specs.Owned.{all_namings, desc_count_at, has_read_end, has_write_end, is_on_pipe}
use Rattle.posix_defs.specs.Files.Descriptions.{may_read, may_write}
use Rattle.store_objects.specs.declared.objects.Objects.{Objects}
use Rattle.store_objects.specs.Objects.{AreKept}

-- 1 for what passes
abbrev one_if : Bool → ℕ
one_if passes = cond passes 1 0

-- what counts some has one
one_of : (test : Option Desc → Bool) (descs : List (Option Desc)) → test None ≡ false → 0 < count_by test descs
    → (key : ℕ) × (desc : Desc) × (object descs key ≡ Some desc) × (test (Some desc) ≡ true)
one_of test [] none some = absurd (let nothing : count_by test [] ≡ 0 = refl in omega (arith, some, nothing))
one_of test (first ∷ descs) none some = go (λ more. one_of test descs none more) first refl (test first) refl
  where
    whole : count_by test (first ∷ descs) ≡ one_if (test first) + count_by test descs
    whole = sum_by-cons (λ o. one_if (test o)) first descs

    behind : (0 < count_by test descs → (key : ℕ) × (desc : Desc) × (object descs key ≡ Some desc) × (test (Some desc) ≡ true)) → test first ≡ false
        → (key : ℕ) × (desc : Desc) × (object (first ∷ descs) key ≡ Some desc) × (test (Some desc) ≡ true)
    behind rest is =
        let no : one_if (test first) ≡ 0 = ap one_if is in
        let it = rest (omega (arith, some, whole, no)) in (suc it.0, it.1, it.2, it.3)

    go : (0 < count_by test descs → (key : ℕ) × (desc : Desc) × (object descs key ≡ Some desc) × (test (Some desc) ≡ true)) → (o : Option Desc) → first ≡ o
        → (b : Bool) → test first ≡ b → (key : ℕ) × (desc : Desc) × (object (first ∷ descs) key ≡ Some desc) × (test (Some desc) ≡ true)
    go rest None e b is = behind rest (ap test e ∙ none)
    go rest (Some desc) e true is = (0, desc, e, sym (ap test e) ∙ is)
    go rest (Some desc) e false is = behind rest is

-- what is on a pipe is on that one
on_that : (pipe : ℕ) (on : Target) (end : Bool) → is_on_pipe pipe on && end ≡ true → on ≡ target.Pipe pipe
on_that pipe (target.Inode number) end is = cc
on_that pipe (target.Sock sock) end is = cc
on_that pipe (target.Pipe other) end is = elim (eqb_tells other pipe) [
  | inl same ↦ ap target.Pipe same.1
  | inr apart ↦ absurd (never (sym (ap (λ b. b && end) apart.0) ∙ is))
]
  where
    never : false ≡ true → ⊥
    never e = cc

some_of : (a b : ℕ) → 0 < a + b → (0 < a) ⊎ (0 < b)
some_of zero b some = inr (omega arith)
some_of (suc a) b some = inl (omega arith)

pub end_open : (script : Script) (objects : Objects) (pipe : ℕ) → AreKept script objects → InUse objects.heap.pipes pipe
    → (key : ℕ) × (desc : Desc) × (object objects.heap.descs key ≡ Some desc) × (desc.target ≡ target.Pipe pipe) × (0 < all_namings objects.heap key)
end_open script objects pipe kept there =
    let held = object_of objects.heap.pipes pipe there in
    let ends = kept.owners.held.pipes pipe held.0 held.1 in
    elim (some_of held.0.readers held.0.writers ends.some_end) [
      | inl reads ↦
          let it = one_of (has_read_end pipe) objects.heap.descs refl (subst (λ n. 0 < n) ends.readers reads) in
          (it.0, it.1, it.2, on_that pipe it.1.target (may_read (access_in it.1.access)) it.3, named it.0 it.1 it.2)
      | inr writes ↦
          let it = one_of (has_write_end pipe) objects.heap.descs refl (subst (λ n. 0 < n) ends.writers writes) in
          (it.0, it.1, it.2, on_that pipe it.1.target (may_write (access_in it.1.access)) it.3, named it.0 it.1 it.2)
    ]
  where
    no_more : (a b : ℕ) → a ≡ b + 0 → 0 < a → 0 < b
    no_more a b same some = omega arith

    named : (key : ℕ) (desc : Desc) → object objects.heap.descs key ≡ Some desc → 0 < all_namings objects.heap key
    named key desc is =
        no_more (desc_count_at objects.heap.descs key) (all_namings objects.heap key) (kept.owners.named.counts key)
        (kept.owners.named.named key (let used : InUse objects.heap.descs key = rw is refl in used))
