-- Calls that pay from one purse, one after the other, and calls without a purse.
use Rattle.std.proofs.Common.{◌≡◌, ℕ, ◌+◌, ◌-◌, ◌*◌, ◌<◌, ◌≤◌, ◌⊎◌, List, [], ◌∷◌, max, refl, ap, le_trans, le_refl, mul-le-mul_right, add-mul, inl, inr, ◌∙◌, arith}
use Rattle.std.specs.List.{sum_by}
use Rattle.std.proofs.lemmas.List.Sums.{sum_by-cons}
use Rattle.kabi_types.specs.Class.{all_classes, size}
use Rattle.kabi_types.specs.declared.classes.Class.{Class}
use Rattle.kabi_types.specs.declared.classes.Class.TheVariants as class
use Rattle.kabi_types.specs.declared.classes.Need.{Need}
use Rattle.kabi_types.specs.Counts.{class_bytes, counted, need_bytes, with_count}
use Rattle.kheap_slabs.specs.Purse.{Purse, left_bytes}
use Rattle.kheap_slabs.specs.Heap.{Heap, counts_of, live_bytes, Makes, Frees}
use Rattle.kheap_slabs.specs.Paid.{CanPay, IsPaid, TakesNothing}
use Rattle.kheap_slabs.proofs.PurseLemmas.{need_bytes-less, need_bytes-more}

-- what two and two others come to class by class, they come to in any list of classes
sums : (a b c d : Class → ℕ) → ((class : Class) → a class + b class ≤ c class + d class) → (classes : List Class) → sum_by a classes + sum_by b classes ≤ sum_by c classes + sum_by d classes
sums a b c d each [] = omega arith
sums a b c d each (class ∷ rest) =
    omega (arith, each class, sums a b c d each rest, sum_by-cons a class rest, sum_by-cons b class rest, sum_by-cons c class rest, sum_by-cons d class rest)

times : (a b c d bytes : ℕ) → a + b ≤ c + d → a * bytes + b * bytes ≤ c * bytes + d * bytes
times a b c d bytes less = omega (arith, mul-le-mul_right bytes less, add-mul a b bytes, add-mul c d bytes)

-- where two counts and two others are related class by class, so are their bytes
need_bytes-sum : (a b c d : Need) → ((class : Class) → counted a class + counted b class ≤ counted c class + counted d class) → need_bytes a + need_bytes b ≤ need_bytes c + need_bytes d
need_bytes-sum a b c d each =
    sums (class_bytes a) (class_bytes b) (class_bytes c) (class_bytes d) (λ class. times (counted a class) (counted b class) (counted c class) (counted d class) (size class) (each class)) all_classes

need_bytes-most : (a b : Need) → ((class : Class) → counted a class ≤ counted b class) → need_bytes a ≤ need_bytes b
need_bytes-most a b each = half (need_bytes a) (need_bytes b) (need_bytes-sum a a b b (λ class. twice (counted a class) (counted b class) (each class)))
  where
    twice : (n most : ℕ) → n ≤ most → n + n ≤ most + most
    twice n most less = omega arith

    half : (n most : ℕ) → n + n ≤ most + most → n ≤ most
    half n most less = omega arith

-- the bytes taken and those that the purse has left are together no more than they were
pub IsPaid-bytes : (old new : Heap) (before after : Purse) → IsPaid old before new after → live_bytes new + left_bytes after ≤ live_bytes old + left_bytes before
IsPaid-bytes old new before after paid = need_bytes-sum (counts_of new) after.left (counts_of old) before.left paid.counts

pub TakesNothing-bytes : (old new : Heap) → TakesNothing old new → live_bytes new ≤ live_bytes old
TakesNothing-bytes old new takes = need_bytes-most (counts_of new) (counts_of old) takes.counts

pub CanPay-kept : (old new : Heap) (before after : Purse) → IsPaid old before new after → CanPay old before → CanPay new after
CanPay-kept old new before after paid can =
    paid_still (live_bytes old) (live_bytes new) (left_bytes before) (left_bytes after) old.heap new.heap (IsPaid-bytes old new before after paid) paid.heap can
  where
    paid_still : (a b c d h i : ℕ) → b + d ≤ a + c → i ≡ h → a + c ≤ h → b + d ≤ i
    paid_still a b c d h i less same can = omega arith

-- what grows no further than a bound that grew no further than another
below_max : (old before high middle new : ℕ) → middle ≤ before → high ≤ max old before → new ≤ max high middle → new ≤ max old before
below_max old before high middle new less first second = omega arith

below_first : (a b : ℕ) → a ≤ max a b
below_first a b = omega arith

sums_join : (a b c d e f : ℕ) → c + d ≤ a + b → e + f ≤ c + d → e + f ≤ a + b
sums_join a b c d e f first second = omega arith

pub IsPaid-refl : (h : Heap) (p : Purse) → IsPaid h p h p
IsPaid-refl h p = record { counts = λ class. same _; need = refl; high = below_first h.high _; rises = le_refl _; heap = refl; marks = refl }
  where
    same : (n : ℕ) → n ≤ n
    same n = omega arith

pub IsPaid-trans : (a : Heap) (p : Purse) (b : Heap) (q : Purse) (c : Heap) (r : Purse) → IsPaid a p b q → IsPaid b q c r → IsPaid a p c r
IsPaid-trans a p b q c r first second = record {
  counts = λ class. sums_join (counted (counts_of a) class) (counted p.left class) (counted (counts_of b) class) (counted q.left class) _ _ (first.counts class) (second.counts class);
  need = second.need ∙ first.need;
  high = below_max a.high (live_bytes a + left_bytes p) b.high (live_bytes b + left_bytes q) c.high (IsPaid-bytes a b p q first) first.high second.high;
  rises = le_trans first.rises second.rises;
  heap = second.heap ∙ first.heap;
  marks = second.marks ∙ first.marks;
}

-- a count that was put is the one of its class, and the other classes keep theirs; each case is tried for every class
with_count-same : (of : Class) (n : Need) (k : ℕ) → counted (with_count n of k) of ≡ k
with_count-same class.Proc n k = refl
with_count-same _ n k = refl

same_or_other : (of other : Class) → (of ≡ other) ⊎ ((n : Need) (k : ℕ) → counted (with_count n of k) other ≡ counted n other)
same_or_other class.Proc class.Proc = inl refl
same_or_other _ class.Proc = inr (λ n k. refl)
same_or_other _ _ = search (inl, inr)

-- of one class one more is there, and one less is left
one_spent : (of other : Class) (n left : Need) → 0 < counted left of → counted (with_count n of (counted n of + 1)) other + counted (with_count left of (counted left of - 1)) other ≤ counted n other + counted left other
one_spent of other n left some = elim (same_or_other of other) [
  | inl same ↦ rw (← same, with_count-same of n (counted n of + 1), with_count-same of left (counted left of - 1)) (omega arith)
  | inr differs ↦ rw (differs n (counted n of + 1), differs left (counted left of - 1)) (omega arith)
]

-- of one class one less is there, and one more is left
one_given : (of other : Class) (n left : Need) → counted n other + counted (with_count left of (counted left of + 1)) other ≤ counted (with_count n of (counted n of + 1)) other + counted left other
one_given of other n left = elim (same_or_other of other) [
  | inl same ↦ rw (← same, with_count-same of n (counted n of + 1), with_count-same of left (counted left of + 1)) (omega arith)
  | inr differs ↦ rw (differs n (counted n of + 1), differs left (counted left of + 1)) (omega arith)
]

one_less : (of other : Class) (n : Need) → counted n other ≤ counted (with_count n of (counted n of + 1)) other
one_less of other n = elim (same_or_other of other) [
  | inl same ↦ rw (← same, with_count-same of n (counted n of + 1)) (omega arith)
  | inr differs ↦ rw (differs n (counted n of + 1)) (omega arith)
]

-- an object is made, and the purse spends it
pub IsPaid-spend : (of : Class) (old new : Heap) (before after : Purse) → Makes of old new → 0 < counted before.left of → after.left ≡ with_count before.left of (counted before.left of - 1) → after.need ≡ before.need → IsPaid old before new after
IsPaid-spend of old new before after makes some left need = record {
  counts = λ other. rw (makes.counts, left) (one_spent of other (counts_of old) before.left some);
  need = need;
  high =
      let more : live_bytes new ≡ live_bytes old + size of = ap need_bytes makes.counts ∙ need_bytes-more (counts_of old) of in
      let paid = need_bytes-less before.left of some in
      rw makes.high (within (size of) (live_bytes old) (live_bytes new) (left_bytes before) (need_bytes (with_count before.left of (counted before.left of - 1))) old.high more paid);
  rises = rw makes.high (below_first old.high _);
  heap = makes.heap;
  marks = makes.marks;
}
  where
    within : (bytes a b c d h : ℕ) → b ≡ a + bytes → d + bytes ≡ c → max h b ≤ max h (a + c)
    within bytes a b c d h more paid = omega arith

-- an object that was spent is freed, and the purse takes it back
pub IsPaid-give : (of : Class) (old new : Heap) (before after : Purse) → Frees of old new → after.left ≡ with_count before.left of (counted before.left of + 1) → after.need ≡ before.need → IsPaid old before new after
IsPaid-give of old new before after frees left need = record {
  counts = λ other. rw (frees.counts, left) (one_given of other (counts_of new) before.left);
  need = need;
  high = rw frees.high (below_first old.high _);
  rises = rw frees.high (le_refl _);
  heap = frees.heap;
  marks = frees.marks;
}

-- a call that takes nothing may stand among those that pay
pub IsPaid-nothing : (old new : Heap) (before after : Purse) → TakesNothing old new → after.left ≡ before.left → after.need ≡ before.need → IsPaid old before new after
IsPaid-nothing old new before after takes left need = record {
  counts = λ class. rw left (added (counted (counts_of old) class) (counted (counts_of new) class) (counted before.left class) (takes.counts class));
  need = need;
  high = rw takes.high (below_first old.high _);
  rises = rw takes.high (le_refl _);
  heap = takes.heap;
  marks = takes.marks;
}
  where
    added : (a b c : ℕ) → b ≤ a → b + c ≤ a + c
    added a b c less = omega arith

pub TakesNothing-refl : (h : Heap) → TakesNothing h h
TakesNothing-refl h = record { counts = λ class. same _; high = refl; heap = refl; marks = refl }
  where
    same : (n : ℕ) → n ≤ n
    same n = omega arith

pub TakesNothing-trans : (a b c : Heap) → TakesNothing a b → TakesNothing b c → TakesNothing a c
TakesNothing-trans a b c first second = record {
  counts = λ class. le_trans (second.counts class) (first.counts class);
  high = second.high ∙ first.high;
  heap = second.heap ∙ first.heap;
  marks = second.marks ∙ first.marks;
}

-- an object is freed, or changed
pub TakesNothing-freed : (of : Class) (old new : Heap) → Frees of old new → TakesNothing old new
TakesNothing-freed of old new frees = record {
  counts = λ other. rw frees.counts (one_less of other (counts_of new));
  high = frees.high;
  heap = frees.heap;
  marks = frees.marks;
}

pub TakesNothing-set : (old new : Heap) → counts_of new ≡ counts_of old → new.high ≡ old.high → new.heap ≡ old.heap → new.marks ≡ old.marks → TakesNothing old new
TakesNothing-set old new counts high heap marks = record {
  counts = λ class. rw counts (le_refl _);
  high = high;
  heap = heap;
  marks = marks;
}
