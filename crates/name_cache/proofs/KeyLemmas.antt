-- The keys of names.
use Rattle.std.proofs.Common.{◌≡◌, ℕ, ◌+◌, ◌-◌, ◌<◌, ◌≤◌, Bool, true, false, List, [], ◌∷◌, ◌++◌, length, take, replicate, Some, None, refl, sym, ap, ◌∙◌, subst, arith, eqb-true, length-append}
use Rattle.std.specs.Prelude.{◌&&◌, ◌==◌, nat_eq}
use Rattle.std.specs.Cmp.{IsEquivalence, nat_eq_equiv}
use Rattle.std.specs.Cmp.Lexicographic.{pointwise}
use Rattle.std.proofs.lemmas.Bool.{false≢true}
use Rattle.std.proofs.lemmas.List.{length-replicate, take-append-le, take_all}
use Rattle.lru_index.specs.Keys.{same_name}
use Rattle.lru_index.specs.NameKeys.{name_key}
use Rattle.lru_index.specs.declared.keys.NameKey.{NameKey}
use Rattle.name_cache.specs.Names.{same_key, IsNameKey}

self_equal : (xs : List ℕ) → pointwise (λ x y. x == y) xs xs ≡ true
self_equal [] = refl
self_equal (x ∷ xs) = ap (λ b. b && pointwise (λ x y. x == y) xs xs) (nat_eq_equiv.refl x) ∙ self_equal xs

pub key_itself : (k : NameKey) → same_key k k ≡ true
key_itself k = ap (λ b. b && ((k.len == k.len) && pointwise (λ x y. x == y) k.name k.name)) (nat_eq_equiv.refl k.dir) ∙ ap (λ b. b && pointwise (λ x y. x == y) k.name k.name) (nat_eq_equiv.refl k.len) ∙ self_equal k.name

pub same_key_laws : IsEquivalence same_key
same_key_laws = record {
  refl = key_itself;
  symm = λ x y. by_case x y (same_key x y) refl;
  congr = λ x y z e. ap (λ k. same_key k z) (same_name x y e);
}
  where
    other : (x y : NameKey) → same_key x y ≡ false → (b : Bool) → same_key y x ≡ b → false ≡ same_key y x
    other x y apart true same = absurd (false≢true (sym apart ∙ ap (same_key x) (same_name y x same) ∙ key_itself x))
    other x y apart false differs = sym differs

    by_case : (x y : NameKey) (b : Bool) → same_key x y ≡ b → same_key x y ≡ same_key y x
    by_case x y true same = ap (λ k. same_key k y) (same_name x y same) ∙ ap (same_key y) (sym (same_name x y same))
    by_case x y false apart = apart ∙ other x y apart (same_key y x) refl

-- the bytes before the zeros are the name
pub name_read : (name : List ℕ) → take (length name) (name ++ replicate (27 - length name) 0) ≡ name
name_read name = take-append-le (length name) name (replicate (27 - length name) 0) (omega arith) ∙ take_all (length name) name (omega arith)

-- the key that is made of a name is one
pub made_is_key : (dir : ℕ) (name : List ℕ) → IsNameKey (name_key dir name)
made_is_key dir name = ap (name_key dir) (name_read name)
