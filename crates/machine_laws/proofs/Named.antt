-- Which sockets descriptions name, after one of them has changed.
use Rattle.std.proofs.Common.{◌≡◌, ℕ, zero, suc, ◌<◌, List, [], ◌∷◌, ◌++◌, length, Option, None, Some, slice_index_or, refl, ap, sym, ◌∙◌, subst, ◌⊎◌, inl, inr, arith, Contains}
use Rattle.std.proofs.lemmas.Bool.Decides.{eqb_tells}
use Rattle.std.proofs.lemmas.List.{get_or-set_same, get_or-set_other}
use Rattle.std.proofs.lemmas.List.Elements.{Contains-append_right}
use Rattle.posix_defs.specs.SocketLinks.{NoneTwice}
use Rattle.posix_defs.specs.Files.Descriptions.{Target, OnNode, OnPipe, OnSocket, ReadWrite, Description, Descriptions, description_at, with_description}
use Rattle.posix_defs.specs.Files.State.{beside}
use Rattle.posix_defs.specs.Files.Whole.{named_sockets, socket_in, socket_of}
use Rattle.machine_laws.proofs.Places.{not_some, some_same, there_within}
use Rattle.machine_laws.proofs.Items.{changed_is, pushed_front, pushed_is}

-- a description names the socket
pub record On (descriptions : Descriptions) (socket : ℕ) : Type 0 where
  pub place : ℕ
  pub description : Description
  pub is : description_at descriptions place ≡ Some description
  pub on : description.target ≡ OnSocket socket

behind : (o : Option ℕ) (rest : List ℕ) (x : ℕ) → Contains rest x → Contains (beside o rest) x
behind None rest x here = here
behind (Some y) rest x here = Contains-append_right (y ∷ []) rest x here

pub on_named : (descriptions : Descriptions) (place : ℕ) (description : Description) (socket : ℕ) → description_at descriptions place ≡ Some description → description.target ≡ OnSocket socket
    → Contains (named_sockets descriptions) socket
on_named [] place description socket is on = absurd (not_some refl is)
on_named (first ∷ rest) zero description socket is on =
    subst (λ o. Contains (beside o (named_sockets rest)) socket) (sym (ap socket_in is ∙ ap socket_of on)) (0, omega arith, refl)
on_named (first ∷ rest) (suc place) description socket is on = behind (socket_in first) (named_sockets rest) socket (on_named rest place description socket is on)

further : (first : Option Description) (rest : Descriptions) (socket : ℕ) → On rest socket → On (first ∷ rest) socket
further first rest socket named = record { place = suc named.place; description = named.description; is = named.is; on = named.on }

pub named_on : (descriptions : Descriptions) (socket : ℕ) → Contains (named_sockets descriptions) socket → On descriptions socket
named_on [] socket here = absurd (omega (arith, here.1))
named_on (None ∷ rest) socket here = further None rest socket (named_on rest socket here)
named_on (Some description ∷ rest) socket here = go (λ later. named_on rest socket later) description.target refl here
  where
    first : (Contains (named_sockets rest) socket → On rest socket) → (number : ℕ) → description.target ≡ OnSocket number
        → (k : ℕ) → k < length (number ∷ named_sockets rest) → slice_index_or (number ∷ named_sockets rest) k socket ≡ socket → On (Some description ∷ rest) socket
    first later number on zero h e = record { place = 0; description = description; is = refl; on = on ∙ ap OnSocket e }
    first later number on (suc k) h e = further (Some description) rest socket (later (k, omega arith, e))

    go : (Contains (named_sockets rest) socket → On rest socket) → (target : Target) → description.target ≡ target → Contains (beside (socket_of target) (named_sockets rest)) socket
        → On (Some description ∷ rest) socket
    go later (OnNode number) on named = further (Some description) rest socket (later named)
    go later (OnPipe number) on named = further (Some description) rest socket (later named)
    go later (OnSocket number) on named = first later number on named.0 named.1 named.2

-- no two descriptions name one socket, and each reads and writes
pub record AreOwn (descriptions : Descriptions) : Type 0 where
  pub own : (one other socket : ℕ) (this that : Description) → description_at descriptions one ≡ Some this → description_at descriptions other ≡ Some that
      → this.target ≡ OnSocket socket → that.target ≡ OnSocket socket → one ≡ other
  pub both_ways : (place socket : ℕ) (description : Description) → description_at descriptions place ≡ Some description → description.target ≡ OnSocket socket → description.access ≡ ReadWrite

behind_own : (first : Option Description) (rest : Descriptions) → AreOwn (first ∷ rest) → AreOwn rest
behind_own first rest owned = record {
  own = λ one other socket this that is_one is_other on_one on_other. (let e : suc one ≡ suc other = owned.own (suc one) (suc other) socket this that is_one is_other on_one on_other in omega arith);
  both_ways = λ place socket description is on. owned.both_ways (suc place) socket description is on;
}

pub none_twice : (descriptions : Descriptions) → AreOwn descriptions → NoneTwice (named_sockets descriptions)
none_twice [] owned = tt
none_twice (None ∷ rest) owned = none_twice rest (behind_own None rest owned)
none_twice (Some description ∷ rest) owned = go (none_twice rest (behind_own (Some description) rest owned)) description.target refl
  where
    go : NoneTwice (named_sockets rest) → (target : Target) → description.target ≡ target → NoneTwice (beside (socket_of target) (named_sockets rest))
    go later (OnNode number) on = later
    go later (OnPipe number) on = later
    go later (OnSocket number) on = (again, later)
      where
        again : Contains (named_sockets rest) number → ⊥
        again here = let named = named_on rest number here in
            let e : 0 ≡ suc named.place = owned.own 0 (suc named.place) number description named.description refl named.is on named.on in absurd (omega arith)

-- ---- one becomes another, which is open on the same, for the same

-- what was there before, at a place of the new ones
record Before (descriptions : Descriptions) (place : ℕ) (now : Description) : Type 0 where
  was : Description
  is : description_at descriptions place ≡ Some was
  target : now.target ≡ was.target
  access : now.access ≡ was.access

module _ (descriptions : Descriptions) (place : ℕ) (was now : Description) (there : description_at descriptions place ≡ Some was) (target : now.target ≡ was.target) (access : now.access ≡ was.access) where
  before : (other : ℕ) (description : Description) → description_at (with_description descriptions place (Some now)) other ≡ Some description → Before descriptions other description
  before other description is = elim (changed_is descriptions place (Some now) other description is) [
    | inl old ↦ record { was = description; is = old.1; target = refl; access = refl }
    | inr new ↦ let same : now ≡ description = some_same (Some now) now description refl new.1 in record {
      was = was;
      is = ap (description_at descriptions) new.0 ∙ there;
      target = ap (λ d. d.target) (sym same) ∙ target;
      access = ap (λ d. d.access) (sym same) ∙ access;
    }
  ]

  pub described_own : AreOwn descriptions → AreOwn (with_description descriptions place (Some now))
  described_own owned = record {
    own = λ one other socket this that is_one is_other on_one on_other. let first = before one this is_one in let second = before other that is_other in
        owned.own one other socket first.was second.was first.is second.is (sym first.target ∙ on_one) (sym second.target ∙ on_other);
    both_ways = λ at socket description is on. let first = before at description is in first.access ∙ owned.both_ways at socket first.was first.is (sym first.target ∙ on);
  }

  pub described_from : (socket : ℕ) → Contains (named_sockets (with_description descriptions place (Some now))) socket → Contains (named_sockets descriptions) socket
  described_from socket here = let named = named_on (with_description descriptions place (Some now)) socket here in let first = before named.place named.description named.is in
      on_named descriptions named.place first.was socket first.is (sym first.target ∙ named.on)

  pub described_to : (socket : ℕ) → Contains (named_sockets descriptions) socket → Contains (named_sockets (with_description descriptions place (Some now))) socket
  described_to socket here = go (named_on descriptions socket here)
    where
      go : On descriptions socket → Contains (named_sockets (with_description descriptions place (Some now))) socket
      go named = elim (eqb_tells named.place place) [
        | inl alike ↦ on_named (with_description descriptions place (Some now)) place now socket (get_or-set_same descriptions place (Some now) None (there_within descriptions place was there))
            (target ∙ ap (λ d. d.target) (some_same (description_at descriptions place) was named.description there (ap (description_at descriptions) (sym alike.1) ∙ named.is)) ∙ named.on)
        | inr apart ↦ on_named (with_description descriptions place (Some now)) named.place named.description socket (get_or-set_other descriptions place named.place (Some now) None apart.1 ∙ named.is) named.on
      ]

-- ---- one more is there

module _ (descriptions : Descriptions) (new : Description) where
  pub pushed_from : (socket : ℕ) → Contains (named_sockets (descriptions ++ Some new ∷ [])) socket → Contains (named_sockets descriptions) socket ⊎ (new.target ≡ OnSocket socket)
  pushed_from socket here = go (named_on (descriptions ++ Some new ∷ []) socket here)
    where
      go : On (descriptions ++ Some new ∷ []) socket → Contains (named_sockets descriptions) socket ⊎ (new.target ≡ OnSocket socket)
      go named = elim (pushed_is descriptions (Some new) named.place named.description named.is) [
        | inl old ↦ inl (on_named descriptions named.place named.description socket old named.on)
        | inr last ↦ inr (ap (λ d. d.target) (some_same (Some new) new named.description refl last.1) ∙ named.on)
      ]

  pub pushed_old : (socket : ℕ) → Contains (named_sockets descriptions) socket → Contains (named_sockets (descriptions ++ Some new ∷ [])) socket
  pushed_old socket here = let named = named_on descriptions socket here in
      on_named (descriptions ++ Some new ∷ []) named.place named.description socket (pushed_front descriptions (Some new) named.place named.description named.is) named.on

  pub pushed_new : (socket : ℕ) → new.target ≡ OnSocket socket → Contains (named_sockets (descriptions ++ Some new ∷ [])) socket
  pushed_new socket on = on_named (descriptions ++ Some new ∷ []) (length descriptions) new socket (last_is descriptions) on
    where
      last_is : (xs : Descriptions) → description_at (xs ++ Some new ∷ []) (length xs) ≡ Some new
      last_is [] = refl
      last_is (x ∷ xs) = last_is xs

  pub pushed_own : AreOwn descriptions → ((socket : ℕ) → new.target ≡ OnSocket socket → (Contains (named_sockets descriptions) socket → ⊥) × (new.access ≡ ReadWrite)) → AreOwn (descriptions ++ Some new ∷ [])
  pushed_own owned fresh = record { own = own; both_ways = both_ways }
    where
      own : (one other socket : ℕ) (this that : Description) → description_at (descriptions ++ Some new ∷ []) one ≡ Some this → description_at (descriptions ++ Some new ∷ []) other ≡ Some that
          → this.target ≡ OnSocket socket → that.target ≡ OnSocket socket → one ≡ other
      own one other socket this that is_one is_other on_one on_other = elim (pushed_is descriptions (Some new) one this is_one) [
        | inl old ↦ elim (pushed_is descriptions (Some new) other that is_other) [
          | inl old_too ↦ owned.own one other socket this that old old_too on_one on_other
          | inr last ↦ absurd (let mine = fresh socket (ap (λ d. d.target) (some_same (Some new) new that refl last.1) ∙ on_other) in mine.0 (on_named descriptions one this socket old on_one))
        ]
        | inr last ↦ elim (pushed_is descriptions (Some new) other that is_other) [
          | inl old ↦ absurd (let mine = fresh socket (ap (λ d. d.target) (some_same (Some new) new this refl last.1) ∙ on_one) in mine.0 (on_named descriptions other that socket old on_other))
          | inr last_too ↦ last.0 ∙ sym last_too.0
        ]
      ]

      both_ways : (place socket : ℕ) (description : Description) → description_at (descriptions ++ Some new ∷ []) place ≡ Some description → description.target ≡ OnSocket socket → description.access ≡ ReadWrite
      both_ways place socket description is on = elim (pushed_is descriptions (Some new) place description is) [
        | inl old ↦ owned.both_ways place socket description old on
        | inr last ↦ let same : new ≡ description = some_same (Some new) new description refl last.1 in
            let mine = fresh socket (ap (λ d. d.target) same ∙ on) in ap (λ d. d.access) (sym same) ∙ mine.1
      ]

-- ---- one goes

module _ (descriptions : Descriptions) (place : ℕ) (was : Description) (there : description_at descriptions place ≡ Some was) where
  pub gone_own : AreOwn descriptions → AreOwn (with_description descriptions place None)
  gone_own owned = record {
    own = λ one other socket this that is_one is_other on_one on_other. owned.own one other socket this that (kept one this is_one) (kept other that is_other) on_one on_other;
    both_ways = λ at socket description is on. owned.both_ways at socket description (kept at description is) on;
  }
    where
      kept : (at : ℕ) (description : Description) → description_at (with_description descriptions place None) at ≡ Some description → description_at descriptions at ≡ Some description
      kept at description is = elim (changed_is descriptions place None at description is) [ inl old ↦ old.1 | inr new ↦ absurd (not_some refl new.1) ]

  pub gone_from : (socket : ℕ) → Contains (named_sockets (with_description descriptions place None)) socket → Contains (named_sockets descriptions) socket
  gone_from socket here = go (named_on (with_description descriptions place None) socket here)
    where
      go : On (with_description descriptions place None) socket → Contains (named_sockets descriptions) socket
      go named = elim (changed_is descriptions place None named.place named.description named.is) [
        | inl old ↦ on_named descriptions named.place named.description socket old.1 named.on
        | inr new ↦ absurd (not_some refl new.1)
      ]

  pub gone_to : (socket : ℕ) → Contains (named_sockets descriptions) socket → (was.target ≡ OnSocket socket) ⊎ Contains (named_sockets (with_description descriptions place None)) socket
  gone_to socket here = go (named_on descriptions socket here)
    where
      go : On descriptions socket → (was.target ≡ OnSocket socket) ⊎ Contains (named_sockets (with_description descriptions place None)) socket
      go named = elim (eqb_tells named.place place) [
        | inl alike ↦ inl (ap (λ d. d.target) (some_same (description_at descriptions place) was named.description there (ap (description_at descriptions) (sym alike.1) ∙ named.is)) ∙ named.on)
        | inr apart ↦ inr (on_named (with_description descriptions place None) named.place named.description socket (get_or-set_other descriptions place named.place None None apart.1 ∙ named.is) named.on)
      ]

  -- the socket of one that goes is named by nobody else
  pub gone_alone : AreOwn descriptions → (socket : ℕ) → was.target ≡ OnSocket socket → Contains (named_sockets (with_description descriptions place None)) socket → ⊥
  gone_alone owned socket on here = go (named_on (with_description descriptions place None) socket here)
    where
      go : On (with_description descriptions place None) socket → ⊥
      go named = elim (changed_is descriptions place None named.place named.description named.is) [
        | inl old ↦ old.0 (owned.own named.place place socket named.description was old.1 there named.on on)
        | inr new ↦ not_some refl new.1
      ]
