-- Which held calls wait and which fit, as the searches among those that are held tell.
use Rattle.std.proofs.Common.{◌≡◌, ℕ, ◌+◌, ◌-◌, ◌<◌, ◌≤◌, ◌&&◌, ◌⊎◌, ⊎_elim, Bool, true, false, true≢false, List, None, Some, refl, ap, sym, ◌∙◌, subst, arith}
use Rattle.std.specs.Prelude.{nat_le}
use Rattle.std.proofs.lemmas.Bool.Decides.{leb_tells}
use Rattle.kabi_types.specs.declared.scripts.Script.{Script}
use Rattle.posix_defs.specs.History.{Past, is_among}
use Rattle.posix_defs.specs.Needs.{bound}
use Rattle.posix_defs.specs.Plain.{call_of}
use Rattle.posix_defs.specs.Process.{is_alive}
use Rattle.posix_defs.specs.Sizes.{room}
use Rattle.turn_words.specs.declared.items.Item.{Item}
use Rattle.turn_words.proofs.Held.{contrary}
use Rattle.kern_shared.specs.declared.held.Held.{Held}
use Rattle.kern_shared.specs.Lists.{lowest}
use Rattle.kern_shared.specs.Relieves.{IsAsked, IsFirst, IsFitting, Waits}
use Rattle.kern_shared.specs.Shares.{AreHeld, pids_of}
use Rattle.kern_shared.proofs.Lowest.{IsLowest, lowest_none, lowest_some}

both : (b c : Bool) → (b && c) ≡ true → (b ≡ true) × (c ≡ true)
both true c h = (refl, h)
both false c h = absurd (true≢false (sym h))

le_is : (n m : ℕ) → nat_le n m ≡ true → n ≤ m
le_is n m h = ⊎_elim (λ k. k.1) (λ k. contrary (nat_le n m) h k.0) (leb_tells n m)

is_le : (n m : ℕ) → n ≤ m → nat_le n m ≡ true
is_le n m le = ⊎_elim (λ k. k.0) (λ k. let more = k.1 in absurd (omega arith)) (leb_tells n m)

none_some : (q : ℕ) → None ≡ Some q → ⊥
none_some q h = cc

module _ (script : Script) (items : List Item) (past : Past) (held : List Held) (are : AreHeld script past.plain held items) where
  abbrev need : ℕ → ℕ
  need pid = bound (call_of script past.plain pid)

  asked_of : (pid : ℕ) → is_among pid (pids_of held) ≡ true → need pid ≤ room script.heap → IsAsked script items past pid
  asked_of pid among fits = record { given = sym (are.pids pid) ∙ among; fits_ever = fits }

  held_of : (pid : ℕ) → IsAsked script items past pid → is_among pid (pids_of held) ≡ true
  held_of pid asked = are.pids pid ∙ asked.given

  module _ (ever : ℕ) (ever_is : ever ≡ room script.heap) where
    abbrev waits : ℕ → Bool
    waits pid = nat_le (need pid) ever && is_alive past.plain.table pid

    waits_of : (pid : ℕ) → is_among pid (pids_of held) ≡ true → waits pid ≡ true → Waits script items past pid
    waits_of pid among passes =
        let parts = both (nat_le (need pid) ever) (is_alive past.plain.table pid) passes in
        (asked_of pid among (subst (λ n. need pid ≤ n) ever_is (le_is (need pid) ever parts.0)), parts.1)

    of_waits : (pid : ℕ) → Waits script items past pid → waits pid ≡ true
    of_waits pid w = ap (λ (b : Bool). b && is_alive past.plain.table pid) (is_le (need pid) ever (subst (λ n. need pid ≤ n) (sym ever_is) w.0.fits_ever)) ∙ w.1

    pub none_waits : lowest waits None (pids_of held) ≡ None → (pid : ℕ) → Waits script items past pid → ⊥
    none_waits none pid w = contrary (waits pid) (of_waits pid w) ((lowest_none waits None (pids_of held) none).1 pid (held_of pid w.0))

    pub first_waits : (pid : ℕ) → lowest waits None (pids_of held) ≡ Some pid → IsFirst script items past pid
    first_waits pid some = (
      ⊎_elim (λ (no : None ≡ Some pid). absurd (none_some pid no)) (λ (h : (is_among pid (pids_of held) ≡ true) × (waits pid ≡ true)). waits_of pid h.0 h.1) found.is,
      λ other less w. let more : pid ≤ other = found.least other (held_of other w.0) (of_waits other w) in absurd (omega (arith, less, more)),
    )
      where
        found : IsLowest waits None (pids_of held) pid
        found = lowest_some waits None (pids_of held) pid some

    module _ (word most : ℕ) (below : word ≤ script.heap) (least : (most ≤ ever) × (most ≤ script.heap - word)) (one : (most ≡ ever) ⊎ (most ≡ script.heap - word)) where
      abbrev fits : ℕ → Bool
      fits pid = nat_le (need pid) most

      fits_of : (pid : ℕ) → is_among pid (pids_of held) ≡ true → fits pid ≡ true → IsFitting script items past word pid
      fits_of pid among passes =
          let le : need pid ≤ most = le_is (need pid) most passes in
          let first : most ≤ ever = least.0 in
          let second : most ≤ script.heap - word = least.1 in
          (asked_of pid among (subst (λ n. need pid ≤ n) ever_is (omega (arith, le, first))), omega (arith, le, second, below))

      of_fits : (pid : ℕ) → IsFitting script items past word pid → fits pid ≡ true
      of_fits pid f = is_le (need pid) most (
          let first : need pid ≤ ever = subst (λ n. need pid ≤ n) (sym ever_is) f.0.fits_ever in
          let second : word + need pid ≤ script.heap = f.1 in
          ⊎_elim (λ (is : most ≡ ever). omega (arith, is, first)) (λ (is : most ≡ script.heap - word). omega (arith, is, second)) one)

      pub none_fits : lowest fits None (pids_of held) ≡ None → (pid : ℕ) → IsFitting script items past word pid → ⊥
      none_fits none pid f = contrary (fits pid) (of_fits pid f) ((lowest_none fits None (pids_of held) none).1 pid (held_of pid f.0))

      pub first_fits : (pid : ℕ) → lowest fits None (pids_of held) ≡ Some pid
          → IsFitting script items past word pid × ((other : ℕ) → other < pid → IsFitting script items past word other → ⊥)
      first_fits pid some = (
        ⊎_elim (λ (no : None ≡ Some pid). absurd (none_some pid no)) (λ (h : (is_among pid (pids_of held) ≡ true) × (fits pid ≡ true)). fits_of pid h.0 h.1) found.is,
        λ other less f. let more : pid ≤ other = found.least other (held_of other f.0) (of_fits other f) in absurd (omega (arith, less, more)),
      )
        where
          found : IsLowest fits None (pids_of held) pid
          found = lowest_some fits None (pids_of held) pid some
