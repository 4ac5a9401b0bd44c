-- A range without bytes is the same wherever it begins.
use Rattle.std.proofs.Common.{◌≡◌, ℕ, zero, suc, ◌<◌, List, [], ◌∷◌, length, refl, ap, arith}
use Rattle.posix_defs.specs.Memory.{Frames, Memory, after_put, is_mapped_range, loaded, stored}
use Rattle.posix_defs.specs.Needs.{pages_touched}

-- what no range without bytes tells apart is the same where the start of all others is the same
starts_alike : {X : Type 0} (f : ℕ → ℕ → X) → ((a b : ℕ) → f a 0 ≡ f b 0) → (start at n : ℕ) → (0 < n → start ≡ at) → f start n ≡ f at n
starts_alike f none start at zero is = none start at
starts_alike f none start at (suc n) is = ap (λ a. f a (suc n)) (is (omega arith))

pub mapped_at : (memory : Memory) (start at n : ℕ) → (0 < n → start ≡ at) → is_mapped_range memory start n ≡ is_mapped_range memory at n
mapped_at memory start at n is = starts_alike (is_mapped_range memory) (λ a b. refl) start at n is

pub touched_at : (start at n : ℕ) → (0 < n → start ≡ at) → pages_touched start n ≡ pages_touched at n
touched_at start at n is = starts_alike pages_touched (λ a b. refl) start at n is

pub loaded_at : (memory : Memory) (start at n : ℕ) → (0 < n → start ≡ at) → loaded memory start n ≡ loaded memory at n
loaded_at memory start at n is = starts_alike (loaded memory) (λ a b. refl) start at n is

pub put_at : (frames : Frames) (pid start at n : ℕ) → (0 < n → start ≡ at) → after_put frames pid start n ≡ after_put frames pid at n
put_at frames pid start at n is = starts_alike (after_put frames pid) (λ a b. refl) start at n is

pub stored_at : (memory : Memory) (start at : ℕ) (bytes : List ℕ) → (0 < length bytes → start ≡ at) → stored memory start bytes ≡ stored memory at bytes
stored_at memory start at [] is = refl
stored_at memory start at (byte ∷ bytes) is = ap (λ a. stored memory a (byte ∷ bytes)) (is (omega arith))
