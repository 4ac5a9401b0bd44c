-- The channels of which something is kept in mind.
use Rattle.std.proofs.Common.{◌≡◌, ◌≢◌, ◌==◌, ℕ, length, zero, suc, Bool, true, false, List, [], ◌∷◌, map, replicate, Option, None, Some, slice_get, slice_index_or, refl, ap, sym, ◌∙◌, subst, arith, eqb-true}
use Rattle.call_run.specs.declared.sleepers.Channel.{Channel}
use Rattle.call_run.specs.declared.sleepers.Sleeper.{Sleeper}
use Rattle.call_run.specs.Sleepers.{IsDoubted, channel_at, doubted}

-- where there are none, none is at a place
pub none_of_none : (n place : ℕ) → channel_at (replicate n None) place ≡ None
none_of_none zero place = refl
none_of_none (suc n) zero = refl
none_of_none (suc n) (suc place) = none_of_none n place

-- the channel of a place is doubted where all are
pub doubted_at : (channels : List (Option Channel)) (place : ℕ) → channel_at (map doubted channels) place ≡ doubted (channel_at channels place)
doubted_at [] place = refl
doubted_at (channel ∷ channels) zero = refl
doubted_at (channel ∷ channels) (suc place) = doubted_at channels place

-- the channel of a place is read there
pub channel_is : (channels : List (Option Channel)) (place : ℕ) → slice_index_or channels place None ≡ channel_at channels place
channel_is [] place = refl
channel_is (channel ∷ channels) zero = refl
channel_is (channel ∷ channels) (suc place) = channel_is channels place

-- what is told at a place is read there
pub told_true : (apart : List Bool) (place : ℕ) → slice_index_or apart place false ≡ true → slice_get apart place ≡ Some true
told_true [] place e = cc
told_true (one ∷ apart) zero e = ap Some e
told_true (one ∷ apart) (suc place) e = told_true apart place e

pub told_false : (apart : List Bool) (place : ℕ) → slice_index_or apart place false ≡ false → slice_get apart place ≡ Some true → ⊥
told_false [] place e f = cc
told_false (one ∷ apart) zero e f = cc
told_false (one ∷ apart) (suc place) e f = told_false apart place e f

-- one that is gone isn't told to have all apart from it
pub gone_doubted : (told : List Sleeper) (old new : Option Channel) → new ≡ None → IsDoubted told old new
gone_doubted told old new none = subst (IsDoubted told old) (sym none) tt

pub is_doubted : (told : List Sleeper) (old new : Option Channel) → told ≢ [] → new ≡ doubted old → IsDoubted told old new
is_doubted told old new some is = subst (IsDoubted told old) (sym is) (go old)
  where
    go : (was : Option Channel) → IsDoubted told was (doubted was)
    go None = tt
    go (Some channel) = (channel, refl, refl, some)

pub all_doubted : (told : List Sleeper) (old new : List (Option Channel)) → told ≢ [] → new ≡ map doubted old → (place : ℕ) → IsDoubted told (channel_at old place) (channel_at new place)
all_doubted told old new some is place =
    is_doubted told (channel_at old place) (channel_at new place) some (ap (λ channels. channel_at channels place) is ∙ doubted_at old place)

-- somebody is told of
pub some_told : (ts told : List Sleeper) (empty : Bool) → ts ≡ told → empty ≡ (length ts == 0) → empty ≡ false → told ≢ []
some_told ts told empty same is none e = both (is ∙ ap (λ list. length list == 0) (same ∙ e)) none
  where
    both : empty ≡ true → empty ≡ false → ⊥
    both f g = cc

pub none_told : (ts told : List Sleeper) (empty : Bool) → ts ≡ told → empty ≡ (length ts == 0) → empty ≡ true → told ≡ []
none_told ts told empty same is e = go told (ap (λ list. length list == 0) (sym same) ∙ sym is ∙ e)
  where
    go : (list : List Sleeper) → (length list == 0) ≡ true → list ≡ []
    go [] f = refl
    go (sleeper ∷ list) f = absurd (omega (arith, eqb-true (length (sleeper ∷ list)) 0 f))
