-- What an answer of an attempt to reserve says of the seat that made it.
use Rattle.std.specs.Prelude.{◌≡◌, ◌≢◌, ℕ, ◌+◌, ◌<◌, ◌≤◌}
use Rattle.charge_words.specs.declared.rule.ChargeView.{ChargeView}
use Rattle.charge_words.specs.declared.reserved.Reserved.{Reserved}
use Rattle.charge_words.specs.declared.reserved.Reserved.TheVariants.{Granted, Short, Raced}
use Rattle.charge_words.specs.Rule.{reserving, loaded, Tells}

-- From the heap, the bytes asked for and the view before to the view after.
-- Granted: one word was loaded that has room, and the seat holds so much more, reserved in one step.
-- Short: the one word that was loaded has no room. Raced: the word that was loaded has room, and the exchange found another.
-- With both no step has reserved.
abbrev pub Answers : ℕ → ℕ → ChargeView → Reserved → ChargeView → Type 0
Answers heap n v Granted w = (w ≡ reserving (loaded v w.last) n) × (w.last + n ≤ heap) × Tells v w.last
Answers heap n v (Short charged) w = (w ≡ loaded v charged) × (heap < charged + n) × Tells v charged
Answers heap n v (Raced word found) w = (w ≡ loaded (loaded v word) found) × (word + n ≤ heap) × (word ≢ found) × Tells v word × Tells v found
