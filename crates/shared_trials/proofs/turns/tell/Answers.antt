use Rattle.std.proofs.Common.{rules, ◌≡◌, ℕ, List, [], ◌∷◌, ◌++◌, map, sym, ap, ◌∙◌}
use Rattle.turn_words.specs.declared.items.Item.TheVariants.{Live}
use Rattle.shared_trials.proofs.Diaries.{nothing_told, one_told}
use Rattle.turn_words.proofs.Notes.{may_put}
use Rattle.shared_trials.proofs.turns.tell.Goals as goal

pub put-requires-clause-stands : goal.put-requires-clause-stands
put-requires-clause-stands c =
    let seen = c.take-diary.new.seat.known.seen in
    let told = c.take-diary.result.told.items in
    let after = c.push.new.self.items in
    let is : after ≡ told ++ c.args.number ∷ [] = search rules in
    may_put (λ (told : List ℕ) items. items ≡ map Live told) seen after (Live c.args.number) (one_told seen told after c.args.number c.take-diary.ensures.value is)

pub pass_on-requires-clause-more : goal.pass_on-requires-clause-more
pass_on-requires-clause-more c =
    let told = c.take-diary.result.told.items in
    let after = c.push.new.self.items in
    let is : after ≡ told ++ c.args.number ∷ [] = search rules in
    rw c.put.ensures.seat (one_told c.take-diary.new.seat.known.seen told after c.args.number c.take-diary.ensures.value is)

pub pass_on-requires-else-is_ok-clause-more : goal.pass_on-requires-else-is_ok-clause-more
pass_on-requires-else-is_ok-clause-more c =
    let told = c.take-diary.result.told.items in
    let after = c.push.new.self.items in
    let is : after ≡ told = search rules in
    rw c.put-else-is_ok.ensures.seat (nothing_told c.take-diary.new.seat.known.seen after (c.take-diary.ensures.value ∙ ap (λ l. map Live l) (sym is)))
