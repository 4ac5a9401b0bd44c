use Rattle.std.proofs.Common.{ℕ, ◌==◌, IsSome, List, ap, sym, ◌∙◌, subst}
use Rattle.std.proofs.lemmas.Nat.Bits.{shr_and_one}
use Rattle.proc_table.specs.Table.{key_of}
use Rattle.proc_table.specs.declared.places.Place.{Place}
use Rattle.lock_calls.specs.Waiting.{pid_at}
use Rattle.lock_calls.proofs.waits.Waits.circle.Goals as goal

pub place_of-requires-clause-there : goal.place_of-requires-clause-there
place_of-requires-clause-there c = subst (λ (places : List Place). IsSome (key_of places c.args.pid)) (sym c.listed.ensures.places) c.requires

pub returns : goal.returns
returns c = λ script world are stands sound.
    ap (λ (bit : ℕ). bit == 1) (shr_and_one c.args.self.now.circling c.place_of.result)
    ∙ are world stands sound c.place_of.result c.args.pid (ap (λ (places : List Place). pid_at places c.place_of.result) (sym c.listed.ensures.places) ∙ c.place_of.ensures.place)
