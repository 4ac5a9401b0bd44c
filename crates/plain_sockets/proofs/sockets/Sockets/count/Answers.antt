use Rattle.std.proofs.Common.{◌≡◌, ◌≤◌, length, ap, ◌∙◌, arith}
use Rattle.std.specs.Prelude.{is_some}
use Rattle.std.specs.List.{count_by}
use Rattle.std.specs.Option.{option_map}
use Rattle.std.proofs.lemmas.List.{length-map}
use Rattle.std.proofs.lemmas.List.Sums.{count_by-le-length}
use Rattle.plain_bytes.proofs.PlaceLemmas.{count_there}
use Rattle.plain_sockets.specs.Held.{socket_of, sockets_in}
use Rattle.plain_sockets.proofs.sockets.Sockets.count.Goals as goal

pub overflow_cast-result : goal.overflow_cast-result
overflow_cast-result c =
    let there : length c.there.result.now ≡ count_by is_some (sockets_in c.self.inside.places) = ap length c.there.ensures ∙ count_there socket_of 0 c.self.inside.places in
    let most : count_by is_some (sockets_in c.self.inside.places) ≤ length (sockets_in c.self.inside.places) = count_by-le-length is_some (sockets_in c.self.inside.places) in
    record { fits = omega (arith, there, most, length-map c.self.inside.places (option_map socket_of), c.self.invariant.few) }

pub returns : goal.returns
returns c = rw (← c.self.view_is) (ap length c.there.ensures ∙ count_there socket_of 0 c.self.inside.places)
