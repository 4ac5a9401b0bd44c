use Rattle.std.proofs.Common.{◌≡◌, ◌≤◌, ap, sym, ◌∙◌, subst, w64}
use Rattle.std.proofs.lemmas.Int.{to_z-of_z}
use Rattle.kabi_types.specs.Arguments.{count_of, last_place}
use Rattle.kabi_types.specs.Ranges.{greatest}
use Rattle.lock_calls.proofs.Operands.{right_places}
use Rattle.lock_calls.proofs.requests.range_of.Goals as goal

pub returns-clause-asked : goal.returns-clause-asked
returns-clause-asked c =
    let places = right_places c.requires.0 c.args.kind c.args.start c.args.length c.requires.1 in
    let start : c.count_of-start.result ≡ count_of c.args.start = subst (λ z. c.count_of-start.result ≡ count_of z) (to_z-of_z w64 c.args.start c.ranges.start) c.count_of-start.ensures.same in
    let length : c.count_of-2.result ≡ count_of c.args.length = subst (λ z. c.count_of-2.result ≡ count_of z) (to_z-of_z w64 c.args.length c.ranges.length) c.count_of-2.ensures.same in
    let last : c.last_place-last.result ≡ last_place (count_of c.args.start) (count_of c.args.length) =
    c.last_place-last.ensures ∙ ap (λ n. last_place n c.count_of-2.result) start ∙ ap (last_place (count_of c.args.start)) length in
    record {
      kind = c.kind_of-kind.ensures.most;
      order = subst (λ n. n ≤ c.last_place-last.result) (sym start) (subst (λ n. count_of c.args.start ≤ n) (sym last) places.0);
      places = subst (λ n. n ≤ greatest) (sym last) places.1;
    }
