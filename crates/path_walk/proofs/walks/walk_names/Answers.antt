use Rattle.std.proofs.Common.{◌≡◌, ◌∷◌, ◌++◌, true, List, ℕ, Ok, sym, ap, subst, ◌∙◌}
use Rattle.std.specs.List.{list_any}
use Rattle.std.proofs.lemmas.Bool.{or_parts}
use Rattle.posix_defs.specs.Asking.{AskedInTurn}
use Rattle.kabi_types.specs.PathParts.{components, is_long}
use Rattle.posix_defs.specs.Paths.{leads, step}
use Rattle.posix_defs.specs.Queries.{Query, asks, component_asks}
use Rattle.tree_laws.proofs.TreeFacts.{step_to_directory}
use Rattle.path_walk.proofs.Steps.{asked_append, leads_on, asks_on}
use Rattle.path_walk.proofs.walks.walk_names.Goals as goal

pub loop-next-preserved : goal.loop-next-preserved
loop-next-preserved g c =
    let d = g.D.Dirs in
    let inv = c.loop-next.invariant in
    let parts : components c.loop-next.rest.now ≡ c.in-Some.next.now ∷ components c.in-Some.further.now = c.in-Some.ensures.some in
    record {
      at =
          let tree = inv.at.0 in
          let is = g.met.D.Dirs.stands_tree c.loop-next.d tree inv.at.1 in
          (tree, c.in-Ok.ensures.stands tree inv.at.1, step_to_directory tree c.loop-next.dir c.loop-next.name.now c.in-Ok.to is inv.at.2 (sym (c.in-Ok.ensures.value tree inv.at.1)));
      names = sym (ap (list_any is_long) parts) ∙ (or_parts (is_long c.loop-next.name.now) (list_any is_long (components c.loop-next.rest.now)) inv.names).1;
      stands = λ tree st. c.in-Ok.ensures.stands tree (inv.stands tree st);
      follows = g.met.D.Dirs.follows_trans c.args.d.now c.loop-next.d c.enter.new.d inv.follows c.in-Ok.ensures.follows;
      leads = λ tree st.
          let step_is : step tree c.loop-next.dir c.loop-next.name.now ≡ Ok c.in-Ok.to = sym (c.in-Ok.ensures.value tree (inv.stands tree st)) in
          sym (leads_on tree c.args.slash c.loop-next.dir c.in-Ok.to c.loop-next.name.now c.in-Some.next.now (components c.in-Some.further.now) step_is)
          ∙ sym (ap (λ (names : List (List ℕ)). leads tree c.args.slash c.loop-next.dir (c.loop-next.name.now ∷ names)) parts) ∙ inv.leads tree st;
      asked = λ tree st after rest.
          let step_is : step tree c.loop-next.dir c.loop-next.name.now ≡ Ok c.in-Ok.to = sym (c.in-Ok.ensures.value tree (inv.stands tree st)) in
          let behind : List Query = asks tree c.args.slash c.in-Ok.to (c.in-Some.next.now ∷ components c.in-Some.further.now) in
          let all : asks tree c.args.slash c.loop-next.dir (c.loop-next.name.now ∷ components c.loop-next.rest.now) ≡ component_asks tree c.loop-next.dir c.loop-next.name.now true ++ behind =
          ap (λ (names : List (List ℕ)). asks tree c.args.slash c.loop-next.dir (c.loop-next.name.now ∷ names)) parts
          ∙ asks_on tree c.args.slash c.loop-next.dir c.in-Ok.to c.loop-next.name.now c.in-Some.next.now (components c.in-Some.further.now) step_is in
          inv.asked tree st after (subst (λ (queries : List Query). AskedInTurn d.asked c.loop-next.d queries after) (sym all)
          (asked_append d.asked c.loop-next.d c.enter.new.d after (component_asks tree c.loop-next.dir c.loop-next.name.now true) behind (c.in-Ok.ensures.asked tree (inv.stands tree st)) rest));
    }
