use Rattle.std.proofs.Common.{◌≡◌, ◌/◌, ◌%◌, ◌<◌, ◌+◌, ◌-◌, ℕ, List, Option, length, replicate, get_or, set, None, Some, refl, sym, ap, subst, arith}
use Rattle.std.proofs.lemmas.List.{length-replicate}
use Rattle.kabi_types.specs.declared.classes.Need.{Need}
use Rattle.kheap_slabs.specs.Objects.{count, object}
use Rattle.kheap_slabs.specs.Purse.{Purse}
use Rattle.kheap_slabs.specs.declared.objects.Node.{Node}
use Rattle.kheap_slabs.specs.declared.objects.PageEntry.{PageEntry}
use Rattle.kheap_slabs.specs.declared.objects.PageEntry.TheVariants as entry
use Rattle.kheap_slabs.specs.Spaces.{OwnsNodes}
use Rattle.page_space.specs.Entries.{PageTurns}
use Rattle.page_space.proofs.TurnLemmas.{turn-begin, mapped_set}
use Rattle.page_space.proofs.spaces.Space.begin_group.Goals as goal

pub returns-clause-turns : goal.returns-clause-turns
returns-clause-turns c =
    let nodes = c.args.heap.now.nodes in
    let inside : List (Option ℕ) = c.self.inside.nodes in
    let page = c.args.page in
    let key = c.insert_node.result in
    let now : List (Option ℕ) = set inside (page / 64) (Some key) in
    let empty : List PageEntry = replicate 64 entry.Unmapped in
    let node : Node = record { entries = set empty (page % 64) c.args.entry } in
    let within : page % 64 < length empty = omega (arith, length-replicate 64 entry.Unmapped) in
    let kept = ap (λ h. h.nodes) c.insert_node.ensures.kept in
    let turned : PageTurns nodes c.insert_node.new.self.nodes inside now page entry.Unmapped c.args.entry =
    subst (λ after. PageTurns nodes after inside now page entry.Unmapped c.args.entry) (sym kept)
    (turn-begin nodes inside page key node empty c.args.entry
    (subst (λ (s : List (Option ℕ)). OwnsNodes nodes s) (sym c.self.view_is) c.requires.owns)
    (omega (arith, c.self.invariant))
    (subst (λ (s : List (Option ℕ)). get_or s (page / 64) None ≡ None) (sym c.self.view_is) c.requires.absent)
    c.insert_node.ensures.vacant
    (subst (λ after. object after key ≡ Some node) kept c.insert_node.ensures.stored)
    within refl refl
    (mapped_set empty (page % 64) c.args.entry within c.requires.mapped)) in
    subst (λ (s : List (Option ℕ)). PageTurns nodes c.insert_node.new.self.nodes s now page entry.Unmapped c.args.entry) c.self.view_is turned

pub returns-clause-exact : goal.returns-clause-exact
returns-clause-exact c =
    let made : count c.insert_node.new.self.nodes ≡ count c.args.heap.now.nodes + 1 = ap (λ (n : Need). n.node) c.insert_node.ensures.makes.counts in
    let left : c.spend.new.self.left.node ≡ c.args.purse.now.left.node - 1 = ap (λ (p : Purse). p.left.node) c.spend.ensures.kept in
    let some : 0 < c.args.purse.now.left.node = c.requires.left in
    omega arith
