use Rattle.std.proofs.Common.{◌≡◌, ◌∙◌, ap, sym}
use Rattle.std.specs.Prelude.{is_some, Option, None, true, false}
use Rattle.kheap_slabs.specs.declared.objects.Proc.{Proc}
use Rattle.proc_table.proofs.PlaceLemmas.{key_of-none}
use Rattle.store_objects.proofs.objects.Objects.key_there.Goals as goal

nobody : (o : Option Proc) → o ≡ None → is_some o ≡ true → ⊥
nobody o none some = (let e : true ≡ false = sym some ∙ ap is_some none in cc)

pub unreachable-requires : goal.unreachable-requires
unreachable-requires c =
    let none = key_of-none c.args.self.now.heap.procs c.args.self.now.procs.listed c.args.pid c.requires.stored (sym c.key_of.ensures ∙ c.in_default.is) in
    nobody _ none c.requires.there

pub returns : goal.returns
returns c = sym c.key_of.ensures ∙ c.in-Some.is
