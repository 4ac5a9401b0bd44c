use Rattle.std.proofs.Common.{◌≡◌, ◌+◌, ◌≤◌, true, subst, sym}
use Rattle.posix_defs.specs.Minding.{HasNamed}
use Rattle.posix_defs.specs.Needs.{bound}
use Rattle.posix_defs.specs.Plain.{call_of}
use Rattle.posix_defs.specs.Process.{is_alive}
use Rattle.posix_defs.specs.Sizes.{reserve}
use Rattle.posix_defs.specs.World.{live_of}
use Rattle.posix_defs.specs.Turn.{TurnsTo}
use Rattle.file_calls.specs.Bytes.{ReadsCached}
use Rattle.call_run.specs.Sleepers.{is_settled}
use Rattle.call_run.specs.Stores.{IsAtRest, IsStoreOf, Stands}
use Rattle.call_run.proofs.Stores.{same_call}
use Rattle.call_run.proofs.store.StoreTurner.turn.Goals as goal

pub turn-turned-requires-clause-may : goal.turn-turned-requires-clause-may
turn-turned-requires-clause-may g c =
    let may = c.requires.may in (
      may.0,
      subst (λ store. IsStoreOf store.script store.objects may.0) (sym c.self.view_is) may.1.objects,
      subst (λ store. is_alive may.0.plain.table c.args.pid ≡ true → c.args.call.now ≡ call_of store.script may.0.plain c.args.pid) (sym c.self.view_is) may.2,
      subst (λ store. live_of may.0 + bound c.args.call.now + reserve ≤ store.script.heap) (sym c.self.view_is) may.3,
    )

pub keep_in_mind-requires : goal.keep_in_mind-requires
keep_in_mind-requires g c =
    let may = c.requires.may in
    let before = subst (λ store. Stands store may.0) (sym c.self.view_is) may.1 in
    let own = subst (λ store. is_alive may.0.plain.table c.args.pid ≡ true → c.args.call.now ≡ call_of store.script may.0.plain c.args.pid) (sym c.self.view_is) may.2 in
    let turned = c.turn-turned.ensures.turned may.0 before.objects in (
      may.0,
      turned.0,
      record {
        reached = before.objects.reached;
        minded = before.told;
        own = own;
        turns = turned.2;
        stands = turned.1.stands;
        reaches = turned.1.reached;
      },
    )

pub returns-clause-turned : goal.returns-clause-turned
returns-clause-turned g c = λ world stands.
    let before = subst (λ store. Stands store world) (sym c.self.view_is) stands in
    let may = c.requires.may in
    let here = subst (λ store. Stands store may.0) (sym c.self.view_is) may.1 in
    let own = subst (λ store. is_alive may.0.plain.table c.args.pid ≡ true → c.args.call.now ≡ call_of store.script may.0.plain c.args.pid) (sym c.self.view_is) may.2 in
    let turned = c.turn-turned.ensures.turned world before.objects in
    let told = c.keep_in_mind.ensures.minded world turned.0 (record {
      reached = before.objects.reached;
      minded = before.told;
      own = λ alive. same_call c.self.inside.script c.self.inside.objects may.0 world c.args.pid c.args.call.now here.objects.stands before.objects.stands own alive;
      turns = turned.2;
      stands = turned.1.stands;
      reaches = turned.1.reached;
    }) in (
      turned.0,
      record { objects = turned.1; rests = c.turn-turned.ensures.rests; told = told },
      subst (λ store. TurnsTo store.script world c.args.pid c.args.call.now c.turn-turned.result turned.0) c.self.view_is turned.2,
    )

pub returns-clause-named : goal.returns-clause-named
returns-clause-named g c =
    subst (λ store. HasNamed (is_settled store.sleepers.told) (is_settled c.keep_in_mind.new.self.told) c.keep_in_mind.new.self.stirred) c.self.view_is
    c.keep_in_mind.ensures.named

pub returns-clause-since : goal.returns-clause-since
returns-clause-since g c = λ world stands. c.turn-turned.ensures.since world (subst (λ store. IsStoreOf store.script store.objects world) (sym c.self.view_is) stands.objects)

pub returns-clause-high : goal.returns-clause-high
returns-clause-high g c = λ world stands. c.turn-turned.ensures.high world (subst (λ store. IsStoreOf store.script store.objects world) (sym c.self.view_is) stands.objects)

pub turn-turned-requires-clause-rests : goal.turn-turned-requires-clause-rests
turn-turned-requires-clause-rests g c = let may = c.requires.may in subst (λ store. IsAtRest store.objects) (sym c.self.view_is) may.1.rests

pub returns-clause-beside : goal.returns-clause-beside
returns-clause-beside g c =
    subst (λ store. ReadsCached store.objects c.args.pid c.args.call.now c.turn-turned.result c.turn-turned.new.objects) c.self.view_is c.turn-turned.ensures.cached
