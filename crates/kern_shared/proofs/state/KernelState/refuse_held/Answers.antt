use Rattle.std.proofs.Common.{◌∷◌, ◌++◌, [], ap, ◌∙◌, subst, arith}
use Rattle.kabi_types.specs.declared.entries.Entry.TheVariants as entry
use Rattle.kabi_types.specs.Call.{kind_of}
use Rattle.posix_defs.specs.Relief.{refused_in}
use Rattle.kern_shared.proofs.Picking.{lives_in_world}
use Rattle.kern_shared.proofs.Turned.{refuse_here, refused_now, room_for_entry}
use Rattle.kern_shared.proofs.state.KernelState.refuse_held.Goals as goal

pub refuse-requires : goal.refuse-requires
refuse-requires g c =
    let s = c.requires.may.2 in
    let may = refuse_here g.T.Turner.stands g.T.Turner.script g.T.Turner.beside _ _ _ _ _ s c.requires.may.1 c.requires.may.3 c.args.pid c.args.call.now c.requires.may.4 in
    (s.world, s.stands, lives_in_world g.T.Turner.stands g.T.Turner.script g.T.Turner.beside _ _ _ _ _ s c.args.pid may.alive)

pub sort_anew-requires-clause-awake : goal.sort_anew-requires-clause-awake
sort_anew-requires-clause-awake g c =
    let room = room_for_entry g.T.Turner.stands g.T.Turner.script g.T.Turner.beside _ _ _ _ _ c.requires.may.2 c.requires.may.4.below in
    omega (arith, room.1, c.args.self.now.awake.ok.0)

pub sort_anew-requires-clause-dozing : goal.sort_anew-requires-clause-dozing
sort_anew-requires-clause-dozing g c =
    let room = room_for_entry g.T.Turner.stands g.T.Turner.script g.T.Turner.beside _ _ _ _ _ c.requires.may.2 c.requires.may.4.below in
    omega (arith, room.2, c.args.self.now.dozing.ok.0)

pub returns-clause-stands : goal.returns-clause-stands
returns-clause-stands g c = λ items past s shared may.
    let alive = lives_in_world g.T.Turner.stands g.T.Turner.script g.T.Turner.beside _ _ _ _ items s c.args.pid (refuse_here g.T.Turner.stands g.T.Turner.script g.T.Turner.beside _ _ _ _ items s past shared c.args.pid c.args.call.now may).alive in
    let stands = subst (λ sc. g.T.Turner.stands c.refuse.new.self (refused_in sc s.world c.args.pid)) s.named (c.refuse.ensures.refused s.world s.stands alive) in
    refused_now g.T.Turner.stands g.T.Turner.script g.T.Turner.beside _ _ _ _ items s past shared c.args.pid c.args.call.now _ _ _ _ _ _ _ _ _ _ may
    (c.refuse.ensures.script ∙ s.named) stands (c.last_pid-before.ensures s.world s.stands)
    (c.sort_anew.ensures.awake _ stands) (c.sort_anew.ensures.dozing _ stands)
    (c.note.ensures.history ∙ ap (λ k. c.args.self.now.history.items ++ entry.Refused c.args.pid k c.bound.result ∷ []) c.kind.ensures
    ∙ ap (λ n. c.args.self.now.history.items ++ entry.Refused c.args.pid (kind_of c.args.call.now) n ∷ []) c.bound.ensures.value)
    c.note.ensures.held c.note.ensures.room.0 c.note.ensures.room.1 c.sort_anew.ensures.awake_room c.sort_anew.ensures.dozing_room
