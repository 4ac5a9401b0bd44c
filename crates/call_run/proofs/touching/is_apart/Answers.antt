use Rattle.std.proofs.Common.{◌≡◌, ◌∙◌, Bool, None, Some, ap, false, not, of_z, refl, rules, sym, to_z, true, w64}
use Rattle.std.specs.Option.{option_map}
use Rattle.std.proofs.lemmas.Int.{to_z-of_z}
use Rattle.open_laws.specs.Described.{target_in}
use Rattle.posix_defs.specs.Plain.{call_of}
use Rattle.proc_numbers.specs.declared.lookups.Found.{Found}
use Rattle.prog_ctl.specs.declared.waits.Awaited.{Awaited}
use Rattle.waking_laws.specs.Waking.{awaited, target_at}
use Rattle.call_run.proofs.Meeting.{apart_entries, apart_number, awaited_for, none_open, target_found}
use Rattle.call_run.proofs.touching.is_apart.Goals as goal

pub returns-in_default : goal.returns-in_default
returns-in_default c = λ world stands alive yes.
    let script = c.args.script.now in
    let files = world.plain.files in
    let same = c.opened-moved.ensures.number ∙ to_z-of_z w64 c.args.fd c.ranges.fd in
    let target : target_at files c.args.pid c.args.fd ≡ None =
    ap (λ n. target_at files n c.args.fd) (sym c.place_there.ensures.pid)
    ∙ target_found c.args.objects.now.heap c.args.objects.now.procs c.place_there.result.pid c.opened-moved.result c.args.fd stands.files.numbers files c.opened-moved.ensures.opened same stands.files.opened
    ∙ ap (option_map (λ (it : Found). target_in stands.files.numbers it.desc.target)) c.in_default.is in
    ap not (none_open script world.plain c.args.who c.args.pid c.args.fd target (awaited (call_of script world.plain c.args.who)))

no_more : (b : Bool) → not b ≡ true → b ≡ false
no_more false e = refl
no_more true e = cc

pub returns-in-Some-Bytes : goal.returns-in-Some-Bytes
returns-in-Some-Bytes c = λ world stands alive yes.
    let script = c.args.script.now in
    let files = world.plain.files in
    let numbers = stands.files.numbers in
    let same = c.opened-moved.ensures.number ∙ to_z-of_z w64 c.args.fd c.ranges.fd in
    let target : target_at files c.args.pid c.args.fd ≡ Some (target_in numbers c.in-Some.found.desc.target) =
    ap (λ n. target_at files n c.args.fd) (sym c.place_there.ensures.pid)
    ∙ target_found c.args.objects.now.heap c.args.objects.now.procs c.place_there.result.pid c.opened-moved.result c.args.fd numbers files c.opened-moved.ensures.opened same stands.files.opened
    ∙ ap (option_map (λ (it : Found). target_in numbers it.desc.target)) c.in-Some.is in
    let fd : to_z w64 (of_z w64 c.in-Some-Bytes.fd) ≡ c.in-Some-Bytes.fd = search (rules, to_z-of_z) in
    apart_number script world.plain c.args.who c.args.pid c.args.fd (Some c.in-Some-Bytes.field-0) (target_in numbers c.in-Some.found.desc.target) c.place_there-at.result.pid
    (to_z w64 (of_z w64 c.in-Some-Bytes.fd)) c.in-Some-Bytes.fd (c.in-Some-Bytes.ensures world stands alive) (ap (λ (it : Awaited). awaited_for (Some it)) c.in-Some-Bytes.field-0-is) target
    c.place_there-at.ensures.pid fd (c.is_near.ensures numbers files stands.files.opened (no_more c.is_near.result yes))

pub returns-in-Some-Room : goal.returns-in-Some-Room
returns-in-Some-Room c = λ world stands alive yes.
    let script = c.args.script.now in
    let files = world.plain.files in
    let numbers = stands.files.numbers in
    let same = c.opened-moved.ensures.number ∙ to_z-of_z w64 c.args.fd c.ranges.fd in
    let target : target_at files c.args.pid c.args.fd ≡ Some (target_in numbers c.in-Some.found.desc.target) =
    ap (λ n. target_at files n c.args.fd) (sym c.place_there.ensures.pid)
    ∙ target_found c.args.objects.now.heap c.args.objects.now.procs c.place_there.result.pid c.opened-moved.result c.args.fd numbers files c.opened-moved.ensures.opened same stands.files.opened
    ∙ ap (option_map (λ (it : Found). target_in numbers it.desc.target)) c.in-Some.is in
    let fd : to_z w64 (of_z w64 c.in-Some-Room.fd) ≡ c.in-Some-Room.fd = search (rules, to_z-of_z) in
    apart_number script world.plain c.args.who c.args.pid c.args.fd (Some c.in-Some-Room.field-0) (target_in numbers c.in-Some.found.desc.target) c.place_there-at.result.pid
    (to_z w64 (of_z w64 c.in-Some-Room.fd)) c.in-Some-Room.fd (c.in-Some-Room.ensures world stands alive) (ap (λ (it : Awaited). awaited_for (Some it)) c.in-Some-Room.field-0-is) target
    c.place_there-at.ensures.pid fd (c.is_near-in-Some-Room.ensures numbers files stands.files.opened (no_more c.is_near-in-Some-Room.result yes))

pub returns-in-Some-Peer : goal.returns-in-Some-Peer
returns-in-Some-Peer c = λ world stands alive yes.
    let script = c.args.script.now in
    let files = world.plain.files in
    let numbers = stands.files.numbers in
    let same = c.opened-moved.ensures.number ∙ to_z-of_z w64 c.args.fd c.ranges.fd in
    let target : target_at files c.args.pid c.args.fd ≡ Some (target_in numbers c.in-Some.found.desc.target) =
    ap (λ n. target_at files n c.args.fd) (sym c.place_there.ensures.pid)
    ∙ target_found c.args.objects.now.heap c.args.objects.now.procs c.place_there.result.pid c.opened-moved.result c.args.fd numbers files c.opened-moved.ensures.opened same stands.files.opened
    ∙ ap (option_map (λ (it : Found). target_in numbers it.desc.target)) c.in-Some.is in
    let fd : to_z w64 (of_z w64 c.in-Some-Peer.fd) ≡ c.in-Some-Peer.fd = search (rules, to_z-of_z) in
    apart_number script world.plain c.args.who c.args.pid c.args.fd (Some c.in-Some-Peer.field-0) (target_in numbers c.in-Some.found.desc.target) c.place_there-at.result.pid
    (to_z w64 (of_z w64 c.in-Some-Peer.fd)) c.in-Some-Peer.fd (c.in-Some-Peer.ensures world stands alive) (ap (λ (it : Awaited). awaited_for (Some it)) c.in-Some-Peer.field-0-is) target
    c.place_there-at.ensures.pid fd (c.is_near-in-Some-Peer.ensures numbers files stands.files.opened (no_more c.is_near-in-Some-Peer.result yes))

pub returns-in-Some-Events : goal.returns-in-Some-Events
returns-in-Some-Events c = λ world stands alive yes.
    let script = c.args.script.now in
    let files = world.plain.files in
    let numbers = stands.files.numbers in
    let same = c.opened-moved.ensures.number ∙ to_z-of_z w64 c.args.fd c.ranges.fd in
    let target : target_at files c.args.pid c.args.fd ≡ Some (target_in numbers c.in-Some.found.desc.target) =
    ap (λ n. target_at files n c.args.fd) (sym c.place_there.ensures.pid)
    ∙ target_found c.args.objects.now.heap c.args.objects.now.procs c.place_there.result.pid c.opened-moved.result c.args.fd numbers files c.opened-moved.ensures.opened same stands.files.opened
    ∙ ap (option_map (λ (it : Found). target_in numbers it.desc.target)) c.in-Some.is in
    apart_entries script world.plain c.args.who c.args.pid c.args.fd (Some c.in-Some-Events.field-0) (target_in numbers c.in-Some.found.desc.target) c.place_there-at.result.pid
    c.items.result.now c.in-Some-Events.entries (c.in-Some-Events.ensures world stands alive) (ap (λ (it : Awaited). awaited_for (Some it)) c.in-Some-Events.field-0-is) target
    c.place_there-at.ensures.pid c.items.ensures.same (c.some_near.ensures numbers files stands.files.opened (no_more c.some_near.result yes))
