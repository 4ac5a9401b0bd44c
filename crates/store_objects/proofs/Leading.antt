-- The worlds that an answer of a call leads to.
use Rattle.std.proofs.Common.{◌≡◌, ℕ, List, Option, map, refl, ap, sym, ◌∙◌}
use Rattle.kabi_types.specs.declared.calls.Call.{Call}
use Rattle.kabi_types.specs.declared.replies.Reply.{Reply}
use Rattle.kabi_types.specs.declared.scripts.Script.{Script}
use Rattle.posix_defs.specs.Account.{Account, account_on, forget_dead, fronts_after, pipe_lengths, socket_lengths, unread_in_pipe, unread_in_socket}
use Rattle.posix_defs.specs.Answer.{Blocked, Ended, replied}
use Rattle.posix_defs.specs.Ending.{die}
use Rattle.posix_defs.specs.Memory.{Frames}
use Rattle.posix_defs.specs.Pipe.{Pipe}
use Rattle.posix_defs.specs.Plain.{Plain}
use Rattle.posix_defs.specs.Socket.{Socket}
use Rattle.posix_defs.specs.Turn.{touched}
use Rattle.posix_defs.specs.World.{World}
use Rattle.posix_defs.specs.declared.turner.Turned.{Turned}
use Rattle.posix_defs.specs.declared.turner.Turned.TheVariants as turned
use Rattle.store_objects.specs.declared.objects.Objects.{Objects}
use Rattle.store_objects.specs.Standing.{StandsFor, WorldAfter, answered_in, ended_in}
use Rattle.store_objects.proofs.Forgetting.{forgotten}

-- An account that the objects stand for stays as it is where the machine stays: it has forgotten the dead, and its fronts follow
-- from lengths.
pub settled_account : (script : Script) (objects : Objects) (world : World) → StandsFor script objects world → account_on world.plain world.plain world.account ≡ world.account
settled_account script objects world stands =
    let fronts = stands.files.settled in
    ap (λ (frames : Frames). record {
      frames = frames;
      pipes = fronts_after (pipe_lengths world.plain.files) (pipe_lengths world.plain.files) world.account.pipes;
      sockets = fronts_after (socket_lengths world.plain.files) (socket_lengths world.plain.files) world.account.sockets;
    }) (forgotten script objects world.plain world.account.frames stands.kept stands.processes stands.memory)
    ∙ ap (λ (pipes : List ℕ). record {
      frames = world.account.frames;
      pipes = pipes;
      sockets = fronts_after (socket_lengths world.plain.files) (socket_lengths world.plain.files) world.account.sockets;
    }) fronts.pipes
    ∙ ap (λ (sockets : List ℕ). record { frames = world.account.frames; pipes = world.account.pipes; sockets = sockets }) fronts.sockets

-- what the account becomes depends on the machine before by its pipes and sockets alone
going_from : List (Option Pipe) → List (Option Socket) → Plain → Account → Account
going_from pipes sockets new account = record {
  frames = forget_dead new account.frames;
  pipes = fronts_after (map unread_in_pipe pipes) (pipe_lengths new.files) account.pipes;
  sockets = fronts_after (map unread_in_socket sockets) (socket_lengths new.files) account.sockets;
}

-- a call that is over, in a world whose account is gone on to
pub led_done : (script : Script) (new : Objects) (world base : World) (pid : ℕ) (which : Call) (said : Reply) (told : Turned)
    → told ≡ turned.Done said → StandsFor script new (answered_in script base pid said)
    → base.account ≡ account_on world.plain base.plain (touched world.account pid which said) → base.kept ≡ world.kept → base.reads ≡ world.reads
    → WorldAfter script new world pid which (replied script base.plain pid said) told
led_done script new world base pid which said told tells stands account kept reads = record {
  next = answered_in script base pid said;
  stands = stands;
  tells = (tells, refl);
  account = account;
  kept = kept;
  reads = reads;
}

-- One that leaves all pipes and sockets: the objects stood for the world in which its caller is to go on, whose account has the frames that
-- the call leaves.
pub led_on : (script : Script) (mid new : Objects) (world base : World) (pid : ℕ) (which : Call) (said : Reply) (told : Turned)
    → StandsFor script mid base → told ≡ turned.Done said → StandsFor script new (answered_in script base pid said)
    → base.plain.files.pipes ≡ world.plain.files.pipes → base.plain.files.sockets ≡ world.plain.files.sockets
    → base.account ≡ touched world.account pid which said → base.kept ≡ world.kept → base.reads ≡ world.reads
    → WorldAfter script new world pid which (replied script base.plain pid said) told
unfolding going_from
led_on script mid new world base pid which said told between tells stands pipes sockets account kept reads =
    led_done script new world base pid which said told tells stands
    (sym (settled_account script mid base between)
    ∙ ap (λ (there : List (Option Pipe)). going_from there base.plain.files.sockets base.plain base.account) pipes
    ∙ ap (λ (there : List (Option Socket)). going_from world.plain.files.pipes there base.plain base.account) sockets
    ∙ ap (going_from world.plain.files.pipes world.plain.files.sockets base.plain) account)
    kept reads

-- a call that would block
pub led_blocked : (script : Script) (new : Objects) (world : World) (pid : ℕ) (which : Call) → StandsFor script new world
    → WorldAfter script new world pid which Blocked turned.Sleep
led_blocked script new world pid which stands = record { next = world; stands = stands; tells = (refl, refl); account = refl; kept = refl; reads = refl }

-- a call that ends its caller
pub led_ended : (script : Script) (new : Objects) (world : World) (pid : ℕ) (which : Call) (status : ℕ) (told : Turned)
    → told ≡ turned.Ended status → StandsFor script new (ended_in world pid status) → WorldAfter script new world pid which (Ended status (die world.plain pid status)) told
led_ended script new world pid which status told tells stands =
    record { next = ended_in world pid status; stands = stands; tells = (tells, refl); account = refl; kept = refl; reads = refl }
