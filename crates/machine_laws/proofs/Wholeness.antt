-- Every machine that is reached is whole.
use Rattle.std.proofs.Common.{◌≡◌, ◌≢◌, ℕ, ◌%◌, true, Some, refl, ap, sym, ◌∙◌, subst}
use Rattle.std.specs.Option.{option_and_then}
use Rattle.kabi_types.specs.declared.scripts.Script.{Script}
use Rattle.posix_defs.specs.Pipe.{Pipe, fifo_of}
use Rattle.posix_defs.specs.Plain.{Plain, call_of}
use Rattle.posix_defs.specs.Tree.{is_directory}
use Rattle.posix_defs.specs.Files.Descriptions.{Target, OnNode, OnPipe, OnSocket, Description, description_at}
use Rattle.posix_defs.specs.Files.State.{pipe_there}
use Rattle.posix_defs.specs.Files.Whole.{AreFifos, AreNamed, AreSockets, IsTarget, IsWhole}
use Rattle.machine_laws.specs.Described.{AreDescribed}
use Rattle.machine_laws.specs.Placed.{IsPlaced}
use Rattle.machine_laws.specs.Reached.{IsReached}
use Rattle.machine_laws.proofs.Reaches.{reached_keeps}
use Rattle.machine_laws.specs.Bytes.{HasBytes}
use Rattle.machine_laws.specs.Joined.{AreJoined}
use Rattle.machine_laws.specs.Piped.{ArePiped, IsEnd}
use Rattle.machine_laws.specs.Texts.{HasTexts}
use Rattle.machine_laws.proofs.FifoPlaces.{fifo_in, fifo_node}
use Rattle.machine_laws.proofs.Halving.{reached_half, stands_half, stands_open}
use Rattle.machine_laws.proofs.Joining.{reached_joined}
use Rattle.machine_laws.proofs.Keeping.{Whole, reached_whole}
use Rattle.machine_laws.proofs.LockedFiles.{are_locks}
use Rattle.machine_laws.proofs.Named.{on_named}
use Rattle.machine_laws.proofs.Openers.{by_opener}
use Rattle.machine_laws.proofs.Piping.{reached_piped}
use Rattle.machine_laws.proofs.Rooting.{Rooted}

module _ (script : Script) (plain : Plain) (texts : HasTexts script) (reached : IsReached script plain) where
  whole : Whole plain
  whole = reached_whole script texts plain reached

  rooted : Rooted plain.files.descriptions plain.files.tree plain.files.sockets plain.files.pipes
  rooted = whole.rooted

  piped : ArePiped plain.files.descriptions plain.files.pipes
  piped = reached_piped script plain reached

  joined : AreJoined plain.files.descriptions plain.files.sockets
  joined = reached_joined script plain reached

  placed : IsPlaced plain
  placed = (reached_keeps reached).0

  described : AreDescribed plain.files
  described = (reached_keeps reached).1

  target_is : (place : ℕ) (description : Description) → description_at plain.files.descriptions place ≡ Some description → (target : Target) → description.target ≡ target
      → IsTarget plain.files description.access target
  target_is place description is (OnNode number) on = let opened = rooted.nodes place number description is on in (opened.used, opened.socket, opened.fifo, opened.directory)
  target_is place description is (OnPipe other) on = subst (IsEnd plain.files.pipes description.access) on (piped.ends place description is)
  target_is place description is (OnSocket other) on = let held = joined.held in
      (held.there other (on_named plain.files.descriptions place description other is on), joined.both_ways place other description is on)

  named : AreNamed plain.files
  named = record { named = described.named; there = described.there; targets = λ place description is. target_is place description is description.target refl }

  sockets : AreSockets plain.files
  sockets = record {
    linked = joined.linked;
    held = joined.held;
    once = joined.once;
    bound = λ place number is. let well = rooted.wells place in well.bound number is;
    alone = λ place other number here there. let alone = rooted.alone in alone.one_socket place other number here there;
  }

  -- a pipe with a node is that of a FIFO in use, and of no other's
  pub fifos : AreFifos plain.files
  fifos = record {
    nodes = λ place pipe is some. rooted.fifos place pipe.node (of_place place pipe is some);
    alone = λ place other pipe second is is_too some same. rooted.sole place other pipe.node (of_place place pipe is some)
        (ap (option_and_then fifo_of) is_too ∙ fifo_node second pipe.node (sym same) some);
  }
    where
      of_place : (place : ℕ) (pipe : Pipe) → pipe_there plain.files place ≡ Some pipe → pipe.node ≢ 0 → fifo_in plain.files.pipes place ≡ Some pipe.node
      of_place place pipe is some = ap (option_and_then fifo_of) is ∙ fifo_node pipe pipe.node refl some

  pub is_whole : IsWhole script plain
  is_whole = record {
    places = placed.places;
    named = named;
    pipes = λ place pipe is. let counted = piped.counted place pipe is in record {
      readers = counted.readers;
      writers = counted.writers;
      some_end = piped.some_end place pipe is;
      room = counted.room;
      bytes = whole.pipes place pipe is;
      unread = counted.unread;
    };
    sockets = sockets;
    tree = rooted.tree_is;
    unlinked = λ number used none. by_opener plain.files number (rooted.unlinked number used none);
    directories = whole.directories;
    fifos = fifos;
    locks = are_locks script texts plain reached;
    openings = λ pid opening alive some opens waits. stands_open script plain pid opening opens waits (reached_half script plain reached pid alive some);
    half_done = λ pid alive some. stands_half plain.files pid (call_of script plain pid) (reached_half script plain reached pid alive some);
  }

  pub has_bytes : HasBytes plain
  has_bytes = record { memory = whole.memory; pipes = whole.pipes; sockets = λ place. let well = rooted.wells place in well.bytes }

pub stands_between : (script : Script) (plain : Plain) → HasTexts script → IsReached script plain → (place number : ℕ) (description : Description)
    → description_at plain.files.descriptions place ≡ Some description → description.target ≡ OnNode number → is_directory plain.files.tree number ≡ true → description.offset % 32 ≡ 0
stands_between script plain texts is_reached place number description there on dir =
    let opened = (rooted script plain texts is_reached).nodes place number description there on in opened.between dir
