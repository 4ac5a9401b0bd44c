-- What is kept of files where something is closed.
use Rattle.std.proofs.Common.{◌≡◌, ℕ, Bool, true, false, cond, Option, None, Some, is_some, slice_index_or, ◌==◌, refl, ap, sym, ◌∙◌, subst, inl, inr}
use Rattle.std.proofs.lemmas.Bool.Decides.{eqb_tells}
use Rattle.posix_defs.proofs.TreeNodes.{seen_same}
use Rattle.posix_defs.specs.Pipe.{after_close}
use Rattle.posix_defs.specs.Tree.{Tree, is_directory, is_directory_in, links_at, with_node}
use Rattle.posix_defs.specs.TreeChanges.{closed}
use Rattle.posix_defs.specs.Files.Descriptions.{Target, OnNode, OnPipe, OnSocket, Description, description_at, may_write, with_description}
use Rattle.posix_defs.specs.Files.State.{Files, node_of, opens, pipe_at, with_descriptions, with_pipe, with_tree}
use Rattle.posix_defs.specs.Files.Descriptors.{is_named}
use Rattle.posix_defs.specs.Files.Closing.{left_fifo, target_closed}
use Rattle.tree_laws.proofs.OtherNodes.{closed_nodes}
use Rattle.machine_laws.proofs.Closings.{IsClosedUnder, anybody, without}
use Rattle.machine_laws.proofs.Items.{true_false}
use Rattle.machine_laws.proofs.Joining.{Joined, closes, gone_joined}
use Rattle.machine_laws.proofs.Named.{on_named}
use Rattle.machine_laws.specs.Piped.{ArePiped, IsEnd}
use Rattle.machine_laws.proofs.FifoEnds.{fifo_held}
use Rattle.machine_laws.proofs.FifoPlaces.{fifo_in}
use Rattle.machine_laws.proofs.Openers.{Opener, by_opener, node_in, opens_by}
use Rattle.machine_laws.proofs.Piping.{end_gone_piped}
use Rattle.machine_laws.proofs.Piping.{closes as piped_closes}
use Rattle.machine_laws.proofs.Places.{not_some, some_same}
use Rattle.machine_laws.proofs.Rooting.{Rooted, closed_directories, closed_rooted, end_gone_rooted, fifo_closed_directories, fifo_closed_rooted, gone_rooted, sock_closed_rooted}
use Rattle.machine_laws.proofs.PipeBytes.{HasPipeBytes, closed_bytes, pipe_bytes, piped_bytes}

-- to close a node makes no directory
closed_makes_none : (tree : Tree) (number n : ℕ) → is_directory tree n ≡ false → is_directory (closed tree number) n ≡ false
closed_makes_none tree number n none = elim (eqb_tells n number) [
  | inr apart ↦ ap is_directory_in (closed_nodes tree number n apart.1) ∙ none
  | inl alike ↦ here (sym (sym (ap (is_directory tree) alike.1) ∙ none)) (links_at tree number == 0)
]
  where
    here : false ≡ is_directory tree number → (b : Bool) → is_directory (cond b (with_node tree number None) tree) n ≡ false
    here is true = seen_same is_directory_in tree number None is n ∙ none
    here is false = none

-- what is kept where something is closed; and no directory goes
pub record Kept (tree : Tree) (files : Files) : Type 0 where
  pub rooted : Rooted files.descriptions files.tree files.sockets files.pipes
  pub pipes : HasPipeBytes files.pipes
  pub joined : Joined files.descriptions files.sockets
  pub piped : ArePiped files.descriptions files.pipes
  pub directories : (n : ℕ) → is_directory tree n ≡ true → is_directory files.tree n ≡ true
  -- and none is made
  pub kinds : (n : ℕ) → is_directory tree n ≡ false → is_directory files.tree n ≡ false

-- an end of a pipe is closed, which may be a FIFO's
module _ (tree : Tree) (files : Files) (place : ℕ) (description : Description) (kept : Kept tree files) (is : description_at files.descriptions place ≡ Some description)
    (p : ℕ) (on : description.target ≡ OnPipe p) where
  ended : Files
  ended = with_pipe (with_descriptions files (with_description files.descriptions place None)) p (after_close (pipe_at files p) (may_write description.access))

  bytes : HasPipeBytes ended.pipes
  unfolding ended
  bytes = piped_bytes files.pipes p (after_close (pipe_at files p) (may_write description.access)) (closed_bytes (pipe_at files p) (may_write description.access) (pipe_bytes files.pipes p kept.pipes)) kept.pipes

  counts : ArePiped ended.descriptions ended.pipes
  unfolding ended
  counts = end_gone_piped files.descriptions files.pipes kept.piped place description p is on

  joins : Joined ended.descriptions ended.sockets
  unfolding ended
  joins = gone_joined files.descriptions files.sockets kept.joined place description is (λ socket e. no_pipe p socket (sym on ∙ e))
    where
      no_pipe : (number socket : ℕ) → OnPipe number ≡ OnSocket socket → ⊥
      no_pipe number socket e = cc

  ends : (at q : ℕ) (other : Description) → description_at (with_description files.descriptions place None) at ≡ Some other → other.target ≡ OnPipe q → is_some (slice_index_or ended.pipes q None) ≡ true
  unfolding ended
  ends at q other here on_it = let end : IsEnd ended.pipes other.access (OnPipe q) = subst (IsEnd ended.pipes other.access) on_it (counts.ends at other here) in end.0

  stays : ((n : ℕ) → fifo_in files.pipes p ≡ Some n → Opener (with_description files.descriptions place None) ended.pipes n) → Kept tree ended
  unfolding ended
  stays still = record {
    rooted = end_gone_rooted files.descriptions files.tree files.sockets files.pipes kept.rooted place description is p on ends still;
    pipes = bytes;
    joined = joins;
    piped = counts;
    directories = kept.directories;
    kinds = kept.kinds;
  }

  end_kept : (o : Option ℕ) → node_of files (OnPipe p) ≡ o → Kept tree (left_fifo ended o)
  unfolding ended
  end_kept None of = stays (λ n is_one. absurd (not_some of is_one))
  end_kept (Some number) of = by_opens (opens ended number) refl
    where
      by_opens : (b : Bool) → opens ended number ≡ b → Kept tree (cond b ended (with_tree ended (closed files.tree number)))
      by_opens true opened = stays (λ n is_one. subst (Opener (with_description files.descriptions place None) ended.pipes) (some_same (node_of files (OnPipe p)) number n of is_one) (opens_by ended number opened))
      by_opens false opened = record {
        rooted = fifo_closed_rooted files.descriptions files.tree files.sockets files.pipes kept.rooted place description is p on ends number of
            (λ opener. true_false (opens ended number) (by_opener ended number opener) opened) (fifo_held (with_description files.descriptions place None) ended.pipes counts);
        pipes = bytes;
        joined = joins;
        piped = counts;
        directories = λ n dir_is. fifo_closed_directories files.descriptions files.tree files.sockets files.pipes kept.rooted place description is p on ends number of n (kept.directories n dir_is);
        kinds = λ n none. closed_makes_none files.tree number n (kept.kinds n none);
      }

pub kept_closed : (tree : Tree) → IsClosedUnder anybody (Kept tree)
unfolding ended
kept_closed tree = record {
  shut = λ files pid fd who kept. record { rooted = kept.rooted; pipes = kept.pipes; joined = kept.joined; piped = kept.piped; directories = kept.directories; kinds = kept.kinds };
  wakes = λ files pid who kept. record { rooted = kept.rooted; pipes = kept.pipes; joined = kept.joined; piped = kept.piped; directories = kept.directories; kinds = kept.kinds };
  unlocks = λ files locks kept. record { rooted = kept.rooted; pipes = kept.pipes; joined = kept.joined; piped = kept.piped; directories = kept.directories; kinds = kept.kinds };
  gone = λ files place description kept is none. gone files place description kept is none description.target refl;
}
  where
    gone : (files : Files) (place : ℕ) (description : Description) → Kept tree files → description_at files.descriptions place ≡ Some description → is_named files.descriptors place ≡ false
        → (target : Target) → description.target ≡ target → Kept tree (target_closed (with_descriptions files (with_description files.descriptions place None)) description.access target)
    gone files place description kept is none target on = go target on
      where
        joined : Joined (without files place description).descriptions (without files place description).sockets
        joined = closes.gone files place description kept.joined is none

        by_target : (target : Target) → description.target ≡ target → Joined (target_closed (with_descriptions files (with_description files.descriptions place None)) description.access target).descriptions
            (target_closed (with_descriptions files (with_description files.descriptions place None)) description.access target).sockets
        by_target target on = subst (λ t. Joined (target_closed (with_descriptions files (with_description files.descriptions place None)) description.access t).descriptions
            (target_closed (with_descriptions files (with_description files.descriptions place None)) description.access t).sockets) on joined

        piped : ArePiped (without files place description).descriptions (without files place description).pipes
        piped = piped_closes.gone files place description kept.piped is none

        piped_by : (target : Target) → description.target ≡ target → ArePiped (target_closed (with_descriptions files (with_description files.descriptions place None)) description.access target).descriptions
            (target_closed (with_descriptions files (with_description files.descriptions place None)) description.access target).pipes
        piped_by target on = subst (λ t. ArePiped (target_closed (with_descriptions files (with_description files.descriptions place None)) description.access t).descriptions
            (target_closed (with_descriptions files (with_description files.descriptions place None)) description.access t).pipes) on piped

        same_node : (number n : ℕ) → description.target ≡ OnNode number → node_in files.pipes description.target ≡ Some n → number ≡ n
        same_node number n one two = let both : Some number ≡ Some n = sym (ap (node_in files.pipes) one) ∙ two in cc

        no_socket : (p n : ℕ) → description.target ≡ OnSocket p → node_in files.pipes description.target ≡ Some n → ⊥
        no_socket p n one two = let both : None ≡ Some n = sym (ap (node_in files.pipes) one) ∙ two in cc

        left : Files
        left = with_descriptions files (with_description files.descriptions place None)

        node : (number : ℕ) → description.target ≡ OnNode number → (b : Bool) → opens left number ≡ b → Joined (cond b left (with_tree left (closed files.tree number))).descriptions (cond b left (with_tree left (closed files.tree number))).sockets
            → ArePiped (cond b left (with_tree left (closed files.tree number))).descriptions (cond b left (with_tree left (closed files.tree number))).pipes
            → Kept tree (cond b left (with_tree left (closed files.tree number)))
        node number on_node true opened joins counts = record {
          rooted = gone_rooted files.descriptions files.tree files.sockets files.pipes kept.rooted place description is
              (λ n on_it. subst (Opener (with_description files.descriptions place None) files.pipes) (same_node number n on_node on_it) (opens_by left number opened));
          pipes = kept.pipes;
          joined = joins;
          piped = counts;
          directories = kept.directories;
          kinds = kept.kinds;
        }
        node number on_node false opened joins counts = record {
          rooted = closed_rooted files.descriptions files.tree files.sockets files.pipes kept.rooted place description number is on_node (λ opener. true_false (opens left number) (by_opener left number opener) opened);
          pipes = kept.pipes;
          joined = joins;
          piped = counts;
          directories = λ n dir_is. closed_directories files.descriptions files.tree files.sockets files.pipes kept.rooted place description number is on_node n (kept.directories n dir_is);
          kinds = λ n none. closed_makes_none files.tree number n (kept.kinds n none);
        }

        go : (target : Target) → description.target ≡ target → Kept tree (target_closed left description.access target)
        go (OnNode number) on_it = node number on_it (opens left number) refl (by_target (OnNode number) on_it) (piped_by (OnNode number) on_it)
        go (OnPipe p) on_it = end_kept tree files place description kept is p on_it (node_of files (OnPipe p)) refl
        go (OnSocket p) on_it = let held = kept.joined.1 in let named = on_named files.descriptions place description p is on_it in record {
          rooted = sock_closed_rooted files.descriptions files.tree files.sockets files.pipes kept.rooted place description p is (λ n on_node. no_socket p n on_it on_node) kept.joined.0 (held.there p named) (held.apart p named);
          pipes = kept.pipes;
          joined = by_target (OnSocket p) on_it;
          piped = piped_by (OnSocket p) on_it;
          directories = kept.directories;
          kinds = kept.kinds;
        }
