-- What is open, and what has a name, once a name of the tree has gone or changed.
use Rattle.std.proofs.Common.{◌≡◌, ℕ, Bool, true, false, Option, None, Some, is_some, refl, sym, ◌∙◌, inl, inr}
use Rattle.machine_laws.proofs.NodesAfter.{Turns}
use Rattle.machine_laws.proofs.Openers.{Opener, by_opener, node_is, opener_busy}
use Rattle.posix_defs.specs.Calls.OnNames.{is_busy}
use Rattle.posix_defs.specs.Files.State.{opens, with_tree}
use Rattle.posix_defs.specs.PathCalls.{is_socket, is_socket_kind, kind_in}
use Rattle.posix_defs.specs.Plain.{Plain}
use Rattle.posix_defs.specs.Tree.{Node, Tree, is_directory, is_in_use, node_at}
use Rattle.proc_files.specs.Holders.{AreOpenNodes, HaveNamesBut, IsOpenNode}
use Rattle.store_objects.specs.Standing.{IsSound}

-- a socket's name is in use
socket_used : (tree : Tree) (n : ℕ) → is_socket tree n ≡ true → is_in_use tree n ≡ true
socket_used tree n is = go (node_at tree n) is
  where
    go : (o : Option Node) → is_socket_kind (kind_in o) ≡ true → is_some o ≡ true
    go None e = cc
    go (Some node) e = refl

module _ (plain : Plain) (sound : IsSound plain) (after : Tree) (freed : Option ℕ) (turns : Turns plain.files.tree after (opens plain.files) (is_busy plain) freed) where
  -- a node that is open stays what it is
  pub nodes_after : AreOpenNodes (with_tree plain.files after)
  nodes_after place number description there on = elim (turns.each number it.used) [
    | inl stays ↦ record {
      used = stays.used;
      unnamed = stays.socket ∙ it.unnamed;
      reads = λ is. it.reads (sym stays.directory ∙ is);
      between = λ is. it.between (sym stays.directory ∙ is);
      no_fifo = λ target. stays.fifo ∙ it.no_fifo target;
    }
    | inr goes ↦ absurd (by_kind (is_directory plain.files.tree number) refl (λ is. goes.directory is) (λ is. goes.file is it.unnamed))
  ]
    where
      it : IsOpenNode plain.files.tree description number
      it = sound.nodes place number description there on

      opener : Opener plain.files.descriptions plain.files.pipes number
      opener = record { place = place; description = description; is = there; on = sym (node_is plain.files description.target) ∙ on }

      both : (b : Bool) → b ≡ true → b ≡ false → ⊥
      both true e f = cc
      both false e f = cc

      by_kind : (b : Bool) → is_directory plain.files.tree number ≡ b → (is_directory plain.files.tree number ≡ true → is_busy plain number ≡ false)
          → (is_directory plain.files.tree number ≡ false → opens plain.files number ≡ false) → ⊥
      by_kind true is directory file = both (is_busy plain number) (opener_busy plain number opener) (directory is)
      by_kind false is directory file = both (opens plain.files number) (by_opener plain.files number opener) (file is)

  -- who is bound is bound to a socket's name, but for the one that was freed
  pub names_after : HaveNamesBut freed (with_tree plain.files after)
  names_after = record {
    bound = λ place number named other.
        let was : is_socket plain.files.tree number ≡ true = sound.names.bound place number named (λ e. none_some e) in
        elim (turns.each number (socket_used plain.files.tree number was)) [
          | inl stays ↦ stays.socket ∙ was
          | inr goes ↦ absurd (other (goes.socket was))
        ];
    waiting = sound.names.waiting;
  }
    where
      none_some : {number : ℕ} → None ≡ Some number → ⊥
      none_some e = cc
