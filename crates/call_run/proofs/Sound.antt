-- What machines that are reached have, of which calls on files and names make use.
use Rattle.std.proofs.Common.{◌≡◌, ◌≢◌, ℕ, zero, suc, ◌<◌, ◌==◌, ◌||◌, Bool, true, false, cond, Option, None, Some, is_some, refl, ap, sym, subst, ◌∙◌, inl, inr, arith}
use Rattle.std.specs.Option.{option_and_then}
use Rattle.std.proofs.lemmas.Bool.Decides.{eqb_tells}
use Rattle.kabi_types.specs.declared.calls.Call.{Call}
use Rattle.kabi_types.specs.declared.calls.Call.TheVariants as call
use Rattle.kabi_types.specs.declared.scripts.Script.{Script}
use Rattle.machine_laws.specs.Texts.{HasTexts}
use Rattle.machine_laws.proofs.Texting.{valid_texts}
use Rattle.machine_laws.proofs.Unnamed.{reached_unnamed}
use Rattle.machine_laws.proofs.Wholeness.{is_whole, stands_between}
use Rattle.machine_laws.specs.Reached.{IsReached}
use Rattle.posix_defs.specs.Control.{settled, statement_of}
use Rattle.posix_defs.specs.Files.Descriptions.{Description, OnNode, OnPipe, OnSocket, Target, description_at}
use Rattle.posix_defs.specs.Files.State.{Files, node_of, pipe_there}
use Rattle.posix_defs.specs.Calls.Opened.{opened_at}
use Rattle.posix_defs.specs.Files.Whole.{IsTarget, IsWhole, is_half_open, is_queue_in, is_write_of}
use Rattle.posix_defs.specs.PathCalls.{is_fifo, is_fifo_kind, is_socket_kind, kind_in, kind_of_content}
use Rattle.posix_defs.specs.Pipe.{Pipe, fifo_of}
use Rattle.posix_defs.specs.Plain.{Plain, call_of, control_of}
use Rattle.posix_defs.specs.Process.{is_alive}
use Rattle.posix_defs.specs.ValidScript.{IsValid}
use Rattle.posix_defs.specs.Tree.{Content, Directory, Fifo, File, Node, SocketName, is_directory_content, is_directory_in, node_at}
use Rattle.proc_files.specs.Holders.{IsOpenNode}
use Rattle.store_objects.specs.Standing.{IsSound}
use Rattle.call_run.specs.Families.{HasDone, HasHalf}
use Rattle.call_run.proofs.Turning.{at_done}
use Rattle.call_run.proofs.SettledDone.{settled_done}

-- a FIFO is a node in use, and no socket's name and no directory
fifo_kind : (o : Option Node) → is_fifo_kind (kind_in o) ≡ true → (is_some o ≡ true) × (is_socket_kind (kind_in o) ≡ false) × (is_directory_in o ≡ false)
fifo_kind None e = cc
fifo_kind (Some node) e = by_content node.content e
  where
    by_content : (content : Content) → is_fifo_kind (kind_of_content content) ≡ true
        → (true ≡ true) × (is_socket_kind (kind_of_content content) ≡ false) × (is_directory_content content ≡ false)
    by_content (File bytes) f = cc
    by_content (Directory parent entries) f = cc
    by_content SocketName f = cc
    by_content Fifo f = (refl, refl, refl)

-- the pipe of a FIFO has its node's number
fifo_is : (pipe : Pipe) (number : ℕ) → fifo_of pipe ≡ Some number → (pipe.node ≢ 0) × (pipe.node ≡ number)
fifo_is pipe number e = elim (eqb_tells pipe.node 0) [
  | inl none ↦ absurd (no_some (sym (ap (λ b. cond b None (Some pipe.node)) none.0) ∙ e))
  | inr some ↦ (some.1, same_some (sym (ap (λ b. cond b None (Some pipe.node)) some.0) ∙ e))
]
  where
    no_some : None ≡ Some number → ⊥
    no_some f = cc

    same_some : Some pipe.node ≡ Some number → pipe.node ≡ number
    same_some f = cc

pub sound : (script : Script) (plain : Plain) → IsValid script → IsReached script plain → IsSound plain
sound script plain valid reached = record {
  nodes = λ place number description there on. by_target place number description there description.target refl on;
  names = record { bound = λ place number is free. whole.sockets.bound place number is; waiting = reached_unnamed script plain reached };
  locks = whole.locks;
}
  where
    texts : HasTexts script
    texts = valid_texts script valid

    whole : IsWhole script plain
    whole = is_whole script plain texts reached

    never : {X : Type 0} {o : Bool} → o ≡ true → o ≡ false → X
    never e f = cc

    -- an end of a FIFO's pipe
    by_pipe : (number : ℕ) (description : Description) (p : ℕ) (o : Option Pipe) → description.target ≡ OnPipe p → pipe_there plain.files p ≡ o → option_and_then fifo_of o ≡ Some number → IsOpenNode plain.files.tree description number
    by_pipe number description p None what is e = absurd (none e)
      where
        none : None ≡ Some number → ⊥
        none f = cc
    by_pipe number description p (Some pipe) what is e =
        let node = fifo_is pipe number e in
        let fifo = fifo_kind (node_at plain.files.tree number) (subst (λ n. is_fifo plain.files.tree n ≡ true) node.1 (whole.fifos.nodes p pipe is node.0)) in
        record { used = fifo.0; unnamed = fifo.1; reads = λ dir. never dir fifo.2; between = λ dir. never dir fifo.2; no_fifo = λ target. absurd (no_pipe (sym what ∙ target)) }
      where
        no_pipe : OnPipe p ≡ OnNode number → ⊥
        no_pipe f = cc

    by_target : (place number : ℕ) (description : Description) → description_at plain.files.descriptions place ≡ Some description → (what : Target) → description.target ≡ what
        → node_of plain.files what ≡ Some number → IsOpenNode plain.files.tree description number
    by_target place number description there (OnNode n) what on =
        let same : n ≡ number = (let e : Some n ≡ Some number = on in cc) in
        let at : description.target ≡ OnNode number = what ∙ ap OnNode same in
        let is : IsTarget plain.files description.access (OnNode number) = subst (IsTarget plain.files description.access) at (whole.named.targets place description there) in
        record { used = is.0; unnamed = is.1; reads = is.3; between = stands_between script plain texts reached place number description there at; no_fifo = λ target. is.2 }
    by_target place number description there (OnPipe p) what on = by_pipe number description p (pipe_there plain.files p) what refl on
    by_target place number description there (OnSocket s) what on = absurd (none on)
      where
        none : None ≡ Some number → ⊥
        none f = cc

-- a write that has moved a part is one to a queue, and an open that has done one has made its end of a FIFO
halves : (files : Files) (pid : ℕ) (which : Call) (moved : ℕ) → HasDone which moved → (0 < moved → (is_write_of files pid which || is_half_open files pid which) ≡ true)
    → HasHalf files pid which moved
halves files pid (call.Write fd addr n done) moved has half = λ some. first (is_queue_in (opened_at files pid fd)) (half (subst (λ d. 0 < d) (sym has) some))
  where
    first : (b : Bool) → (b || false) ≡ true → b ≡ true
    first true e = refl
    first false e = e
halves files pid (call.OpenFile path flags) zero has half = λ none. refl
halves files pid (call.OpenFile path flags) (suc moved) has half = λ none. absurd (never (sym (ap is_some none) ∙ half (omega arith)))
  where
    never : false ≡ true → ⊥
    never e = cc
halves files pid _ moved has half = tt

-- and so is the next call of a live process
pub half : (script : Script) (plain : Plain) (pid : ℕ) → IsValid script → IsReached script plain → is_alive plain.table pid ≡ true → HasHalf plain.files pid (call_of script plain pid) (control_of plain pid).done
half script plain pid valid reached alive =
    let control = control_of plain pid in
    let whole : IsWhole script plain = is_whole script plain (valid_texts script valid) reached in
    halves plain.files pid (call_of script plain pid) control.done
    (subst (HasDone (call_of script plain pid)) (settled_done script control) (at_done (settled script control) (statement_of script (settled script control))))
    (whole.half_done pid alive)
