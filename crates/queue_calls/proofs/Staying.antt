-- No call on descriptors that closes nothing changes the tree, which of its nodes are open, or the names of sockets.
use Rattle.std.proofs.Common.{◌≡◌, ◌++◌, ℕ, ℤ, zero, suc, List, [], ◌∷◌, length, Option, None, Some, slice_index_or, refl, ap, ◌∙◌, arith}
use Rattle.std.specs.Option.{option_and_then}
use Rattle.std.proofs.lemmas.List.{get_or_past}
use Rattle.kabi_types.specs.Arguments.{count_of}
use Rattle.kabi_types.specs.declared.scripts.Script.{Script}
use Rattle.posix_defs.specs.Answer.{Answer}
use Rattle.posix_defs.specs.Calls.Opened.{Opened, answer_on, opened_at}
use Rattle.posix_defs.specs.Calls.OnDescriptors.{cloexec_set, controlled, dup, duplicated, fcntl, shared_at}
use Rattle.posix_defs.specs.Calls.OnPipes.{pipe, piped, piped_under}
use Rattle.posix_defs.specs.Files.Descriptions.{OnNode, OnPipe, OnSocket, ReadOnly, Target, WriteOnly, description_at, has_flag, new_description, with_status}
use Rattle.posix_defs.specs.Files.Descriptors.{Two, descriptor_at, descriptor_of, lowest_free, lowest_free_from, two_lowest_free}
use Rattle.posix_defs.specs.Files.State.{Files, described_as, descriptors_of, node_of, with_open}
use Rattle.posix_defs.specs.Pipe.{Pipe, fifo_of, new_pipe}
use Rattle.posix_defs.specs.Plain.{Plain}
use Rattle.proc_files.proofs.Openings.{all_same, nodes_set}
use Rattle.store_objects.proofs.Leaving.{LeavesNodes, files_in, nodes_behind, opened_there, same_opened}

-- what an answer leads to leaves the nodes
abbrev pub Stay : Plain → Answer → Type 0
Stay plain answer = LeavesNodes plain.files (files_in plain.files answer)

-- a pipe more, which is no FIFO's, leaves what is open
pipe_more : (pipes : List (Option Pipe)) (place : ℕ)
    → option_and_then fifo_of (slice_index_or (pipes ++ Some new_pipe ∷ []) place None) ≡ option_and_then fifo_of (slice_index_or pipes place None)
pipe_more [] zero = refl
pipe_more [] (suc place) = refl
pipe_more (first ∷ pipes) zero = refl
pipe_more (first ∷ pipes) (suc place) = pipe_more pipes place

still_opens : (one other : Files) → one.pipes ≡ other.pipes ++ Some new_pipe ∷ [] → (what : Target) → node_of one what ≡ node_of other what
still_opens one other more (OnNode number) = refl
still_opens one other more (OnPipe place) = ap (λ (pipes : List (Option Pipe)). option_and_then fifo_of (slice_index_or pipes place None)) more ∙ pipe_more other.pipes place
still_opens one other more (OnSocket place) = refl

opens_none : (one other : Files) → one.pipes ≡ other.pipes ++ Some new_pipe ∷ [] → node_of one (OnPipe (length other.pipes)) ≡ None
opens_none one other more =
    still_opens one other more (OnPipe (length other.pipes)) ∙ ap (option_and_then fifo_of) (get_or_past other.pipes (length other.pipes) None (omega arith))

module _ (script : Script) (plain : Plain) (pid : ℕ) where
  -- what is told alone does
  nothing : LeavesNodes plain.files plain.files
  nothing = record { tree = refl; opens = refl; names = λ place. refl }

  -- what goes by a description does where each answer does
  pub on_opened : (fd : ℤ) (answer : Opened → Answer) → ((opened : Opened) → opened_at plain.files pid fd ≡ Some opened → Stay plain (answer opened))
      → Stay plain (answer_on script plain pid answer (opened_at plain.files pid fd))
  on_opened fd answer each = by_opened (opened_at plain.files pid fd) refl
    where
      by_opened : (o : Option Opened) → opened_at plain.files pid fd ≡ o → Stay plain (answer_on script plain pid answer o)
      by_opened None is = nothing
      by_opened (Some opened) is = each opened is

  duplicated_stay : (opened : Opened) (o : Option ℕ) → Stay plain (duplicated script plain pid opened o)
  duplicated_stay opened None = nothing
  duplicated_stay opened (Some fd) = record { tree = refl; opens = same_opened plain.files (shared_at plain.files pid opened fd) refl refl; names = λ place. refl }

  pub dup_stay : (fd : ℤ) → Stay plain (dup script plain pid fd)
  unfolding dup
  dup_stay fd = on_opened fd _ (λ opened is. duplicated_stay opened (lowest_free (descriptors_of plain.files pid)))

  -- a description with other flags is open on what it was
  controlled_stay : (fd cmd : ℕ) (arg : ℤ) (opened : Opened) → description_at plain.files.descriptions opened.place ≡ Some opened.is
      → Stay plain (controlled script plain pid fd cmd arg opened)
  controlled_stay fd zero arg opened there = duplicated_stay opened (lowest_free_from (descriptors_of plain.files pid) (count_of arg))
  controlled_stay fd (suc zero) arg opened there = nothing
  controlled_stay fd (suc (suc zero)) arg opened there = record {
    tree = refl;
    opens =
        let now = cloexec_set (has_flag arg 1) (descriptor_at (descriptors_of plain.files pid) fd) in
        same_opened plain.files (with_open plain.files pid fd now) refl refl;
    names = λ place. refl;
  }
  controlled_stay fd (suc (suc (suc zero))) arg opened there = nothing
  controlled_stay fd (suc (suc (suc (suc zero)))) arg opened there = record {
    tree = refl;
    opens =
        let now = with_status opened.is arg in
        nodes_set (described_as plain.files opened.place now) plain.files plain.files.descriptions opened.place opened.is now
        (all_same (described_as plain.files opened.place now) plain.files plain.files.descriptions refl) there refl;
    names = λ place. refl;
  }
  controlled_stay fd (suc (suc (suc (suc (suc n))))) arg opened there = nothing

  pub fcntl_stay : (fd cmd arg : ℤ) → Stay plain (fcntl script plain pid fd cmd arg)
  unfolding fcntl
  fcntl_stay fd cmd arg = on_opened fd _
      (λ opened is. controlled_stay (count_of fd) (count_of cmd) arg opened (opened_there plain.files (descriptor_of (descriptors_of plain.files pid) fd) opened is))

  pub pipe_stay : Stay plain (pipe script plain pid)
  unfolding pipe
  pipe_stay = by_free (two_lowest_free (descriptors_of plain.files pid))
    where
      by_free : (o : Option Two) → Stay plain (piped_under script plain pid o)
      by_free None = nothing
      by_free (Some two) = record {
        tree = refl;
        opens =
            let files = piped plain.files pid two in
            let reading = new_description (OnPipe (length plain.files.pipes)) ReadOnly in
            let writing = new_description (OnPipe (length plain.files.pipes)) WriteOnly in
            nodes_behind files files (plain.files.descriptions ++ Some reading ∷ []) writing (opens_none files plain.files refl) (λ place d there. refl)
            ∙ nodes_behind files plain.files plain.files.descriptions reading (opens_none files plain.files refl) (λ place d there. still_opens files plain.files refl d.target);
        names = λ place. refl;
      }
