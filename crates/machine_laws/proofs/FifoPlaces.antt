-- What is left where an end of a pipe is closed, which may be a FIFO's.
use Rattle.std.proofs.Common.{◌≡◌, ◌≢◌, ℕ, zero, suc, ◌+◌, ◌-◌, ◌≤◌, ◌==◌, ◌&&◌, ℤ, Bool, true, false, cond, List, [], ◌∷◌, ◌++◌, length, Option, None, Some, is_some, unwrap_or, slice_index_or, slice_set, refl, ap, sym, ◌∙◌, subst, ◌⊎◌, inl, inr, arith}
use Rattle.std.specs.List.{position_from}
use Rattle.std.specs.Option.{option_and_then}
use Rattle.std.proofs.lemmas.Bool.Decides.{eqb_tells}
use Rattle.std.proofs.lemmas.List.{get_or-set_same, get_or-set_other, get_or_past, length-set}
use Rattle.kabi_types.specs.declared.errnos.Errno.{Errno}
use Rattle.kabi_types.specs.declared.errnos.Errno.TheVariants.{EINVAL}
use Rattle.posix_defs.specs.Calls.OnFiles.{fifo_at, fifo_fault, is_for_both}
use Rattle.posix_defs.specs.PathCalls.{is_fifo}
use Rattle.posix_defs.specs.Pipe.{Pipe, after_close, fifo_of, is_of_fifo, new_pipe, with_end, without_reader, without_writer}
use Rattle.posix_defs.specs.Tree.{Tree}
use Rattle.posix_defs.specs.TreeChanges.{closed}
use Rattle.posix_defs.specs.Files.Descriptions.{ReadWrite, access_of}
use Rattle.posix_defs.specs.Files.State.{Files, opens, with_tree}
use Rattle.posix_defs.specs.Files.Closing.{left_fifo, left_node}
use Rattle.kern_laws.proofs.TablePlaces.{below_or_not}

-- the node of the FIFO whose pipe stands at a place among these, if one does
abbrev pub fifo_in : List (Option Pipe) → ℕ → Option ℕ
fifo_in pipes place = option_and_then fifo_of (slice_index_or pipes place None)

-- ---- what holds whatever the tree is

pub node_holds : (Holds : Files → Type 0) (files : Files) (number : ℕ) → Holds files → ((tree : Tree) → Holds (with_tree files tree)) → Holds (left_node files number)
node_holds Holds files number same other = go (opens files number)
  where
    go : (b : Bool) → Holds (cond b files (with_tree files (closed files.tree number)))
    go true = same
    go false = other (closed files.tree number)

pub left_holds : (Holds : Files → Type 0) (files : Files) (o : Option ℕ) → Holds files → ((tree : Tree) → Holds (with_tree files tree)) → Holds (left_fifo files o)
left_holds Holds files None same other = same
left_holds Holds files (Some number) same other = node_holds Holds files number same other

-- ---- a pipe with one end less

none_some : {X : Type 0} (x : X) → None ≡ Some x → ⊥
none_some x e = cc

same_some : {X : Type 0} (x y : X) → Some x ≡ Some y → x ≡ y
same_some x y e = cc

-- it is the pipe of the same FIFO
pub closed_is : (pipe left : Pipe) (writing : Bool) → after_close pipe writing ≡ Some left → fifo_of left ≡ fifo_of pipe
closed_is pipe left true is = go (pipe.readers == 0) (pipe.writers - 1 == 0) is
  where
    go : (a b : Bool) → cond (a && b) None (Some (without_writer pipe)) ≡ Some left → fifo_of left ≡ fifo_of pipe
    go true true e = absurd (none_some left e)
    go true false e = ap fifo_of (sym (same_some (without_writer pipe) left e))
    go false b e = ap fifo_of (sym (same_some (without_writer pipe) left e))
closed_is pipe left false is = go (pipe.readers - 1 == 0) (pipe.writers == 0) is
  where
    go : (a b : Bool) → cond (a && b) None (Some (without_reader pipe)) ≡ Some left → fifo_of left ≡ fifo_of pipe
    go true true e = absurd (none_some left e)
    go true false e = ap fifo_of (sym (same_some (without_reader pipe) left e))
    go false b e = ap fifo_of (sym (same_some (without_reader pipe) left e))

-- what stands at a place after another one was set: that, or what stood there
data Set (pipes : List (Option Pipe)) (place : ℕ) (new : Option Pipe) (p : ℕ) : Type 0 where
  at : p ≡ place → slice_index_or (slice_set pipes place new) p None ≡ new → Set pipes place new p
  past : p ≡ place → slice_index_or (slice_set pipes place new) p None ≡ None → slice_index_or pipes p None ≡ None → Set pipes place new p
  other : p ≢ place → slice_index_or (slice_set pipes place new) p None ≡ slice_index_or pipes p None → Set pipes place new p

set_is : (pipes : List (Option Pipe)) (place : ℕ) (new : Option Pipe) (p : ℕ) → Set pipes place new p
set_is pipes place new p = elim (eqb_tells p place) [
  | inr apart ↦ other apart.1 (get_or-set_other pipes place p new None apart.1)
  | inl alike ↦ elim (below_or_not place (length pipes)) [
    | inl within ↦ at alike.1 (ap (λ n. slice_index_or (slice_set pipes place new) n None) alike.1 ∙ get_or-set_same pipes place new None within)
    | inr beyond ↦ past alike.1 (ap (λ n. slice_index_or (slice_set pipes place new) n None) alike.1
        ∙ get_or_past (slice_set pipes place new) place None (subst (λ n. n ≤ place) (sym (length-set pipes place new)) beyond))
        (ap (λ n. slice_index_or pipes n None) alike.1 ∙ get_or_past pipes place None beyond)
  ]
]

-- a pipe of a FIFO that is there was there before
pub closed_fifo : (pipes : List (Option Pipe)) (place : ℕ) (writing : Bool) (p number : ℕ)
    → fifo_in (slice_set pipes place (after_close (unwrap_or (slice_index_or pipes place None) new_pipe) writing)) p ≡ Some number → fifo_in pipes p ≡ Some number
closed_fifo pipes place writing p number is = go (set_is pipes place (after_close (unwrap_or (slice_index_or pipes place None) new_pipe) writing) p)
  where
    was : (o : Option Pipe) → fifo_of (unwrap_or o new_pipe) ≡ Some number → option_and_then fifo_of o ≡ Some number
    was None e = absurd (none_some number e)
    was (Some pipe) e = e

    left : (o : Option Pipe) → after_close (unwrap_or (slice_index_or pipes place None) new_pipe) writing ≡ o → option_and_then fifo_of o ≡ Some number → fifo_in pipes place ≡ Some number
    left None e f = absurd (none_some number f)
    left (Some rest) e f = was (slice_index_or pipes place None) (sym (closed_is (unwrap_or (slice_index_or pipes place None) new_pipe) rest writing e) ∙ f)

    go : Set pipes place (after_close (unwrap_or (slice_index_or pipes place None) new_pipe) writing) p → fifo_in pipes p ≡ Some number
    go (other apart e) = sym (ap (option_and_then fifo_of) e) ∙ is
    go (past same e was_none) = absurd (none_some number (sym (ap (option_and_then fifo_of) e) ∙ is))
    go (at same e) = ap (fifo_in pipes) same ∙ left _ refl (sym (ap (option_and_then fifo_of) e) ∙ is)

-- while the pipe is there it is that FIFO's
pub stays_fifo : (pipes : List (Option Pipe)) (place : ℕ) (writing : Bool) (p number : ℕ) → fifo_in pipes p ≡ Some number
    → is_some (slice_index_or (slice_set pipes place (after_close (unwrap_or (slice_index_or pipes place None) new_pipe) writing)) p None) ≡ true
    → fifo_in (slice_set pipes place (after_close (unwrap_or (slice_index_or pipes place None) new_pipe) writing)) p ≡ Some number
stays_fifo pipes place writing p number is there = go (set_is pipes place (after_close (unwrap_or (slice_index_or pipes place None) new_pipe) writing) p)
  where
    no : false ≡ true → ⊥
    no e = cc

    now : (o : Option Pipe) → option_and_then fifo_of o ≡ Some number → fifo_of (unwrap_or o new_pipe) ≡ Some number
    now None e = absurd (none_some number e)
    now (Some pipe) e = e

    left : (o : Option Pipe) → after_close (unwrap_or (slice_index_or pipes place None) new_pipe) writing ≡ o → is_some o ≡ true → fifo_in pipes place ≡ Some number → option_and_then fifo_of o ≡ Some number
    left None e some f = absurd (no some)
    left (Some rest) e some f = closed_is (unwrap_or (slice_index_or pipes place None) new_pipe) rest writing e ∙ now (slice_index_or pipes place None) f

    go : Set pipes place (after_close (unwrap_or (slice_index_or pipes place None) new_pipe) writing) p
        → fifo_in (slice_set pipes place (after_close (unwrap_or (slice_index_or pipes place None) new_pipe) writing)) p ≡ Some number
    go (other apart e) = ap (option_and_then fifo_of) e ∙ is
    go (past same e was_none) = absurd (no (sym (ap is_some e) ∙ there))
    go (at same e) = ap (option_and_then fifo_of) e ∙ left _ refl (sym (ap is_some e) ∙ there) (sym (ap (fifo_in pipes) same) ∙ is)

-- where a pipe becomes another of the same FIFO, all are as before
pub same_fifos : (pipes : List (Option Pipe)) (place : ℕ) (pipe : Pipe) → fifo_of pipe ≡ fifo_of (unwrap_or (slice_index_or pipes place None) new_pipe)
    → (q : ℕ) → fifo_in (slice_set pipes place (Some pipe)) q ≡ fifo_in pipes q
same_fifos pipes place pipe same q = go (set_is pipes place (Some pipe) q)
  where
    was : (o : Option Pipe) → fifo_of (unwrap_or o new_pipe) ≡ option_and_then fifo_of o
    was None = refl
    was (Some pipe) = refl

    go : Set pipes place (Some pipe) q → fifo_in (slice_set pipes place (Some pipe)) q ≡ fifo_in pipes q
    go (other apart e) = ap (option_and_then fifo_of) e
    go (past same e was_none) = ap (option_and_then fifo_of) e ∙ sym (ap (option_and_then fifo_of) was_none)
    go (at here e) = ap (option_and_then fifo_of) e ∙ same ∙ was (slice_index_or pipes place None) ∙ sym (ap (fifo_in pipes) here)

-- a pipe more, which is of no FIFO
pub pushed_fifos : (pipes : List (Option Pipe)) (pipe : Pipe) → fifo_of pipe ≡ None → (q : ℕ) → fifo_in (pipes ++ Some pipe ∷ []) q ≡ fifo_in pipes q
pushed_fifos [] pipe none zero = none
pushed_fifos [] pipe none (suc q) = refl
pushed_fifos (x ∷ xs) pipe none zero = refl
pushed_fifos (x ∷ xs) pipe none (suc q) = pushed_fifos xs pipe none q

-- a pipe more: that of a FIFO that is there was there, or it is the last
pub pushed_fifo : (pipes : List (Option Pipe)) (pipe : Pipe) (q number : ℕ) → fifo_in (pipes ++ Some pipe ∷ []) q ≡ Some number
    → (fifo_in pipes q ≡ Some number) ⊎ ((q ≡ length pipes) × (fifo_of pipe ≡ Some number))
pushed_fifo [] pipe zero number e = inr (refl, e)
pushed_fifo [] pipe (suc q) number e = absurd (none_some number e)
pushed_fifo (x ∷ xs) pipe zero number e = inl e
pushed_fifo (x ∷ xs) pipe (suc q) number e = elim (pushed_fifo xs pipe q number e) [ inl old ↦ inl old | inr last ↦ inr (ap (λ n. suc n) last.0, last.1) ]

-- those that were there are there
pub front_fifo : (pipes : List (Option Pipe)) (pipe : Pipe) (q number : ℕ) → fifo_in pipes q ≡ Some number → fifo_in (pipes ++ Some pipe ∷ []) q ≡ Some number
front_fifo [] pipe q number e = absurd (none_some number e)
front_fifo (x ∷ xs) pipe zero number e = e
front_fifo (x ∷ xs) pipe (suc q) number e = front_fifo xs pipe q number e

-- who has one end more is of the same FIFO
pub end_fifo : (pipe : Pipe) (writing : Bool) → fifo_of (with_end pipe writing) ≡ fifo_of pipe
end_fifo pipe true = refl
end_fifo pipe false = refl

-- a pipe with this node, which isn't 0, is that FIFO's
pub fifo_node : (pipe : Pipe) (number : ℕ) → pipe.node ≡ number → number ≢ 0 → fifo_of pipe ≡ Some number
fifo_node pipe number of some = go (pipe.node == 0) refl
  where
    go : (b : Bool) → (pipe.node == 0) ≡ b → cond b None (Some pipe.node) ≡ Some number
    go true e = elim (eqb_tells pipe.node 0) [ inl alike ↦ absurd (some (sym of ∙ alike.1)) | inr apart ↦ absurd (no (sym apart.0 ∙ e)) ]
      where
        no : false ≡ true → ⊥
        no f = cc
    go false e = ap Some of

-- the node of a pipe that is a FIFO's
pub node_fifo : (pipe : Pipe) (number : ℕ) → fifo_of pipe ≡ Some number → pipe.node ≡ number
node_fifo pipe number e = go (pipe.node == 0) e
  where
    go : (b : Bool) → cond b None (Some pipe.node) ≡ Some number → pipe.node ≡ number
    go true f = absurd (none_some number f)
    go false f = same_some pipe.node number f

-- ---- where the pipe of a FIFO stands

-- a pipe stands there, which is that of this FIFO
pub record IsFifoAt (pipes : List (Option Pipe)) (number place : ℕ) : Type 0 where
  pub pipe : Pipe
  pub is : slice_index_or pipes place None ≡ Some pipe
  pub of : pipe.node ≡ number

found_from : (number from : ℕ) (pipes : List (Option Pipe)) (place : ℕ) → position_from (is_of_fifo number) from pipes ≡ Some place
    → (k : ℕ) × (place ≡ from + k) × (is_of_fifo number (slice_index_or pipes k None) ≡ true)
found_from number from [] place e = absurd (none_some place e)
found_from number from (x ∷ xs) place e = go (is_of_fifo number x) refl e (λ f. found_from number (from + 1) xs place f)
  where
    go : (b : Bool) → is_of_fifo number x ≡ b → cond b (Some from) (position_from (is_of_fifo number) (from + 1) xs) ≡ Some place
        → (position_from (is_of_fifo number) (from + 1) xs ≡ Some place → (k : ℕ) × (place ≡ from + 1 + k) × (is_of_fifo number (slice_index_or xs k None) ≡ true))
        → (k : ℕ) × (place ≡ from + k) × (is_of_fifo number (slice_index_or (x ∷ xs) k None) ≡ true)
    go true is f behind = (0, (let same : from ≡ place = same_some from place f in omega arith), is)
    go false is f behind = let found = behind f in (suc found.0, (let same : place ≡ from + 1 + found.0 = found.1 in omega arith), found.2)

pub fifo_at_is : (files : Files) (number place : ℕ) → fifo_at files number ≡ Some place → IsFifoAt files.pipes number place
fifo_at_is files number place stands = go (found_from number 0 files.pipes place stands)
  where
    by : (o : Option Pipe) → slice_index_or files.pipes place None ≡ o → is_of_fifo number o ≡ true → IsFifoAt files.pipes number place
    by None is e = absurd (no e)
      where
        no : false ≡ true → ⊥
        no f = cc
    by (Some pipe) is e = record { pipe = pipe; is = is; of = elim (eqb_tells pipe.node number) [ inl alike ↦ alike.1 | inr apart ↦ absurd (no (sym apart.0 ∙ e)) ] }
      where
        no : false ≡ true → ⊥
        no f = cc

    go : (k : ℕ) × (place ≡ 0 + k) × (is_of_fifo number (slice_index_or files.pipes k None) ≡ true) → IsFifoAt files.pipes number place
    go found = by (slice_index_or files.pipes place None) refl
        (subst (λ n. is_of_fifo number (slice_index_or files.pipes n None) ≡ true) (let same : place ≡ 0 + found.0 = found.1 in let e : found.0 ≡ place = omega arith in e) found.2)

none_from : (number from : ℕ) (pipes : List (Option Pipe)) → position_from (is_of_fifo number) from pipes ≡ None → (k : ℕ) → is_of_fifo number (slice_index_or pipes k None) ≡ false
none_from number from [] e k = refl
none_from number from (x ∷ xs) e k = go (is_of_fifo number x) refl e (λ f other. none_from number (from + 1) xs f other) k
  where
    go : (b : Bool) → is_of_fifo number x ≡ b → cond b (Some from) (position_from (is_of_fifo number) (from + 1) xs) ≡ None
        → (position_from (is_of_fifo number) (from + 1) xs ≡ None → (other : ℕ) → is_of_fifo number (slice_index_or xs other None) ≡ false)
        → (k : ℕ) → is_of_fifo number (slice_index_or (x ∷ xs) k None) ≡ false
    go true is f behind k = absurd (none_some from (sym f))
    go false is f behind zero = is
    go false is f behind (suc k) = behind f k

-- where none is found, no pipe is that FIFO's
pub fifo_at_none : (files : Files) (number : ℕ) → fifo_at files number ≡ None → (place : ℕ) (pipe : Pipe) → slice_index_or files.pipes place None ≡ Some pipe → pipe.node ≢ number
fifo_at_none files number nowhere place pipe is same = elim (eqb_tells pipe.node number) [
  | inl alike ↦ no (sym (none_from number 0 files.pipes nowhere place) ∙ ap (is_of_fifo number) is ∙ alike.0)
  | inr apart ↦ apart.1 same
]
  where
    no : false ≡ true → ⊥
    no f = cc

-- no FIFO has the number 0
pub not_zero : (tree : Tree) (number : ℕ) → is_fifo tree number ≡ true → number ≢ 0
not_zero tree number fifo zero_is = no (sym (ap (is_fifo tree) zero_is) ∙ fifo)
  where
    no : is_fifo tree 0 ≡ true → ⊥
    no e = cc

-- who opens a FIFO reads or writes it
pub one_side : (pipe : Pipe) (flags : ℤ) → fifo_fault pipe flags ≡ None → access_of flags ≢ ReadWrite
one_side pipe flags fine both = no (sym (go (is_for_both (access_of flags)) _ fine) ∙ ap is_for_both both)
  where
    no : false ≡ true → ⊥
    no e = cc

    go : (b : Bool) (rest : Option Errno) → cond b (Some EINVAL) rest ≡ None → b ≡ false
    go true rest e = absurd (none_some EINVAL (sym e))
    go false rest e = refl
