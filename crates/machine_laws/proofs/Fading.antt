-- Closing takes descriptions away and changes none; and where the tree changes with it a description of a node has gone.
use Rattle.std.proofs.Common.{◌≡◌, ℕ, zero, suc, ◌+◌, ◌<◌, ◌≤◌, ◌&&◌, Bool, true, false, cond, List, [], ◌∷◌, length, Option, None, Some, is_some, is_none, refl, ap, sym, ◌∙◌, subst, ◌⊎◌, inl, inr, arith}
use Rattle.std.specs.List.{range_with_len, filter}
use Rattle.std.proofs.lemmas.Bool.Decides.{eqb_tells}
use Rattle.std.proofs.lemmas.List.{get_or-set_same, get_or-set_other, get_or_past, length-set}
use Rattle.std.proofs.lemmas.List.Folds.{list_any_at}
use Rattle.std.proofs.lemmas.List.FromFn.{length-range_with_len, get_or-range_with_len}
use Rattle.posix_defs.specs.Ending.{closed_by}
use Rattle.posix_defs.specs.Reaching.{ends_at, ends_node}
use Rattle.posix_defs.specs.Pipe.{after_close as after_close_pipe}
use Rattle.posix_defs.specs.Tree.{Tree}
use Rattle.posix_defs.specs.TreeChanges.{closed}
use Rattle.posix_defs.specs.Files.Descriptors.{Descriptor, descriptor_at, is_named, is_cloexec}
use Rattle.posix_defs.specs.Files.Descriptions.{Target, OnNode, OnPipe, OnSocket, Description, Descriptions, description_at, may_write, with_description}
use Rattle.posix_defs.specs.Files.State.{Files, descriptors_of, node_of, opened_node, opens, pipe_at, with_descriptions, with_open, with_opening, with_pipe, with_tree}
use Rattle.posix_defs.specs.Files.Closing.{after_close, after_closes, after_end_of, after_ends_of, after_exec_of, all_numbers, close_in, description_gone, gone_in, left_fifo, released, target_closed}
use Rattle.machine_laws.proofs.FifoPlaces.{closed_fifo, fifo_in}
use Rattle.kern_laws.proofs.TablePlaces.{below_or_not}

-- some description has gone
pub record HasLost (old new : Files) : Type 0 where
  pub place : ℕ
  pub description : Description
  pub was : description_at old.descriptions place ≡ Some description
  pub gone : description_at new.descriptions place ≡ None

-- descriptions stay or go; a tree that changes has lost the description of a node, and pipes that change have lost one; a pipe that is
-- a FIFO's was that before
pub record Fades (old new : Files) : Type 0 where
  pub each : (place : ℕ) → (description_at new.descriptions place ≡ description_at old.descriptions place) ⊎ (description_at new.descriptions place ≡ None)
  pub tree : (new.tree ≡ old.tree) ⊎ ((place : ℕ) × (ends_at old new place ≡ true))
  pub pipes : (new.pipes ≡ old.pipes) ⊎ HasLost old new
  pub nodes : (place number : ℕ) → fifo_in new.pipes place ≡ Some number → fifo_in old.pipes place ≡ Some number

pub fades_not : (files : Files) → Fades files files
fades_not files = record { each = λ place. inl refl; tree = inl refl; pipes = inl refl; nodes = λ place number is. is }

-- a description that opens a node did so before, if pipes that are a FIFO's were
was_node : (old new : Files) → ((place number : ℕ) → fifo_in new.pipes place ≡ Some number → fifo_in old.pipes place ≡ Some number) → (o : Option Description)
    → is_some (opened_node new o) ≡ true → is_some (opened_node old o) ≡ true
was_node old new nodes None some = some
was_node old new nodes (Some description) some = go description.target some
  where
    fifo : (place : ℕ) (o : Option ℕ) → fifo_in new.pipes place ≡ o → is_some o ≡ true → is_some (fifo_in old.pipes place) ≡ true
    fifo place None is some = absurd (no some)
      where
        no : false ≡ true → ⊥
        no e = cc
    fifo place (Some number) is some = ap is_some (nodes place number is)

    go : (target : Target) → is_some (node_of new target) ≡ true → is_some (node_of old target) ≡ true
    go (OnNode number) some = some
    go (OnPipe place) some = fifo place _ refl some
    go (OnSocket place) some = some

-- two tests that both hold
both_hold : (a b : Bool) → (a && b) ≡ true → (a ≡ true) × (b ≡ true)
both_hold true true e = (refl, refl)
both_hold true false e = (refl, e)
both_hold false b e = (e, absurd (no e))
  where
    no : false ≡ true → ⊥
    no f = cc

hold_both : (a b : Bool) → a ≡ true → b ≡ true → (a && b) ≡ true
hold_both a b one two = ap (λ t. t && b) one ∙ two

some_not_none : (files : Files) (o : Option Description) → is_some (opened_node files o) ≡ true → o ≡ None → ⊥
some_not_none files o some none = no (sym (ap (λ d. is_some (opened_node files d)) none) ∙ some)
  where
    no : false ≡ true → ⊥
    no f = cc

pub fades_on : (old between new : Files) → Fades old between → Fades between new → Fades old new
fades_on old between new one two = record { each = each; tree = tree; pipes = pipes; nodes = λ place number is. one.nodes place number (two.nodes place number is) }
  where
    each : (place : ℕ) → (description_at new.descriptions place ≡ description_at old.descriptions place) ⊎ (description_at new.descriptions place ≡ None)
    each place = elim (two.each place) [
      | inr gone ↦ inr gone
      | inl same ↦ elim (one.each place) [ inl as_before ↦ inl (same ∙ as_before) | inr gone ↦ inr (same ∙ gone) ]
    ]

    gone_before : (place : ℕ) → ends_at old between place ≡ true → ends_at old new place ≡ true
    gone_before place ends =
        let parts = both_hold (is_some (opened_node old (description_at old.descriptions place))) (is_none (description_at between.descriptions place)) ends in
        hold_both (is_some (opened_node old (description_at old.descriptions place))) (is_none (description_at new.descriptions place)) parts.0
        (elim (two.each place) [ inl same ↦ ap is_none same ∙ parts.1 | inr gone ↦ ap is_none gone ])

    gone_after : (place : ℕ) → ends_at between new place ≡ true → ends_at old new place ≡ true
    gone_after place ends =
        let parts = both_hold (is_some (opened_node between (description_at between.descriptions place))) (is_none (description_at new.descriptions place)) ends in
        elim (one.each place) [
          | inl same ↦ hold_both (is_some (opened_node old (description_at old.descriptions place))) (is_none (description_at new.descriptions place))
              (was_node old between one.nodes (description_at old.descriptions place) (ap (λ d. is_some (opened_node between d)) (sym same) ∙ parts.0)) parts.1
          | inr gone ↦ absurd (some_not_none between (description_at between.descriptions place) parts.0 gone)
        ]

    tree : (new.tree ≡ old.tree) ⊎ ((place : ℕ) × (ends_at old new place ≡ true))
    tree = elim two.tree [
      | inr ended ↦ inr (ended.0, gone_after ended.0 ended.1)
      | inl same ↦ elim one.tree [ inl as_before ↦ inl (same ∙ as_before) | inr ended ↦ inr (ended.0, gone_before ended.0 ended.1) ]
    ]

    lost_before : HasLost old between → HasLost old new
    lost_before lost = record {
      place = lost.place;
      description = lost.description;
      was = lost.was;
      gone = elim (two.each lost.place) [ inl same ↦ same ∙ lost.gone | inr gone ↦ gone ];
    }

    lost_after : HasLost between new → HasLost old new
    lost_after lost = elim (one.each lost.place) [
      | inl same ↦ record { place = lost.place; description = lost.description; was = sym same ∙ lost.was; gone = lost.gone }
      | inr gone ↦ absurd (none_or_some (sym gone ∙ lost.was))
    ]
      where
        none_or_some : None ≡ Some lost.description → ⊥
        none_or_some e = cc

    pipes : (new.pipes ≡ old.pipes) ⊎ HasLost old new
    pipes = elim two.pipes [
      | inr lost ↦ inr (lost_after lost)
      | inl same ↦ elim one.pipes [ inl as_before ↦ inl (same ∙ as_before) | inr lost ↦ inr (lost_before lost) ]
    ]

-- ---- one description goes

-- what goes isn't there
pub is_gone : (descriptions : Descriptions) (place : ℕ) → description_at (with_description descriptions place None) place ≡ None
is_gone descriptions place = elim (below_or_not place (length descriptions)) [
  | inl h ↦ get_or-set_same descriptions place None None h
  | inr h ↦ get_or_past (with_description descriptions place None) place None (subst (λ n. n ≤ place) (sym (length-set descriptions place None)) h)
]

-- of a place and another, the other stays
goes_alone : (descriptions : Descriptions) (place other : ℕ)
    → (description_at (with_description descriptions place None) other ≡ description_at descriptions other) ⊎ (description_at (with_description descriptions place None) other ≡ None)
goes_alone descriptions place other = elim (eqb_tells other place) [
  | inl same ↦ inr (subst (λ p. description_at (with_description descriptions place None) p ≡ None) (sym same.1) (is_gone descriptions place))
  | inr apart ↦ inl (get_or-set_other descriptions place other None None apart.1)
]

module _ (files : Files) (place : ℕ) (description : Description) (is : description_at files.descriptions place ≡ Some description) where
  -- the place of a node's description ends
  ends_here : (number : ℕ) (new : Files) → node_of files description.target ≡ Some number → new.descriptions ≡ with_description files.descriptions place None → ends_at files new place ≡ true
  ends_here number new on same = hold_both (is_some (opened_node files (description_at files.descriptions place))) (is_none (description_at new.descriptions place))
      (ap (λ d. is_some (opened_node files d)) is ∙ ap is_some on)
      (ap (λ d. is_none (description_at d place)) same ∙ ap is_none (is_gone files.descriptions place))

  target_fades : (target : Target) → description.target ≡ target
      → Fades files (target_closed (with_descriptions files (with_description files.descriptions place None)) description.access target)
  target_fades (OnNode number) on = go (opens (with_descriptions files (with_description files.descriptions place None)) number)
    where
      go : (b : Bool) → Fades files (cond b (with_descriptions files (with_description files.descriptions place None))
          (with_tree (with_descriptions files (with_description files.descriptions place None)) (closed files.tree number)))
      go true = record { each = goes_alone files.descriptions place; tree = inl refl; pipes = inl refl; nodes = λ other n is. is }
      go false = record { each = goes_alone files.descriptions place; tree = inr (place, ends_here number (with_tree (with_descriptions files (with_description files.descriptions place None)) (closed files.tree number)) (ap (node_of files) on) refl); pipes = inl refl; nodes = λ other n is. is }
  target_fades (OnPipe other) on = by_node (node_of files (OnPipe other)) refl
    where
      left : Files
      left = with_pipe (with_descriptions files (with_description files.descriptions place None)) other (after_close_pipe (pipe_at files other) (may_write description.access))

      lost : (tree : Tree) → (tree ≡ files.tree) ⊎ ((at : ℕ) × (ends_at files (with_tree left tree) at ≡ true)) → Fades files (with_tree left tree)
      lost tree same = record {
        each = goes_alone files.descriptions place;
        tree = same;
        pipes = inr (record { place = place; description = description; was = is; gone = is_gone files.descriptions place });
        nodes = closed_fifo files.pipes other (may_write description.access);
      }

      by_node : (o : Option ℕ) → node_of files (OnPipe other) ≡ o → Fades files (left_fifo left o)
      by_node None of = lost files.tree (inl refl)
      by_node (Some number) of = go (opens left number)
        where
          go : (b : Bool) → Fades files (cond b left (with_tree left (closed files.tree number)))
          go true = lost files.tree (inl refl)
          go false = lost (closed files.tree number) (inr (place, ends_here number (with_tree left (closed files.tree number)) (ap (node_of files) on ∙ of) refl))
  target_fades (OnSocket other) on = record { each = goes_alone files.descriptions place; tree = inl refl; pipes = inl refl; nodes = λ at n is. is }

gone_fades : (files : Files) (place : ℕ) → Fades files (description_gone files place)
gone_fades files place = go (description_at files.descriptions place) refl
  where
    go : (o : Option Description) → description_at files.descriptions place ≡ o → Fades files (gone_in files place o)
    go None is = fades_not files
    go (Some description) is = target_fades files place description is description.target refl

released_fades : (files : Files) (place : ℕ) → Fades files (released files place)
released_fades files place = go (is_named files.descriptors place)
  where
    go : (b : Bool) → Fades files (cond b files (description_gone files place))
    go true = fades_not files
    go false = gone_fades files place

-- ---- descriptors are closed

pub close_fades : (files : Files) (pid fd : ℕ) → Fades files (after_close files pid fd)
close_fades files pid fd = go (descriptor_at (descriptors_of files pid) fd)
  where
    go : (o : Option Descriptor) → Fades files (close_in files pid fd o)
    go None = fades_not files
    go (Some descriptor) = fades_on files (released (with_open files pid fd None) descriptor.description) (close_in files pid fd (Some descriptor))
        (fades_on files (with_open files pid fd None) (released (with_open files pid fd None) descriptor.description)
        (record { each = λ place. inl refl; tree = inl refl; pipes = inl refl; nodes = λ place number is. is }) (released_fades (with_open files pid fd None) descriptor.description))
        (record { each = λ place. inl refl; tree = inl refl; pipes = inl refl; nodes = λ place number is. is })

closes_fade : (files : Files) (pid : ℕ) (fds : List ℕ) → Fades files (after_closes files pid fds)
closes_fade files pid [] = fades_not files
closes_fade files pid (fd ∷ fds) = fades_on files (after_close files pid fd) (after_closes (after_close files pid fd) pid fds)
    (close_fades files pid fd) (closes_fade (after_close files pid fd) pid fds)

pub exec_fades : (files : Files) (pid : ℕ) → Fades files (after_exec_of files pid)
unfolding after_exec_of
exec_fades files pid = closes_fade files pid (filter (is_cloexec (descriptors_of files pid)) all_numbers)

end_fades : (files : Files) (pid : ℕ) → Fades files (after_end_of files pid)
unfolding after_end_of
end_fades files pid = fades_on files (after_closes files pid all_numbers) (with_opening (after_closes files pid all_numbers) pid None) (closes_fade files pid all_numbers)
    (record { each = λ place. inl refl; tree = inl refl; pipes = inl refl; nodes = λ place number is. is })

ends_fade : (files : Files) (pids : List ℕ) → Fades files (after_ends_of files pids)
ends_fade files [] = fades_not files
ends_fade files (pid ∷ pids) = fades_on files (after_end_of files pid) (after_ends_of (after_end_of files pid) pids)
    (end_fades files pid) (ends_fade (after_end_of files pid) pids)

pub closed_by_fades : (files : Files) (pid : ℕ) → Fades files (closed_by files pid)
closed_by_fades files zero = end_fades files zero
closed_by_fades files (suc zero) = ends_fade files (range_with_len 1 (length files.descriptors))
closed_by_fades files (suc (suc pid)) = end_fades files (suc (suc pid))

-- ---- the tree

-- a place that ends is one of those that are looked at
pub ends_among : (old new : Files) (place : ℕ) → ends_at old new place ≡ true → ends_node old new ≡ true
ends_among old new place ends = elim (below_or_not place (length old.descriptions)) [
  | inl h ↦ list_any_at (ends_at old new) (range_with_len 0 (length old.descriptions)) place 0
      (subst (λ n. place < n) (sym (length-range_with_len 0 (length old.descriptions))) h)
      (ap (ends_at old new) (get_or-range_with_len 0 (length old.descriptions) place 0 h ∙ none_before place) ∙ ends)
  | inr h ↦ absurd (some_not_none old (description_at old.descriptions place)
      (let parts = both_hold (is_some (opened_node old (description_at old.descriptions place))) (is_none (description_at new.descriptions place)) ends in parts.0)
      (get_or_past old.descriptions place None h))
]
  where
    none_before : (n : ℕ) → 0 + n ≡ n
    none_before n = omega arith

-- where no description of a node has gone, the tree is as it was
pub tree_kept : (old new : Files) → Fades old new → ends_node old new ≡ false → new.tree ≡ old.tree
tree_kept old new fades none = elim fades.tree [
  | inl same ↦ same
  | inr ended ↦ absurd (no (sym none ∙ ends_among old new ended.0 ended.1))
]
  where
    no : false ≡ true → ⊥
    no e = cc
