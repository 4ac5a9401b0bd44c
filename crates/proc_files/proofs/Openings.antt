-- The nodes that descriptions open, as often as they do.
use Rattle.std.proofs.Common.{◌≡◌, ◌≢◌, ℕ, zero, suc, ◌+◌, ◌<◌, ◌==◌, Bool, cond, List, [], ◌∷◌, ◌++◌, set, Option, None, Some, refl, ap, sym, ◌∙◌, arith, eq-eqb, ne_eqb}
use Rattle.std.specs.Prelude.{slice_index_or}
use Rattle.std.specs.Option.{option_and_then}
use Rattle.std.proofs.lemmas.List.Sums.{sum_by-cons}
use Rattle.posix_defs.specs.Files.Descriptions.{Description, Descriptions, OnNode, OnPipe, OnSocket, Target, description_at}
use Rattle.posix_defs.specs.Files.State.{Files, beside, node_of, nodes_among, opened_node}
use Rattle.posix_defs.specs.Pipe.{fifo_of}
use Rattle.proc_files.specs.Holders.{times}

-- ---- numbers, by how often they stand

abbrev pub one_if : Bool → ℕ
one_if b = cond b 1 0

pub times_cons : (number first : ℕ) (rest : List ℕ) → times number (first ∷ rest) ≡ one_if (first == number) + times number rest
times_cons number first rest = sum_by-cons (λ other. one_if (other == number)) first rest

pub times_here : (number : ℕ) (rest : List ℕ) → times number (number ∷ rest) ≡ times number rest + 1
times_here number rest = let all = times_cons number number rest in let one : one_if (number == number) ≡ 1 = ap one_if (eq-eqb number number refl) in omega (arith, all, one)

pub times_apart : (number first : ℕ) (rest : List ℕ) → first ≢ number → times number (first ∷ rest) ≡ times number rest
times_apart number first rest apart = let all = times_cons number first rest in let none : one_if (first == number) ≡ 0 = ap one_if (ne_eqb first number apart) in omega (arith, all, none)

-- ---- one more, if there is one

pub times_beside : (number : ℕ) (more : Option ℕ) (rest : List ℕ) → times number (beside more rest) ≡ times number (beside more []) + times number rest
times_beside number None rest = let none : times number [] ≡ 0 = refl in omega (arith, none)
times_beside number (Some other) rest =
    let all = times_cons number other rest in let one = times_cons number other [] in let none : times number [] ≡ 0 = refl in omega (arith, all, one, none)

-- ---- the node of a target, where the pipes are the same

pub same_node : (one other : Files) → one.pipes ≡ other.pipes → (what : Target) → node_of one what ≡ node_of other what
same_node one other same (OnNode number) = refl
same_node one other same (OnPipe place) = ap (λ pipes. option_and_then fifo_of (slice_index_or pipes place None)) same
same_node one other same (OnSocket place) = refl

-- each of these descriptions opens in one machine what it opens in another
abbrev pub OpenTheSame : Files → Files → Descriptions → Type 0
OpenTheSame one other list = (place : ℕ) (d : Description) → description_at list place ≡ Some d → node_of one d.target ≡ node_of other d.target

pub all_same : (one other : Files) (list : Descriptions) → one.pipes ≡ other.pipes → OpenTheSame one other list
all_same one other list same place d is = same_node one other same d.target

pub same_nodes : (one other : Files) (list : Descriptions) → OpenTheSame one other list → nodes_among one list ≡ nodes_among other list
same_nodes one other [] each = refl
same_nodes one other (None ∷ list) each = same_nodes one other list (λ place. each (suc place))
same_nodes one other (Some d ∷ list) each =
    ap (λ o. beside o (nodes_among one list)) (each zero d refl) ∙ ap (beside (node_of other d.target)) (same_nodes one other list (λ place. each (suc place)))

-- a description that becomes another on the same target opens the same
pub nodes_set : (one other : Files) (list : Descriptions) (place : ℕ) (was now : Description) → OpenTheSame one other list → description_at list place ≡ Some was → now.target ≡ was.target
    → nodes_among one (set list place (Some now)) ≡ nodes_among other list
nodes_set one other [] zero was now each is same = cc
nodes_set one other [] (suc place) was now each is same = cc
nodes_set one other (first ∷ list) zero was now each is same =
    ap (λ what. beside (node_of one what) (nodes_among one list)) same
    ∙ ap (λ o. beside o (nodes_among one list)) (each zero was is)
    ∙ ap (beside (node_of other was.target)) (same_nodes one other list (λ place. each (suc place)))
    ∙ sym (ap (λ o. beside (opened_node other o) (nodes_among other list)) is)
nodes_set one other (None ∷ list) (suc place) was now each is same = nodes_set one other list place was now (λ at. each (suc at)) is same
nodes_set one other (Some d ∷ list) (suc place) was now each is same =
    ap (λ o. beside o (nodes_among one (set list place (Some now)))) (each zero d refl)
    ∙ ap (beside (node_of other d.target)) (nodes_set one other list place was now (λ at. each (suc at)) is same)

-- one that goes opens its node no more
pub nodes_gone : (one other : Files) (list : Descriptions) (place : ℕ) (was : Description) (number : ℕ) → OpenTheSame one other (set list place None) → description_at list place ≡ Some was
    → times number (nodes_among one (set list place None)) + times number (beside (node_of other was.target) []) ≡ times number (nodes_among other list)
nodes_gone one other [] zero was number each is = cc
nodes_gone one other [] (suc place) was number each is = cc
nodes_gone one other (first ∷ list) zero was number each is =
    let whole : times number (nodes_among other (first ∷ list)) ≡ times number (beside (node_of other was.target) (nodes_among other list)) =
    ap (λ o. times number (beside (opened_node other o) (nodes_among other list))) is in
    let split = times_beside number (node_of other was.target) (nodes_among other list) in
    let rest : times number (nodes_among one list) ≡ times number (nodes_among other list) = ap (times number) (same_nodes one other list (λ at. each (suc at))) in
    omega (arith, whole, split, rest)
nodes_gone one other (None ∷ list) (suc place) was number each is = nodes_gone one other list place was number (λ at. each (suc at)) is
nodes_gone one other (Some d ∷ list) (suc place) was number each is =
    let later = nodes_gone one other list place was number (λ at. each (suc at)) is in
    let now = times_beside number (node_of one d.target) (nodes_among one (set list place None)) in
    let before = times_beside number (node_of other d.target) (nodes_among other list) in
    let node : times number (beside (node_of one d.target) []) ≡ times number (beside (node_of other d.target) []) = ap (λ o. times number (beside o [])) (each zero d refl) in
    omega (arith, later, now, before, node)

-- one that is made behind all others opens its node once more
pub nodes_made : (one other : Files) (list : Descriptions) (made : Description) (number : ℕ) → OpenTheSame one other list
    → times number (nodes_among one (list ++ Some made ∷ [])) ≡ times number (nodes_among other list) + times number (beside (node_of one made.target) [])
nodes_made one other [] made number each = let none : times number [] ≡ 0 = refl in omega (arith, none)
nodes_made one other (None ∷ list) made number each = nodes_made one other list made number (λ at. each (suc at))
nodes_made one other (Some d ∷ list) made number each =
    let later = nodes_made one other list made number (λ at. each (suc at)) in
    let now = times_beside number (node_of one d.target) (nodes_among one (list ++ Some made ∷ [])) in
    let before = times_beside number (node_of other d.target) (nodes_among other list) in
    let node : times number (beside (node_of one d.target) []) ≡ times number (beside (node_of other d.target) []) = ap (λ o. times number (beside o [])) (each zero d refl) in
    omega (arith, later, now, before, node)

-- what a description opens is opened
pub opens_once : (files : Files) (list : Descriptions) (place number : ℕ) (was : Description) → description_at list place ≡ Some was → node_of files was.target ≡ Some number
    → 0 < times number (nodes_among files list)
opens_once files list place number was is on =
    let gone = nodes_gone files files list place was number (λ at d there. refl) is in
    let one : times number (beside (node_of files was.target) []) ≡ 1 = ap (λ o. times number (beside o [])) on ∙ times_here number [] in
    omega (arith, gone, one)
