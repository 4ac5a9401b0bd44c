-- Loops over lists of processes.
use Rattle.std.proofs.Common.{◌≡◌, ℕ, zero, suc, ◌+◌, ◌<◌, ◌≤◌, ◌&&◌, Bool, true, false, cond, List, [], ◌∷◌, ◌++◌, length, take, drop, filter, get_or, Option, Some, ap, sym, ◌∙◌, arith, append_assoc}
use Rattle.std.specs.Prelude.{nat_le}
use Rattle.std.specs.List.{list_all}
use Rattle.std.proofs.lemmas.List.{at_drop_more, drop_all, take_more, length-take-le}
use Rattle.std.proofs.Math.Seq.{take-append_seam, drop-append_seam}
use Rattle.posix_defs.specs.Plain.{Plain}
use Rattle.posix_defs.specs.Process.{is_alive}
use Rattle.kern_shared.specs.declared.held.Held.{Held}
use Rattle.kern_shared.specs.Lists.{AreAlive, AreNeeds, is_below, lowest}
use Rattle.kern_shared.specs.Shares.{pids_of}

-- the one at a place is alive where all are
pub alive_at : (plain : Plain) (pids : List ℕ) (place d : ℕ) → place < length pids → AreAlive plain pids → is_alive plain.table (get_or pids place d) ≡ true
alive_at plain [] place d within all = absurd (omega arith)
alive_at plain (pid ∷ pids) zero d within all = all.0
alive_at plain (pid ∷ pids) (suc place) d within all = alive_at plain pids place d (omega arith) all.1

-- where a test holds of the one at a place, it holds of all from there on if it does of all behind; where it doesn't, not of all
pub all_behind : (test : ℕ → Bool) (pids : List ℕ) (place d : ℕ) (all : Bool) → place < length pids → test (get_or pids place d) ≡ true
    → list_all test (drop place pids) ≡ all → list_all test (drop (place + 1) pids) ≡ all
all_behind test pids place d all within here rest =
    sym (at_drop_more (list_all test) pids place d within ∙ ap (λ b. b && list_all test (drop (place + 1) pids)) here) ∙ rest

pub not_all_here : (test : ℕ → Bool) (pids : List ℕ) (place d : ℕ) (all : Bool) → place < length pids → test (get_or pids place d) ≡ false
    → list_all test (drop place pids) ≡ all → false ≡ all
not_all_here test pids place d all within here rest =
    sym (at_drop_more (list_all test) pids place d within ∙ ap (λ b. b && list_all test (drop (place + 1) pids)) here) ∙ rest

-- one place further on the search for the lowest
pub lowest_behind : (passes : ℕ → Bool) (pids : List ℕ) (place d : ℕ) (found next all : Option ℕ) → place < length pids
    → next ≡ cond (is_below (get_or pids place d) found && passes (get_or pids place d)) (Some (get_or pids place d)) found
    → lowest passes found (drop place pids) ≡ all → lowest passes next (drop (place + 1) pids) ≡ all
lowest_behind passes pids place d found next all within here rest =
    ap (λ o. lowest passes o (drop (place + 1) pids)) here ∙ sym (at_drop_more (lowest passes found) pids place d within) ∙ rest

-- a filter of what is left of a list, where the next one stays, and where it goes
pub stays_here : (test : ℕ → Bool) (pids : List ℕ) (place d : ℕ) → place < length pids → test (get_or pids place d) ≡ true
    → take (place + 1) pids ++ filter test (drop (place + 1) pids) ≡ take place pids ++ filter test (drop place pids)
stays_here test pids place d within here =
    ap (λ l. l ++ filter test (drop (place + 1) pids)) (take_more pids place d within)
    ∙ append_assoc (take place pids) (get_or pids place d ∷ []) (filter test (drop (place + 1) pids))
    ∙ sym (ap (λ l. take place pids ++ l)
    (at_drop_more (filter test) pids place d within
    ∙ ap (λ (b : Bool). cond b (get_or pids place d ∷ filter test (drop (place + 1) pids)) (filter test (drop (place + 1) pids))) here))

pub goes_here : (test : ℕ → Bool) (pids left : List ℕ) (place d : ℕ) → place < length pids → test (get_or pids place d) ≡ false
    → left ≡ take place pids ++ drop (place + 1) pids → take place left ++ filter test (drop place left) ≡ take place pids ++ filter test (drop place pids)
goes_here test pids left place d within here left_is =
    let long : length (take place pids) ≡ place = length-take-le place pids (omega arith) in
    ap (λ l. take place l ++ filter test (drop place l)) left_is
    ∙ ap (λ l. l ++ filter test (drop place (take place pids ++ drop (place + 1) pids)))
    (sym (ap (λ n. take n (take place pids ++ drop (place + 1) pids)) long) ∙ take-append_seam (take place pids) (drop (place + 1) pids))
    ∙ ap (λ l. take place pids ++ filter test l)
    (sym (ap (λ n. drop n (take place pids ++ drop (place + 1) pids)) long) ∙ drop-append_seam (take place pids) (drop (place + 1) pids))
    ∙ sym (ap (λ l. take place pids ++ l)
    (at_drop_more (filter test) pids place d within
    ∙ ap (λ (b : Bool). cond b (get_or pids place d ∷ filter test (drop (place + 1) pids)) (filter test (drop (place + 1) pids))) here))

-- what the one at a place needs, by its pid
pub need_at : (need : ℕ → ℕ) (held : List Held) (place : ℕ) (d : Held) → place < length held → AreNeeds need held
    → (get_or held place d).bound ≡ need (get_or held place d).pid
need_at need [] place d within are = absurd (omega arith)
need_at need (h ∷ held) zero d within are = are.0
need_at need (h ∷ held) (suc place) d within are = need_at need held place d (omega arith) are.1

-- one place further on the search among those that are held
held_behind : (passes : ℕ → Bool) (held : List Held) (place : ℕ) (d : Held) (found next all : Option ℕ) → place < length held
    → next ≡ cond (is_below (get_or held place d).pid found && passes (get_or held place d).pid) (Some (get_or held place d).pid) found
    → lowest passes found (pids_of (drop place held)) ≡ all → lowest passes next (pids_of (drop (place + 1) held)) ≡ all
held_behind passes held place d found next all within here rest =
    ap (λ o. lowest passes o (pids_of (drop (place + 1) held))) here ∙ sym (at_drop_more (λ l. lowest passes found (pids_of l)) held place d within) ∙ rest

pub within_behind : (need : ℕ → ℕ) (most : ℕ) (held : List Held) (place : ℕ) (d : Held) (found next all : Option ℕ) → place < length held → AreNeeds need held
    → next ≡ cond (is_below (get_or held place d).pid found && nat_le (get_or held place d).bound most) (Some (get_or held place d).pid) found
    → lowest (λ pid. nat_le (need pid) most) found (pids_of (drop place held)) ≡ all → lowest (λ pid. nat_le (need pid) most) next (pids_of (drop (place + 1) held)) ≡ all
within_behind need most held place d found next all within are here rest =
    held_behind (λ pid. nat_le (need pid) most) held place d found next all within
    (here ∙ ap (λ n. cond (is_below (get_or held place d).pid found && nat_le n most) (Some (get_or held place d).pid) found) (need_at need held place d within are)) rest

pub alive_behind : (plain : Plain) (need : ℕ → ℕ) (most : ℕ) (held : List Held) (place : ℕ) (d : Held) (found next all : Option ℕ) → place < length held → AreNeeds need held
    → next ≡ cond (is_below (get_or held place d).pid found && (nat_le (get_or held place d).bound most && is_alive plain.table (get_or held place d).pid)) (Some (get_or held place d).pid) found
    → lowest (λ pid. nat_le (need pid) most && is_alive plain.table pid) found (pids_of (drop place held)) ≡ all
    → lowest (λ pid. nat_le (need pid) most && is_alive plain.table pid) next (pids_of (drop (place + 1) held)) ≡ all
alive_behind plain need most held place d found next all within are here rest =
    held_behind (λ pid. nat_le (need pid) most && is_alive plain.table pid) held place d found next all within
    (here ∙ ap (λ n. cond (is_below (get_or held place d).pid found && (nat_le n most && is_alive plain.table (get_or held place d).pid)) (Some (get_or held place d).pid) found)
    (need_at need held place d within are)) rest

-- at the end of the search among those that are held
pub held_end : (passes : ℕ → Bool) (held : List Held) (place : ℕ) (found all : Option ℕ) → length held ≤ place → lowest passes found (pids_of (drop place held)) ≡ all → found ≡ all
held_end passes held place found all past rest = sym (ap (λ l. lowest passes found (pids_of l)) (drop_all place held past)) ∙ rest
