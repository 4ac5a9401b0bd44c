-- The chain while an end of a FIFO's pipe is closed.
use Rattle.std.proofs.Common.{◌≡◌, ◌≢◌, ◌-◌, ◌<◌, ◌≤◌, ◌==◌, ◌&&◌, ℕ, Bool, true, false, not, List, [], ◌∷◌, ◌++◌, cond, eqb, ne_eqb, Option, None, Some, refl, sym, ap, subst, ◌∙◌, arith, inl, inr, Contains}
use Rattle.std.proofs.lemmas.Bool.{cases_eq}
use Rattle.std.proofs.lemmas.List.Elements.{Contains-append_right}
use Rattle.chunk_queue.proofs.JoinedLemmas.{Contains-cons}
use Rattle.kheap_laws.proofs.OnceLemmas.{IsOnce-left, IsOnce-apart}
use Rattle.kheap_slabs.specs.Keys.{IsOnce}
use Rattle.kheap_slabs.specs.Objects.{object, InUse, put}
use Rattle.kheap_slabs.specs.declared.objects.Pipe.{Pipe as HeldPipe}
use Rattle.kheap_slabs.specs.Heap.{Heap}
use Rattle.kheap_slabs.proofs.ObjectLemmas.{object-put_other}
use Rattle.pipe_ends.specs.Links.{Link, link_in, link_of, link_at, link_closed, link_less, ClosesLink}
use Rattle.pipe_ends.proofs.LinkLemmas.{no_link, links_kept}
use Rattle.pipe_ends.proofs.RelinkLemmas.{before_next}
use Rattle.fifo_nodes.specs.Chain.{HasFewEnds, IsChain, Leads}
use Rattle.fifo_nodes.specs.Held.{has_last_end, held_ends}
use Rattle.fifo_nodes.specs.Walking.{IsChainBut, StandsBehind}
use Rattle.fifo_nodes.proofs.ChainLemmas.{absent_without, among_without, chain_kept, has_link, leads_join, leads_last, leads_on, leads_push, link_here, once_without, used_at}

-- ---- one leaves the chain

-- the first one
pub but_first : (h : Heap) (first : Option ℕ) (key : ℕ) (link : Link) → IsChain h first → link_at h key ≡ Some link → StandsBehind h first key None → IsChainBut h link.next key
but_first h first key link chain is stands =
    let same : stands.link ≡ link = (let one = stands.is in let two = is in cc) in record {
      keys = stands.front ++ stands.rest;
      chained =
          subst (λ front. Leads h link.next (front ++ stands.rest) None) (sym stands.last)
          (subst (λ (l : Link). Leads h l.next stands.rest None) same stands.behind);
      once = once_without stands.front key stands.rest stands.once;
      absent = absent_without stands.front key stands.rest stands.once;
      all = λ other its apart at. among_without stands.front key stands.rest other apart (stands.all other its at);
      alone = chain.alone;
      few = chain.few;
    }

-- the one before a key is a pipe
pub behind_used : (h : Heap) (first : Option ℕ) (key before : ℕ) → StandsBehind h first key (Some before) → InUse h.pipes before
behind_used h first key before stands =
    let it = leads_last h first stands.last.0 before (Some key) (subst (λ front. Leads h first front (Some key)) stands.last.1 stands.lead) in
    used_at h before it.0 it.1

-- one that stands behind another, which stands before the next one then
module _ (old new : Heap) (first : Option ℕ) (key before : ℕ) (link : Link) (pipe : HeldPipe) (chain : IsChain old first) (is : link_at old key ≡ Some link) (stands : StandsBehind old first key (Some before)) (there : object old.pipes before ≡ Some pipe) (stored : object new.pipes before ≡ Some (before_next pipe link.next)) (kept : new ≡ record old { pipes = put old.pipes before (before_next pipe link.next) }) where
  lead : (its : Link) × (link_at old before ≡ Some its) × (its.next ≡ Some key) × Leads old first stands.last.0 (Some before)
  lead = leads_last old first stands.last.0 before (Some key) (subst (λ front. Leads old first front (Some key)) stands.last.1 stands.lead)

  here : link_at new before ≡ Some (link_in (before_next pipe link.next))
  here = has_link new before (before_next pipe link.next) stored (link_here old before pipe lead.0 there lead.1).0

  beside : (other : ℕ) → other ≢ before → link_at new other ≡ link_at old other
  beside other apart = ap link_of (ap (λ (h : Heap). object h.pipes other) kept ∙ object-put_other old.pipes before other (before_next pipe link.next) apart)

  was : (other : ℕ) (now : Link) → link_at new other ≡ Some now → (its : Link) × (link_at old other ≡ Some its) × (its ≡ record now { next = its.next })
  was other now at = elim (cases_eq other before) [
    | inl same ↦ (
      link_in pipe,
      ap (link_at old) same ∙ has_link old before pipe there (link_here old before pipe lead.0 there lead.1).0,
      (let one : link_at new before ≡ Some now = sym (ap (link_at new) same) ∙ at in
          let two : link_in (before_next pipe link.next) ≡ now = (let a = here in cc) in
          ap (λ (l : Link). record l { next = pipe.next }) two),
    )
    | inr apart ↦ (now, sym (beside other apart) ∙ at, refl)
  ]

  in_front : Contains stands.front before
  in_front = subst (λ front. Contains front before) (sym stands.last.1) (Contains-append_right stands.last.0 (before ∷ []) before (0, omega arith, refl))

  ahead_apart : (other : ℕ) → Contains stands.last.0 other → other ≢ before
  ahead_apart other among same =
      IsOnce-apart stands.last.0 (before ∷ []) (subst IsOnce stands.last.1 (IsOnce-left stands.front (key ∷ stands.rest) stands.once)) other among (0, omega arith, sym same)

  rest_apart : (other : ℕ) → Contains stands.rest other → other ≢ before
  rest_apart other among same =
      IsOnce-apart stands.front (key ∷ stands.rest) stands.once before in_front (Contains-cons key before stands.rest (subst (Contains stands.rest) same among))

  next_is : stands.link ≡ link
  next_is = let one = stands.is in let two = is in cc

  front_leads : Leads new first stands.front link.next
  front_leads =
      subst (λ front. Leads new first front link.next) (sym stands.last.1)
      (leads_push new first stands.last.0 before (link_in (before_next pipe link.next))
      (leads_on old new first stands.last.0 (Some before) (λ other its among at. (its, beside other (ahead_apart other among) ∙ at, refl)) lead.3) here)

  pub but_behind : IsChainBut new first key
  but_behind = record {
    keys = stands.front ++ stands.rest;
    chained = leads_join new first stands.front link.next stands.rest None front_leads
        (leads_on old new link.next stands.rest None (λ other its among at. (its, beside other (rest_apart other among) ∙ at, refl))
        (subst (λ (l : Link). Leads old l.next stands.rest None) next_is stands.behind));
    once = once_without stands.front key stands.rest stands.once;
    absent = absent_without stands.front key stands.rest stands.once;
    all = λ other its apart at. let it = was other its at in among_without stands.front key stands.rest other apart (stands.all other it.0 it.1);
    alone = λ one other its another at also same.
        let it = was one its at in
        let second = was other another also in
        chain.alone one other it.0 second.0 it.1 second.1 (ap (λ (l : Link). l.node) it.2 ∙ (same ∙ sym (ap (λ (l : Link). l.node) second.2)));
    few = λ other its at.
        let it = was other its at in
        let few = chain.few other it.0 it.1 in record {
          readers = subst (λ (l : Link). l.readers ≤ l.read_opens) it.2 few.readers;
          writers = subst (λ (l : Link). l.writers ≤ l.write_opens) it.2 few.writers;
        };
  }

  -- the one that leaves has the link that it had
  pub link_stays_but : link_at new key ≡ link_at old key
  link_stays_but = beside key (λ same. IsOnce-apart stands.front (key ∷ stands.rest) stands.once before in_front (0, omega arith, same))

-- ---- the chain after a close

-- with the last end the pipe goes
pub closes_last : (mid closed : Heap) (first : Option ℕ) (key : ℕ) (writing : Bool) → IsChainBut mid first key → link_closed writing (link_at mid key) ≡ None → ClosesLink mid closed key writing → IsChain closed first
closes_last mid closed first key writing chain none closes = record {
  keys = chain.keys;
  chained = leads_on mid closed first chain.keys None (λ other its among at. (its, closes.others other (λ same. chain.absent (subst (Contains chain.keys) same among)) ∙ at, refl)) chain.chained;
  once = chain.once;
  all = λ other its at. let apart = gone other its at in chain.all other its apart (sym (closes.others other apart) ∙ at);
  alone = λ one other its another at also same.
      chain.alone one other its another (sym (closes.others one (gone one its at)) ∙ at) (sym (closes.others other (gone other another also)) ∙ also) same;
  few = λ other its at. chain.few other its (sym (closes.others other (gone other its at)) ∙ at);
}
  where
    gone : (other : ℕ) (its : Link) → link_at closed other ≡ Some its → other ≢ key
    gone other its at same = let no : link_at closed other ≡ None = ap (link_at closed) same ∙ (closes.here ∙ none) in cc

-- else it stays where it is
stays_less : (mid closed : Heap) (first : Option ℕ) (key : ℕ) (writing : Bool) (link : Link) → IsChain mid first → link_at mid key ≡ Some link → link_closed writing (link_at mid key) ≡ Some (link_less writing link)
    → ClosesLink mid closed key writing → IsChain closed first
stays_less mid closed first key writing link chain is some closes = record {
  keys = chain.keys;
  chained = leads_on mid closed first chain.keys None on chain.chained;
  once = chain.once;
  all = λ other its at. let it = was other its at in chain.all other it.0 it.1;
  alone = λ one other its another at also same.
      let it = was one its at in
      let second = was other another also in
      chain.alone one other it.0 second.0 it.1 second.1 (it.2 ∙ (same ∙ sym second.2));
  few = λ other its at. let it = was other its at in it.3 (chain.few other it.0 it.1);
}
  where
    now : link_at closed key ≡ Some (link_less writing link)
    now = closes.here ∙ some

    less_next : (writing : Bool) → (link_less writing link).next ≡ link.next
    less_next true = refl
    less_next false = refl

    less_node : (writing : Bool) → (link_less writing link).node ≡ link.node
    less_node true = refl
    less_node false = refl

    less_few : (writing : Bool) → HasFewEnds link → HasFewEnds (link_less writing link)
    less_few true few = record { readers = few.readers; writers = omega (arith, few.writers) }
    less_few false few = record { readers = omega (arith, few.readers); writers = few.writers }

    on : (other : ℕ) (its : Link) → Contains chain.keys other → link_at mid other ≡ Some its → (left : Link) × (link_at closed other ≡ Some left) × (left.next ≡ its.next)
    on other its among at = elim (cases_eq other key) [
      | inl same ↦ (
        link_less writing link,
        ap (link_at closed) same ∙ now,
        (let one : link_at mid key ≡ Some its = sym (ap (link_at mid) same) ∙ at in
            let two : link ≡ its = (let a = is in cc) in
            less_next writing ∙ ap (λ (l : Link). l.next) two),
      )
      | inr apart ↦ (its, closes.others other apart ∙ at, refl)
    ]

    was : (other : ℕ) (its : Link) → link_at closed other ≡ Some its → (had : Link) × (link_at mid other ≡ Some had) × (had.node ≡ its.node) × (HasFewEnds had → HasFewEnds its)
    was other its at = elim (cases_eq other key) [
      | inl same ↦
          let one : link_at closed key ≡ Some its = sym (ap (link_at closed) same) ∙ at in
          let two : link_less writing link ≡ its = (let a = now in cc) in (
            link,
            ap (link_at mid) same ∙ is,
            sym (less_node writing) ∙ ap (λ (l : Link). l.node) two,
            λ few. subst HasFewEnds two (less_few writing few),
          )
      | inr apart ↦ (its, sym (closes.others other apart) ∙ at, refl, λ few. few)
    ]

and_false : (b : Bool) → (b && false) ≡ false
and_false true = refl
and_false false = refl

both_zero : (a b : ℕ) → (a ≡ 0 → b ≡ 0 → ⊥) → (eqb a 0 && eqb b 0) ≡ false
both_zero a b not_both = elim (cases_eq a 0) [
  | inl none ↦ elim (cases_eq b 0) [
    | inl also ↦ absurd (not_both none also)
    | inr some ↦ ap (λ x. eqb a 0 && x) (ne_eqb b 0 some) ∙ and_false (eqb a 0)
  ]
  | inr some ↦ ap (λ x. x && eqb b 0) (ne_eqb a 0 some)
]

-- it is the last end where this side has one and the other none
is_last_of : (pipe : HeldPipe) (writing : Bool) → pipe.node ≢ 0 → held_ends pipe writing ≡ 1 → held_ends pipe (not writing) ≡ 0 → has_last_end pipe writing ≡ true
is_last_of pipe writing some one none =
    ap (λ b. not b && (eqb (held_ends pipe writing) 1 && eqb (held_ends pipe (not writing)) 0)) (ne_eqb pipe.node 0 some)
    ∙ (ap (λ n. eqb n 1 && eqb (held_ends pipe (not writing)) 0) one ∙ ap (λ n. eqb n 0) none)

less_stays : (pipe : HeldPipe) (writing : Bool) → pipe.node ≢ 0 → 0 < held_ends pipe writing → has_last_end pipe writing ≡ false
    → (eqb (link_less writing (link_in pipe)).readers 0 && eqb (link_less writing (link_in pipe)).writers 0) ≡ false
less_stays pipe true some end last = both_zero pipe.readers (pipe.writers - 1) (λ none also. let yes = is_last_of pipe true some (omega (arith, end, also)) none in let no = last in absurd (cc))
less_stays pipe false some end last = both_zero (pipe.readers - 1) pipe.writers (λ none also. let yes = is_last_of pipe false some (omega (arith, end, none)) also in let no = last in absurd (cc))

pub closes_less : (mid closed : Heap) (first : Option ℕ) (key : ℕ) (writing : Bool) (pipe : HeldPipe) → IsChain mid first → object mid.pipes key ≡ Some pipe → 0 < held_ends pipe writing → has_last_end pipe writing ≡ false
    → ClosesLink mid closed key writing → IsChain closed first
closes_less mid closed first key writing pipe chain there end last closes = elim (cases_eq pipe.node 0) [
  | inl none ↦
      let no : link_at mid key ≡ None = ap link_of there ∙ no_link pipe none in
      chain_kept mid closed first (links_kept mid closed key (closes.here ∙ (ap (link_closed writing) no ∙ sym no)) closes.others) chain
  | inr some ↦
      let is : link_at mid key ≡ Some (link_in pipe) = has_link mid key pipe there some in
      stays_less mid closed first key writing (link_in pipe) chain is
      (ap (link_closed writing) is ∙ ap (λ b. cond b None (Some (link_less writing (link_in pipe)))) (less_stays pipe writing some end last)) closes
]

-- the last end is that of a FIFO's pipe, which goes with it
last_node : (pipe : HeldPipe) (writing : Bool) → has_last_end pipe writing ≡ true → pipe.node ≢ 0
last_node pipe writing last none =
    let no : has_last_end pipe writing ≡ false = ap (λ n. not (eqb n 0) && (eqb (held_ends pipe writing) 1 && eqb (held_ends pipe (not writing)) 0)) none in cc

last_ends : (pipe : HeldPipe) (writing : Bool) → has_last_end pipe writing ≡ true → (held_ends pipe writing ≡ 1) × (held_ends pipe (not writing) ≡ 0)
last_ends pipe writing last = (
  elim (cases_eq (held_ends pipe writing) 1) [
    | inl one ↦ one
    | inr other ↦
        let no : has_last_end pipe writing ≡ false = ap (λ b. not (eqb pipe.node 0) && (b && eqb (held_ends pipe (not writing)) 0)) (ne_eqb (held_ends pipe writing) 1 other) ∙ and_false (not (eqb pipe.node 0)) in absurd (cc)
  ],
  elim (cases_eq (held_ends pipe (not writing)) 0) [
    | inl none ↦ none
    | inr some ↦
        let no : has_last_end pipe writing ≡ false = ap (λ b. not (eqb pipe.node 0) && (eqb (held_ends pipe writing) 1 && b)) (ne_eqb (held_ends pipe (not writing)) 0 some)
        ∙ (ap (λ b. not (eqb pipe.node 0) && b) (and_false (eqb (held_ends pipe writing) 1)) ∙ and_false (not (eqb pipe.node 0))) in absurd (cc)
  ],
)

gone_with : (pipe : HeldPipe) (writing : Bool) → held_ends pipe writing ≡ 1 → held_ends pipe (not writing) ≡ 0
    → (eqb (link_less writing (link_in pipe)).readers 0 && eqb (link_less writing (link_in pipe)).writers 0) ≡ true
gone_with pipe true one none = ap (λ n. eqb n 0 && eqb (pipe.writers - 1) 0) none ∙ ap (λ n. eqb (n - 1) 0) one
gone_with pipe false one none = ap (λ n. eqb (n - 1) 0 && eqb pipe.writers 0) one ∙ ap (λ n. eqb n 0) none

pub last_closed : (h : Heap) (key : ℕ) (pipe : HeldPipe) (writing : Bool) → object h.pipes key ≡ Some pipe → has_last_end pipe writing ≡ true
    → (link_at h key ≡ Some (link_in pipe)) × (link_closed writing (link_at h key) ≡ None)
last_closed h key pipe writing there last =
    let some = last_node pipe writing last in
    let is = has_link h key pipe there some in
    let ends = last_ends pipe writing last in
    (is, ap (link_closed writing) is ∙ ap (λ b. cond b None (Some (link_less writing (link_in pipe)))) (gone_with pipe writing ends.0 ends.1))
