-- The chain is walked from its first one on.
use Rattle.std.proofs.Common.{◌≡◌, ◌≢◌, ℕ, suc, ◌<◌, List, [], ◌∷◌, ◌++◌, append_assoc, Option, None, Some, IsSome, refl, sym, ap, subst, ◌∙◌, arith, inl, inr, Contains}
use Rattle.chunk_queue.proofs.JoinedLemmas.{Contains-cons_cases}
use Rattle.kheap_laws.proofs.OnceLemmas.{IsOnce-tail}
use Rattle.kheap_slabs.specs.Keys.{IsOnce}
use Rattle.kheap_slabs.specs.Objects.{object, InUse, count}
use Rattle.kheap_slabs.specs.declared.objects.Pipe.{Pipe as HeldPipe}
use Rattle.kheap_slabs.specs.Heap.{Heap}
use Rattle.pipe_ends.specs.Links.{Link, link_in, link_at}
use Rattle.fifo_nodes.specs.Chain.{HasNoPipe, IsChain, IsFifoAt, Leads}
use Rattle.fifo_nodes.specs.Walking.{chain_left, EndsWith, Seeks, StandsBehind, Walks}
use Rattle.fifo_nodes.proofs.ChainLemmas.{left_less, leads_first, leads_none, leads_push, link_here, used_at}

-- the link of one that is reached
pub here_is : (h : Heap) (key : ℕ) (keys : List ℕ) (pipe : HeldPipe) → Leads h (Some key) keys None → object h.pipes key ≡ Some pipe → (link_at h key ≡ Some (link_in pipe)) × (pipe.node ≢ 0)
here_is h key keys pipe leads there =
    let it = leads_first h key keys leads in
    let same = link_here h key pipe it.1 there it.3 in
    (it.3 ∙ ap Some (sym same.1), same.0)

pub here_used : (h : Heap) (key : ℕ) (keys : List ℕ) → Leads h (Some key) keys None → InUse h.pipes key
here_used h key keys leads = let it = leads_first h key keys leads in used_at h key it.1 it.3

pub walks_less : (h : Heap) (key : ℕ) (keys : List ℕ) (pipe : HeldPipe) → Leads h (Some key) keys None → IsOnce keys → object h.pipes key ≡ Some pipe
    → chain_left (count h.pipes) h pipe.next < chain_left (count h.pipes) h (Some key)
walks_less h key keys pipe leads once there =
    let less = left_less h key (link_in pipe) keys leads once (here_is h key keys pipe leads there).0 in
    omega (arith, less)

-- ---- the pipe of a FIFO is sought

pub seeks_from : (h : Heap) (first : Option ℕ) (node : ℕ) → IsChain h first → Seeks h node first
seeks_from h first node chain = record {
  rest = chain.keys;
  behind = chain.chained;
  once = chain.once;
  mine = λ key is. chain.all key is.link is.there;
}

pub seeks_on : (h : Heap) (node key : ℕ) (pipe : HeldPipe) → Seeks h node (Some key) → object h.pipes key ≡ Some pipe → pipe.node ≢ node → Seeks h node pipe.next
seeks_on h node key pipe seeks there differs =
    let it = leads_first h key seeks.rest seeks.behind in
    let same = link_here h key pipe it.1 there it.3 in record {
      rest = it.0;
      behind = subst (λ (l : Link). Leads h l.next it.0 None) (sym same.1) it.4;
      once = IsOnce-tail key it.0 (subst IsOnce it.2 seeks.once);
      mine = λ other is. elim (Contains-cons_cases key other it.0 (subst (λ keys. Contains keys other) it.2 (seeks.mine other is))) [
        | inl here ↦ absurd (differs (
            let link : it.1 ≡ is.link = (let one = it.3 in let two = is.there in let at = here in cc) in
            ap (λ (l : Link). l.node) (same.1 ∙ link) ∙ is.same))
        | inr behind ↦ behind
      ];
    }

pub found_here : (h : Heap) (node key : ℕ) (pipe : HeldPipe) → Seeks h node (Some key) → object h.pipes key ≡ Some pipe → pipe.node ≡ node → IsFifoAt h node key
found_here h node key pipe seeks there same = record {
  link = link_in pipe;
  there = (here_is h key seeks.rest pipe seeks.behind there).0;
  same = same;
}

pub found_none : (h : Heap) (node : ℕ) → Seeks h node None → HasNoPipe h node
found_none h node seeks key is =
    let none = subst (λ keys. Contains keys key) (leads_none h seeks.rest seeks.behind) (seeks.mine key is) in
    omega (arith, none.1)

-- ---- the one before a key is sought

pub walks_from : (h : Heap) (first : Option ℕ) (key : ℕ) (link : Link) → IsChain h first → link_at h key ≡ Some link → Walks h first key None first
walks_from h first key link chain is = record {
  front = [];
  rest = chain.keys;
  lead = refl;
  behind = chain.chained;
  once = chain.once;
  all = chain.all;
  there = chain.all key link is;
  last = refl;
}

pub walks_on : (h : Heap) (first : Option ℕ) (key here : ℕ) (before : Option ℕ) (pipe : HeldPipe) → Walks h first key before (Some here) → object h.pipes here ≡ Some pipe → here ≢ key
    → Walks h first key (Some here) pipe.next
walks_on h first key here before pipe walks there differs =
    let it = leads_first h here walks.rest walks.behind in
    let same = link_here h here pipe it.1 there it.3 in
    let joined : walks.front ++ walks.rest ≡ (walks.front ++ here ∷ []) ++ it.0 = ap (λ keys. walks.front ++ keys) it.2 ∙ sym (append_assoc walks.front (here ∷ []) it.0) in record {
      front = walks.front ++ here ∷ [];
      rest = it.0;
      lead = subst (λ (l : Link). Leads h first (walks.front ++ here ∷ []) l.next) (sym same.1) (leads_push h first walks.front here it.1 walks.lead it.3);
      behind = subst (λ (l : Link). Leads h l.next it.0 None) (sym same.1) it.4;
      once = subst IsOnce joined walks.once;
      all = λ other link is. subst (λ keys. Contains keys other) joined (walks.all other link is);
      there = elim (Contains-cons_cases here key it.0 (subst (λ keys. Contains keys key) it.2 walks.there)) [
        | inl at ↦ absurd (differs at)
        | inr behind ↦ behind
      ];
      last = (walks.front, refl);
    }

pub walked_to : (h : Heap) (first : Option ℕ) (key : ℕ) (before : Option ℕ) → Walks h first key before (Some key) → StandsBehind h first key before
walked_to h first key before walks =
    let it = leads_first h key walks.rest walks.behind in record {
      front = walks.front;
      rest = it.0;
      lead = walks.lead;
      link = it.1;
      is = it.3;
      behind = it.4;
      once = subst (λ keys. IsOnce (walks.front ++ keys)) it.2 walks.once;
      all = λ other link is. subst (λ keys. Contains (walks.front ++ keys) other) it.2 (walks.all other link is);
      last = walks.last;
    }

-- it is never passed
pub walked_past : (h : Heap) (first : Option ℕ) (key : ℕ) (before : Option ℕ) → Walks h first key before None → ⊥
walked_past h first key before walks =
    let none = subst (λ keys. Contains keys key) (leads_none h walks.rest walks.behind) walks.there in
    omega (arith, none.1)
