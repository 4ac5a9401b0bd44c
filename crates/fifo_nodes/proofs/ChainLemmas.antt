-- The chain of FIFOs' pipes, by its keys.
use Rattle.std.proofs.Common.{◌≡◌, ◌≢◌, ◌⊎◌, ℕ, zero, suc, ◌+◌, ◌≤◌, List, [], ◌∷◌, ◌++◌, length, cond, eqb, ne_eqb, Option, None, Some, IsSome, refl, sym, ap, subst, ◌∙◌, arith, inl, inr, Contains}
use Rattle.std.proofs.lemmas.Bool.{cases_eq}
use Rattle.std.proofs.lemmas.List.Elements.{Contains-append_left, Contains-append_right, Contains-append_cases}
use Rattle.chunk_queue.proofs.JoinedLemmas.{Contains-cons, Contains-cons_cases}
use Rattle.kheap_laws.proofs.OnceLemmas.{IsOnce-tail, IsOnce-head, IsOnce-left, IsOnce-right, IsOnce-apart, IsOnce-append}
use Rattle.kheap_slabs.specs.Keys.{IsOnce}
use Rattle.kheap_slabs.specs.Objects.{object, InUse, count, without}
use Rattle.kheap_slabs.specs.declared.objects.Pipe.{Pipe as HeldPipe}
use Rattle.kheap_slabs.specs.Heap.{Heap}
use Rattle.kheap_slabs.proofs.ObjectLemmas.{count-without, object-without_other}
use Rattle.pipe_ends.specs.Links.{Link, link_in, link_of, link_at, KeepsLinks}
use Rattle.pipe_ends.proofs.LinkLemmas.{no_link}
use Rattle.fifo_nodes.specs.Chain.{IsChain, IsFifoAt, Leads}
use Rattle.fifo_nodes.specs.Walking.{chain_left, next_of}

-- ---- the pipe of a link

pub link_here : (h : Heap) (key : ℕ) (pipe : HeldPipe) (link : Link) → object h.pipes key ≡ Some pipe → link_at h key ≡ Some link → (pipe.node ≢ 0) × (link_in pipe ≡ link)
link_here h key pipe link there is = elim (cases_eq pipe.node 0) [
  | inl none ↦ absurd (let no : None ≡ Some link = sym (no_link pipe none) ∙ (sym (ap link_of there) ∙ is) in cc)
  | inr some ↦ (
    some,
    let here : Some (link_in pipe) ≡ Some link = sym (ap (λ b. cond b None (Some (link_in pipe))) (ne_eqb pipe.node 0 some)) ∙ (sym (ap link_of there) ∙ is) in cc,
  )
]

-- and the other way round
pub has_link : (h : Heap) (key : ℕ) (pipe : HeldPipe) → object h.pipes key ≡ Some pipe → pipe.node ≢ 0 → link_at h key ≡ Some (link_in pipe)
has_link h key pipe there some = ap link_of there ∙ ap (λ b. cond b None (Some (link_in pipe))) (ne_eqb pipe.node 0 some)

pub pipe_of : (h : Heap) (key : ℕ) (link : Link) → link_at h key ≡ Some link → (pipe : HeldPipe) × (object h.pipes key ≡ Some pipe)
pipe_of h key link is = go (object h.pipes key) refl is
  where
    go : (o : Option HeldPipe) → object h.pipes key ≡ o → link_of o ≡ Some link → (pipe : HeldPipe) × (object h.pipes key ≡ Some pipe)
    go None at none = absurd (cc)
    go (Some pipe) at said = (pipe, at)

pub used_at : (h : Heap) (key : ℕ) (link : Link) → link_at h key ≡ Some link → InUse h.pipes key
used_at h key link is = let it = pipe_of h key link is in subst IsSome (sym it.1) refl

-- a FIFO has one pipe
pub one_pipe : (h : Heap) (first : Option ℕ) (node one other : ℕ) → IsChain h first → IsFifoAt h node one → IsFifoAt h node other → one ≡ other
one_pipe h first node one other chain is also = chain.alone one other is.link also.link is.there also.there (is.same ∙ sym also.same)

-- ---- keys that lead somewhere

-- each of them is a FIFO's
pub linked : (h : Heap) (first : Option ℕ) (keys : List ℕ) (at : Option ℕ) (key : ℕ) → Leads h first keys at → Contains keys key → (link : Link) × (link_at h key ≡ Some link)
linked h first [] at key leads among = absurd (omega (arith, among.1))
linked h None (k ∷ ks) at key leads among = absurd leads
linked h (Some first) (k ∷ ks) at key leads among = elim (Contains-cons_cases k key ks among) [
  | inl same ↦ (leads.1, subst (λ x. link_at h x ≡ Some leads.1) same leads.2)
  | inr behind ↦ linked h leads.1.next ks at key leads.3 behind
]

-- they lead there in a heap in which each stands before the same one
pub leads_on : (old new : Heap) (first : Option ℕ) (keys : List ℕ) (at : Option ℕ)
    → ((key : ℕ) (link : Link) → Contains keys key → link_at old key ≡ Some link → (now : Link) × (link_at new key ≡ Some now) × (now.next ≡ link.next))
    → Leads old first keys at → Leads new first keys at
leads_on old new first [] at stays leads = leads
leads_on old new None (key ∷ keys) at stays leads = leads
leads_on old new (Some first) (key ∷ keys) at stays leads =
    let now = stays key leads.1 (0, omega arith, refl) leads.2 in (
      leads.0,
      now.0,
      now.1,
      subst (λ next. Leads new next keys at) (sym now.2)
          (leads_on old new leads.1.next keys at (λ k link there. stays k link (Contains-cons key k keys there)) leads.3),
    )

pub leads_join : (h : Heap) (first : Option ℕ) (front : List ℕ) (at : Option ℕ) (back : List ℕ) (end : Option ℕ) → Leads h first front at → Leads h at back end → Leads h first (front ++ back) end
leads_join h first [] at back end lead behind = subst (λ f. Leads h f back end) (sym lead) behind
leads_join h None (key ∷ keys) at back end lead behind = absurd lead
leads_join h (Some first) (key ∷ keys) at back end lead behind = (lead.0, lead.1, lead.2, leads_join h lead.1.next keys at back end lead.3 behind)

pub leads_push : (h : Heap) (first : Option ℕ) (front : List ℕ) (key : ℕ) (link : Link) → Leads h first front (Some key) → link_at h key ≡ Some link → Leads h first (front ++ key ∷ []) link.next
leads_push h first front key link lead is = leads_join h first front (Some key) (key ∷ []) link.next lead (refl, link, is, refl)

-- the last of them stands before where they lead
pub leads_last : (h : Heap) (first : Option ℕ) (ahead : List ℕ) (key : ℕ) (at : Option ℕ) → Leads h first (ahead ++ key ∷ []) at
    → (link : Link) × (link_at h key ≡ Some link) × (link.next ≡ at) × Leads h first ahead (Some key)
leads_last h None [] key at leads = absurd leads
leads_last h (Some first) [] key at leads = (leads.1, leads.2, leads.3, ap Some leads.0)
leads_last h None (k ∷ ahead) key at leads = absurd leads
leads_last h (Some first) (k ∷ ahead) key at leads =
    let behind = leads_last h leads.1.next ahead key at leads.3 in
    (behind.0, behind.1, behind.2, (leads.0, leads.1, leads.2, behind.3))

-- where they lead to none, the first of them is where they begin
pub leads_first : (h : Heap) (key : ℕ) (keys : List ℕ) → Leads h (Some key) keys None → (rest : List ℕ) × (link : Link) × (keys ≡ key ∷ rest) × (link_at h key ≡ Some link) × Leads h link.next rest None
leads_first h key [] leads = absurd (cc)
leads_first h key (k ∷ keys) leads = (keys, leads.1, ap (λ x. x ∷ keys) (sym leads.0), subst (λ x. link_at h x ≡ Some leads.1) (sym leads.0) leads.2, leads.3)

pub leads_none : (h : Heap) (keys : List ℕ) → Leads h None keys None → keys ≡ []
leads_none h [] leads = refl
leads_none h (k ∷ keys) leads = absurd leads

-- ---- how many they are

-- no more keys than objects, where each is one's and none stands twice
pub keys_few : {X : Type 0} (objects : List (Option X)) (keys : List ℕ) → IsOnce keys → ((key : ℕ) → Contains keys key → InUse objects key) → length keys ≤ count objects
keys_few objects [] once used = omega arith
keys_few objects (key ∷ rest) once used =
    let less = count-without objects key (used key (0, omega arith, refl)) in
    let behind = keys_few (without objects key) rest (IsOnce-tail key rest once) (λ other among.
    subst IsSome (sym (object-without_other objects key other (λ same. IsOnce-head key rest once (subst (Contains rest) same among))))
    (used other (Contains-cons key other rest among))) in
    omega (arith, less, behind)

pub left_is : (n : ℕ) (h : Heap) (at : Option ℕ) (keys : List ℕ) → Leads h at keys None → length keys ≤ n → chain_left n h at ≡ length keys
unfolding chain_left
left_is zero h at [] leads few = refl
left_is zero h at (k ∷ keys) leads few = absurd (omega (arith, few))
left_is (suc n) h None [] leads few = refl
left_is (suc n) h (Some key) [] leads few = absurd (cc)
left_is (suc n) h None (k ∷ keys) leads few = absurd leads
left_is (suc n) h (Some key) (k ∷ keys) leads few =
    let link : link_at h key ≡ Some leads.1 = subst (λ x. link_at h x ≡ Some leads.1) (sym leads.0) leads.2 in
    ap (λ m. suc m) (ap (λ o. chain_left n h (next_of o)) link ∙ left_is n h leads.1.next keys leads.3 (omega (arith, few)))

-- fewer are left behind one than from it on
pub left_less : (h : Heap) (key : ℕ) (link : Link) (keys : List ℕ) → Leads h (Some key) keys None → IsOnce keys → link_at h key ≡ Some link
    → suc (chain_left (count h.pipes) h link.next) ≡ chain_left (count h.pipes) h (Some key)
left_less h key link keys leads once is =
    let it = leads_first h key keys leads in
    let same : it.1 ≡ link = (let one = it.3 in let two = is in cc) in
    let few : length keys ≤ count h.pipes = keys_few h.pipes keys once (λ k among. let l = linked h (Some key) keys None k leads among in used_at h k l.0 l.1) in
    let size : length keys ≡ suc (length it.0) = ap length it.2 in
    let from = left_is (count h.pipes) h (Some key) keys leads few in
    let behind = left_is (count h.pipes) h link.next it.0 (subst (λ (l : Link). Leads h l.next it.0 None) same it.4) (omega (arith, few, size)) in
    ap (λ m. suc m) behind ∙ (sym size ∙ sym from)

-- ---- keys without one of them

pub once_without : (front : List ℕ) (key : ℕ) (rest : List ℕ) → IsOnce (front ++ key ∷ rest) → IsOnce (front ++ rest)
once_without front key rest once =
    IsOnce-append front rest (IsOnce-left front (key ∷ rest) once) (IsOnce-tail key rest (IsOnce-right front (key ∷ rest) once))
    (λ other here there. IsOnce-apart front (key ∷ rest) once other here (Contains-cons key other rest there))

pub absent_without : (front : List ℕ) (key : ℕ) (rest : List ℕ) → IsOnce (front ++ key ∷ rest) → Contains (front ++ rest) key → ⊥
absent_without front key rest once among = elim (Contains-append_cases front rest key among) [
  | inl here ↦ IsOnce-apart front (key ∷ rest) once key here (0, omega arith, refl)
  | inr there ↦ IsOnce-head key rest (IsOnce-right front (key ∷ rest) once) there
]

pub among_without : (front : List ℕ) (key : ℕ) (rest : List ℕ) (other : ℕ) → other ≢ key → Contains (front ++ key ∷ rest) other → Contains (front ++ rest) other
among_without front key rest other apart among = elim (Contains-append_cases front (key ∷ rest) other among) [
  | inl here ↦ Contains-append_left front rest other here
  | inr there ↦ elim (Contains-cons_cases key other rest there) [
    | inl same ↦ absurd (apart (sym same))
    | inr behind ↦ Contains-append_right front rest other behind
  ]
]

-- ---- the chain goes on

-- where no link is other than before
pub chain_kept : (old new : Heap) (first : Option ℕ) → KeepsLinks old new → IsChain old first → IsChain new first
chain_kept old new first keeps chain = record {
  keys = chain.keys;
  chained = leads_on old new first chain.keys None (λ key link among is. (link, keeps key ∙ is, refl)) chain.chained;
  once = chain.once;
  all = λ key link is. chain.all key link (sym (keeps key) ∙ is);
  alone = λ key other link another is also. chain.alone key other link another (sym (keeps key) ∙ is) (sym (keeps other) ∙ also);
  few = λ key link is. chain.few key link (sym (keeps key) ∙ is);
}
