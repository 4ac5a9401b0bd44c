-- Where no FIFO is open no pipe has a node.
use Rattle.std.proofs.Common.{◌≡◌, ℕ, ◌==◌, true, cond, [], Option, None, Some, is_none, refl, ap, ◌∙◌, subst, inl, inr, arith, Contains}
use Rattle.std.proofs.lemmas.Bool.{cases_eq}
use Rattle.std.specs.Option.{option_and_then}
use Rattle.fifo_nodes.specs.Chain.{IsChain}
use Rattle.fifo_nodes.proofs.ChainLemmas.{has_link, leads_none}
use Rattle.kheap_slabs.specs.Heap.{Heap}
use Rattle.kheap_slabs.specs.Objects.{object}
use Rattle.kheap_slabs.specs.declared.objects.Pipe.{Pipe}
use Rattle.kheap_slabs.specs.declared.objects.Target.TheVariants as target
use Rattle.open_laws.specs.Described.{fifo_in, node_in}
use Rattle.pipe_ends.specs.Links.{link_in}

no_node : (h : Heap) (key : ℕ) → IsChain h None → node_in h.pipes (target.Pipe key) ≡ None
no_node h key chain = by (object h.pipes key) refl
  where
    nobody : chain.keys ≡ []
    nobody = leads_none h chain.keys chain.chained

    by : (held : Option Pipe) → object h.pipes key ≡ held → node_in h.pipes (target.Pipe key) ≡ None
    by None at = ap (option_and_then fifo_in) at
    by (Some pipe) at = elim (cases_eq pipe.node 0) [
      | inl none ↦ ap (option_and_then fifo_in) at ∙ ap (λ node. cond (node == 0) None (Some node)) none
      | inr some ↦ absurd (let among = subst (λ keys. Contains keys key) nobody (chain.all key (link_in pipe) (has_link h key pipe at some)) in omega (arith, among.1))
    ]

pub no_nodes : (h : Heap) (first : Option ℕ) → IsChain h first → is_none first ≡ true → (key : ℕ) → node_in h.pipes (target.Pipe key) ≡ None
no_nodes h None chain none key = no_node h key chain
no_nodes h (Some first) chain none key = cc
