-- The table of FIFOs is empty exactly where no FIFO is open in the machine.
use Rattle.std.proofs.Common.{◌≡◌, ◌≢◌, ℕ, suc, ◌==◌, ◌||◌, Bool, true, false, not, cond, List, [], ◌∷◌, length, get_or, Option, None, Some, is_none, is_some, IsSome, refl, ap, sym, ◌∙◌, subst, inl, inr, arith, Contains}
use Rattle.std.specs.List.{list_any}
use Rattle.std.proofs.lemmas.Bool.Decides.{eqb_tells}
use Rattle.std.proofs.lemmas.List.Folds.{list_any_at}
use Rattle.kabi_types.specs.declared.scripts.Script.{Script}
use Rattle.kheap_slabs.specs.Objects.{InUse, object}
use Rattle.kheap_slabs.specs.declared.objects.Pipe.{Pipe as HeldPipe}
use Rattle.kheap_slabs.specs.Heap.{Heap}
use Rattle.kheap_slabs.proofs.ObjectLemmas.{object_of}
use Rattle.pipe_ends.specs.Links.{Link, link_at}
use Rattle.pipe_ends.specs.Standing.{StandsFor as PipeStandsFor}
use Rattle.fifo_nodes.specs.Chain.{IsChain, Leads}
use Rattle.fifo_nodes.proofs.ChainLemmas.{has_link, leads_none, link_here, pipe_of}
use Rattle.machine_laws.proofs.Places.{there_within}
use Rattle.open_laws.specs.Piped.{ArePiped}
use Rattle.open_laws.specs.Placed.{Numbers}
use Rattle.posix_defs.specs.Pipe.{Pipe}
use Rattle.posix_defs.specs.Files.State.{Files}
use Rattle.posix_defs.specs.World.{World}
use Rattle.store_objects.specs.declared.objects.Objects.{Objects}
use Rattle.store_objects.specs.Standing.{StandsFor}
use Rattle.waking_laws.specs.Waking.{is_fifos, no_fifo}

-- a test that nothing passes
none_passes : (pipes : List (Option Pipe)) → ((place : ℕ) (pipe : Pipe) → object pipes place ≡ Some pipe → is_fifos (Some pipe) ≡ false) → list_any is_fifos pipes ≡ false
none_passes [] none = refl
none_passes (first ∷ pipes) none =
    ap (λ b. b || list_any is_fifos pipes) (here first refl) ∙ none_passes pipes (λ place pipe is. none (suc place) pipe is)
  where
    here : (o : Option Pipe) → first ≡ o → is_fifos o ≡ false
    here None is = refl
    here (Some pipe) is = none 0 pipe is

zero_is : (n : ℕ) → n ≡ 0 → not (n == 0) ≡ false
zero_is n is = ap (λ m. not (m == 0)) is

some_is : (n : ℕ) → n ≢ 0 → not (n == 0) ≡ true
some_is n other = elim (eqb_tells n 0) [ inl same ↦ absurd (other same.1) | inr apart ↦ ap not apart.0 ]

module _ (numbers : Numbers) (h : Heap) (pipes : List (Option Pipe)) (piped : ArePiped numbers h pipes) where
  -- where the chain is empty no pipe is a FIFO's
  none_there : IsChain h None → list_any is_fifos pipes ≡ false
  none_there chain = none_passes pipes (λ place pipe is. by_place place pipe is (piped.found place pipe is))
    where
      nobody : chain.keys ≡ []
      nobody = leads_none h chain.keys chain.chained

      absent : (key : ℕ) (link : Link) → link_at h key ≡ Some link → ⊥
      absent key link is = let among = subst (λ keys. Contains keys key) nobody (chain.all key link is) in omega (arith, among.1)

      by_place : (place : ℕ) (pipe : Pipe) → object pipes place ≡ Some pipe → (key : ℕ) × InUse h.pipes key × (numbers.pipes key ≡ place) → is_fifos (Some pipe) ≡ false
      by_place place pipe is at =
          let held = object_of h.pipes at.0 at.1 in
          let stands = (piped.means at.0 held.0 pipe held.1 (ap (object pipes) at.2 ∙ is)).1 in
          let one : stands.held ≡ held.0 = (let here = stands.there in let also = held.1 in cc) in
          elim (eqb_tells held.0.node 0) [
            | inl none ↦ zero_is pipe.node (sym stands.node ∙ ap (λ (p : HeldPipe). p.node) one ∙ none.1)
            | inr some ↦ absurd (absent at.0 _ (has_link h at.0 held.0 held.1 some.1))
          ]

  -- and where it has a first one that is
  some_there : (first : ℕ) → IsChain h (Some first) → list_any is_fifos pipes ≡ true
  some_there first chain = by_keys chain.keys chain.chained
    where
      by_keys : (keys : List ℕ) → Leads h (Some first) keys None → list_any is_fifos pipes ≡ true
      by_keys [] leads = absurd (cc)
      by_keys (key ∷ keys) leads =
          let held = pipe_of h key leads.1 leads.2 in
          let fifo = (link_here h key held.0 leads.1 held.1 leads.2).0 in
          let plain = piped.there key held.0 held.1 in
          let stands = (piped.means key held.0 plain.0 held.1 plain.1).1 in
          let one : stands.held ≡ held.0 = (let here = stands.there in let also = held.1 in cc) in
          list_any_at is_fifos pipes (numbers.pipes key) None (there_within pipes (numbers.pipes key) plain.0 plain.1)
          (ap is_fifos plain.1 ∙ some_is plain.0.node (λ none. fifo (ap (λ (p : HeldPipe). p.node) (sym one) ∙ stands.node ∙ none)))

  tells : (first : Option ℕ) → IsChain h first → is_none first ≡ not (list_any is_fifos pipes)
  tells None chain = ap not (sym (none_there chain))
  tells (Some first) chain = ap not (sym (some_there first chain))

-- so it is of a store
pub empty_is : (script : Script) (objects : Objects) (world : World) → StandsFor script objects world → is_none objects.fifos ≡ no_fifo world.plain.files
empty_is script objects world stands =
    tells stands.files.numbers objects.heap world.plain.files.pipes stands.files.opened.opened.piped objects.fifos stands.kept.chain
