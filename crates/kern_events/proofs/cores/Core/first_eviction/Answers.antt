use Rattle.std.proofs.Common.{◌≡◌, Bool, true, false, cond, Option, None, Some, refl, sym, ap, ◌∙◌, slice_get, subst}
use Rattle.std.specs.Option.{option_map}
use Rattle.kabi_types.specs.declared.entries.Cached.{Cached}
use Rattle.kabi_types.specs.declared.entries.Cached.TheVariants.{Name, Block, Vnode}
use Rattle.kabi_types.specs.declared.entries.Event.TheVariants.{Evict}
use Rattle.posix_defs.specs.Choice.{evicts_in}
use Rattle.posix_defs.specs.CoreState.{CoreState, lives}
use Rattle.posix_defs.specs.World.{can_evict}
use Rattle.kern_events.specs.Reliefs.{first_evictable}
use Rattle.kern_events.proofs.FirstOther.{first_of, none_first}
use Rattle.kern_events.proofs.cores.Core.first_eviction.Goals as goal

-- the first eviction is of the first cache that can go, while the first process lives
evicted_first : (s : CoreState) (found : Option Cached) (alive : Bool) → found ≡ first_evictable s.world → alive ≡ lives s 1
    → cond alive (option_map Evict found) None ≡ slice_get (evicts_in s) 0
evicted_first s found alive is lives_on =
    let can = λ (what : Cached). can_evict s.world.plain s.world.kept what in
    ap (λ (first : Option Cached). cond alive (option_map Evict first) None) is
    ∙ ap (λ (on : Bool). cond on (option_map Evict (first_evictable s.world)) None) lives_on
    ∙ sym (first_of (lives s 1) (can Name) (can Block) (can Vnode))

pub returns-in_default : goal.returns-in_default
returns-in_default g c = λ s at. sym (none_first (lives s 1)) ∙ evicted_first s None (lives s 1) (c.in_default.ensures s at) refl

pub returns-then-alive : goal.returns-then-alive
returns-then-alive g c = λ s at.
    evicted_first s (Some c.in-Some.what) true (c.in-Some.ensures s at)
    (sym c.if-alive.true ∙ c.alive.ensures s.world (subst (λ core. g.T.Turner.stands core.store s.world) (sym c.self.view_is) at.stands))

pub returns-else-alive : goal.returns-else-alive
returns-else-alive g c = λ s at.
    evicted_first s (Some c.in-Some.what) false (c.in-Some.ensures s at)
    (sym c.if-alive.false ∙ c.alive.ensures s.world (subst (λ core. g.T.Turner.stands core.store s.world) (sym c.self.view_is) at.stands))
