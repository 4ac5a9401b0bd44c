-- The events that are of no process, as a list of those that there are.
use Rattle.std.proofs.Common.{◌≡◌, ℕ, Bool, true, false, cond, List, [], ◌∷◌, ◌++◌, Option, None, Some, filter, refl, ap, ◌∙◌}
use Rattle.std.specs.Option.{option_to_list}
use Rattle.kabi_types.specs.declared.entries.Cached.TheVariants.{Name, Block, Vnode}
use Rattle.kabi_types.specs.declared.entries.Event.{Event}
use Rattle.kabi_types.specs.declared.scripts.Script.{Script}
use Rattle.posix_defs.specs.World.{can_evict}
use Rattle.posix_defs.specs.Victim.{victim_of}
use Rattle.posix_defs.specs.Licence.{is_licensed}
use Rattle.posix_defs.specs.CoreState.{CoreState, lives}
use Rattle.posix_defs.specs.Choice.{asks_nothing, evict_of, evicts_in, kill_of, kills_in, others_in}
use Rattle.kern_tasks.specs.Others.{eviction, present}

alone : (event : Option Event) → present (event ∷ []) ≡ option_to_list event
alone None = refl
alone (Some event) = refl

-- the four that there may be
four : (alive a b c : Bool) (kill : Option Event)
    → present (eviction alive a Name ∷ eviction alive b Block ∷ eviction alive c Vnode ∷ kill ∷ [])
    ≡ cond alive (evict_of a Name ++ (evict_of b Block ++ evict_of c Vnode)) [] ++ option_to_list kill
four false a b c kill = alone kill
four true true true true None = refl
four true true true true (Some kill) = refl
four true true true false None = refl
four true true true false (Some kill) = refl
four true true false true None = refl
four true true false true (Some kill) = refl
four true true false false None = refl
four true true false false (Some kill) = refl
four true false true true None = refl
four true false true true (Some kill) = refl
four true false true false None = refl
four true false true false (Some kill) = refl
four true false false true None = refl
four true false false true (Some kill) = refl
four true false false false None = refl
four true false false false (Some kill) = refl

pub are_others : (script : Script) (s : CoreState) (a b c kill : Option Event)
    → a ≡ eviction (lives s 1) (can_evict s.world.plain s.world.kept Name) Name
    → b ≡ eviction (lives s 1) (can_evict s.world.plain s.world.kept Block) Block
    → c ≡ eviction (lives s 1) (can_evict s.world.plain s.world.kept Vnode) Vnode
    → option_to_list kill ≡ kills_in script s → present (a ∷ b ∷ c ∷ kill ∷ []) ≡ others_in script s
are_others script s a b c kill is_a is_b is_c is_kill =
    ap (λ e. present (e ∷ b ∷ c ∷ kill ∷ [])) is_a
    ∙ ap (λ e. present (eviction (lives s 1) (can_evict s.world.plain s.world.kept Name) Name ∷ e ∷ c ∷ kill ∷ [])) is_b
    ∙ ap (λ e. present (eviction (lives s 1) (can_evict s.world.plain s.world.kept Name) Name ∷ eviction (lives s 1) (can_evict s.world.plain s.world.kept Block) Block ∷ e ∷ kill ∷ [])) is_c
    ∙ four (lives s 1) (can_evict s.world.plain s.world.kept Name) (can_evict s.world.plain s.world.kept Block) (can_evict s.world.plain s.world.kept Vnode) kill
    ∙ ap (λ ks. evicts_in s ++ ks) is_kill

filter_both : (f : Event → Bool) (xs ys : List Event) → filter f (xs ++ ys) ≡ filter f xs ++ filter f ys
filter_both f [] ys = refl
filter_both f (x ∷ xs) ys = go (f x) (filter_both f xs ys)
  where
    go : (b : Bool) → filter f (xs ++ ys) ≡ filter f xs ++ filter f ys
        → cond b (x ∷ filter f (xs ++ ys)) (filter f (xs ++ ys)) ≡ cond b (x ∷ filter f xs) (filter f xs) ++ filter f ys
    go true rest = ap (λ zs. x ∷ zs) rest
    go false rest = rest

-- none of them asks for heap
pub others_ask_nothing : (script : Script) (s : CoreState) → filter asks_nothing (others_in script s) ≡ others_in script s
others_ask_nothing script s =
    filter_both asks_nothing (evicts_in s) (kills_in script s)
    ∙ ap (λ xs. xs ++ filter asks_nothing (kills_in script s))
    (evicts (lives s 1) (can_evict s.world.plain s.world.kept Name) (can_evict s.world.plain s.world.kept Block) (can_evict s.world.plain s.world.kept Vnode))
    ∙ ap (λ ys. evicts_in s ++ ys) (kill (is_licensed script s) (victim_of script.policy s.world.plain s.world.account))
  where
    kill : (l : Bool) (v : Option ℕ) → filter asks_nothing (kill_of l v) ≡ kill_of l v
    kill false v = refl
    kill true None = refl
    kill true (Some pid) = refl

    evicts : (alive a b c : Bool) → filter asks_nothing (cond alive (evict_of a Name ++ (evict_of b Block ++ evict_of c Vnode)) [])
        ≡ cond alive (evict_of a Name ++ (evict_of b Block ++ evict_of c Vnode)) []
    evicts false a b c = refl
    evicts true true true true = refl
    evicts true true true false = refl
    evicts true true false true = refl
    evicts true true false false = refl
    evicts true false true true = refl
    evicts true false true false = refl
    evicts true false false true = refl
    evicts true false false false = refl
