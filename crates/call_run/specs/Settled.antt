-- What is told of who sleeps is so of each world that the store stands for, so whose call it says would block blocks.
use Rattle.std.specs.Prelude.{ℕ, ◌≡◌, ◌==◌, Bool, true, false, if◌then◌else◌, List, [], ◌∷◌, Option, None, Some, refl}
use Rattle.std.specs.List.{AllByRecursion}
use Rattle.std.proofs.Common.{ap, eqb-true, subst, sym, ◌∙◌}
use Rattle.kabi_types.specs.declared.scripts.Script.{Script}
use Rattle.posix_defs.specs.Machine.{would_block}
use Rattle.posix_defs.specs.Plain.{Plain}
use Rattle.posix_defs.specs.World.{World}
use Rattle.call_run.specs.declared.sleepers.Sleeper.{Sleeper}
use Rattle.call_run.specs.Sleepers.{IsTrulyTold, is_settled, is_so, told_of}
use Rattle.call_run.specs.Stores.{Stands, StoreView}

-- what is told of a process, if anything is, is so
abbrev pub IsToldSo : Script → Plain → ℕ → Option Bool → Type 0
IsToldSo script plain pid None = Unit {0}
IsToldSo script plain pid (Some blocks) = would_block script plain pid ≡ blocks

pub told_so : (script : Script) (plain : Plain) (told : List Sleeper) (pid : ℕ) → AllByRecursion (IsTrulyTold script plain) told → IsToldSo script plain pid (told_of told pid)
told_so script plain [] pid all = tt
told_so script plain (sleeper ∷ told) pid all = go (sleeper.pid == pid) refl (told_so script plain told pid all.1)
  where
    go : (same : Bool) → (sleeper.pid == pid) ≡ same → IsToldSo script plain pid (told_of told pid) → IsToldSo script plain pid (if same then Some sleeper.blocks else told_of told pid)
    go true is later =
        let it : IsTrulyTold script plain sleeper = all.0 in
        ap (would_block script plain) (sym (eqb-true sleeper.pid pid is)) ∙ it.blocks
    go false is later = later

abbrev IsFalse : Bool → Type 0
IsFalse true = ⊥
IsFalse false = Unit {0}

blocks_so : (script : Script) (plain : Plain) (pid : ℕ) (said : Option Bool) → IsToldSo script plain pid said → is_so said ≡ true → would_block script plain pid ≡ true
blocks_so script plain pid (Some blocks) so settled = so ∙ settled
blocks_so script plain pid None so settled = absurd (subst IsFalse settled tt)

pub settled_blocks : (store : StoreView) (world : World) (pid : ℕ) → Stands store world → is_settled store.sleepers.told pid ≡ true → would_block store.script world.plain pid ≡ true
settled_blocks store world pid stands settled =
    blocks_so store.script world.plain pid (told_of store.sleepers.told pid)
    (told_so store.script world.plain store.sleepers.told pid (let told = stands.told in told.each)) settled
