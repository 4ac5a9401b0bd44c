-- What is over by a beginning of a history is over by all of it, and then an end stands.
use Rattle.std.proofs.Common.{◌≡◌, ℕ, ◌≤◌, ◌⊎◌, ⊎_elim, true, true≢false, List, [], ◌∷◌, ◌++◌, length, Option, Some, None, refl, ap, sym, ◌∙◌, subst, inl, inr, arith, append_assoc, append-nil}
use mathlib.Core.List.{IsPrefix}
use Rattle.std.specs.Prelude.{◌&&◌}
use Rattle.kabi_types.specs.declared.calls.Call.{Call}
use Rattle.kabi_types.specs.declared.entries.End.{End}
use Rattle.kabi_types.specs.declared.entries.End.TheVariants as end
use Rattle.kabi_types.specs.declared.entries.Entry.{Entry}
use Rattle.kabi_types.specs.declared.scripts.Script.{Script}
use Rattle.posix_defs.specs.declared.turner.Turned.{Turned}
use Rattle.posix_defs.specs.History.{IsRun, Past, boot_past}
use Rattle.posix_defs.specs.Machine.{would_block}
use Rattle.posix_defs.specs.Process.{is_alive}
use Rattle.posix_defs.specs.World.{World}
use Rattle.turn_words.specs.declared.items.Item.{Item}
use Rattle.turn_words.specs.Items.{heard, noted}
use Rattle.kern_shared.specs.Closing.{Closes}
use Rattle.kern_shared.specs.Laws.{EntriesAreARun}
use Rattle.kern_shared.specs.Picks.{EndsAs}
use Rattle.kern_shared.specs.Shared.{IsOver, IsShared, dozes, goes_on, starts}
use Rattle.kern_shared.proofs.Along.{heard_append}
use Rattle.kern_shared.proofs.OnePast.{one_past, same_more}
use Rattle.kern_shared.proofs.Starving.{over_stays}
use Rattle.work_crew.specs.Whole.{IsWhole, MayEnd}
use Rattle.work_crew.specs.Working.{SawEnd}

none_split : (xs ys : List Item) → [] ≡ xs ++ ys → xs ≡ []
none_split [] ys is = refl
none_split (x ∷ xs) ys is = absurd (cc)

split_last : (xs : List Item) → (xs ≡ []) ⊎ ((m : List Item) × (y : Item) × (xs ≡ m ++ y ∷ []))
split_last [] = inl refl
split_last (x ∷ xs) = ⊎_elim
    (λ (e : xs ≡ []). inr ([], x, ap (λ l. x ∷ l) e))
    (λ (h : (m : List Item) × (y : Item) × (xs ≡ m ++ y ∷ [])). inr (x ∷ h.0, h.1, ap (λ l. x ∷ l) h.2))
    (split_last xs)

-- a beginning of a shared history is one, and where it is over so is the whole
abbrev StaysOver : Script → ℕ → List Item → List Item → Past → Type 0
StaysOver script steps items all last = (past : Past) × IsShared script steps items past × (IsOver script steps items past → IsOver script steps all last)

over_along : (script : Script) (steps : ℕ) (all : List Item) (last : Past) → IsShared script steps all last → (items more : List Item) → all ≡ items ++ more → StaysOver script steps items all last
over_along script steps _ _ starts items more is =
    subst (λ l. StaysOver script steps l [] (boot_past script)) (sym (none_split items more is)) (boot_past script, starts, λ over. over)
over_along script steps _ _ (goes_on before past next x shared may) items more is = ⊎_elim
    (λ (e : more ≡ []).
    let whole : before ++ x ∷ [] ≡ items = is ∙ ap (λ l. items ++ l) e ∙ append-nil items in
    subst (λ l. StaysOver script steps l (before ++ x ∷ []) next) whole (next, goes_on before past next x shared may, λ over. over))
    (λ (h : (m : List Item) × (y : Item) × (more ≡ m ++ y ∷ [])).
    let parts = same_more before (items ++ h.0) x h.1 (is ∙ ap (λ l. items ++ l) h.2 ∙ sym (append_assoc items h.0 (h.1 ∷ []))) in
    let earlier = over_along script steps before past shared items h.0 parts.0 in
    (earlier.0, earlier.1, λ over. over_stays script steps before past next x shared may (earlier.2 over)))
    (split_last more)

-- what a pass has seen to be over is over by all that it has seen a beginning of
pub over_by_all : (script : Script) (steps : ℕ) (seen all : List Item) (last : Past) → IsPrefix seen all → SawEnd script steps seen → IsShared script steps (heard all) last
    → IsOver script steps (heard all) last
over_by_all script steps seen all last begins saw shared =
    let along = over_along script steps (heard all) last shared (heard seen) (heard begins.0) (ap heard (sym begins.1) ∙ heard_append seen begins.0) in
    along.2 (subst (IsOver script steps (heard seen)) (one_past script steps (heard seen) saw.past along.0 saw.shared along.1) saw.over)

-- where a run is over, some end stands
no_end : (script : Script) (steps : ℕ) (items : List Item) (past : Past) → IsOver script steps items past → EndsAs script steps items past None → ⊥
no_end script steps items past over ends = ⊎_elim
    (λ starved. absurd (true≢false (sym starved ∙ ends.2)))
    (λ h. ⊎_elim
    (λ (spent : length (noted items) ≡ steps). let below = ends.1 in absurd (omega (arith, spent, below)))
    (λ rest. ⊎_elim (λ ended. absurd (true≢false (sym ends.0.alive ∙ ended))) (λ asleep. ends.0.awake asleep) rest.1)
    h)
    over

-- and closed history allows the end that stands
may_end : (script : Script) (steps : ℕ) (items : List Item) (past : Past) (entries : List Entry) (which : End) → entries ≡ noted items → EndsAs script steps items past (Some which)
    → MayEnd script steps entries past which
may_end script steps items past entries end.Finished is ends = ends
may_end script steps items past entries end.AllAsleep is ends = (
  ends.0,
  subst (λ l. (pid : ℕ) → is_alive past.plain.table pid ≡ true → (dozes pid l && would_block script past.plain pid) ≡ true) (sym is) ends.1,
)
may_end script steps items past entries (end.Starved pid need) is ends = (ends.4, ends.5, ends.3)
may_end script steps items past entries end.Spent is ends = (ends.0.alive, ap length is ∙ ends.1)

module _ {T : Type 0} (stands_for : T → World → Type 0) (script_of : T → Script) (beside : T → ℕ → Call → Turned → T → Type 0) where
  -- what is left of a kernel that is closed, where its history is over
  pub whole : (script : Script) (steps : ℕ) (items : List Item) (past : Past) (entries : List Entry) (found : Option End) (bytes : ℕ) (store : T) → EntriesAreARun
      → IsShared script steps items past → IsOver script steps items past → Closes stands_for script_of beside script steps items past entries found bytes store
      → (which : End) × (found ≡ Some which) × IsWhole stands_for script_of beside script steps entries which bytes store
  whole script steps items past entries None bytes store runs shared over closes = absurd (no_end script steps items past over closes.ends)
  whole script steps items past entries (Some which) bytes store runs shared over closes = (
    which,
    refl,
    record {
      items = items;
      past = past;
      shared = shared;
      over = over;
      closes = closes;
      run = subst (λ l. IsRun script l past) (sym closes.history) (runs script steps items past shared).0;
      few = subst (λ l. length l ≤ steps) (sym closes.history) (runs script steps items past shared).1;
      allowed = may_end script steps items past entries which closes.history closes.ends;
    },
  )
