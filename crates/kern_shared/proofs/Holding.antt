-- Who is held, and what each one's call needs, behind one more item.
use Rattle.std.proofs.Common.{◌≡◌, ℕ, ◌==◌, ◌||◌, ◌&&◌, not, Bool, true, false, true≢false, cond, List, [], ◌∷◌, ◌++◌, refl, ap, sym, ◌∙◌, subst, eq-eqb}
use Rattle.std.specs.List.{AllByRecursion}
use Rattle.std.proofs.lemmas.List.{map-append}
use Rattle.kabi_types.specs.declared.scripts.Script.{Script}
use Rattle.posix_defs.specs.History.{Past, is_among, others}
use Rattle.posix_defs.specs.Needs.{bound}
use Rattle.posix_defs.specs.Plain.{Plain, call_of, control_of}
use Rattle.posix_defs.specs.Control as program
use Rattle.posix_defs.specs.Process.{is_alive}
use Rattle.posix_defs.specs.World.{AreOnce}
use Rattle.turn_words.specs.declared.items.Item.{Item}
use Rattle.turn_words.specs.declared.items.Item.TheVariants.{Given}
use Rattle.turn_words.specs.Items.{gives, is_given, is_of}
use Rattle.turn_words.proofs.Held.{given_more}
use Rattle.kern_shared.specs.declared.held.Held.{Held}
use Rattle.kern_shared.specs.Shared.{IsShared, MayShare, is_free, sleeps_on}
use Rattle.kern_shared.specs.Shares.{AreHeld, pids_of, without}
use Rattle.kern_shared.proofs.Pids.{all_filtered, all_more, among_more, once_filtered, once_more, others_among}
use Rattle.kern_shared.proofs.Standing.{controls_stand}

-- the pids of those of other processes
pub pids_without : (pid : ℕ) (held : List Held) → pids_of (without pid held) ≡ others pid (pids_of held)
pids_without pid [] = refl
pids_without pid (h ∷ held) = by_test (not (h.pid == pid)) (pids_without pid held)
  where
    by_test : (b : Bool) → pids_of (without pid held) ≡ others pid (pids_of held)
        → pids_of (cond b (h ∷ without pid held) (without pid held)) ≡ cond b (h.pid ∷ others pid (pids_of held)) (others pid (pids_of held))
    by_test true rest = ap (λ pids. h.pid ∷ pids) rest
    by_test false rest = rest

-- what holds of each that is held, where it follows for one that is held
pub all_held : (P Q : Held → Type 0) (held : List Held) → ((h : Held) → is_among h.pid (pids_of held) ≡ true → P h → Q h) → AllByRecursion P held → AllByRecursion Q held
all_held P Q [] follows all = tt
all_held P Q (h ∷ held) follows all = (
  follows h (ap (λ (b : Bool). b || is_among h.pid (pids_of held)) (eq-eqb h.pid h.pid refl)) all.0,
  all_held P Q held (λ k among p. follows k (behind (h.pid == k.pid) (is_among k.pid (pids_of held)) among) p) all.1,
)
  where
    behind : (b c : Bool) → c ≡ true → (b || c) ≡ true
    behind true c is = refl
    behind false c is = is

same_bound : (script : Script) (past next : Plain) (pid : ℕ) → control_of next pid ≡ control_of past pid → bound (call_of script next pid) ≡ bound (call_of script past pid)
same_bound script past next pid same = ap (λ control. bound (program.call_of script control)) same

-- behind an item that gives nobody, in which no more are held
pub held_on : (script : Script) (steps : ℕ) (items : List Item) (past next : Past) (x : Item) (new : List Held) → IsShared script steps items past
    → MayShare script steps items past x next → ((pid : ℕ) → is_given pid (items ++ x ∷ []) ≡ true → is_given pid items ≡ true)
    → ((pid : ℕ) → is_among pid (pids_of new) ≡ is_given pid (items ++ x ∷ [])) → AreOnce (pids_of new)
    → AllByRecursion (λ (h : Held). h.bound ≡ bound (call_of script past.plain h.pid)) new → AreHeld script next.plain new (items ++ x ∷ [])
held_on script steps items past next x new shared may before pids once bounds = record {
  pids = pids;
  once = once;
  bounds = all_held (λ (h : Held). h.bound ≡ bound (call_of script past.plain h.pid)) (λ (h : Held). h.bound ≡ bound (call_of script next.plain h.pid)) new
      (λ h among is. let still = sym (pids h.pid) ∙ among in
      is ∙ sym (same_bound script past.plain next.plain h.pid (controls_stand script steps items past next x shared may h.pid (before h.pid still) still)))
      bounds;
}

-- behind an item of no process
pub held_still : (script : Script) (steps : ℕ) (items : List Item) (past next : Past) (x : Item) (held : List Held) → IsShared script steps items past
    → MayShare script steps items past x next → ((pid : ℕ) → is_of pid x ≡ false) → AreHeld script past.plain held items → AreHeld script next.plain held (items ++ x ∷ [])
held_still script steps items past next x held shared may nobody are =
    held_on script steps items past next x held shared may (λ pid given. sym (same pid) ∙ given) (λ pid. are.pids pid ∙ sym (same pid)) are.once are.bounds
  where
    same : (pid : ℕ) → is_given pid (items ++ x ∷ []) ≡ is_given pid items
    same pid = given_more pid false items x ∙ ap (λ (b : Bool). cond b (gives pid x) (is_given pid items)) (nobody pid)

-- behind an item that takes a process from its pass
pub held_less : (script : Script) (steps : ℕ) (items : List Item) (past next : Past) (x : Item) (held : List Held) (pid : ℕ) → IsShared script steps items past
    → MayShare script steps items past x next → ((other : ℕ) → is_of other x ≡ (pid == other)) → ((other : ℕ) → gives other x ≡ false)
    → AreHeld script past.plain held items → AreHeld script next.plain (without pid held) (items ++ x ∷ [])
held_less script steps items past next x held pid shared may its gives_none are =
    held_on script steps items past next x (without pid held) shared may (λ other given. before (pid == other) (is_given other items) (sym (now other) ∙ given))
    (λ other. ap (is_among other) (pids_without pid held) ∙ others_among pid (pids_of held) other ∙ ap (λ (b : Bool). not (pid == other) && b) (are.pids other)
    ∙ taken (pid == other) (is_given other items) ∙ sym (now other))
    (subst AreOnce (sym (pids_without pid held)) (once_filtered (λ other. not (other == pid)) (pids_of held) are.once))
    (all_filtered (λ (h : Held). h.bound ≡ bound (call_of script past.plain h.pid)) (λ (h : Held). not (h.pid == pid)) held are.bounds)
  where
    now : (other : ℕ) → is_given other (items ++ x ∷ []) ≡ cond (pid == other) false (is_given other items)
    now other = given_more other false items x ∙ ap (λ (b : Bool). cond b (gives other x) (is_given other items)) (its other)
        ∙ ap (λ (b : Bool). cond (pid == other) b (is_given other items)) (gives_none other)

    taken : (b g : Bool) → (not b && g) ≡ cond b false g
    taken true g = refl
    taken false g = refl

    before : (b g : Bool) → cond b false g ≡ true → g ≡ true
    before true g h = absurd (true≢false (sym h))
    before false g h = h

-- a free process isn't held
free_not_held : (alive given asleep : Bool) → (alive && not given && not asleep) ≡ true → given ≡ false
free_not_held true true asleep h = absurd (true≢false (sym h))
free_not_held true false asleep h = refl
free_not_held false given asleep h = absurd (true≢false (sym h))

-- behind an item that gives a free process
pub held_more : (script : Script) (items : List Item) (past : Past) (held : List Held) (h : Held) → is_free script items past h.pid ≡ true
    → h.bound ≡ bound (call_of script past.plain h.pid) → AreHeld script past.plain held items → AreHeld script past.plain (held ++ h ∷ []) (items ++ Given h.pid ∷ [])
held_more script items past held h free is_bound are = record {
  pids = λ other. ap (is_among other) more ∙ among_more (pids_of held) h.pid other ∙ ap (λ (b : Bool). b || (h.pid == other)) (are.pids other)
      ∙ given (h.pid == other) (is_given other items) ∙ sym (given_more other false items (Given h.pid));
  once = subst AreOnce (sym more) (once_more (pids_of held) h.pid are.once
      (are.pids h.pid ∙ free_not_held (is_alive past.plain.table h.pid) (is_given h.pid items) (sleeps_on script items past h.pid) free));
  bounds = all_more (λ (k : Held). k.bound ≡ bound (call_of script past.plain k.pid)) held h are.bounds is_bound;
}
  where
    more : pids_of (held ++ h ∷ []) ≡ pids_of held ++ h.pid ∷ []
    more = map-append (λ (k : Held). k.pid) held (h ∷ [])

    given : (b g : Bool) → (g || b) ≡ cond b b g
    given true true = refl
    given true false = refl
    given false true = refl
    given false false = refl
