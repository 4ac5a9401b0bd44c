-- A shared history leads to one past.
use Rattle.std.proofs.Common.{◌≡◌, ℕ, List, [], ◌∷◌, ◌++◌, refl, ap, sym, ◌∙◌, subst}
use Rattle.kabi_types.specs.declared.calls.CallKind.{CallKind}
use Rattle.kabi_types.specs.declared.entries.Entry.{Entry}
use Rattle.kabi_types.specs.declared.entries.Entry.TheVariants as entry
use Rattle.kabi_types.specs.declared.scripts.Script.{Script}
use Rattle.posix_defs.specs.Answer.{Answer, Done, Part, Ended}
use Rattle.posix_defs.specs.History.{IsAnswered, MayFollow, Past, had_turn, moves_on}
use Rattle.posix_defs.specs.Plain.{Plain, call_of}
use Rattle.posix_defs.specs.Turn.{account_after}
use Rattle.turn_words.specs.declared.items.Item.{Item}
use Rattle.turn_words.specs.declared.items.Item.TheVariants.{Noted, Cleared, Given, Back, Starved, Live, Quiet}
use Rattle.kern_shared.specs.Shared.{IsShared, MayShare, goes_on, starts}

-- an answered call leads to one past, since the machine answers once
one_answer : (script : Script) (past next other : Past) (pid : ℕ) (which : CallKind) (answer : Plain → Answer) (sleepers : List ℕ)
    → ((p q : Plain) → answer p ≡ answer q → p ≡ q) → IsAnswered script past pid which answer sleepers next → IsAnswered script past pid which answer sleepers other → next ≡ other
one_answer script past next other pid which answer sleepers single f g =
    let same : f.plain ≡ g.plain = single f.plain g.plain (sym f.answers ∙ g.answers) in
    f.leads
    ∙ ap (λ p. moves_on script (had_turn past (call_of script past.plain pid)) p (account_after past.account past.plain pid (call_of script past.plain pid) (answer p)) sleepers) same
    ∙ sym g.leads

one_follow : (script : Script) (past next other : Past) (e : Entry) → MayFollow script past e next → MayFollow script past e other → next ≡ other
one_follow script past next other (entry.Done pid which reply) f g = one_answer script past next other pid which (Done reply) _ (λ p q h. cc) f g
one_follow script past next other (entry.Part pid which moved) f g = one_answer script past next other pid which (Part moved) _ (λ p q h. cc) f g
one_follow script past next other (entry.Ended pid which status) f g = one_answer script past next other pid which (Ended status) _ (λ p q h. cc) f g
one_follow script past next other (entry.Slept pid which) f g = f.leads ∙ sym g.leads
one_follow script past next other (entry.Refused pid which asked) f g = f.leads ∙ sym g.leads
one_follow script past next other (entry.Gone pid which) f g = f.leads ∙ sym g.leads
one_follow script past next other (entry.Killed pid waiter need live) f g = f.leads ∙ sym g.leads
one_follow script past next other (entry.Evicted what) f g = f.leads ∙ sym g.leads

one_next : (script : Script) (steps : ℕ) (items : List Item) (past next other : Past) (x : Item) → MayShare script steps items past x next → MayShare script steps items past x other → next ≡ other
one_next script steps items past next other (Noted e) f g = one_follow script past next other e f.2 g.2
one_next script steps items past next other (Cleared what live) f g = one_follow script past next other (entry.Evicted what) f.2 g.2
one_next script steps items past next other (Given pid) f g = f.1 ∙ sym g.1
one_next script steps items past next other (Back pid) f g = f.1 ∙ sym g.1
one_next script steps items past next other Starved f g = f.2 ∙ sym g.2
one_next script steps items past next other (Live n) f g = f ∙ sym g
one_next script steps items past next other Quiet f g = absurd f

none_more : (items : List Item) (x : Item) → items ++ x ∷ [] ≡ [] → ⊥
none_more [] x h = cc
none_more (y ∷ items) x h = cc

-- two lists with one element more each are the same only where both parts are
pub same_more : (items others : List Item) (x y : Item) → items ++ x ∷ [] ≡ others ++ y ∷ [] → (items ≡ others) × (x ≡ y)
same_more [] [] x y h = (refl, cc)
same_more [] (z ∷ others) x y h = absurd (none_more others y (sym (cc)))
same_more (z ∷ items) [] x y h = absurd (none_more items x (cc))
same_more (z ∷ items) (w ∷ others) x y h =
    let rest = same_more items others x y (cc) in let first : z ≡ w = cc in (ap (λ l. z ∷ l) rest.0 ∙ ap (λ v. v ∷ others) first, rest.1)

one_past_of : (script : Script) (steps : ℕ) (items others : List Item) (past other : Past) → IsShared script steps items past → items ≡ others → IsShared script steps others other → past ≡ other
one_past_of script steps _ _ _ _ starts same starts = refl
one_past_of script steps _ _ _ _ starts same (goes_on others before next y shared may) = absurd (none_more others y (sym same))
one_past_of script steps _ _ _ _ (goes_on items before next x shared may) same starts = absurd (none_more items x same)
one_past_of script steps _ _ _ _ (goes_on items past next x shared may) same (goes_on others past' next' y shared' may') =
    let parts = same_more items others x y same in
    let before : past ≡ past' = one_past_of script steps items others past past' shared parts.0 shared' in
    one_next script steps others past' next next' y
    (subst (λ l. MayShare script steps l past' y next) parts.0 (subst (λ p. MayShare script steps items p y next) before (subst (λ z. MayShare script steps items past z next) parts.1 may))) may'

pub one_past : (script : Script) (steps : ℕ) (items : List Item) (past other : Past) → IsShared script steps items past → IsShared script steps items other → past ≡ other
one_past script steps items past other shared shared' = one_past_of script steps items items past other shared refl shared'
