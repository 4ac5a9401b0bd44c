-- What the line of each entry claims.
use Rattle.std.proofs.Common.{◌≡◌, ℕ, ◌<◌, ◌^◌, true, List, [], ◌∷◌, ◌++◌, Option, None, Some, option_map, option_and_then, codes, decimal, refl, ap, sym, ◌∙◌, append_assoc, arith}
use Rattle.kabi_types.specs.Words.{word_of}
use Rattle.kabi_types.specs.declared.calls.CallKind.{CallKind}
use Rattle.kabi_types.specs.declared.entries.Cached.{Cached}
use Rattle.kabi_types.specs.declared.entries.Cached.TheVariants as cached
use Rattle.kabi_types.specs.declared.entries.Entry.{Entry}
use Rattle.kabi_types.specs.declared.entries.Entry.TheVariants as entry
use Rattle.posix_defs.specs.Lines.{blank, cache_text, entry_line, entry_text, newline, pid_text, reply_text, status_text}
use Rattle.run_pasts.specs.Claims.{claim_of_entry}
use Rattle.run_pasts.specs.declared.claims.Claim.{Claim}
use Rattle.run_pasts.specs.declared.claims.Claim.TheVariants.{Did, Killed, Evicted}
use Rattle.run_pasts.specs.declared.claims.Deed.{Deed}
use Rattle.run_pasts.specs.declared.claims.Deed.TheVariants as deed
use Rattle.claim_lines.specs.Claims.{cache_named, claim_by, claim_of, claim_of_pid, deed_named}
use Rattle.claim_lines.specs.Good.{HasPids}
use Rattle.claim_lines.specs.Words.{first_word, is_gap, pid_named, rest_of}
use Rattle.claim_lines.proofs.Reading.{decimal_gapless, first_back, gapless, pid_back, pid_gapless, rest_back}

-- ---- lists one behind another

three : (a b c : List ℕ) → (a ++ b) ++ c ≡ a ++ (b ++ c)
three a b c = append_assoc a b c

four : (a b c d : List ℕ) → ((a ++ b) ++ c) ++ d ≡ a ++ (b ++ (c ++ d))
four a b c d = append_assoc (a ++ b) c d ∙ append_assoc a b (c ++ d)

six : (a b c d e f : List ℕ) → ((((a ++ b) ++ c) ++ d) ++ e) ++ f ≡ a ++ (b ++ (c ++ (d ++ (e ++ f))))
six a b c d e f = append_assoc (((a ++ b) ++ c) ++ d) e f ∙ append_assoc ((a ++ b) ++ c) d (e ++ f) ∙ four a b c (d ++ (e ++ f))

seven : (a b c d e f g : List ℕ) → (((((a ++ b) ++ c) ++ d) ++ e) ++ f) ++ g ≡ a ++ (b ++ (c ++ (d ++ (e ++ (f ++ g)))))
seven a b c d e f g = append_assoc ((((a ++ b) ++ c) ++ d) ++ e) f g ∙ six a b c d e (f ++ g)

eight : (a b c d e f g h : List ℕ) → ((((((a ++ b) ++ c) ++ d) ++ e) ++ f) ++ g) ++ h ≡ a ++ (b ++ (c ++ (d ++ (e ++ (f ++ (g ++ h))))))
eight a b c d e f g h = append_assoc (((((a ++ b) ++ c) ++ d) ++ e) ++ f) g h ∙ seven a b c d e f (g ++ h)

-- ---- a line

-- the line of a text
line_of : ℕ → List ℕ → List ℕ
line_of j text = decimal j ++ blank ++ text ++ newline

-- what a line claims, by its words
told : (j : ℕ) (text who what : List ℕ) (gap : ℕ) (rest : List ℕ) → j < 2 ^ 64 → gapless who ≡ true → gapless what ≡ true → is_gap gap ≡ true
    → text ++ newline ≡ who ++ 32 ∷ (what ++ gap ∷ rest) → claim_of (line_of j text) ≡ claim_by who what rest
unfolding claim_of line_of
told j text who what gap rest lt first second ends is =
    let line : decimal j ++ blank ++ text ++ newline ≡ decimal j ++ 32 ∷ (who ++ 32 ∷ (what ++ gap ∷ rest)) =
    four (decimal j) blank text newline ∙ ap (λ l. decimal j ++ 32 ∷ l) is in
    let behind : rest_of (decimal j ++ blank ++ text ++ newline) ≡ who ++ 32 ∷ (what ++ gap ∷ rest) =
    ap rest_of line ∙ rest_back (decimal j) 32 (who ++ 32 ∷ (what ++ gap ∷ rest)) (decimal_gapless j lt) refl in
    ap (λ s. claim_by (first_word s) (first_word (rest_of s)) (rest_of (rest_of s))) behind
    ∙ ap (λ w. claim_by w (first_word (rest_of (who ++ 32 ∷ (what ++ gap ∷ rest)))) (rest_of (rest_of (who ++ 32 ∷ (what ++ gap ∷ rest))))) (first_back who 32 (what ++ gap ∷ rest) first refl)
    ∙ ap (λ s. claim_by who (first_word s) (rest_of s)) (rest_back who 32 (what ++ gap ∷ rest) first refl)
    ∙ ap (λ w. claim_by who w (rest_of (what ++ gap ∷ rest))) (first_back what gap rest second ends)
    ∙ ap (claim_by who what) (rest_back what gap rest second ends)

-- of a process
told_of_pid : (pid : ℕ) (what rest : List ℕ) → pid < 2 ^ 32 → claim_by (pid_text pid) what rest ≡ claim_of_pid pid what rest
told_of_pid pid what rest lt = ap (option_and_then (λ p. claim_of_pid p what rest)) (pid_back pid lt)

-- what a line claims of a process
pid_line : (j pid : ℕ) (text what rest : List ℕ) → j < 2 ^ 64 → pid < 2 ^ 32 → gapless what ≡ true
    → text ++ newline ≡ pid_text pid ++ 32 ∷ (what ++ 32 ∷ rest) → claim_of (line_of j text) ≡ claim_of_pid pid what rest
pid_line j pid text what rest lt small word is =
    told j text (pid_text pid) what 32 rest lt (pid_gapless pid small) word refl is ∙ told_of_pid pid what rest small

-- whom it was killed for
told_killed : (pid waiter : ℕ) (rest : List ℕ) → waiter < 2 ^ 32
    → claim_of_pid pid (codes "killed") (codes "for" ++ 32 ∷ (pid_text waiter ++ 32 ∷ rest)) ≡ Some (Killed pid waiter)
told_killed pid waiter rest lt =
    ap (λ word. option_map (λ w. Killed pid w) (pid_named word)) (first_back (pid_text waiter) 32 rest (pid_gapless waiter lt) refl)
    ∙ ap (option_map (λ w. Killed pid w)) (pid_back waiter lt)

pub line_claims : (j : ℕ) (added : Entry) → j < 2 ^ 64 → HasPids (claim_of_entry added) → claim_of (entry_line j added) ≡ Some (claim_of_entry added)
unfolding line_of
line_claims j (entry.Done pid which reply) lt small =
    pid_line j pid (entry_text (entry.Done pid which reply)) (codes "done") (word_of which ++ (codes " = " ++ (reply_text reply ++ newline))) lt small refl
    (six (pid_text pid) (codes " done ") (word_of which) (codes " = ") (reply_text reply) newline)
line_claims j (entry.Part pid which moved) lt small =
    pid_line j pid (entry_text (entry.Part pid which moved)) (codes "part") (word_of which ++ (blank ++ (decimal moved ++ newline))) lt small refl
    (six (pid_text pid) (codes " part ") (word_of which) blank (decimal moved) newline)
line_claims j (entry.Refused pid which bound) lt small =
    pid_line j pid (entry_text (entry.Refused pid which bound)) (codes "refused") (word_of which ++ (codes " bound " ++ (decimal bound ++ (codes " = ENOMEM" ++ newline)))) lt small refl
    (seven (pid_text pid) (codes " refused ") (word_of which) (codes " bound ") (decimal bound) (codes " = ENOMEM") newline)
line_claims j (entry.Slept pid which) lt small =
    pid_line j pid (entry_text (entry.Slept pid which)) (codes "sleep") (word_of which ++ newline) lt small refl
    (four (pid_text pid) (codes " sleep ") (word_of which) newline)
line_claims j (entry.Ended pid which status) lt small =
    pid_line j pid (entry_text (entry.Ended pid which status)) (codes "ended") (status_text status ++ newline) lt small refl
    (four (pid_text pid) (codes " ended ") (status_text status) newline)
line_claims j (entry.Gone pid which) lt small =
    pid_line j pid (entry_text (entry.Gone pid which)) (codes "gone") (word_of which ++ newline) lt small refl
    (four (pid_text pid) (codes " gone ") (word_of which) newline)
line_claims j (entry.Killed pid waiter need live) lt small =
    pid_line j pid (entry_text (entry.Killed pid waiter need live)) (codes "killed")
    (codes "for" ++ 32 ∷ (pid_text waiter ++ (codes " need " ++ (decimal need ++ (codes " live " ++ (decimal live ++ newline)))))) lt small.0 refl
    (eight (pid_text pid) (codes " killed for ") (pid_text waiter) (codes " need ") (decimal need) (codes " live ") (decimal live) newline)
    ∙ told_killed pid waiter (codes "need " ++ (decimal need ++ (codes " live " ++ (decimal live ++ newline)))) small.1
line_claims j (entry.Evicted cached.Name) lt small = told j (codes "evict name") (codes "evict") (codes "name") 10 [] lt refl refl refl refl
line_claims j (entry.Evicted cached.Block) lt small = told j (codes "evict block") (codes "evict") (codes "block") 10 [] lt refl refl refl refl
line_claims j (entry.Evicted cached.Vnode) lt small = told j (codes "evict vnode") (codes "evict") (codes "vnode") 10 [] lt refl refl refl refl
