-- What a list of items says by itself.
use Rattle.std.specs.Prelude.{◌≡◌, ℕ, ◌+◌, ◌≤◌, ◌==◌, nat_lt, Bool, false, cond, List, [], ◌∷◌, ◌++◌, ◌⊎◌, map}
use Rattle.kabi_types.specs.declared.entries.Entry.{Entry}
use Rattle.kabi_types.specs.declared.entries.Entry.TheVariants as entry
use Rattle.turn_words.specs.declared.items.Item.{Item}
use Rattle.turn_words.specs.declared.items.Item.TheVariants.{Noted, Cleared, Given, Back, Starved, Live, Quiet}

-- an entry of this process's own; being killed is not its own
abbrev pub is_own_entry : ℕ → Entry → Bool
is_own_entry pid (entry.Done other _ _) = other == pid
is_own_entry pid (entry.Part other _ _) = other == pid
is_own_entry pid (entry.Refused other _ _) = other == pid
is_own_entry pid (entry.Slept other _) = other == pid
is_own_entry pid (entry.Ended other _ _) = other == pid
is_own_entry pid (entry.Gone other _) = other == pid
is_own_entry pid (entry.Killed _ _ _ _) = false
is_own_entry pid (entry.Evicted _) = false

-- an item of this process: its Given, its Back, or an entry of its own
abbrev pub is_of : ℕ → Item → Bool
is_of pid (Noted e) = is_own_entry pid e
is_of pid (Cleared _ _) = false
is_of pid (Given other) = other == pid
is_of pid (Back other) = other == pid
is_of pid Starved = false
is_of pid (Live _) = false
is_of pid Quiet = false

-- the item gives this process to a seat
abbrev pub gives : ℕ → Item → Bool
gives pid (Noted _) = false
gives pid (Cleared _ _) = false
gives pid (Given other) = other == pid
gives pid (Back _) = false
gives pid Starved = false
gives pid (Live _) = false
gives pid Quiet = false

-- whether a process is given out after some more items, where it was or wasn't before them: the last item of it decides
abbrev pub given_after : ℕ → Bool → List Item → Bool
given_after pid before [] = before
given_after pid before (x ∷ items) = given_after pid (cond (is_of pid x) (gives pid x) before) items

-- the process is given out: of its items the last is a Given
abbrev pub is_given : ℕ → List Item → Bool
is_given pid items = given_after pid false items

-- what an item adds to what a value stands for: itself, unless it is Quiet
abbrev pub said : Item → List Item
said (Noted e) = Noted e ∷ []
said (Cleared what live) = Cleared what live ∷ []
said (Given pid) = Given pid ∷ []
said (Back pid) = Back pid ∷ []
said Starved = Starved ∷ []
said (Live n) = Live n ∷ []
said Quiet = []

-- a history without Quiet
abbrev pub heard : List Item → List Item
heard [] = []
heard (x ∷ items) = said x ++ heard items

-- the entry of an item, if it has one
abbrev pub entry_of : Item → List Entry
entry_of (Noted e) = e ∷ []
entry_of (Cleared what _) = entry.Evicted what ∷ []
entry_of (Given _) = []
entry_of (Back _) = []
entry_of Starved = []
entry_of (Live _) = []
entry_of Quiet = []

-- the entries of a history, in order
abbrev pub noted : List Item → List Entry
noted [] = []
noted (x ∷ items) = entry_of x ++ noted items

-- an item with its place in the history, from 0
abbrev pub Placed : Type 0
Placed = ℕ × Item

-- the item stands at this place among these
abbrev pub Has : List Placed → ℕ → Item → Type 0
Has [] place x = ⊥
Has (p ∷ placed) place x = ((p.0 ≡ place) × (p.1 ≡ x)) ⊎ Has placed place x

-- the places rise, from `low` on
abbrev pub Rises : ℕ → List Placed → Type 0
Rises low [] = Unit {0}
Rises low (p ∷ placed) = (low ≤ p.0) × Rises (p.0 + 1) placed

-- the items without their places
abbrev pub items_of : List Placed → List Item
items_of placed = map (λ (p : Placed). p.1) placed

-- a seat holds a process: of its own items of the process the last is a Given
abbrev pub holds : ℕ → List Placed → Bool
holds pid mine = is_given pid (items_of mine)

-- one more item among others, where its place says
abbrev pub insert_by_place : Placed → List Placed → List Placed
insert_by_place p [] = p ∷ []
insert_by_place p (q ∷ placed) = cond (nat_lt p.0 q.0) (p ∷ q ∷ placed) (q ∷ insert_by_place p placed)

-- the items of two seats, in the order of their places
abbrev pub merged : List Placed → List Placed → List Placed
merged placed [] = placed
merged placed (p ∷ more) = insert_by_place p (merged placed more)
