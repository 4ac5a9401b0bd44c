-- The turn rule, and what each kind of atomic step tells its seat.
use Rattle.std.specs.Prelude.{◌≡◌, ◌≢◌, ℕ, ◌+◌, ◌-◌, ◌%◌, ◌^◌, ◌<◌, ◌≤◌, ◌==◌, nat_le, true, false, cond, List, [], ◌∷◌, ◌++◌, length, slice_index, Option, Some, None}
use mathlib.Core.List.{IsPrefix}
use mathlib.Core.Option.{some}
use lib.ListN.{get_elem?}
use Rattle.atomic_table.specs.Table.{State, Me, Step}
use Rattle.turn_words.specs.declared.items.Item.{Item}
use Rattle.turn_words.specs.declared.items.Item.TheVariants.{Given}
use Rattle.turn_words.specs.declared.rule.TurnView.{TurnView}
use Rattle.turn_words.specs.Items.{is_of, gives, is_given, heard, Placed, Has, Rises, holds, merged}

-- each item of these stands in the list, at its place, and the places rise
abbrev pub AreIn : List Placed → List Item → Type 0
AreIn mine items = Rises 0 mine × ((place : ℕ) (x : Item) → Has mine place x → get_elem? items place ≡ some x)

-- each process that a seat with these items holds is given out after these
abbrev pub AreGiven : List Placed → List Item → Type 0
AreGiven mine items = (pid : ℕ) → holds pid mine ≡ true → is_given pid items ≡ true

-- a Back of a process, and an entry of its own, come only from a seat that holds it
abbrev pub MayReturn : List Placed → Item → Type 0
MayReturn mine x = (pid : ℕ) → is_of pid x ≡ true → gives pid x ≡ false → holds pid mine ≡ true

-- a process is given only where it isn't given out
abbrev pub MayGive : List Item → Item → Type 0
MayGive items x = (pid : ℕ) → gives pid x ≡ true → is_given pid items ≡ false

-- one of these items of the seat gives it the process, and no item of the history is one of that process after it
abbrev pub IsLast : ℕ → List Item → List Placed → Type 0
IsLast pid history mine =
    (place : ℕ) × Has mine place (Given pid) × ((later : ℕ) (x : Item) → place < later → get_elem? history later ≡ some x → is_of pid x ≡ false)

-- of each process that a seat with these items holds, no item stands behind the Given by which it holds it
abbrev pub AreLast : List Placed → List Item → Type 0
AreLast mine items = (pid : ℕ) → holds pid mine ≡ true → IsLast pid items mine

-- of two lists the longer, and the shorter
abbrev pub longer : List Item → List Item → List Item
longer xs ys = cond (nat_le (length ys) (length xs)) xs ys

abbrev pub shorter : List Item → List Item → List Item
shorter xs ys = cond (nat_le (length ys) (length xs)) ys xs

-- the table of two words and one slot, and what a seat of it has
abbrev pub Cells : Type 0 → Type 0
Cells T = State (Option T) (TurnView T)

abbrev pub Mine : Type 0 → Type 0
Mine T = Me (Option T) (TurnView T)

module _ {T : Type 0} where
  -- a weight of all views, added up
  abbrev pub total : (TurnView T → ℕ) → List (TurnView T) → ℕ
  total weight [] = 0
  total weight (v ∷ views) = weight v + total weight views

  -- 1 for the view of a seat that can still step
  abbrev pub in_use : TurnView T → ℕ
  in_use v = cond v.is_spent 0 1

  -- 1 for the view of the seat of `boot`
  abbrev pub as_boot : TurnView T → ℕ
  as_boot v = cond v.is_boot 1 0

  -- 1 for a view with a ticket
  abbrev pub waiting : TurnView T → ℕ
  waiting v = cond v.has_ticket 1 0

  -- each of the views
  abbrev pub Each : List (TurnView T) → (TurnView T → Type 0) → Type 0
  Each views P = (by : ℕ) (v : TurnView T) → get_elem? views by ≡ some v → P v

  -- two seats have no ticket and no place in common
  pub record Apart (v w : TurnView T) : Type 0 where
    pub tickets : v.has_ticket ≡ true → w.has_ticket ≡ true → v.ticket ≢ w.ticket
    pub places : (place : ℕ) (x y : Item) → Has v.mine place x → Has w.mine place y → ⊥

  -- the view of the seat of `boot`, before any step
  abbrev pub opened : TurnView T
  opened = record {
    seen = [];
    mine = [];
    met = [];
    is_boot = true;
    is_spent = false;
    others = 0;
    looks = 0;
    last = 0;
    has_ticket = false;
    ticket = 0;
    has_turn = false;
    is_out = false;
    has_put = false;
    value = None;
    names = [];
  }

  -- a new seat's view: it has seen what the one that it is split from has seen
  abbrev pub newcomer : TurnView T → TurnView T
  newcomer v = record opened { seen = v.seen; is_boot = false }

  -- the view that a join leaves
  abbrev pub spent : TurnView T
  spent = record opened { is_boot = false; is_spent = true }

  -- the seat has drawn this ticket, under which nothing was done yet
  abbrev pub drawing : TurnView T → ℕ → TurnView T
  drawing v n = record v { has_ticket = true; ticket = n; has_turn = false; is_out = false; has_put = false }

  -- a look loaded this serving word; the seat has the turn where that is its ticket
  abbrev pub looking : TurnView T → ℕ → TurnView T
  looking v word = record v { looks = v.looks + 1; last = word; has_turn = word == v.ticket % 2 ^ 64 }

  -- the seat has the value, and has seen these items, which are the history
  abbrev pub taking : TurnView T → List Item → TurnView T
  taking v items = record v { seen = items; is_out = true }

  -- the view names a value that is to be put back, and the list that it stands for
  abbrev pub noting : TurnView T → T → List Item → TurnView T
  noting v value names = record v { has_put = true; value = Some value; names = names }

  -- the value is back
  abbrev pub laying : TurnView T → TurnView T
  laying v = record v { is_out = false }

  -- the two together
  abbrev pub putting : TurnView T → T → List Item → TurnView T
  putting v value names = record v { is_out = false; has_put = true; value = Some value; names = names }

  -- the turn went on with this item, which is the seat's own, at the place behind all that it has seen
  abbrev pub passing : TurnView T → Item → TurnView T
  passing v x = record v { seen = v.seen ++ x ∷ []; mine = v.mine ++ (length v.seen, x) ∷ []; has_ticket = false; has_turn = false; has_put = false }

  -- one more seat was split
  abbrev pub with_one_more : TurnView T → TurnView T
  with_one_more v = record v { others = v.others + 1 }

  -- another seat was joined: what the two have seen, and what they have passed on
  abbrev pub taken_in : TurnView T → TurnView T → TurnView T
  taken_in v other = record v { seen = longer v.seen other.seen; met = shorter v.seen other.seen; mine = merged v.mine other.mine; others = v.others - 1 }

module _ {T : Type 0} (stands : T → List Item → Type 0) where
  -- there is a value, and it stands for these items
  abbrev pub Told : Option T → List Item → Type 0
  Told None items = ⊥
  Told (Some value) items = stands value items

  -- what a value that was put back stands for: the items of the one that was taken, with at most one more
  abbrev pub IsPutBack : List Item → T → List Item → Type 0
  IsPutBack taken value names = stands value names × ((more : List Item) × (length more ≤ 1) × (names ≡ taken ++ more))

  abbrev pub MayPut : List Item → T → Type 0
  MayPut taken value = (names : List Item) × IsPutBack taken value names

  -- What the rule says of a view and the history.
  pub record Fits (history : List Item) (v : TurnView T) : Type 0 where
    pub spent : v.is_spent ≡ true → v.has_ticket ≡ false
    pub seen : IsPrefix v.seen history
    pub met : IsPrefix v.met v.seen
    pub mine : AreIn v.mine v.seen
    pub held : AreLast v.mine history
    pub turn : v.has_turn ≡ true → (v.has_ticket ≡ true) × (v.ticket ≡ length history)
    pub out : v.is_out ≡ true → (v.has_turn ≡ true) × (v.seen ≡ history)
    pub put : v.has_put ≡ true → (v.has_turn ≡ true) × (v.seen ≡ history) × ((value : T) × (v.value ≡ Some value) × IsPutBack (heard history) value v.names)

  -- the slot is at home, with this value
  abbrev pub IsHome : Cells T → T → Type 0
  IsHome s value = get_elem? s.homes 0 ≡ some (some (Some value))

  -- The rule: the words are the length of the history, and that with the number of tickets that are out. One view is that of
  -- `boot`, and it counts the others. Some view has seen the whole history. A value at home stands for the history, or, where
  -- the seat with the turn has put it, is the one that this seat names.
  pub record IsTurns (history : List Item) (s : Cells T) : Type 0 where
    pub two_words : length s.words ≡ 2
    pub serving : slice_index s.words 0 ≡ length history % 2 ^ 64
    pub ticket : slice_index s.words 1 ≡ (length history + total waiting s.views) % 2 ^ 64
    pub few : total in_use s.views ≤ 2 ^ 32 + 1
    pub one_boot : total as_boot s.views ≡ 1
    pub boot : Each s.views (λ v. v.is_boot ≡ true → (v.is_spent ≡ false) × (v.others + 1 ≡ total in_use s.views))
    pub tickets : Each s.views (λ v. v.has_ticket ≡ true → (length history ≤ v.ticket) × (v.ticket < length history + total waiting s.views))
    pub each : Each s.views (Fits history)
    pub apart : (by other : ℕ) (v w : TurnView T) → by ≢ other → get_elem? s.views by ≡ some v → get_elem? s.views other ≡ some w → Apart v w
    pub knower : (by : ℕ) × (v : TurnView T) × (get_elem? s.views by ≡ some v) × (v.is_spent ≡ false) × (v.seen ≡ history)
    pub home : Each s.views (λ v. (v.is_out ≡ false) × (v.has_put ≡ false)) → (value : T) × IsHome s value × stands value (heard history)
    pub back : Each s.views (λ v. v.has_put ≡ true → v.is_out ≡ false → (value : T) × (v.value ≡ Some value) × IsHome s value)

  -- there is one history
  abbrev pub IsKept : Cells T → Type 0
  IsKept s = (history : List Item) × IsTurns history s

  -- the slot comes out with the value, which stands for the history: all that is seen now, as long as the ticket says
  abbrev pub TakesOut : Step (Option T) → Mine T → ℕ → Mine T → Type 0
  TakesOut step before found after =
      (value : T) × (history : List Item)
      × (after ≡ (taking before.0 history, (0, Some value) ∷ before.1))
      × stands value (heard history)
      × IsPrefix before.0.seen history × (length history ≡ before.0.ticket)
      × AreIn before.0.mine history × AreGiven before.0.mine (heard history) × AreLast before.0.mine history

  -- the view names the value that lies in the slot, which is out, and a list that it stands for
  abbrev pub Notes : Step (Option T) → Mine T → ℕ → Mine T → Type 0
  Notes step before found after =
      (value : T) × (names : List Item)
      × (before.1 ≡ (0, Some value) ∷ [])
      × (after ≡ (noting before.0 value names, before.1)) × IsPutBack (heard before.0.seen) value names

module _ {T : Type 0} where
  -- the seat has the next ticket, whose number is at least that of the items it has seen
  abbrev pub Draws : Step (Option T) → Mine T → ℕ → Mine T → Type 0
  Draws step before found after = (n : ℕ) × (after ≡ (drawing before.0 n, before.1)) × (found ≡ n % 2 ^ 64) × (length before.0.seen ≤ n)

  -- the word is the number of items at this moment: those that the seat has seen are among them, and its ticket isn't passed;
  -- where the seat has the turn, it is the ticket
  abbrev pub WasServing : TurnView T → ℕ → Type 0
  WasServing v word = (n : ℕ) × (word ≡ n % 2 ^ 64) × (length v.seen ≤ n) × (n ≤ v.ticket) × (v.has_turn ≡ true → word ≡ v.ticket % 2 ^ 64)

  -- the word was found, and the view names it
  abbrev pub Looks : Step (Option T) → Mine T → ℕ → Mine T → Type 0
  Looks step before found after = (after ≡ (looking before.0 found, before.1)) × WasServing before.0 found

  -- the slot is back
  abbrev pub PutsIn : Step (Option T) → Mine T → ℕ → Mine T → Type 0
  PutsIn step before found after = after ≡ (laying before.0, [])

  -- the turn goes on with this item
  abbrev pub PassesOn : Item → Step (Option T) → Mine T → ℕ → Mine T → Type 0
  PassesOn x step before found after = after ≡ (passing before.0 x, before.1)

  -- nothing changes, and what was met is a beginning of what was seen
  abbrev pub Compares : Step (Option T) → Mine T → ℕ → Mine T → Type 0
  Compares step before found after = (after ≡ before) × IsPrefix before.0.met before.0.seen × AreIn before.0.mine before.0.seen
