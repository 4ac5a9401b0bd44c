-- Objects of the heap stand for things of the machine. The heap names its objects by keys, which are used again; the machine
-- names what was made by places, which are not. Numbers say which place each key in use has.
use Rattle.std.specs.Prelude.{◌≡◌, ◌≢◌, ◌==◌, ℕ, ◌<◌, List, Option, None, Some, if◌then◌else◌}
use Rattle.kheap_slabs.specs.Objects.{object, InUse}
use Rattle.kheap_slabs.specs.declared.objects.Page.{Page}
use Rattle.posix_defs.specs.Memory.{Places, namings}

-- the place that each key has, of the classes whose things the machine names by places
pub record Numbers : Type 0 where
  pub descs : ℕ → ℕ
  pub pipes : ℕ → ℕ
  pub socks : ℕ → ℕ
  pub frames : ℕ → ℕ

-- a key has this number from now on, and every other key the one that it had
abbrev pub numbered : (ℕ → ℕ) → ℕ → ℕ → ℕ → ℕ
numbered number key place other = if other == key then place else number other

module _ {X Y : Type 0} where
  -- Each key in use has the place of a thing that is there, which says what the object says; no two have the same; and each
  -- thing that is there has a key.
  pub record ArePlaced (says : ℕ → X → Y → Type 0) (number : ℕ → ℕ) (objects : List (Option X)) (things : ℕ → Option Y) : Type 0 where
    pub there : (key : ℕ) (x : X) → object objects key ≡ Some x → (y : Y) × (things (number key) ≡ Some y)
    pub means : (key : ℕ) (x : X) (y : Y) → object objects key ≡ Some x → things (number key) ≡ Some y → says key x y
    pub once : (one other : ℕ) → InUse objects one → InUse objects other → number one ≡ number other → one ≡ other
    pub found : (place : ℕ) (y : Y) → things place ≡ Some y → (key : ℕ) × InUse objects key × (number key ≡ place)

  -- what the objects but that of one key say of their things they say still, with other numbers maybe
  abbrev pub SaysStill : List (Option X) → (ℕ → Option Y) → (ℕ → ℕ) → (ℕ → X → Y → Type 0) → (ℕ → X → Y → Type 0) → ℕ → Type 0
  SaysStill objects things number before after key =
      (other : ℕ) (x : X) (y : Y) → other ≢ key → object objects other ≡ Some x → things (number other) ≡ Some y → before other x y → after other x y

  -- every key but one names the object that it named, and every place but one has the thing that it had
  pub record OthersStay (old new : List (Option X)) (before after : ℕ → Option Y) (key place : ℕ) : Type 0 where
    pub objects : (other : ℕ) → other ≢ key → object new other ≡ object old other
    pub things : (other : ℕ) → other ≢ place → after other ≡ before other

-- how often a frame is named, if it is
abbrev pub named_times : ℕ → Option ℕ
named_times count = if count == 0 then None else Some count

-- the frames that page entries name, by place, each with how often
abbrev pub frames_there : List Places → ℕ → Option ℕ
frames_there places frame = named_times (namings places frame)

-- a page counts the entries that name it
abbrev pub Counts : ℕ → Page → ℕ → Type 0
Counts key page named = page.count ≡ named
