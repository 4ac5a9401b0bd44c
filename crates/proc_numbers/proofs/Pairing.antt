-- Two sockets are made, and then a Desc for each of them.
use Rattle.std.proofs.Common.{◌≡◌, ◌≢◌, ℕ, ◌+◌, ◌-◌, ◌==◌, List, [], ◌∷◌, count_by, Option, None, Some, length, refl, sym, ap, subst, ◌∙◌, arith, length-append}
use Rattle.kabi_types.specs.declared.classes.Class.TheVariants as class
use Rattle.kabi_types.specs.Counts.{with_count}
use Rattle.kheap_slabs.specs.Objects.{InUse, object, put}
use Rattle.kheap_slabs.specs.Purse.{Purse}
use Rattle.kheap_slabs.specs.declared.objects.Chunk.{Chunk}
use Rattle.kheap_slabs.specs.declared.objects.Desc.{Desc}
use Rattle.kheap_slabs.specs.declared.objects.Sock.{Sock}
use Rattle.kheap_slabs.specs.Heap.{Heap}
use Rattle.kheap_slabs.specs.Owners.{OwnsItsObjects}
use Rattle.open_laws.specs.Owned.{CountsItsNames, HasItsOwners, desc_count, desc_count_at}
use Rattle.open_laws.specs.Placed.{Numbers, numbered}
use Rattle.posix_defs.specs.Calls.OnSockets.{description_of}
use Rattle.posix_defs.specs.Files.State.{Files, with_sockets}
use Rattle.posix_defs.specs.Sockets.{Sockets, with_pair}
use Rattle.usock_core.specs.Standing.{IsHeldIn, LeavesOthers, QueuesStay, StandsFor as SocketsStandFor}
use Rattle.proc_table.specs.Table.{TableView}
use Rattle.proc_numbers.specs.Having.{AreListed, HaveOpen}
use Rattle.proc_numbers.specs.Queues.{QueuesStand}
use Rattle.proc_numbers.proofs.Fronts.{queues_same, queues_then}
use Rattle.proc_numbers.proofs.NumberCloses.{listed_on}
use Rattle.proc_numbers.proofs.Sums.{count_cons, one_if}
use Rattle.proc_table.proofs.PlaceLemmas.{eqb_same}
use Rattle.proc_numbers.specs.SocketOpening.{OpensBoth, described_more, with_desc, with_socks}
use Rattle.proc_numbers.specs.Owning.{HasOwnersBut, desc_on}
use Rattle.proc_numbers.proofs.Owners.{held_turned, owners_all, owners_two}
use Rattle.proc_numbers.proofs.Renaming.{given, stays}
use Rattle.proc_numbers.proofs.Told.{free_before, have_pair, keeps_desc, keeps_socks, queues_changed, vacant_changed}

-- two keys in hand in the other order
hand_turned : (h : Heap) (a b : ℕ) → HasItsOwners h (a ∷ b ∷ []) → HasItsOwners h (b ∷ a ∷ [])
hand_turned h a b owners = record {
  objects = owners.objects;
  named = record {
    counts = λ key.
        let before = owners.named.counts key in
        let one = count_cons (λ k. k == key) a (b ∷ []) in let two = count_cons (λ k. k == key) b [] in
        let three = count_cons (λ k. k == key) b (a ∷ []) in let four = count_cons (λ k. k == key) a [] in
        let none : count_by (λ k. k == key) [] ≡ 0 = refl in
        omega (arith, before, one, two, three, four, none);
    named = owners.named.named;
  };
  held = owners.held;
}

-- a call that describes a socket
abbrev Describes : Heap → Heap → ℕ → ℕ → Type 0
Describes old new sock key =
    (numbers : Numbers) (files : Files) (kept : TableView) (hand : List ℕ) → AreListed old kept → CountsItsNames old hand → HaveOpen numbers old kept files
    → HaveOpen (with_desc numbers files key) new kept (described_more files (numbers.socks sock))

-- and leaves its owners
abbrev Owns : Heap → Heap → ℕ → ℕ → Type 0
Owns old new sock key = (hand loose : List ℕ) → HasOwnersBut old hand (sock ∷ loose) → HasOwnersBut new (key ∷ hand) loose

module _ (old made mid new : Heap) (one other here there : ℕ) (vacant : object old.socks one ≡ None) (also_vacant : object old.socks other ≡ None)
    (used : InUse made.socks one × InUse made.socks other) (apart : one ≢ other)
    (stands : (sockets : Sockets) → SocketsStandFor old sockets → SocketsStandFor made (with_pair sockets one other))
    (held : (named : List ℕ) → IsHeldIn old named → IsHeldIn made (other ∷ one ∷ named)) (objects : OwnsItsObjects made) (others : LeavesOthers old made) (queues : QueuesStay old made)
    (free : object made.descs here ≡ None) (first : mid ≡ record made { descs = put made.descs here (desc_on one); high = mid.high }) (first_owns : Owns made mid one here) (first_opens : Describes made mid one here)
    (also_free : object mid.descs there ≡ None) (second : new ≡ record mid { descs = put mid.descs there (desc_on other); high = new.high }) (second_owns : Owns mid new other there) (second_opens : Describes mid new other there)
    (owners : HasItsOwners old []) where
  but : HasOwnersBut made [] (one ∷ other ∷ [])
  but =
      owners_two old made [] one other (record { others = others; objects = objects; held = λ named is. held_turned made one other named (held named is) })
      owners vacant also_vacant apart

  then_but : HasOwnersBut mid (here ∷ []) (other ∷ [])
  then_but = first_owns [] (other ∷ []) but

  pub owners_both : HasItsOwners new (here ∷ there ∷ [])
  owners_both = hand_turned new there here (owners_all new (there ∷ here ∷ []) (second_owns (here ∷ []) [] then_but))

  pub kept_both : new ≡ record old { descs = new.descs; chunks = new.chunks; socks = new.socks; high = new.high }
  kept_both =
      whole
      ∙ ap (λ (d : List (Option Desc)). record old { descs = d; chunks = made.chunks; socks = made.socks; high = new.high }) (sym (ap (λ (h : Heap). h.descs) whole))
      ∙ ap (λ (c : List (Option Chunk)). record old { descs = new.descs; chunks = c; socks = made.socks; high = new.high }) (sym (ap (λ (h : Heap). h.chunks) whole))
      ∙ ap (λ (s : List (Option Sock)). record old { descs = new.descs; chunks = new.chunks; socks = s; high = new.high }) (sym (ap (λ (h : Heap). h.socks) whole))
    where
      whole : new ≡ record old { descs = put mid.descs there (desc_on other); chunks = made.chunks; socks = made.socks; high = new.high }
      whole =
          second
          ∙ ap (λ (h : Heap). record h { descs = put mid.descs there (desc_on other); high = new.high }) first
          ∙ ap (λ (h : Heap). record h { descs = put mid.descs there (desc_on other); high = new.high }) others.kept

  pub queues_both : QueuesStand old new
  queues_both =
      queues_then old made new (queues_changed old made others queues)
      (queues_then made mid new (queues_same made mid (ap (λ (h : Heap). h.pipes) first) (ap (λ (h : Heap). h.socks) first)) (queues_same mid new (ap (λ (h : Heap). h.pipes) second) (ap (λ (h : Heap). h.socks) second)))

  module _ (numbers : Numbers) (files : Files) (kept : TableView) (listed : AreListed old kept) (have : HaveOpen numbers old kept files) where
    abbrev paired : Files
    paired = with_sockets files (with_pair files.sockets (length files.sockets) (length files.sockets + 1))

    abbrev numbers_made : Numbers
    numbers_made = with_socks numbers files one other

    abbrev numbers_mid : Numbers
    numbers_mid = with_desc numbers_made paired here

    abbrev files_mid : Files
    files_mid = described_more paired (numbers_made.socks one)

    abbrev numbers_new : Numbers
    numbers_new = with_desc numbers_mid files_mid there

    at_one_sock : numbers_made.socks one ≡ length files.sockets
    at_one_sock = stays (numbered numbers.socks one (length files.sockets)) other (length files.sockets + 1) one apart ∙ given numbers.socks one (length files.sockets)

    at_other_sock : numbers_made.socks other ≡ length files.sockets + 1
    at_other_sock = given (numbered numbers.socks one (length files.sockets)) other (length files.sockets + 1)

    listed_made : AreListed made kept
    listed_made = listed_on old made kept (ap (λ (h : Heap). h.procs) others.kept) (ap (λ (h : Heap). h.leaves) others.kept) listed

    free_there : object made.descs there ≡ None
    free_there = free_before made mid here there (desc_on one) free (ap (λ (h : Heap). h.descs) first) also_free

    places_differ : here ≢ there
    places_differ same =
        let counts = then_but.named.counts here in
        let none : desc_count_at mid.descs here ≡ 0 = ap desc_count (ap (object mid.descs) same ∙ also_free) in
        let hand = count_cons (λ k. k == here) here [] in
        let it : one_if (here == here) ≡ 1 = ap one_if (eqb_same here here refl) in
        omega (arith, counts, none, hand, it)

    have_mid : HaveOpen numbers_mid mid kept files_mid
    have_mid =
        first_opens numbers_made paired kept [] listed_made but.named
        (have_pair numbers old made kept others owners files have one other vacant used.0 also_vacant used.1 apart stands)

    have_new : HaveOpen numbers_new new kept (described_more files_mid (numbers_mid.socks other))
    have_new = second_opens numbers_mid files_mid kept (here ∷ []) (listed_on made mid kept (ap (λ (h : Heap). h.procs) first) (ap (λ (h : Heap). h.leaves) first) listed_made) then_but.named have_mid

    pub opens_both : OpensBoth numbers old new kept files here there
    opens_both = record {
      now = numbers_new;
      keeps = keeps_desc old numbers numbers_mid files_mid there (vacant_changed old made others there free_there)
          (keeps_desc old numbers numbers_made paired here (vacant_changed old made others here free) (keeps_socks old numbers files one other vacant also_vacant));
      stands =
          subst (λ n. HaveOpen numbers_new new kept (described_more (described_more paired (length files.sockets)) n)) at_other_sock
          (subst (λ n. HaveOpen numbers_new new kept (described_more (described_more paired n) (numbers_made.socks other))) at_one_sock have_new);
      at_one = stays numbers_mid.descs there (length files_mid.descriptions) here places_differ ∙ given numbers.descs here (length files.descriptions);
      at_other = given numbers_mid.descs there (length files_mid.descriptions)
          ∙ (let more = length-append files.descriptions (Some (description_of (numbers_made.socks one)) ∷ []) in let single : length (Some (description_of (numbers_made.socks one)) ∷ []) ≡ 1 = refl in omega (arith, more, single));
    }

-- ---- the purse

abbrev spent_one : Purse → Purse
spent_one purse = record purse { left = with_count purse.left class.Desc (purse.left.desc - 1) }

twice_less : (n : ℕ) → n - 1 - 1 ≡ n - 2
twice_less n = omega arith

pub spent_both : (before made mid after : Purse) → made ≡ record before { left = with_count before.left class.Sock (before.left.sock - 2) }
    → mid ≡ record made { left = with_count made.left class.Desc (made.left.desc - 1) } → after ≡ record mid { left = with_count mid.left class.Desc (mid.left.desc - 1) }
    → after ≡ record before { left = with_count (with_count before.left class.Sock (before.left.sock - 2)) class.Desc (before.left.desc - 2) }
spent_both before made mid after one two three =
    three ∙ ap spent_one two ∙ ap (λ purse. spent_one (spent_one purse)) one
    ∙ ap (λ n. record before { left = with_count (with_count before.left class.Sock (before.left.sock - 2)) class.Desc n }) (twice_less before.left.desc)
