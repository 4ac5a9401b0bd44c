-- What `poll` tells, and what it leads to.
use Rattle.std.proofs.Common.{◌≡◌, ℕ, zero, suc, ℤ, pos, negsuc, ◌+◌, ◌<◌, ◌==◌, ◌&&◌, Bool, true, false, cond, List, [], ◌∷◌, map, take, set, length, get_or, Option, None, Some, refl, ap, sym, subst, ◌∙◌, arith, ne_eqb}
use Rattle.std.specs.Option.{option_map}
use Rattle.kabi_types.specs.Arguments.{is_minus_one}
use Rattle.kabi_types.specs.declared.calls.Call.TheVariants as call
use Rattle.kabi_types.specs.declared.replies.Reply.TheVariants.{Polled}
use Rattle.kabi_types.specs.declared.short_lists.PollEntry.{PollEntry}
use Rattle.kabi_types.specs.declared.scripts.Script.{Script}
use Rattle.kheap_slabs.specs.Objects.{object}
use Rattle.kheap_slabs.specs.declared.objects.Descriptor.{Descriptor as HeldDescriptor}
use Rattle.kheap_slabs.specs.declared.objects.Proc.{Proc}
use Rattle.kheap_slabs.specs.Heap.{Heap}
use Rattle.open_laws.specs.Open.{descriptors_by}
use Rattle.open_laws.specs.Owned.{HasItsOwners}
use Rattle.open_laws.specs.Polled.{IsOpenIn}
use Rattle.open_laws.specs.Placed.{Numbers}
use Rattle.posix_defs.specs.Account.{Account}
use Rattle.posix_defs.specs.Answer.{Blocked, replied}
use Rattle.posix_defs.specs.Calls.Polling.{hits_of, poll, revents_of}
use Rattle.posix_defs.specs.Files.Descriptors.{descriptor_of}
use Rattle.posix_defs.specs.Machine.{blocks}
use Rattle.posix_defs.specs.Plain.{Plain}
use Rattle.posix_defs.specs.declared.turner.Turned.TheVariants as turned
use Rattle.proc_numbers.specs.Having.{AreListed}
use Rattle.proc_table.specs.Procs.{numbers_in}
use Rattle.proc_table.specs.Table.{TableView, key_of}
use Rattle.proc_numbers.specs.Found.{held_at}
use Rattle.proc_numbers.specs.Standing.{IsKept, Leads, StandsFor}
use Rattle.proc_numbers.proofs.Leading.{leads_nowhere, leads_to_sleep}
use Rattle.proc_numbers.proofs.NamedOpen.{desc_there, held_by}

-- what each number of a process names is there, if it names anything
pub number_opens : (h : Heap) (kept : TableView) (pid key : ℕ) (proc : Proc) → AreListed h kept → key_of kept.listed pid ≡ Some key → object h.procs key ≡ Some proc → HasItsOwners h []
    → (fd : ℤ) → IsOpenIn h (descriptor_of (descriptors_by (λ k. k) (numbers_in h proc)) fd)
number_opens h kept pid key proc listed named there owners fd =
    subst (IsOpenIn h) (sym (held_by (λ k. k) (numbers_in h proc) fd)) (by_held (held_at (numbers_in h proc) fd) refl)
  where
    by_held : (o : Option HeldDescriptor) → held_at (numbers_in h proc) fd ≡ o → IsOpenIn h (option_map (λ (held : HeldDescriptor). record { description = held.desc; cloexec = held.close_on_exec }) o)
    by_held None is = tt
    by_held (Some held) is = desc_there h kept pid key proc listed named there owners fd held is

-- the timeout
pub minus_one : (timeout : ℤ) → timeout ≡ negsuc 0 → is_minus_one timeout ≡ true
minus_one timeout is = ap is_minus_one is

pub other_timeout : (timeout : ℤ) → (timeout ≡ negsuc 0 → ⊥) → is_minus_one timeout ≡ false
other_timeout (pos n) differs = refl
other_timeout (negsuc n) differs = ne_eqb n 0 (λ none. differs (ap negsuc none))

module _ (script : Script) (plain : Plain) (pid : ℕ) (timeout : ℤ) (entries : List PollEntry) where
  pub polls_so : (b : Bool) → ((hits_of (revents_of plain.files pid entries) == 0) && is_minus_one timeout) ≡ b
      → poll script plain pid timeout entries
      ≡ cond b Blocked (replied script plain pid (Polled (record { hits = hits_of (revents_of plain.files pid entries); revents = revents_of plain.files pid entries })))
  unfolding poll
  polls_so b is =
      ap (λ t. cond t Blocked (replied script plain pid (Polled (record { hits = hits_of (revents_of plain.files pid entries); revents = revents_of plain.files pid entries })))) is

  pub poll_blocks : blocks (poll script plain pid timeout entries) ≡ ((hits_of (revents_of plain.files pid entries) == 0) && is_minus_one timeout)
  poll_blocks = go ((hits_of (revents_of plain.files pid entries) == 0) && is_minus_one timeout) refl
    where
      go : (b : Bool) → ((hits_of (revents_of plain.files pid entries) == 0) && is_minus_one timeout) ≡ b → blocks (poll script plain pid timeout entries) ≡ ((hits_of (revents_of plain.files pid entries) == 0) && is_minus_one timeout)
      go true is = ap blocks (polls_so true is) ∙ sym is
      go false is = ap blocks (polls_so false is) ∙ sym is

  module _ (numbers : Numbers) (h : Heap) (kept : TableView) (account : Account) (is : IsKept h kept) (stands : StandsFor numbers h kept plain account) where
    pub leads_polled : (hits : ℕ) (revents : List ℕ) → revents ≡ revents_of plain.files pid entries → hits ≡ hits_of revents → ((hits == 0) && is_minus_one timeout) ≡ false
        → Leads script numbers h kept plain account pid (call.Poll timeout entries) (poll script plain pid timeout entries) (turned.Done (Polled (record { hits = hits; revents = revents })))
    leads_polled hits revents told counted over =
        let all : hits ≡ hits_of (revents_of plain.files pid entries) = counted ∙ ap hits_of told in
        subst (λ answer. Leads script numbers h kept plain account pid (call.Poll timeout entries) answer (turned.Done (Polled (record { hits = hits; revents = revents }))))
        (ap (λ n. replied script plain pid (Polled (record { hits = n; revents = revents }))) all
        ∙ ap (λ (list : List ℕ). replied script plain pid (Polled (record { hits = hits_of (revents_of plain.files pid entries); revents = list }))) told
        ∙ sym (polls_so false (ap (λ n. (n == 0) && is_minus_one timeout) (sym all) ∙ over)))
        (leads_nowhere script numbers h kept plain account pid (call.Poll timeout entries) is stands (Polled (record { hits = hits; revents = revents })) refl)

    pub leads_waiting : (hits : ℕ) (revents : List ℕ) → revents ≡ revents_of plain.files pid entries → hits ≡ hits_of revents → ((hits == 0) && is_minus_one timeout) ≡ true
        → Leads script numbers h kept plain account pid (call.Poll timeout entries) (poll script plain pid timeout entries) turned.Sleep
    leads_waiting hits revents told counted waits =
        let all : hits ≡ hits_of (revents_of plain.files pid entries) = counted ∙ ap hits_of told in
        subst (λ answer. Leads script numbers h kept plain account pid (call.Poll timeout entries) answer turned.Sleep)
        (sym (polls_so true (ap (λ n. (n == 0) && is_minus_one timeout) (sym all) ∙ waits)))
        (leads_to_sleep script numbers h kept plain account pid (call.Poll timeout entries) is stands)

-- ---- one entry after another

-- one more is told
pub told_next : {Y : Type 0} (f : Y → ℕ) (xs : List ℕ) (ys : List Y) (i : ℕ) (d : Y) → i < length xs → i < length ys → take i xs ≡ map f (take i ys)
    → take (i + 1) (set xs i (f (get_or ys i d))) ≡ map f (take (i + 1) ys)
told_next f xs ys i d within there so =
    ap (λ n. take n (set xs i (f (get_or ys i d)))) (let e : i + 1 ≡ suc i = omega arith in e)
    ∙ go xs ys i within there so
    ∙ ap (λ n. map f (take n ys)) (let e : suc i ≡ i + 1 = omega arith in e)
  where
    head_same : {X : Type 0} (a b : X) (one other : List X) → (a ∷ one) ≡ (b ∷ other) → a ≡ b
    head_same a b one other e = cc

    tail_same : {X : Type 0} (a b : X) (one other : List X) → (a ∷ one) ≡ (b ∷ other) → one ≡ other
    tail_same a b one other e = cc

    go : (xs : List ℕ) (ys : List _) (i : ℕ) → i < length xs → i < length ys → take i xs ≡ map f (take i ys) → take (suc i) (set xs i (f (get_or ys i d))) ≡ map f (take (suc i) ys)
    go [] ys i within there so = absurd (omega (arith, within))
    go (x ∷ xs) [] i within there so = absurd (omega (arith, there))
    go (x ∷ xs) (y ∷ ys) zero within there so = refl
    go (x ∷ xs) (y ∷ ys) (suc i) within there so =
        ap (λ h. h ∷ take (suc i) (set xs i (f (get_or ys i d)))) (head_same x (f y) (take i xs) (map f (take i ys)) so)
        ∙ ap (λ rest. f y ∷ rest) (go xs ys i (omega (arith, within)) (omega (arith, there)) (tail_same x (f y) (take i xs) (map f (take i ys)) so))
