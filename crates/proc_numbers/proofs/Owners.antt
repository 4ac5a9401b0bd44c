-- Who owns what, while sockets are made or taken, and once a Desc is open on one.
use Rattle.std.proofs.Common.{◌≡◌, ◌≢◌, ℕ, ◌<◌, ◌==◌, ◌++◌, Bool, false, List, [], ◌∷◌, length, count_by, Option, None, Some, IsSome, is_some, refl, sym, ap, subst, ◌∙◌, arith, inl, inr, Contains}
use Rattle.std.proofs.lemmas.Bool.{cases_eq}
use Rattle.std.proofs.lemmas.List.{length-set}
use Rattle.std.proofs.lemmas.List.Elements.{Contains-append_left, Contains-append_right, Contains-append_cases}
use Rattle.chunk_queue.proofs.HeldLemmas.{HasBytes-same}
use Rattle.chunk_queue.proofs.JoinedLemmas.{Contains-cons, Contains-cons_cases}
use Rattle.kheap_laws.proofs.OnceLemmas.{Contains-single}
use Rattle.kheap_laws.proofs.TableLemmas.{OwnsItsObjects-along}
use Rattle.kheap_slabs.specs.Objects.{InUse, object, put}
use Rattle.kheap_slabs.specs.declared.objects.Access.{Access}
use Rattle.kheap_slabs.specs.declared.objects.Desc.{Desc}
use Rattle.kheap_slabs.specs.declared.objects.Target.{Target}
use Rattle.kheap_slabs.specs.declared.objects.Target.TheVariants as target
use Rattle.kheap_slabs.proofs.ObjectLemmas.{InUse-within}
use Rattle.kheap_slabs.specs.Heap.{Heap}
use Rattle.kheap_slabs.specs.Owners.{pipe_queues, sock_queues, spaces_of}
use Rattle.open_laws.specs.Described.{inode_in}
use Rattle.open_laws.specs.Owned.{CountsItsNames, HasItsEnds, HasItsOwners, IsThereFor, all_namings, desc_count, desc_count_at, has_read_end, has_write_end, sock_in, socks_named}
use Rattle.open_laws.proofs.OwnerLemmas.{named_by, names}
use Rattle.pipe_ends.proofs.StandingLemmas.{stands_on as pipe_stands_on, stands_same as pipe_stands_same}
use Rattle.posix_defs.specs.SocketLinks.{NoneTwice}
use Rattle.usock_core.specs.Standing.{IsHeldIn}
use Rattle.usock_core.proofs.HeldLemmas.{held_moved, socket_held}
use Rattle.usock_core.proofs.StandingLemmas.{held_on}
use Rattle.proc_table.proofs.PlaceLemmas.{some_same}
use Rattle.proc_numbers.specs.Having.{OpensNoNode}
use Rattle.proc_numbers.proofs.Sums.{count_cons, one_if}
use Rattle.proc_numbers.proofs.Made.{made_count, made_here, made_named, made_others}
use Rattle.proc_numbers.specs.Owning.{HasOwnersBut, SocketsChange, desc_on}

nothing_used : {X : Type 0} (o : Option X) → o ≡ None → IsSome o → ⊥
nothing_used None none some = cc
nothing_used (Some x) none some = cc

-- what Descs are open on isn't among sockets that were free
pub free_apart : (h : Heap) (hand : List ℕ) (sock : ℕ) → HasItsOwners h hand → object h.socks sock ≡ None → (key : ℕ) → sock_in (object h.descs key) ≢ Some sock
free_apart h hand sock owners free key is =
    let there = socket_held h (socks_named h.descs) sock (named_by h.descs key sock is) owners.held.socks in
    nothing_used (object h.socks sock) free there.used

-- ---- sockets change

module _ (old new : Heap) (loose hand : List ℕ) (change : SocketsChange old new loose) (owners : HasItsOwners old hand)
    (apart : (sock : ℕ) → Contains loose sock → (key : ℕ) → sock_in (object old.descs key) ≢ Some sock) (single : NoneTwice loose) where
  same_descs : new.descs ≡ old.descs
  same_descs = ap (λ (h : Heap). h.descs) change.others.kept

  same_pipes : new.pipes ≡ old.pipes
  same_pipes = ap (λ (h : Heap). h.pipes) change.others.kept

  held_now : IsHeldIn new (loose ++ socks_named old.descs)
  held_now = change.held (socks_named old.descs) owners.held.socks

  there_now : (key sock : ℕ) → sock_in (object old.descs key) ≡ Some sock → InUse new.socks sock
  there_now key sock is = (socket_held new (loose ++ socks_named old.descs) sock (Contains-append_right loose (socks_named old.descs) sock (named_by old.descs key sock is)) held_now).used

  target_now : (key : ℕ) (access : Access) (what : Target) → ((sock : ℕ) → what ≡ target.Sock sock → InUse new.socks sock) → IsThereFor old access what → IsThereFor new access what
  target_now key access (target.Inode number) used there = tt
  target_now key access (target.Pipe pipe) used there = (subst (λ p. InUse p pipe) (sym same_pipes) there.0, there.1)
  target_now key access (target.Sock sock) used there = used sock refl

  pub owners_but : HasOwnersBut new hand loose
  owners_but = record {
    objects = change.objects;
    named = subst (λ (h : Heap). CountsItsNames h hand) (sym change.others.kept) (record { counts = owners.named.counts; named = owners.named.named });
    targets = λ key desc at.
        let was : object old.descs key ≡ Some desc = ap (λ d. object d key) (sym same_descs) ∙ at in
        target_now key desc.access desc.target (λ sock on. there_now key sock (ap sock_in was ∙ on_sock desc sock on)) (owners.held.targets key desc was);
    pipes = λ key pipe at.
        let was = ap (λ p. object p key) (sym same_pipes) ∙ at in
        subst (λ d. HasItsEnds d key pipe) (sym same_descs) (owners.held.pipes key pipe was);
    stand = λ key used.
        let stands = owners.held.stand key (subst (λ p. InUse p key) same_pipes used) in
        (stands.0, stands.1, pipe_stands_on old new key stands.0 stands.1 (ap (λ p. object p key) same_pipes) (change.others.pipes key) stands.2);
    socks = subst (λ d. IsHeldIn new (loose ++ socks_named d)) (sym same_descs) held_now;
    once = subst (λ (d : List (Option Desc)). (one other sock : ℕ) → sock_in (object d one) ≡ Some sock → sock_in (object d other) ≡ Some sock → one ≡ other) (sym same_descs) owners.held.once;
    apart = subst (λ (d : List (Option Desc)). (sock : ℕ) → Contains loose sock → (key : ℕ) → sock_in (object d key) ≢ Some sock) (sym same_descs) apart;
    single = single;
  }
    where
      on_sock : (desc : Desc) (sock : ℕ) → desc.target ≡ target.Sock sock → sock_in (Some desc) ≡ Some sock
      on_sock desc sock on = ap (λ what. sock_in (Some (record desc { target = what }))) on

-- once no socket is without a Desc
pub owners_all : (h : Heap) (hand : List ℕ) → HasOwnersBut h hand [] → HasItsOwners h hand
owners_all h hand but = record {
  objects = but.objects;
  named = but.named;
  held = record { targets = but.targets; pipes = but.pipes; stand = but.stand; socks = but.socks; once = but.once };
}

-- where none is made or taken
pub owners_change : (old new : Heap) (hand : List ℕ) → SocketsChange old new [] → HasItsOwners old hand → HasItsOwners new hand
owners_change old new hand change owners = owners_all new hand (owners_but old new [] hand change owners (λ sock among. absurd (omega (arith, among.1))) tt)

-- one is made or taken
pub owners_one : (old new : Heap) (hand : List ℕ) (made : ℕ) → SocketsChange old new (made ∷ []) → HasItsOwners old hand → ((key : ℕ) → sock_in (object old.descs key) ≢ Some made) → HasOwnersBut new hand (made ∷ [])
owners_one old new hand made change owners apart =
    owners_but old new (made ∷ []) hand change owners (λ sock among. subst (λ (s : ℕ). (key : ℕ) → sock_in (object old.descs key) ≢ Some s) (Contains-single made sock among) apart)
    (λ among. omega (arith, among.1), tt)

-- two are made
pub owners_two : (old new : Heap) (hand : List ℕ) (one other : ℕ) → SocketsChange old new (one ∷ other ∷ []) → HasItsOwners old hand → object old.socks one ≡ None → object old.socks other ≡ None → one ≢ other
    → HasOwnersBut new hand (one ∷ other ∷ [])
owners_two old new hand one other change owners free also_free differ =
    owners_but old new (one ∷ other ∷ []) hand change owners (λ sock among. elim (Contains-cons_cases one sock (other ∷ []) among) [
      | inl same ↦ subst (λ (s : ℕ). (key : ℕ) → sock_in (object old.descs key) ≢ Some s) same (free_apart old hand one owners free)
      | inr behind ↦ subst (λ (s : ℕ). (key : ℕ) → sock_in (object old.descs key) ≢ Some s) (Contains-single other sock behind) (free_apart old hand other owners also_free)
    ])
    (λ among. differ (sym (Contains-single other one among)), (λ among. omega (arith, among.1), tt))

-- in either order
pub held_turned : (new : Heap) (one other : ℕ) (named : List ℕ) → IsHeldIn new (other ∷ one ∷ named) → IsHeldIn new (one ∷ other ∷ named)
held_turned new one other named =
    held_moved new (other ∷ one ∷ named) (one ∷ other ∷ named) (λ k among. turned other one k among) (λ k among. turned one other k among)
  where
    turned : (a b k : ℕ) → Contains (a ∷ b ∷ named) k → Contains (b ∷ a ∷ named) k
    turned a b k among = elim (Contains-cons_cases a k (b ∷ named) among) [
      | inl same ↦ Contains-cons b k (a ∷ named) (subst (Contains (a ∷ named)) same (0, omega arith, refl))
      | inr behind ↦ elim (Contains-cons_cases b k named behind) [
        | inl same ↦ subst (Contains (b ∷ a ∷ named)) same (0, omega arith, refl)
        | inr rest ↦ Contains-cons b k (a ∷ named) (Contains-cons a k named rest)
      ]
    ]

-- ---- a Desc is open on one

-- the key that it has
pub made_within : (old new : Heap) (sock key : ℕ) → new ≡ record old { descs = put old.descs key (desc_on sock); high = new.high } → object new.descs key ≡ Some (desc_on sock) → key < length old.descs
made_within old new sock key kept stored =
    let there : object (put old.descs key (desc_on sock)) key ≡ Some (desc_on sock) = ap (λ (h : Heap). object h.descs key) (sym kept) ∙ stored in
    subst (λ n. key < n) (length-set old.descs key (Some (desc_on sock))) (InUse-within (put old.descs key (desc_on sock)) key (ap is_some there))

module _ (old new : Heap) (sock key : ℕ) (vacant : object old.descs key ≡ None) (within : key < length old.descs)
    (kept : new ≡ record old { descs = put old.descs key (desc_on sock); high = new.high }) where
  abbrev desc : Desc
  desc = desc_on sock

  descs_are : new.descs ≡ put old.descs key desc
  descs_are = ap (λ (h : Heap). h.descs) kept

  data Which (other : ℕ) (found : Desc) : Type 0 where
    is_it : other ≡ key → found ≡ desc → Which other found
    is_other : other ≢ key → object old.descs other ≡ Some found → Which other found

  which : (other : ℕ) (found : Desc) → object new.descs other ≡ Some found → Which other found
  which other found at = elim (cases_eq other key) [
    | inl same ↦ is_it same (some_same (object new.descs other) found desc at (ap (λ d. object d other) descs_are ∙ ap (object (put old.descs key desc)) same ∙ made_here old.descs key desc vacant within))
    | inr apart ↦ is_other apart (sym (made_others old.descs key desc vacant within other apart) ∙ ap (λ d. object d other) (sym descs_are) ∙ at)
  ]

  -- and which socket a Desc is open on
  data On (other at : ℕ) : Type 0 where
    on_it : other ≡ key → at ≡ sock → On other at
    on_other : other ≢ key → sock_in (object old.descs other) ≡ Some at → On other at

  on : (other at : ℕ) → sock_in (object new.descs other) ≡ Some at → On other at
  on other at is = elim (cases_eq other key) [
    | inl same ↦ on_it same (same_number (sym is ∙ ap (λ d. sock_in (object d other)) descs_are ∙ ap (λ k. sock_in (object (put old.descs key desc) k)) same ∙ ap sock_in (made_here old.descs key desc vacant within)))
    | inr apart ↦ on_other apart (ap sock_in (sym (made_others old.descs key desc vacant within other apart)) ∙ ap (λ d. sock_in (object d other)) (sym descs_are) ∙ is)
  ]
    where
      same_number : {a b : ℕ} → Some a ≡ Some b → a ≡ b
      same_number e = cc

  -- a Desc is open still on what it was open on
  still_on : (other at : ℕ) → sock_in (object old.descs other) ≡ Some at → sock_in (object new.descs other) ≡ Some at
  still_on other at is =
      ap (λ d. sock_in (object d other)) descs_are ∙ ap sock_in (made_others old.descs key desc vacant within other (λ same. no_sock (object old.descs other) (ap (object old.descs) same ∙ vacant) is)) ∙ is
    where
      no_sock : (o : Option Desc) → o ≡ None → sock_in o ≡ Some at → ⊥
      no_sock None none some = cc
      no_sock (Some d) none some = cc

  here_on : sock_in (object new.descs key) ≡ Some sock
  here_on = ap (λ d. sock_in (object d key)) descs_are ∙ ap sock_in (made_here old.descs key desc vacant within)

  pub no_node_described : OpensNoNode old.descs → OpensNoNode new.descs
  no_node_described none other found at = by_which (which other found at)
    where
      by_which : Which other found → inode_in found.target ≡ None
      by_which (is_it same it) = ap (λ (d : Desc). inode_in d.target) it
      by_which (is_other apart was) = none other found was

  module _ (hand loose : List ℕ) (but : HasOwnersBut old hand (sock ∷ loose)) where
    abbrev had : List ℕ
    had = (sock ∷ loose) ++ socks_named old.descs

    abbrev has : List ℕ
    has = loose ++ socks_named new.descs

    forth : (k : ℕ) → Contains had k → Contains has k
    forth k among = elim (Contains-append_cases (sock ∷ loose) (socks_named old.descs) k among) [
      | inl front ↦ elim (Contains-cons_cases sock k loose front) [
        | inl same ↦ Contains-append_right loose (socks_named new.descs) k (named_by new.descs key k (here_on ∙ ap Some same))
        | inr behind ↦ Contains-append_left loose (socks_named new.descs) k behind
      ]
      | inr back ↦ let by = names old.descs k back in Contains-append_right loose (socks_named new.descs) k (named_by new.descs by.0 k (still_on by.0 k by.1))
    ]

    back : (k : ℕ) → Contains has k → Contains had k
    back k among = elim (Contains-append_cases loose (socks_named new.descs) k among) [
      | inl front ↦ Contains-append_left (sock ∷ loose) (socks_named old.descs) k (Contains-cons sock k loose front)
      | inr named ↦ let by = names new.descs k named in by_on by.0 (on by.0 k by.1)
    ]
      where
        by_on : (other : ℕ) → On other k → Contains had k
        by_on other (on_it same it) = subst (Contains had) (sym it) (0, omega arith, refl)
        by_on other (on_other apart was) = Contains-append_right (sock ∷ loose) (socks_named old.descs) k (named_by old.descs other k was)

    socks_now : IsHeldIn new has
    socks_now =
        held_moved new had has forth back
        (held_on old new had (ap (λ (h : Heap). h.socks) kept)
        (λ k held bytes is has_it. HasBytes-same old new held.queue bytes (ap (λ (h : Heap). h.chunks) kept) has_it) but.socks)

    count_still : (test : Option Desc → Bool) → test None ≡ false → test (Some desc) ≡ false → count_by test new.descs ≡ count_by test old.descs
    count_still test none off =
        let one = made_count old.descs key desc vacant within test none in
        let in_new : count_by test new.descs ≡ count_by test (put old.descs key desc) = ap (count_by test) descs_are in
        let nothing : one_if (test (Some desc)) ≡ 0 = ap one_if off in
        omega (arith, one, in_new, nothing)

    named_now : CountsItsNames new (key ∷ hand)
    named_now = record {
      counts = λ other.
          let one = made_named old.descs key desc vacant within other in
          let in_new : desc_count_at new.descs other ≡ desc_count_at (put old.descs key desc) other = ap (λ d. desc_count_at d other) descs_are in
          let before = but.named.counts other in
          let in_procs : all_namings new other ≡ all_namings old other = ap (λ (h : Heap). all_namings h other) kept in
          let more = count_cons (λ k. k == other) key hand in
          omega (arith, one, in_new, before, in_procs, more);
      named = λ other used. by_desc other (object new.descs other) refl used;
    }
      where
        counted : (other : ℕ) (found : Desc) → Which other found → 0 < found.count
        counted other found (is_it same it) = subst (λ (d : Desc). 0 < d.count) (sym it) (omega arith)
        counted other found (is_other apart was) = subst (λ o. 0 < desc_count o) was (but.named.named other (ap is_some was))

        by_desc : (other : ℕ) (o : Option Desc) → object new.descs other ≡ o → IsSome o → 0 < desc_count_at new.descs other
        by_desc other None none used = cc
        by_desc other (Some found) at used = subst (λ o. 0 < desc_count o) (sym at) (counted other found (which other found at))

    target_then : (access : Access) (what : Target) → IsThereFor old access what → IsThereFor new access what
    target_then access what = subst (λ (h : Heap). IsThereFor old access what → IsThereFor h access what) (sym kept) (by_target what)
      where
        by_target : (w : Target) → IsThereFor old access w → IsThereFor (record old { descs = put old.descs key desc; high = new.high }) access w
        by_target (target.Inode number) there = there
        by_target (target.Pipe pipe) there = there
        by_target (target.Sock other) there = there

    target_here : IsThereFor old desc.access desc.target
    target_here = (socket_held old had sock (0, omega arith, refl) but.socks).used

    pub owners_described : HasOwnersBut new (key ∷ hand) loose
    owners_described = record {
      objects = OwnsItsObjects-along old new (ap (λ (h : Heap). spaces_of h.procs) kept) (ap (λ (h : Heap). pipe_queues h.pipes) kept) (ap (λ (h : Heap). sock_queues h.socks) kept)
          (ap (λ (h : Heap). h.nodes) kept) (ap (λ (h : Heap). h.pages) kept) (ap (λ (h : Heap). h.chunks) kept) but.objects;
      named = named_now;
      targets = λ other found at. there_for other found (which other found at);
      pipes = λ pipe held at.
          let ends = but.pipes pipe held (ap (λ (h : Heap). object h.pipes pipe) (sym kept) ∙ at) in
          record {
            readers = ends.readers ∙ sym (count_still (has_read_end pipe) refl refl);
            writers = ends.writers ∙ sym (count_still (has_write_end pipe) refl refl);
            some_end = ends.some_end;
          };
      stand = λ pipe used.
          let stands = but.stand pipe (subst IsSome (ap (λ (h : Heap). object h.pipes pipe) kept) used) in
          (stands.0, stands.1, pipe_stands_same old new pipe stands.0 stands.1 (ap (λ (h : Heap). object h.pipes pipe) kept) (ap (λ (h : Heap). h.chunks) kept) stands.2);
      socks = socks_now;
      once = λ one other at first second. alone one other at (on one at first) (on other at second);
      apart = λ at among other is. apart_then at among other (on other at is);
      single = but.single.1;
    }
      where
        there_for : (other : ℕ) (found : Desc) → Which other found → IsThereFor new found.access found.target
        there_for other found (is_it same it) = subst (λ (d : Desc). IsThereFor new d.access d.target) (sym it) (target_then desc.access desc.target target_here)
        there_for other found (is_other apart was) = target_then found.access found.target (but.targets other found was)

        -- no other was open on it
        not_before : (other : ℕ) → sock_in (object old.descs other) ≢ Some sock
        not_before = but.apart sock (0, omega arith, refl)

        alone : (one other at : ℕ) → On one at → On other at → one ≡ other
        alone one other at (on_it same it) (on_it same_too it_too) = same ∙ sym same_too
        alone one other at (on_it same it) (on_other apart was) = absurd (not_before other (was ∙ ap Some it))
        alone one other at (on_other apart was) (on_it same it) = absurd (not_before one (was ∙ ap Some it))
        alone one other at (on_other apart was) (on_other apart_too was_too) = but.once one other at was was_too

        apart_then : (at : ℕ) → Contains loose at → (other : ℕ) → On other at → ⊥
        apart_then at among other (on_it same it) = but.single.0 (subst (Contains loose) it among)
        apart_then at among other (on_other apart was) = but.apart at (Contains-cons sock at loose among) other was
