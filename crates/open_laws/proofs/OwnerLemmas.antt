-- Who owns what is open, while a Desc is shared and while one is dropped.
use Rattle.std.proofs.Common.{◌≡◌, ◌≢◌, ℕ, zero, suc, ◌+◌, ◌-◌, ◌<◌, ◌&&◌, Bool, true, false, List, [], ◌∷◌, set, length, get_or, cond, eqb, count_by, Option, None, Some, IsSome, refl, sym, ap, subst, ◌∙◌, arith, eq-eqb, ne_eqb, inl, inr, Contains}
use Rattle.std.proofs.lemmas.Bool.{cases_eq}
use Rattle.std.proofs.lemmas.List.{get_or-set_same, get_or-set_other}
use Rattle.std.proofs.lemmas.List.Sums.{sum_by-set, sum_by-cons}
use Rattle.chunk_queue.proofs.JoinedLemmas.{Contains-cons, Contains-cons_cases}
use Rattle.kheap_laws.proofs.OnceLemmas.{Contains-single}
use Rattle.kheap_laws.proofs.TableLemmas.{OwnsItsObjects-along}
use Rattle.kheap_slabs.specs.Objects.{object, InUse, put}
use Rattle.kheap_slabs.proofs.ObjectLemmas.{object_of, InUse-within}
use Rattle.kheap_slabs.specs.declared.objects.Access.{Access}
use Rattle.kheap_slabs.specs.declared.objects.Access.TheVariants as mode
use Rattle.kheap_slabs.specs.declared.objects.Desc.{Desc}
use Rattle.kheap_slabs.specs.declared.objects.Pipe.{Pipe as HeldPipe}
use Rattle.kheap_slabs.specs.declared.objects.Leaf.{Leaf}
use Rattle.kheap_slabs.specs.declared.objects.Proc.{Proc}
use Rattle.kheap_slabs.specs.declared.objects.Target.{Target}
use Rattle.kheap_slabs.specs.declared.objects.Target.TheVariants as target
use Rattle.kheap_slabs.specs.Heap.{Heap}
use Rattle.kheap_slabs.specs.Owners.{OwnsItsObjects}
use Rattle.posix_defs.specs.Files.Descriptions.{may_read, may_write}
use Rattle.posix_defs.specs.Files.State.{beside}
use Rattle.posix_defs.specs.Pipe.{Pipe, after_close, while_open, without_reader, without_writer}
use Rattle.chunk_queue.proofs.HeldLemmas.{HasBytes-same}
use Rattle.pipe_ends.specs.Standing.{StandsFor, IsPipeAt}
use Rattle.pipe_ends.proofs.StandingLemmas.{stands_same as pipe_stands_same, stands_on as pipe_stands_on, held_readers, held_writers}
use Rattle.usock_core.specs.Standing.{IsHeldIn}
use Rattle.usock_core.proofs.StandingLemmas.{held_on}
use Rattle.usock_core.proofs.HeldLemmas.{held_moved, socket_held}
use Rattle.open_laws.specs.Described.{access_in, counting, descs_left}
use Rattle.open_laws.specs.Closing.{IsDroppable, EndCloses, SocketCloses, TargetCloses, Drops}
use Rattle.open_laws.specs.Owned.{CountsItsNames, HasItsEnds, HasItsOwners, IsHeldOpen, IsThereFor, all_namings, desc_count, desc_count_at, has_read_end, has_write_end, is_on_pipe, leaf_namings_of, namings_of, sock_in, sock_of, socks_named}
use Rattle.open_laws.proofs.CloseLemmas.{described}
use Rattle.open_laws.proofs.DescribedLemmas.{left_last, left_more}
use Rattle.open_laws.proofs.DropLemmas.{named_one, pipe_keeps, sock_keeps}
use Rattle.open_laws.proofs.PipeLemmas.{other_stands}

-- ---- a list of Descs with another one, or none, at a key

within : (descs : List (Option Desc)) (key : ℕ) (desc : Desc) → object descs key ≡ Some desc → key < length descs
within descs key desc is = InUse-within descs key (subst IsSome (sym is) refl)

pub set_here : (descs : List (Option Desc)) (key : ℕ) (desc : Desc) (now : Option Desc) → object descs key ≡ Some desc → object (set descs key now) key ≡ now
set_here descs key desc now is = get_or-set_same descs key now None (within descs key desc is)

pub set_other : (descs : List (Option Desc)) (key other : ℕ) (now : Option Desc) → other ≢ key → object (set descs key now) other ≡ object descs other
set_other descs key other now apart = get_or-set_other descs key other now None apart

-- 1 where the test is passed
abbrev pub one_if : Bool → ℕ
one_if passes = cond passes 1 0

count_set : (test : Option Desc → Bool) (descs : List (Option Desc)) (key : ℕ) (desc : Desc) (now : Option Desc) → object descs key ≡ Some desc
    → count_by test (set descs key now) + one_if (test (Some desc)) ≡ count_by test descs + one_if (test now)
count_set test descs key desc now is =
    subst (λ (was : Option Desc). count_by test (set descs key now) + one_if (test was) ≡ count_by test descs + one_if (test now)) is
    (sum_by-set (λ o. one_if (test o)) descs key now None (within descs key desc is))

count_same : (test : Option Desc → Bool) (descs : List (Option Desc)) (key : ℕ) (desc : Desc) (now : Option Desc) → object descs key ≡ Some desc
    → test now ≡ test (Some desc) → count_by test (set descs key now) ≡ count_by test descs
count_same test descs key desc now is same =
    let moved = count_set test descs key desc now is in
    let alike = ap one_if same in
    omega (arith, moved, alike)

-- ---- sockets that Descs are open on

sock_at_set : (descs : List (Option Desc)) (key : ℕ) (desc : Desc) (now : Option Desc) → object descs key ≡ Some desc → sock_in now ≡ sock_in (Some desc)
    → (other : ℕ) → sock_in (object (set descs key now) other) ≡ sock_in (object descs other)
sock_at_set descs key desc now is same other = elim (cases_eq other key) [
  | inl here ↦ subst (λ k. sock_in (object (set descs key now) k) ≡ sock_in (object descs k)) (sym here)
      (ap sock_in (set_here descs key desc now is) ∙ (same ∙ sym (ap sock_in is)))
  | inr apart ↦ ap sock_in (set_other descs key other now apart)
]

-- those that are named are the sockets that some Desc is open on
pub named_by : (descs : List (Option Desc)) (key sock : ℕ) → sock_in (object descs key) ≡ Some sock → Contains (socks_named descs) sock
named_by [] zero sock is = absurd (cc)
named_by [] (suc key) sock is = absurd (cc)
named_by (first ∷ descs) zero sock is = subst (λ (o : Option ℕ). Contains (beside o (socks_named descs)) sock) (sym is) (0, omega arith, refl)
named_by (first ∷ descs) (suc key) sock is = behind (sock_in first) (named_by descs key sock is)
  where
    behind : (o : Option ℕ) → Contains (socks_named descs) sock → Contains (beside o (socks_named descs)) sock
    behind None there = there
    behind (Some other) there = Contains-cons other sock (socks_named descs) there

pub names : (descs : List (Option Desc)) (sock : ℕ) → Contains (socks_named descs) sock → (key : ℕ) × (sock_in (object descs key) ≡ Some sock)
names [] sock there = absurd (omega (arith, there.1))
names (first ∷ descs) sock there = go (sock_in first) refl (names descs sock) there
  where
    go : (o : Option ℕ) → sock_in first ≡ o → (Contains (socks_named descs) sock → (key : ℕ) × (sock_in (object descs key) ≡ Some sock))
        → Contains (beside o (socks_named descs)) sock → (key : ℕ) × (sock_in (object (first ∷ descs) key) ≡ Some sock)
    go None is behind here = let found = behind here in (suc found.0, found.1)
    go (Some other) is behind here = elim (Contains-cons_cases other sock (socks_named descs) here) [
      | inl same ↦ (zero, is ∙ ap Some same)
      | inr rest ↦ let found = behind rest in (suc found.0, found.1)
    ]

moved_names : (h : Heap) (descs : List (Option Desc)) (key : ℕ) (desc : Desc) (now : Option Desc) → object descs key ≡ Some desc → sock_in now ≡ sock_in (Some desc)
    → IsHeldIn h (socks_named descs) → IsHeldIn h (socks_named (set descs key now))
moved_names h descs key desc now is same =
    held_moved h (socks_named descs) (socks_named (set descs key now))
    (λ s among. let by = names descs s among in named_by (set descs key now) by.0 s (sock_at_set descs key desc now is same by.0 ∙ by.1))
    (λ s among. let by = names (set descs key now) s among in named_by descs by.0 s (sym (sock_at_set descs key desc now is same by.0) ∙ by.1))

-- ---- another Desc that is open on the same, or none in the place of one that was open on a node

pub held_beside : (h : Heap) (key : ℕ) (desc : Desc) (now : Option Desc) → object h.descs key ≡ Some desc
    → ((pipe : ℕ) → has_read_end pipe now ≡ has_read_end pipe (Some desc)) → ((pipe : ℕ) → has_write_end pipe now ≡ has_write_end pipe (Some desc))
    → sock_in now ≡ sock_in (Some desc) → ((other : Desc) → now ≡ Some other → IsThereFor h other.access other.target)
    → IsHeldOpen h → IsHeldOpen (described h (set h.descs key now))
held_beside h key desc now is reads writes sock there held = record {
  targets = λ other found at. elim (cases_eq other key) [
    | inl here ↦ same_target found (there found (sym (set_here h.descs key desc now is) ∙ (ap (object (set h.descs key now)) (sym here) ∙ at)))
    | inr apart ↦ same_target found (held.targets other found (sym (set_other h.descs key other now apart) ∙ at))
  ];
  pipes = λ pipe found at. let ends = held.pipes pipe found at in record {
    readers = ends.readers ∙ sym (count_same (has_read_end pipe) h.descs key desc now is (reads pipe));
    writers = ends.writers ∙ sym (count_same (has_write_end pipe) h.descs key desc now is (writes pipe));
    some_end = ends.some_end;
  };
  stand = λ pipe used. let stands = held.stand pipe used in (stands.0, stands.1, pipe_stands_same h (described h (set h.descs key now)) pipe stands.0 stands.1 refl refl stands.2);
  socks = moved_names (described h (set h.descs key now)) h.descs key desc now is sock
      (held_on h (described h (set h.descs key now)) (socks_named h.descs) refl (λ k s bytes at has. HasBytes-same h (described h (set h.descs key now)) s.queue bytes refl has) held.socks);
  once = λ one other s first second. held.once one other s (sym (sock_at_set h.descs key desc now is sock one) ∙ first) (sym (sock_at_set h.descs key desc now is sock other) ∙ second);
}
  where
    same_target : (found : Desc) → IsThereFor h found.access found.target → IsThereFor (described h (set h.descs key now)) found.access found.target
    same_target found is_there = go found.access found.target is_there
      where
        go : (access : Access) (what : Target) → IsThereFor h access what → IsThereFor (described h (set h.descs key now)) access what
        go access (target.Inode number) so = so
        go access (target.Pipe pipe) so = so
        go access (target.Sock s) so = so

-- the same Desc with another count
pub held_counting : (h : Heap) (key : ℕ) (desc : Desc) (count : ℕ) → object h.descs key ≡ Some desc → IsHeldOpen h → IsHeldOpen (described h (put h.descs key (counting desc count)))
held_counting h key desc count is held =
    held_beside h key desc (Some (counting desc count)) is (λ pipe. refl) (λ pipe. refl) refl
    (λ other same. subst (λ (o : Option Desc). (d : Desc) → o ≡ Some d → IsThereFor h d.access d.target) refl
    (λ d at. let e : counting desc count ≡ d = cc in subst (λ (x : Desc). IsThereFor h x.access x.target) e (held.targets key desc is)) other same) held

-- ---- none in the place of a Desc, whose target is closed

-- what the Descs but one are open on
without_one : (descs : List (Option Desc)) (key : ℕ) (desc : Desc) → object descs key ≡ Some desc → (other : ℕ) (found : Desc) → object (set descs key None) other ≡ Some found
    → (other ≢ key) × (object descs other ≡ Some found)
without_one descs key desc is other found at = elim (cases_eq other key) [
  | inl here ↦ absurd (let none : object (set descs key None) other ≡ None = ap (object (set descs key None)) here ∙ set_here descs key desc None is in cc)
  | inr apart ↦ (apart, sym (set_other descs key other None apart) ∙ at)
]

no_sock : (descs : List (Option Desc)) (key : ℕ) (desc : Desc) → object descs key ≡ Some desc → (other sock : ℕ) → sock_in (object (set descs key None) other) ≡ Some sock
    → (other ≢ key) × (sock_in (object descs other) ≡ Some sock)
no_sock descs key desc is other sock at = elim (cases_eq other key) [
  | inl here ↦ absurd (let none : sock_in (object (set descs key None) other) ≡ None = ap (λ k. sock_in (object (set descs key None) k)) here ∙ ap sock_in (set_here descs key desc None is) in cc)
  | inr apart ↦ (apart, sym (ap sock_in (set_other descs key other None apart)) ∙ at)
]

-- what passes a test is counted
pub count_some : (test : Option Desc → Bool) (descs : List (Option Desc)) (key : ℕ) (desc : Desc) → object descs key ≡ Some desc → test (Some desc) ≡ true → 0 < count_by test descs
count_some test [] zero desc is passes = absurd (cc)
count_some test [] (suc key) desc is passes = absurd (cc)
count_some test (first ∷ descs) zero desc is passes =
    let here : one_if (test first) ≡ 1 = ap one_if (ap test is ∙ passes) in
    let whole = sum_by-cons (λ o. one_if (test o)) first descs in
    omega (arith, here, whole)
count_some test (first ∷ descs) (suc key) desc is passes =
    let behind = count_some test descs key desc is passes in
    let whole = sum_by-cons (λ o. one_if (test o)) first descs in
    omega (arith, behind, whole)

-- of two numbers of ends one has fallen
record EndsLeft (pipe : Pipe) (writing : Bool) (readers writers : ℕ) : Type 0 where
  pub left : Pipe
  pub is : after_close pipe writing ≡ while_open left
  pub readers_are : left.readers ≡ readers
  pub writers_are : left.writers ≡ writers

reader_goes : (pipe : Pipe) (readers writers : ℕ) → readers + 1 ≡ pipe.readers → writers ≡ pipe.writers → EndsLeft pipe false readers writers
reader_goes pipe readers writers one same = record { left = without_reader pipe; is = refl; readers_are = omega (arith, one); writers_are = sym same }

writer_goes : (pipe : Pipe) (readers writers : ℕ) → readers ≡ pipe.readers → writers + 1 ≡ pipe.writers → EndsLeft pipe true readers writers
writer_goes pipe readers writers same one = record { left = without_writer pipe; is = refl; readers_are = sym same; writers_are = omega (arith, one) }

no_end : (left : Pipe) → left.readers ≡ 0 → left.writers ≡ 0 → while_open left ≡ None
no_end left readers writers =
    let both : (eqb left.readers 0 && eqb left.writers 0) ≡ true = rw (readers, writers) refl in
    subst (λ (b : Bool). cond b None (Some left) ≡ None) (sym both) refl

some_reader : (left : Pipe) → left.readers ≢ 0 → while_open left ≡ Some left
some_reader left some = ap (λ b. cond (b && eqb left.writers 0) None (Some left)) (ne_eqb left.readers 0 some)

some_writer : (left : Pipe) → left.writers ≢ 0 → while_open left ≡ Some left
some_writer left some = go (eqb left.readers 0)
  where
    go : (b : Bool) → cond (b && eqb left.writers 0) None (Some left) ≡ Some left
    go false = refl
    go true = ap (λ b. cond b None (Some left)) (ne_eqb left.writers 0 some)

-- it goes just where no end is left
pub data Left (pipe : Pipe) (writing : Bool) (readers writers : ℕ) : Type 0 where
  gone : after_close pipe writing ≡ None → readers ≡ 0 → writers ≡ 0 → Left pipe writing readers writers
  stays : (left : Pipe) → after_close pipe writing ≡ Some left → left.readers ≡ readers → left.writers ≡ writers → 0 < readers + writers → Left pipe writing readers writers

what_is_left : (pipe : Pipe) (writing : Bool) (readers writers : ℕ) → EndsLeft pipe writing readers writers → Left pipe writing readers writers
what_is_left pipe writing readers writers ends = elim (cases_eq readers 0) [
  | inl none ↦ elim (cases_eq writers 0) [
    | inl no_writer ↦ gone (ends.is ∙ no_end ends.left (ends.readers_are ∙ none) (ends.writers_are ∙ no_writer)) none no_writer
    | inr some ↦ stays ends.left (ends.is ∙ some_writer ends.left (λ no. some (sym ends.writers_are ∙ no))) ends.readers_are ends.writers_are (omega (arith, some))
  ]
  | inr some ↦ stays ends.left (ends.is ∙ some_reader ends.left (λ no. some (sym ends.readers_are ∙ no))) ends.readers_are ends.writers_are (omega (arith, some))
]

module _ (old new : Heap) (key : ℕ) (desc : Desc) (is : object old.descs key ≡ Some desc) (held : IsHeldOpen old) (descs_are : new.descs ≡ set old.descs key None) where
  -- an end of a pipe was closed
  module _ (pipe : ℕ) (on : desc.target ≡ target.Pipe pipe) (closes : EndCloses old new pipe (may_write (access_in desc.access))) where
    abbrev left_readers : ℕ
    left_readers = count_by (has_read_end pipe) (set old.descs key None)

    abbrev left_writers : ℕ
    left_writers = count_by (has_write_end pipe) (set old.descs key None)

    end_left : (access : Access) (plain : Pipe) → access ≢ mode.Both → count_by (has_read_end pipe) old.descs ≡ plain.readers → count_by (has_write_end pipe) old.descs ≡ plain.writers
        → left_readers + one_if (may_read (access_in access)) ≡ count_by (has_read_end pipe) old.descs + 0
        → left_writers + one_if (may_write (access_in access)) ≡ count_by (has_write_end pipe) old.descs + 0
        → EndsLeft plain (may_write (access_in access)) left_readers left_writers
    end_left mode.Read plain apart reads writes r w = reader_goes plain left_readers left_writers (omega (arith, reads, r)) (omega (arith, writes, w))
    end_left mode.Write plain apart reads writes r w = writer_goes plain left_readers left_writers (omega (arith, reads, r)) (omega (arith, writes, w))
    end_left mode.Both plain apart reads writes r w = absurd (apart refl)

    there_too : InUse old.pipes pipe × (desc.access ≢ mode.Both)
    there_too = subst (λ (what : Target). IsThereFor old desc.access what) on (held.targets key desc is)

    stood : IsPipeAt old pipe
    stood = held.stand pipe there_too.0

    ends : HasItsEnds old.descs pipe stood.2.held
    ends = held.pipes pipe stood.2.held stood.2.there

    on_it : is_on_pipe pipe desc.target ≡ true
    on_it = ap (is_on_pipe pipe) on ∙ eq-eqb pipe pipe refl

    not_on : (other : ℕ) → other ≢ pipe → is_on_pipe other desc.target ≡ false
    not_on other apart = ap (is_on_pipe other) on ∙ ne_eqb pipe other (λ same. apart (sym same))

    what_is : Left stood.0 (may_write (access_in desc.access)) left_readers left_writers
    what_is =
        let reads = count_set (has_read_end pipe) old.descs key desc None is in
        let writes = count_set (has_write_end pipe) old.descs key desc None is in
        let read_it = ap (λ (b : Bool). one_if (b && may_read (access_in desc.access))) on_it in
        let write_it = ap (λ (b : Bool). one_if (b && may_write (access_in desc.access))) on_it in
        what_is_left stood.0 (may_write (access_in desc.access)) left_readers left_writers
        (end_left desc.access stood.0 there_too.1 (sym ends.readers ∙ stood.2.readers) (sym ends.writers ∙ stood.2.writers) (omega (arith, reads, read_it)) (omega (arith, writes, write_it)))

    other_pipe : (other : ℕ) → other ≢ pipe → object new.pipes other ≡ object old.pipes other
    other_pipe other apart = closes.others.objects other (λ among. apart (sym (Contains-single pipe other among)))

    pipes_left : (other : ℕ) (found : HeldPipe) → object new.pipes other ≡ Some found → HasItsEnds (set old.descs key None) other found
    pipes_left other found at = elim (cases_eq other pipe) [
      | inl here ↦ subst (λ (k : ℕ). HasItsEnds (set old.descs key None) k found) (sym here) (of_it what_is (ap (object new.pipes) (sym here) ∙ at))
      | inr apart ↦ let before = held.pipes other found (sym (other_pipe other apart) ∙ at) in record {
        readers = before.readers ∙ sym (count_same (has_read_end other) old.descs key desc None is (sym (ap (λ (b : Bool). b && may_read (access_in desc.access)) (not_on other apart))));
        writers = before.writers ∙ sym (count_same (has_write_end other) old.descs key desc None is (sym (ap (λ (b : Bool). b && may_write (access_in desc.access)) (not_on other apart))));
        some_end = before.some_end;
      }
    ]
      where
        of_it : Left stood.0 (may_write (access_in desc.access)) left_readers left_writers → object new.pipes pipe ≡ Some found → HasItsEnds (set old.descs key None) pipe found
        of_it (gone e no_reader no_writer) it = absurd (let none = closes.gone stood.0 stood.1 stood.2 e in cc)
        of_it (stays left e reads writes some) it =
            let now = closes.stands stood.0 stood.1 left stood.2 e in
            let r = held_readers new pipe found left _ it now in
            let w = held_writers new pipe found left _ it now in
            record { readers = r ∙ reads; writers = w ∙ writes; some_end = omega (arith, r, w, reads, writes, some) }

    stand_left : (other : ℕ) → InUse new.pipes other → IsPipeAt new other
    stand_left other used = elim (cases_eq other pipe) [
      | inl here ↦ subst (IsPipeAt new) (sym here) (of_it what_is (subst (InUse new.pipes) here used))
      | inr apart ↦ let before = held.stand other (subst IsSome (other_pipe other apart) used) in
          (before.0, before.1, other_stands old new pipe other (may_write (access_in desc.access)) before.0 before.1 apart closes before.2)
    ]
      where
        of_it : Left stood.0 (may_write (access_in desc.access)) left_readers left_writers → InUse new.pipes pipe → IsPipeAt new pipe
        of_it (gone e no_reader no_writer) it = absurd (let none = closes.gone stood.0 stood.1 stood.2 e in let named = object_of new.pipes pipe it in let at = named.1 in cc)
        of_it (stays left e reads writes some) it = (left, _, closes.stands stood.0 stood.1 left stood.2 e)

    -- a pipe that another Desc is open on too stays
    still_there : (other : ℕ) (found : Desc) → object (set old.descs key None) other ≡ Some found → found.target ≡ target.Pipe pipe → InUse new.pipes pipe
    still_there other found at on_too = of_it what_is
      where
        here : is_on_pipe pipe found.target ≡ true
        here = ap (is_on_pipe pipe) on_too ∙ eq-eqb pipe pipe refl

        some_end : (access : Access) → found.access ≡ access → 0 < left_readers + left_writers
        some_end mode.Read e = let some = count_some (has_read_end pipe) (set old.descs key None) other found at (ap (λ (b : Bool). b && may_read (access_in found.access)) here ∙ ap (λ (a : Access). may_read (access_in a)) e) in omega (arith, some)
        some_end mode.Write e = let some = count_some (has_write_end pipe) (set old.descs key None) other found at (ap (λ (b : Bool). b && may_write (access_in found.access)) here ∙ ap (λ (a : Access). may_write (access_in a)) e) in omega (arith, some)
        some_end mode.Both e = let some = count_some (has_read_end pipe) (set old.descs key None) other found at (ap (λ (b : Bool). b && may_read (access_in found.access)) here ∙ ap (λ (a : Access). may_read (access_in a)) e) in omega (arith, some)

        of_it : Left stood.0 (may_write (access_in desc.access)) left_readers left_writers → InUse new.pipes pipe
        of_it (gone e no_reader no_writer) = absurd (let some = some_end found.access refl in omega (arith, some, no_reader, no_writer))
        of_it (stays left e reads writes some) = let now = closes.stands stood.0 stood.1 left stood.2 e in subst IsSome (sym now.there) refl

    same_socks : new.socks ≡ old.socks
    same_socks = ap (λ (h : Heap). h.socks) closes.others.kept

    targets_left : (other : ℕ) (found : Desc) → object (set old.descs key None) other ≡ Some found → IsThereFor new found.access found.target
    targets_left other found at = go found.target refl (held.targets other found (without_one old.descs key desc is other found at).1)
      where
        go : (what : Target) → found.target ≡ what → IsThereFor old found.access what → IsThereFor new found.access what
        go (target.Inode number) e was = tt
        go (target.Pipe other_one) e was = elim (cases_eq other_one pipe) [
          | inl same ↦ (subst (InUse new.pipes) (sym same) (still_there other found at (e ∙ ap target.Pipe same)), was.1)
          | inr apart ↦ (subst IsSome (sym (other_pipe other_one apart)) was.0, was.1)
        ]
        go (target.Sock sock) e was = subst (λ (socks : List _). InUse socks sock) (sym same_socks) was

    pub held_by_pipe : IsHeldOpen new
    held_by_pipe = record {
      targets = λ other found at. targets_left other found (ap (λ (d : List (Option Desc)). object d other) (sym descs_are) ∙ at);
      pipes = λ other found at. subst (λ (d : List (Option Desc)). HasItsEnds d other found) (sym descs_are) (pipes_left other found at);
      stand = stand_left;
      socks = subst (λ (d : List (Option Desc)). IsHeldIn new (socks_named d)) (sym descs_are)
          (moved_names new old.descs key desc None is (sym (ap sock_of on))
          (held_on old new (socks_named old.descs) same_socks (λ other. sock_keeps old new new.descs other (closes.others.socks other)) held.socks));
      once = λ one other sock first second. held.once one other sock
          (no_sock old.descs key desc is one sock (ap (λ (d : List (Option Desc)). sock_in (object d one)) (sym descs_are) ∙ first)).1
          (no_sock old.descs key desc is other sock (ap (λ (d : List (Option Desc)). sock_in (object d other)) (sym descs_are) ∙ second)).1;
    }

  -- a socket was closed
  module _ (sock : ℕ) (on : desc.target ≡ target.Sock sock) (closes : SocketCloses old new sock) where
    not_on_pipe : (pipe : ℕ) → is_on_pipe pipe desc.target ≡ false
    not_on_pipe pipe = ap (is_on_pipe pipe) on

    same_pipes : new.pipes ≡ old.pipes
    same_pipes = ap (λ (h : Heap). h.pipes) closes.others.kept

    is_its : sock_in (object old.descs key) ≡ Some sock
    is_its = ap sock_in is ∙ ap sock_of on

    named_apart : (other : ℕ) → Contains (socks_named old.descs) other → Contains (sock ∷ socks_named (set old.descs key None)) other
    named_apart other among =
        let by = names old.descs other among in
        elim (cases_eq by.0 key) [
          | inl here ↦ (0, omega arith, let same : Some sock ≡ Some other = sym is_its ∙ (ap (λ (k : ℕ). sock_in (object old.descs k)) (sym here) ∙ by.1) in cc)
          | inr apart ↦ Contains-cons sock other (socks_named (set old.descs key None)) (named_by (set old.descs key None) by.0 other (ap sock_in (set_other old.descs key by.0 None apart) ∙ by.1))
        ]

    named_together : (other : ℕ) → Contains (sock ∷ socks_named (set old.descs key None)) other → Contains (socks_named old.descs) other
    named_together other among = elim (Contains-cons_cases sock other (socks_named (set old.descs key None)) among) [
      | inl same ↦ named_by old.descs key other (is_its ∙ ap Some same)
      | inr rest ↦ let by = names (set old.descs key None) other rest in named_by old.descs by.0 other (no_sock old.descs key desc is by.0 other by.1).1
    ]

    absent : Contains (socks_named (set old.descs key None)) sock → ⊥
    absent among =
        let by = names (set old.descs key None) sock among in
        let was = no_sock old.descs key desc is by.0 sock by.1 in
        was.0 (held.once by.0 key sock was.1 is_its)

    socks_left : IsHeldIn new (socks_named (set old.descs key None))
    socks_left = closes.held (socks_named (set old.descs key None)) (held_moved old (socks_named old.descs) (sock ∷ socks_named (set old.descs key None)) named_apart named_together held.socks) absent

    sock_targets : (other : ℕ) (found : Desc) → object (set old.descs key None) other ≡ Some found → IsThereFor new found.access found.target
    sock_targets other found at = go found.target refl (held.targets other found (without_one old.descs key desc is other found at).1)
      where
        go : (what : Target) → found.target ≡ what → IsThereFor old found.access what → IsThereFor new found.access what
        go (target.Inode number) e was = tt
        go (target.Pipe pipe) e was = (subst (λ (pipes : List (Option HeldPipe)). InUse pipes pipe) (sym same_pipes) was.0, was.1)
        go (target.Sock other_one) e was =
            (socket_held new (socks_named (set old.descs key None)) other_one (named_by (set old.descs key None) other other_one (ap sock_in at ∙ ap sock_of e)) socks_left).used

    pub held_by_socket : IsHeldOpen new
    held_by_socket = record {
      targets = λ other found at. sock_targets other found (ap (λ (d : List (Option Desc)). object d other) (sym descs_are) ∙ at);
      pipes = λ other found at. let before = held.pipes other found (ap (λ (pipes : List (Option HeldPipe)). object pipes other) (sym same_pipes) ∙ at) in
          subst (λ (d : List (Option Desc)). HasItsEnds d other found) (sym descs_are) (record {
            readers = before.readers ∙ sym (count_same (has_read_end other) old.descs key desc None is (sym (ap (λ (b : Bool). b && may_read (access_in desc.access)) (not_on_pipe other))));
            writers = before.writers ∙ sym (count_same (has_write_end other) old.descs key desc None is (sym (ap (λ (b : Bool). b && may_write (access_in desc.access)) (not_on_pipe other))));
            some_end = before.some_end;
          });
      stand = λ other used.
          let same = ap (λ (pipes : List (Option HeldPipe)). object pipes other) same_pipes in
          let before = held.stand other (subst IsSome same used) in
          (before.0, before.1, pipe_stands_on old new other before.0 before.1 same (pipe_keeps old new new.descs other (closes.others.pipes other)) before.2);
      socks = subst (λ (d : List (Option Desc)). IsHeldIn new (socks_named d)) (sym descs_are) socks_left;
      once = λ one other s first second. held.once one other s
          (no_sock old.descs key desc is one s (ap (λ (d : List (Option Desc)). sock_in (object d one)) (sym descs_are) ∙ first)).1
          (no_sock old.descs key desc is other s (ap (λ (d : List (Option Desc)). sock_in (object d other)) (sym descs_are) ∙ second)).1;
    }

-- ---- one descriptor more, and one fewer

-- the count that is kept of each Desc, where that of one is another
pub count_at_set : (descs : List (Option Desc)) (key : ℕ) (desc : Desc) (now : Option Desc) → object descs key ≡ Some desc → (other : ℕ)
    → desc_count_at (set descs key now) other + cond (eqb key other) desc.count 0 ≡ desc_count_at descs other + cond (eqb key other) (desc_count now) 0
count_at_set descs key desc now is other = elim (cases_eq other key) [
  | inl here ↦ subst (λ k. desc_count_at (set descs key now) k + cond (eqb key k) desc.count 0 ≡ desc_count_at descs k + cond (eqb key k) (desc_count now) 0) (sym here)
      (subst (λ b. desc_count_at (set descs key now) key + cond b desc.count 0 ≡ desc_count_at descs key + cond b (desc_count now) 0) (sym (eq-eqb key key refl))
      (let before = ap desc_count is in let after = ap desc_count (set_here descs key desc now is) in omega (arith, before, after)))
  | inr apart ↦ subst (λ b. desc_count_at (set descs key now) other + cond b desc.count 0 ≡ desc_count_at descs other + cond b (desc_count now) 0) (sym (ne_eqb key other (λ same. apart (sym same))))
      (let same = ap desc_count (set_other descs key other now apart) in omega (arith, same))
]

-- how often a key is in hand, with one more
pub in_hand : (hand : List ℕ) (key other : ℕ) → count_by (λ k. eqb k other) (key ∷ hand) ≡ one_if (eqb key other) + count_by (λ k. eqb k other) hand
in_hand hand key other = sum_by-cons (λ k. one_if (eqb k other)) key hand

named_more_often : (h : Heap) (hand : List ℕ) (key : ℕ) (desc : Desc) → object h.descs key ≡ Some desc → CountsItsNames h hand
    → CountsItsNames (described h (put h.descs key (counting desc (desc.count + 1)))) (key ∷ hand)
named_more_often h hand key desc is named = record {
  counts = λ other. go other (eqb key other) (count_at_set h.descs key desc (Some (counting desc (desc.count + 1))) is other) (in_hand hand key other) (named.counts other);
  named = λ other used. elim (cases_eq other key) [
    | inl here ↦ subst (λ k. 0 < desc_count_at (put h.descs key (counting desc (desc.count + 1))) k) (sym here)
        (let now = ap desc_count (set_here h.descs key desc (Some (counting desc (desc.count + 1))) is) in omega (arith, now))
    | inr apart ↦ let same = set_other h.descs key other (Some (counting desc (desc.count + 1))) apart in
        let before = named.named other (subst IsSome same used) in
        let count = ap desc_count same in omega (arith, before, count)
  ];
}
  where
    go : (other : ℕ) (b : Bool)
        → desc_count_at (put h.descs key (counting desc (desc.count + 1))) other + cond b desc.count 0 ≡ desc_count_at h.descs other + cond b (desc.count + 1) 0
        → count_by (λ k. eqb k other) (key ∷ hand) ≡ one_if b + count_by (λ k. eqb k other) hand
        → desc_count_at h.descs other ≡ all_namings h other + count_by (λ k. eqb k other) hand
        → desc_count_at (put h.descs key (counting desc (desc.count + 1))) other ≡ all_namings h other + count_by (λ k. eqb k other) (key ∷ hand)
    go other true moved more before = omega (arith, moved, more, before)
    go other false moved more before = omega (arith, moved, more, before)

pub owners_shared : (h : Heap) (hand : List ℕ) (key : ℕ) (desc : Desc) → object h.descs key ≡ Some desc → HasItsOwners h hand
    → HasItsOwners (described h (put h.descs key (counting desc (desc.count + 1)))) (key ∷ hand)
owners_shared h hand key desc is owners = record {
  objects = OwnsItsObjects-along h (described h (put h.descs key (counting desc (desc.count + 1)))) refl refl refl refl refl refl owners.objects;
  named = named_more_often h hand key desc is owners.named;
  held = held_counting h key desc (desc.count + 1) is owners.held;
}

-- what is at the key of a Desc, once a descriptor fewer names it
abbrev left_of : Desc → Option Desc
left_of desc = cond (eqb desc.count 1) None (Some (counting desc (desc.count - 1)))

left_count : (desc : Desc) → 0 < desc.count → desc_count (left_of desc) + 1 ≡ desc.count
left_count desc some = elim (cases_eq desc.count 1) [
  | inl last ↦ subst (λ b. desc_count (cond b None (Some (counting desc (desc.count - 1)))) + 1 ≡ desc.count) (sym (eq-eqb desc.count 1 last)) (sym last)
  | inr more ↦ subst (λ b. desc_count (cond b None (Some (counting desc (desc.count - 1)))) + 1 ≡ desc.count) (sym (ne_eqb desc.count 1 more)) (omega (arith, some))
]

left_is_counted : (desc : Desc) → 0 < desc.count → IsSome (left_of desc) → 0 < desc_count (left_of desc)
left_is_counted desc some used = elim (cases_eq desc.count 1) [
  | inl last ↦ absurd (let none : left_of desc ≡ None = ap (λ b. cond b None (Some (counting desc (desc.count - 1)))) (eq-eqb desc.count 1 last) in cc)
  | inr more ↦ let left = left_count desc some in omega (arith, left, more, some)
]

named_less_often : (old new : Heap) (hand : List ℕ) (key : ℕ) (desc : Desc) → object old.descs key ≡ Some desc → 0 < desc.count → new.descs ≡ descs_left old.descs key desc → new.procs ≡ old.procs → new.leaves ≡ old.leaves
    → CountsItsNames old (key ∷ hand) → CountsItsNames new hand
named_less_often old new hand key desc is some descs procs leaves named = record {
  counts = λ other.
      ap (λ (d : List (Option Desc)). desc_count_at d other) descs
      ∙ (go other (eqb key other) (count_at_set old.descs key desc (left_of desc) is other) (in_hand hand key other) (named.counts other)
      ∙ (ap (λ (p : List (Option Proc)). namings_of p other + leaf_namings_of old.leaves other + count_by (λ k. eqb k other) hand) (sym procs)
      ∙ ap (λ (l : List (Option Leaf)). namings_of new.procs other + leaf_namings_of l other + count_by (λ k. eqb k other) hand) (sym leaves)));
  named = λ other used. subst (λ (d : List (Option Desc)). 0 < desc_count_at d other) (sym descs) (still other (subst (λ (d : List (Option Desc)). InUse d other) descs used));
}
  where
    left : desc_count (left_of desc) + 1 ≡ desc.count
    left = left_count desc some

    go : (other : ℕ) (b : Bool)
        → desc_count_at (set old.descs key (left_of desc)) other + cond b desc.count 0 ≡ desc_count_at old.descs other + cond b (desc_count (left_of desc)) 0
        → count_by (λ k. eqb k other) (key ∷ hand) ≡ one_if b + count_by (λ k. eqb k other) hand
        → desc_count_at old.descs other ≡ all_namings old other + count_by (λ k. eqb k other) (key ∷ hand)
        → desc_count_at (set old.descs key (left_of desc)) other ≡ all_namings old other + count_by (λ k. eqb k other) hand
    go other true moved more before = omega (arith, moved, more, before, left)
    go other false moved more before = omega (arith, moved, more, before)

    still : (other : ℕ) → InUse (set old.descs key (left_of desc)) other → 0 < desc_count_at (set old.descs key (left_of desc)) other
    still other used = elim (cases_eq other key) [
      | inl here ↦
          let now = ap (object (set old.descs key (left_of desc))) here ∙ set_here old.descs key desc (left_of desc) is in
          let counted = left_is_counted desc some (subst IsSome now used) in
          let count = ap desc_count now in omega (arith, counted, count)
      | inr apart ↦ let same = set_other old.descs key other (left_of desc) apart in
          let before = named.named other (subst IsSome same used) in
          let count = ap desc_count same in omega (arith, before, count)
    ]

held_dropped : (old new : Heap) (key : ℕ) (desc : Desc) → object old.descs key ≡ Some desc → 0 < desc.count → Drops old new key desc → IsHeldOpen old → IsHeldOpen new
held_dropped old new key desc is some drops held = elim (cases_eq desc.count 1) [
  | inl last ↦ closed last desc.target refl (drops.closes last)
  | inr more ↦
      let many : 1 < desc.count = omega (arith, some, more) in
      let fewer : new ≡ described old (put old.descs key (counting desc (desc.count - 1))) =
      drops.stays many ∙ ap (λ (d : List (Option Desc)). described old d) (drops.descs ∙ left_more old.descs key desc many) in
      subst (λ (h : Heap). IsHeldOpen h) (sym fewer) (held_counting old key desc (desc.count - 1) is held)
]
  where
    closed : desc.count ≡ 1 → (what : Target) → desc.target ≡ what → TargetCloses old new desc.access what → IsHeldOpen new
    closed last (target.Inode number) on closes =
        let gone : new ≡ described old (set old.descs key None) = closes ∙ ap (λ (d : List (Option Desc)). described old d) (drops.descs ∙ left_last old.descs key desc last) in
        subst (λ (h : Heap). IsHeldOpen h) (sym gone)
        (held_beside old key desc None is
        (λ pipe. sym (ap (λ (w : Target). is_on_pipe pipe w && may_read (access_in desc.access)) on))
        (λ pipe. sym (ap (λ (w : Target). is_on_pipe pipe w && may_write (access_in desc.access)) on))
        (sym (ap sock_of on)) (λ other same. absurd (cc)) held)
    closed last (target.Pipe pipe) on closes = held_by_pipe old new key desc is held (drops.descs ∙ left_last old.descs key desc last) pipe on closes
    closed last (target.Sock sock) on closes = held_by_socket old new key desc is held (drops.descs ∙ left_last old.descs key desc last) sock on closes

pub owners_dropped : (old new : Heap) (hand : List ℕ) (key : ℕ) (desc : Desc) → object old.descs key ≡ Some desc → IsDroppable old key → Drops old new key desc
    → new.procs ≡ old.procs → new.leaves ≡ old.leaves → OwnsItsObjects new → HasItsOwners old (key ∷ hand) → HasItsOwners new hand
owners_dropped old new hand key desc is can drops procs leaves owns owners =
    let some : 0 < desc.count = subst (λ (d : Desc). 0 < d.count) (named_one old key desc is can) can.named in
    record {
      objects = owns;
      named = named_less_often old new hand key desc is some drops.descs procs leaves owners.named;
      held = held_dropped old new key desc is some drops owners.held;
    }
