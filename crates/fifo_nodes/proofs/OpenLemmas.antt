-- The chain while a side of a FIFO is opened.
use Rattle.std.proofs.Common.{◌≡◌, ◌≢◌, ◌+◌, ◌<◌, ◌≤◌, ℕ, Bool, true, false, List, [], ◌∷◌, Option, None, Some, refl, sym, ap, subst, ◌∙◌, arith, inl, inr, Contains}
use Rattle.std.proofs.lemmas.Bool.{cases_eq}
use Rattle.chunk_queue.proofs.JoinedLemmas.{Contains-cons}
use Rattle.chunk_queue.proofs.HeldLemmas.{HasBytes-same}
use Rattle.kheap_laws.proofs.OnceLemmas.{IsOnce-cons}
use Rattle.kheap_laws.proofs.QueueLemmas.{OwnsChunks-fresh}
use Rattle.kheap_slabs.specs.Objects.{object, put}
use Rattle.kheap_slabs.specs.declared.objects.Pipe.{Pipe as HeldPipe}
use Rattle.kheap_slabs.specs.Heap.{Heap}
use Rattle.kheap_slabs.specs.Owners.{OwnsItsObjects}
use Rattle.kheap_slabs.proofs.ObjectLemmas.{object-put_other}
use Rattle.posix_defs.specs.Pipe.{Pipe, ends_of, opens_of, unopened, with_end}
use Rattle.pipe_ends.specs.Links.{Link, link_in, link_of, link_at}
use Rattle.pipe_ends.specs.Standing.{LeavesOthers, StandsFor}
use Rattle.pipe_ends.proofs.LinkLemmas.{other_links}
use Rattle.pipe_ends.proofs.RelinkLemmas.{owns_with}
use Rattle.pipe_ends.proofs.StandingLemmas.{held_node, held_opens, held_readers, held_writers}
use Rattle.fifo_nodes.specs.Chain.{HasFewEnds, HasNoPipe, IsChain, IsFifoAt, Leads, OpensEnd}
use Rattle.fifo_nodes.specs.Held.{CanOpen, HasRoom, OpensAt, held_ends, held_opens as opens_in, held_unopened, held_with_end}
use Rattle.fifo_nodes.proofs.ChainLemmas.{has_link, leads_on, link_here, linked}

-- ---- what a pipe of the heap says of its plain one

pub ends_as : (h : Heap) (key : ℕ) (held : HeldPipe) (pipe : Pipe) (at : ℕ) (writing : Bool) → object h.pipes key ≡ Some held → StandsFor h key pipe at → held_ends held writing ≡ ends_of pipe writing
ends_as h key held pipe at true there stands = held_writers h key held pipe at there stands
ends_as h key held pipe at false there stands = held_readers h key held pipe at there stands

pub opens_as : (h : Heap) (key : ℕ) (held : HeldPipe) (pipe : Pipe) (at : ℕ) (writing : Bool) → object h.pipes key ≡ Some held → StandsFor h key pipe at → opens_in held writing ≡ opens_of pipe writing
opens_as h key held pipe at true there stands = (held_opens h key held pipe at there stands).1
opens_as h key held pipe at false there stands = (held_opens h key held pipe at there stands).0

few_ends : (pipe : HeldPipe) (writing : Bool) → HasFewEnds (link_in pipe) → held_ends pipe writing ≤ opens_in pipe writing
few_ends pipe true few = few.writers
few_ends pipe false few = few.readers

-- a FIFO whose side was opened less often than can be has room for one end more of it
pub can_open : (h : Heap) (first : Option ℕ) (node key : ℕ) (writing : Bool) (pipe : Pipe) (at : ℕ) → IsChain h first → IsFifoAt h node key → StandsFor h key pipe at → opens_of pipe writing < 4294967295 → CanOpen pipe writing
can_open h first node key writing pipe at chain is stands few =
    let link = link_here h key stands.held is.link stands.there is.there in
    let less = few_ends stands.held writing (subst HasFewEnds (sym link.1) (chain.few key is.link is.there)) in
    let ends = ends_as h key stands.held pipe at writing stands.there stands in
    let opens = opens_as h key stands.held pipe at writing stands.there stands in
    record { ends = omega (arith, less, ends, opens, few); opens = few }

pub has_room : (h : Heap) (key : ℕ) (held : HeldPipe) (pipe : Pipe) (at : ℕ) (writing : Bool) → object h.pipes key ≡ Some held → StandsFor h key pipe at → CanOpen pipe writing → HasRoom held writing
has_room h key held pipe at writing there stands can =
    let ends = ends_as h key held pipe at writing there stands in
    let opens = opens_as h key held pipe at writing there stands in
    record { ends = subst (λ n. n < 4294967295) (sym ends) can.ends; opens = subst (λ n. n < 4294967295) (sym opens) can.opens }

-- ---- a pipe has an end more

with_end_stands : (old new : Heap) (key : ℕ) (held : HeldPipe) (pipe : Pipe) (at : ℕ) (writing : Bool) → object old.pipes key ≡ Some held → object new.pipes key ≡ Some (held_with_end held writing) → new.chunks ≡ old.chunks
    → StandsFor old key pipe at → StandsFor new key (with_end pipe writing) at
with_end_stands old new key held pipe at true there stored chunks stands =
    let readers = held_readers old key held pipe at there stands in
    let writers = held_writers old key held pipe at there stands in
    let opens = held_opens old key held pipe at there stands in
    let same : stands.held ≡ held = (let one = stands.there in let two = there in cc) in record {
      held = held_with_end held true;
      there = stored;
      bytes = HasBytes-same old new held.queue pipe.bytes chunks (rw same at stands.bytes);
      len = rw same at stands.len;
      place = rw same at stands.place;
      readers = readers;
      writers = ap (λ n. n + 1) writers;
      node = held_node old key held pipe at there stands;
      read_opens = opens.0;
      write_opens = ap (λ n. n + 1) opens.1;
      within = stands.within;
    }
with_end_stands old new key held pipe at false there stored chunks stands =
    let readers = held_readers old key held pipe at there stands in
    let writers = held_writers old key held pipe at there stands in
    let opens = held_opens old key held pipe at there stands in
    let same : stands.held ≡ held = (let one = stands.there in let two = there in cc) in record {
      held = held_with_end held false;
      there = stored;
      bytes = HasBytes-same old new held.queue pipe.bytes chunks (rw same at stands.bytes);
      len = rw same at stands.len;
      place = rw same at stands.place;
      readers = ap (λ n. n + 1) readers;
      writers = writers;
      node = held_node old key held pipe at there stands;
      read_opens = ap (λ n. n + 1) opens.0;
      write_opens = opens.1;
      within = stands.within;
    }

-- one pipe alone has another object
pub others_put : (old new : Heap) (key : ℕ) (pipe : HeldPipe) (high : ℕ) → new ≡ record old { pipes = put old.pipes key pipe; high = high } → LeavesOthers old new key
others_put old new key pipe high is = record {
  kept = subst (λ (h : Heap). h ≡ record old { pipes = h.pipes; chunks = h.chunks; high = h.high }) (sym is) refl;
  objects = λ other outside. ap (λ (h : Heap). object h.pipes other) is ∙ object-put_other old.pipes key other pipe (λ same. outside (0, omega arith, sym same));
  pipes = λ other differs that bytes there has. HasBytes-same old new that.queue bytes (ap (λ (h : Heap). h.chunks) is) has;
  socks = λ other that bytes there has. HasBytes-same old new that.queue bytes (ap (λ (h : Heap). h.chunks) is) has;
  chunks = λ held there keys mine other used outside. ap (λ (h : Heap). object h.chunks other) is;
}

end_queue : (pipe : HeldPipe) (writing : Bool) → (held_with_end pipe writing).queue ≡ pipe.queue
end_queue pipe true = refl
end_queue pipe false = refl

pub opens_owns : (old new : Heap) (key : ℕ) (writing : Bool) → OpensAt old new key writing → OwnsItsObjects old → OwnsItsObjects new
opens_owns old new key writing opens owned =
    owns_with old new key opens.pipe (held_with_end opens.pipe writing) owned opens.there (end_queue opens.pipe writing) opens.stored opens.kept

opens_others : (old new : Heap) (key : ℕ) (writing : Bool) → OpensAt old new key writing → LeavesOthers old new key
opens_others old new key writing opens = others_put old new key (held_with_end opens.pipe writing) old.high opens.kept

end_link : (pipe : HeldPipe) (writing : Bool) → ((link_in (held_with_end pipe writing)).next ≡ pipe.next) × ((held_with_end pipe writing).node ≡ pipe.node) × (HasFewEnds (link_in pipe) → HasFewEnds (link_in (held_with_end pipe writing)))
end_link pipe true = (refl, refl, λ few. record { readers = few.readers; writers = omega (arith, few.writers) })
end_link pipe false = (refl, refl, λ few. record { readers = omega (arith, few.readers); writers = few.writers })

module _ (old new : Heap) (first : Option ℕ) (node key : ℕ) (writing : Bool) (chain : IsChain old first) (is : IsFifoAt old node key) (opens : OpensAt old new key writing) where
  link : (opens.pipe.node ≢ 0) × (link_in opens.pipe ≡ is.link)
  link = link_here old key opens.pipe is.link opens.there is.there

  was_here : link_at old key ≡ Some (link_in opens.pipe)
  was_here = is.there ∙ ap Some (sym link.1)

  here : link_at new key ≡ Some (link_in (held_with_end opens.pipe writing))
  here = has_link new key (held_with_end opens.pipe writing) opens.stored (subst (λ n. n ≢ 0) (sym (end_link opens.pipe writing).1) link.0)

  beside : (other : ℕ) → other ≢ key → link_at new other ≡ link_at old other
  beside other apart = other_links old new key other apart (opens_others old new key writing opens)

  on : (other : ℕ) (its : Link) → Contains chain.keys other → link_at old other ≡ Some its → (now : Link) × (link_at new other ≡ Some now) × (now.next ≡ its.next)
  on other its among at = elim (cases_eq other key) [
    | inl same ↦ (
      link_in (held_with_end opens.pipe writing),
      ap (link_at new) same ∙ here,
      (let one : link_at old key ≡ Some its = sym (ap (link_at old) same) ∙ at in
          let two : link_in opens.pipe ≡ its = (let a = was_here in cc) in
          (end_link opens.pipe writing).0 ∙ ap (λ (l : Link). l.next) two),
    )
    | inr apart ↦ (its, beside other apart ∙ at, refl)
  ]

  was : (other : ℕ) (its : Link) → link_at new other ≡ Some its → (had : Link) × (link_at old other ≡ Some had) × (had.node ≡ its.node) × (HasFewEnds had → HasFewEnds its)
  was other its at = elim (cases_eq other key) [
    | inl same ↦
        let one : link_at new key ≡ Some its = sym (ap (link_at new) same) ∙ at in
        let two : link_in (held_with_end opens.pipe writing) ≡ its = (let a = here in cc) in (
          link_in opens.pipe,
          ap (link_at old) same ∙ was_here,
          sym (end_link opens.pipe writing).1 ∙ ap (λ (l : Link). l.node) two,
          λ few. subst HasFewEnds two ((end_link opens.pipe writing).2 few),
        )
    | inr apart ↦ (its, sym (beside other apart) ∙ at, refl, λ few. few)
  ]

  pub opens_chain : IsChain new first
  opens_chain = record {
    keys = chain.keys;
    chained = leads_on old new first chain.keys None on chain.chained;
    once = chain.once;
    all = λ other its at. let it = was other its at in chain.all other it.0 it.1;
    alone = λ one other its another at also same.
        let it = was one its at in
        let second = was other another also in
        chain.alone one other it.0 second.0 it.1 second.1 (it.2 ∙ (same ∙ sym second.2));
    few = λ other its at. let it = was other its at in it.3 (chain.few other it.0 it.1);
  }

  pub opens_end : OpensEnd old new node writing key
  opens_end = record {
    is_its = record {
      link = link_in (held_with_end opens.pipe writing);
      there = here;
      same = (end_link opens.pipe writing).1 ∙ (ap (λ (l : Link). l.node) link.1 ∙ is.same);
    };
    had = λ pipe at stands its. with_end_stands old new key opens.pipe pipe at writing opens.there opens.stored (ap (λ (h : Heap). h.chunks) opens.kept) stands;
    made = λ none. absurd (none key is);
    others = opens_others old new key writing opens;
  }

-- ---- a pipe is made

made_stands : (new : Heap) (key node : ℕ) (next : Option ℕ) (writing : Bool) → object new.pipes key ≡ Some (held_with_end (held_unopened node next) writing) → StandsFor new key (with_end (unopened node) writing) 0
made_stands new key node next true stored = record {
  held = held_with_end (held_unopened node next) true;
  there = stored;
  bytes = record { keys = []; owns = OwnsChunks-fresh new.chunks; has = refl };
  len = refl;
  place = refl;
  readers = refl;
  writers = refl;
  node = refl;
  read_opens = refl;
  write_opens = refl;
  within = omega arith;
}
made_stands new key node next false stored = record {
  held = held_with_end (held_unopened node next) false;
  there = stored;
  bytes = record { keys = []; owns = OwnsChunks-fresh new.chunks; has = refl };
  len = refl;
  place = refl;
  readers = refl;
  writers = refl;
  node = refl;
  read_opens = refl;
  write_opens = refl;
  within = omega arith;
}

made_few : (node : ℕ) (next : Option ℕ) (writing : Bool) → HasFewEnds (link_in (held_with_end (held_unopened node next) writing))
made_few node next true = record { readers = omega arith; writers = omega arith }
made_few node next false = record { readers = omega arith; writers = omega arith }

pub made_room : (node : ℕ) (next : Option ℕ) (writing : Bool) → HasRoom (held_unopened node next) writing
made_room node next true = record { ends = omega arith; opens = omega arith }
made_room node next false = record { ends = omega arith; opens = omega arith }

pub made_queue : (node : ℕ) (next : Option ℕ) (writing : Bool) → (held_with_end (held_unopened node next) writing).queue ≡ (held_unopened node next).queue
made_queue node next writing = end_queue (held_unopened node next) writing

module _ (old new : Heap) (first : Option ℕ) (node key : ℕ) (writing : Bool) (high : ℕ) (chain : IsChain old first) (some : 0 < node) (none : HasNoPipe old node) (vacant : object old.pipes key ≡ None) (stored : object new.pipes key ≡ Some (held_with_end (held_unopened node first) writing)) (kept : new ≡ record old { pipes = put old.pipes key (held_with_end (held_unopened node first) writing); high = high }) where
  others : LeavesOthers old new key
  others = others_put old new key (held_with_end (held_unopened node first) writing) high kept

  node_is : (held_with_end (held_unopened node first) writing).node ≡ node
  node_is = (end_link (held_unopened node first) writing).1

  new_link : link_at new key ≡ Some (link_in (held_with_end (held_unopened node first) writing))
  new_link = has_link new key (held_with_end (held_unopened node first) writing) stored (λ zero. let is = node_is in omega (arith, some, zero, is))

  was_none : link_at old key ≡ None
  was_none = ap link_of vacant

  apart_from : (other : ℕ) (its : Link) → link_at old other ≡ Some its → other ≢ key
  apart_from other its at same = let no : link_at old other ≡ None = ap (link_at old) same ∙ was_none in cc

  on_too : (other : ℕ) (its : Link) → Contains chain.keys other → link_at old other ≡ Some its → (now : Link) × (link_at new other ≡ Some now) × (now.next ≡ its.next)
  on_too other its among at = (its, other_links old new key other (apart_from other its at) others ∙ at, refl)

  old_one : (other : ℕ) (its : Link) → other ≢ key → link_at new other ≡ Some its → link_at old other ≡ Some its
  old_one other its apart at = sym (other_links old new key other apart others) ∙ at

  new_node : (its : Link) → link_at new key ≡ Some its → its.node ≡ node
  new_node its at = let same : link_in (held_with_end (held_unopened node first) writing) ≡ its = (let a = new_link in cc) in sym (ap (λ (l : Link). l.node) same) ∙ node_is

  pub made_chain : IsChain new (Some key)
  made_chain = record {
    keys = key ∷ chain.keys;
    chained = (
      refl,
      link_in (held_with_end (held_unopened node first) writing),
      new_link,
      subst (λ f. Leads new f chain.keys None) (sym (end_link (held_unopened node first) writing).0) (leads_on old new first chain.keys None on_too chain.chained),
    );
    once = IsOnce-cons key chain.keys (λ among. let it = linked_in key among in apart_from key it.0 it.1 refl) chain.once;
    all = λ other its at. elim (cases_eq other key) [
      | inl same ↦ (0, omega arith, sym same)
      | inr apart ↦ Contains-cons key other chain.keys (chain.all other its (old_one other its apart at))
    ];
    alone = λ one other its another at also same. elim (cases_eq one key) [
      | inl here ↦ elim (cases_eq other key) [
        | inl there ↦ here ∙ sym there
        | inr apart ↦ absurd (none other (record { link = another; there = old_one other another apart also; same = sym same ∙ new_node its (sym (ap (link_at new) here) ∙ at) }))
      ]
      | inr differs ↦ elim (cases_eq other key) [
        | inl there ↦ absurd (none one (record { link = its; there = old_one one its differs at; same = same ∙ new_node another (sym (ap (link_at new) there) ∙ also) }))
        | inr apart ↦ chain.alone one other its another (old_one one its differs at) (old_one other another apart also) same
      ]
    ];
    few = λ other its at. elim (cases_eq other key) [
      | inl same ↦
          let is : link_in (held_with_end (held_unopened node first) writing) ≡ its = (let a = new_link in let b = at in let c = same in cc) in
          subst HasFewEnds is (made_few node first writing)
      | inr apart ↦ chain.few other its (old_one other its apart at)
    ];
  }
    where
      linked_in : (other : ℕ) → Contains chain.keys other → (its : Link) × (link_at old other ≡ Some its)
      linked_in other among = linked old first chain.keys None other chain.chained among

  pub made_end : OpensEnd old new node writing key
  made_end = record {
    is_its = record { link = link_in (held_with_end (held_unopened node first) writing); there = new_link; same = node_is };
    had = λ pipe at stands its. absurd (none key its);
    made = λ no. (vacant, made_stands new key node first writing stored);
    others = others;
  }
