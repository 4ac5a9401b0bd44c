-- A pipe of the heap and the plain pipe that it stands for, before a call and after it.
use Rattle.std.proofs.Common.{◌≡◌, ◌≢◌, ◌==◌, ◌&&◌, Bool, true, false, not, ℕ, ◌+◌, ◌-◌, ◌<◌, ◌≤◌, List, [], ◌∷◌, ◌++◌, Option, Some, length, take, drop, refl, sym, ap, subst, ◌∙◌, arith, Contains, length-append, length-drop}
use Rattle.std.proofs.lemmas.Bool.Decides.{nat_tests}
use Rattle.posix_defs.specs.Pipe.{Pipe, capacity, new_pipe, after_read, without_reader, without_writer, after_close}
use Rattle.posix_defs.specs.QueuePlace.{QueuePlace, after_take, after_put}
use Rattle.kheap_slabs.specs.Objects.{object, put, without}
use Rattle.kheap_slabs.specs.declared.objects.Pipe.{Pipe as HeldPipe}
use Rattle.kheap_slabs.specs.declared.objects.QueueParts.{QueueParts}
use Rattle.kheap_slabs.specs.Heap.{Heap}
use Rattle.kheap_slabs.specs.Outside.{KeepsOutside}
use Rattle.kheap_slabs.specs.Owners.{OwnsItsObjects}
use Rattle.kheap_slabs.specs.Queues.{empty_queue}
use Rattle.kheap_slabs.proofs.ObjectLemmas.{object-put_other, object-without_other}
use Rattle.kheap_laws.proofs.QueueLemmas.{OwnsChunks-fresh}
use Rattle.chunk_queue.specs.Chained.{place_of, Turns, OnlyChunks, TakesOut}
use Rattle.chunk_queue.specs.Held.{HasBytes, KeepsChunksBut, PipeGoes, PipeKeepsBytes}
use Rattle.chunk_queue.proofs.HeldLemmas.{HasBytes-same, HasBytes-one, HasBytes-unique, pipe_out, pipe_turns}
use Rattle.chunk_queue.proofs.StepLemmas.{owns, len_taken, minus_zero, Turns-none, Turns-as}
use Rattle.pipe_ends.specs.Standing.{StandsFor, LeavesOthers, Turned, account, ends_of}

-- the pipe that a key names is the one that stands for the plain one
pub held_is : (h : Heap) (key : ℕ) (held : HeldPipe) (pipe : Pipe) (at : ℕ) → object h.pipes key ≡ Some held → (stands : StandsFor h key pipe at) → stands.held ≡ held
held_is h key held pipe at there stands = let named = stands.there in cc

-- and stands for it as it is
pub stands_with : (h : Heap) (key : ℕ) (held : HeldPipe) (pipe : Pipe) (at : ℕ) → object h.pipes key ≡ Some held → StandsFor h key pipe at → (stands : StandsFor h key pipe at) × (stands.held ≡ held)
stands_with h key held pipe at there stands = (stands, held_is h key held pipe at there stands)

pub held_bytes : (h : Heap) (key : ℕ) (held : HeldPipe) (pipe : Pipe) (at : ℕ) → object h.pipes key ≡ Some held → StandsFor h key pipe at → HasBytes h held.queue pipe.bytes
held_bytes h key held pipe at there stands =
    subst (λ (p : HeldPipe). HasBytes h p.queue pipe.bytes) (held_is h key held pipe at there stands) stands.bytes

pub held_len : (h : Heap) (key : ℕ) (held : HeldPipe) (pipe : Pipe) (at : ℕ) → object h.pipes key ≡ Some held → StandsFor h key pipe at → held.queue.len ≡ length pipe.bytes
held_len h key held pipe at there stands =
    subst (λ (p : HeldPipe). p.queue.len ≡ length pipe.bytes) (held_is h key held pipe at there stands) stands.len

pub held_place : (h : Heap) (key : ℕ) (held : HeldPipe) (pipe : Pipe) (at : ℕ) → object h.pipes key ≡ Some held → StandsFor h key pipe at → held.queue.place ≡ at
held_place h key held pipe at there stands =
    subst (λ (p : HeldPipe). p.queue.place ≡ at) (held_is h key held pipe at there stands) stands.place

pub held_readers : (h : Heap) (key : ℕ) (held : HeldPipe) (pipe : Pipe) (at : ℕ) → object h.pipes key ≡ Some held → StandsFor h key pipe at → held.readers ≡ pipe.readers
held_readers h key held pipe at there stands =
    subst (λ (p : HeldPipe). p.readers ≡ pipe.readers) (held_is h key held pipe at there stands) stands.readers

pub held_writers : (h : Heap) (key : ℕ) (held : HeldPipe) (pipe : Pipe) (at : ℕ) → object h.pipes key ≡ Some held → StandsFor h key pipe at → held.writers ≡ pipe.writers
held_writers h key held pipe at there stands =
    subst (λ (p : HeldPipe). p.writers ≡ pipe.writers) (held_is h key held pipe at there stands) stands.writers

pub held_node : (h : Heap) (key : ℕ) (held : HeldPipe) (pipe : Pipe) (at : ℕ) → object h.pipes key ≡ Some held → StandsFor h key pipe at → held.node ≡ pipe.node
held_node h key held pipe at there stands =
    subst (λ (p : HeldPipe). p.node ≡ pipe.node) (held_is h key held pipe at there stands) stands.node

pub held_opens : (h : Heap) (key : ℕ) (held : HeldPipe) (pipe : Pipe) (at : ℕ) → object h.pipes key ≡ Some held → StandsFor h key pipe at → (held.read_opens ≡ pipe.read_opens) × (held.write_opens ≡ pipe.write_opens)
held_opens h key held pipe at there stands =
    subst (λ (p : HeldPipe). (p.read_opens ≡ pipe.read_opens) × (p.write_opens ≡ pipe.write_opens)) (held_is h key held pipe at there stands) (stands.read_opens, stands.write_opens)

abbrev place_at : ℕ → ℕ → QueuePlace
place_at place len = record { place = place; len = len }

abbrev pub pipe_with : Pipe → List ℕ → ℕ → ℕ → Pipe
pipe_with pipe bytes readers writers = record pipe { bytes = bytes; readers = readers; writers = writers }

abbrev all_of : List ℕ → ℕ → ℕ → ℕ → ℕ → ℕ → Pipe
all_of bytes readers writers node reads writes = record { bytes = bytes; readers = readers; writers = writers; node = node; read_opens = reads; write_opens = writes }

same_pipe : (a b : List ℕ) (c d e f g h i j k l : ℕ) → a ≡ b → c ≡ d → e ≡ f → g ≡ h → i ≡ j → k ≡ l → all_of a c e g i k ≡ all_of b d f h j l
same_pipe a b c d e f g h i j k l bytes readers writers node reads writes = rw (bytes, readers, writers, node, reads, writes) refl

-- it goes on where it is the same and keeps its bytes
pub stands_on : (old new : Heap) (key : ℕ) (pipe : Pipe) (at : ℕ) → object new.pipes key ≡ object old.pipes key → PipeKeepsBytes old new key → StandsFor old key pipe at → StandsFor new key pipe at
stands_on old new key pipe at same keeps stands = record {
  held = stands.held;
  there = same ∙ stands.there;
  bytes = keeps stands.held pipe.bytes stands.there stands.bytes;
  len = stands.len;
  place = stands.place;
  readers = stands.readers;
  writers = stands.writers;
  node = stands.node;
  read_opens = stands.read_opens;
  write_opens = stands.write_opens;
  within = stands.within;
}

-- as it does where all chunks are the same
pub stands_same : (old new : Heap) (key : ℕ) (pipe : Pipe) (at : ℕ) → object new.pipes key ≡ object old.pipes key → new.chunks ≡ old.chunks → StandsFor old key pipe at → StandsFor new key pipe at
stands_same old new key pipe at same chunks = stands_on old new key pipe at same (λ held bytes there has. HasBytes-same old new held.queue bytes chunks has)

-- it stands for one alone
pub stands_for_one : (h : Heap) (key : ℕ) (first second : Pipe) (at other : ℕ) → StandsFor h key first at → StandsFor h key second other → (first ≡ second) × (at ≡ other)
stands_for_one h key first second at other one also = (
  same_pipe first.bytes second.bytes first.readers second.readers first.writers second.writers first.node second.node first.read_opens second.read_opens first.write_opens second.write_opens
      (HasBytes-unique h one.held.queue first.bytes second.bytes one.bytes (held_bytes h key one.held second other one.there also))
      (sym one.readers ∙ held_readers h key one.held second other one.there also)
      (sym one.writers ∙ held_writers h key one.held second other one.there also)
      (sym one.node ∙ held_node h key one.held second other one.there also)
      (sym one.read_opens ∙ (held_opens h key one.held second other one.there also).0)
      (sym one.write_opens ∙ (held_opens h key one.held second other one.there also).1),
  sym one.place ∙ held_place h key one.held second other one.there also,
)

same_account : (a b c d : ℕ) → a ≡ b → c ≡ d → place_at a c ≡ place_at b d
same_account a b c d place len = rw (place, len) refl

-- what a pipe stands for once its queue has turned
pub stands_turned : (old new : Heap) (key : ℕ) (held : HeldPipe) (pipe : Pipe) (at : ℕ) (next : List ℕ → List ℕ) (place : QueuePlace) (readers writers : ℕ) → object old.pipes key ≡ Some held → StandsFor old key pipe at → Turned old new key held next place readers writers → place.len ≡ length (next pipe.bytes) → length (next pipe.bytes) ≤ capacity → StandsFor new key (pipe_with pipe (next pipe.bytes) readers writers) place.place
stands_turned old new key held pipe at next place readers writers there stands turned len within = record {
  held = turned.now;
  there = turned.stored;
  bytes = turned.turns.bytes pipe.bytes (held_bytes old key held pipe at there stands);
  len = ap (λ (q : QueuePlace). q.len) turned.place_is ∙ len;
  place = ap (λ (q : QueuePlace). q.place) turned.place_is;
  readers = turned.readers_are;
  writers = turned.writers_are;
  node = ap (λ (p : HeldPipe). p.node) turned.fifo ∙ held_node old key held pipe at there stands;
  read_opens = ap (λ (p : HeldPipe). p.read_opens) turned.fifo ∙ (held_opens old key held pipe at there stands).0;
  write_opens = ap (λ (p : HeldPipe). p.write_opens) turned.fifo ∙ (held_opens old key held pipe at there stands).1;
  within = within;
}

-- others are as they were
pub others_turned : (old new : Heap) (key : ℕ) (held : HeldPipe) (next : List ℕ → List ℕ) (place : QueuePlace) (readers writers : ℕ) → object old.pipes key ≡ Some held → Turned old new key held next place readers writers → LeavesOthers old new key
others_turned old new key held next place readers writers there turned = record {
  kept = turned.kept;
  objects = turned.objects;
  pipes = turned.turns.pipes;
  socks = turned.turns.socks;
  chunks = λ other named. let same : held ≡ other = cc in subst (λ (p : HeldPipe). KeepsChunksBut old.chunks new.chunks p.queue) same turned.turns.chunks;
}

pub LeavesOthers-refl : (h : Heap) (key : ℕ) → LeavesOthers h h key
LeavesOthers-refl h key = record {
  kept = refl;
  objects = λ other outside. refl;
  pipes = λ other differs pipe bytes there has. has;
  socks = λ other sock bytes there has. has;
  chunks = λ held there keys mine other used outside. refl;
}

differs_from : (key other : ℕ) → (Contains (key ∷ []) other → ⊥) → other ≢ key
differs_from key other outside same = outside (0, omega arith, sym same)

-- one pipe has another object
keeps_pipes : (old new : Heap) (key : ℕ) (now : HeldPipe) → new.pipes ≡ put old.pipes key now → KeepsOutside (key ∷ []) old.pipes new.pipes
keeps_pipes old new key now is other outside =
    ap (λ list. object list other) is ∙ object-put_other old.pipes key other now (differs_from key other outside)

kept_parts : (old new : Heap) (pipes : List (Option HeldPipe)) (chunks : _) (high : ℕ) → new ≡ record old { pipes = pipes; chunks = chunks; high = high } → new ≡ record old { pipes = new.pipes; chunks = new.chunks; high = new.high }
kept_parts old new pipes chunks high is =
    subst (λ (h : Heap). h ≡ record old { pipes = h.pipes; chunks = h.chunks; high = h.high }) (sym is) refl

-- a queue turns in its chunks, and its pipe gets it
pub turned_by : (old mid new : Heap) (key : ℕ) (pipe now : HeldPipe) (next : List ℕ → List ℕ) (place : QueuePlace) → OwnsItsObjects old → object old.pipes key ≡ Some pipe → OnlyChunks old mid → Turns old mid pipe.queue now.queue next → place_of now.queue ≡ place → object new.pipes key ≡ Some now → new ≡ record mid { pipes = put mid.pipes key now } → now ≡ record pipe { queue = now.queue; readers = now.readers; writers = now.writers } → Turned old new key pipe next place now.readers now.writers
turned_by old mid new key pipe now next place is there only turns place_is stored put_in fifo = record {
  now = now;
  stored = stored;
  place_is = place_is;
  readers_are = refl;
  writers_are = refl;
  fifo = fifo;
  turns = pipe_turns old mid new key pipe now next is there only turns stored put_in;
  kept = kept_parts old new (put mid.pipes key now) mid.chunks mid.high (put_in ∙ ap (λ (h : Heap). record h { pipes = put mid.pipes key now }) only);
  objects = keeps_pipes old new key now (ap (λ (h : Heap). h.pipes) put_in ∙ ap (λ (h : Heap). put h.pipes key now) only);
}

pub Turns-same : (h : Heap) (parts : QueueParts) → Turns h h parts parts (λ bytes. bytes)
Turns-same h parts = Turns-as h h parts parts (drop 0) (λ bytes. bytes) (λ bytes. refl) (Turns-none h parts)

-- a pipe that is made
pub stands_new : (old new : Heap) (key : ℕ) (pipe : HeldPipe) → pipe.queue ≡ empty_queue → pipe.readers ≡ 1 → pipe.writers ≡ 1 → pipe.node ≡ 0 → pipe.read_opens ≡ 0 → pipe.write_opens ≡ 0 → object new.pipes key ≡ Some pipe → StandsFor new key new_pipe 0
stands_new old new key pipe queue readers writers node reads writes stored = record {
  held = pipe;
  there = stored;
  bytes = rw queue (record { keys = []; owns = OwnsChunks-fresh new.chunks; has = refl });
  len = ap (λ (q : QueueParts). q.len) queue;
  place = ap (λ (q : QueueParts). q.place) queue;
  readers = readers;
  writers = writers;
  node = node;
  read_opens = reads;
  write_opens = writes;
  within = omega arith;
}

pub others_made : (old new : Heap) (key : ℕ) (pipe : HeldPipe) → new ≡ record old { pipes = put old.pipes key pipe; high = new.high } → LeavesOthers old new key
others_made old new key pipe made = record {
  kept = kept_parts old new (put old.pipes key pipe) old.chunks new.high made;
  objects = keeps_pipes old new key pipe (ap (λ (h : Heap). h.pipes) made);
  pipes = λ other differs that bytes there has. HasBytes-same old new that.queue bytes (ap (λ (h : Heap). h.chunks) made) has;
  socks = λ other that bytes there has. HasBytes-same old new that.queue bytes (ap (λ (h : Heap). h.chunks) made) has;
  chunks = λ held there keys mine other used outside. ap (λ (h : Heap). object h.chunks other) made;
}

-- a pipe that goes
pub others_gone : (old mid new : Heap) (key : ℕ) (pipe : HeldPipe) → object old.pipes key ≡ Some pipe → OnlyChunks old mid → new ≡ record mid { pipes = without mid.pipes key } → PipeGoes old new key pipe.queue → LeavesOthers old new key
others_gone old mid new key pipe there only taken goes = record {
  kept = kept_parts old new (without mid.pipes key) mid.chunks mid.high (taken ∙ ap (λ (h : Heap). record h { pipes = without mid.pipes key }) only);
  objects = λ other outside. ap (λ (h : Heap). object h.pipes other) taken ∙ object-without_other mid.pipes key other (differs_from key other outside) ∙ ap (λ (h : Heap). object h.pipes other) only;
  pipes = goes.pipes;
  socks = goes.socks;
  chunks = λ held named. let same : pipe ≡ held = cc in subst (λ (p : HeldPipe). KeepsChunksBut old.chunks new.chunks p.queue) same goes.chunks;
}

-- what was read is gone from the pipe's front
pub stands_read : (old new : Heap) (key : ℕ) (held : HeldPipe) (pipe : Pipe) (at count : ℕ) → object old.pipes key ≡ Some held → StandsFor old key pipe at → Turned old new key held (drop count) (after_take (place_of held.queue) count) held.readers held.writers → StandsFor new key (after_read pipe count) (after_take (account pipe at) count).place
stands_read old new key held pipe at count there stands turned =
    let len = held_len old key held pipe at there stands in
    let place = held_place old key held pipe at there stands in
    let same : place_of held.queue ≡ account pipe at = same_account held.queue.place at held.queue.len (length pipe.bytes) place len in
    let readers = held_readers old key held pipe at there stands in
    let writers = held_writers old key held pipe at there stands in
    let left : (after_take (place_of held.queue) count).len ≡ length (drop count pipe.bytes) = len_taken (place_of held.queue) count ∙ ap (λ (n : ℕ). n - count) len ∙ sym (length-drop count pipe.bytes) in
    let now = stands_turned old new key held pipe at (drop count) (after_take (place_of held.queue) count) held.readers held.writers there stands turned left (rw length-drop (omega (arith, stands.within))) in
    subst (λ (q : QueuePlace). StandsFor new key (after_read pipe count) (after_take q count).place) same
    (subst (λ (n : ℕ). StandsFor new key (pipe_with pipe (drop count pipe.bytes) pipe.readers n) (after_take (place_of held.queue) count).place) writers
    (subst (λ (n : ℕ). StandsFor new key (pipe_with pipe (drop count pipe.bytes) n held.writers) (after_take (place_of held.queue) count).place) readers now))

-- the bytes that were read are its first ones
pub read_out : (h : Heap) (key : ℕ) (held : HeldPipe) (pipe : Pipe) (at count : ℕ) (before after : List ℕ) → OwnsItsObjects h → object h.pipes key ≡ Some held → StandsFor h key pipe at → TakesOut h held.queue before after 0 count → after ≡ take count pipe.bytes ++ drop count before
read_out h key held pipe at count before after is there stands taken =
    let out = pipe_out h key held there is in
    let bytes = HasBytes-one h held.queue out.0 pipe.bytes (owns h out.0 held.queue out.1 out.3) (held_bytes h key held pipe at there stands) in
    let begun = rw minus_zero at (taken out.0 out.1 out.3) in
    begun ∙ ap (λ list. take count list ++ drop count before) bytes

-- what was written stands behind the others
pub stands_written : (old new : Heap) (key : ℕ) (held : HeldPipe) (pipe : Pipe) (at : ℕ) (bytes : List ℕ) → object old.pipes key ≡ Some held → StandsFor old key pipe at → Turned old new key held (λ before. before ++ bytes) (after_put (place_of held.queue) (length bytes)) held.readers held.writers → length pipe.bytes + length bytes ≤ capacity → StandsFor new key (record pipe { bytes = pipe.bytes ++ bytes }) at
stands_written old new key held pipe at bytes there stands turned room =
    let len = held_len old key held pipe at there stands in
    let readers = held_readers old key held pipe at there stands in
    let writers = held_writers old key held pipe at there stands in
    let more : held.queue.len + length bytes ≡ length (pipe.bytes ++ bytes) = ap (λ (n : ℕ). n + length bytes) len ∙ sym (length-append pipe.bytes bytes) in
    let now = stands_turned old new key held pipe at (λ before. before ++ bytes) (after_put (place_of held.queue) (length bytes)) held.readers held.writers there stands turned more (rw length-append room) in
    subst (λ (n : ℕ). StandsFor new key (record pipe { bytes = pipe.bytes ++ bytes }) n) (held_place old key held pipe at there stands)
    (subst (λ (n : ℕ). StandsFor new key (pipe_with pipe (pipe.bytes ++ bytes) pipe.readers n) held.queue.place) writers
    (subst (λ (n : ℕ). StandsFor new key (pipe_with pipe (pipe.bytes ++ bytes) n held.writers) held.queue.place) readers now))

none_false : (n : ℕ) → 0 < n → (n == 0) ≡ false
none_false n some = grind (arith, nat_tests)

and_false : (b : Bool) → (b && false) ≡ false
and_false true = refl
and_false false = refl

-- a pipe that has another end stays when one is closed
pub closed_stays : (pipe : Pipe) (writing : Bool) → 0 < ends_of pipe (not writing) → (left : Pipe) × (after_close pipe writing ≡ Some left)
closed_stays pipe true some = (without_writer pipe, rw (none_false pipe.readers some) refl)
closed_stays pipe false some = (without_reader pipe, rw (none_false pipe.writers some, and_false (pipe.readers - 1 == 0)) refl)
