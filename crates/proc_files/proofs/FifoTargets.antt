-- What descriptions are open on is there, and of an end of a FIFO's pipe the machine has the FIFO that the heap has.
use Rattle.std.proofs.Common.{◌≡◌, ℕ, zero, suc, ◌==◌, ◌&&◌, ◌++◌, Bool, true, false, cond, List, [], ◌∷◌, Option, None, Some, is_some, unwrap_or, refl, ap, sym, ◌∙◌}
use Rattle.std.specs.Prelude.{slice_index_or, slice_set}
use Rattle.std.specs.Option.{option_and_then, option_map}
use Rattle.kheap_slabs.specs.Objects.{InUse, object}
use Rattle.kheap_slabs.proofs.ObjectLemmas.{object_of}
use Rattle.kheap_slabs.specs.declared.objects.Access.{Access as HeldAccess}
use Rattle.kheap_slabs.specs.declared.objects.Desc.{Desc}
use Rattle.kheap_slabs.specs.declared.objects.Pipe.{Pipe as HeldPipe}
use Rattle.kheap_slabs.specs.declared.objects.Target.{Target as HeldTarget}
use Rattle.kheap_slabs.specs.declared.objects.Target.TheVariants as held_target
use Rattle.kheap_slabs.specs.Heap.{Heap}
use Rattle.open_laws.specs.Described.{Counted, counted_in, fifo_in, node_in, target_in}
use Rattle.open_laws.specs.Owned.{HasItsOwners, IsThereFor}
use Rattle.open_laws.specs.Piped.{ArePiped}
use Rattle.open_laws.specs.Placed.{Numbers}
use Rattle.open_laws.proofs.DropLemmas.{description_in}
use Rattle.pipe_ends.specs.Standing.{IsPipeAt, StandsFor}
use Rattle.posix_defs.specs.Files.Descriptions.{Description, Descriptions, OnPipe, description_at}
use Rattle.posix_defs.specs.Files.State.{Files, node_of, pipe_there}
use Rattle.posix_defs.specs.Pipe.{Pipe, after_close, fifo_of, new_pipe, with_end, without_reader, without_writer}
use Rattle.proc_table.specs.Table.{TableView}
use Rattle.proc_table.proofs.PlaceLemmas.{some_same}
use Rattle.proc_numbers.specs.Having.{HaveOpen}

-- ---- a pipe of the heap

-- the FIFO of pipes with the same node is the same
pub same_fifo : (one other : Pipe) → one.node ≡ other.node → fifo_of one ≡ fifo_of other
same_fifo one other same = ap (λ n. cond (n == 0) None (Some n)) same

pub held_fifo : (held : HeldPipe) (pipe : Pipe) → held.node ≡ pipe.node → fifo_of pipe ≡ fifo_in held
held_fifo held pipe same = ap (λ n. cond (n == 0) None (Some n)) (sym same)

pub stands_fifo : (h : Heap) (key : ℕ) (pipe : Pipe) (at : ℕ) (held : HeldPipe) → StandsFor h key pipe at → object h.pipes key ≡ Some held → held.node ≡ pipe.node
stands_fifo h key pipe at held stands is = ap (λ (p : HeldPipe). p.node) (some_same (object h.pipes key) held stands.held is stands.there) ∙ stands.node

pub node_placed : (numbers : Numbers) (h : Heap) (files : Files) → ArePiped numbers h files.pipes → (key : ℕ) → InUse h.pipes key
    → node_of files (OnPipe (numbers.pipes key)) ≡ node_in h.pipes (held_target.Pipe key)
node_placed numbers h files are key used =
    let held = object_of h.pipes key used in
    let pipe = are.there key held.0 held.1 in
    let stands = are.means key held.0 pipe.0 held.1 pipe.1 in
    ap (option_and_then fifo_of) pipe.1
    ∙ held_fifo held.0 pipe.0 (stands_fifo h key pipe.0 stands.0 held.0 stands.1 held.1)
    ∙ sym (ap (option_and_then fifo_in) held.1)

-- what is told of a pipe's FIFO
pub pipe_node : (h : Heap) (key : ℕ) (told : Option ℕ) → IsPipeAt h key → ((pipe : Pipe) (at : ℕ) → StandsFor h key pipe at → told ≡ fifo_of pipe) → node_in h.pipes (held_target.Pipe key) ≡ told
pipe_node h key told (pipe, at, stands) tells =
    ap (option_and_then fifo_in) stands.there ∙ sym (held_fifo stands.held pipe stands.node) ∙ sym (tells pipe at stands)

pub pipe_placed : (numbers : Numbers) (h : Heap) (files : Files) → ArePiped numbers h files.pipes → (key : ℕ) (told : Option ℕ) → IsPipeAt h key
    → ((pipe : Pipe) (at : ℕ) → StandsFor h key pipe at → told ≡ fifo_of pipe) → node_of files (OnPipe (numbers.pipes key)) ≡ told
pipe_placed numbers h files are key told there tells = node_placed numbers h files are key (ap is_some there.2.there) ∙ pipe_node h key told there tells

-- the node of a target that is there
pub node_same : (numbers : Numbers) (h : Heap) (files : Files) → ArePiped numbers h files.pipes → (access : HeldAccess) (what : HeldTarget) → IsThereFor h access what
    → node_of files (target_in numbers what) ≡ node_in h.pipes what
node_same numbers h files are access (held_target.Inode number) there = refl
node_same numbers h files are access (held_target.Pipe key) there = node_placed numbers h files are key there.0
node_same numbers h files are access (held_target.Sock key) there = refl

-- ---- a description that is there has its Desc

pub record HasDesc (numbers : Numbers) (h : Heap) (place : ℕ) (description : Description) : Type 0 where
  pub key : ℕ
  pub desc : Desc
  pub there : object h.descs key ≡ Some desc
  pub at : numbers.descs key ≡ place
  pub is : description ≡ (counted_in numbers desc).is

counted_some : (o : Option Counted) (d : Description) → option_map (λ (counted : Counted). counted.is) o ≡ Some d → (counted : Counted) × (o ≡ Some counted) × (counted.is ≡ d)
counted_some None d is = absurd (cc)
counted_some (Some counted) d is = (counted, refl, same)
  where
    same : counted.is ≡ d
    same = cc

pub has_desc : (numbers : Numbers) (h : Heap) (kept : TableView) (files : Files) → HaveOpen numbers h kept files → (place : ℕ) (d : Description) → description_at files.descriptions place ≡ Some d
    → HasDesc numbers h place d
has_desc numbers h kept files have place d is =
    let listed = sym (description_in have.list place) ∙ ap (λ (ds : Descriptions). description_at ds place) (sym have.opened.descriptions) ∙ is in
    let counted = counted_some (object have.list place) d listed in
    let key = have.opened.described.found place counted.0 counted.1 in
    let desc = object_of h.descs key.0 key.1 in
    let means = have.opened.described.means key.0 desc.0 counted.0 desc.1 (ap (object have.list) key.2 ∙ counted.1) in
    record {
      key = key.0;
      desc = desc.0;
      there = desc.1;
      at = key.2;
      is = sym counted.2 ∙ ap (λ (c : Counted). c.is) means;
    }

-- so the pipe that it has an end of is there
pub pipe_is_there : (numbers : Numbers) (h : Heap) (kept : TableView) (hand : List ℕ) (files : Files) → HaveOpen numbers h kept files → HasItsOwners h hand → (place p : ℕ) (d : Description)
    → description_at files.descriptions place ≡ Some d → d.target ≡ OnPipe p → (pipe : Pipe) × (pipe_there files p ≡ Some pipe)
pipe_is_there numbers h kept hand files have owners place p d is on =
    let it = has_desc numbers h kept files have place d is in
    by_target it.desc.access it.desc.target (owners.held.targets it.key it.desc it.there) (sym (ap (λ (x : Description). x.target) it.is) ∙ on)
  where
    place_of : (one other : ℕ) → OnPipe one ≡ OnPipe other → one ≡ other
    place_of one other e = cc

    by_target : (access : HeldAccess) (what : HeldTarget) → IsThereFor h access what → target_in numbers what ≡ OnPipe p → (pipe : Pipe) × (pipe_there files p ≡ Some pipe)
    by_target access (held_target.Inode number) there e = absurd (cc)
    by_target access (held_target.Pipe key) there e =
        let held = object_of h.pipes key there.0 in
        let pipe = have.opened.piped.there key held.0 held.1 in
        (pipe.0, ap (object files.pipes) (sym (place_of (numbers.pipes key) p e)) ∙ pipe.1)
    by_target access (held_target.Sock key) there e = absurd (cc)

-- ---- one pipe changes

-- after a close the pipe that stays is of the same FIFO
end_left : (o : Option Pipe) (writing : Bool) (left : Pipe) → after_close (unwrap_or o new_pipe) writing ≡ Some left → fifo_of left ≡ option_and_then fifo_of o
end_left o writing left is = by_open (unwrap_or o new_pipe) refl
  where
    same_pipe : (one other : Pipe) → Some one ≡ Some other → one ≡ other
    same_pipe one other e = cc

    open_is : (b : Bool) (pipe : Pipe) → cond b None (Some pipe) ≡ Some left → pipe ≡ left
    open_is true pipe e = absurd (cc)
    open_is false pipe e = same_pipe pipe left e

    less : (b : Bool) (pipe : Pipe) → (cond b (without_writer pipe) (without_reader pipe)).node ≡ pipe.node
    less true pipe = refl
    less false pipe = refl

    whole : (p : Option Pipe) → fifo_of (unwrap_or p new_pipe) ≡ option_and_then fifo_of p
    whole None = refl
    whole (Some pipe) = refl

    by_open : (pipe : Pipe) → unwrap_or o new_pipe ≡ pipe → fifo_of left ≡ option_and_then fifo_of o
    by_open pipe it =
        let closed : Pipe = cond writing (without_writer pipe) (without_reader pipe) in
        let same = open_is ((closed.readers == 0) && (closed.writers == 0)) closed (ap (λ (x : Pipe). after_close x writing) (sym it) ∙ is) in
        same_fifo left pipe (ap (λ (x : Pipe). x.node) (sym same) ∙ less writing pipe) ∙ ap fifo_of (sym it) ∙ whole o

pub end_closed_node : (pipes : List (Option Pipe)) (place : ℕ) (writing : Bool) (p : ℕ) (left : Pipe)
    → slice_index_or (slice_set pipes place (after_close (unwrap_or (slice_index_or pipes place None) new_pipe) writing)) p None ≡ Some left
    → option_and_then fifo_of (slice_index_or (slice_set pipes place (after_close (unwrap_or (slice_index_or pipes place None) new_pipe) writing)) p None)
    ≡ option_and_then fifo_of (slice_index_or pipes p None)
end_closed_node [] place writing p left is = absurd (cc)
end_closed_node (first ∷ pipes) zero writing zero left is = ap (option_and_then fifo_of) is ∙ end_left first writing left is
end_closed_node (first ∷ pipes) zero writing (suc p) left is = refl
end_closed_node (first ∷ pipes) (suc place) writing zero left is = refl
end_closed_node (first ∷ pipes) (suc place) writing (suc p) left is = end_closed_node pipes place writing p left is

-- an end more leaves the FIFO of each pipe
pub end_opened_node : (pipes : List (Option Pipe)) (place : ℕ) (writing : Bool) (p : ℕ) (was : Pipe) → slice_index_or pipes p None ≡ Some was
    → option_and_then fifo_of (slice_index_or (slice_set pipes place (Some (with_end (unwrap_or (slice_index_or pipes place None) new_pipe) writing))) p None)
    ≡ option_and_then fifo_of (slice_index_or pipes p None)
end_opened_node [] place writing p was is = refl
end_opened_node (first ∷ pipes) zero writing zero was is = by_side writing ∙ ap (option_and_then fifo_of) (sym is)
  where
    by_side : (b : Bool) → fifo_of (with_end (unwrap_or first new_pipe) b) ≡ fifo_of was
    by_side true = ap (λ (o : Option Pipe). fifo_of (with_end (unwrap_or o new_pipe) true)) is
    by_side false = ap (λ (o : Option Pipe). fifo_of (with_end (unwrap_or o new_pipe) false)) is
end_opened_node (first ∷ pipes) zero writing (suc p) was is = refl
end_opened_node (first ∷ pipes) (suc place) writing zero was is = refl
end_opened_node (first ∷ pipes) (suc place) writing (suc p) was is = end_opened_node pipes place writing p was is

-- and so does one more pipe
pub pipe_more_node : (pipes : List (Option Pipe)) (more : Pipe) (p : ℕ) (was : Pipe) → slice_index_or pipes p None ≡ Some was
    → slice_index_or (pipes ++ Some more ∷ []) p None ≡ slice_index_or pipes p None
pipe_more_node [] more p was is = absurd (cc)
pipe_more_node (first ∷ pipes) more zero was is = refl
pipe_more_node (first ∷ pipes) more (suc p) was is = pipe_more_node pipes more p was is
