-- What the heap stands for, once a descriptor fewer names a description.
use Rattle.std.proofs.Common.{◌≡◌, ◌≢◌, ℕ, zero, suc, ◌+◌, ◌<◌, Bool, true, false, List, [], ◌∷◌, cond, Option, None, Some, IsSome, refl, sym, ap, subst, ◌∙◌, arith, eq-eqb, ne_eqb, inl, inr}
use Rattle.std.proofs.lemmas.Bool.{cases_eq}
use Rattle.std.specs.Option.{option_map}
use Rattle.kheap_slabs.specs.Objects.{object, InUse, put}
use Rattle.kheap_slabs.specs.declared.objects.Access.{Access}
use Rattle.kheap_slabs.specs.declared.objects.Desc.{Desc}
use Rattle.kheap_slabs.specs.declared.objects.Target.{Target}
use Rattle.kheap_slabs.specs.declared.objects.Target.TheVariants as target
use Rattle.kheap_slabs.specs.Heap.{Heap}
use Rattle.posix_defs.specs.Pipe.{Pipe, after_close as pipe_after_close}
use Rattle.posix_defs.specs.Sockets.{Sockets, after_close as sockets_after_close}
use Rattle.posix_defs.specs.Files.Descriptions.{Access as PlainAccess, Target as PlainTarget, OnNode, OnPipe, OnSocket, Description, description_at, with_description, may_write}
use Rattle.posix_defs.specs.Files.State.{Files, node_of, opens, pipe_at, with_descriptions, with_pipe, with_tree}
use Rattle.posix_defs.specs.Files.Closing.{gone_in, left_fifo, target_closed, description_gone}
use Rattle.posix_defs.specs.TreeChanges.{closed}
use Rattle.chunk_queue.specs.Held.{PipeKeepsBytes, SockKeepsBytes}
use Rattle.chunk_queue.proofs.HeldLemmas.{HasBytes-same}
use Rattle.pipe_ends.proofs.StandingLemmas.{stands_on as pipe_stands_on}
use Rattle.usock_core.specs.Standing.{IsClosableIn}
use Rattle.usock_core.proofs.StandingLemmas.{stands_on as sockets_stand_on, found}
use Rattle.usock_core.proofs.OneTable.{nowhere_in}
use Rattle.kheap_slabs.proofs.ObjectLemmas.{object_of}
use Rattle.open_laws.specs.Placed.{Numbers}
use Rattle.open_laws.proofs.PlaceLemmas.{placed_unchanged}
use Rattle.open_laws.specs.Described.{Counted, CountedList, counted_in, access_in, target_in, AreDescribed, after_share, after_drop, counting, descs_left, uncounted}
use Rattle.open_laws.specs.Piped.{ArePiped, end_closed}
use Rattle.open_laws.specs.Socketed.{AreSocketed}
use Rattle.open_laws.specs.Open.{AreOpen, dropped_in, files_dropped}
use Rattle.open_laws.specs.Closing.{IsClosable, IsDroppable, EndCloses, SocketCloses, TargetCloses, Drops}
use Rattle.open_laws.proofs.DescribedLemmas.{at_place, one_desc, dropped_described, shared_described, uncounted-shared, uncounted-left, uncounted-gone}
use Rattle.open_laws.proofs.CloseLemmas.{described}
use Rattle.open_laws.proofs.PipeLemmas.{closed_at_place}
use Rattle.open_laws.proofs.SocketLemmas.{closed_renamed}

-- ---- pipes and sockets go on

pub piped_on : (numbers : Numbers) (old new : Heap) (pipes : List (Option Pipe)) → new.pipes ≡ old.pipes → ((key : ℕ) → PipeKeepsBytes old new key)
    → ArePiped numbers old pipes → ArePiped numbers new pipes
piped_on numbers old new pipes same keeps are =
    placed_unchanged _ _ numbers.pipes numbers.pipes old.pipes new.pipes (object pipes) (object pipes)
    (λ key. ap (λ (list : List _). object list key) same) (λ place. refl) (λ key used. refl)
    (λ key held pipe is said means. (means.0, pipe_stands_on old new key pipe means.0 (ap (λ (list : List _). object list key) same) (keeps key) means.1)) are

pub socketed_on : (numbers : Numbers) (old new : Heap) (sockets : Sockets) → new.socks ≡ old.socks → ((key : ℕ) → SockKeepsBytes old new key)
    → AreSocketed numbers old sockets → AreSocketed numbers new sockets
socketed_on numbers old new sockets same keeps are = record {
  keyed = are.keyed;
  stands = sockets_stand_on old new are.keyed same keeps are.stands;
  renamed = are.renamed;
}

-- what keeps its bytes in a heap with other Descs keeps them
pub pipe_keeps : (old new : Heap) (descs : List (Option Desc)) (key : ℕ) → PipeKeepsBytes (described old descs) new key → PipeKeepsBytes old new key
pipe_keeps old new descs key keeps held bytes is has = keeps held bytes is (HasBytes-same old (described old descs) held.queue bytes refl has)

pub sock_keeps : (old new : Heap) (descs : List (Option Desc)) (key : ℕ) → SockKeepsBytes (described old descs) new key → SockKeepsBytes old new key
sock_keeps old new descs key keeps held bytes is has = keeps held bytes is (HasBytes-same old (described old descs) held.queue bytes refl has)

-- other Descs alone leave pipes and sockets
pub piped_beside : (numbers : Numbers) (h : Heap) (descs : List (Option Desc)) (pipes : List (Option Pipe)) → ArePiped numbers h pipes → ArePiped numbers (described h descs) pipes
piped_beside numbers h descs pipes = piped_on numbers h (described h descs) pipes refl (λ key held bytes is has. HasBytes-same h (described h descs) held.queue bytes refl has)

pub socketed_beside : (numbers : Numbers) (h : Heap) (descs : List (Option Desc)) (sockets : Sockets) → AreSocketed numbers h sockets → AreSocketed numbers (described h descs) sockets
socketed_beside numbers h descs sockets = socketed_on numbers h (described h descs) sockets refl (λ key held bytes is has. HasBytes-same h (described h descs) held.queue bytes refl has)

-- ---- a target is closed

-- the pipes and the sockets of the machine stand for those of the heap
record StandBoth (numbers : Numbers) (h : Heap) (files : Files) : Type 0 where
  pub piped : ArePiped numbers h files.pipes
  pub socketed : AreSocketed numbers h files.sockets

both_beside : (numbers : Numbers) (old new : Heap) (files : Files) → new ≡ described old new.descs → StandBoth numbers old files → StandBoth numbers new files
both_beside numbers old new files kept both =
    subst (λ (h : Heap). StandBoth numbers h files) (sym kept) (record {
      piped = piped_beside numbers old new.descs files.pipes both.piped;
      socketed = socketed_beside numbers old new.descs files.sockets both.socketed;
    })

pipe_closed : (numbers : Numbers) (old new : Heap) (files : Files) (key : ℕ) (writing : Bool) → InUse old.pipes key → EndCloses old new key writing
    → StandBoth numbers old files → (ArePiped numbers new (end_closed files.pipes (numbers.pipes key) writing)) × (AreSocketed numbers new files.sockets)
pipe_closed numbers old new files key writing used closes both = (
  closed_at_place numbers old new key writing files.pipes used closes both.piped,
  socketed_on numbers old new files.sockets (ap (λ (h : Heap). h.socks) closes.others.kept) (λ other. sock_keeps old new new.descs other (closes.others.socks other)) both.socketed,
)

socket_closed : (numbers : Numbers) (old new : Heap) (files : Files) (key : ℕ) → IsClosableIn old key → SocketCloses old new key
    → StandBoth numbers old files → (ArePiped numbers new files.pipes) × (AreSocketed numbers new (sockets_after_close files.sockets (numbers.socks key)))
socket_closed numbers old new files key closable closes both =
    let are = both.socketed in
    let held = object_of old.socks key closable.used in (
      piped_on numbers old new files.pipes (ap (λ (h : Heap). h.pipes) closes.others.kept) (λ other. pipe_keeps old new new.descs other (closes.others.pipes other)) both.piped,
      record {
        keyed = sockets_after_close are.keyed key;
        stands = closes.stands are.keyed are.stands;
        renamed = closed_renamed numbers.socks are.keyed files.sockets key are.stands.linked (found old are.keyed key held.0 are.stands.table held.1).there
            (nowhere_in old key are.keyed closable are.stands) are.renamed;
      },
    )

-- a FIFO that is left changes the tree alone
left_both : (numbers : Numbers) (h : Heap) (files : Files) (node : Option ℕ) → StandBoth numbers h files → StandBoth numbers h (left_fifo files node)
left_both numbers h files None both = both
left_both numbers h files (Some number) both = go (opens files number)
  where
    go : (opened : Bool) → StandBoth numbers h (cond opened files (with_tree files (closed files.tree number)))
    go true = both
    go false = record { piped = both.piped; socketed = both.socketed }

target_closes : (numbers : Numbers) (old new : Heap) (files : Files) (access : Access) (what : Target) → IsClosable old access what → TargetCloses old new access what
    → StandBoth numbers old files → StandBoth numbers new (target_closed files (access_in access) (target_in numbers what))
target_closes numbers old new files access (target.Inode number) closable closes both = go (opens files number)
  where
    after : StandBoth numbers new files
    after = both_beside numbers old new files closes both

    go : (opened : Bool) → StandBoth numbers new (cond opened files (with_tree files (closed files.tree number)))
    go true = after
    go false = record { piped = after.piped; socketed = after.socketed }
target_closes numbers old new files access (target.Pipe key) closable closes both =
    let stands = closable.2 in
    let is = pipe_closed numbers old new files key (may_write (access_in access)) (subst IsSome (sym stands.there) refl) closes both in
    let place = numbers.pipes key in
    left_both numbers new (with_pipe files place (pipe_after_close (pipe_at files place) (may_write (access_in access)))) (node_of files (OnPipe place)) (record { piped = is.0; socketed = is.1 })
target_closes numbers old new files access (target.Sock key) closable closes both =
    let is = socket_closed numbers old new files key closable closes both in
    record { piped = is.0; socketed = is.1 }

left_descriptions : (files : Files) (node : Option ℕ) → (left_fifo files node).descriptions ≡ files.descriptions
left_descriptions files None = refl
left_descriptions files (Some number) = go (opens files number)
  where
    go : (opened : Bool) → (cond opened files (with_tree files (closed files.tree number))).descriptions ≡ files.descriptions
    go true = refl
    go false = refl

-- what is closed leaves the other descriptions
closed_descriptions : (files : Files) (access : PlainAccess) (what : PlainTarget) → (target_closed files access what).descriptions ≡ files.descriptions
closed_descriptions files access (OnNode number) = go (opens files number)
  where
    go : (opened : Bool) → (cond opened files (with_tree files (closed files.tree number))).descriptions ≡ files.descriptions
    go true = refl
    go false = refl
closed_descriptions files access (OnPipe place) = left_descriptions (with_pipe files place (pipe_after_close (pipe_at files place) (may_write access))) (node_of files (OnPipe place))
closed_descriptions files access (OnSocket place) = refl

-- ---- a descriptor fewer

pub description_in : (list : CountedList) (place : ℕ) → description_at (uncounted list) place ≡ option_map (λ (counted : Counted). counted.is) (object list place)
description_in [] zero = refl
description_in [] (suc place) = refl
description_in (first ∷ list) zero = refl
description_in (first ∷ list) (suc place) = description_in list place

-- the Desc that is meant is the one that a key names
pub named_one : (old : Heap) (key : ℕ) (desc : Desc) → object old.descs key ≡ Some desc → (is : IsDroppable old key) → is.desc ≡ desc
named_one old key desc there is = one_desc old.descs key is.desc desc is.there there

pub open_dropped : (numbers : Numbers) (old new : Heap) (list : CountedList) (files : Files) (key : ℕ) (desc : Desc) → object old.descs key ≡ Some desc → IsDroppable old key → Drops old new key desc
    → AreOpen numbers old list files → AreOpen numbers new (after_drop list (numbers.descs key)) (files_dropped files list (numbers.descs key))
open_dropped numbers old new list files key desc there can drops are =
    subst (λ (counted : Option Counted). AreOpen numbers new (after_drop list place) (dropped_in files place counted)) (sym at) (elim (cases_eq desc.count 1) [
      | inl last ↦ subst (λ (b : Bool). AreOpen numbers new (after_drop list place) (cond b (description_gone files place) files)) (sym (eq-eqb desc.count 1 last)) (gone last)
      | inr more ↦ subst (λ (b : Bool). AreOpen numbers new (after_drop list place) (cond b (description_gone files place) files)) (sym (ne_eqb desc.count 1 more)) (stays more)
    ])
  where
    place : ℕ
    place = numbers.descs key

    closable : IsClosable old desc.access desc.target
    closable = subst (λ (d : Desc). IsClosable old d.access d.target) (named_one old key desc there can) can.closable

    some : 0 < desc.count
    some = subst (λ (d : Desc). 0 < d.count) (named_one old key desc there can) can.named

    at : object list place ≡ Some (counted_in numbers desc)
    at = at_place numbers old.descs list key desc there are.described

    now : AreDescribed numbers new.descs (after_drop list place)
    now = subst (λ (d : List (Option Desc)). AreDescribed numbers d (after_drop list place)) (sym drops.descs) (dropped_described numbers old.descs list key desc there are.described)

    both : StandBoth numbers old files
    both = record { piped = are.piped; socketed = are.socketed }

    stays : desc.count ≢ 1 → AreOpen numbers new (after_drop list place) files
    stays more =
        let after = both_beside numbers old new files (drops.stays (omega (arith, some, more))) both in
        record {
          described = now;
          descriptions = are.descriptions ∙ sym (uncounted-left list place (counted_in numbers desc) at more);
          piped = after.piped;
          socketed = after.socketed;
        }

    -- the machine without the description
    without : Files
    without = with_descriptions files (with_description files.descriptions place None)

    is_there : description_at files.descriptions place ≡ Some (counted_in numbers desc).is
    is_there = ap (λ (d : List (Option Description)). description_at d place) are.descriptions ∙ (description_in list place ∙ ap (option_map (λ (counted : Counted). counted.is)) at)

    gone : desc.count ≡ 1 → AreOpen numbers new (after_drop list place) (description_gone files place)
    gone last =
        let after = target_closes numbers old new without desc.access desc.target closable (drops.closes last) (record { piped = both.piped; socketed = both.socketed }) in
        let left = ap (λ (d : List (Option Description)). with_description d place None) are.descriptions ∙ sym (uncounted-gone list place (counted_in numbers desc) at last) in
        subst (λ (description : Option Description). AreOpen numbers new (after_drop list place) (gone_in files place description)) (sym is_there) (record {
          described = now;
          descriptions = closed_descriptions without (access_in desc.access) (target_in numbers desc.target) ∙ left;
          piped = after.piped;
          socketed = after.socketed;
        })

pub open_shared : (numbers : Numbers) (old : Heap) (list : CountedList) (files : Files) (key : ℕ) (desc : Desc) → object old.descs key ≡ Some desc
    → AreOpen numbers old list files
    → AreOpen numbers (described old (put old.descs key (counting desc (desc.count + 1)))) (after_share list (numbers.descs key)) files
open_shared numbers old list files key desc there are = record {
  described = shared_described numbers old.descs list key desc there are.described;
  descriptions = are.descriptions ∙ sym (uncounted-shared list (numbers.descs key));
  piped = piped_beside numbers old (put old.descs key (counting desc (desc.count + 1))) files.pipes are.piped;
  socketed = socketed_beside numbers old (put old.descs key (counting desc (desc.count + 1))) files.sockets are.socketed;
}

-- where another descriptor names it still
pub drops_more : (old new : Heap) (key : ℕ) (desc : Desc) → 1 < desc.count → new ≡ described old (descs_left old.descs key desc) → Drops old new key desc
drops_more old new key desc more is = record {
  descs = ap (λ (h : Heap). h.descs) is;
  stays = λ still. subst (λ (h : Heap). h ≡ described old h.descs) (sym is) refl;
  closes = λ last. absurd (omega (arith, more, last));
}

-- with the last one
pub drops_last : (old new : Heap) (key : ℕ) (desc : Desc) → desc.count ≡ 1 → new.descs ≡ descs_left old.descs key desc → TargetCloses old new desc.access desc.target → Drops old new key desc
drops_last old new key desc last descs closes = record {
  descs = descs;
  stays = λ more. absurd (omega (arith, more, last));
  closes = λ is. closes;
}
