-- Pipes at their places while an end of one is closed, and while a description on something else goes.
use Rattle.std.proofs.Common.{◌≡◌, ◌≢◌, ℕ, Bool, List, set, Option, None, Some, refl, sym, ap, subst}
use Rattle.std.specs.Prelude.{unwrap_or}
use Rattle.std.proofs.lemmas.List.{get_or-set_other}
use Rattle.kheap_laws.proofs.OnceLemmas.{Contains-single}
use Rattle.kheap_slabs.specs.Objects.{object, InUse}
use Rattle.kheap_slabs.proofs.ObjectLemmas.{object_of}
use Rattle.kheap_slabs.specs.declared.objects.Pipe.{Pipe as HeldPipe}
use Rattle.kheap_slabs.specs.Heap.{Heap}
use Rattle.posix_defs.specs.Pipe.{Pipe, new_pipe, after_close}
use Rattle.chunk_queue.proofs.HeldLemmas.{HasBytes-same}
use Rattle.pipe_ends.specs.Standing.{StandsFor}
use Rattle.pipe_ends.proofs.StandingLemmas.{stands_on}
use Rattle.open_laws.specs.Placed.{Numbers, OthersStay}
use Rattle.open_laws.proofs.PlaceLemmas.{placed_changed, placed_gone, put_at}
use Rattle.open_laws.specs.Closing.{EndCloses}
use Rattle.open_laws.specs.Piped.{ArePiped, end_closed}
use Rattle.open_laws.proofs.CloseLemmas.{described}

-- what a pipe of the heap says
abbrev Says : Heap → ℕ → HeldPipe → Pipe → Type 0
Says h key held pipe = (at : ℕ) × StandsFor h key pipe at

pub other_stands : (old new : Heap) (key other : ℕ) (writing : Bool) (pipe : Pipe) (at : ℕ) → other ≢ key → EndCloses old new key writing → StandsFor old other pipe at → StandsFor new other pipe at
other_stands old new key other writing pipe at apart closes stands =
    stands_on old new other pipe at (closes.others.objects other (λ there. apart (sym (Contains-single key other there))))
    (λ held bytes is has. closes.others.pipes other apart held bytes is (HasBytes-same old (described old new.descs) held.queue bytes refl has)) stands

pub closed_at_place : (numbers : Numbers) (old new : Heap) (key : ℕ) (writing : Bool) (pipes : List (Option Pipe)) → InUse old.pipes key → EndCloses old new key writing
    → ArePiped numbers old pipes → ArePiped numbers new (end_closed pipes (numbers.pipes key) writing)
closed_at_place numbers old new key writing pipes used closes are =
    subst (λ (pipe : Pipe). ArePiped numbers new (set pipes (numbers.pipes key) (after_close pipe writing))) (sym (ap (λ o. unwrap_or o new_pipe) there.1))
    (go (after_close there.0 writing) refl)
  where
    held : (x : HeldPipe) × (object old.pipes key ≡ Some x)
    held = object_of old.pipes key used

    there : (pipe : Pipe) × (object pipes (numbers.pipes key) ≡ Some pipe)
    there = are.there key held.0 held.1

    stands : Says old key held.0 there.0
    stands = are.means key held.0 there.0 held.1 there.1

    stay : (y : Option Pipe) → OthersStay old.pipes new.pipes (object pipes) (object (set pipes (numbers.pipes key) y)) key (numbers.pipes key)
    stay y = record {
      objects = λ other apart. closes.others.objects other (λ among. apart (sym (Contains-single key other among)));
      things = λ other apart. get_or-set_other pipes (numbers.pipes key) other y None apart;
    }

    still : (other : ℕ) (x : HeldPipe) (y : Pipe) → other ≢ key → object old.pipes other ≡ Some x → object pipes (numbers.pipes other) ≡ Some y → Says old other x y → Says new other x y
    still other x y apart is said means = (means.0, other_stands old new key other writing y means.0 apart closes means.1)

    go : (left : Option Pipe) → after_close there.0 writing ≡ left → ArePiped numbers new (set pipes (numbers.pipes key) left)
    go None e =
        placed_gone (Says old) (Says new) numbers.pipes old.pipes new.pipes (object pipes) (object (set pipes (numbers.pipes key) None)) key used
        (closes.gone there.0 stands.0 stands.1 e) (put_at pipes (numbers.pipes key) there.0 None there.1) (stay None) still are
    go (Some left) e =
        let now = closes.stands there.0 stands.0 left stands.1 e in
        placed_changed (Says old) (Says new) numbers.pipes old.pipes new.pipes (object pipes) (object (set pipes (numbers.pipes key) (Some left))) key now.held left used
        now.there (put_at pipes (numbers.pipes key) there.0 (Some left) there.1) (_, now) (stay (Some left)) still are
