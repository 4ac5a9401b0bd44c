-- Bytes that are moved between a program and its memory.
use Rattle.std.proofs.Common.{◌≡◌, ℕ, ℤ, pos, ◌<◌, Bool, true, false, cond, List, length, refl, ap, sym, ◌∙◌, subst}
use Rattle.std.specs.Prelude.{Result, Ok, Err, if◌then◌else◌}
use Rattle.kabi_types.specs.Arguments.{count_of}
use Rattle.kabi_types.specs.declared.calls.Call.{Call}
use Rattle.kabi_types.specs.declared.calls.Call.TheVariants as call
use Rattle.kabi_types.specs.declared.errnos.Errno.{Errno}
use Rattle.kabi_types.specs.declared.errnos.Errno.TheVariants.{EFAULT}
use Rattle.kabi_types.specs.declared.replies.Reply.TheVariants.{Bytes, Fail, Val}
use Rattle.kabi_types.specs.declared.scripts.Script.{Script}
use Rattle.posix_defs.specs.Answer.{Answer, failed, replied}
use Rattle.posix_defs.specs.Memory.{after_put, is_mapped_range, loaded, stored}
use Rattle.posix_defs.specs.MemoryCalls.{in_range, load, store}
use Rattle.posix_defs.specs.Plain.{Plain}
use Rattle.posix_defs.specs.Process.{memory_of}
use Rattle.posix_defs.specs.World.{World}
use Rattle.posix_defs.specs.declared.turner.Turned.{Turned}
use Rattle.posix_defs.specs.declared.turner.Turned.TheVariants.{Done}
use Rattle.store_objects.specs.declared.objects.Objects.{Objects}
use Rattle.store_objects.specs.Standing.{Performs, StandsFor, WorldAfter, answered_in, remembered_in}
use Rattle.store_objects.proofs.Leading.{led_on}
use Rattle.store_objects.proofs.Replies.{GoesOn, does_fail, does_said}
use Rattle.process_calls.proofs.Starts.{loaded_at, mapped_at, put_at, stored_at}

-- what a mapped range gives, and EFAULT for one that isn't
abbrev pub given : {X : Type 0} → Bool → X → Result X Errno
given mapped x = if mapped then Ok x else Err EFAULT

was_mapped : {X : Type 0} (b : Bool) (x y : X) → Ok y ≡ given b x → (b ≡ true) × (y ≡ x)
was_mapped true x y e = (refl, cc)
was_mapped false x y e = cc

was_fault : {X : Type 0} (b : Bool) (x : X) (errno : Errno) → Err errno ≡ given b x → (b ≡ false) × (errno ≡ EFAULT)
was_fault true x errno e = cc
was_fault false x errno e = (refl, cc)

-- a call on a range goes on where it is mapped
range_serves : (script : Script) (plain : Plain) (pid : ℕ) (addr : ℤ) (start n : ℕ) (b : Bool) (answer : Answer) → (0 < n → start ≡ count_of addr)
    → is_mapped_range (memory_of plain.table pid) start n ≡ b → in_range script plain pid addr n answer ≡ cond b answer (failed script plain pid EFAULT)
range_serves script plain pid addr start n b answer begins is =
    ap (λ mapped. cond mapped answer (failed script plain pid EFAULT)) (sym (mapped_at (memory_of plain.table pid) start (count_of addr) n begins) ∙ is)

-- a range with a page that isn't mapped
pub does_fault : {X : Type 0} (script : Script) (old new : Objects) (pid : ℕ) (which : Call) (addr : ℤ) (start n : ℕ) (errno : Errno) (told : Turned)
    (answer : Plain → Answer) (gives : Plain → X) → (0 < n → start ≡ count_of addr) → told ≡ Done (Fail errno)
    → ((world : World) → StandsFor script old world → Err errno ≡ given (is_mapped_range (memory_of world.plain.table pid) start n) (gives world.plain))
    → GoesOn script old pid (Fail errno) new
    → Performs script old pid which (λ plain. in_range script plain pid addr n (answer plain)) told new
does_fault script old new pid which addr start n errno told answer gives begins tells mapped goes =
    does_fail script old new pid which errno told (λ plain. in_range script plain pid addr n (answer plain)) tells goes
    (λ world stands.
    let fault = was_fault (is_mapped_range (memory_of world.plain.table pid) start n) (gives world.plain) errno (mapped world stands) in
    range_serves script world.plain pid addr start n false (answer world.plain) begins fault.0 ∙ ap (λ e. failed script world.plain pid e) (sym fault.1))

-- bytes that are put in a range that is mapped
pub does_store : (script : Script) (old mid new : Objects) (pid : ℕ) (addr : ℤ) (bytes : List ℕ) (start : ℕ) (number : ℤ) (told : Turned)
    → (0 < length bytes → start ≡ count_of addr) → number ≡ pos (length bytes) → told ≡ Done (Val number)
    → ((world : World) → StandsFor script old world → Ok tt ≡ given {X = Unit {0}} (is_mapped_range (memory_of world.plain.table pid) start (length bytes)) tt)
    → ((world : World) → StandsFor script old world
    → StandsFor script mid (remembered_in world pid (stored (memory_of world.plain.table pid) start bytes) (after_put world.account.frames pid start (length bytes))))
    → GoesOn script mid pid (Val number) new
    → Performs script old pid (call.Store addr bytes) (λ plain. store script plain pid addr bytes) told new
does_store script old mid new pid addr bytes start number told begins is tells mapped puts goes = λ world stands alive.
    let memory = memory_of world.plain.table pid in
    let at = count_of addr in
    let n = length bytes in
    let base = remembered_in world pid (stored memory at bytes) (after_put world.account.frames pid at n) in
    let between : StandsFor script mid base =
    subst (λ m. StandsFor script mid (remembered_in world pid m (after_put world.account.frames pid at n))) (stored_at memory start at bytes begins)
    (subst (λ f. StandsFor script mid (remembered_in world pid (stored memory start bytes) f)) (put_at world.account.frames pid start at n begins) (puts world stands)) in
    let serves = was_mapped {X = Unit {0}} (is_mapped_range memory start n) tt tt (mapped world stands) in
    subst (λ answer. WorldAfter script new world pid (call.Store addr bytes) answer told)
    (sym (range_serves script world.plain pid addr start n true (replied script base.plain pid (Val (pos n))) begins serves.0))
    (led_on script mid new world base pid (call.Store addr bytes) (Val (pos n)) told between (tells ∙ ap (λ z. Done (Val z)) is)
    (subst (λ z. StandsFor script new (answered_in script base pid (Val z))) is (goes base between)) refl refl refl refl refl)

-- bytes that are taken from one
pub does_load : (script : Script) (old new : Objects) (pid : ℕ) (addr count : ℤ) (start n : ℕ) (bytes : List ℕ) (told : Turned)
    → n ≡ count_of count → (0 < n → start ≡ count_of addr) → told ≡ Done (Bytes bytes)
    → ((world : World) → StandsFor script old world
    → Ok bytes ≡ given (is_mapped_range (memory_of world.plain.table pid) start n) (loaded (memory_of world.plain.table pid) start n))
    → GoesOn script old pid (Bytes bytes) new
    → Performs script old pid (call.Load addr count) (λ plain. load script plain pid addr count) told new
does_load script old new pid addr count start n bytes told is begins tells takes goes =
    does_said script old new pid (call.Load addr count) (Bytes bytes) told (λ plain. load script plain pid addr count) tells goes (λ frames. refl)
    (λ world stands.
    let plain = world.plain in
    let memory = memory_of plain.table pid in
    let serves = was_mapped (is_mapped_range memory start n) (loaded memory start n) bytes (takes world stands) in
    ap (λ k. in_range script plain pid addr k (replied script plain pid (Bytes (loaded memory (count_of addr) k)))) (sym is)
    ∙ range_serves script plain pid addr start n true (replied script plain pid (Bytes (loaded memory (count_of addr) n))) begins serves.0
    ∙ ap (λ list. replied script plain pid (Bytes list)) (sym (loaded_at memory start (count_of addr) n begins) ∙ sym serves.1))
