-- What is told of a descriptor is what the machine tells.
use Rattle.std.proofs.Common.{◌≡◌, ◌≢◌, ℕ, ℤ, pos, negsuc, zero, suc, ◌+◌, ◌-◌, ◌<◌, ◌&&◌, ◌||◌, Bool, true, false, List, [], ◌∷◌, map, length, get_or, cond, Option, None, Some, IsSome, unwrap_or, refl, sym, ap, subst, ◌∙◌, arith}
use Rattle.std.specs.Prelude.{nat_lt}
use Rattle.std.specs.Option.{option_map}
use Rattle.std.proofs.lemmas.List.{length-map}
use Rattle.kheap_slabs.specs.Objects.{object, InUse}
use Rattle.kheap_slabs.proofs.ObjectLemmas.{object_of}
use Rattle.kheap_slabs.specs.declared.objects.Desc.{Desc}
use Rattle.kheap_slabs.specs.declared.objects.Descriptor.{Descriptor as HeldDescriptor}
use Rattle.kheap_slabs.specs.declared.objects.Access.{Access as HeldAccess}
use Rattle.kheap_slabs.specs.declared.objects.Target.{Target as HeldTarget}
use Rattle.kheap_slabs.specs.declared.objects.Target.TheVariants as target
use Rattle.kheap_slabs.specs.Heap.{Heap}
use Rattle.posix_defs.specs.Pipe.{Pipe, new_pipe, is_asked, polled_to_read, polled_to_write}
use Rattle.posix_defs.specs.Socket.{Stage, Idle, Listening, Connected, Socket, is_shut_write, peer_of}
use Rattle.posix_defs.specs.Sockets.{Sockets, sock_at, socket_at, stage_at, free_at, polled_connected, polled_in_stage, sock_polled}
use Rattle.posix_defs.specs.SocketLinks.{AreLinked}
use Rattle.posix_defs.specs.Calls.Opened.{Opened, opened_by}
use Rattle.posix_defs.specs.Calls.Polling.{polled_at, polled_opened, polled_target}
use Rattle.posix_defs.specs.Files.Descriptions.{Description, description_at, may_write}
use Rattle.posix_defs.specs.Files.Descriptors.{Descriptor, Descriptors, descriptor_at, descriptor_of}
use Rattle.posix_defs.specs.Files.State.{Files, descriptors_of}
use Rattle.socket_laws.proofs.SocketLaws.{peer_there}
use Rattle.usock_core.proofs.StandingLemmas.{found}
use Rattle.open_laws.specs.Placed.{Numbers}
use Rattle.open_laws.specs.Described.{Counted, CountedList, access_in, counted_in, target_in}
use Rattle.open_laws.specs.Open.{AreOpen, descriptor_by, descriptors_by, placed_by, renumbered}
use Rattle.open_laws.specs.Polled.{IsTargetIn, IsOpenIn, TellsTarget, TellsOpen}
use Rattle.open_laws.specs.Socketed.{AreRenamed, stage_by, socket_by}
use Rattle.open_laws.proofs.DescribedLemmas.{at_place}
use Rattle.open_laws.proofs.DropLemmas.{description_in}
use Rattle.open_laws.proofs.SocketLemmas.{placed_at}

-- ---- sockets

shut_by : (number : ℕ → ℕ) (stage : Stage) → is_shut_write (stage_by number stage) ≡ is_shut_write stage
shut_by number Idle = refl
shut_by number (Listening waiting) = refl
shut_by number (Connected peer shut_read shut_write) = refl

-- what poll tells of a socket it tells of it at its place
pub polled_renamed : (number : ℕ → ℕ) (keyed sockets : Sockets) (key : ℕ) (events : ℤ) → AreLinked keyed → AreRenamed number keyed sockets → IsSome (sock_at keyed key)
    → sock_polled sockets (number key) events ≡ sock_polled keyed key events
polled_renamed number keyed sockets key events linked are used =
    ap (λ (s : Socket). polled_in_stage sockets s.stage s.bytes events) (placed_at number keyed sockets key are used)
    ∙ by_stage (stage_at keyed key) refl
  where
    bytes : List ℕ
    bytes = (socket_at keyed key).bytes

    connected : (peer : Option ℕ) → peer_of (stage_at keyed key) ≡ peer → polled_connected sockets bytes (option_map number peer) events ≡ polled_connected keyed bytes peer events
    connected None is = refl
    connected (Some peer) is =
        let its = placed_at number keyed sockets peer are (peer_there keyed key peer linked is) in
        ap (λ (s : Socket). polled_by s) its ∙ ap (λ (shut : Bool). polled_when shut (length (socket_at keyed peer).bytes)) (shut_by number (stage_at keyed peer))
      where
        polled_when : Bool → ℕ → ℕ
        polled_when shut_write there =
            cond (is_asked events 1 && (nat_lt 0 (length bytes) || shut_write)) 1 0 + cond (is_asked events 4 && nat_lt 0 (4096 - there)) 4 0

        polled_by : Socket → ℕ
        polled_by s = polled_when (is_shut_write s.stage) (length s.bytes)

    by_stage : (stage : Stage) → stage_at keyed key ≡ stage → polled_in_stage sockets (stage_by number stage) bytes events ≡ polled_in_stage keyed stage bytes events
    by_stage Idle is = refl
    by_stage (Listening waiting) is = ap (λ (n : ℕ). cond (is_asked events 1 && nat_lt 0 n) 1 0) (length-map waiting number)
    by_stage (Connected peer shut_read shut_write) is = connected peer (ap peer_of is)

-- ---- descriptors

number_at : (number : ℕ → ℕ) (descriptors : Descriptors) (fd : ℕ)
    → descriptor_at (renumbered number descriptors) fd ≡ option_map (placed_by number) (descriptor_at descriptors fd)
number_at number [] zero = refl
number_at number [] (suc fd) = refl
number_at number (first ∷ descriptors) zero = refl
number_at number (first ∷ descriptors) (suc fd) = number_at number descriptors fd

told_target : (numbers : Numbers) (h : Heap) (list : CountedList) (files : Files) (desc : Desc) (events : ℤ) (told : ℕ) → AreOpen numbers h list files → (what : HeldTarget)
    → IsTargetIn h what → TellsTarget h (access_in desc.access) events told what → told ≡ polled_target files (counted_in numbers desc).is events (target_in numbers what)
told_target numbers h list files desc events told are (target.Inode number) there tells = tells
told_target numbers h list files desc events told are (target.Pipe key) there tells =
    let is = are.piped.there key there.2.held there.2.there in
    let stands = are.piped.means key there.2.held is.0 there.2.there is.1 in
    tells is.0 stands.0 stands.1
    ∙ ap (λ (o : Option Pipe). cond (may_write (access_in desc.access)) (polled_to_write (unwrap_or o new_pipe) events) (polled_to_read (unwrap_or o new_pipe) events)) (sym is.1)
told_target numbers h list files desc events told are (target.Sock key) there tells =
    let sockets = are.socketed in
    let held = object_of h.socks key there.used in
    tells sockets.keyed sockets.stands
    ∙ sym (polled_renamed numbers.socks sockets.keyed files.sockets key events sockets.stands.linked sockets.renamed (found h sockets.keyed key held.0 sockets.stands.table held.1).there)

told_open : (numbers : Numbers) (h : Heap) (list : CountedList) (files : Files) (events : ℤ) (told : ℕ) → AreOpen numbers h list files → (o : Option Descriptor)
    → IsOpenIn h o → TellsOpen h events told o
    → told ≡ polled_opened files events (opened_by files (option_map (placed_by numbers.descs) o))
told_open numbers h list files events told are None there tells = tells
told_open numbers h list files events told are (Some descriptor) there tells =
    let desc = there.0 in
    let is : description_at files.descriptions (numbers.descs descriptor.description) ≡ Some (counted_in numbers desc).is =
    ap (λ (d : List (Option Description)). description_at d (numbers.descs descriptor.description)) are.descriptions
    ∙ (description_in list (numbers.descs descriptor.description)
    ∙ ap (option_map (λ (counted : Counted). counted.is)) (at_place numbers h.descs list descriptor.description desc there.1 are.described)) in
    told_target numbers h list files desc events told are desc.target there.2 (tells desc there.1)
    ∙ ap (λ (o : Option Description). polled_opened files events (option_map (λ (d : Description). record { place = numbers.descs descriptor.description; is = d }) o)) (sym is)

pub told_some : (numbers : Numbers) (h : Heap) (list : CountedList) (files : Files) (pid : ℕ) (descriptors : Descriptors) (n : ℕ) (fd events as_events : ℤ) (told : ℕ) → AreOpen numbers h list files
    → descriptors_of files pid ≡ renumbered numbers.descs descriptors → fd ≡ pos n → IsOpenIn h (descriptor_of descriptors fd) → TellsOpen h as_events told (descriptor_at descriptors n)
    → as_events ≡ events → told ≡ polled_at files pid fd events
told_some numbers h list files pid descriptors n fd events as_events told are same is there tells alike =
    subst (λ (z : ℤ). told ≡ polled_at files pid z events) (sym is)
    (subst (λ (e : ℤ). told ≡ polled_at files pid (pos n) e) alike
    (told_open numbers h list files as_events told are (descriptor_at descriptors n) (subst (λ (z : ℤ). IsOpenIn h (descriptor_of descriptors z)) is there) tells
    ∙ ap (λ (o : Option Descriptor). polled_opened files as_events (opened_by files o)) (sym (ap (λ (d : Descriptors). descriptor_at d n) same ∙ number_at numbers.descs descriptors n))))

-- the descriptors that a process keeps, by the places of their descriptions
pub kept_by : (number : ℕ → ℕ) (places : List (Option HeldDescriptor)) → descriptors_by number places ≡ renumbered number (descriptors_by (λ key. key) places)
kept_by number [] = refl
kept_by number (None ∷ places) = ap (λ (rest : Descriptors). None ∷ rest) (kept_by number places)
kept_by number (Some held ∷ places) = ap (λ (rest : Descriptors). Some (descriptor_by number held) ∷ rest) (kept_by number places)

-- what is told of one end of a pipe
pub told_end : (pipe : Pipe) (writing told_by : Bool) (events as_events : ℤ) (told : ℕ) → told ≡ cond writing (polled_to_write pipe as_events) (polled_to_read pipe as_events)
    → writing ≡ told_by → as_events ≡ events → told ≡ cond told_by (polled_to_write pipe events) (polled_to_read pipe events)
told_end pipe writing told_by events as_events told is by alike =
    is ∙ (ap (λ (b : Bool). cond b (polled_to_write pipe as_events) (polled_to_read pipe as_events)) by
    ∙ ap (λ (e : ℤ). cond told_by (polled_to_write pipe e) (polled_to_read pipe e)) alike)

-- nothing is told of a number below 0
pub told_none : (files : Files) (pid : ℕ) (fd events : ℤ) → (m : ℕ) × (fd ≡ negsuc m) → 0 ≡ polled_at files pid fd events
told_none files pid fd events below = ap (λ (z : ℤ). polled_at files pid z events) (sym below.1)
