-- `poll`: what several descriptors are ready for.
use Rattle.std.specs.Prelude.{ℕ, ◌+◌, ◌==◌, ◌&&◌, not, ℤ, pos, negsuc, if◌then◌else◌, List, map, Option, None, Some}
use Rattle.std.specs.List.{count_by}
use Rattle.kabi_types.specs.Arguments.{is_minus_one}
use Rattle.kabi_types.specs.declared.replies.Reply.TheVariants.{Polled}
use Rattle.kabi_types.specs.declared.short_lists.PollEntry.{PollEntry}
use Rattle.kabi_types.specs.declared.scripts.Script.{Script}
use Rattle.posix_defs.specs.Pipe.{is_asked, polled_to_read, polled_to_write}
use Rattle.posix_defs.specs.Sockets.{sock_polled}
use Rattle.posix_defs.specs.Plain.{Plain}
use Rattle.posix_defs.specs.Answer.{Answer, Blocked, replied}
use Rattle.posix_defs.specs.Files.Descriptions.{Target, OnNode, OnPipe, OnSocket, Description, may_write}
use Rattle.posix_defs.specs.Files.State.{Files, pipe_at}
use Rattle.posix_defs.specs.Calls.Opened.{Opened, opened_at}

-- a file and a directory are always ready for what is asked of POLLIN and POLLOUT
abbrev pub polled_node : ℤ → ℕ
polled_node events = (if is_asked events 1 then 1 else 0) + (if is_asked events 4 then 4 else 0)

-- what poll tells of what is open: of a pipe by the end that the description has
abbrev pub polled_target : Files → Description → ℤ → Target → ℕ
polled_target files description events (OnNode number) = polled_node events
polled_target files description events (OnPipe place) =
    if may_write description.access then polled_to_write (pipe_at files place) events else polled_to_read (pipe_at files place) events
polled_target files description events (OnSocket place) = sock_polled files.sockets place events

-- POLLNVAL for a descriptor that isn't open
abbrev pub polled_opened : Files → ℤ → Option Opened → ℕ
polled_opened files events None = 32
polled_opened files events (Some opened) = polled_target files opened.is events opened.is.target

-- nothing for a descriptor below 0
abbrev pub polled_at : Files → ℕ → ℤ → ℤ → ℕ
polled_at files pid (pos fd) events = polled_opened files events (opened_at files pid (pos fd))
polled_at files pid (negsuc _) events = 0

-- what each entry is told
abbrev pub revents_of : Files → ℕ → List PollEntry → List ℕ
revents_of files pid entries = map (λ entry. polled_at files pid entry.fd entry.events) entries

-- how many are told something
abbrev pub hits_of : List ℕ → ℕ
hits_of revents = count_by (λ events. not (events == 0)) revents

-- the hits and what each entry is told; with no hit timeout -1 blocks, and timeout 0 tells that
abbrev pub polled : Script → Plain → ℕ → ℤ → List ℕ → Answer
polled script plain pid timeout revents =
    if (hits_of revents == 0) && is_minus_one timeout then Blocked
    else replied script plain pid (Polled (record { hits = hits_of revents; revents = revents }))

-- what each entry is ready for; with timeout -1 it waits until one is (POSIX poll)
unfoldable pub poll : Script → Plain → ℕ → ℤ → List PollEntry → Answer
poll script plain pid timeout entries = polled script plain pid timeout (revents_of plain.files pid entries)
