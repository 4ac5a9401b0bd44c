-- The lines of a report, and the line of a text that is no script.
use Rattle.std.specs.Prelude.{ℕ, ◌+◌, ◌/◌, ◌%◌, ◌==◌, false, if◌then◌else◌, List, [], ◌∷◌, ◌++◌, length, Option, None, Some, codes, decimal}
use Rattle.std.specs.Fmt.{digits, signed_decimal}
use Rattle.std.specs.List.{flat_map}
use Rattle.kabi_types.specs.Words.{word_of}
use Rattle.kabi_types.specs.Errno.{name_of}
use Rattle.kabi_types.specs.declared.calls.CallKind.{CallKind}
use Rattle.kabi_types.specs.declared.entries.Cached.{Cached}
use Rattle.kabi_types.specs.declared.entries.Cached.TheVariants as cached
use Rattle.kabi_types.specs.declared.entries.End.{End}
use Rattle.kabi_types.specs.declared.entries.End.TheVariants as end
use Rattle.kabi_types.specs.declared.entries.Entry.{Entry}
use Rattle.kabi_types.specs.declared.entries.Entry.TheVariants as entry
use Rattle.kabi_types.specs.declared.entries.Event.{Event}
use Rattle.kabi_types.specs.declared.entries.Event.TheVariants as event
use Rattle.kabi_types.specs.declared.entries.Noted.{Noted}
use Rattle.kabi_types.specs.declared.replies.NodeKind.{NodeKind}
use Rattle.kabi_types.specs.declared.replies.NodeKind.TheVariants as node
use Rattle.kabi_types.specs.declared.replies.Reply.{Reply}
use Rattle.kabi_types.specs.declared.replies.Reply.TheVariants as reply
use Rattle.kabi_types.specs.declared.scripts.FaultKind.{FaultKind}
use Rattle.kabi_types.specs.declared.scripts.FaultKind.TheVariants as wrong
use Rattle.kabi_types.specs.declared.scripts.ScriptFault.{ScriptFault}
use Rattle.posix_defs.specs.CoreRun.{peak_of}

-- a newline
abbrev pub newline : List ℕ
newline = 10 ∷ []

-- one space
abbrev pub blank : List ℕ
blank = 32 ∷ []

-- a pid, with a letter before it
abbrev pub pid_text : ℕ → List ℕ
pid_text pid = codes "p" ++ decimal pid

-- a wait status: a signal ends a process with its number, an exit with 256 times what it tells
abbrev pub status_text : ℕ → List ℕ
status_text status = if status % 256 == 0 then codes "exit " ++ decimal (status / 256) else codes "signal " ++ decimal status

-- the word of a node's kind
abbrev pub node_text : NodeKind → List ℕ
node_text node.File = codes "file"
node_text node.Dir = codes "dir"
node_text node.Sock = codes "sock"
node_text node.Pipe = codes "pipe"
node_text node.Fifo = codes "fifo"

-- a byte as two hexadecimal digits
abbrev pub hex_byte : ℕ → List ℕ
hex_byte byte = digits 16 false (byte / 16) ++ digits 16 false (byte % 16)

-- a reply: numbers in decimal, a wait status as exit or signal, bytes in hexadecimal behind an x, a failure by its errno's name
abbrev pub reply_text : Reply → List ℕ
reply_text (reply.Val n) = signed_decimal n
reply_text (reply.Pair a b) = decimal a ++ blank ++ decimal b
reply_text (reply.Stat info) = node_text info.kind ++ blank ++ decimal info.number ++ blank ++ decimal info.nlink ++ blank ++ decimal info.size
reply_text (reply.Waited pid status) = decimal pid ++ blank ++ status_text status
reply_text (reply.Polled polled) = decimal polled.hits ++ codes " revents" ++ flat_map (λ events. blank ++ decimal events) polled.revents
reply_text (reply.Bytes bytes) = codes "x" ++ flat_map hex_byte bytes
reply_text (reply.Fail errno) = name_of errno

-- the word of a cache, by what it keeps
abbrev pub cache_text : Cached → List ℕ
cache_text cached.Name = codes "name"
cache_text cached.Block = codes "block"
cache_text cached.Vnode = codes "vnode"

-- who did what of which call
abbrev pub call_text : ℕ → List ℕ → CallKind → List ℕ
call_text pid did kind = pid_text pid ++ did ++ word_of kind

-- an entry of a history
abbrev pub entry_text : Entry → List ℕ
entry_text (entry.Done pid kind reply) = call_text pid (codes " done ") kind ++ codes " = " ++ reply_text reply
entry_text (entry.Part pid kind moved) = call_text pid (codes " part ") kind ++ blank ++ decimal moved
entry_text (entry.Refused pid kind bound) = call_text pid (codes " refused ") kind ++ codes " bound " ++ decimal bound ++ codes " = ENOMEM"
entry_text (entry.Slept pid kind) = call_text pid (codes " sleep ") kind
entry_text (entry.Ended pid _ status) = pid_text pid ++ codes " ended " ++ status_text status
entry_text (entry.Gone pid kind) = call_text pid (codes " gone ") kind
entry_text (entry.Killed pid waiter need live) = pid_text pid ++ codes " killed for " ++ pid_text waiter ++ codes " need " ++ decimal need ++ codes " live " ++ decimal live
entry_text (entry.Evicted what) = codes "evict " ++ cache_text what

-- the word of the call that an event speaks of
abbrev pub kind_text : Option CallKind → List ℕ
kind_text None = []
kind_text (Some kind) = word_of kind

-- an event that adds no entry: a turn, an eviction and a kill always add theirs
abbrev pub event_text : Event → List ℕ → ℕ → List ℕ
event_text (event.Ask pid) word bound = pid_text pid ++ codes " ask " ++ word ++ codes " bound " ++ decimal bound
event_text (event.Admit pid) word bound = pid_text pid ++ codes " admit " ++ word ++ codes " bound " ++ decimal bound
event_text (event.Wake pid) word bound = pid_text pid ++ codes " wake " ++ word ++ codes " bound " ++ decimal bound
event_text (event.Abandon pid) word bound = pid_text pid ++ codes " abandon " ++ word
event_text (event.Turn pid) word bound = []
event_text (event.Evict what) word bound = []
event_text (event.Kill pid) word bound = []

-- what an event's line tells: the entry that it adds to the history, or the event itself where it adds none
abbrev pub told_text : Option Entry → Noted → List ℕ
told_text None noted = event_text noted.event (kind_text noted.kind) noted.bound
told_text (Some entry) noted = entry_text entry

-- the line of an event: its number from 1, what happened, and what is charged after it
abbrev pub event_line : ℕ → Noted → List ℕ
event_line j noted = decimal j ++ blank ++ told_text noted.entry noted ++ codes " charged " ++ decimal noted.charged ++ newline

-- the lines of a run, whose first event has this number
abbrev pub event_lines : ℕ → List Noted → List ℕ
event_lines j [] = []
event_lines j (noted ∷ run) = event_line j noted ++ event_lines (j + 1) run

-- how a run ended; of one that starved also whose call waits in vain, and its need in bytes
abbrev pub end_text : End → List ℕ
end_text end.Finished = codes "finished"
end_text (end.Starved pid need) = codes "starved " ++ pid_text pid ++ codes " need " ++ decimal need
end_text end.AllAsleep = codes "asleep"
end_text end.Spent = codes "spent"

-- the end line: how the run ended, its events, what is charged, what was charged at most, and the blocks read
abbrev pub end_line : End → ℕ → ℕ → ℕ → ℕ → List ℕ
end_line end events charged peak reads =
    codes "end " ++ end_text end ++ codes " events " ++ decimal events ++ codes " charged " ++ decimal charged
    ++ codes " peak " ++ decimal peak ++ codes " reads " ++ decimal reads ++ newline

-- the line of an entry of a history: its number from 1, and what happened
abbrev pub entry_line : ℕ → Entry → List ℕ
entry_line j entry = decimal j ++ blank ++ entry_text entry ++ newline

-- the end line of a history, of which nobody knows what was charged at most
abbrev pub end_line_threads : End → ℕ → ℕ → ℕ → List ℕ
end_line_threads end entries charged reads =
    codes "end " ++ end_text end ++ codes " entries " ++ decimal entries ++ codes " charged " ++ decimal charged
    ++ codes " reads " ++ decimal reads ++ newline

-- the report of a run that ended so
abbrev pub report : List Noted → End → ℕ → ℕ → List ℕ
report run end charged reads = event_lines 1 run ++ end_line end (length run) charged (peak_of run) reads

-- what is wrong with a line
abbrev pub fault_text : FaultKind → List ℕ
fault_text wrong.NotUtf8 = codes "not utf-8"
fault_text wrong.UnknownWord = codes "unknown word"
fault_text wrong.BadNumber = codes "bad number"
fault_text wrong.OutOfRange = codes "out of range"
fault_text wrong.NoSuchLabel = codes "no such label"
fault_text wrong.WrongWay = codes "wrong way"
fault_text wrong.TwiceDefined = codes "twice defined"
fault_text wrong.Unended = codes "unended"
fault_text wrong.NoInit = codes "no init"
fault_text wrong.TooLong = codes "too long"

-- the line that is written for a text that is no script
abbrev pub fault_line : ScriptFault → List ℕ
fault_line fault = codes "bad script: line " ++ decimal fault.line ++ codes ": " ++ fault_text fault.what ++ newline
