-- A worked example: a process asks for its pid and ends, on a heap of 8192 bytes.
use Rattle.std.specs.Prelude.{ℕ, ℤ, pos, List, [], ◌∷◌, Option, None, Some, codes}
use Rattle.kabi_types.specs.declared.calls.CallKind.{CallKind}
use Rattle.kabi_types.specs.declared.calls.CallKind.TheVariants as kind
use Rattle.kabi_types.specs.declared.entries.Entry.{Entry}
use Rattle.kabi_types.specs.declared.entries.Entry.TheVariants as entry
use Rattle.kabi_types.specs.declared.entries.Event.{Event}
use Rattle.kabi_types.specs.declared.entries.Event.TheVariants.{Ask, Admit, Turn}
use Rattle.kabi_types.specs.declared.entries.Noted.{Noted}
use Rattle.kabi_types.specs.declared.replies.Reply.TheVariants.{Val}
use Rattle.kabi_types.specs.declared.scripts.Chooser.TheVariants.{Plain}
use Rattle.kabi_types.specs.declared.scripts.Operand.TheVariants.{Number}
use Rattle.kabi_types.specs.declared.scripts.Policy.TheVariants.{Heaviest}
use Rattle.kabi_types.specs.declared.scripts.Script.{Script}
use Rattle.kabi_types.specs.declared.scripts.Statement.{Statement}
use Rattle.kabi_types.specs.declared.scripts.Statement.TheVariants.{Invoke}

-- the text of the script: a heap of 8192 bytes, and a program of two statements
abbrev pub first_text : List ℕ
first_text = codes "heap 8192\nprogram init\nr1 = getpid\nexit 0\nend\n"

-- its two statements
abbrev pub first_body : List Statement
first_body = Invoke kind.Getpid [] [] (Some 1) None ∷ Invoke kind.Exit (Number (pos 0) ∷ []) [] None None ∷ []

-- the script that this text says: what it doesn't set has its default
abbrev pub first_script : Script
first_script = record {
  heap = 8192;
  disk = 64;
  steps = 1000;
  policy = Heaviest;
  chooser = Plain;
  programs = record { name = codes "init"; body = first_body } ∷ [];
}

-- what is noted of an event of a call whose bound is 0
abbrev pub noted : Event → CallKind → Option Entry → ℕ → Noted
noted event kind entry charged = record { event = event; kind = Some kind; entry = entry; bound = 0; charged = charged }

-- the call's two first events, and its third where it tells a pid
abbrev pub pid_run : ℕ → ℤ → List Noted
pid_run charged pid =
    noted (Ask 1) kind.Getpid None charged
    ∷ noted (Admit 1) kind.Getpid None 2816
    ∷ noted (Turn 1) kind.Getpid (Some (entry.Done 1 kind.Getpid (Val pid))) 2816
    ∷ []

-- all six events of the run
abbrev pub first_run : List Noted
first_run =
    noted (Ask 1) kind.Getpid None 2816
    ∷ noted (Admit 1) kind.Getpid None 2816
    ∷ noted (Turn 1) kind.Getpid (Some (entry.Done 1 kind.Getpid (Val (pos 1)))) 2816
    ∷ noted (Ask 1) kind.Exit None 2816
    ∷ noted (Admit 1) kind.Exit None 2816
    ∷ noted (Turn 1) kind.Exit (Some (entry.Ended 1 kind.Exit 0)) 2304
    ∷ []

-- what is written of that run: its six event lines and its end line
abbrev pub first_report : List ℕ
first_report = codes "1 p1 ask getpid bound 0 charged 2816\n2 p1 admit getpid bound 0 charged 2816\n3 p1 done getpid = 1 charged 2816\n4 p1 ask exit bound 0 charged 2816\n5 p1 admit exit bound 0 charged 2816\n6 p1 ended exit 0 charged 2304\nend finished events 6 charged 2304 peak 2816 reads 0\n"
