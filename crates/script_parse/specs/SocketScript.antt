-- A worked example: a process asks for a socket.
use Rattle.std.specs.Prelude.{ℕ, List, [], ◌∷◌, None, Some, codes}
use Rattle.kabi_types.specs.declared.calls.CallKind.TheVariants as kind
use Rattle.kabi_types.specs.declared.scripts.Chooser.TheVariants.{Plain}
use Rattle.kabi_types.specs.declared.scripts.Policy.TheVariants.{Heaviest}
use Rattle.kabi_types.specs.declared.scripts.Script.{Script}
use Rattle.kabi_types.specs.declared.scripts.Statement.{Statement}
use Rattle.kabi_types.specs.declared.scripts.Statement.TheVariants.{Invoke}

abbrev pub socket_text : List ℕ
socket_text = codes "program init\nr1 = socket\nend\n"

abbrev pub socket_body : List Statement
socket_body = Invoke kind.Socket [] [] (Some 1) None ∷ []

-- the script that this text says
abbrev pub socket_script : Script
socket_script = record {
  heap = 65536;
  disk = 64;
  steps = 1000;
  policy = Heaviest;
  chooser = Plain;
  programs = record { name = codes "init"; body = socket_body } ∷ [];
}
