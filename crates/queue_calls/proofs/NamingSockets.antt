-- No call on sockets without a name gives a key of the heap another one.
use Rattle.std.proofs.Common.{◌≡◌, ℕ, sym, subst}
use Rattle.kabi_types.specs.declared.replies.Reply.{Reply}
use Rattle.kabi_types.specs.declared.scripts.Script.{Script}
use Rattle.kheap_slabs.specs.Heap.{Heap}
use Rattle.store_objects.proofs.Leaving.{files_in}
use Rattle.queue_calls.proofs.Performing.{files_told, stay_told}
use Rattle.queue_calls.proofs.Staying.{Stay}
use Rattle.open_laws.specs.Placed.{Numbers}
use Rattle.posix_defs.specs.Answer.{Answer}
use Rattle.posix_defs.specs.Plain.{Plain}
use Rattle.posix_defs.specs.World.{World}
use Rattle.proc_numbers.specs.Having.{HaveOpen}
use Rattle.proc_files.specs.Names.{name_of}
use Rattle.proc_files.proofs.Anew.{names_anew}
use Rattle.proc_files.proofs.GoesOn.{names_on}
use Rattle.proc_numbers.specs.Answering.{Answers}
use Rattle.proc_numbers.specs.PipeOpening.{AnswersAnew}
use Rattle.proc_numbers.specs.SocketOpening.{StillUsed}
use Rattle.store_objects.specs.declared.objects.Objects.{Objects}
use Rattle.store_objects.specs.Standing.{StandsFor}

module _ (script : Script) (old : Objects) (heap : Heap) (pid : ℕ) (said : Reply) (answer : Plain → Answer) (leaves : (plain : Plain) → Stay plain (answer plain))
    (some : (world : World) × StandsFor script old world) where
  abbrev plain : Plain
  plain = some.0.plain

  -- by the numbers that there were
  pub names_told : ((numbers : Numbers) (plain : Plain) → HaveOpen numbers old.heap old.procs plain.files → Answers numbers heap old.procs script plain pid (answer plain) said) → (key : ℕ)
      → name_of heap.socks key ≡ name_of old.heap.socks key
  names_told answers =
      let have = some.1.files in
      names_on have.numbers old.heap heap old.procs plain.files (files_in plain.files (answer plain)) some.1.kept.owners have.opened
      (λ n keeps opened.
      let it = answers n plain opened in
      subst (HaveOpen n heap old.procs) (sym (files_told script plain it.files pid (answer plain) said it.replies)) it.stands)
      (leaves plain).names

  -- where what is new has numbers
  pub names_made : StillUsed old.heap heap
      → ((numbers : Numbers) (plain : Plain) → HaveOpen numbers old.heap old.procs plain.files → AnswersAnew numbers old.heap heap old.procs script plain pid (answer plain) said) → (key : ℕ)
      → name_of heap.socks key ≡ name_of old.heap.socks key
  names_made still answers =
      let have = some.1.files in
      let anew = answers have.numbers plain have.opened in
      let it = anew.answers in
      let stay = stay_told script plain it.files pid (answer plain) said it.replies (leaves plain) in
      names_anew have.numbers anew.now old.heap heap old.procs plain.files it.files have.opened it.stands anew.keeps still stay.names
