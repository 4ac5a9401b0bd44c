-- What an answer leads to, where the heap is as it was.
use Rattle.std.proofs.Common.{◌≡◌, ℕ, refl, ap, sym, ◌∙◌, subst}
use Rattle.kabi_types.specs.declared.calls.Call.{Call}
use Rattle.kabi_types.specs.declared.replies.Reply.{Reply}
use Rattle.kabi_types.specs.declared.scripts.Script.{Script}
use Rattle.kheap_slabs.specs.Heap.{Heap}
use Rattle.open_laws.specs.Open.{HaveFronts}
use Rattle.open_laws.specs.Placed.{Numbers}
use Rattle.posix_defs.specs.Account.{Account, forget_dead, fronts_after, pipe_lengths, socket_lengths}
use Rattle.posix_defs.specs.Answer.{Answer, Blocked, replied}
use Rattle.posix_defs.specs.Memory.{Frames}
use Rattle.posix_defs.specs.MemoryCalls.{frames_after}
use Rattle.posix_defs.specs.Plain.{Plain}
use Rattle.posix_defs.specs.declared.turner.Turned.TheVariants as turned
use Rattle.proc_numbers.specs.Having.{HaveOpen}
use Rattle.proc_table.specs.Accounting.{HasAccount}
use Rattle.proc_table.specs.Table.{TableView}
use Rattle.proc_numbers.specs.Standing.{IsKept, Leads, StandsFor}
use Rattle.proc_numbers.proofs.FrontsMoved.{pipe_fronts, socket_fronts}
use Rattle.proc_numbers.proofs.Settled.{forgotten}

-- the fronts stay where nothing changes
pub fronts_settled : (numbers : Numbers) (h : Heap) (kept : TableView) (plain : Plain) (account : Account) (frames : Frames) → HaveOpen numbers h kept plain.files → HaveFronts numbers h account
    → HaveFronts numbers h (record {
      frames = frames;
      pipes = fronts_after (pipe_lengths plain.files) (pipe_lengths plain.files) account.pipes;
      sockets = fronts_after (socket_lengths plain.files) (socket_lengths plain.files) account.sockets;
    })
fronts_settled numbers h kept plain account frames have fronts = record {
  pipes = pipe_fronts numbers h plain.files plain.files account refl have.opened.piped fronts.pipes;
  socks = socket_fronts numbers h h plain.files plain.files account refl refl have.opened.socketed fronts.socks;
}

module _ (script : Script) (numbers : Numbers) (h : Heap) (kept : TableView) (plain : Plain) (account : Account) (pid : ℕ) (which : Call) (is : IsKept h kept)
    (stands : StandsFor numbers h kept plain account) where
  -- the call is over, and changed nothing
  pub leads_nowhere : (said : Reply) → frames_after account.frames pid which said ≡ account.frames
      → Leads script numbers h kept plain account pid which (replied script plain pid said) (turned.Done said)
  leads_nowhere said same = record {
    next = plain;
    told_so = refl;
    stands = record {
      table = stands.table;
      opened = stands.opened;
      frames = subst (HasAccount h kept) (sym (ap (forget_dead plain) same ∙ forgotten h kept plain account.frames is.holds stands.table stands.frames)) stands.frames;
      fronts = fronts_settled numbers h kept plain account (forget_dead plain (frames_after account.frames pid which said)) stands.opened stands.fronts;
    };
    controls = refl;
  }

  -- it would block
  pub leads_to_sleep : Leads script numbers h kept plain account pid which Blocked turned.Sleep
  leads_to_sleep = record { next = plain; told_so = (refl, refl); stands = stands; controls = refl }

  -- an answer that is such a reply
  pub leads_over : (answer : Answer) (said : Reply) → answer ≡ replied script plain pid said → frames_after account.frames pid which said ≡ account.frames
      → Leads script numbers h kept plain account pid which answer (turned.Done said)
  leads_over answer said is same = subst (λ a. Leads script numbers h kept plain account pid which a (turned.Done said)) (sym is) (leads_nowhere said same)
