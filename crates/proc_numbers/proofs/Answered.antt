-- What the machine answers to a call on descriptors, by what a number names in the heap.
use Rattle.std.proofs.Common.{◌≡◌, ◌≢◌, ℕ, zero, suc, ℤ, pos, true, false, cond, None, Some, refl, ap, sym, ◌∙◌, ne_eqb, eq-eqb}
use Rattle.std.specs.Option.{option_map}
use Rattle.kabi_types.specs.Arguments.{count_of, may_be_descriptor}
use Rattle.kabi_types.specs.declared.errnos.Errno.{Errno}
use Rattle.kabi_types.specs.declared.errnos.Errno.TheVariants.{EBADF, EINVAL}
use Rattle.kabi_types.specs.declared.replies.Reply.{Reply}
use Rattle.kabi_types.specs.declared.replies.Reply.TheVariants.{Fail, Val}
use Rattle.kabi_types.specs.declared.scripts.Script.{Script}
use Rattle.kheap_slabs.specs.Objects.{object}
use Rattle.kheap_slabs.specs.declared.objects.Desc.{Desc}
use Rattle.kheap_slabs.specs.declared.objects.Descriptor.{Descriptor as HeldDescriptor}
use Rattle.kheap_slabs.specs.Heap.{Heap}
use Rattle.open_laws.specs.Described.{counted_in}
use Rattle.open_laws.specs.Open.{descriptor_by}
use Rattle.open_laws.specs.Placed.{Numbers}
use Rattle.posix_defs.specs.Answer.{Answer, failed, replied}
use Rattle.posix_defs.specs.Calls.OnDescriptors.{controlled, dup2, duplicated_to, fcntl, shared_at}
use Rattle.posix_defs.specs.Calls.Opened.{Opened, answer_on, opened_at}
use Rattle.posix_defs.specs.Files.Closing.{after_close}
use Rattle.posix_defs.specs.Files.Descriptors.{has_cloexec, is_cloexec}
use Rattle.posix_defs.specs.Files.State.{descriptors_of}
use Rattle.posix_defs.specs.Plain.{Plain, with_files}
use Rattle.proc_table.specs.Table.{TableView}
use Rattle.proc_numbers.specs.Having.{HaveOpen}
use Rattle.proc_numbers.specs.Naming.{named_by}
use Rattle.proc_numbers.proofs.NumberNames.{descriptor_at_is, opened_nothing, opened_so}
use Rattle.proc_numbers.specs.Answering.{Answers}
use Rattle.proc_numbers.proofs.Changes.{named_count}

-- a call that fails
pub refused : (numbers : Numbers) (h : Heap) (kept : TableView) (script : Script) (plain : Plain) (pid : ℕ) (answer : Answer) (errno : Errno)
    → answer ≡ failed script plain pid errno → HaveOpen numbers h kept plain.files → Answers numbers h kept script plain pid answer (Fail errno)
refused numbers h kept script plain pid answer errno is have = record { files = plain.files; replies = is; stands = have }

-- the answer in another form
pub answers_as : (numbers : Numbers) (h : Heap) (kept : TableView) (script : Script) (plain : Plain) (pid : ℕ) (one other : Answer) (reply : Reply)
    → one ≡ other → Answers numbers h kept script plain pid other reply → Answers numbers h kept script plain pid one reply
answers_as numbers h kept script plain pid one other reply same answers = record { files = answers.files; replies = same ∙ answers.replies; stands = answers.stands }

module _ (numbers : Numbers) (h : Heap) (kept : TableView) (script : Script) (plain : Plain) (pid : ℕ) (have : HaveOpen numbers h kept plain.files) (fd : ℤ) where
  -- EBADF of a number that isn't open
  pub on_nothing : (answer : Opened → Answer) → named_by h kept pid fd ≡ None → answer_on script plain pid answer (opened_at plain.files pid fd) ≡ failed script plain pid EBADF
  on_nothing answer none = ap (answer_on script plain pid answer) (opened_nothing numbers h kept plain.files pid have fd none)

  module _ (held : HeldDescriptor) (desc : Desc) (is : named_by h kept pid fd ≡ Some held) (found : object h.descs held.desc ≡ Some desc) where
    -- what the number names in the machine
    abbrev pub named_there : Opened
    named_there = record { place = numbers.descs held.desc; is = (counted_in numbers desc).is }

    pub on_it : (answer : Opened → Answer) → answer_on script plain pid answer (opened_at plain.files pid fd) ≡ answer named_there
    on_it answer = ap (answer_on script plain pid answer) (opened_so numbers h kept plain.files pid have fd held desc is found)

    module _ (to : ℤ) where
      -- a number that no descriptor has
      pub dup2_beyond : may_be_descriptor to ≡ false → dup2 script plain pid fd to ≡ failed script plain pid EBADF
      unfolding dup2
      dup2_beyond beyond =
          on_it (λ opened. cond (may_be_descriptor to) (duplicated_to script plain pid opened (count_of fd) (count_of to)) (failed script plain pid EBADF))
          ∙ ap (λ b. cond b (duplicated_to script plain pid named_there (count_of fd) (count_of to)) (failed script plain pid EBADF)) beyond

      -- one that a descriptor may have
      dup2_within : may_be_descriptor to ≡ true → dup2 script plain pid fd to ≡ duplicated_to script plain pid named_there (count_of fd) (count_of to)
      unfolding dup2
      dup2_within within =
          on_it (λ opened. cond (may_be_descriptor to) (duplicated_to script plain pid opened (count_of fd) (count_of to)) (failed script plain pid EBADF))
          ∙ ap (λ b. cond b (duplicated_to script plain pid named_there (count_of fd) (count_of to)) (failed script plain pid EBADF)) within

      -- the same number
      pub dup2_same : may_be_descriptor to ≡ true → count_of fd ≡ count_of to → dup2 script plain pid fd to ≡ replied script plain pid (Val (pos (count_of to)))
      dup2_same within same =
          dup2_within within
          ∙ ap (λ b. cond b (replied script plain pid (Val (pos (count_of to))))
          (replied script (with_files plain (shared_at (after_close plain.files pid (count_of to)) pid named_there (count_of to))) pid (Val (pos (count_of to)))))
          (eq-eqb (count_of fd) (count_of to) same)

      -- another
      pub dup2_other : may_be_descriptor to ≡ true → count_of fd ≢ count_of to
          → dup2 script plain pid fd to ≡ replied script (with_files plain (shared_at (after_close plain.files pid (count_of to)) pid named_there (count_of to))) pid (Val (pos (count_of to)))
      dup2_other within apart =
          dup2_within within
          ∙ ap (λ b. cond b (replied script plain pid (Val (pos (count_of to))))
          (replied script (with_files plain (shared_at (after_close plain.files pid (count_of to)) pid named_there (count_of to))) pid (Val (pos (count_of to)))))
          (ne_eqb (count_of fd) (count_of to) apart)

    module _ (cmd arg : ℤ) where
      -- a command, by its number
      pub fcntl_is : (n : ℕ) → count_of cmd ≡ n → fcntl script plain pid fd cmd arg ≡ controlled script plain pid (count_of fd) n arg named_there
      unfolding fcntl
      fcntl_is n is =
          on_it (controlled script plain pid (count_of fd) (count_of cmd) arg) ∙ ap (λ k. controlled script plain pid (count_of fd) k arg named_there) is

      -- one that isn't there
      pub fcntl_unknown : (n : ℕ) → count_of cmd ≡ n → n ≢ 0 → n ≢ 1 → n ≢ 2 → n ≢ 3 → n ≢ 4 → fcntl script plain pid fd cmd arg ≡ failed script plain pid EINVAL
      fcntl_unknown n is none one two three four = fcntl_is n is ∙ unknown n none one two three four
        where
          unknown : (k : ℕ) → k ≢ 0 → k ≢ 1 → k ≢ 2 → k ≢ 3 → k ≢ 4 → controlled script plain pid (count_of fd) k arg named_there ≡ failed script plain pid EINVAL
          unknown zero a b c d e = absurd (a refl)
          unknown (suc zero) a b c d e = absurd (b refl)
          unknown (suc (suc zero)) a b c d e = absurd (c refl)
          unknown (suc (suc (suc zero))) a b c d e = absurd (d refl)
          unknown (suc (suc (suc (suc zero)))) a b c d e = absurd (e refl)
          unknown (suc (suc (suc (suc (suc _))))) a b c d e = refl

    -- the number's descriptor in the machine
    pub cloexec_is : is_cloexec (descriptors_of plain.files pid) (count_of fd) ≡ held.close_on_exec
    cloexec_is =
        ap has_cloexec
        (descriptor_at_is numbers h kept plain.files pid have (count_of fd)
        ∙ ap (option_map (descriptor_by numbers.descs)) (sym (named_count h kept pid fd held is) ∙ is))
