-- What descriptors that name one description see of each other.
use Rattle.std.specs.Prelude.{ℕ, ◌+◌, ◌≡◌, ℤ, pos, None, Some}
use Rattle.kabi_types.specs.declared.replies.Reply.TheVariants.{Val}
use Rattle.posix_defs.specs.Answer.{Answer, Done}
use Rattle.posix_defs.specs.Plain.{Plain}
use Rattle.posix_defs.specs.Files.Descriptions.{at_offset}
use Rattle.posix_defs.specs.Calls.Opened.{Opened, opened_at}

-- A descriptor that was free names what another does, which still names it: the same description, at the same place.
abbrev pub SharesTold : Plain → ℕ → ℤ → Opened → Answer → Type 0
SharesTold plain pid fd opened (Done (Val (pos to)) next) =
    (opened_at plain.files pid (pos to) ≡ None) × (opened_at next.files pid (pos to) ≡ Some opened) × (opened_at next.files pid fd ≡ Some opened)
SharesTold plain pid fd opened _ = Unit {0}

-- Each descriptor of the child that is told names what its parent's names, which names it still.
abbrev pub InheritsTold : Plain → ℕ → Answer → Type 0
InheritsTold plain pid (Done (Val (pos child)) next) =
    (fd : ℤ) → (opened_at next.files child fd ≡ opened_at plain.files pid fd) × (opened_at next.files pid fd ≡ opened_at plain.files pid fd)
InheritsTold plain pid _ = Unit {0}

-- A process's descriptor sees the description so many bytes behind a place as are told.
abbrev pub SeesTold : ℕ → ℤ → Opened → ℕ → Answer → Type 0
SeesTold pid fd opened from (Done (Val (pos told)) next) =
    opened_at next.files pid fd ≡ Some (record { place = opened.place; is = at_offset opened.is (from + told) })
SeesTold pid fd opened from _ = Unit {0}
