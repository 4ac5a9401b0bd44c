-- When a space stands for the memory of a process and for what the account says of it.
use Rattle.std.specs.Prelude.{◌≡◌, ℕ, List, Option, length}
use Rattle.posix_defs.specs.Memory.{Memory, Frames}
use Rattle.kheap_slabs.specs.Heap.{Heap}
use Rattle.page_space.specs.Accounts.{IsAccounted}
use Rattle.page_space.specs.Contents.{StandsFor}

-- Each page of the space has the bytes of the memory, and it is the process's by the account: at a page it names a Page
-- where the account names a frame, whose number is that of the Page.
pub record HoldsMemory (h : Heap) (number : ℕ → ℕ) (frames : Frames) (pid : ℕ) (space : List (Option ℕ)) (memory : Memory) : Type 0 where
  pub bytes : StandsFor h space memory
  pub pages : length memory ≡ 256
  pub account : IsAccounted h number frames pid space
