-- Who holds a socket of the heap.
use Rattle.std.specs.Prelude.{ℕ, ◌≡◌, ◌<◌, Some}
use Rattle.std.specs.List.{Contains}
use Rattle.kheap_slabs.specs.Objects.{object}
use Rattle.kheap_slabs.specs.declared.objects.Desc.{Desc}
use Rattle.kheap_slabs.specs.declared.objects.Sock.{Sock}
use Rattle.kheap_slabs.specs.declared.objects.Target.TheVariants as target
use Rattle.kheap_slabs.specs.Heap.{Heap}
use Rattle.kheap_slabs.specs.Spaces.{keys_in}
use Rattle.open_laws.specs.Owned.{all_namings}

-- some process has a number open on it
pub record IsOpenIn (h : Heap) (socket : ℕ) : Type 0 where
  pub key : ℕ
  pub desc : Desc
  pub there : object h.descs key ≡ Some desc
  pub on : desc.target ≡ target.Sock socket
  pub named : 0 < all_namings h key

-- it waits for another to take it
pub record WaitsIn (h : Heap) (socket : ℕ) : Type 0 where
  pub listener : ℕ
  pub sock : Sock
  pub there : object h.socks listener ≡ Some sock
  pub waits : Contains (keys_in sock.waiting) socket
