-- A store has room to count one more that holds a node: its heap has no room for more processes and descriptions.
use Rattle.std.proofs.Common.{◌≡◌, ℕ, ◌+◌, ◌*◌, ◌<◌, ◌≤◌, ◌==◌, Bool, true, false, [], ◌∷◌, length, Option, None, Some, is_some, arith}
use Rattle.std.specs.Prelude.{count_by}
use Rattle.std.proofs.lemmas.List.Sums.{sum_by-cons}
use Rattle.kabi_types.specs.declared.scripts.Script.{Script}
use Rattle.kheap_slabs.specs.Heap.{IsWellFormed, live_bytes}
use Rattle.posix_defs.specs.Files.Descriptions.{Description, Descriptions}
use Rattle.posix_defs.specs.Files.State.{Files, beside, node_of, nodes_among}
use Rattle.posix_defs.specs.Process.{how_many}
use Rattle.posix_defs.specs.World.{World, live_of}
use Rattle.proc_files.specs.Holders.{openings}
use Rattle.proc_table.proofs.FamilyLemmas.{as_many}
use Rattle.store_objects.specs.declared.objects.Objects.{Objects}
use Rattle.store_objects.specs.Objects.{procs_of}
use Rattle.store_objects.specs.Standing.{StandsFor}
use Rattle.store_objects.specs.Trees.{others_in, pins_in}
use Rattle.store_objects.proofs.HeldNodes.{one_if, pins_split, whole}
use Rattle.store_objects.proofs.LiveIs.{live_is}
use Rattle.store_objects.proofs.TreesOn.{others_held}
use Rattle.store_objects.proofs.WorkPlaces.{count, others_by}
use Rattle.store_objects.proofs.WorkingOn.{few_hold}

-- no more open a node than there are descriptions
opened_few : (files : Files) (n : ℕ) (descriptions : Descriptions) → count n (nodes_among files descriptions) ≤ count_by is_some descriptions
opened_few files n [] = omega arith
opened_few files n (None ∷ rest) =
    let later = opened_few files n rest in let all = sum_by-cons (λ (o : Option Description). one_if (is_some o)) None rest in omega (arith, later, all)
opened_few files n (Some description ∷ rest) = by_node (node_of files description.target) (opened_few files n rest)
  where
    some_more : count_by is_some (Some description ∷ rest) ≡ 1 + count_by is_some rest
    some_more = sum_by-cons (λ (o : Option Description). one_if (is_some o)) (Some description) rest

    at_most : (b : Bool) → one_if b ≤ 1
    at_most true = omega arith
    at_most false = omega arith

    by_node : (on : Option ℕ) → count n (nodes_among files rest) ≤ count_by is_some rest → count n (beside on (nodes_among files rest)) ≤ count_by is_some (Some description ∷ rest)
    by_node (Some number) later =
        let all = whole n number (nodes_among files rest) in let one = at_most (number == n) in let more = some_more in omega (arith, later, all, one, more)
    by_node None later = let more = some_more in omega (arith, later, more)

module _ (script : Script) (objects : Objects) (world : World) (stands : StandsFor script objects world) (well : IsWellFormed objects.heap) where
  -- a heap has room for so many
  room : how_many world.plain.table * 512 + count_by is_some world.plain.files.descriptions * 64 ≤ 8388608
  room =
      let live : live_bytes objects.heap ≡ live_of world = live_is script objects world stands well in
      let takes : how_many world.plain.table * 512 + count_by is_some world.plain.files.descriptions * 64 ≤ live_of world = omega arith in
      omega (arith, live, takes, well.live_within, well.high_within, well.limit)

  pub few_others : (n : ℕ) → others_in world.plain n ≤ 65536
  few_others n =
      let held : others_in world.plain n ≡ others_by (procs_of objects) n = others_held objects world.plain stands.processes.table n in
      let most : others_by (procs_of objects) n ≤ length (procs_of objects) + 1 = few_hold (procs_of objects) n in
      let procs : length (procs_of objects) ≡ how_many world.plain.table = as_many stands.processes.table.present in
      let all = room in
      omega (arith, held, most, procs, all)

  pub few_pins : (n : ℕ) → pins_in world.plain n < 4294967295
  few_pins n =
      let split = pins_split world.plain n in
      let others = few_others n in
      let opened : openings world.plain.files n ≤ count_by is_some world.plain.files.descriptions = opened_few world.plain.files n world.plain.files.descriptions in
      let all = room in
      omega (arith, split, others, opened, all)
