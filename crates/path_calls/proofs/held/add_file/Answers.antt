use Rattle.std.proofs.Common.{◌≡◌, ℕ, List, Option, None, refl, subst, sym, ◌∙◌}
use Rattle.kheap_slabs.specs.declared.objects.Pipe.{Pipe}
use Rattle.kheap_slabs.specs.declared.objects.Target.{Target}
use Rattle.kheap_slabs.specs.declared.objects.Target.TheVariants as target
use Rattle.open_laws.specs.Described.{node_in}
use Rattle.posix_defs.specs.Files.State.{is_number}
use Rattle.path_calls.specs.Nodes.{Adds}
use Rattle.path_calls.proofs.Adding.{added_none}
use Rattle.path_calls.proofs.held.add_file.Goals as goal

-- what is no file and no directory has no node where no pipe has one
no_file : (pipes : List (Option Pipe)) (what : Target) → ((number : ℕ) → what ≡ target.Inode number → ⊥) → ((key : ℕ) → node_in pipes (target.Pipe key) ≡ None) → node_in pipes what ≡ None
no_file pipes (target.Inode number) other none = absurd (other number refl)
no_file pipes (target.Pipe key) other none = none key
no_file pipes (target.Sock key) other none = refl

pub returns-in-Inode : goal.returns-in-Inode
returns-in-Inode c =
    subst (λ (what : Target). Adds c.args.nodes.now c.add.new.self (λ number. is_number number (node_in c.args._heap.now.pipes what))) (sym c.in-Inode.is) c.add.ensures

pub returns-in_default : goal.returns-in_default
returns-in_default c =
    subst (λ o. Adds c.args.nodes.now c.args.nodes.now (λ number. is_number number o))
    (sym (no_file c.args._heap.now.pipes c.args.desc.now.target c.in_default.not-Inode (c.requires refl))) (added_none c.args.nodes.now)
