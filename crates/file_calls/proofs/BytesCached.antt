-- What is told of the blocks of bytes that were read, behind what follows the read.
use Rattle.std.proofs.Common.{◌≡◌, ℕ, ◌<◌, ℤ, Result, Ok, Err, refl, ap, sym, ◌∙◌, subst, arith}
use Rattle.kabi_types.specs.declared.calls.Call.{Call}
use Rattle.kabi_types.specs.declared.calls.Call.TheVariants as call
use Rattle.kabi_types.specs.declared.errnos.Errno.{Errno}
use Rattle.kabi_types.specs.declared.replies.Reply.{Reply}
use Rattle.kheap_slabs.specs.declared.objects.Desc.{Desc}
use Rattle.memfs_ops.specs.FileTree.{TreeView}
use Rattle.posix_defs.specs.declared.turner.Turned.{Turned}
use Rattle.posix_defs.specs.declared.turner.Turned.TheVariants as turned
use Rattle.proc_files.specs.Reading.{KeepsRead, SavesRead, moved_by}
use Rattle.proc_numbers.specs.Answering.{value_of}
use Rattle.store_objects.specs.declared.objects.Objects.{Objects}
use Rattle.file_calls.specs.Bytes.{AreBytesCached, ReadsCached, told_count}

counted : (moved : Result ℕ Errno) → told_count (turned.Done (value_of moved)) ≡ moved_by moved
counted (Ok count) = refl
counted (Err errno) = refl

-- what was told of a read of the tree is told of its call
pub bytes_cached : (old new : Objects) (fs : TreeView) (pid : ℕ) (fd : ℤ) (as_at at : Desc → ℕ) (moved : Result ℕ Errno) (said : Reply) (told : Turned)
    → as_at ≡ at → said ≡ value_of moved → told ≡ turned.Done said → new.tree ≡ fs
    → SavesRead old.heap old.procs pid fd old.tree fs as_at (moved_by moved) → KeepsRead old.heap old.procs pid fd old.tree fs as_at (moved_by moved)
    → AreBytesCached old pid fd at (told_count told) new
bytes_cached old new fs pid fd as_at at moved said told same_at tells is tree saved last =
    let many : moved_by moved ≡ told_count told = sym (ap told_count is ∙ ap (λ r. told_count (turned.Done r)) tells ∙ counted moved) in
    record {
      saved =
          subst (λ n. SavesRead old.heap old.procs pid fd old.tree new.tree at n) many
          (subst (λ t. SavesRead old.heap old.procs pid fd old.tree t at (moved_by moved)) (sym tree)
          (subst (λ place. SavesRead old.heap old.procs pid fd old.tree fs place (moved_by moved)) same_at saved));
      last =
          subst (λ n. KeepsRead old.heap old.procs pid fd old.tree new.tree at n) many
          (subst (λ t. KeepsRead old.heap old.procs pid fd old.tree t at (moved_by moved)) (sym tree)
          (subst (λ place. KeepsRead old.heap old.procs pid fd old.tree fs place (moved_by moved)) same_at last));
    }

-- a call that tells of no bytes and leaves the tree
none_cached : (old new : Objects) (pid : ℕ) (fd : ℤ) (at : Desc → ℕ) (count : ℕ) → new.tree ≡ old.tree → count ≡ 0 → AreBytesCached old pid fd at count new
none_cached old new pid fd at count tree none = record {
  saved = λ held desc number inode named there leads has cached. ap (λ (fs : TreeView). fs.disk) tree;
  last = λ held desc number inode named there leads has some. absurd (none_above count none some);
}
  where
    none_above : (n : ℕ) → n ≡ 0 → 0 < n → ⊥
    none_above n none some = omega (arith, none, some)

pub nothing_read : (old new : Objects) (pid : ℕ) (which : Call) (told : Turned) → new.tree ≡ old.tree → told_count told ≡ 0 → ReadsCached old pid which told new
nothing_read old new pid (call.Read fd addr n) told tree none = none_cached old new pid fd _ _ tree none
nothing_read old new pid (call.Pread fd addr n at) told tree none = none_cached old new pid fd _ _ tree none
nothing_read old new pid (call.Readdir fd addr n) told tree none = none_cached old new pid fd _ _ tree none
nothing_read old new pid _ told tree none = tt

-- what leaves the tree may follow
cached_on : (old mid new : Objects) (pid : ℕ) (fd : ℤ) (at : Desc → ℕ) (count : ℕ) → new.tree ≡ mid.tree → AreBytesCached old pid fd at count mid → AreBytesCached old pid fd at count new
cached_on old mid new pid fd at count tree are = record {
  saved = subst (λ t. SavesRead old.heap old.procs pid fd old.tree t at count) (sym tree) are.saved;
  last = subst (λ t. KeepsRead old.heap old.procs pid fd old.tree t at count) (sym tree) are.last;
}

pub reads_on : (old mid new : Objects) (pid : ℕ) (which : Call) (told : Turned) → new.tree ≡ mid.tree → ReadsCached old pid which told mid → ReadsCached old pid which told new
reads_on old mid new pid (call.Read fd addr n) told tree are = cached_on old mid new pid fd _ _ tree are
reads_on old mid new pid (call.Pread fd addr n at) told tree are = cached_on old mid new pid fd _ _ tree are
reads_on old mid new pid (call.Readdir fd addr n) told tree are = cached_on old mid new pid fd _ _ tree are
reads_on old mid new pid _ told tree are = tt
