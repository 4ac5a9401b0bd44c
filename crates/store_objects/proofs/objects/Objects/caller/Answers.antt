use Rattle.std.proofs.Common.{◌≡◌, ◌∙◌, ℕ, Option, None, Some, ap, false, is_some, refl, sym}
use Rattle.proc_table.proofs.PlaceLemmas.{key_of-none, key_of-proc}
use Rattle.store_objects.specs.Objects.{procs_of}
use Rattle.store_objects.proofs.RunningProcs.{running_as, running_none}
use Rattle.store_objects.proofs.objects.Objects.caller.Goals as goal

no_status : (o : Option ℕ) → is_some o ≡ false → o ≡ None
no_status None is = refl
no_status (Some status) is = cc

pub get_proc-proc-requires : goal.get_proc-proc-requires
get_proc-proc-requires c =
    let named = key_of-proc c.args.self.now.heap.procs c.args.self.now.procs.listed c.args.pid c.in_ok-key.key c.requires (sym c.key_of.ensures ∙ c.in_ok-key.was) in
    ap is_some named.1

pub returns-in_err-key-clause-none : goal.returns-in_err-key-clause-none
returns-in_err-key-clause-none c = λ _.
    running_none (procs_of c.args.self.now) c.args.pid
    (key_of-none c.args.self.now.heap.procs c.args.self.now.procs.listed c.args.pid c.requires (sym c.key_of.ensures ∙ c.in_err-key.was))

pub returns-then-is_some-clause-none : goal.returns-then-is_some-clause-none
returns-then-is_some-clause-none c = λ _.
    let named = key_of-proc c.args.self.now.heap.procs c.args.self.now.procs.listed c.args.pid c.in_ok-key.key c.requires (sym c.key_of.ensures ∙ c.in_ok-key.was) in
    running_as (procs_of c.args.self.now) c.args.pid c.get_proc-proc.result.now _ (named.3 ∙ sym named.1 ∙ c.get_proc-proc.ensures) (sym c.is_some.ensures ∙ c.if-is_some.true)

pub returns-clause-some : goal.returns-clause-some
returns-clause-some c =
    let named = key_of-proc c.args.self.now.heap.procs c.args.self.now.procs.listed c.args.pid c.in_ok-key.key c.requires (sym c.key_of.ensures ∙ c.in_ok-key.was) in
    record {
      same = refl;
      placed = sym c.key_of.ensures ∙ c.in_ok-key.was;
      proc = c.get_proc-proc.result.now;
      found = named.3 ∙ sym named.1 ∙ c.get_proc-proc.ensures;
      up = no_status c.get_proc-proc.result.now.status (sym c.is_some.ensures ∙ c.if-is_some.false);
      parent = refl;
      control = refl;
    }
