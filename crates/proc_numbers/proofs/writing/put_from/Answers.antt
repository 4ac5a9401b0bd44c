use Rattle.std.proofs.Common.{◌≡◌, ◌-◌, ◌∙◌, ap, arith, min}
use Rattle.std.proofs.lemmas.List.{length-take-le}
use Rattle.posix_defs.specs.Memory.{loaded}
use Rattle.proc_table.specs.Procs.{memory_at}
use Rattle.proc_table.proofs.MemoryLemmas.{memory_at-stands}
use Rattle.proc_numbers.specs.PipeMoving.{told_write}
use Rattle.proc_numbers.specs.QueueEnds.{write_of}
use Rattle.proc_numbers.proofs.Capped.{unless_moves}
use Rattle.proc_numbers.proofs.EndLemmas.{put_answer, puts_so}
use Rattle.proc_numbers.proofs.writing.put_from.Goals as goal

pub returns-clause-told : goal.returns-clause-told
returns-clause-told c = λ behind stands.
    let written = c.args.written.now in
    let len_is = c.min.ensures ∙ ap (λ m. min m 4096) c.left.ensures in
    let memory = memory_at c.args.heap.now c.args.space.now in
    c.told.ensures
    ∙ ap (told_write c.args.nonblock written.n written.done)
    (put_answer c.args.queue behind c.args.nonblock written.n written.done written.start c.rest.result memory c.fetch.new.out c.min.result
    (c.fetch.ensures memory (memory_at-stands c.args.heap.now c.args.space.now) ∙ ap (loaded memory c.rest.result) (length-take-le c.min.result _ (let few = c.min.ensures in omega (arith, few))))
    len_is c.rest.ensures.rest c.put-moved.result (c.put-moved.ensures.answer behind stands))

pub returns-clause-puts : goal.returns-clause-puts
returns-clause-puts c = λ behind memory stands is.
    let written = c.args.written.now in
    let len_is = c.min.ensures ∙ ap (λ m. min m 4096) c.left.ensures in
    puts_so c.args.heap.now c.put-moved.new.heap c.args.queue behind c.args.nonblock written.n written.done written.start c.rest.result memory c.fetch.new.out c.min.result
    (c.fetch.ensures memory is ∙ ap (loaded memory c.rest.result) (length-take-le c.min.result _ (let few = c.min.ensures in omega (arith, few))))
    len_is c.rest.ensures.rest c.put-moved.result (c.put-moved.ensures.answer behind stands)
    (c.put-moved.ensures.puts behind stands)

pub returns-clause-refused : goal.returns-clause-refused
returns-clause-refused c = λ behind stands.
    let written = c.args.written.now in
    let len_is = c.min.ensures ∙ ap (λ m. min m 4096) c.left.ensures in
    let memory = memory_at c.args.heap.now c.args.space.now in
    unless_moves c.put-moved.result (write_of c.args.queue behind c.args.nonblock written.n (written.n - written.done)) _ (c.put-moved.new.heap ≡ c.args.heap.now)
    (put_answer c.args.queue behind c.args.nonblock written.n written.done written.start c.rest.result memory c.fetch.new.out c.min.result
    (c.fetch.ensures memory (memory_at-stands c.args.heap.now c.args.space.now) ∙ ap (loaded memory c.rest.result) (length-take-le c.min.result _ (let few = c.min.ensures in omega (arith, few))))
    len_is c.rest.ensures.rest c.put-moved.result (c.put-moved.ensures.answer behind stands))
    (λ both. both.0) c.put-moved.ensures.refused

pub returns-clause-links : goal.returns-clause-links
returns-clause-links c = c.put-moved.ensures.links
