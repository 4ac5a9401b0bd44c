use Rattle.std.proofs.Common.{◌≡◌, drop, inl, subst, ◌∙◌}
use Rattle.std.specs.Vec.Iter.{into_iter_items}
use Rattle.kres_tool.specs.Headline.{ObeysAndKeeps}
use Rattle.kres_tool.specs.Tool.{input, output}
use Rattle.kres_tool.proofs.program.run_words.Goals as goal

pub returns : goal.returns
returns g c =
    let same : c.as_slice.result.now ≡ drop 1 (into_iter_items c.args.all) = c.as_slice.ensures.value ∙ c.in-Ok.ensures in
    inl (
      c.run_tool-status.new.store_out,
      subst
          (λ words. ObeysAndKeeps words (input g.S.Source.left g.S.Source.faults c.args.source.now c.run_tool-status.new.source)
          (output g.K.Sink.held g.K.Sink.faults g.K.Sink.put_gives c.args.sink.now c.run_tool-status.new.sink) c.run_tool-status.new.store_out c.run_tool-status.result)
          same
          (record { obeys = c.run_tool-status.ensures.obeys; headline = c.run_tool-status.ensures.headline; threads = c.run_tool-status.ensures.threads; loads = c.run_tool-status.ensures.loads; groups = c.run_tool-status.ensures.groups; causes = c.run_tool-status.ensures.causes; complete = c.run_tool-status.ensures.complete }),
    )
