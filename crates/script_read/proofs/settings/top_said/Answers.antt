use Rattle.std.proofs.Common.{Ok, ap, refl, ◌∙◌}
use Rattle.kabi_types.specs.declared.scripts.Chooser.TheVariants.{Choices, Seed}
use Rattle.posix_defs.specs.ScriptLines.{choices_said, natural, only, policy_said}
use Rattle.posix_defs.specs.ScriptValues.{name, with}
use Rattle.posix_defs.specs.declared.said.AtTop.TheVariants as top
use Rattle.posix_defs.specs.declared.said.Setting.TheVariants as setting
use Rattle.script_words.proofs.Told.{err_is, stops, stops_at, told_as}
use Rattle.script_words.specs.declared.refused.Refused.TheVariants as refused
use Rattle.script_read.proofs.FirstWords.{passed, taken}
use Rattle.script_read.proofs.settings.top_said.Goals as goal

pub returns-in_err-bytes : goal.returns-in_err-bytes
returns-in_err-bytes c =
    let error = c.in_err-bytes.field-0.0 in
    told_as _ c.from_residual.result (taken _ _ _ c.if-is_word.ensures)
    (stops _ (λ said. said) error c.from_residual.result (only (natural 8192 8388608) c.args.rest.now) (with (λ n. top.Sets (setting.Heap n))) (λ k. refl)
    (err_is error c.from_residual.result c.from_residual.ensures.1) c.in_err-bytes.ensures)

pub returns-then-is_word : goal.returns-then-is_word
returns-then-is_word c = ap (λ n. Ok (top.Sets (setting.Heap n))) c.from.ensures ∙ ap (with (λ n. top.Sets (setting.Heap n))) c.in_ok-bytes.ensures ∙ taken _ _ _ c.if-is_word.ensures

pub returns-in_err-blocks : goal.returns-in_err-blocks
returns-in_err-blocks c =
    let error = c.in_err-blocks.field-0.0 in
    told_as _ c.from_residual-in_err-blocks.result (passed _ _ _ _ c.if-is_word.ensures (taken _ _ _ c.if-is_word-2.ensures))
    (stops _ (λ said. said) error c.from_residual-in_err-blocks.result (only (natural 16 4096) c.args.rest.now) (with (λ n. top.Sets (setting.Disk n))) (λ k. refl)
    (err_is error c.from_residual-in_err-blocks.result c.from_residual-in_err-blocks.ensures.1) c.in_err-blocks.ensures)

pub returns-then-is_word-2 : goal.returns-then-is_word-2
returns-then-is_word-2 c = ap (with (λ n. top.Sets (setting.Disk n))) c.in_ok-blocks.ensures ∙ passed _ _ _ _ c.if-is_word.ensures (taken _ _ _ c.if-is_word-2.ensures)

pub returns-in_err-events : goal.returns-in_err-events
returns-in_err-events c =
    let error = c.in_err-events.field-0.0 in
    told_as _ c.from_residual-in_err-events.result (passed _ _ _ _ c.if-is_word.ensures (passed _ _ _ _ c.if-is_word-2.ensures (taken _ _ _ c.if-is_word-3.ensures)))
    (stops _ (λ said. said) error c.from_residual-in_err-events.result (only (natural 1 100000) c.args.rest.now) (with (λ n. top.Sets (setting.Steps n))) (λ k. refl)
    (err_is error c.from_residual-in_err-events.result c.from_residual-in_err-events.ensures.1) c.in_err-events.ensures)

pub returns-then-is_word-3 : goal.returns-then-is_word-3
returns-then-is_word-3 c = ap (with (λ n. top.Sets (setting.Steps n))) c.in_ok-events.ensures ∙ passed _ _ _ _ c.if-is_word.ensures (passed _ _ _ _ c.if-is_word-2.ensures (taken _ _ _ c.if-is_word-3.ensures))

pub returns-in_err-policy : goal.returns-in_err-policy
returns-in_err-policy c =
    let error = c.in_err-policy.field-0.0 in
    told_as _ c.from_residual-in_err-policy.result (passed _ _ _ _ c.if-is_word.ensures (passed _ _ _ _ c.if-is_word-2.ensures (passed _ _ _ _ c.if-is_word-3.ensures (taken _ _ _ c.if-is_word-4.ensures))))
    (stops _ (λ said. said) error c.from_residual-in_err-policy.result (only policy_said c.args.rest.now) (with (λ p. top.Sets (setting.Victims p))) (λ k. refl)
    (err_is error c.from_residual-in_err-policy.result c.from_residual-in_err-policy.ensures.1) c.in_err-policy.ensures)

pub returns-then-is_word-4 : goal.returns-then-is_word-4
returns-then-is_word-4 c = ap (with (λ p. top.Sets (setting.Victims p))) c.in_ok-policy.ensures ∙ passed _ _ _ _ c.if-is_word.ensures (passed _ _ _ _ c.if-is_word-2.ensures (passed _ _ _ _ c.if-is_word-3.ensures (taken _ _ _ c.if-is_word-4.ensures)))

pub returns-in_err-numbers : goal.returns-in_err-numbers
returns-in_err-numbers c =
    let error = c.in_err-numbers.field-0.0 in
    told_as _ c.from_residual-in_err-numbers.result (passed _ _ _ _ c.if-is_word.ensures (passed _ _ _ _ c.if-is_word-2.ensures (passed _ _ _ _ c.if-is_word-3.ensures (passed _ _ _ _ c.if-is_word-4.ensures (taken _ _ _ c.if-is_word-5.ensures)))))
    (stops _ (λ said. said) error c.from_residual-in_err-numbers.result (choices_said c.args.rest.now) (with (λ c. top.Sets (setting.Choosing (Choices c)))) (λ k. refl)
    (err_is error c.from_residual-in_err-numbers.result c.from_residual-in_err-numbers.ensures.1) c.in_err-numbers.ensures)

pub returns-then-is_word-5 : goal.returns-then-is_word-5
returns-then-is_word-5 c = ap (with (λ c. top.Sets (setting.Choosing (Choices c)))) c.in_ok-numbers.ensures ∙ passed _ _ _ _ c.if-is_word.ensures (passed _ _ _ _ c.if-is_word-2.ensures (passed _ _ _ _ c.if-is_word-3.ensures (passed _ _ _ _ c.if-is_word-4.ensures (taken _ _ _ c.if-is_word-5.ensures))))

pub returns-in_err-seed : goal.returns-in_err-seed
returns-in_err-seed c =
    let error = c.in_err-seed.field-0.0 in
    told_as _ c.from_residual-in_err-seed.result (passed _ _ _ _ c.if-is_word.ensures (passed _ _ _ _ c.if-is_word-2.ensures (passed _ _ _ _ c.if-is_word-3.ensures (passed _ _ _ _ c.if-is_word-4.ensures (passed _ _ _ _ c.if-is_word-5.ensures (taken _ _ _ c.if-is_word-6.ensures))))))
    (stops _ (λ said. said) error c.from_residual-in_err-seed.result (only (natural 0 2147483647) c.args.rest.now) (with (λ n. top.Sets (setting.Choosing (Seed n)))) (λ k. refl)
    (err_is error c.from_residual-in_err-seed.result c.from_residual-in_err-seed.ensures.1) c.in_err-seed.ensures)

pub returns-then-is_word-6 : goal.returns-then-is_word-6
returns-then-is_word-6 c = ap (with (λ n. top.Sets (setting.Choosing (Seed n)))) c.in_ok-seed.ensures ∙ passed _ _ _ _ c.if-is_word.ensures (passed _ _ _ _ c.if-is_word-2.ensures (passed _ _ _ _ c.if-is_word-3.ensures (passed _ _ _ _ c.if-is_word-4.ensures (passed _ _ _ _ c.if-is_word-5.ensures (taken _ _ _ c.if-is_word-6.ensures)))))

pub returns-in_err-name : goal.returns-in_err-name
returns-in_err-name c =
    let kind = c.in_err-name.field-0.0 in
    told_as _ c.from_residual-in_err-name.result (passed _ _ _ _ c.if-is_word.ensures (passed _ _ _ _ c.if-is_word-2.ensures (passed _ _ _ _ c.if-is_word-3.ensures (passed _ _ _ _ c.if-is_word-4.ensures (passed _ _ _ _ c.if-is_word-5.ensures (passed _ _ _ _ c.if-is_word-6.ensures (taken _ _ _ c.if-is_word-7.ensures)))))))
    (stops_at _ kind c.from_residual-in_err-name.result (only name c.args.rest.now) (with top.Begins) (λ k. refl)
    (err_is (refused.Fault kind) c.from_residual-in_err-name.result c.from_residual-in_err-name.ensures.1) c.in_err-name.ensures)

pub returns-then-is_word-7 : goal.returns-then-is_word-7
returns-then-is_word-7 c = ap (with top.Begins) c.in_ok-name.ensures ∙ passed _ _ _ _ c.if-is_word.ensures (passed _ _ _ _ c.if-is_word-2.ensures (passed _ _ _ _ c.if-is_word-3.ensures (passed _ _ _ _ c.if-is_word-4.ensures (passed _ _ _ _ c.if-is_word-5.ensures (passed _ _ _ _ c.if-is_word-6.ensures (taken _ _ _ c.if-is_word-7.ensures))))))

pub returns : goal.returns
returns c = passed _ _ _ _ c.if-is_word.ensures (passed _ _ _ _ c.if-is_word-2.ensures (passed _ _ _ _ c.if-is_word-3.ensures (passed _ _ _ _ c.if-is_word-4.ensures (passed _ _ _ _ c.if-is_word-5.ensures (passed _ _ _ _ c.if-is_word-6.ensures (passed _ _ _ _ c.if-is_word-7.ensures refl))))))
