use Rattle.std.proofs.Common.{◌≡◌, ℕ, ◌+◌, ◌<◌, List, [], ◌∷◌, ◌++◌, length, get_or, take, drop, sym, ap, ◌∙◌, subst, arith, length-append}
use Rattle.std.proofs.lemmas.List.{take_more, at_drop_more, length-take-le}
use Rattle.device.specs.Meaning.{Followed, ran}
use Rattle.device.specs.declared.command.Command.{Command}
use Rattle.rules.specs.Uses.{commands_of, step_commands, sums_of, step_sums, commands_before}
use Rattle.rules.specs.declared.step.Step.{Step}
use Rattle.rules.specs.declared.step.Step.TheVariants.{BufferRead}
use Rattle.plan.specs.Notes.{noted_step, filled}
use Rattle.plan.proofs.Runs.{followed_then, steps_fit_here, commands_push, commands_few, sums_push, befores_push, befores_sums, sums_few, sums_same, filled_push}
use Rattle.plan.proofs.run.run_steps.Goals as goal

-- what is read where no step stands
abbrev blank : Step
blank = BufferRead 0 0 0

-- one step more, as commands
commands_more : (ss : List Step) (k : ℕ) → k < length ss → step_commands (take (k + 1) ss) ≡ step_commands (take k ss) ++ commands_of (get_or ss k blank)
commands_more ss k lt = ap step_commands (take_more ss k blank lt) ∙ commands_push (take k ss) (get_or ss k blank)

-- the commands to come: those of the next step, and the others
commands_left : (ss : List Step) (k : ℕ) → k < length ss → length (step_commands (drop k ss)) ≡ length (commands_of (get_or ss k blank)) + length (step_commands (drop (k + 1) ss))
commands_left ss k lt =
    ap length (at_drop_more step_commands ss k blank lt) ∙ length-append (commands_of (get_or ss k blank)) (step_commands (drop (k + 1) ss))

pub run_step-after-requires-clause-place : goal.run_step-after-requires-clause-place
run_step-after-requires-clause-place g c =
    let ss = c.as_slice-step-items.result.now in
    let k = c.loop-step.step-index in
    let old = g.D.Device.meaning c.args.device.now in
    let t = length-take-le k ss (omega arith) in
    let n = sums_few old.cell (take k ss) in
    let r : c.loop-step.report.reads ≡ length (step_sums old.cell (take k ss)) = ap (λ x. x.reads) c.loop-step.invariant.4 in
    omega (arith, c.as_slice-step-items.ensures.few)

pub run_step-after-requires-clause-few : goal.run_step-after-requires-clause-few
run_step-after-requires-clause-few g c =
    let ss = c.as_slice-step-items.result.now in
    let k = c.loop-step.step-index in
    let t = length-take-le k ss (omega arith) in
    let f = commands_few (take k ss) in
    omega (arith, c.as_slice-step-items.ensures.few)

pub loop-step-preserved : goal.loop-step-preserved
loop-step-preserved g c =
    let ss = c.as_slice-step-items.result.now in
    let k = c.loop-step.step-index in
    let lt = c.loop-step-test.true in
    let s = get_or ss k blank in
    let old = c.args.device.now in
    let here = c.loop-step.device in
    let new = c.run_step-after.new.device in
    let mean = g.D.Device.meaning in
    let f = (mean old).cell in
    let xs = step_commands (take k ss) in
    let e : xs ++ commands_of s ≡ step_commands (take (k + 1) ss) = sym (commands_more ss k lt) in
    let so = c.loop-step.invariant.1 in
    let n = ap length (sym e) ∙ length-append xs (commands_of s) in
    let r = c.args.report.now in
    let sums = step_sums f (take k ss) in
    let befores = commands_before c.args.done (take k ss) in
    let few = sums_few f (take k ss) in
    let t = length-take-le k ss (omega arith) in
    let same : sums_of (mean here).cell s ≡ sums_of (ran f xs) s = sums_same (mean here).cell (ran f xs) s so.cells in
    let more : sums ++ sums_of (ran f xs) s ≡ step_sums f (take (k + 1) ss) = sym (ap (step_sums f) (take_more ss k blank lt) ∙ sums_push f (take k ss) s) in
    let later : befores ++ commands_before c.loop-step.after (s ∷ []) ≡ commands_before c.args.done (take (k + 1) ss) =
    ap (λ m. befores ++ commands_before m (s ∷ [])) c.loop-step.invariant.3
    ∙ sym (ap (commands_before c.args.done) (take_more ss k blank lt) ∙ befores_push c.args.done (take k ss) s) in
    let reported : c.run_step-after.new.report ≡ filled r (step_sums f (take (k + 1) ss)) (commands_before c.args.done (take (k + 1) ss)) =
    c.run_step-after.ensures.report
    ∙ ap (λ x. noted_step x (sums_of (mean here).cell s) c.loop-step.after) c.loop-step.invariant.4
    ∙ ap (λ l. noted_step (filled r sums befores) l c.loop-step.after) same
    ∙ filled_push r sums befores (ran f xs) s c.loop-step.after (befores_sums c.args.done f (take k ss)) (omega arith)
    ∙ ap (λ l. filled r l (befores ++ commands_before c.loop-step.after (s ∷ []))) more
    ∙ ap (λ l. filled r (step_sums f (take (k + 1) ss)) l) later in (
      omega arith,
      subst (λ (l : List Command). Followed (mean old) l (mean new)) e (followed_then (mean old) (mean here) (mean new) xs (commands_of s) so c.run_step-after.ensures.followed),
      subst (λ (l : List Command). g.D.Device.keeps old l new) e (g.met.D.Device.more old here new xs (commands_of s) c.loop-step.invariant.2 c.run_step-after.ensures.kept),
      omega (arith, c.run_step-after.ensures.done, n),
      reported,
      (steps_fit_here (mean old).extent ss k blank lt c.loop-step.invariant.5).1,
      omega (arith, commands_left ss k lt, n),
    )
