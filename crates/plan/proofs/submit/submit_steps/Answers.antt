use Rattle.std.proofs.Common.{◌≡◌, ◌+◌, List, ◌++◌, length, refl, ap, ◌∙◌, subst, arith}
use Rattle.device.specs.Meaning.{Followed}
use Rattle.device.specs.declared.command.Command.{Command}
use Rattle.rules.specs.Planning.{clears_of, join_all, planned}
use Rattle.rules.specs.Submission.{all_commands}
use Rattle.rules.specs.Uses.{step_commands, step_sums, commands_before}
use Rattle.plan.specs.Notes.{filled}
use Rattle.plan.specs.Views.{view_buffers}
use Rattle.plan.proofs.Runs.{followed_then}
use Rattle.plan.proofs.Whole.{granted, cells_bound, reported_is}
use Rattle.plan.proofs.submit.submit_steps.Goals as goal

pub sum_cells-requires : goal.sum_cells-requires
sum_cells-requires g c =
    let ps = c.joined-clears.result.now in
    let ss = c.args.steps.now in
    let m = g.D.Device.meaning c.args.device.now in
    let ok = granted m ps ss (length ps + c.count_commands.result) c.in_ok-check_device.ensures in
    let b = cells_bound m.extent ps (λ s. g.met.D.Device.bounded c.args.device.now s) ok.1 in
    omega (arith, c.joined-clears.ensures.few, b)

pub returns-clause-device : goal.returns-clause-device
returns-clause-device g c =
    let V = view_buffers c.args.buffers.now in
    let ss = c.args.steps.now in
    let mean = g.D.Device.meaning in
    let ps = c.joined-clears.result.now in
    let is : ps ≡ planned V ss = c.joined-clears.ensures.joined ∙ ap join_all (c.in_ok-plan_steps.ensures.held refl) in
    let all : clears_of ps ++ step_commands ss ≡ all_commands V ss = ap (λ qs. clears_of qs ++ step_commands ss) is in
    let d = c.args.device.now in
    let here = c.run_clears.new.device in
    let last = c.run_steps.new.device in
    subst (λ (l : List Command). Followed (mean d) l (mean last)) all (followed_then (mean d) (mean here) (mean last) (clears_of ps) (step_commands ss) c.run_clears.ensures.followed c.run_steps.ensures.followed)

pub returns-clause-report : goal.returns-clause-report
returns-clause-report g c =
    let V = view_buffers c.args.buffers.now in
    let ss = c.args.steps.now in
    let mean = g.D.Device.meaning in
    let ps = c.joined-clears.result.now in
    let is : ps ≡ planned V ss = c.joined-clears.ensures.joined ∙ ap join_all (c.in_ok-plan_steps.ensures.held refl) in
    let n : length ps + c.count_commands.result ≡ length ps + length (step_commands ss) = ap (λ k. length ps + k) c.count_commands.ensures.answer in
    let here = c.run_clears.new.device in
    c.run_steps.ensures.report
    ∙ ap (λ r. filled r (step_sums (mean here).cell ss) (commands_before (length ps) ss)) c.begin.ensures.after
    ∙ reported_is (mean c.args.device.now) V ss ps c.args.report.now c.sum_cells.result (length ps + c.count_commands.result) (mean here).cell is c.sum_cells.ensures n c.run_clears.ensures.followed.cells
