use Rattle.std.proofs.Common.{rules, ◌∙◌}
use Rattle.std.proofs.lemmas.Iterator.{YieldsList-from_slice}
use Rattle.std.proofs.lemmas.Iterator.Search.{all_from_yields_List}
use borrow.Author.Tests.{tests}
use Rattle.rules.specs.Submission.{step_fits}
use Rattle.plan.proofs.Lists.{steps_fit_tests}
use Rattle.plan.proofs.checks.steps_fit.Goals as goal

pub returns : goal.returns
returns g c =
    let ss = c.args.steps.now in
    let e = (g.D.Device.meaning c.args.device.now).extent in
    all_from_yields_List (step_fits e) _ _ c.all.result c.all.ensures.ran (YieldsList-from_slice ss cc) (λ x b q k. search (rules, tests))
    ∙ steps_fit_tests e ss
