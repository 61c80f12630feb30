use Rattle.std.proofs.Common.{rules, ◌∙◌}
use Rattle.std.proofs.lemmas.Iterator.{YieldsList-from_slice}
use Rattle.std.proofs.lemmas.Iterator.Search.{all_from_yields_List}
use borrow.Author.Tests.{tests}
use Rattle.device.specs.Commands.{fits_in}
use Rattle.rules.specs.Planning.{clear_of}
use Rattle.plan.proofs.Lists.{all_fit_tests}
use Rattle.plan.proofs.checks.all_fit.Goals as goal

pub returns : goal.returns
returns g c =
    let ps = c.args.pieces.now in
    let e = (g.D.Device.meaning c.args.device.now).extent in
    all_from_yields_List (λ p. fits_in e (clear_of p)) _ _ c.all.result c.all.ensures.ran (YieldsList-from_slice ps cc) (λ x b q k. search (rules, tests))
    ∙ all_fit_tests e ps
