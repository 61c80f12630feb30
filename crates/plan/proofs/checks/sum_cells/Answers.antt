use Rattle.std.proofs.Common.{◌-◌, rules, ◌∙◌, arith}
use Rattle.std.proofs.lemmas.Iterator.{YieldsList-from_slice, YieldsList-from_map}
use Rattle.std.proofs.lemmas.Iterator.Consumers.{sum_by_from_yields_List, fits_by_from_yields_list}
use Rattle.plan.proofs.Lists.{cells_sum}
use Rattle.plan.proofs.checks.sum_cells.Goals as goal

pub sum-requires-clause-fits : goal.sum-requires-clause-fits
sum-requires-clause-fits c =
    let ps = c.args.pieces.now in
    fits_by_from_yields_list (λ p. p.end - p.start) ps c.map.result _ (YieldsList-from_map _ (λ p. p.end - p.start) (YieldsList-from_slice ps (cc)) c.map.ensures.closure (λ x r q k. search rules)) (omega (arith, cells_sum ps))

pub returns : goal.returns
returns c =
    let ps = c.args.pieces.now in
    sum_by_from_yields_List (λ p. p.end - p.start) ps c.map.result c.sum.result c.sum.ensures.ran (YieldsList-from_map _ (λ p. p.end - p.start) (YieldsList-from_slice ps (cc)) c.map.ensures.closure (λ x r q k. search rules))
    ∙ cells_sum ps
