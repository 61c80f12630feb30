use Rattle.std.proofs.Common.{not, length, ap, rules, ◌∙◌}
use Rattle.std.proofs.lemmas.Iterator.{YieldsList-from_slice}
use Rattle.std.proofs.lemmas.Iterator.Consumers.{YieldsList-from_filter, count_from_yields_List}
use borrow.Author.Tests.{tests}
use Rattle.rules.specs.Uses.{looks, step_commands}
use Rattle.plan.proofs.Lists.{commands_count}
use Rattle.plan.proofs.checks.count_commands.Goals as goal

pub returns-clause-answer : goal.returns-clause-answer
returns-clause-answer c =
    let ss = c.as_slice.result.now in
    count_from_yields_List c.filter.result _ c.count.ensures.ran (YieldsList-from_filter _ (λ s. not (looks s)) (YieldsList-from_slice ss (cc)) c.filter.ensures.closure (λ x b q k. search (rules, tests)))
    ∙ commands_count ss ∙ ap (λ l. length (step_commands l)) c.as_slice.ensures.steps
