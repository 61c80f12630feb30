use Rattle.std.proofs.Common.{set, sym, ap, ◌∙◌}
use Rattle.range_list.specs.View.{ends, view}
use Rattle.range_list.proofs.Steps.{start_held, start_none}
use Rattle.range_list.proofs.list.InitTracker.trim_start.Goals as goal

pub returns-in-Some-clause-held : goal.returns-in-Some-clause-held
returns-in-Some-clause-held g c =
    let p = g.I.Index.position in
    let V = view p c.args.self.now in
    let range = c.in-Some.range in
    c.set.ensures.held ∙ ap (λ m. set V c.args.k (m, p range.end)) c.later.ensures ∙ start_held V c.args.k (ends p range) (sym c.in-Some.ensures) (p c.args.at)

pub returns-in_default-clause-held : goal.returns-in_default-clause-held
returns-in_default-clause-held g c =
    let p = g.I.Index.position in
    start_none (view p c.args.self.now) c.args.k (p c.args.at) (sym c.in_default.ensures)
