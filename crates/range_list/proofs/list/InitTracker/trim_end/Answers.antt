use Rattle.std.proofs.Common.{◌+◌, ◌<◌, ◌≤◌, ◌++◌, take, sym, ap, ◌∙◌, arith}
use Rattle.std.proofs.lemmas.Bool.Decides.{nat_tests}
use Rattle.std.proofs.lemmas.List.{append-nil}
use Rattle.range_list.specs.View.{ends, view}
use Rattle.range_list.proofs.Steps.{end_kept, left_later, left_none}
use Rattle.range_list.proofs.list.InitTracker.trim_end.Goals as goal

pub returns-in-Some-clause-front : goal.returns-in-Some-clause-front
returns-in-Some-clause-front g c =
    let p = g.I.Index.position in
    let V = view p c.args.self.now in
    let range = c.in-Some.range in
    let lt : p range.start < p c.args.at = grind (arith, nat_tests) in
    ap (take (c.args.i + 1)) c.set.ensures.held ∙ end_kept V c.args.i (ends p range) (sym c.in-Some.ensures) (p c.args.at) lt

pub returns-in_default-clause-front : goal.returns-in_default-clause-front
returns-in_default-clause-front g c =
    let p = g.I.Index.position in
    let V = view p c.args.self.now in
    let range = c.in-Some.range in
    let le : p c.args.at ≤ p range.start = grind (arith, nat_tests) in
    let none = left_later V c.args.i (ends p range) (sym c.in-Some.ensures) (p c.args.at) le in
    sym (ap (λ r. take c.args.i V ++ r) none ∙ append-nil (take c.args.i V))

pub returns-in_default-2-clause-front : goal.returns-in_default-2-clause-front
returns-in_default-2-clause-front g c =
    let p = g.I.Index.position in
    let V = view p c.args.self.now in
    let none = left_none V c.args.i (p c.args.at) (sym c.in_default.ensures) in
    sym (ap (λ r. take c.args.i V ++ r) none ∙ append-nil (take c.args.i V))
