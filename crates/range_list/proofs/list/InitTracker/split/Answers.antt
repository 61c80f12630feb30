use Rattle.std.proofs.Common.{◌≡◌, ◌<◌, [], ◌++◌, take, drop, set, sym, ap, ◌∙◌, arith}
use Rattle.std.proofs.lemmas.Bool.Decides.{nat_tests}
use Rattle.std.proofs.lemmas.Result.{err_from_is_err_and}
use Rattle.range_list.specs.Ranges.{left_of, begun}
use Rattle.range_list.specs.View.{ends, view}
use Rattle.range_list.proofs.Steps.{view_length, split_held, split_full, left_later, left_none}
use Rattle.range_list.proofs.list.InitTracker.split.Goals as goal
use Rattle.range_list.proofs.list.InitTracker.split.Goals.{in_default-via-in-Some+else-before, in_default-via-in_default}

pub returns-in_ok-insert-in-Some-clause-held : goal.returns-in_ok-insert-in-Some-clause-held
returns-in_ok-insert-in-Some-clause-held g c =
    let p = g.I.Index.position in
    let q = c.args.query in
    let range = c.in-Some.range in
    let lt : p range.start < p q.start = grind (arith, nat_tests) in
    c.set.ensures.held ∙ ap (λ l. set l c.args.i (p range.start, p q.start)) c.in_ok-insert-in-Some.ensures.held.1
    ∙ split_held (view p c.args.self.now) c.args.i (ends p range) (sym c.in-Some.ensures) (p q.start) (p q.end) lt c.requires.order

pub returns-in_err-insert-in-Some-clause-held : goal.returns-in_err-insert-in-Some-clause-held
returns-in_err-insert-in-Some-clause-held g c =
    let p = g.I.Index.position in
    let q = c.args.query in
    let old = c.args.self.now in
    let range = c.in-Some.range in
    let lt : p range.start < p q.start = grind (arith, nat_tests) in
    let l = view_length p old in
    let f = split_full (view p old) c.args.i (ends p range) (sym c.in-Some.ensures) (p q.start) (p q.end) lt c.requires.order in
    let h = c.in_err-insert-in-Some.ensures.held in
    let e = err_from_is_err_and c.from_residual.result c.from_residual.ensures.1 in
    rw e.1 (e.2 ∙ h.0, h.1, h.2, omega (arith, h.3))

pub returns-in_default-clause-held : goal.returns-in_default-clause-held
returns-in_default-clause-held g c =
    let p = g.I.Index.position in
    let V = view p c.args.self.now in
    let i = c.args.i in
    let lo = p c.args.query.start in
    let none : left_of lo (drop i V) ≡ [] =
    elim c.in_default.branch [
      | in_default-via-in-Some+else-before w ↦ left_later V i (ends p w.in-Some.range) (sym w.in-Some.ensures) lo (grind (arith, nat_tests, w.if-before.ensures))
      | in_default-via-in_default w ↦ left_none V i lo (sym w.in_default.ensures)
    ] in
    c.trim_start.ensures.held ∙ sym (ap (λ r. take i V ++ (r ++ begun (p c.args.query.end) (drop i V))) none)
