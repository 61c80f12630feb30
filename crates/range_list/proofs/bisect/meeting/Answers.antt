use Rattle.std.proofs.Common.{◌<◌, ◌≤◌, sym, ◌∙◌, arith, rules}
use Rattle.std.proofs.lemmas.List.{length-map}
use Rattle.std.proofs.lemmas.Bool.Decides.{nat_tests}
use Rattle.range_list.specs.View.{ends, all_ends}
use Rattle.range_list.proofs.Points.{meeting_none, in_order, meeting_is, seen_part}
use Rattle.range_list.proofs.bisect.meeting.Goals as goal

pub returns-then-is_empty : goal.returns-then-is_empty
returns-then-is_empty g c =
    let p = g.I.Index.position in
    let le : p c.args.query.end ≤ p c.args.query.start = grind (arith, nat_tests) in
    sym (meeting_none _ _ (all_ends p c.args.ranges.now) le)

pub slice_bounds-result-count : goal.slice_bounds-result-count
slice_bounds-result-count g c =
    let p = g.I.Index.position in
    let lt : p c.args.query.start < p c.args.query.end = grind (arith, nat_tests) in
    let l = length-map c.args.ranges.now (ends p) in
    in_order (p c.args.query.start) (p c.args.query.end) _ _ (all_ends p c.args.ranges.now) lt c.requires c.ending_by-first.ensures.point c.starting_before-end.ensures.point (omega arith) (omega arith)

pub returns : goal.returns
returns g c =
    let p = g.I.Index.position in
    let xs = c.args.ranges.now in
    let lt : p c.args.query.start < p c.args.query.end = grind (arith, nat_tests) in
    let l = length-map xs (ends p) in
    let e = meeting_is (p c.args.query.start) (p c.args.query.end) _ _ (all_ends p xs) lt c.requires c.ending_by-first.ensures.point c.starting_before-end.ensures.point (omega arith) (omega arith) in
    sym (e ∙ seen_part (ends p) xs _ _)

pub slice_bounds-result-start : goal.slice_bounds-result-start
slice_bounds-result-start g c =
    let p = g.I.Index.position in
    let lt : p c.args.query.start < p c.args.query.end = grind (arith, nat_tests) in
    let l = length-map c.args.ranges.now (ends p) in
    let le = in_order (p c.args.query.start) (p c.args.query.end) _ _ (all_ends p c.args.ranges.now) lt c.requires c.ending_by-first.ensures.point c.starting_before-end.ensures.point (omega arith) (omega arith) in
    search rules
