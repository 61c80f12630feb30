use Rattle.std.proofs.Common.{rules, ◌<◌, ◌≤◌, ◌-◌, length, take, drop, Some, ap, ◌∙◌, inl, inr, arith}
use Rattle.std.proofs.lemmas.Bool.Decides.{nat_tests}
use Rattle.std.proofs.lemmas.List.{length-map}
use Rattle.range_list.specs.View.{ends, all_ends}
use Rattle.range_list.proofs.Checks.{Alone, tail_seen, second_filled, checked_none, checked_clear, checked_one, checked_more}
use Rattle.range_list.proofs.query.check.Goals as goal
use Rattle.range_list.proofs.query.check.Goals.{in_default-via-then-ranges-ending_by-lt1, in_default-via-else-ranges-ending_by-lt1+in-len1-up+else-before-2, then-this-lt2, in-len2-up+else-before}

pub returns-in-len2-up : goal.returns-in-len2-up
returns-in-len2-up g c =
    let p = g.I.Index.position in
    let q = c.args.query in
    let rs = c.args.ranges.now in
    let i = c.ending_by.result in
    let xs = take (length rs - i) (drop i rs) in
    let lt : p q.start < p q.end = grind (arith, nat_tests) in
    let l = length-map rs (ends p) in
    let some : p c.second-item.result.start < p c.second-item.result.end = second_filled (ends p) (p q.start) (p q.end) i (all_ends p rs) lt c.requires.sound c.ending_by.ensures.point (omega arith) xs c.second-item.result (tail_seen (ends p) rs i) (omega arith) c.second-item.is in
    let st : p c.second-item.result.start < p q.end = grind (arith, nat_tests) in
    ap (λ n. Some (n, p q.end)) c.later.ensures
    ∙ checked_more (ends p) (p q.start) (p q.end) i (all_ends p rs) lt c.requires.sound c.ending_by.ensures.point (omega arith) xs c.first-item.result c.second-item.result (tail_seen (ends p) rs i) (omega arith) c.first-item.is c.second-item.is st

pub returns-in-len1-up : goal.returns-in-len1-up
returns-in-len1-up g c =
    let p = g.I.Index.position in
    let q = c.args.query in
    let rs = c.args.ranges.now in
    let i = c.ending_by.result in
    let xs = take (length rs - i) (drop i rs) in
    let lt : p q.start < p q.end = grind (arith, nat_tests) in
    let l = length-map rs (ends p) in
    let some : 1 ≤ length xs = grind arith in
    let st : p c.first-item-2.result.start < p q.end = grind (arith, nat_tests) in
    let alone : Alone (ends p) (p q.start) (p q.end) i (all_ends p rs) lt c.requires.sound c.ending_by.ensures.point (omega arith) xs =
    elim c.in-len1-up-1.branch [
      | then-this-lt2 w ↦ inl (search rules)
      | in-len2-up+else-before w ↦ inr (w.second-item.result, omega arith, w.second-item.is, grind (arith, nat_tests))
    ] in
    ap (λ r. Some r) c.cut.ensures
    ∙ checked_one (ends p) (p q.start) (p q.end) i (all_ends p rs) lt c.requires.sound c.ending_by.ensures.point (omega arith) xs c.first-item-2.result (tail_seen (ends p) rs i) some c.first-item-2.is st alone

pub returns-in_default : goal.returns-in_default
returns-in_default g c =
    let p = g.I.Index.position in
    let q = c.args.query in
    let rs = c.args.ranges.now in
    let i = c.ending_by.result in
    let xs = take (length rs - i) (drop i rs) in
    let lt : p q.start < p q.end = grind (arith, nat_tests) in
    let l = length-map rs (ends p) in
    elim c.in_default.branch [
      | in_default-via-then-ranges-ending_by-lt1 w ↦
          let none : length xs < 1 = grind arith in
          checked_none (ends p) (p q.start) (p q.end) i (all_ends p rs) lt c.requires.sound c.ending_by.ensures.point (omega arith) xs (tail_seen (ends p) rs i) none
      | in_default-via-else-ranges-ending_by-lt1+in-len1-up+else-before-2 w ↦
          let some : 1 ≤ length xs = search rules in
          let ge : p q.end ≤ p w.first-item-2.result.start = grind (arith, nat_tests) in
          checked_clear (ends p) (p q.start) (p q.end) i (all_ends p rs) lt c.requires.sound c.ending_by.ensures.point (omega arith) xs w.first-item-2.result (tail_seen (ends p) rs i) some w.first-item-2.is ge
    ]
