use Rattle.std.proofs.Common.{◌≡◌, ℕ, ◌<◌, ◌≤◌, ltb, leb, not, leb-true, leb-false, arith, rules}
use Rattle.std.proofs.lemmas.List.Sorted.{IsPartitionPoint-from_clause, IsPartitionedBy-leb}
use Rattle.std.proofs.lemmas.Bool.Decides.{nat_tests}
use Rattle.range_list.specs.View.{ends}
use Rattle.range_list.proofs.Points.{point_seen, ends_rise}
use Rattle.range_list.proofs.bisect.ending_by.Goals as goal

not_ltb : (a b : ℕ) → not (ltb a b) ≡ leb b a
not_ltb a b = grind (arith, nat_tests)

pub returns-clause-point : goal.returns-clause-point
returns-clause-point g c =
    let p = g.I.Index.position in
    let at = p c.args.at in
    let xs = c.args.ranges.now in
    let parted = IsPartitionedBy-leb (λ s. p s.end) xs at (ends_rise p xs c.requires) in
    let point = IsPartitionPoint-from_clause (λ s. leb (p s.end) at) xs _ c.partition_point.ensures.partitioned parted (λ a r q k. search (rules, not_ltb)) in
    point_seen (ends p) _ _ (λ r. r.1 ≤ at) (λ r. at < r.1) xs _ c.partition_point.ensures.bound (λ s e. leb-true (p s.end) at e) (λ s e. leb-false (p s.end) at e) point
