use Rattle.std.proofs.Common.{◌<◌, ◌≤◌, ltb, ltb-true, ltb-false, rules}
use Rattle.std.proofs.lemmas.List.Sorted.{IsPartitionPoint-from_clause, IsPartitionedBy-ltb}
use Rattle.range_list.specs.View.{ends}
use Rattle.range_list.proofs.Points.{point_seen, starts_rise}
use Rattle.range_list.proofs.bisect.starting_before.Goals as goal

pub returns-clause-point : goal.returns-clause-point
returns-clause-point g c =
    let p = g.I.Index.position in
    let at = p c.args.at in
    let xs = c.args.ranges.now in
    let parted = IsPartitionedBy-ltb (λ s. p s.start) xs at (starts_rise p xs c.requires) in
    let point = IsPartitionPoint-from_clause (λ s. ltb (p s.start) at) xs _ c.partition_point.ensures.partitioned parted (λ a r q k. search rules) in
    point_seen (ends p) _ _ (λ r. r.0 < at) (λ r. at ≤ r.0) xs _ c.partition_point.ensures.bound (λ s e. ltb-true (p s.start) at e) (λ s e. ltb-false (p s.start) at e) point
