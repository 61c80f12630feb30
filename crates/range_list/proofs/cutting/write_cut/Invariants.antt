use Rattle.std.proofs.Common.{◌≡◌, map, take, drop}
use Rattle.range_list.specs.Ranges.{clipped}
use Rattle.range_list.specs.View.{all_ends}
use Rattle.range_list.proofs.cutting.write_cut.Given as goal

abbrev pub invariant-loop-k : goal.invariant-loop-k
invariant-loop-k g l = record {
  cut : all_ends g.I.Index.position (take l.k l.out) ≡ map (clipped (g.I.Index.position l.query.start) (g.I.Index.position l.query.end)) (all_ends g.I.Index.position (take l.k l.ranges));
  rest : drop l.k l.out ≡ drop l.k l.initial.out;
}
