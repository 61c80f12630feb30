use Rattle.std.proofs.Common.{◌-◌, map, take, ap, ◌∙◌, arith}
use Rattle.range_list.specs.View.{ends}
use Rattle.range_list.proofs.Moves.{map_removed}
use Rattle.range_list.proofs.Shifts.{removed}
use Rattle.range_list.proofs.list.InitTracker.remove.Goals as goal

pub returns-clause-held : goal.returns-clause-held
returns-clause-held g c =
    let xs = c.args.self.now.places.now in
    let n = c.args.self.now.len in
    let f = ends g.I.Index.position in
    ap (λ l. map f (take (n - (c.args.k - c.args.i)) l)) c.copy_within.ensures.after
    ∙ ap (map f) (removed xs n c.args.i c.args.k (omega arith) (omega arith) (omega arith)) ∙ map_removed f (take n xs) c.args.i c.args.k
