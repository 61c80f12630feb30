use Rattle.std.proofs.Common.{◌≡◌, ◌+◌, map, length, take, refl, ap, ◌∙◌, arith}
use Rattle.std.proofs.lemmas.List.{length-take-le, take_at}
use Rattle.std.proofs.lemmas.List.Edits.{length-insert}
use Rattle.range_list.specs.View.{ends}
use Rattle.range_list.proofs.Moves.{map_inserted}
use Rattle.range_list.proofs.Shifts.{opened_front}
use Rattle.range_list.proofs.list.InitTracker.insert.Goals as goal

pub returns-clause-held : goal.returns-clause-held
returns-clause-held g c =
    let xs = c.args.self.now.places.now in
    let n = c.args.self.now.len in
    let i = c.args.i in
    let s = c.args.s in
    let q = c.open_at.new.part in
    let f = ends g.I.Index.position in
    let e = opened_front xs q n i s (omega arith) c.open_at.ensures in
    let t = length-take-le n xs (omega arith) in
    let l : length q ≡ n + 1 = ap length e ∙ length-insert (take n xs) i s (omega arith) ∙ ap (λ m. m + 1) t in
    (refl, ap (map f) (take_at q _ (n + 1) l ∙ e) ∙ map_inserted f (take n xs) i s)
