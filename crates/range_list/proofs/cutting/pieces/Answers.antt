use Rattle.std.proofs.Common.{map, length, sym, refl, ap, ◌∙◌, arith}
use Rattle.std.proofs.lemmas.List.{length-map}
use Rattle.range_list.specs.Ranges.{clipped}
use Rattle.range_list.specs.View.{ends, all_ends}
use Rattle.range_list.proofs.Points.{pieces_meeting}
use Rattle.range_list.proofs.cutting.pieces.Goals as goal

pub returns-then-out-met : goal.returns-then-out-met
returns-then-out-met g c =
    let p = g.I.Index.position in
    let q = c.args.query in
    let met = c.meeting-met.result.now in
    let e = pieces_meeting (p q.start) (p q.end) 0 c.requires.sound.0 (all_ends p c.args.ranges.now) c.requires.sound.1 in
    let l = ap length e ∙ length-map _ _ ∙ ap length (sym c.meeting-met.ensures) ∙ length-map met (ends p) in
    (refl, refl, omega arith)

pub returns : goal.returns
returns g c =
    let p = g.I.Index.position in
    let q = c.args.query in
    let e = pieces_meeting (p q.start) (p q.end) 0 c.requires.sound.0 (all_ends p c.args.ranges.now) c.requires.sound.1 in
    (omega arith, c.write_cut.ensures.cut ∙ ap (map (clipped (p q.start) (p q.end))) c.meeting-met.ensures ∙ sym e, c.write_cut.ensures.rest)
