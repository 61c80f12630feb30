use Rattle.std.proofs.Common.{rules, ◌∙◌, ◌<◌, ◌^◌, map, arith}
use Rattle.std.proofs.lemmas.Iterator.{YieldsList-from_map, YieldsList-from_range}
use Rattle.std.proofs.lemmas.Iterator.Consumers.{sum_from_yields_List, fits_from_yields_list}
use Rattle.std.specs.List.{sum, range_with_len}
use Rattle.texture.specs.Described.{shape_of}
use Rattle.texture.proofs.Proper.{mips_kept}
use Rattle.texture.proofs.Sides.{mip_cells, mip_first_few, sum_cells}
use Rattle.texture.proofs.descriptor.TextureDescriptor.mip_first.Goals as goal

pub sum-requires-clause-fits : goal.sum-requires-clause-fits
sum-requires-clause-fits c =
    let s = shape_of c.args.self in
    let n = c.args.mip in
    let few : sum (map (mip_cells s) (range_with_len 0 n)) < 2 ^ 64 = omega (arith, sum_cells s n, mip_first_few s c.args.self.fit n, (mips_kept s c.args.self.fit).1, c.requires) in
    fits_from_yields_list c.map.result (2 ^ 64)
    (YieldsList-from_map _ (mip_cells s) (YieldsList-from_range 0 n n c.map.ensures.source (omega arith)) c.map.ensures.closure (λ x r q k. search rules))
    few

pub returns : goal.returns
returns c =
    let s = shape_of c.args.self in
    let n = c.args.mip in
    sum_from_yields_List c.map.result c.sum.result c.sum.ensures.ran
    (YieldsList-from_map _ (mip_cells s) (YieldsList-from_range 0 n n c.map.ensures.source (omega arith)) c.map.ensures.closure (λ x r q k. search rules))
    ∙ sum_cells s n
