use Rattle.texture.proofs.Sides.{cells_few}
use Rattle.texture.proofs.Tiles.{lands, alone_mip, alone_layer, alone_cell}
use Rattle.texture.proofs.meaning.tiling_stands.Goals as goal

pub returns : goal.returns
returns c = record {
  lands = λ s i h lt. lands s i lt;
  alone = λ s m l i mip layer h. (alone_mip s m l i mip layer h, alone_layer s m l i mip layer h, alone_cell s m l i mip layer h);
  few = cells_few;
}
