use Rattle.texture.proofs.Rounded.{multiple_aligned}
use Rattle.texture.proofs.descriptor.TextureDescriptor.row_bytes.Goals as goal

pub returns : goal.returns
returns c =
    let up = c.next_multiple_of.ensures in
    cc (multiple_aligned _ _ c.next_multiple_of.result c.common_multiple.ensures.some up.lower_bound up.upper_bound up.multiple)
