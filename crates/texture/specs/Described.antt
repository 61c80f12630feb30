-- A descriptor as the shape that it holds.
use Rattle.std.specs.Prelude.{Ok, Err, Result}
use Rattle.fault.specs.declared.refusal.Refusal.{Refusal}
use Rattle.texture.specs.Shapes.{Shape}
use Rattle.texture.specs.declared.descriptor.TextureDescriptor.{TextureDescriptor}

-- the shape of a descriptor
abbrev pub shape_of : TextureDescriptor → Shape
shape_of d = d.shape

-- what was made, by its shape
abbrev pub shape_made : Result TextureDescriptor Refusal → Result Shape Refusal
shape_made (Ok d) = Ok (shape_of d)
shape_made (Err e) = Err e
