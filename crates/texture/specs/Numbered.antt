-- The numbers by which users name dimensions, formats and ways of clearing, and what seven numbers describe.
use Rattle.std.specs.Prelude.{ℕ, cond, Some, None, Ok, Err, Option, Result, ◌==◌}
use Rattle.std.specs.Option.{ok_or}
use Rattle.fault.specs.declared.refusal.Refusal.{Refusal}
use Rattle.fault.specs.declared.refusal.Refusal.TheVariants.{BadDescription}
use Rattle.texture.specs.declared.format.Format.{Format}
use Rattle.texture.specs.declared.format.Format.TheVariants.{R8Unorm, Rgba8Unorm, Rgba32Float, Bc1RgbaUnorm, Astc6x5Unorm, Depth32Float}
use Rattle.texture.specs.declared.format.Dimension.{Dimension}
use Rattle.texture.specs.declared.format.Dimension.TheVariants.{D2, D3}
use Rattle.texture.specs.declared.format.ClearMode.{ClearMode}
use Rattle.texture.specs.declared.format.ClearMode.TheVariants as mode
use Rattle.texture.specs.declared.format.UnknownNumber.{UnknownNumber}
use Rattle.texture.specs.Shapes.{Shape, proper}

-- the case that a number names, or the number as one that names none
abbrev pub known : {A : Type 0} → ℕ → Option A → Result A UnknownNumber
known n a = ok_or a (record { 0 = n })

-- dimensions go by their own number
abbrev pub dimension_of : ℕ → Option Dimension
dimension_of n = cond (n == 2) (Some D2) (cond (n == 3) (Some D3) None)

-- formats are numbered from 0
abbrev pub format_of : ℕ → Option Format
format_of n =
    cond (n == 0) (Some R8Unorm)
    (cond (n == 1) (Some Rgba8Unorm)
    (cond (n == 2) (Some Rgba32Float)
    (cond (n == 3) (Some Bc1RgbaUnorm)
    (cond (n == 4) (Some Astc6x5Unorm)
    (cond (n == 5) (Some Depth32Float) None)))))

-- and so are ways of clearing
abbrev pub mode_of : ℕ → Option ClearMode
mode_of n =
    cond (n == 0) (Some mode.None)
    (cond (n == 1) (Some mode.Copies)
    (cond (n == 2) (Some mode.ColourPass)
    (cond (n == 3) (Some mode.DepthPass) None)))

-- what a number must name: a number that names nothing describes nothing
abbrev pub named : {A : Type 0} → Option A → (A → Result Shape Refusal) → Result Shape Refusal
named (Some a) made = made a
named None made = Err BadDescription

-- a shape is made where it is proper
abbrev pub if_proper : Shape → Result Shape Refusal
if_proper s = cond (proper s) (Ok s) (Err BadDescription)

-- what the seven numbers of a description describe: dimension, format, way of clearing, width, height, layers or depth, mips
abbrev pub described : ℕ → ℕ → ℕ → ℕ → ℕ → ℕ → ℕ → Result Shape Refusal
described d f c w h n m =
    named (dimension_of d) (λ dimension. named (format_of f) (λ format. named (mode_of c) (λ mode.
    if_proper (record { dimension = dimension; format = format; mode = mode; width = w; height = h; count = n; mips = m }))))
