use Rattle.std.proofs.Common.{◌≡◌, Some, sym, ◌∙◌}
use Rattle.texture.specs.Numbered.{dimension_of, format_of, mode_of}
use Rattle.texture.proofs.Named.{known_some}
use Rattle.texture.proofs.descriptor.TextureDescriptor.new.Goals as goal

pub returns : goal.returns
returns c =
    let n = c.args.numbers in
    let dimension : dimension_of n.dimension ≡ Some c.in_ok-try_from.field-0 = known_some n.dimension _ _ (sym c.try_from.ensures ∙ c.in_ok-try_from.was) in
    let format : format_of n.format ≡ Some c.in_ok-try_from-2.field-0 = known_some n.format _ _ (sym c.try_from-2.ensures ∙ c.in_ok-try_from-2.was) in
    let mode : mode_of n.mode ≡ Some c.in_ok-try_from-3.field-0 = known_some n.mode _ _ (sym c.try_from-3.ensures ∙ c.in_ok-try_from-3.was) in
    rw (dimension, format, mode) c.try_from-4.ensures
