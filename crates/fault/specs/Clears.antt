-- What a clear can find wrong, as the cause that it is declined for.
use Rattle.fault.specs.declared.clear_error.ClearError.{ClearError}
use Rattle.fault.specs.declared.clear_error.ClearError.TheVariants as wrong
use Rattle.fault.specs.declared.clear_error.InvalidOrDestroyedResourceError.{InvalidOrDestroyedResourceError}
use Rattle.fault.specs.declared.clear_error.InvalidOrDestroyedResourceError.TheVariants as resource
use Rattle.fault.specs.declared.refusal.Refusal.{Refusal}
use Rattle.fault.specs.declared.refusal.Refusal.TheVariants as cause

-- a resource that is not there, or destroyed, is that error of a clear
abbrev pub clear_error_of : InvalidOrDestroyedResourceError → ClearError
clear_error_of resource.InvalidResource = wrong.InvalidResource
clear_error_of resource.DestroyedResource = wrong.DestroyedResource

-- each error of a clear has one cause
abbrev pub refusal_of : ClearError → Refusal
refusal_of wrong.DestroyedResource = cause.Destroyed
refusal_of wrong.NoValidTextureClearMode = cause.NoClearMode
refusal_of (wrong.UnalignedFillSize n) = cause.UnalignedEnd
refusal_of (wrong.UnalignedBufferOffset n) = cause.UnalignedStart
refusal_of (wrong.OffsetPlusSizeExceeds64BitBounds o n) = cause.AddressOverflow
refusal_of (wrong.BufferOverrun a e n) = cause.PastBuffer
refusal_of wrong.MissingBufferUsage = cause.NoCopyUsage
refusal_of wrong.MissingTextureAspect = cause.MissingAspect
refusal_of wrong.InvalidTextureLevelRange = cause.PastMips
refusal_of wrong.InvalidTextureLayerRange = cause.PastLayers
refusal_of wrong.InvalidResource = cause.Unknown
