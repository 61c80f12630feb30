-- Which part declines a call for a cause, and what the fault then names.
use Rattle.std.specs.Prelude.{Bool, true, false, cond, ℕ}
use Rattle.fault.specs.declared.Fault.{Fault}
use Rattle.fault.specs.declared.call_kind.CallKind.{CallKind}
use Rattle.fault.specs.declared.call_kind.CallKind.TheVariants.{MakeBuffer, MakeTexture, Destroy, Open, Close, Abandon, BufferRead, BufferWrite, ClearBuffer, TextureWrite, Announce, Settle, Withdraw, Discard, ClearTexture, Submit, Other}
use Rattle.fault.specs.declared.refusal.Refusal.{Refusal}
use Rattle.fault.specs.declared.refusal.Refusal.TheVariants.{Unknown, WrongState, InDebt, Destroyed, NoCopyUsage, UnalignedStart, UnalignedEnd, AddressOverflow, PastBuffer, Backward, MissingAspect, PastMips, PastLayers, DiscardNotCovered, NoClearMode, ListFull, PlacesFull, AllowanceShort, NoNumberFree, BadDescription, NotThisDebt}
use Rattle.fault.specs.declared.refusal.Part.{Part}
use Rattle.fault.specs.declared.refusal.Part.TheVariants.{RangeList, Clear, List, Submission, Making}

-- a bad range or a missing usage is the clear's own from a clear, and the list's from any other call
abbrev pub range_part : CallKind → Part
range_part MakeBuffer = List
range_part MakeTexture = List
range_part Destroy = List
range_part Open = List
range_part Close = List
range_part Abandon = List
range_part BufferRead = List
range_part BufferWrite = List
range_part ClearBuffer = Clear
range_part TextureWrite = List
range_part Announce = List
range_part Settle = List
range_part Withdraw = List
range_part Discard = List
range_part ClearTexture = Clear
range_part Submit = List
range_part Other = List

-- a destroyed resource is submission's own refusal from submit, and the list's from any other call
abbrev pub destroyed_part : CallKind → Part
destroyed_part MakeBuffer = List
destroyed_part MakeTexture = List
destroyed_part Destroy = List
destroyed_part Open = List
destroyed_part Close = List
destroyed_part Abandon = List
destroyed_part BufferRead = List
destroyed_part BufferWrite = List
destroyed_part ClearBuffer = List
destroyed_part TextureWrite = List
destroyed_part Announce = List
destroyed_part Settle = List
destroyed_part Withdraw = List
destroyed_part Discard = List
destroyed_part ClearTexture = List
destroyed_part Submit = Submission
destroyed_part Other = List

-- the part, by call and cause
abbrev pub part_of : CallKind → Refusal → Part
part_of k Unknown = List
part_of k WrongState = List
part_of k InDebt = List
part_of k Destroyed = destroyed_part k
part_of k NoCopyUsage = range_part k
part_of k UnalignedStart = range_part k
part_of k UnalignedEnd = range_part k
part_of k AddressOverflow = range_part k
part_of k PastBuffer = range_part k
part_of k Backward = range_part k
part_of k MissingAspect = range_part k
part_of k PastMips = range_part k
part_of k PastLayers = range_part k
part_of k DiscardNotCovered = List
part_of k NoClearMode = Clear
part_of k ListFull = List
part_of k PlacesFull = RangeList
part_of k AllowanceShort = Submission
part_of k NoNumberFree = Making
part_of k BadDescription = Making
part_of k NotThisDebt = List

-- causes that concern no resource and no step: unknown numbers, the list's state, the allowance, making, another debt
abbrev pub names_nothing : Refusal → Bool
names_nothing Unknown = true
names_nothing WrongState = true
names_nothing InDebt = true
names_nothing Destroyed = false
names_nothing NoCopyUsage = false
names_nothing UnalignedStart = false
names_nothing UnalignedEnd = false
names_nothing AddressOverflow = false
names_nothing PastBuffer = false
names_nothing Backward = false
names_nothing MissingAspect = false
names_nothing PastMips = false
names_nothing PastLayers = false
names_nothing DiscardNotCovered = false
names_nothing NoClearMode = false
names_nothing ListFull = false
names_nothing PlacesFull = false
names_nothing AllowanceShort = true
names_nothing NoNumberFree = true
names_nothing BadDescription = true
names_nothing NotThisDebt = true

-- the resource that a fault names, 255 for none
abbrev pub resource_of : Refusal → ℕ → ℕ
resource_of r resource = cond (names_nothing r) 255 resource

-- the place of the step that a fault names, 64 for none
abbrev pub place_of : Refusal → ℕ → ℕ
place_of r place = cond (names_nothing r) 64 place

-- the fault of a call: its cause, the part that declines it, and what it names
abbrev pub fault_of : CallKind → Refusal → ℕ → ℕ → Fault
fault_of k r resource place = record { refusal = r; part = part_of k r; resource = resource_of r resource; place = place_of r place }
