-- The numbers by which users know each cause and each part.
use Rattle.std.specs.Prelude.{ℕ}
use Rattle.fault.specs.declared.refusal.Refusal.{Refusal}
use Rattle.fault.specs.declared.refusal.Refusal.TheVariants.{Unknown, WrongState, InDebt, Destroyed, NoCopyUsage, UnalignedStart, UnalignedEnd, AddressOverflow, PastBuffer, Backward, MissingAspect, PastMips, PastLayers, DiscardNotCovered, NoClearMode, ListFull, PlacesFull, AllowanceShort, NoNumberFree, BadDescription, NotThisDebt}
use Rattle.fault.specs.declared.refusal.Part.{Part}
use Rattle.fault.specs.declared.refusal.Part.TheVariants.{RangeList, Clear, List, Submission, Making}

-- each cause has its own number, in the order in which causes are tried
abbrev pub number_of : Refusal → ℕ
number_of Unknown = 1
number_of WrongState = 2
number_of InDebt = 3
number_of Destroyed = 4
number_of NoCopyUsage = 5
number_of UnalignedStart = 6
number_of UnalignedEnd = 7
number_of AddressOverflow = 8
number_of PastBuffer = 9
number_of Backward = 10
number_of MissingAspect = 11
number_of PastMips = 12
number_of PastLayers = 13
number_of DiscardNotCovered = 14
number_of NoClearMode = 15
number_of ListFull = 16
number_of PlacesFull = 17
number_of AllowanceShort = 18
number_of NoNumberFree = 19
number_of BadDescription = 20
number_of NotThisDebt = 21

-- the parts, from the lowest layer up
abbrev pub part_number : Part → ℕ
part_number RangeList = 1
part_number Clear = 2
part_number List = 3
part_number Submission = 4
part_number Making = 5
