-- The header of a session file: five numbers of 32 bits, and what they may be.
use Rattle.std.specs.Prelude.{ℕ, Bool, cond, ◌&&◌, List, length, Some, None, Option, nat_le}
use Rattle.session_file.specs.Words.{word}
use Rattle.session_file.specs.declared.header.Header.{Header}

-- the five numbers in their order
abbrev pub fields_of : List ℕ → Header
fields_of xs =
    record { calls = word xs 0; offset = word xs 4; allowance = word xs 8; start = word xs 12; pitch = word xs 16 }

-- the calls begin behind the header and within a file of this length, at most 1,024 commands are allowed, cells begin
-- at a byte, and the pitch is 1 to 256
abbrev pub fitting : ℕ → Header → Bool
fitting len h =
    nat_le 20 h.offset && (nat_le h.offset len && (nat_le h.allowance 1024 && (nat_le h.start 255 && (nat_le 1 h.pitch && nat_le h.pitch 256))))

-- the header of a file, or none where the file is too short for one or a number is not as it must be
abbrev pub header_of : List ℕ → Option Header
header_of xs = cond (nat_le 20 (length xs) && fitting (length xs) (fields_of xs)) (Some (fields_of xs)) None
