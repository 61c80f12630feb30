-- Numbers in a file: their bytes, the lowest first.
use Rattle.std.specs.Prelude.{ℕ, ◌+◌, ◌*◌, List, slice_index}

-- the byte at a place
abbrev pub byte : List ℕ → ℕ → ℕ
byte xs i = slice_index xs i

-- the 32-bit number at a place
abbrev pub word : List ℕ → ℕ → ℕ
word xs i = byte xs i + byte xs (i + 1) * 256 + byte xs (i + 2) * 65536 + byte xs (i + 3) * 16777216

-- the 64-bit number at a place
abbrev pub long : List ℕ → ℕ → ℕ
long xs i =
    byte xs i + byte xs (i + 1) * 256 + byte xs (i + 2) * 65536 + byte xs (i + 3) * 16777216 + byte xs (i + 4) * 4294967296
    + byte xs (i + 5) * 1099511627776 + byte xs (i + 6) * 281474976710656 + byte xs (i + 7) * 72057594037927936
