-- A small file and its listing: a buffer of 6 bytes, 0..4 written with 9, 0..6 read, submitted, and submitted again.
use Rattle.std.specs.Prelude.{◌≡◌, ℕ, List, [], ◌∷◌, ◌++◌, replicate, codes}
use Rattle.session_file.specs.Session.{listing}

-- a 32-bit number by its two low bytes
abbrev pub small32 : ℕ → ℕ → List ℕ
small32 low high = low ∷ high ∷ 0 ∷ 0 ∷ []

-- a 64-bit number by its low byte
abbrev pub small64 : ℕ → List ℕ
small64 n = n ∷ replicate 7 0

-- a call by its first four bytes and its two long numbers
abbrev pub packed : ℕ → ℕ → ℕ → ℕ → ℕ → ℕ → List ℕ
packed op list resource small x y =
    op ∷ list ∷ resource ∷ small ∷ (replicate 4 0 ++ (small64 x ++ (small64 y ++ replicate 8 0)))

-- 7 calls behind the header, 1,024 commands, cells that begin at 7, a pitch of 256
abbrev pub sample_header : List ℕ
sample_header = small32 7 0 ++ (small32 20 0 ++ (small32 0 4 ++ (small32 7 0 ++ small32 0 1)))

-- the header and the seven calls
abbrev pub sample_file : List ℕ
sample_file =
    sample_header
    ++ (packed 1 0 0 0 6 0
    ++ (packed 4 0 0 0 0 0
    ++ (packed 9 0 0 9 0 4
    ++ (packed 8 0 0 0 0 6
    ++ (packed 5 0 0 0 0 0
    ++ (packed 7 0 0 0 0 0
    ++ packed 7 0 0 0 0 0))))))

-- the file's listing
pub record SampleLists : Type 0 where
  pub lists : listing sample_file
      ≡ codes "1 ok 0\n2 ok 0\n3 ok 0\n4 ok 0\n5 ok 0\nclear 0 4 4\nfill 0 0 4 9\nsum 36\n6 ok 4\n7 no 2\n"
