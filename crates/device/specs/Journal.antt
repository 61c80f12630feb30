-- What a journal stands for: the memory that its commands would leave, were they carried out.
use Rattle.std.specs.Prelude.{◌≡◌, ℕ, ◌-◌, List, [], ◌++◌, take, vec_items, vec_len, Vec, slice_index}
use Rattle.std.specs.declared.alloc.Global.{Global}
use Rattle.device.specs.Meaning.{Meaning, ran}
use Rattle.device.specs.declared.command.Command.{Command}
use Rattle.device.specs.declared.journal.Journal.{Journal}

-- the commands taken so far, in order
abbrev pub written : Journal → List Command
written j = take j.used (vec_items j.records)

-- cells begin at one byte and hold what the written commands leave; the extents are those given; each free record is
-- one command that is still taken
abbrev pub meaning_of : Journal → Meaning
meaning_of j = record { extent = λ s. slice_index j.extents s; cell = λ s i. ran (λ _ _. j.start) (written j) s i; allowance = vec_len j.records - j.used }

-- a journal after some commands: they are written behind those before them, and what was given at making stays
pub record Continued (j : Journal) (cs : List Command) (k : Journal) : Type 0 where
  pub writes : written k ≡ written j ++ cs
  pub begins : k.start ≡ j.start
  pub reaches : k.extents ≡ j.extents
  pub room : vec_len k.records ≡ vec_len j.records

-- a journal just made: nothing is written, and the start byte, the extents and the records are those given
pub record Fresh (records : Vec Command Global) (start : ℕ) (extents : List ℕ) (j : Journal) : Type 0 where
  pub nothing : written j ≡ []
  pub cells : (s i : ℕ) → (meaning_of j).cell s i ≡ start
  pub begins : j.start ≡ start
  pub reaches : j.extents ≡ extents
  pub free : (meaning_of j).allowance ≡ vec_len records
  pub memory : j.records ≡ records
