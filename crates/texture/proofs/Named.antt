-- What a number names, read back from the conversion that names it.
use Rattle.std.proofs.Common.{◌≡◌, ℕ, Some, None, Ok, Option}
use Rattle.texture.specs.Numbered.{known}

pub known_some : {A : Type 0} (n : ℕ) (a : Option A) (x : A) → known n a ≡ Ok x → a ≡ Some x
known_some n None x h = cc
known_some n (Some y) x h = cc
