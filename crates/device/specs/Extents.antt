-- Each extent within its bound: what the devices keep of the trait's law.
use Rattle.std.specs.Prelude.{◌≡◌, ℕ, zero, suc, ◌≤◌, true, List, [], ◌∷◌, nat_le, slice_index}
use Rattle.std.proofs.Common.{arith}
use Rattle.std.proofs.lemmas.Bool.{leb-true, and_parts}
use Rattle.device.specs.Meaning.{all_within, most_cells}

-- each extent of a list that is within bounds is itself within bounds
pub extent_within : (es : List ℕ) (s : ℕ) → all_within es ≡ true → slice_index es s ≤ most_cells
extent_within [] s e = omega arith
extent_within (x ∷ es) zero e = leb-true x most_cells (and_parts (nat_le x most_cells) (all_within es) e).0
extent_within (x ∷ es) (suc s) e = extent_within es s (and_parts (nat_le x most_cells) (all_within es) e).1
