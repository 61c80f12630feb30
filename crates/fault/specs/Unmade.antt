-- What is not made gives back what was given for it.
use Rattle.std.specs.Prelude.{◌≡◌}
use Rattle.fault.specs.declared.refusal.Refusal.TheVariants.{BadDescription}
use Rattle.fault.specs.declared.unmade.Unmade.{Unmade}

-- the description is at fault, and what was given comes back unchanged
pub record Returned {T : Type 0} (given : T) (u : Unmade T) : Type 0 where
  pub cause : u.refusal ≡ BadDescription
  pub memory : u.given ≡ given
