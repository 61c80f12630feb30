-- A planner just made, or not made.
use Rattle.std.specs.Prelude.{◌≡◌, ℕ, Bool, ◌&&◌, nat_le}
use Rattle.device.specs.declared.interface.Device.{Ghosts}
use Rattle.rules.specs.State.{new_state}
use Rattle.planner.specs.View.{view}
use Rattle.planner.specs.declared.planner.Planner.{Planner}

-- rows of a copy are aligned to 1 to 256 bytes
abbrev pub pitched : ℕ → Bool
pitched n = nat_le 1 n && nat_le n 256

-- nothing is made yet, and the device is the one given
pub record Fresh {D : Type 0} {ghosts : Ghosts D} (given : D) (mark pitch : ℕ) (p : Planner D ghosts) : Type 0 where
  pub state : view p ≡ new_state mark pitch
  pub device : p.device ≡ given
