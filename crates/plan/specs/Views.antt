-- A planner's buffers as the rules speak of them.
use Rattle.std.specs.Prelude.{Bool, true, ◌&&◌, List, [], ◌∷◌, map, nat_le}
use Rattle.init_tracker.specs.Books.{owing}
use Rattle.rules.specs.State.{Buffer as Known}
use Rattle.rules.specs.Uses.{end_of}
use Rattle.rules.specs.declared.step.Step.{Step}
use Rattle.plan.specs.declared.buffer.Buffer.{Buffer}

-- a buffer, with its book as ranges
abbrev pub view_buffer : Buffer → Known
view_buffer b = record { size = b.size; copy = b.copy; standing = b.standing; owes = owing b.book }

abbrev pub view_buffers : List Buffer → List Known
view_buffers bs = map view_buffer bs

-- the steps of a list end within the greatest buffer
abbrev pub all_small : List Step → Bool
all_small [] = true
all_small (s ∷ ss) = nat_le (end_of s) 268435456 && all_small ss
