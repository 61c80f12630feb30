-- A planner as the rules speak of it.
use Rattle.std.specs.Prelude.{map}
use Rattle.device.specs.declared.interface.Device.{Ghosts}
use Rattle.rules.specs.State.{State}
use Rattle.plan.specs.Views.{view_buffers}
use Rattle.planner.specs.Listed.{view_list}
use Rattle.planner.specs.declared.planner.Planner.{Planner}

-- its buffers and lists by number, and what is fixed at making
abbrev pub view : {D : Type 0} {ghosts : Ghosts D} → Planner D ghosts → State
view p =
    record { made = p.made; buffers = view_buffers p.buffers; lists = map view_list p.lists; mark = p.mark; pitch = p.pitch }
