use Rattle.std.proofs.Common.{List, map, replicate, rules, refl, ap, ◌∙◌}
use Rattle.rules.specs.State.{State, Buffer, CommandList, no_buffer}
use Rattle.planner.specs.Listed.{view_list}
use Rattle.planner.proofs.Made.{all_idle}
use Rattle.planner.proofs.planner.Planner.new.Goals as goal

pub returns-clause-made : goal.returns-clause-made
returns-clause-made g c =
    let made : List Buffer → List CommandList → State = λ bs ls. record { made = 0; buffers = bs; lists = ls; mark = c.args.mark; pitch = c.args.pitch } in
    let lists = all_idle c.from_fn.result 4 c.from_fn.ensures.items.long (λ i d lt. let called = c.from_fn.ensures.items.at i d lt in search rules) in
    record {
      state = ap (λ b. made (replicate 16 b) (map view_list c.from_fn.result)) c.no_buffer.ensures ∙ ap (made (replicate 16 no_buffer)) lists;
      device = refl;
    }
