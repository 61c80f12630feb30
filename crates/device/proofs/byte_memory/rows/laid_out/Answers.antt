-- Rows that are few enough can be a memory where each is short enough.
use Rattle.std.proofs.Common.{vec_len, sym, ap, ◌∙◌, ◌&&◌, leb, length}
use Rattle.std.proofs.lemmas.Bool.{le-leb}
use Rattle.std.proofs.lemmas.List.Folds.{list_all-map}
use Rattle.device.specs.Meaning.{all_within, most_cells}
use Rattle.device.specs.Rows.{lengths}
use Rattle.device.proofs.byte_memory.rows.laid_out.Goals as goal

pub returns-then-rows-le-SLOTS : goal.returns-then-rows-le-SLOTS
returns-then-rows-le-SLOTS c =
    let rows = c.args.rows.now in
    c.all_short.ensures
    ∙ sym (ap (λ b. b && all_within (lengths rows)) (le-leb (length rows) 24 c.if-rows-le-SLOTS.true) ∙ list_all-map (λ n. leb n most_cells) vec_len rows)
