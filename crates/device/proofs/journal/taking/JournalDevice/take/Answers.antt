-- A command written down paints what those before it left.
use Rattle.std.proofs.Common.{List, take, vec_items, refl, ap, ◌∙◌, arith}
use Rattle.std.proofs.lemmas.List.{take_more_set}
use Rattle.device.specs.Journal.{meaning_of}
use Rattle.device.specs.Meaning.{ran}
use Rattle.device.specs.declared.command.Command.{Command}
use Rattle.device.proofs.Cells.{ran_push}
use Rattle.device.proofs.Extents.{allowed_since}
use Rattle.device.proofs.journal.taking.JournalDevice.take.Goals as goal

pub returns : goal.returns
returns c =
    let j = c.args.self.now in
    let items = vec_items j.records in
    let wrote = take_more_set items j.used c.args.c (omega arith) in
    record {
      answer = allowed_since (meaning_of j) c.args.c c.extent_at.result (omega arith) c.extent_at.ensures c.if-not-fits.ensures;
      took = record {
        cells = λ s i. ap (λ (cs : List Command). ran (λ _ _. j.start) cs s i) wrote ∙ ran_push (λ _ _. j.start) (take j.used items) c.args.c s i;
        extents = λ s. refl;
        spent = omega arith;
      };
      kept = record { writes = wrote; begins = refl; reaches = refl; room = refl };
    }
