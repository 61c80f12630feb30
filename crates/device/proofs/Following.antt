-- One command more after a list of commands: taken, it belongs to the list; declined, nothing has changed.
use Rattle.std.proofs.Common.{◌≡◌, ◌<◌, true, ltb, List, [], ◌∷◌, ◌++◌, sym, ◌∙◌, arith}
use Rattle.std.proofs.lemmas.List.{length_push}
use Rattle.std.proofs.lemmas.Bool.{ltb-true, and_parts}
use Rattle.device.specs.Commands.{fits_in}
use Rattle.device.specs.Meaning.{Followed, Meaning, Took, allowed, ran}
use Rattle.device.specs.declared.command.Command.{Command}
use Rattle.device.proofs.Cells.{painted_same, ran_push}

-- a taken command joins the list
pub followed_more : (m n o : Meaning) (cs : List Command) (c : Command) → Followed m cs n → true ≡ allowed n c → Took n c true o → Followed m (cs ++ (c ∷ [])) o
followed_more m n o cs c so may took =
    let some : 0 < n.allowance = ltb-true 0 n.allowance (and_parts (ltb 0 n.allowance) (fits_in n.extent c) (sym may)).0 in
    record {
      cells = λ s i. took.cells s i ∙ painted_same n.cell (ran m.cell cs) c so.cells s i ∙ sym (ran_push m.cell cs c s i);
      extents = λ s. took.extents s ∙ so.extents s;
      spent = omega (arith, length_push cs c, took.spent, so.spent);
    }
