-- A planner over a journal goes from moment to moment as the session says.
use Rattle.std.proofs.Common.{◌≡◌, ℕ, ◌-◌, List, length, get_or, replicate, vec_items, vec_len, ap, ◌∙◌, arith}
use Rattle.std.proofs.lemmas.List.{length-take-le}
use Rattle.device.specs.Journal.{Continued, meaning_of, written}
use Rattle.device.specs.Meaning.{Meaning, most_cells, ran}
use Rattle.device.specs.declared.command.Command.{Command}
use Rattle.device.specs.declared.journal.Journal.{Journal}
use Rattle.rules.specs.State.{State}
use Rattle.rules.specs.Calls.{outcome}
use Rattle.rules.specs.declared.call.Call.{Call}
use Rattle.rules.specs.declared.report.Report.{Report}
use Rattle.session_file.specs.Session.{device_after, done}
use Rattle.session_file.specs.Standing.{MadeBy, moment_of, performed}
use Rattle.session_file.specs.declared.header.Header.{Header}

-- a journal as others see it, by its parts
meaning : List ℕ → ℕ → List Command → ℕ → Meaning
meaning extents start log allowance =
    record { extent = λ s. get_or extents s 0; cell = λ s i. ran (λ _ _. start) log s i; allowance = allowance }

-- what is left of a journal's room
room_left : (j : Journal) (n : ℕ) → vec_len j.records ≡ n → vec_len j.records - j.used ≡ n - length (written j)
room_left j n h =
    let used : length (written j) ≡ j.used = length-take-le j.used (vec_items j.records) (omega (arith, j.room, j.records.ok.0)) in
    omega arith

-- a journal made as the header asks is the session's device after what is written
pub device_agrees : (h : Header) (j : Journal) → MadeBy h j → meaning_of j ≡ device_after h (written j)
unfolding meaning
device_agrees h j m =
    ap (λ x. meaning x j.start (written j) (vec_len j.records - j.used)) m.reaches
    ∙ ap (λ x. meaning (replicate 24 most_cells) x (written j) (vec_len j.records - j.used)) m.begins
    ∙ ap (meaning (replicate 24 most_cells) h.start (written j)) (room_left j h.allowance m.room)

-- what a call does to the planner is what it does in the session
pub performed_done : (h : Header) (st : State) (j : Journal) (r : Report) (c : Call) → MadeBy h j → performed st j r c ≡ done h (moment_of st j r) c
performed_done h st j r c m = ap (λ x. outcome st x r c) (device_agrees h j m)

-- what was given at making stays
pub still_made : (h : Header) (j k : Journal) (cs : List Command) → MadeBy h j → Continued j cs k → MadeBy h k
still_made h j k cs m e =
    record { begins = e.begins ∙ m.begins; reaches = e.reaches ∙ m.reaches; room = e.room ∙ m.room }
