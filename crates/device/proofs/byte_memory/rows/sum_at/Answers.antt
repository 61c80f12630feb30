-- A slot's sum is its row's, and that of a slot with no row is empty.
use Rattle.std.proofs.Common.{◌≡◌, ℕ, length, ◌<◌, ◌+◌, ◌-◌, List, get_or, vec_items, sym, ◌∙◌, ap, take, drop, sum, arith, rules}
use Rattle.device.specs.Rows.{byte_at}
use Rattle.device.proofs.Slots.{byte_here, length_here, length_past}
use Rattle.device.proofs.Sums.{summed_empty, summed_same, sum_part}
use Rattle.device.proofs.byte_memory.rows.sum_at.Goals as goal

pub returns-in-Some : goal.returns-in-Some
returns-in-Some c =
    let rows = c.args.rows.now in
    let row = c.in-Some.row.now in
    let first = c.args.first in
    let count = c.args.count in
    let f : ℕ → ℕ = λ i. get_or (vec_items row) i 0 in
    let less : c.args.slot < length rows = search rules in
    let is : row ≡ get_or rows c.args.slot row = search rules in
    let n : first + count - first ≡ count = omega arith in
    let part : c.sum_of.result ≡ sum (take count (drop first (vec_items row)))
    = c.sum_of.ensures ∙ ap (λ (xs : List ℕ). sum (take (first + count - first) (drop first xs))) c.deref.ensures.value ∙ ap (λ (k : ℕ). sum (take k (drop first (vec_items row)))) n in
    part ∙ sum_part (vec_items row) first count (omega (arith, length_here rows c.args.slot row less is)) ∙ summed_same f (byte_at rows c.args.slot) first count (λ i l u. sym (byte_here rows c.args.slot row less is i))

pub returns-in-None : goal.returns-in-None
returns-in-None c =
    let none = length_past c.args.rows.now c.args.slot (search rules) in
    summed_empty _ c.args.first c.args.count (omega arith)
