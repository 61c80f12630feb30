-- A command that fits writes its part of one row.
use Rattle.std.proofs.Common.{◌≡◌, ℕ, ◌+◌, ◌&&◌, cond, eqb, List, length, ltb, leb, get_or, vec_items, vec_len, sym, ap, ◌∙◌, arith}
use Rattle.std.specs.Vec.{with_items}
use Rattle.device.specs.Commands.{byte_of}
use Rattle.device.specs.Rows.{Row, byte_at}
use Rattle.device.proofs.Slots.{byte_put, items_written, lengths_set}
use Rattle.device.proofs.byte_memory.rows.paint.Goals as goal

pub returns-clause-long : goal.returns-clause-long
returns-clause-long c =
    let place = c.from-place.result in
    let row = c.index-rows-place.result in
    let same : vec_len (get_or c.args.rows.now place row) ≡ vec_len row = ap (λ (v : Row). vec_len v) (sym c.index-rows-place.is) in
    lengths_set c.args.rows.now place row (omega arith) c.index-rows-place.is (with_items (get_or c.args.rows.now place row) c.fill.new.row) same

pub returns-clause-cells : goal.returns-clause-cells
returns-clause-cells c s i =
    let rows = c.args.rows.now in
    let place = c.from-place.result in
    let row = c.index-rows-place.result in
    let first = c.args.c.first in
    let count = c.args.c.count in
    let whole = get_or rows place row in
    let bytes = vec_items row in
    let was : c.deref_mut.result.now ≡ bytes = c.deref_mut.ensures.value ∙ ap (λ (v : Row). vec_items v) (sym c.index-rows-place.is) in
    let long : length c.fill.new.row ≡ vec_len whole = c.fill.ensures.long ∙ c.deref_mut.ensures.len in
    let now : vec_items (with_items whole c.fill.new.row) ≡ c.fill.new.row = items_written whole c.fill.new.row long in
    let after : (k : ℕ) → get_or (vec_items (with_items whole c.fill.new.row)) k 0 ≡ cond (leb first k && ltb k (first + count)) c.byte.result (get_or bytes k 0)
    = λ k. ap (λ (xs : List ℕ). get_or xs k 0) now ∙ c.fill.ensures.cells k ∙ ap (λ (xs : List ℕ). cond (leb first k && ltb k (first + count)) c.byte.result (get_or xs k 0)) was in
    byte_put rows place row (omega arith) c.index-rows-place.is (with_items whole c.fill.new.row) (λ k. leb first k && ltb k (first + count)) c.byte.result (byte_of c.args.c.kind) c.byte.ensures after s i
    ∙ ap (λ (p : ℕ). cond (eqb s p && (leb first i && ltb i (first + count))) (byte_of c.args.c.kind) (byte_at rows s i)) c.from-place.ensures
