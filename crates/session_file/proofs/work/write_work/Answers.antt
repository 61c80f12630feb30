-- A read more, and none.
use Rattle.std.proofs.Common.{◌≡◌, ◌++◌, [], ◌∷◌, take, string_bytes, sym, refl, ap, ◌∙◌, rules}
use Rattle.std.proofs.lemmas.List.{take_rest}
use Rattle.std.proofs.lemmas.Result.{on_ok_weaker}
use Rattle.std.specs.Slice.Iter.{iter_rest}
use Rattle.session_file.specs.Lines.{command_lines, sum_line}
use Rattle.session_file.specs.Work.{worked}
use Rattle.session_file.proofs.Appends.{written_more}
use Rattle.session_file.proofs.work.write_work.Goals as goal

pub loop-read-preserved : goal.loop-read-preserved
loop-read-preserved c =
    let s = c.loop-read.read-iterator in
    let t = c.next.new.self in
    let read = c.in-Some.read.now in
    let rest = take t.n (iter_rest t.iter) in
    let more : take s.n (iter_rest s.iter) ≡ read ∷ rest = search rules in
    let later = worked c.args.commands.now read.before rest in
    written_more _ _ (sum_line read.total) (sum_line read.total ++ later) later _ c.in_ok-write_line.ensures refl
    (written_more _ _ _ _ _ _ c.in_ok-write_part.ensures (ap (worked c.args.commands.now c.loop-read.at) more) c.loop-read.invariant)

pub returns : goal.returns
returns c =
    let s = c.loop-read.read-iterator in
    let cs = c.args.commands.now in
    let at = c.loop-read.at in
    let none : take s.n (iter_rest s.iter) ≡ [] = search rules in
    let all = ap (λ xs. string_bytes c.loop-read.out ++ command_lines xs) (take_rest cs at) ∙ ap (λ rs. string_bytes c.loop-read.out ++ worked cs at rs) (sym none) ∙ c.loop-read.invariant in
    on_ok_weaker c.write_part-2.result (λ h. h ∙ all) c.write_part-2.ensures
