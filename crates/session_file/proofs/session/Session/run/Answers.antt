-- A call is not all there, or it is performed and the next one is due.
use Rattle.std.proofs.Common.{◌≡◌, ◌+◌, ◌-◌, ◌++◌, string_bytes, Some, None, sym, ap, ◌∙◌, arith}
use Rattle.std.proofs.lemmas.List.{take_rest}
use Rattle.std.proofs.lemmas.Result.{on_ok_weaker}
use Rattle.session_file.specs.Decode.{call_of}
use Rattle.session_file.specs.Session.{lines_from}
use Rattle.session_file.specs.Standing.{stands, does}
use Rattle.session_file.proofs.Appends.{written_all}
use Rattle.session_file.proofs.Moments.{performed_done, still_made}
use Rattle.session_file.proofs.Turns.{lines_none, lines_bad, turned}
use Rattle.session_file.proofs.session.Session.run.Goals as goal

pub returns-in_default : goal.returns-in_default
returns-in_default c =
    let h = c.args.header in
    let k = c.loop-before.before in
    let was = c.loop-before.self in
    let xs = c.loop-before.rest.now in
    let none : call_of xs ≡ None = sym c.in_default.ensures in
    let all = ap (λ ys. string_bytes was.listing ++ ys) (sym (lines_bad h (h.calls - k) (h.calls - k - 1) k xs (stands was) (omega arith) none)) ∙ c.loop-before.invariant.1 in
    on_ok_weaker c.write_line.result (λ e. e ∙ all) c.write_line.ensures

pub loop-before-preserved : goal.loop-before-preserved
loop-before-preserved c =
    let h = c.args.header in
    let k = c.loop-before.before in
    let was = c.loop-before.self in
    let now = c.perform.new.self in
    let xs = c.loop-before.rest.now in
    let call = c.in-Some.call in
    let told = c.in_ok-perform.ensures in
    let some : call_of xs ≡ Some call = sym c.in-Some.ensures in
    let o = does was call in
    let made = c.loop-before.invariant.0 in
    let more = turned h (h.calls - k) (h.calls - (k + 1)) k xs (stands was) (stands now) o call _ _ _ (omega arith) some (performed_done h _ was.planner.device _ call made) told.moves told.lists c.loop-before.invariant.1 in (
      still_made h was.planner.device now.planner.device o.commands made told.keeps,
      ap (λ ys. string_bytes now.listing ++ lines_from h (h.calls - (k + 1)) (k + 1) ys (stands now)) (take_rest xs 32) ∙ more,
    )

pub returns : goal.returns
returns c = written_all _ _ _ (lines_none c.args.header _ _ _ _ (omega arith)) c.loop-before.invariant.1
