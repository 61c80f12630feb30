use Rattle.std.proofs.Common.{◌≡◌, ◌++◌, take, string_bytes}
use Rattle.std.specs.Slice.Iter.{iter_rest}
use Rattle.session_file.specs.Work.{worked, work_lines}
use Rattle.session_file.proofs.work.write_work.Given as goal

-- what is written, and the work that is left from the next read on
abbrev pub invariant-loop-read : goal.invariant-loop-read
invariant-loop-read l =
    string_bytes l.out ++ worked l.commands l.at (take l.read-iterator.n (iter_rest l.read-iterator.iter))
    ≡ string_bytes l.initial.out ++ work_lines l.commands l.report
