use Rattle.std.proofs.Common.{◌≡◌, ◌++◌, drop, string_bytes}
use Rattle.session_file.specs.Lines.{command_lines}
use Rattle.session_file.proofs.work.write_commands.Given as goal

-- what is written, and the lines of the commands that are left
abbrev pub invariant-loop-command : goal.invariant-loop-command
invariant-loop-command l =
    string_bytes l.out ++ command_lines (drop l.command-index l.commands) ≡ string_bytes l.initial.out ++ command_lines l.commands
