-- The lines of a listing, as bytes.
use Rattle.std.specs.Prelude.{ℕ, List, [], ◌∷◌, ◌++◌, codes, decimal, Ok, Err}
use Rattle.fault.specs.Numbers.{number_of}
use Rattle.device.specs.declared.command.Command.{Command}
use Rattle.device.specs.declared.command.CommandKind.{CommandKind}
use Rattle.device.specs.declared.command.CommandKind.TheVariants.{Clear, Copy, Pass, Fill}
use Rattle.rules.specs.Calls.{Answer}
use Rattle.rules.specs.declared.answer.Accepted.TheVariants.{Made, Done, Submitted}
use Rattle.session_file.specs.declared.lines.Line.{Line}
use Rattle.session_file.specs.declared.lines.Line.TheVariants as line

-- a command's first word
abbrev pub kind_word : CommandKind → List ℕ
kind_word Clear = codes "clear "
kind_word Copy = codes "copy "
kind_word Pass = codes "pass "
kind_word (Fill b) = codes "fill "

-- its end: a fill says its byte too
abbrev pub kind_end : CommandKind → List ℕ
kind_end Clear = codes "\n"
kind_end Copy = codes "\n"
kind_end Pass = codes "\n"
kind_end (Fill b) = codes " " ++ (decimal b ++ codes "\n")

-- a command: its word, its slot, its first cell, how many there are, and its end
abbrev pub command_line : Command → List ℕ
command_line c =
    kind_word c.kind ++ (decimal c.slot ++ (codes " " ++ (decimal c.first ++ (codes " " ++ (decimal c.count ++ kind_end c.kind)))))

-- a line for each command, in order
abbrev pub command_lines : List Command → List ℕ
command_lines [] = []
command_lines (c ∷ cs) = command_line c ++ command_lines cs

-- a read's sum
abbrev pub sum_line : ℕ → List ℕ
sum_line n = codes "sum " ++ (decimal n ++ codes "\n")

-- a call that was accepted, with its value
abbrev pub ok_line : ℕ → ℕ → List ℕ
ok_line k v = decimal k ++ (codes " ok " ++ (decimal v ++ codes "\n"))

-- a call that was declined, with the number of its cause
abbrev pub no_line : ℕ → ℕ → List ℕ
no_line k n = decimal k ++ (codes " no " ++ (decimal n ++ codes "\n"))

-- a file that is not as it must be
abbrev pub bad_line : List ℕ
bad_line = codes "no 20\n"

-- the line of a call: its value is the number made, the cells cleared of a submission, and else 0
abbrev pub answer_line : ℕ → ℕ → Answer → List ℕ
answer_line k cleared (Ok (Made n)) = ok_line k n
answer_line k cleared (Ok Done) = ok_line k 0
answer_line k cleared (Ok Submitted) = ok_line k cleared
answer_line k cleared (Err f) = no_line k (number_of f.refusal)

-- the bytes of a line, by what it says
abbrev pub line_bytes : Line → List ℕ
line_bytes (line.Taken c) = command_line c
line_bytes (line.Sum n) = sum_line n
line_bytes (line.Accepted k v) = ok_line k v
line_bytes (line.Declined k cause) = no_line k (number_of cause)
line_bytes line.Bad = bad_line
