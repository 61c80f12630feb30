-- Under any choice of clears, what began to owe was cleared, or written over, or owes still: one list of turns.
use Rattle.std.proofs.Common.{◌≡◌, ◌+◌, Bool, cond, not, ◌&&◌, ◌||◌, List, [], ◌∷◌, arith}
use Rattle.law.specs.Ledger.{Cells, Effect, Looks, Writes, Zeroes, Begins, Passes, Marks, clear, act, over, begin, Sizes, count_all, Turn, turn, turned, after_turns, added_up, ended, overs, begins}
use Rattle.law.proofs.Sums.{sum_five}

same_balance : (o c : Bool) → cond o 1 0 + 0 ≡ cond (o && c) 1 0 + 0 + cond (o && not c) 1 0
same_balance o c = grind arith

write_balance : (o c k : Bool) → cond o 1 0 + 0 ≡ cond (o && c) 1 0 + cond ((o && not c) && k) 1 0 + cond ((o && not c) && not k) 1 0
write_balance o c k = grind arith

begin_balance : (o c k : Bool) → cond o 1 0 + cond (not (o && not c) && k) 1 0 ≡ cond (o && c) 1 0 + 0 + cond ((o && not c) || k) 1 0
begin_balance o c k = grind arith

turn_balance : (z : Sizes) (c : Cells) (e : Effect) (k : Cells) (l : Marks)
    → count_all z l.owes + count_all z (begin e k (clear c l))
    ≡ count_all z (λ r i. l.owes r i && c r i) + count_all z (over e k (clear c l)) + count_all z (act e k (clear c l)).owes
turn_balance z c Looks k l = sum_five z _ _ _ _ _ (λ r i h j. same_balance (l.owes r i) (c r i))
turn_balance z c (Writes w) k l = sum_five z _ _ _ _ _ (λ r i h j. write_balance (l.owes r i) (c r i) (k r i))
turn_balance z c Zeroes k l = sum_five z _ _ _ _ _ (λ r i h j. same_balance (l.owes r i) (c r i))
turn_balance z c Begins k l = sum_five z _ _ _ _ _ (λ r i h j. begin_balance (l.owes r i) (c r i) (k r i))
turn_balance z c Passes k l = sum_five z _ _ _ _ _ (λ r i h j. same_balance (l.owes r i) (c r i))

pub list_balance : (z : Sizes) (ts : List Turn) (l : Marks)
    → count_all z l.owes + added_up (begins z) ts l ≡ added_up (ended z) ts l + added_up (overs z) ts l + count_all z (after_turns ts l).owes
list_balance z [] l = omega arith
list_balance z (turn c d ∷ ts) l =
    let here = turn_balance z c d.effect d.cover l in
    let rest = list_balance z ts (turned c d l) in
    omega arith
