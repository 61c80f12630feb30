-- The lines of a session's calls, one call at a time.
use Rattle.std.proofs.Common.{◌≡◌, ℕ, suc, ◌+◌, List, [], ◌++◌, drop, Some, None, sym, ap, ◌∙◌}
use Rattle.rules.specs.Calls.{Outcome}
use Rattle.rules.specs.declared.call.Call.{Call}
use Rattle.session_file.specs.Decode.{call_of}
use Rattle.session_file.specs.Lines.{bad_line}
use Rattle.session_file.specs.Session.{Moment, after, done, lines_from, or_bad, outcome_lines}
use Rattle.session_file.proofs.Appends.{written_more}
use Rattle.session_file.specs.declared.header.Header.{Header}

-- no call is left
pub lines_none : (h : Header) (n k : ℕ) (xs : List ℕ) (m : Moment) → n ≡ 0 → lines_from h n k xs m ≡ []
unfolding lines_from
lines_none h n k xs m e = ap (λ x. lines_from h x k xs m) e

-- the next call is not all there
pub lines_bad : (h : Header) (n l k : ℕ) (xs : List ℕ) (m : Moment) → n ≡ suc l → call_of xs ≡ None → lines_from h n k xs m ≡ bad_line
unfolding lines_from
lines_bad h n l k xs m e f =
    ap (λ x. lines_from h x k xs m) e
    ∙ ap (λ x. or_bad x (λ c. outcome_lines (k + 1) (done h m c) ++ lines_from h l (k + 1) (drop 32 xs) (after m (done h m c)))) f

-- the next call is there
pub lines_more : (h : Header) (n l k : ℕ) (xs : List ℕ) (m : Moment) (c : Call) → n ≡ suc l → call_of xs ≡ Some c → lines_from h n k xs m ≡ outcome_lines (k + 1) (done h m c) ++ lines_from h l (k + 1) (drop 32 xs) (after m (done h m c))
unfolding lines_from
lines_more h n l k xs m c e f =
    ap (λ x. lines_from h x k xs m) e
    ∙ ap (λ x. or_bad x (λ c. outcome_lines (k + 1) (done h m c) ++ lines_from h l (k + 1) (drop 32 xs) (after m (done h m c)))) f

-- one turn: what is written and the lines of the calls that are left together stay the same
pub turned : (h : Header) (n l k : ℕ) (xs : List ℕ) (m next : Moment) (o : Outcome) (c : Call) (was now all : List ℕ)
    → n ≡ suc l → call_of xs ≡ Some c → o ≡ done h m c → next ≡ after m o → now ≡ was ++ outcome_lines (k + 1) o
    → was ++ lines_from h n k xs m ≡ all → now ++ lines_from h l (k + 1) (drop 32 xs) next ≡ all
turned h n l k xs m next o c was now all e f p q w i =
    written_more was now (outcome_lines (k + 1) o) (lines_from h n k xs m) (lines_from h l (k + 1) (drop 32 xs) next) all w
    (lines_more h n l k xs m c e f
    ∙ ap (λ x. outcome_lines (k + 1) x ++ lines_from h l (k + 1) (drop 32 xs) (after m x)) (sym p)
    ∙ ap (λ x. outcome_lines (k + 1) o ++ lines_from h l (k + 1) (drop 32 xs) x) (sym q))
    i
