-- Writing in turns: what is written and what is left to write together stay the same.
use Rattle.std.proofs.Common.{◌≡◌, ℕ, List, [], ◌++◌, sym, ap, ◌∙◌, append_assoc}
use Rattle.std.proofs.lemmas.List.{append-nil}

-- one line goes over from what is left to what is written
pub written_more : (was next line rest later all : List ℕ) → next ≡ was ++ line → rest ≡ line ++ later → was ++ rest ≡ all → next ++ later ≡ all
written_more was next line rest later all p q h =
    ap (λ xs. xs ++ later) p ∙ append_assoc was line later ∙ ap (λ xs. was ++ xs) (sym q) ∙ h

-- nothing is left
pub written_all : (was rest all : List ℕ) → rest ≡ [] → was ++ rest ≡ all → was ≡ all
written_all was rest all p h = sym (append-nil was) ∙ ap (λ xs. was ++ xs) (sym p) ∙ h
