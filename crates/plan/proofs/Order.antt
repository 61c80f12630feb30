-- Where one piece more stands among those that are kept.
use Rattle.std.proofs.Common.{◌≡◌, ℕ, ◌+◌, ◌<◌, ◌≤◌, Bool, true, false, cond, not, List, [], ◌∷◌, ◌++◌, length, get_or, take, drop, sym, refl, ap, ◌∙◌, append_assoc, one-add, arith}
use Rattle.std.specs.List.{insert, position_or_len}
use Rattle.std.proofs.lemmas.List.{take_more, drop_more, drop_all}
use Rattle.std.proofs.lemmas.Bool.{cond-true, cond-false, cond_both}
use Rattle.rules.specs.Planning.{precedes, placed, all_placed}
use Rattle.rules.specs.declared.piece.Piece.{Piece}

-- it stands after a piece that it does not precede
pub placed_after : (p : Piece) (xs : List Piece) (i : ℕ) (d : Piece) → i < length xs → precedes p (get_or xs i d) ≡ false
    → placed p xs ≡ take i xs ++ placed p (drop i xs) → placed p xs ≡ take (i + 1) xs ++ placed p (drop (i + 1) xs)
placed_after p xs i d lt later h =
    let q = get_or xs i d in
    let rest = drop (i + 1) xs in
    h ∙ ap (λ l. take i xs ++ placed p l) (drop_more xs i d lt)
    ∙ ap (λ l. take i xs ++ l) (cond-false (precedes p q) (p ∷ (q ∷ rest)) (q ∷ placed p rest) later)
    ∙ sym (append_assoc (take i xs) (q ∷ []) (placed p rest))
    ∙ ap (λ l. l ++ placed p rest) (sym (take_more xs i d lt))

-- and before the first that it precedes
pub placed_before : (p : Piece) (xs : List Piece) (i : ℕ) (d : Piece) → i < length xs → precedes p (get_or xs i d) ≡ true
    → placed p xs ≡ take i xs ++ placed p (drop i xs) → placed p xs ≡ insert xs i p
placed_before p xs i d lt is h =
    let q = get_or xs i d in
    let rest = drop (i + 1) xs in
    h ∙ ap (λ l. take i xs ++ placed p l) (drop_more xs i d lt)
    ∙ ap (λ l. take i xs ++ l) (cond-true (precedes p q) (p ∷ (q ∷ rest)) (q ∷ placed p rest) is)
    ∙ ap (λ l. take i xs ++ p ∷ l) (sym (drop_more xs i d lt))

-- or last
pub placed_last : (p : Piece) (xs : List Piece) (i : ℕ) → length xs ≤ i
    → placed p xs ≡ take i xs ++ placed p (drop i xs) → placed p xs ≡ insert xs i p
placed_last p xs i le h =
    h ∙ ap (λ l. take i xs ++ placed p l) (drop_all i xs le) ∙ ap (λ l. take i xs ++ p ∷ l) (sym (drop_all i xs le))

-- before the first that it precedes, or last
placed_either : (b : Bool) (p q : Piece) (qs : List Piece) (n : ℕ) → placed p qs ≡ insert qs n p
    → cond b (p ∷ (q ∷ qs)) (q ∷ placed p qs) ≡ insert (q ∷ qs) (cond (not b) (1 + n) 0) p
placed_either true p q qs n h = refl
placed_either false p q qs n h = rw one-add (ap (λ l. q ∷ l) h)

pub placed_at : (p : Piece) (xs : List Piece) → placed p xs ≡ insert xs (position_or_len (precedes p) xs) p
placed_at p [] = refl
placed_at p (q ∷ qs) = placed_either (precedes p q) p q qs (position_or_len (precedes p) qs) (placed_at p qs)

-- it is one more
pub length_placed : (p : Piece) (xs : List Piece) → length (placed p xs) ≡ length xs + 1
length_placed p [] = refl
length_placed p (q ∷ qs) =
    cond_both (precedes p q) (p ∷ (q ∷ qs)) (q ∷ placed p qs) (λ l. length l ≡ length (q ∷ qs) + 1)
    (λ _. omega arith)
    (λ _. omega (arith, length_placed p qs))

-- pieces after pieces
pub all_placed_append : (qs xs ys : List Piece) → all_placed qs (xs ++ ys) ≡ all_placed (all_placed qs xs) ys
all_placed_append qs [] ys = refl
all_placed_append qs (x ∷ xs) ys = all_placed_append (placed x qs) xs ys
