-- What reads take out of the buffers' books, kept in order and joined: each cell as often as it was taken, which is once.
use Rattle.std.proofs.Common.{◌≡◌, ℕ, ◌+◌, ◌-◌, ◌<◌, ◌≤◌, Bool, true, false, cond, ◌&&◌, ◌||◌, eqb, ltb, leb, ◌⊎◌, List, [], ◌∷◌, map, sym, refl, ap, inl, inr, arith}
use Rattle.std.proofs.lemmas.Bool.Decides.{nat_tests}
use Rattle.std.proofs.lemmas.Bool.{cases_lt}
use Rattle.range_list.specs.Ranges.{inside, member, SoundFrom}
use Rattle.range_list.proofs.Laws.{not_before}
use Rattle.rules.specs.Planning.{piece_of, precedes, placed, all_placed, touches, join_front, join_all, clears_of}
use Rattle.rules.specs.declared.piece.Piece.{Piece}
use Rattle.law.specs.Ledger.{Sizes, slot_count}
use Rattle.law.proofs.Commands.{times, AllInside, AllLeave}

-- a piece within its slot
abbrev pub Fine : Sizes → Piece → Type 0
Fine z p = (p.start ≤ p.end) × (p.buffer < slot_count) × (p.end ≤ z p.buffer)

abbrev pub AllFine : Sizes → List Piece → Type 0
AllFine z [] = Unit {0}
AllFine z (p ∷ ps) = Fine z p × AllFine z ps

abbrev one : Piece → ℕ → ℕ → ℕ
one p r i = cond (eqb r p.buffer && (leb p.start i && ltb i (p.start + (p.end - p.start)))) 1 0

-- keeping pieces in order
placed_cond : (e : Bool) (p q : Piece) (qs : List Piece) (r i : ℕ)
    → times (clears_of (placed p qs)) r i ≡ one p r i + times (clears_of qs) r i
    → times (clears_of (cond e (p ∷ (q ∷ qs)) (q ∷ placed p qs))) r i ≡ one p r i + (one q r i + times (clears_of qs) r i)
placed_cond true p q qs r i ih = refl
placed_cond false p q qs r i ih = omega arith

placed_times : (p : Piece) (qs : List Piece) (r i : ℕ) → times (clears_of (placed p qs)) r i ≡ one p r i + times (clears_of qs) r i
placed_times p [] r i = refl
placed_times p (q ∷ qs) r i = placed_cond (precedes p q) p q qs r i (placed_times p qs r i)

placed_fine_cond : (z : Sizes) (e : Bool) (p q : Piece) (qs : List Piece) → Fine z p → Fine z q → AllFine z qs → AllFine z (placed p qs)
    → AllFine z (cond e (p ∷ (q ∷ qs)) (q ∷ placed p qs))
placed_fine_cond z true p q qs f g a b = (f, (g, a))
placed_fine_cond z false p q qs f g a b = (g, b)

placed_fine : (z : Sizes) (p : Piece) (qs : List Piece) → Fine z p → AllFine z qs → AllFine z (placed p qs)
placed_fine z p [] f a = (f, tt)
placed_fine z p (q ∷ qs) f a = placed_fine_cond z (precedes p q) p q qs f a.0 a.1 (placed_fine z p qs f a.1)

all_placed_times : (qs ps : List Piece) (r i : ℕ) → times (clears_of (all_placed qs ps)) r i ≡ times (clears_of qs) r i + times (clears_of ps) r i
all_placed_times qs [] r i = omega arith
all_placed_times qs (p ∷ ps) r i =
    let ih = all_placed_times (placed p qs) ps r i in
    let here = placed_times p qs r i in
    omega arith

all_placed_fine : (z : Sizes) (qs ps : List Piece) → AllFine z qs → AllFine z ps → AllFine z (all_placed qs ps)
all_placed_fine z qs [] f a = f
all_placed_fine z qs (p ∷ ps) f a = all_placed_fine z (placed p qs) ps (placed_fine z p qs a.0 f) a.1

-- joining pieces that touch
abbrev joint : Piece → Piece → Piece
joint p q = record { buffer = p.buffer; start = p.start; end = q.end }

joined_range : (a b : Bool) (ps pe qs qe i : ℕ) → a ≡ b → ps ≤ pe → qs ≤ qe → pe ≡ qs
    → cond (a && (leb ps i && ltb i (ps + (qe - ps)))) 1 0
    ≡ cond (a && (leb ps i && ltb i (ps + (pe - ps)))) 1 0 + cond (b && (leb qs i && ltb i (qs + (qe - qs)))) 1 0
joined_range true true ps pe qs qe i s h k f = grind (arith, nat_tests)
joined_range false false ps pe qs qe i s h k f = refl
joined_range true false ps pe qs qe i s h k f = let z : ◌≡◌ {A = ℕ} 0 1 = cc in absurd (omega arith)
joined_range false true ps pe qs qe i s h k f = let z : ◌≡◌ {A = ℕ} 0 1 = cc in absurd (omega arith)

join_one : (r i pb ps pe qb qs qe : ℕ) → ps ≤ pe → qs ≤ qe → pb ≡ qb → pe ≡ qs
    → cond (eqb r pb && (leb ps i && ltb i (ps + (qe - ps)))) 1 0
    ≡ cond (eqb r pb && (leb ps i && ltb i (ps + (pe - ps)))) 1 0 + cond (eqb r qb && (leb qs i && ltb i (qs + (qe - qs)))) 1 0
join_one r i pb ps pe qb qs qe h k e f = joined_range (eqb r pb) (eqb r qb) ps pe qs qe i (ap (eqb r) e) h k f

touch_both : (a b c d : ℕ) → (eqb a b && eqb c d) ≡ true → (a ≡ b) × (c ≡ d)
touch_both a b c d e = (grind (arith, nat_tests), grind (arith, nat_tests))

touch_out : (p q : Piece) → touches p q ≡ true → (p.buffer ≡ q.buffer) × (p.end ≡ q.start)
touch_out p q e = touch_both p.buffer q.buffer p.end q.start e

join_cond : (z : Sizes) (e : Bool) (p q : Piece) (qs : List Piece) → e ≡ touches p q → Fine z p → Fine z q → AllFine z qs
    → ((r i : ℕ) → times (clears_of (cond e (joint p q ∷ qs) (p ∷ (q ∷ qs)))) r i ≡ one p r i + (one q r i + times (clears_of qs) r i))
    × AllFine z (cond e (joint p q ∷ qs) (p ∷ (q ∷ qs)))
join_cond z true p q qs t f g a =
    let both = touch_out p q (sym t) in
    let low = f.0 in
    let high = g.0 in
    let far = g.2 in
    let slot = ap z both.0 in
    let meet = both.1 in (
      (λ r i.
          let here = join_one r i p.buffer p.start p.end q.buffer q.start q.end low high both.0 both.1 in
          omega arith),
      ((omega arith, f.1, omega arith), a),
    )
join_cond z false p q qs t f g a = ((λ r i. refl), (f, (g, a)))

join_front_lem : (z : Sizes) (p : Piece) (qs : List Piece) → Fine z p → AllFine z qs
    → ((r i : ℕ) → times (clears_of (join_front p qs)) r i ≡ one p r i + times (clears_of qs) r i) × AllFine z (join_front p qs)
join_front_lem z p [] f a = ((λ r i. refl), (f, tt))
join_front_lem z p (q ∷ qs) f a = join_cond z (touches p q) p q qs refl f a.0 a.1

pub join_all_lem : (z : Sizes) (ps : List Piece) → AllFine z ps
    → ((r i : ℕ) → times (clears_of (join_all ps)) r i ≡ times (clears_of ps) r i) × AllFine z (join_all ps)
join_all_lem z [] a = ((λ r i. refl), tt)
join_all_lem z (p ∷ ps) a =
    let rest = join_all_lem z ps a.1 in
    let front = join_front_lem z p (join_all ps) a.0 rest.1 in
    ((λ r i. let f = front.0 r i in let g = rest.0 r i in omega arith), front.1)

-- in order and joined, pieces name each cell as often as before
pub kept_times : (z : Sizes) (ps : List Piece) → AllFine z ps → (r i : ℕ)
    → times (clears_of (join_all (all_placed [] ps))) r i ≡ times (clears_of ps) r i
kept_times z ps a r i =
    let fine = all_placed_fine z [] ps tt a in
    let joined = (join_all_lem z (all_placed [] ps) fine).0 r i in
    let same = all_placed_times [] ps r i in
    omega arith

pub kept_fine : (z : Sizes) (ps : List Piece) → AllFine z ps → AllFine z (join_all (all_placed [] ps))
kept_fine z ps a = (join_all_lem z (all_placed [] ps) (all_placed_fine z [] ps tt a)).1

pub fine_inside : (z : Sizes) (ps : List Piece) → AllFine z ps → AllInside z (clears_of ps)
fine_inside z [] a = tt
fine_inside z (p ∷ ps) a = let low = a.0.0 in let far = a.0.2 in ((a.0.1, omega arith), fine_inside z ps a.1)

pub clears_leave : (ps : List Piece) → AllLeave 0 (clears_of ps)
clears_leave [] = tt
clears_leave (p ∷ ps) = (refl, clears_leave ps)

-- the ranges of one book as pieces
range_two : (e : Bool) (a b i : ℕ) (t : Bool) (n : ℕ) → a < b → (i < b + 1) ⊎ (b + 1 ≤ i) → (i < b + 1 → t ≡ false) → n ≡ cond (e && t) 1 0
    → cond (e && (leb a i && ltb i (a + (b - a)))) 1 0 + n ≡ cond (e && (inside a b i || t)) 1 0
range_two e a b i t n h (inl lt) f m = let g = f lt in grind (arith, nat_tests)
range_two e a b i t n h (inr le) f m = grind (arith, nat_tests)

range_one : (e : Bool) (a b i : ℕ) (t : Bool) (n : ℕ) → a < b → (i < b + 1 → t ≡ false) → n ≡ cond (e && t) 1 0
    → cond (e && (leb a i && ltb i (a + (b - a)))) 1 0 + n ≡ cond (e && (inside a b i || t)) 1 0
range_one e a b i t n h f m = range_two e a b i t n h (cases_lt i (b + 1)) f m

none_taken : (e : Bool) → ◌≡◌ {A = ℕ} 0 (cond (e && false) 1 0)
none_taken true = refl
none_taken false = refl

pub range_times : (n b z : ℕ) (rs : List (ℕ × ℕ)) → SoundFrom b z rs → (r i : ℕ)
    → times (clears_of (map (piece_of n) rs)) r i ≡ cond (eqb r n && member i rs) 1 0
range_times n b z [] s r i = none_taken (eqb r n)
range_times n b z (q ∷ rs) s r i =
    range_one (eqb r n) q.0 q.1 i (member i rs) (times (clears_of (map (piece_of n) rs)) r i) s.1
    (not_before (q.1 + 1) z i rs s.3) (range_times n (q.1 + 1) z rs s.3 r i)

pub range_fine : (z : Sizes) (n b : ℕ) (rs : List (ℕ × ℕ)) → n < slot_count → SoundFrom b (z n) rs → AllFine z (map (piece_of n) rs)
range_fine z n b [] h s = tt
range_fine z n b (q ∷ rs) h s = let up = s.1 in ((omega arith, h, s.2), range_fine z n (q.1 + 1) rs h s.3)
