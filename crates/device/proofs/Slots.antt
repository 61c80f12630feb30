-- Rows of bytes, one of which is read or replaced.
use Rattle.std.proofs.Common.{◌≡◌, ℕ, ◌<◌, ◌≤◌, Bool, cond, ◌&&◌, eqb, ◌≢◌, List, [], ◌++◌, map, length, get_or, take, drop, set, vec_items, vec_len, sym, ap, ◌∙◌, subst, ⊎_elim, arith}
use Rattle.std.proofs.Math.Seq.{take-append_seam}
use Rattle.std.specs.Vec.{with_items}
use Rattle.std.proofs.lemmas.List.{get_or-map, get_or_past, get_or-set_other, get_or-set_same, length-map, map-set, set-get_or}
use Rattle.std.proofs.lemmas.Bool.{cases_eq, eq-eqb, ne_eqb}
use Rattle.device.specs.Rows.{Row, byte_at, length_at, lengths}

-- past the rows a slot has no length
pub length_past : (rows : List Row) (p : ℕ) → length rows ≤ p → 0 ≡ length_at rows p
length_past rows p h = sym (get_or_past (map vec_len rows) p 0 (omega (arith, length-map rows (vec_len {X = ℕ}))))

module _ (rows : List Row) (p : ℕ) (v : Row) (less : p < length rows) (is : v ≡ get_or rows p v) where
  -- a slot's length is its row's
  pub length_here : length_at rows p ≡ vec_len v
  length_here = get_or-map vec_len rows p v 0 less ∙ ap (λ (x : Row). vec_len x) (sym is)

  -- a slot's bytes are its row's
  pub byte_here : (i : ℕ) → byte_at rows p i ≡ get_or (vec_items v) i 0
  byte_here i = ap (λ (xs : List ℕ). get_or xs i 0) (get_or-map vec_items rows p v [] less ∙ ap (λ (x : Row). vec_items x) (sym is))

  module _ (w : Row) where
    -- a row as long as that in its place leaves every length
    pub lengths_set : vec_len w ≡ vec_len v → lengths (set rows p w) ≡ lengths rows
    lengths_set e =
        map-set vec_len rows p w ∙ ap (λ (n : ℕ). set (lengths rows) p n) (e ∙ sym length_here) ∙ set-get_or (lengths rows) p 0

    -- the new row is read in its place
    pub byte_set_same : (i : ℕ) → byte_at (set rows p w) p i ≡ get_or (vec_items w) i 0
    byte_set_same i =
        let in_place : p < length (map vec_items rows) = omega (arith, length-map rows (vec_items {X = ℕ})) in
        ap (λ (xss : List (List ℕ)). get_or (get_or xss p []) i 0) (map-set vec_items rows p w)
        ∙ ap (λ (xs : List ℕ). get_or xs i 0) (get_or-set_same (map vec_items rows) p (vec_items w) [] in_place)

    -- and the others in theirs
    pub byte_set_other : (s i : ℕ) → s ≢ p → byte_at (set rows p w) s i ≡ byte_at rows s i
    byte_set_other s i other =
        ap (λ (xss : List (List ℕ)). get_or (get_or xss s []) i 0) (map-set vec_items rows p w)
        ∙ ap (λ (xs : List ℕ). get_or xs i 0) (get_or-set_other (map vec_items rows) p s (vec_items w) [] other)

    -- a byte put where a test holds of the row is put where it holds in that slot
    pub byte_put :
        (test : ℕ → Bool) (put byte : ℕ)
        → put ≡ byte
        → ((i : ℕ) → get_or (vec_items w) i 0 ≡ cond (test i) put (get_or (vec_items v) i 0))
        → (s i : ℕ)
        → byte_at (set rows p w) s i ≡ cond (eqb s p && test i) byte (byte_at rows s i)
    byte_put test put byte same after s i =
        let goal : Bool → Type 0 = λ b. byte_at (set rows p w) s i ≡ cond (b && test i) byte (byte_at rows s i) in
        ⊎_elim
        (λ e. subst goal (sym (eq-eqb s p e))
        (ap (λ (z : ℕ). byte_at (set rows p w) z i) e
        ∙ byte_set_same i
        ∙ after i
        ∙ ap (λ (x : ℕ). cond (test i) x (get_or (vec_items v) i 0)) same
        ∙ ap (λ (x : ℕ). cond (test i) byte x) (sym (byte_here i) ∙ ap (λ (z : ℕ). byte_at rows z i) (sym e))))
        (λ other. subst goal (sym (ne_eqb s p other)) (byte_set_other s i other))
        (cases_eq s p)

-- a row whose bytes are all written holds what was written
pub items_written : (v : Row) (xs : List ℕ) → length xs ≡ vec_len v → vec_items (with_items v xs) ≡ xs
items_written v xs e =
    subst (λ (n : ℕ). take n (xs ++ drop (length xs) (vec_items v)) ≡ xs) e (take-append_seam xs (drop (length xs) (vec_items v)))
