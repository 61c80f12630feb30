-- One cell in the midst of a submission, and what each kind of step does to it. Nothing here knows what a cell or a cover is.
use Rattle.std.proofs.Common.{◌≡◌, ℕ, ◌+◌, Bool, true, false, cond, not, ◌&&◌, ◌||◌, arith}

-- d: to be cleared before the next step of the ledger; b: in the copy of the book; g: discarded in this list; v: read or
-- written since; s: discarded, and settled since; p: drained by the steps to come; o: owes in the ledger; y: its byte
-- there; x: the device's byte
pub record Cell (d b g v s p o : Bool) (y x : ℕ) : Type 0 where
  pub owing : (o && not d) ≡ ((b || (g && not s)) && not p)
  pub first : d ≡ true → (o ≡ true) × ((p || s) ≡ true)
  pub fresh : b ≡ true → (g ≡ false) × (v ≡ false)
  pub late : s ≡ true → (g ≡ true) × (v ≡ false)
  pub seen : g ≡ true → v ≡ false
  pub book : p ≡ true → b ≡ true
  pub same : (o && not d) ≡ false → x ≡ y
  pub blank : o ≡ true → y ≡ 0

-- one cell between two calls: the book has it if and only if it owes
pub record Ready (b o : Bool) (y x : ℕ) : Type 0 where
  pub owing : o ≡ b
  pub same : o ≡ false → x ≡ y
  pub blank : o ≡ true → y ≡ 0

-- a submission begins: the drained cells are cleared on the device, and are to be cleared before the first step
pub cell_start : (d p : Bool) {b o : Bool} {y x : ℕ} → Ready b o y x → (p ≡ true → b ≡ true) → d ≡ p
    → Cell d b false false false p o y (cond d 0 x)
cell_start d p r book e =
    record {
      owing = grind arith;
      first = grind arith;
      fresh = grind arith;
      late = grind arith;
      seen = grind arith;
      book = book;
      same = grind arith;
      blank = r.blank;
    }

-- and ends, with nothing settled that was not looked at
pub cell_done : {d b g v s o : Bool} {y x : ℕ} → Cell d b g v s false o y x → s ≡ false → Ready (b || g) o y x
cell_done c e = record { owing = grind arith; same = grind arith; blank = c.blank }

pub cell_none : {d b g v s o : Bool} {y x : ℕ} → Cell d b g v s false o y x → s ≡ false → ◌≡◌ {A = ℕ} (cond d 1 0) 0
cell_none c e = grind arith

-- k: the step covers the cell; q: the steps after this one drain it
pub cell_look : (k q : Bool) {d b g v s o : Bool} {y x : ℕ} → Cell d b g v s ((b && k) || q) o y x
    → (q ≡ true → (b && not k) ≡ true) → ((k && g) ≡ true → s ≡ true)
    → Cell false (b && not k) (g && not k) (v || k) (s && not k) q (o && not d) y x
cell_look k q c e settled =
    record {
      owing = grind arith;
      first = grind arith;
      fresh = grind arith;
      late = grind arith;
      seen = grind arith;
      book = e;
      same = grind arith;
      blank = grind arith;
    }

pub cell_write : (k : Bool) (w : ℕ) {q d b g v s o : Bool} {y x : ℕ} → Cell d b g v s q o y x → (q ≡ true → (b && not k) ≡ true)
    → Cell false (b && not k) (g && not k) (v || k) (s && not k) q ((o && not d) && not k) (cond k w y) (cond k w x)
cell_write k w c e =
    record {
      owing = grind arith;
      first = grind arith;
      fresh = grind arith;
      late = grind arith;
      seen = grind arith;
      book = e;
      same = grind arith;
      blank = grind arith;
    }

pub cell_zero : (k : Bool) {q d b g v s o : Bool} {y x : ℕ} → Cell d b g v s q o y x
    → Cell false b g v s q (o && not d) (cond k 0 y) (cond k 0 x)
cell_zero k c =
    record {
      owing = grind arith;
      first = grind arith;
      fresh = c.fresh;
      late = c.late;
      seen = c.seen;
      book = c.book;
      same = grind arith;
      blank = grind arith;
    }

pub cell_begin : (k : Bool) {q d b g v s o : Bool} {y x : ℕ} → Cell d b g v s q o y x → (k ≡ true → v ≡ true)
    → Cell false b (g || k) (v && not k) s q ((o && not d) || k) (cond k 0 y) x
cell_begin k c e =
    record {
      owing = grind arith;
      first = grind arith;
      fresh = grind arith;
      late = grind arith;
      seen = grind arith;
      book = c.book;
      same = grind arith;
      blank = grind arith;
    }

-- a settled clear: the ledger is told of it before its next step
pub cell_pass : (k : Bool) {q d b g v s o : Bool} {y x : ℕ} → Cell d b g v s q o y x → (k ≡ true → (g ≡ true) × (s ≡ false))
    → Cell (d || k) b g v (s || k) q o y (cond k 0 x)
cell_pass k c e =
    record {
      owing = grind arith;
      first = grind arith;
      fresh = c.fresh;
      late = grind arith;
      seen = c.seen;
      book = c.book;
      same = grind arith;
      blank = c.blank;
    }

-- nothing is chosen twice, and only what owes
pub pass_once : (k : Bool) {q d b g v s o : Bool} {y x : ℕ} → Cell d b g v s q o y x → (k ≡ true → (g ≡ true) × (s ≡ false))
    → cond (d || k) 1 0 ≡ cond d 1 0 + cond k 1 0
pass_once k c e = grind arith

pub all_owe : {q d b g v s o : Bool} {y x : ℕ} → Cell d b g v s q o y x → ◌≡◌ {A = ℕ} (cond (o && d) 1 0) (cond d 1 0)
all_owe c = grind arith

-- at a read: the cell does not owe, and the device's byte is the ledger's
pub look_quiet : (k q : Bool) {d b g v s o : Bool} {y x : ℕ} → Cell d b g v s ((b && k) || q) o y x → ((k && g) ≡ true → s ≡ true)
    → k ≡ true → (o && not d) ≡ false
look_quiet k q c e h = grind arith

pub look_same : (k q : Bool) (a : Bool) {d b g v s o : Bool} {y x : ℕ} → Cell d b g v s ((b && k) || q) o y x → ((k && g) ≡ true → s ≡ true)
    → (a ≡ true → k ≡ true) → cond a x 0 ≡ cond a y 0
look_same k q a c e h = grind arith
