use Rattle.std.proofs.Common.{is_ok, Ok, Err, Result, true, ◌≡◌, refl, arith}
use Rattle.std.specs.Prelude.{MatchResult}
use Rattle.init_tracker.specs.Books.{owing}
use Rattle.init_tracker.proofs.Owed.{owing_few}
use Rattle.plan.proofs.Books.{pieces_few}
use Rattle.plan.proofs.planning.keep_pieces.Goals as goal

ok_unless : {T E : Type 0} (P : T → Type 0) (Q : E → Type 0) (r : Result T E) → MatchResult r P Q → ((e : E) → Q e → ⊥) → is_ok r ≡ true
ok_unless P Q (Ok x) m h = refl
ok_unless P Q (Err e) m h = absurd (h e m)

pub unwrap-count-requires : goal.unwrap-count-requires
unwrap-count-requires c =
    let b = c.args.book.now in
    ok_unless _ _ c.uninitialized.result c.uninitialized.ensures (λ e w. omega (arith, w.2, pieces_few c.args.query.start c.args.query.end (owing b), owing_few b))
