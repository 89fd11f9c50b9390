-- Men that are put without a fault.
use Rattle.pop_input.proofs.Words.{ArePut, Bool, Colour, Diagram, Err, HasNoKing, IsSome, King, List, Man, MatchResult, None, Ok, Option, PawnOnOuterRank, Result, SecondKing, Some, SquareTaken, [], arith, cases_Bool, cases_eq, cases_lt, false, fault_if, get_or, if◌then◌else◌, inl, inr, is_man, is_pawn_inside, is_some, is_man_on, length, length-set, man_fault, man_on, no_men, not, refl, repeat, same_kind, set_past, has_man, suc, true, with_man, zero, ℕ, ◌&&◌, ◌∙◌, ◌∷◌, ◌≡◌}
use Rattle.std.proofs.Math.ListN.{get_or-eq_default}
use Rattle.chess_core.specs.declared.diagram.Taken.{Taken}
use Rattle.chess_core.proofs.Men.{AtMostOneKing-with, man_on-with_same, man_on-with_other}
use Rattle.chess_core.proofs.Ranges.{some_square_true}

nobody : (n s : ℕ) → ◌≡◌ {A = Option Man} (get_or (repeat n (None ∷ [])) s None) None
nobody zero s = refl
nobody (suc n) zero = refl
nobody (suc n) (suc s) = nobody n s

-- no man is on an empty board
pub none_put : ArePut no_men
none_put = record {
  size = refl;
  kings = record { same = λ c s t hs ht. let e : man_on no_men s ≡ None = nobody 64 s in let bad : is_man None c King ≡ true = rw e at hs in cc };
  pawns = λ s. let e : man_on no_men s ≡ None = nobody 64 s in rw e refl;
}

-- no king is found, so there is none
no_king : (men : List (Option Man)) (colour : Colour) → length men ≡ 64 → has_man men colour King ≡ false → HasNoKing men colour
unfolding has_man is_man_on
no_king men colour size none s = elim (cases_lt s 64) [
  | inl lt ↦ elim (cases_Bool (is_man_on men colour King s)) [
    | inl here ↦ let found = some_square_true (is_man_on men colour King) s lt here in cc
    | inr absent ↦ absent
  ]
  | inr ge ↦ let gone : man_on men s ≡ None = get_or-eq_default men None (omega (arith, size, ge)) in rw gone refl
]

-- one more man
more_put : (men : List (Option Man)) (man : Man) (square : ℕ) → ArePut men → is_pawn_inside (Some man) square ≡ true
    → (same_kind man.kind King ≡ true → has_man men man.colour King ≡ false) → ArePut (with_man men square man)
more_put men man square put inside king = record {
  size = length-set men square (Some man) ∙ put.size;
  kings = AtMostOneKing-with men square man put.kings (λ is. no_king men man.colour put.size (king is));
  pawns = λ s. grind (arith, cases_eq s square, cases_lt square (length men), man_on-with_same, set_past, man_on-with_other);
}

fits_by : (taken inside king second : Bool) → (if taken then Some SquareTaken
    else (if not inside then Some PawnOnOuterRank else fault_if (king && second) SecondKing)) ≡ None → (inside ≡ true) × (king ≡ true → second ≡ false)
fits_by taken inside king second h = grind arith

-- a man that is put without a fault, or not put
pub put_keeps : (r : Result (Unit {0}) Taken) (old new : Diagram) (square : ℕ) (man : Man)
    → MatchResult r (λ _. (man_on old.men square ≡ None) × (new ≡ record old { men = with_man old.men square man })) (λ _. IsSome (man_on old.men square) × (new
    ≡ old)) → man_fault old.men man square ≡ None → ArePut old.men → ArePut new.men
put_keeps (Ok done) old new square man did none put =
    let fits = fits_by (is_some (man_on old.men square)) (is_pawn_inside (Some man) square) (same_kind man.kind King) (has_man old.men man.colour King) none in
    rw did.1 (more_put old.men man square put fits.0 fits.1)
put_keeps (Err taken) old new square man did none put = rw did.1 put
