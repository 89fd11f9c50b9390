-- Loops that remove the squares of a bitboard one after another.
use Rattle.chess_attacks.proofs.Chess.{Bool, None, Option, Some, and_from, and_right, arith, bit_at, cases_Bool, cases_eq, false, false≢true, inl, inr, not, refl, some_square, some_square_false, some_square_true, subst, sym, true, ℕ, ◌&&◌, ◌<◌, ◌==◌, ◌||◌, ◌∙◌, ◌≡◌}
use Rattle.chess_attacks.proofs.attacks.Attacking.{some_square_same}
use Rattle.std.specs.Prelude.{IfSome}
use Rattle.chess_attacks.proofs.Bits.{off_zero}
use Rattle.chess_attacks.specs.ties.Taking.{IsPopped}

-- what holds of each square of a word that is taken: it isn't in the rest
pub record HoldTaken (w rest : ℕ) (P : ℕ → Type 0) : Type 0 where
  pub holds : (s : ℕ) → s < 64 → (bit_at w s == 1) ≡ true → (bit_at rest s == 1) ≡ false → P s

-- for a loop's beginning: none is taken
pub taken_none : (w : ℕ) (P : ℕ → Type 0) → HoldTaken w w P
taken_none w P = record { holds = λ s small on off. absurd (false≢true (sym off ∙ on)) }

-- for its next square
pub taken_next : (w rest k left : ℕ) (P : ℕ → Type 0) → HoldTaken w rest P → IsPopped rest k left → P k → HoldTaken w left P
taken_next w rest k left P h taken here =
    record {
      holds = λ s small on off. elim (cases_eq k s) [
        | inl same ↦ rw (sym same) here
        | inr other ↦ h.holds s small on (grind (arith, taken.others s other, off))
      ];
    }

-- the square that was taken
pub is_taken : (rest k left : ℕ) (o : Option ℕ) → IfSome o (λ s. IsPopped rest s left) → o ≡ Some k → IsPopped rest k left
is_taken rest k left o next some = subst (λ o. IfSome o (λ s. IsPopped rest s left)) some next

-- for a search: a property of the taken squares holds of the square that the search finds
pub taken_on : (w rest k left : ℕ) (o : Option ℕ) (P : ℕ → Type 0) → HoldTaken w rest P → IfSome o (λ s. IsPopped rest s left) → o ≡ Some k → P k
    → HoldTaken w left P
taken_on w rest k left o P h next some here = taken_next w rest k left P h (is_taken rest k left o next some) here

-- at the end of a search: what holds of each taken square holds of all squares of the word
pub taken_all : (w rest : ℕ) (o : Option ℕ) (P : ℕ → Type 0) → HoldTaken w rest P → (o ≡ None → rest ≡ 0) → o ≡ None → (s : ℕ) → s < 64
    → (bit_at w s == 1) ≡ true → P s
taken_all w rest o P h end none s small on = h.holds s small on (rw (end none) (off_zero s))

-- for a word that grows meanwhile
pub taken_map : (w rest : ℕ) (P Q : ℕ → Type 0) → ((s : ℕ) → P s → Q s) → HoldTaken w rest P → HoldTaken w rest Q
taken_map w rest P Q f h = record { holds = λ s small on off. f s (h.holds s small on off) }

-- each loop ends: the rest, as a number, falls
pub rest_falls : (rest k left : ℕ) (o : Option ℕ) → IfSome o (λ s. IsPopped rest s left) → o ≡ Some k → left < rest
rest_falls rest k left o next some = (is_taken rest k left o next some).fewer

-- some square of a word meets the test if the one that is taken does, or one of the rest
pub some_taken_or_left : (w k left : ℕ) (test : ℕ → Bool) → IsPopped w k left
    → some_square (λ s. bit_at w s == 1 && test s) ≡ (test k || some_square (λ s. bit_at left s == 1 && test s))
some_taken_or_left w k left test taken = elim (cases_Bool (test k)) [
  | inl meets ↦ rw meets (some_square_true (λ s. bit_at w s == 1 && test s) k taken.small (and_from _ _ taken.here meets))
  | inr fails ↦ rw fails (some_square_same _ _ (λ s small. grind (arith, cases_eq k s, taken.others s, fails, and_right)))
]

-- none of no squares meets the test
pub none_meets : (w : ℕ) (test : ℕ → Bool) → w ≡ 0 → some_square (λ s. bit_at w s == 1 && test s) ≡ false
none_meets w test none =
    some_square_false (λ s. bit_at w s == 1 && test s) 64 (omega arith) (record { fails = λ s small. rw none (rw (off_zero s) refl) })

-- for a search: each square of a word that is taken meets the test
pub record MeetTaken (w rest : ℕ) (test : ℕ → Bool) : Type 0 where
  pub inside : (s : ℕ) → (bit_at rest s == 1) ≡ true → (bit_at w s == 1) ≡ true
  pub same : some_square (λ s. bit_at w s == 1 && not (test s)) ≡ some_square (λ s. bit_at rest s == 1 && not (test s))

-- a search goes on where the next square meets the test
pub meet_next : (w rest k left : ℕ) (test : ℕ → Bool) → MeetTaken w rest test → IsPopped rest k left → test k ≡ true → MeetTaken w left test
meet_next w rest k left test h taken meets =
    record {
      inside = λ s on. h.inside s (grind (arith, cases_eq k s, taken.others s, taken.here, on));
      same = h.same ∙ some_taken_or_left rest k left (λ s. not (test s)) taken ∙ rw meets refl;
    }

-- a search ends where the next square fails the test
pub one_fails : (w rest k left : ℕ) (test : ℕ → Bool) → MeetTaken w rest test → IsPopped rest k left → test k ≡ false
    → true ≡ some_square (λ s. bit_at w s == 1 && not (test s))
one_fails w rest k left test h taken fails = sym (h.same ∙ some_taken_or_left rest k left (λ s. not (test s)) taken ∙ rw fails refl)

-- at its end none fails
pub none_fails : (w rest : ℕ) (o : Option ℕ) (test : ℕ → Bool) → MeetTaken w rest test → (o ≡ None → rest ≡ 0) → o ≡ None
    → false ≡ some_square (λ s. bit_at w s == 1 && not (test s))
none_fails w rest o test h end none = sym (h.same ∙ none_meets rest (λ s. not (test s)) (end none))
