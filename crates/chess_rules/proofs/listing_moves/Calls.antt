-- Successive calls of `next` on one position.
use Rattle.chess_rules.proofs.Chess.{List, MatchOption, Move, Option, Position, RuleSet, [], arith, drop, drop-drop, moves, moves_after, place_of, refl, slice_get, suc, zero, ℕ, ◌+◌, ◌∷◌, ◌≡◌}
use Rattle.chess_rules.proofs.Places.{met_after-end}

get_first : (l : List Move) (n : ℕ) → slice_get l n ≡ slice_get (drop n l) 0
get_first [] zero = refl
get_first [] (suc n) = refl
get_first (x ∷ l) zero = refl
get_first (x ∷ l) (suc n) = get_first l n

-- what one call says, by its clauses `rest` and `place`
pub step_on : (rule : RuleSet) (p : Position) (n place next : ℕ) (o : Option Move) → moves_after rule p place ≡ drop n (moves rule p) → next ≡ place_of o
    → MatchOption o (moves_after rule p place ≡ []) (λ m. moves_after rule p place ≡ (m ∷ moves_after rule p next))
    → moves_after rule p next ≡ drop (n + 1) (moves rule p)
unfolding place_of
step_on rule p n place next o at e rest = grind (arith, drop-drop 1 n (moves rule p), met_after-end)

-- the move that one call gives is the one of that number, if there is one
pub answer_is : (rule : RuleSet) (p : Position) (n place next : ℕ) (o : Option Move) → moves_after rule p place ≡ drop n (moves rule p)
    → MatchOption o (moves_after rule p place ≡ []) (λ m. moves_after rule p place ≡ (m ∷ moves_after rule p next)) → o ≡ slice_get (moves rule p) n
answer_is rule p n place next o at rest = grind (arith, get_first (moves rule p) n)
