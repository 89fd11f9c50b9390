-- What a man reaches doesn't depend on the man on the square that it reaches.
use Rattle.chess_attacks.proofs.Basics.{Bool, List, Option, Some, [], and_left, and_parts, arith, cases_Bool, false, false_from_ne_true, is_some, list_all, list_any, or_from, range_with_len, refl, rules, suc, true, zero, ℕ, ◌&&◌, ◌+◌, ◌-◌, ◌<◌, ◌||◌, ◌∙◌, ◌∷◌, ◌≡◌, ◌≢◌, ◌≤◌}
use Rattle.chess_attacks.proofs.Chess.{Colour, Gait, Hopper, Kind, Leaper, Man, Rider, Step, along, any_range_false, any_range_same, gait_of, goes_by, hops, is_clear, is_occupied, is_square, kind_steps, leaps, man_on, place, reaches_as, rides}
use Rattle.chess_attacks.proofs.rays.Ends.{square_is, stays}
use Rattle.chess_attacks.proofs.rays.Ahead.{Ordered, moves_on, ordered_on}

-- two boards have men on equal squares, except perhaps t
pub record StandAlike (men others : List (Option Man)) (t : ℕ) : Type 0 where
  pub alike : (q : ℕ) → q ≢ t → is_some (man_on men q) ≡ is_some (man_on others q)

-- a line doesn't come to its end before
pub not_yet : (s t : ℕ) (d : Step) (k i : ℕ) → Ordered d → along s d k ≡ Some t → i < k → along s d i ≢ Some t
not_yet s t d k i o at lt here = let less : place d t < place d t = o.in_order s i k t t here at lt in absurd (omega arith)

all_range_same : (p q : ℕ → Bool) (a n : ℕ) → ((k : ℕ) → a ≤ k → k < a + n → p k ≡ q k) → list_all p (range_with_len a n) ≡ list_all q (range_with_len a n)
all_range_same p q a zero h = refl
all_range_same p q a (suc n) h = (λ j. h a (omega arith) (omega arith) j && all_range_same p q (a + 1) n (λ k lo hi. h k (omega arith) (omega arith)) j)

clear_alike : (men others : List (Option Man)) (s t : ℕ) (d : Step) (k n : ℕ) → Ordered d → StandAlike men others t → along s d k ≡ Some t → n < k
    → is_clear men s d n ≡ is_clear others s d n
unfolding is_clear
clear_alike men others s t d k n o a at lt = search (rules, all_range_same, not_yet)

same_along : (ds : List Step) (f g : Step → Bool) → ((d : Step) → Ordered d → f d ≡ g d) → list_all moves_on ds ≡ true → list_any f ds ≡ list_any g ds
same_along [] f g h on = refl
same_along (d ∷ ds) f g h on = let both = and_parts (moves_on d) (list_all moves_on ds) on in
    (λ j. h d (ordered_on d both.0) j || same_along ds f g h both.1 j)

-- the steps of each kind lead from square to square
steps_move_on : (c : Colour) (k : Kind) → list_all moves_on (kind_steps c k) ≡ true
steps_move_on c k = grind arith

-- tests of steps that agree on each step of a line in order agree on all steps of a kind
same_steps : (f g : Step → Bool) → ((d : Step) → Ordered d → f d ≡ g d) → (c : Colour) (k : Kind) → list_any f (kind_steps c k) ≡ list_any g (kind_steps c k)
same_steps f g h c k = same_along (kind_steps c k) f g h (steps_move_on c k)

ways_alike : (g : Gait) (men others : _) (s t : ℕ) (d : Step) → Ordered d → StandAlike men others t → goes_by g men s t d ≡ goes_by g others s t d
unfolding rides hops
ways_alike Leaper men others s t d o a = refl
ways_alike Rider men others s t d o a =
    any_range_same (λ k. is_square (along s d k) t && is_clear men s d (k - 1)) (λ k. is_square (along s d k) t && is_clear others s d (k - 1)) 1 7
    (grind (arith, cases_Bool, clear_alike, square_is, and_left))
ways_alike Hopper men others s t d o a = any_range_same (λ k. is_square (along s d k) t && is_occupied men (along s d (k - 1)) && is_clear men s d (k - 2))
    (λ k. is_square (along s d k) t && is_occupied others (along s d (k - 1)) && is_clear others s d (k - 2)) 2 6
    (λ k lo hi. let end = square_is (along s d k) t in
    grind (arith, cases_Bool, end, a.alike, not_yet s t d k (k - 1) o, clear_alike men others s t d k (k - 2) o a, and_left))

-- for two boards that differ only on the target
pub reaches_alike : (men others : _) (c : Colour) (j : Kind) (s t : ℕ) → StandAlike men others t → reaches_as men c j s t ≡ reaches_as others c j s t
unfolding reaches_as
reaches_alike men others c j s t a =
    same_steps (goes_by (gait_of j) men s t) (goes_by (gait_of j) others s t) (λ d o. ways_alike (gait_of j) men others s t d o a) c j

-- where no step of the list meets the test
pub any_false : (f : Step → Bool) (ds : List Step) → ((d : Step) → f d ≡ false) → list_any f ds ≡ false
any_false f [] none = refl
any_false f (d ∷ ds) none = or_from _ _ (none d) (any_false f ds none)

-- no way leads back to where it began
no_return : (s k : ℕ) (d : Step) → Ordered d → s < 64 → 1 ≤ k → is_square (along s d k) s ≡ false
no_return s k d o small lo = false_from_ne_true _ (λ y. let less : place d s < place d s =
    o.in_order s 0 k s s (stays s d small) (square_is _ s y) (omega (arith, lo)) in omega arith)

no_way_back : (g : Gait) (men : List (Option Man)) (s : ℕ) (d : Step) → Ordered d → s < 64 → goes_by g men s s d ≡ false
unfolding leaps rides hops
no_way_back g men s d o small = search (rules, no_return, any_range_false, and_left)

-- no man reaches its own square
pub no_reach_there : (men : List (Option Man)) (c : Colour) (j : Kind) (s : ℕ) → s < 64 → reaches_as men c j s s ≡ false
unfolding reaches_as
no_reach_there men c j s small = same_steps (goes_by (gait_of j) men s s) (λ d. false) (λ d o. no_way_back (gait_of j) men s d o small) c j
    ∙ any_false (λ d. false) (kind_steps c j) (λ d. refl)
