-- A defence after which no reply mates decides a direct mate with two half-moves left.
use Rattle.pop_battle.proofs.Words.{Bool, Direct, HasCounted, IsWellFormed, List, Mate, Position, RuleSet, Some, [], ap, arith, after_cut, can_move, chess, false, is_nil, length, length-append, list_all, least_of, mates_after, min, moves, moves_after, moves_between, nat_tests, not, place_of, position_after, refl, smallest_below, smallest_tree, sym, true, value, walk_count, ℕ, ◌+◌, ◌++◌, ◌-◌, ◌^◌, ◌∙◌, ◌∷◌, ◌≡◌, ◌≤◌, joined_value, mates_after-are, is_legal}
use Rattle.pop_battle.proofs.Boards.{any_mating, after_start, each_one, unreached}
use Rattle.pop_battle.proofs.Skipping.{after_back}
use Rattle.pop_battle.proofs.SmallestTrees.{tree-one, trees-start}
use Rattle.pop_battle.proofs.Values.{value-mates, value-open}
use Rattle.chess_flights.specs.ties.Mates.{allows_mate}
use Rattle.chess_rules.specs.ties.Filtering.{SomeFails}

module _ {M : Type 0} (m : M) (ys : List M) where
  -- one that fails is enough
  one_fails : (test : M → Bool) (xs : List M) → test m ≡ false → list_all test (xs ++ m ∷ ys) ≡ false
  one_fails test [] fails = grind arith
  one_fails test (x ∷ xs) fails = grind (arith, one_fails test xs fails)

  -- the least of a list is at most that of a move that decides
  least_at : (test : M → Bool) (f : M → ℕ) (n : ℕ) (xs : List M) → test m ≡ true → least_of test f n (xs ++ m ∷ ys) ≤ f m
  unfolding least_of
  least_at test f n [] passes = grind arith
  least_at test f n (x ∷ xs) passes = grind (arith, least_at test f n xs passes)

-- where no move mates
unmated : (rule : RuleSet) (q : Position) → not (is_nil (mates_after rule q 0)) ≡ false → value Direct (chess Mate rule) 1 q ≡ false
unmated rule q none = value-mates Direct (chess Mate rule) q refl ∙ any_mating rule q (moves rule q) ∙ rw (← after_start rule q, ← mates_after-are rule q 0) none

module _ (rule : RuleSet) (p : Position) (well : IsWellFormed p) (e : SomeFails rule p (allows_mate rule p)) where
  abbrev before : ℕ
  before = place_of (Some e.move) - 1

  cut : moves rule p ≡ moves_between rule p 0 before ++ e.move ∷ moves_after rule p (place_of (Some e.move))
  cut = sym (after_start rule p) ∙ after_cut (is_legal rule p) 0 before (omega arith)
      ∙ ap (λ ms. moves_between rule p 0 before ++ ms) (after_back rule p e.move well e.legal)

  many : 1 ≤ length (moves rule p)
  many = rw (cut, length-append (moves_between rule p 0 before)) (omega arith)

  can : can_move (chess Mate rule) p ≡ true
  can = grind (arith, many, nat_tests)

  lost : value Direct (chess Mate rule) 1 (position_after rule p e.move) ≡ false
  lost = unmated rule (position_after rule p e.move) e.fails

  fails : value Direct (chess Mate rule) 2 p ≡ false
  unfolding joined_value
  fails =
      value-open Direct (chess Mate rule) 2 p (omega arith) can (unreached Mate rule p can)
      ∙ ap (list_all (λ m. value Direct (chess Mate rule) 1 (position_after rule p m))) cut
      ∙ one_fails e.move (moves_after rule p (place_of (Some e.move))) (λ m. value Direct (chess Mate rule) 1 (position_after rule p m))
      (moves_between rule p 0 before) lost

  tree : smallest_tree Direct (chess Mate rule) 2 p ≤ 2
  unfolding smallest_below
  tree =
      let least : smallest_below Direct (chess Mate rule) 2 p (moves rule p) ≤ smallest_tree Direct (chess Mate rule) 1 (position_after rule p e.move) =
      rw cut (least_at _ _ _ _ _ _ (ap not lost)) in
      omega (arith, trees-start Direct (chess Mate rule) 2 p, least, tree-one Direct (chess Mate rule) 1 (position_after rule p e.move) refl)

  walk : 2 ≤ walk_count (moves rule) (position_after rule) 2 p
  unfolding walk_count
  walk = omega (arith, many, each_one (moves rule) (position_after rule) p (moves rule p))

  -- where no move mates, White doesn't win, and two positions may be counted
  pub escapes : (opened count : ℕ) → count ≡ min (opened + 2) (2 ^ 64 - 1) → (false ≡ value Direct (chess Mate rule) 2 p)
      × (count ≤ opened + walk_count (moves rule) (position_after rule) 2 p) × HasCounted opened count (smallest_tree Direct (chess Mate rule) 2 p)
  escapes opened count is = (sym fails, omega (arith, is, walk), omega (arith, is, tree))
