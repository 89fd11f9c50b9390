-- The moves of a position, stage by stage, are all its moves in another order.
use Rattle.pop_battle.proofs.Words.{Aimed, Bool, Earlier, Killer, List, Move, Order, Others, Position, RuleSet, [], all_moves_of, ap, append-nil, arith, belongs, between-here, between-none, between-past, between-skip, cases_Bool, cases_lt, comes_early, eqb, false, filter, filter_agree, is_at, moves_ahead, moves_after, met_after-end, met_after-here, met_after-skip, moves_between, moves_here, moves_later, nat_tests, not, place_of_triple, refl, rules, suc, true, zero, ℕ, ◌&&◌, ◌||◌, ◌++◌, ◌+◌, ◌-◌, ◌<◌, ◌∙◌, ◌∷◌, ◌≡◌, ◌≤◌, append_assoc, all_triples, legal_moves}
use Rattle.chess_mates.specs.ties.Aims.{aims_at_king}
use Rattle.pop_battle.specs.declared.frame.Early.TheVariants.{AimedMoves, NoMoves}
use Rattle.pop_battle.proofs.Boards.{after_start}

-- a list parted by three tests
module _ {M : Type 0} (a b c : M → Bool) where
  abbrev parted : List M → List M
  parted ms = filter a ms ++ (filter (λ m. not (a m) && b m) ms ++ (filter (λ m. not (a m) && (not (b m) && c m)) ms
      ++ filter (λ m. not (a m) && (not (b m) && not (c m))) ms))

-- a fold with steps that may change places is equal over a list and over its parts
module _ {M C : Type 0} (step : M → C → C) (g : List M → C) (cons : (x : M) (xs : List M) → g (x ∷ xs) ≡ step x (g xs))
    (swap : (x y : M) (c : C) → step x (step y c) ≡ step y (step x c)) where
  -- an element may come first
  to_front : (x : M) (xs ys : List M) → g (xs ++ x ∷ ys) ≡ step x (g (xs ++ ys))
  to_front x [] ys = search rules
  to_front x (y ∷ xs) ys = search (rules, to_front x xs ys)

  past_two : (x : M) (xs ys zs : List M) → g (xs ++ (ys ++ x ∷ zs)) ≡ step x (g (xs ++ (ys ++ zs)))
  past_two x xs ys zs = search (rules, ← append_assoc, to_front)

  past_three : (x : M) (ws xs ys zs : List M) → g (ws ++ (xs ++ (ys ++ x ∷ zs))) ≡ step x (g (ws ++ (xs ++ (ys ++ zs))))
  past_three x ws xs ys zs = search (rules, to_front x (ws ++ (xs ++ ys)) zs, append_assoc)

  same_parted : (a b c : M → Bool) (ms : List M) → g (parted a b c ms) ≡ g ms
  same_parted a b c [] = search rules
  same_parted a b c (m ∷ ms) = search (rules, to_front, past_two, past_three, same_parted a b c ms)

filter-none : (f : Move → Bool) (none : (m : Move) → f m ≡ false) → (ms : List Move) → filter f ms ≡ []
filter-none f none [] = refl
filter-none f none (m ∷ ms) = rw (none m) (filter-none f none ms)

-- the moves after a cursor, one cursor after another
ruleset places = (cases_lt, cases_Bool, met_after-end, met_after-here, met_after-skip, place_of_triple)

-- the moves at one place
module _ (rule : RuleSet) (p : Position) (k : ℕ) where
  -- a triple that is elsewhere is skipped
  skip : (a : ℕ) → (a + 1 ≡ k → ⊥) → filter (is_at k) (moves_after rule p a) ≡ filter (is_at k) (moves_after rule p (a + 1))
  skip a other = search (rules, places)

  skip_all : (n a b : ℕ) → b ≡ a + n → ((i : ℕ) → a ≤ i → i < b → i + 1 ≡ k → ⊥)
      → filter (is_at k) (moves_after rule p a) ≡ filter (is_at k) (moves_after rule p b)
  skip_all zero a b e off = grind arith
  skip_all (suc n) a b e off =
      skip a (off a (omega arith) (omega (arith, e))) ∙ skip_all n (a + 1) b (omega (arith, e)) (λ i lo hi. off i (omega (arith, lo)) hi)

  here_alone : filter (is_at k) (moves_after rule p (k - 1)) ≡ moves_between rule p (k - 1) k
  here_alone = search (rules, places, between-past, between-here, between-skip, between-none, skip_all all_triples k (k + all_triples), met_after-end)

  one_place : moves_between rule p (k - 1) k ≡ filter (is_at k) (legal_moves rule p)
  one_place = search (rules, ← after_start, skip_all (k - 1) 0 (k - 1), here_alone)

module _ (rule : RuleSet) (p : Position) (order : Order) where
  -- the cursor before a stage
  pub before_killer : (place : ℕ) → place ≡ order.killer - 1 → moves_here rule p order Killer place ≡ all_moves_of rule p order Killer
  unfolding moves_here belongs
  before_killer place at = rw at (one_place rule p order.killer)

  -- the place before the earlier killer has it ahead
  pub before_earlier : (place : ℕ) → place ≡ order.earlier - 1 → eqb order.earlier order.killer ≡ false
      → moves_here rule p order Earlier place ≡ all_moves_of rule p order Earlier
  unfolding moves_here belongs
  before_earlier place at other = search (rules, one_place, filter_agree, nat_tests)

  -- where both killers are one, the earlier has no move
  pub after_earlier : (place : ℕ) → place ≡ order.earlier → eqb order.earlier order.killer ≡ true
      → moves_here rule p order Earlier place ≡ all_moves_of rule p order Earlier
  unfolding moves_here belongs
  after_earlier place at same = search (rules, between-none, filter-none, nat_tests)

  -- the stages after one
  pub later_aimed : order.early ≡ NoMoves → moves_later rule p order Earlier ≡ all_moves_of rule p order Others ++ moves_later rule p order Others
  unfolding moves_later belongs
  later_aimed none = search (rules, filter-none, append-nil)

  -- before the earlier killer all moves are ahead but the killer
  pub ahead_earlier : (place : ℕ) → moves_here rule p order Earlier place ≡ all_moves_of rule p order Earlier
      → moves_later rule p order Killer ≡ moves_ahead rule p order Earlier place
  unfolding moves_later
  ahead_earlier place at = rw at refl

  -- to a frame that is opened all moves are left, in another order
  pub same_start : {C : Type 0} (step : Move → C → C) (g : List Move → C) → ((m : Move) (ms : List Move) → g (m ∷ ms) ≡ step m (g ms))
      → ((m n : Move) (c : C) → step m (step n c) ≡ step n (step m c)) → g (moves_ahead rule p order Killer (order.killer - 1)) ≡ g (legal_moves rule p)
  unfolding moves_later belongs
  same_start step g cons swap = ap (λ ms. g (ms ++ moves_later rule p order Killer)) (before_killer (order.killer - 1) refl)
      ∙ same_parted step g cons swap (is_at order.killer) (is_at order.earlier) (comes_early order.early p) (legal_moves rule p)

-- the aimed moves of a list, if these come early: the moves that give check or attack next to the king and
-- are no killers
pub aimed_filtered : (p : Position) (order : Order) → order.early ≡ AimedMoves → (ms : List Move)
    → filter (belongs p order Aimed) ms ≡ filter (λ m. not (is_at order.killer m || is_at order.earlier m)) (filter (aims_at_king p) ms)
unfolding belongs
aimed_filtered p order early [] = refl
aimed_filtered p order early (m ∷ ms) = search (rules, aimed_filtered p order early ms, cases_Bool)

-- for `place_before`: what is ahead at the start of each stage
pub ruleset first_place = (before_killer, before_earlier, after_earlier, after_start)

-- for `stage_after`: what is ahead after each stage
pub ruleset next_stage = (later_aimed, append-nil)
