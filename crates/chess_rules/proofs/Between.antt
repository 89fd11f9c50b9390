-- The moves between two cursors that meet a test.
use Rattle.std.proofs.Math.Seq.{take-add}
use Rattle.std.specs.Prelude.{min}
use Rattle.chess_rules.proofs.Chess.{Bool, NoneMeet, List, Move, Position, RuleSet, [], all_triples, ap, arith, drop, drop-drop, false, filter-append, is_legal, met_after, met_between, moves, moves_after, moves_between, refl, rules, sym, take, take-append-drop, triple_at, triples, true, ℕ, ◌++◌, ◌+◌, ◌-◌, ◌<◌, ◌∙◌, ◌∷◌, ◌≡◌, ◌≤◌}
use Rattle.chess_rules.proofs.Places.{drop_triples, drop_triples_past, moves_after-start, over, place_of_triple}

take-none : (n : ℕ) → take {A = Move} n [] ≡ []
take-none n = grind arith

-- no move lies between a cursor and one that isn't after it
pub between-none : (test : Move → Bool) (a b : ℕ) → b ≤ a → met_between test a b ≡ []
unfolding met_between
between-none test a b le = let z : b - a ≡ 0 = omega (arith, le) in rw z refl

-- no move lies after the last triple
pub between-past : (test : Move → Bool) (a b : ℕ) → all_triples ≤ a → met_between test a b ≡ []
unfolding met_between
between-past test a b ge = rw (drop_triples_past a ge, take-none (b - a)) refl

-- the triple at the first place comes first, if it meets the test
pub between-here : (test : Move → Bool) (a b : ℕ) → a < all_triples → a < b → test (triple_at a) ≡ true
    → met_between test a b ≡ triple_at a ∷ met_between test (a + 1) b
unfolding met_between
between-here test a b lt low h = search (rules, drop_triples)

-- a triple at the first place that fails the test is skipped
pub between-skip : (test : Move → Bool) (a b : ℕ) → a < all_triples → test (triple_at a) ≡ false → met_between test a b ≡ met_between test (a + 1) b
unfolding met_between
between-skip test a b lt h = search (rules, between-none, drop_triples)

-- over a range of triples that fail the test
pub between-over : (test : Move → Bool) (a b e : ℕ) → (b < all_triples → a ≤ b) → b ≤ all_triples → NoneMeet test a b
    → met_between test a e ≡ met_between test b e
between-over test a b e =
    over (λ n. met_between test n e) test (λ n lt h. between-skip test n e lt h) [] (λ n ge. between-past test n e ge) a b

-- up to the first triple that meets the test, and where none is left before the end
pub until-met : (test : Move → Bool) (a n e : ℕ) → a ≤ n → n < e → n < all_triples → NoneMeet test a n → test (triple_at n) ≡ true
    → met_between test a e ≡ triple_at n ∷ met_between test (n + 1) e
until-met test a n e low before fits none h = between-over test a n e (λ _. low) (omega arith) none ∙ between-here test n e fits before h

-- where the walk gets to the end without one, no move lies before it
pub until-end : (test : Move → Bool) (a n e : ℕ) → n ≤ all_triples → n ≤ e → (n < all_triples → e ≤ n) → NoneMeet test a n → met_between test a e ≡ []
until-end test a n e fits before all none = search (rules, between-none, between-over, between-past)

-- no move lies between a cursor and one that isn't after it, or after the last triple
pub until-none : (test : Move → Bool) (a e : ℕ) → min e all_triples ≤ a → met_between test a e ≡ []
until-none test a e le = grind (arith, between-none, between-past)

drop_twice : (a b : ℕ) (l : List Move) → a ≤ b → drop (b - a) (drop a l) ≡ drop b l
drop_twice a b l le = let e : a + (b - a) ≡ b = omega (arith, le) in drop-drop (b - a) a l ∙ ap (λ n. drop n l) e

-- the moves between two places, cut at a third
pub between_cut : (test : Move → Bool) (a b e : ℕ) → a ≤ b → b ≤ e → met_between test a e ≡ met_between test a b ++ met_between test b e
unfolding met_between
between_cut test a b e lo hi =
    let n : e - a ≡ (b - a) + (e - b) = omega arith in
    grind (arith, n, take-add (b - a) (e - b) (drop a triples), filter-append test (take (b - a) (drop a triples)), drop_twice a b triples lo)

-- the moves after a cursor, cut at another
pub after_cut : (test : Move → Bool) (a b : ℕ) → a ≤ b → met_after test a ≡ met_between test a b ++ met_after test b
unfolding met_between met_after
after_cut test a b le =
    grind (arith, take-append-drop (b - a) (drop a triples), filter-append test (take (b - a) (drop a triples)), drop_twice a b triples le)

-- all moves, cut at two places
pub cut_moves : (rule : RuleSet) (p : Position) (a b : ℕ) → a ≤ b
    → moves rule p ≡ moves_between rule p 0 a ++ (moves_between rule p a b ++ moves_after rule p b)
cut_moves rule p a b le =
    let legal = is_legal rule p in
    sym (moves_after-start rule p) ∙ after_cut legal 0 a (omega arith) ∙ ap (λ ms. moves_between rule p 0 a ++ ms) (after_cut legal a b le)

-- for the walk up to an end
pub ruleset until = (place_of_triple, until-end, until-met, until-none)

-- the triple on which a place stands, if it meets the test
pub stands_on : (test : Move → Bool) (a b : ℕ) → a < all_triples → b ≡ a + 1 → test (triple_at a) ≡ true → met_between test a b ≡ triple_at a ∷ []
stands_on test a b lt e h = search (rules, between-here, between-none)

-- if it doesn't
pub stands_off : (test : Move → Bool) (a b : ℕ) → a < all_triples → b ≡ a + 1 → test (triple_at a) ≡ false → met_between test a b ≡ []
stands_off test a b lt e h = search (rules, between-skip, between-none)

-- for one move up to a place
pub ruleset standing = (between-none, between-past, stands_off, stands_on)
