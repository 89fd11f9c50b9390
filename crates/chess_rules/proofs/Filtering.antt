-- Walking from candidate to candidate skips the legal moves that a filter removes.
use Rattle.chess_rules.proofs.Chess.{AreCandidates, AreLegal, AreOrigins, AreKeptSquares, Bool, NoneMeet, IsFirstKept, Move, None, Position, RuleSet, SomeFails, [], all_triples, and_le_l, and_left, ap, append-nil, append_assoc, append_cancel_right, arith, bit_and, bit_at, bit_at-trailing_zeros, bit_at_and, bit_not, cases_Bool, cases_lt, eq-eqb, eqb-true, false, filter, filter-append, is_legal, is_legal_and, length, moves_after, moves_between, meets_on, refl, rules, second_fails, sym, trailing_zeros, triple_at, true, w64, ℕ, ◌++◌, ◌+◌, ◌<◌, ◌==◌, ◌^◌, ◌∙◌, ◌∷◌, ◌≡◌, ◌≤◌, List, met_after, drop, ◌&&◌, triples}
use Rattle.std.proofs.lemmas.Nat.Bits.{bit_at_not}
use Rattle.chess_rules.proofs.Between.{after_cut, between-past}
use Rattle.chess_rules.proofs.Places.{met_after-end, met_after-here, met_after-skip, over, place_of_none, place_of_triple}
use Rattle.chess_rules.proofs.Targeting.{false_by}
use Rattle.chess_rules.proofs.Walks.{off_second, on_first}

filter_both : {X : Type 0} (s t : X → Bool) (xs : List X) → filter t (filter s xs) ≡ filter (λ x. s x && t x) xs
filter_both s t [] = refl
filter_both s t (x ∷ xs) = grind (arith, cases_Bool (s x), filter_both s t xs)

-- of the legal moves after a cursor a filter keeps those that are legal and meet its test
pub kept_after : (rule : RuleSet) (p : Position) (test : Move → Bool) (n : ℕ) → filter test (moves_after rule p n) ≡ met_after (is_legal_and rule p test) n
unfolding met_after
kept_after rule p test n = filter_both (is_legal rule p) test (drop n triples)

-- for callers with a cursor that has moved on, or is at the end
pub moved_on : (rule : RuleSet) (p : Position) (a b : ℕ) → (b < all_triples → a ≤ b) → moves_after rule p a ≡ moves_between rule p a b ++ moves_after rule p b
moved_on rule p a b on = grind (arith, cases_lt, after_cut, between-past, met_after-end)

module _ (rule : RuleSet) (p : Position) (test : Move → Bool) where
  -- the squares, out of those where a legal move may go, that a filter keeps
  pub wanted_candidates : (s w v : ℕ) → AreCandidates rule p (is_legal rule p) s w → AreKeptSquares rule p test s w v
      → AreCandidates rule p (is_legal_and rule p test) s (bit_and w v)
  wanted_candidates s w v are filtered = search (rules, and_left, cases_Bool, off_second, on_first, second_fails)

  -- a side without legal moves has none that meets the test
  pub wanted_origins : (o : ℕ) → AreOrigins (is_legal rule p) o → AreOrigins (is_legal_and rule p test) o
  wanted_origins o own = record { elsewhere = λ m from to off. and_left _ (test m) (own.elsewhere m from to off) }

  -- a square left after a filter is taken off isn't one of the filter
  taken_off : (w v t : ℕ) → v < 2 ^ 64 → t < 64 → (bit_at (bit_and w (bit_not w64 v)) t == 1) ≡ true → (bit_at v t == 1) ≡ false
  taken_off w v t fits small on = grind (arith, false_by, eqb-true _ _ on, eqb-true, bit_at_not w64 v t fits small, bit_at_and w (bit_not w64 v) t)

  pub removed_candidates : (s w v : ℕ) → AreCandidates rule p (is_legal rule p) s w
      → AreCandidates rule p (meets_on (bit_and w v) (is_legal rule p)) s (bit_and w v)
  removed_candidates s w v are = record {
    inside = λ t small on. are.inside t small (on_first w v t on);
    outside = λ m from small off. and_left _ (is_legal rule p m) off;
  }

  -- a legal move to one of them fails the test
  pub removed_fails : (s w v : ℕ) → v < 2 ^ 64 → AreCandidates rule p (is_legal_and rule p test) s v → (m : Move) → is_legal rule p m ≡ true → m.from ≡ s
      → m.to < 64
      → (bit_at (bit_and w (bit_not w64 v)) m.to == 1) ≡ true → SomeFails rule p test
  removed_fails s w v fits wanted m legal from small on = record {
    move = m;
    legal = legal;
    fails = second_fails _ _ (wanted.outside m from small (taken_off w v m.to fits small on)) legal;
  }

  -- where all are known to be legal, one is enough
  pub sure_fails : (s w v : ℕ) → v < 2 ^ 64 → AreCandidates rule p (is_legal_and rule p test) s v → AreLegal rule p s w
      → 0 < bit_and w (bit_not w64 v) → w < 2 ^ 64 → SomeFails rule p test
  sure_fails s w v fits wanted legal some small =
      let first = bit_at-trailing_zeros w64 (bit_and w (bit_not w64 v)) some (omega (arith, small, and_le_l w (bit_not w64 v))) in
      let t = trailing_zeros w64 (bit_and w (bit_not w64 v)) in
      let on = eq-eqb _ 1 first.1 in
      removed_fails s w v fits wanted (record { from = s; to = t; promo = None }) (legal.to t first.0 (on_first w (bit_not w64 v) t on)) refl first.0 on

  wanted-skip : (n : ℕ) → n < all_triples → is_legal_and rule p test (triple_at n) ≡ false
      → filter test (moves_after rule p n) ≡ filter test (moves_after rule p (n + 1))
  wanted-skip n lt h = search (rules, second_fails, met_after-here, met_after-skip)

  -- over a range without a wanted move the moves that meet the test stay the same
  pub wanted-none : (a b : ℕ) → (b < all_triples → a ≤ b) → b ≤ all_triples → NoneMeet (is_legal_and rule p test) a b
      → filter test (moves_after rule p a) ≡ filter test (moves_after rule p b)
  wanted-none =
      over (λ n. filter test (moves_after rule p n)) (is_legal_and rule p test) wanted-skip [] (λ n ge. ap (filter test) (met_after-end (is_legal rule p) n ge))

  -- up to a legal move, by its number
  pub kept_numbered : (a n c : ℕ) → a ≤ n → n < all_triples → c ≡ length (moves_between rule p a n) → NoneMeet (is_legal_and rule p test) a n
      → is_legal rule p (triple_at n) ≡ true → IsFirstKept rule p test a (n + 1) c (triple_at n)
  kept_numbered a n c le lt count none h =
      let cut = after_cut (is_legal rule p) a n le in
      record {
        over = moves_between rule p a n;
        counted = count;
        skipped = append_cancel_right (moves_between rule p a (n + 1)) (moves_between rule p a n ++ triple_at n ∷ []) (moves_after rule p (n + 1))
            (grind (arith, append_assoc, after_cut, met_after-here));
        none = append_cancel_right (filter test (moves_between rule p a n)) [] (filter test (moves_after rule p n))
            (sym (filter-append test (moves_between rule p a n) (moves_after rule p n)) ∙ ap (filter test) (sym cut)
            ∙ wanted-none a n (λ _. le) (omega (arith, lt)) none);
      }

  -- if the walk reaches the end, no move after the cursor meets the test
  pub none_kept_after : (a b : ℕ) → all_triples ≤ b → b ≤ all_triples → NoneMeet (is_legal_and rule p test) a b → filter test (moves_after rule p a) ≡ []
  none_kept_after a b ge le none = grind (arith, met_after-end, wanted-none)

-- all moves after a cursor come before the end
pub counted_after : (rule : RuleSet) (p : Position) (a b c : ℕ) → all_triples ≤ b → b ≤ all_triples → c ≡ length (moves_between rule p a b)
    → c ≡ length (moves_after rule p a)
counted_after rule p a b c ge le count = grind (arith, moved_on rule p a b, met_after-end (is_legal rule p) b ge, append-nil (moves_between rule p a b))

-- for the next legal move that a filter keeps
pub ruleset next_kept = (counted_after, moved_on, place_of_none, place_of_triple, none_kept_after, kept_numbered)
