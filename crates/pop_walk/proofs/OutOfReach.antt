-- Where no line reaches the goal, the walk has no path.
use Rattle.pop_walk.proofs.Words.{Bool, IfSome, ◌⊎◌, ◌+◌, Contains, Goal, List, inl, inr, Mate, Move, None, Option, Mode, Position, RuleSet, Some, [], arith, chess, eqb, false, false≢true, first_in, from_filter, is_emitted, is_goal_reached, is_legal, later_in, nat_tests, position_after, refl, shown_paths, suc, sym, true, zero, ℕ, ◌<◌, ◌^◌, ◌-◌, ◌∙◌, ◌∷◌, ◌≡◌}
use Rattle.std.proofs.lemmas.Nat.Bits.{bit_at_ones, bit_at-trailing_zeros, bit_at-zero}
use Rattle.std.specs.Int.{w64}
use Rattle.chess_core.specs.Position.{king_square}
use Rattle.chess_core.specs.declared.man.Colour.{Colour}
use Rattle.chess_core.specs.declared.man.Kind.TheVariants.{King}
use Rattle.chess_core.specs.declared.man.Man.{Man}
use Rattle.chess_core.proofs.Words.{square_word_small}
unfoldable use Rattle.chess_core.specs.ties.Words.{squares_of}
unfoldable use Rattle.chess_rules.specs.Legal.{moves as legal_moves}
use Rattle.pop_stipulation.specs.declared.stipulation.Goal.TheVariants.{Stalemate}
use Rattle.chess_core.proofs.Kings.{king_square-none, king_square-some}
unfoldable use Rattle.chess_reach.specs.Lines.{HoldsEnds, IsLegalLine, line_end}
use Rattle.chess_reach.specs.Lines.{holds_king, reaches_goal}
use Rattle.pop_battle.specs.declared.frame.LineEnds.{LineEnds}
use Rattle.pop_walk.proofs.GoingOn.{cases, follows-help, no_zero, walk_length-help}

-- any king is on one of all squares
all-hold : (men : List (Option Man)) (c : Colour) → holds_king (2 ^ 64 - 1) (king_square men c) ≡ true
unfolding squares_of
all-hold men c = elim (cases (eqb (squares_of men c King) 0)) [
  | inl some ↦
      let lot : 0 < squares_of men c King = grind (arith, nat_tests) in
      let z = bit_at-trailing_zeros w64 _ lot (square_word_small _) in
      rw (king_square-some men c lot, bit_at_ones 64 _ z.0) refl
  | inr none ↦ rw (king_square-none men c (grind (arith, nat_tests))) refl
]

no-king : (o : Option ℕ) → holds_king 0 o ≡ false
no-king None = refl
no-king (Some k) = rw (bit_at-zero k) refl

goal-same : (goal : Goal) (rule : RuleSet) (q : Position) → is_goal_reached goal rule q ≡ reaches_goal goal rule q
goal-same Mate rule q = refl
goal-same Stalemate rule q = refl

module _ (goal : Goal) (rule : RuleSet) where
  -- all lines end on all squares
  pub ends-at-all : (t : ℕ) (q : Position) → HoldsEnds goal rule t q (2 ^ 64 - 1)
  unfolding HoldsEnds
  ends-at-all t q = λ line long legal reaches. all-hold _ _

  -- where lines end from a position, they end after a legal move
  pub ends-after : (t k w : ℕ) (q : Position) (m : Move) → k ≡ t + 1 → is_legal rule q m ≡ true → HoldsEnds goal rule k q w
      → HoldsEnds goal rule t (position_after rule q m) w
  unfolding HoldsEnds IsLegalLine line_end
  ends-after t k w q m more lawful ends = λ line long legal reaches. ends (m ∷ line) (omega (arith, long, more)) (lawful, legal) reaches

  -- where no line is left, the goal isn't reached
  no-goal : (q : Position) → HoldsEnds goal rule 0 q 0 → is_goal_reached goal rule q ≡ false
  unfolding HoldsEnds IsLegalLine line_end
  no-goal q ends = elim (cases (is_goal_reached goal rule q)) [
    | inl misses ↦ misses
    | inr reaches ↦ absurd (false≢true (sym (no-king (king_square q.men q.turn)) ∙ ends [] refl tt (sym (goal-same goal rule q) ∙ reaches)))
  ]

module _ (rule : RuleSet) (mode : Mode) (help : mode.battle ≡ None) where
  -- no path is emitted where no line reaches the goal
  not-emitted : (t : ℕ) (q : Position) → HoldsEnds mode.goal rule t q 0 → is_emitted mode.battle (chess mode.goal rule) t q ≡ false
  unfolding is_emitted
  not-emitted zero q none = rw help (no-goal mode.goal rule q none)
  not-emitted (suc t) q none = rw (help, no_zero t) refl

  -- legal moves from which no line reaches the goal have no path
  pub paths-none : (root : Bool) (fuel t : ℕ) (q : Position) (ms : List Move) → ((m : Move) → Contains ms m → is_legal rule q m ≡ true)
      → HoldsEnds mode.goal rule t q 0 → shown_paths mode (chess mode.goal rule) root fuel t q ms ≡ []
  unfolding shown_paths legal_moves
  paths-none root zero t q ms are none = refl
  paths-none root (suc fuel) zero q ms are none = refl
  paths-none root (suc fuel) (suc t) q [] are none = refl
  paths-none root (suc fuel) (suc t) q (m ∷ ms) are none =
      let r = position_after rule q m in
      let after = ends-after mode.goal rule t (suc t) 0 q m (omega arith) (are m (first_in m ms)) none in
      let below = paths-none false fuel t r (legal_moves rule r) (λ n c. (from_filter (is_legal rule r) _ n c).1) after in
      let rest = paths-none root (suc fuel) (suc t) q ms (λ n c. are n (later_in m ms n c)) none in
      rw (follows-help mode (chess mode.goal rule) root t r help, not-emitted t r after, walk_length-help mode (chess mode.goal rule) t r help, below) rest

  -- no path goes on from a position from which no line reaches the goal
  pub none-below : (fuel t : ℕ) (q : Position) → HoldsEnds mode.goal rule t q 0
      → shown_paths mode (chess mode.goal rule) false fuel t q (legal_moves rule q) ≡ []
  unfolding legal_moves
  none-below fuel t q none = paths-none false fuel t q (legal_moves rule q) (λ n c. (from_filter (is_legal rule q) _ n c).1) none

  -- a move to a position out of reach has no path
  pub first-none : (root : Bool) (fuel t : ℕ) (P : Position) (m : Move) (ms : List Move) → HoldsEnds mode.goal rule t (position_after rule P m) 0
      → shown_paths mode (chess mode.goal rule) root fuel (suc t) P (m ∷ ms) ≡ shown_paths mode (chess mode.goal rule) root fuel (suc t) P ms
  unfolding shown_paths
  first-none root zero t P m ms none = refl
  first-none root (suc fuel) t P m ms none =
      let r = position_after rule P m in
      rw (
        follows-help mode (chess mode.goal rule) root t r help,
        not-emitted t r none,
        walk_length-help mode (chess mode.goal rule) t r help,
        none-below fuel t r none,
      ) refl

-- for `line_ends_after`: what is known holds, or nothing is known
pub line_ends_hold : (rule : RuleSet) (h : ℕ) (p : Position) (line_ends : Option LineEnds) (e : LineEnds) (goal : Goal)
    → IfSome line_ends (λ e. HoldsEnds e.goal rule h p e.squares) → (line_ends ≡ Some e) ⊎ (e.squares ≡ 2 ^ 64 - 1) → e.goal ≡ goal
    → HoldsEnds goal rule h p e.squares
line_ends_hold rule h p line_ends e goal holds (inl is) same = rw (← same) (rw is at holds)
line_ends_hold rule h p line_ends e goal holds (inr all) same = rw all (ends-at-all goal rule h p)

-- for `squares_after`
pub ends_after : (rule : RuleSet) (goal : Goal) (t w : ℕ) (q : Position) (m : Move) → is_legal rule q m ≡ true → HoldsEnds goal rule (t + 1) q w
    → HoldsEnds goal rule t (position_after rule q m) w
ends_after rule goal t w q m lawful ends = ends-after goal rule t (t + 1) w q m refl lawful ends
