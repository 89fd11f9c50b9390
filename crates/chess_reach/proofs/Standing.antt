-- A knight or pawn that stands doesn't check: it would have checked before the last move.
use Rattle.chess_reach.proofs.Chess.{Colour, IsGuarded, IsWellFormed, King, Kind, Knight, List, Man, Option, Pawn, Position, RuleSet, Some, and_from, and_parts, ap, checks_by_leap, false, false≢true, guards, in_check, is_attacked, is_attacker, is_man, is_paralysed, king_square, man_on, not, other, reaches, reaches_as, refl, same_colour-refl, same_colour-true, some_square_true, subst, sym, true, ℕ, ◌<◌, ◌∙◌, ◌≡◌}
use Rattle.chess_attacks.proofs.rays.OnSquares.{on_board}
use Rattle.chess_attacks.specs.RuleSet.{like_men_paralyse}
use Rattle.chess_reach.proofs.OneMove.{stays}
use Rattle.chess_reach.proofs.Picture.{checked}
use Rattle.chess_rules.proofs.Blocking.{king_is, man_there, other_twice}
use Rattle.chess_rules.proofs.StayingInCheck.{king_there, side_there}

-- knights and pawns reach what they guard on each board
leaper_reaches : (men : List (Option Man)) (c : Colour) (j : Kind) (s t : ℕ) → checks_by_leap j ≡ true → guards c j s t ≡ true → reaches_as men c j s t ≡ true
unfolding guards reaches_as
leaper_reaches men c Knight s t leaps h = h
leaper_reaches men c Pawn s t leaps h = h
leaper_reaches men c j s t leaps h = absurd (false≢true leaps)

-- where men aren't paralysed, nobody is
unparalysed : (rule : RuleSet) (men : List (Option Man)) (s : ℕ) → like_men_paralyse rule ≡ false → is_paralysed rule men s ≡ false
unfolding is_paralysed
unparalysed rule men s free = rw free refl

module _ (rule : RuleSet) (p : Position) (c : Colour) (k : ℕ) (well : IsWellFormed p) (free : like_men_paralyse rule ≡ false)
    (safe : in_check rule p.men (other c) ≡ false) (small : k < 64) (king : is_man (man_on p.men k) (other c) King ≡ true) where
  leaper_attacks : (s : ℕ) (z : Man) → s < 64 → man_on p.men s ≡ Some z → z.colour ≡ c → checks_by_leap z.kind ≡ true → guards c z.kind s k ≡ true
      → is_attacked rule p.men k c ≡ true
  unfolding is_attacked is_attacker reaches
  leaper_attacks s z low here mine leaps h =
      some_square_true _ s low (and_from _ _ (and_from _ _ (rw (here, mine) (same_colour-refl c)) (ap not (unparalysed rule p.men s free)))
      (rw (here, mine) (leaper_reaches p.men c z.kind s k leaps h)))

  -- the king isn't in check by a knight or pawn
  pub no_leaper_checks : (s : ℕ) (z : Man) → s < 64 → man_on p.men s ≡ Some z → z.colour ≡ c → checks_by_leap z.kind ≡ true → guards c z.kind s k ≡ true → ⊥
  no_leaper_checks s z low here mine leaps h =
      let at = king_is p.men (other c) k well.kings small king in
      false≢true (sym safe ∙ checked rule p.men (other c) k at ∙ subst (λ d. is_attacked rule p.men k d ≡ true) (sym (other_twice c)) (leaper_attacks s z low here mine leaps h))

-- the same after the last move, if who checks and the king stood before it where they stand
module _ (rule : RuleSet) (p q : Position) (c : Colour) (k : ℕ) (well : IsWellFormed p) (free : like_men_paralyse rule ≡ false)
    (safe : in_check rule p.men (other c) ≡ false) (at : king_square q.men (other c) ≡ Some k)
    (king_stood : (z : Man) → man_on q.men k ≡ Some z → z.colour ≡ other c → man_on p.men k ≡ Some z) where
  king_before : (k < 64) × (is_man (man_on p.men k) (other c) King ≡ true)
  king_before =
      let there = king_there q.men (other c) k at in
      let z = man_there (man_on q.men k) (other c) King there.1 in
      let king : is_man (Some z.0) (other c) King ≡ true = rw z.1 at there.1 in
      (there.0, rw (king_stood z.0 z.1 (same_colour-true z.0.colour (other c) (and_parts _ _ king).0)) king)

  pub no_stander_checks : (g : IsGuarded q.men c (stays q.men) k k) → checks_by_leap (stays q.men g.by).kind ≡ true
      → ((z : Man) → man_on q.men g.by ≡ Some z → checks_by_leap z.kind ≡ true → man_on p.men g.by ≡ Some z) → ⊥
  no_stander_checks g leaps stood =
      let z = side_there (man_on q.men g.by) c g.ours in
      let leaper : checks_by_leap z.0.kind ≡ true = rw z.1.0 at leaps in
      let before = stood z.0 z.1.0 leaper in
      let guarding : guards c z.0.kind g.by k ≡ true = rw z.1.0 at g.guards in
      no_leaper_checks rule p c k well free safe king_before.0 king_before.1 g.by z.0 (on_board p.men g.by z.0 well.size before) before
      (same_colour-true z.0.colour c z.1.1) leaper guarding
