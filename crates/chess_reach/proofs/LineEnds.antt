-- A square without a plan is no end of a line.
use Rattle.chess_reach.proofs.Chess.{Bool, Colour, Ends, IsPlan, IsWellFormed, King, List, Man, Move, None, Option, Position, RuleSet, Some, [], ap, arith, captures_are_reborn, false≢true, is_man, is_some, king_square, length, man_on, other, position_after, refl, squares, subst, sym, true, ℕ, ◌+◌, ◌-◌, ◌/◌, ◌<◌, ◌==◌, ◌∙◌, ◌∷◌, ◌≡◌, ◌≢◌}
use Rattle.std.specs.Int.{bit_at}
use Rattle.chess_attacks.proofs.Tests.{find_no}
use Rattle.chess_attacks.proofs.rays.OnSquares.{on_board}
use Rattle.chess_reach.proofs.Lines.{king_along, line_plan, turn_after, turn_shift}
use Rattle.chess_reach.specs.Lines.{HoldsEnds, IsLegalLine, holds_king, line_end, mover}
use Rattle.chess_reach.specs.Plans.{saved_moves, standing_checks}
use Rattle.chess_rules.proofs.Blocking.{man_there}
use Rattle.chess_rules.proofs.StayingInCheck.{king_there}
use Rattle.chess_rules.proofs.LegalMoves.{may_be_made}
use Rattle.chess_rules.proofs.Stays.{after_well_formed}
use Rattle.pop_stipulation.specs.declared.stipulation.Goal.{Goal}

-- the side to move at the end of a line
turn_along : (rule : RuleSet) (c : Colour) (line : List Move) (p : Position) → IsWellFormed p → IsLegalLine rule p line → p.turn ≡ mover c (length line)
    → (line_end rule p line).turn ≡ other c
unfolding line_end IsLegalLine
turn_along rule c [] p well legal turn = turn
turn_along rule c (m ∷ line) p well legal turn =
    turn_along rule c line (position_after rule p m) (after_well_formed rule p m well (may_be_made rule p m legal.0)) legal.1
    (turn_after rule p m well legal.0 ∙ turn_shift c p.turn (length line) turn)

-- the last position is well formed
well_along : (rule : RuleSet) (line : List Move) (p : Position) → IsWellFormed p → IsLegalLine rule p line → IsWellFormed (line_end rule p line)
unfolding line_end IsLegalLine
well_along rule [] p well legal = well
well_along rule (m ∷ line) p well legal =
    well_along rule line (position_after rule p m) (after_well_formed rule p m well (may_be_made rule p m legal.0)) legal.1

-- a king is on some square
king_found : (men : List (Option Man)) (c : Colour) (s : ℕ) → s < 64 → is_man (man_on men s) c King ≡ true → (k : ℕ) × (king_square men c ≡ Some k)
unfolding king_square squares
king_found men c s small king = found (king_square men c) refl
  where
    found : (o : Option ℕ) → king_square men c ≡ o → (k : ℕ) × (king_square men c ≡ Some k)
    found None e = absurd (false≢true (sym (find_no (λ t. is_man (man_on men t) c King) 0 64 s e (omega arith) (omega arith)) ∙ king))
    found (Some k) e = (k, e)

-- its square, where a side has one
king_some : (men : List (Option Man)) (c : Colour) → is_some (king_square men c) ≡ true → (k : ℕ) × (king_square men c ≡ Some k)
king_some men c has = grind arith

-- the king's square is held
held_at : (w : ℕ) (men : List (Option Man)) (t d : Colour) (k : ℕ) → t ≡ d → king_square men d ≡ Some k → holds_king w (king_square men t) ≡ true
    → (bit_at w k == 1) ≡ true
held_at w men t d k turn at h = rw (turn, at) at h

holds_at : (w : ℕ) (men : List (Option Man)) (t d : Colour) (k : ℕ) → t ≡ d → king_square men d ≡ Some k → (bit_at w k == 1) ≡ true
    → holds_king w (king_square men t) ≡ true
holds_at w men t d k turn at h = rw (turn, at) h

-- what holds the ends of lines still holds them without the squares that have no plan
pub ends_held : (rule : RuleSet) (goal : Goal) (sc rb : Bool) (p : Position) (c d : Colour) (h n i j w v : ℕ) → IsWellFormed p → h ≢ 0 → h ≢ 1
    → p.turn ≡ mover c h → d ≡ other c → is_some (king_square p.men d) ≡ true → n ≡ h - h / 2 → i ≡ n + saved_moves p c
    → j ≡ h / 2 + saved_moves p d
    → sc ≡ standing_checks rule → rb ≡ captures_are_reborn rule → ((k : ℕ) (ends : Ends) → k < 64 → IsPlan goal sc rb p c i j k ends → (bit_at w k == 1) ≡ true → (bit_at v k == 1) ≡ true)
    → HoldsEnds goal rule h p w → HoldsEnds goal rule h p v
unfolding HoldsEnds
ends_held rule goal sc rb p c d h n i j w v well some more turn side has share ours theirs strict lives kept held = λ line len legal reaches.
    let king = king_some p.men (other c) (rw side at has) in
    let turns : p.turn ≡ mover c (length line) = turn ∙ ap (mover c) (sym len) in
    let ended = turn_along rule c line p well legal turns in
    let from = king_there p.men (other c) king.0 king.1 in
    let there = king_along rule (other c) line p king.0 well legal from.1 in
    let man = man_there (man_on (line_end rule p line).men there.0) (other c) King there.1 in
    let small = on_board (line_end rule p line).men there.0 man.0 (well_along rule line p well legal).size man.1 in
    let at = king_found (line_end rule p line).men (other c) there.0 small there.1 in
    let plan = line_plan rule c goal at.0 line p well legal reaches turns at.1 (λ none. some (sym len ∙ none)) (λ one. absurd (more (sym len ∙ one))) in
    let our_moves : (length line + 1) / 2 + saved_moves p c ≡ i = omega (arith, len, share, ours) in
    let their_share : j ≡ h / 2 + saved_moves p (other c) = rw side at theirs in
    let their_moves : length line / 2 + saved_moves p (other c) ≡ j = omega (arith, len, their_share) in
    let now : IsPlan goal sc rb p c i j at.0 plan.0 =
    subst (λ b. IsPlan goal sc b p c i j at.0 plan.0) (sym lives)
    (subst (λ b. IsPlan goal b (captures_are_reborn rule) p c i j at.0 plan.0) (sym strict)
    (subst (λ (o : ℕ). IsPlan goal (standing_checks rule) (captures_are_reborn rule) p c i o at.0 plan.0) their_moves
    (subst (λ (o : ℕ). IsPlan goal (standing_checks rule) (captures_are_reborn rule) p c o (length line / 2 + saved_moves p (other c)) at.0 plan.0) our_moves plan.1))) in
    let holds = held_at w (line_end rule p line).men (line_end rule p line).turn (other c) at.0 ended at.1 (held line len legal reaches) in
    holds_at v (line_end rule p line).men (line_end rule p line).turn (other c) at.0 ended at.1
    (kept at.0 plan.0 (king_there (line_end rule p line).men (other c) at.0 at.1).0 now holds)
