-- The men on the squares after a move.
use Rattle.chess_flights.proofs.Chess.{Colour, Grasshopper, IsMade, IsWellFormed, Kind, King, List, Man, Move, None, Option, Pawn, Position, RuleSet, Some, and_from, and_left, and_parts, and_right, arith, arrived, arrived_other, arriving_man, can_castle, capture_square, captures_are_reborn, cases_Bool, cases_eq, cond-false, cond-true, corner, eq-eqb, false, false_by, false≢true, gait_of, has_flight, has_unmoved, inl, inr, is_arrival_free, is_attacked, is_attacker, is_castling, is_flight, is_hopper, is_man, is_of_colour, is_open, is_promoting, is_promotion_right, is_some, is_square, kept_now, king_is_no_pawn, king_no_step, king_square, leaps, left_now, length, list_any, made, man_on, man_on-with_cases, may_castle, not-true, or_cases, or_parts, other, other_differs, position_after, position_after_by, put_at, queen_steps, reaches, reaches_as, reborn_square, refl, rules, same_colour, same_colour-true, same_kind, some_square_false, some_square_true, there_now, triple_at, true, unmoved_after, ℕ, ◌&&◌, ◌<◌, ◌||◌, ◌∙◌, ◌≡◌, ◌≢◌, ◌⊎◌, man_on_at, moved_men}
use Rattle.chess_core.proofs.Castlings.{has_unmoved-parts}
-- where a side stands somebody stands
pub use Rattle.chess_flights.proofs.Fleeing.{some_of_colour as some_side}
use Rattle.chess_flights.proofs.Fleeing.{IsKingOn, IsKingStep, king_on, step_is, step_to}

-- the position after a move, by the man that makes it
pub after_is : (rule : RuleSet) (p : Position) (x : Man) (m : Move) → man_on p.men m.from ≡ Some x
    → (position_after rule p m).men ≡ put_at (moved_men p x m) (reborn_square rule p x m) (man_on_at p.men (capture_square p x m))
unfolding position_after position_after_by
after_is rule p x m here = rw here refl

-- a man on a square after a move: the one that arrived, or one that was there
pub stood : (p : Position) (x : Man) (m : Move) (t : ℕ) (z : Man) → m.to < length p.men → man_on (arrived p x m) t ≡ Some z
    → ((t ≡ m.to) × (z ≡ arriving_man x m.promo)) ⊎ ((t ≢ m.to) × ((t ≢ m.from) × (man_on p.men t ≡ Some z)))
stood p x m t z size there = elim (cases_eq t m.to) [
  | inl e ↦ grind (arith, there_now p.men m.from (capture_square p x m) m.to (arriving_man x m.promo) size)
  | inr ne ↦ grind (arith, cases_Bool (is_square (Some m.from) t || is_square (capture_square p x m) t), left_now, kept_now, or_parts, eq-eqb, false≢true)
]

-- for men of the other side
pub not_mine : (x : Man) (c : Colour) → x.colour ≡ other c → same_colour x.colour c ≡ false
not_mine x c e = grind arith

-- a man may arrive on a square without a man of its side and without a king
pub free_man : (c : Colour) (o : Option Man) → is_of_colour o c ≡ false → is_man o (other c) King ≡ false → is_arrival_free c o ≡ true
free_man c o side king = grind (arith, false≢true)

-- a man may not arrive where its own side stands
pub unfree : (c : Colour) (o : Option Man) → is_arrival_free c o ≡ true → is_of_colour o c ≡ true → ⊥
unfree c o free side = grind (arith, and_parts, not-true, false≢true)

-- off the last rank no promotion is named
pub unnamed : (p : Position) (x : Man) (m : Move) (o : Option Kind) → is_promoting x m.to ≡ false → is_promotion_right p x m o ≡ true → o ≡ None
unnamed p x m o off right = grind (arith, and_parts)

-- each triple arrives on the board
pub arrival_small : (i : ℕ) → (triple_at i).to < 64
unfolding triple_at
arrival_small i = omega arith

-- nobody is captured but where the man arrives
pub captured_there : (p : Position) (x : Man) (m : Move) (s : ℕ) → is_square p.crossed m.to ≡ false → capture_square p x m ≡ Some s → s ≡ m.to
unfolding capture_square
captured_there p x m s off h = grind (arith, and_right, cond-false, cond-true)

-- a man on another square than origin and arrival stays
pub stays_there : (p : Position) (x : Man) (m : Move) (b : ℕ) → ((s : ℕ) → capture_square p x m ≡ Some s → s ≡ m.to) → b ≢ m.from → b ≢ m.to
    → man_on (arrived p x m) b ≡ man_on p.men b
stays_there p x m b here from to = arrived_other p x m b from (λ s cap e. to (e ∙ here s cap)) to

-- a man on another square than the origin stays or is captured
pub some_stays : (p : Position) (x : Man) (m : Move) (b : ℕ) → ((s : ℕ) → capture_square p x m ≡ Some s → s ≡ m.to) → m.to < length p.men → b ≢ m.from
    → is_some (man_on p.men b) ≡ true → is_some (man_on (arrived p x m) b) ≡ true
some_stays p x m b here size from some = search (rules, cases_eq, there_now, stays_there)

-- nobody is reborn where nobody is captured, or without Circe
pub no_rebirth : (rule : RuleSet) (p : Position) (x : Man) (m : Move) → (captures_are_reborn rule ≡ true → capture_square p x m ≡ None)
    → reborn_square rule p x m ≡ None
unfolding reborn_square
no_rebirth rule p x m nobody = grind (arith, cases_Bool (captures_are_reborn rule))

-- a man that has moved stays moved
pub moved_stays : (rule : RuleSet) (p : Position) (x : Man) (m : Move) (s : ℕ) → (captures_are_reborn rule ≡ true → capture_square p x m ≡ None)
    → is_castling x m ≡ false → man_on p.men m.from ≡ Some x → has_unmoved p.unmoved s ≡ false → has_unmoved (position_after rule p m).unmoved s ≡ false
unfolding position_after position_after_by unmoved_after
moved_stays rule p x m s nobody plain here moved = search (rules, false_by, false≢true, has_unmoved-parts, no_rebirth)

-- after a rebirth a man on a square was there, or is reborn there
pub stood_reborn : (men : List (Option Man)) (o : Option ℕ) (w : Option Man) (s : ℕ)
    → (man_on (put_at men o w) s ≡ man_on men s) ⊎ ((o ≡ Some s) × ((y : Man) × ((w ≡ Some y) × (man_on (put_at men o w) s ≡ Some y))))
stood_reborn men o w s = grind (arith, man_on-with_cases)

-- the man on a square is one man
pub same_man : (a b : Man) → Some a ≡ Some b → a ≡ b
same_man a b h = cc

-- a man that isn't one side's is the other's
pub mine_again : (a c : Colour) → same_colour a (other c) ≡ false → a ≡ c
mine_again a c h = grind arith

-- a man that is no grasshopper is no hopper
pub no_hopper : (k : Kind) → same_kind k Grasshopper ≡ false → is_hopper (gait_of k) ≡ false
no_hopper k other = grind (arith, false≢true)

-- a man of the mover is none of the other side
pub not_mine_enemy : (x : Man) (c : Colour) → x.colour ≡ c → same_colour x.colour (other c) ≡ false
not_mine_enemy x c e = grind (arith, other_differs)

-- a king is no pawn
pub and_left_king : (z : Man) → same_kind z.kind King ≡ true → same_kind z.kind Pawn ≡ false
and_left_king z king = king_is_no_pawn z.kind king

-- a king castles only if king and rook are unmoved
pub castle_unmoved : (rule : RuleSet) (p : Position) (x : Man) (m : Move) → IsWellFormed p → IsMade rule p x m → is_castling x m ≡ true
    → (has_unmoved p.unmoved m.from ≡ true) × (has_unmoved p.unmoved (corner m) ≡ true)
unfolding can_castle may_castle
castle_unmoved rule p x m well made castling = search (rules, and_parts, cond-false, king_is_no_pawn, made, or_cases, king_no_step)

-- a piece that doesn't castle reaches where it goes
pub piece_reaches : (rule : RuleSet) (p : Position) (x : Man) (m : Move) → IsMade rule p x m → same_kind x.kind Pawn ≡ false → is_castling x m ≡ false
    → reaches_as p.men x.colour x.kind m.from m.to ≡ true
unfolding can_castle may_castle reaches
piece_reaches rule p x m made piece plain = grind (arith, cond-false, made, or_cases, and_parts, false≢true)

-- what a king reaches doesn't depend on the other men
pub king_reaches : (men others : List (Option Man)) (c : Colour) (k : Kind) (s t : ℕ) → k ≡ King → reaches_as men c k s t ≡ reaches_as others c k s t
unfolding reaches_as
king_reaches men others c k s t e = rw e refl

-- where nobody of the other side reaches a square, it isn't attacked
pub reach_none : (men : List (Option Man)) (t : ℕ) (c : Colour)
    → ((s : ℕ) (z : Man) → s < 64 → man_on men s ≡ Some z → z.colour ≡ other c → reaches_as men z.colour z.kind s t ≡ false)
    → (s : ℕ) → s < 64 → (is_of_colour (man_on men s) (other c) && reaches men s t) ≡ false
unfolding reaches
reach_none men t c none s inside = grind (arith, cases_Bool, and_right, same_colour-true, and_left)

-- for squares that no enemy reaches
pub nobody_strikes : (rule : RuleSet) (men : List (Option Man)) (t : ℕ) (c : Colour)
    → ((s : ℕ) (z : Man) → s < 64 → man_on men s ≡ Some z → z.colour ≡ other c → reaches_as men z.colour z.kind s t ≡ false)
    → is_attacked rule men t (other c) ≡ false
unfolding is_attacked is_attacker
nobody_strikes rule men t c none = grind (arith, reach_none men t c none, some_square_false)

-- the king flees to a free square next to it that no enemy reaches once it is there
module _ (rule : RuleSet) (p : Position) (c : Colour) (k f : ℕ) (well : IsWellFormed p) (turn : p.turn ≡ c)
    (king : king_square p.men c ≡ Some k) (small : f < 64) (near : list_any (leaps k f) queen_steps ≡ true)
    (free : is_arrival_free c (man_on p.men f) ≡ true) (vacant : captures_are_reborn rule ≡ true → man_on p.men f ≡ None)
    (unreached : (z : Man) → IsKingOn p.men c k z → (s : ℕ) (u : Man) → s < 64 → man_on (arrived p z (step_to k f)) s ≡ Some u → u.colour ≡ other c
    → reaches_as (arrived p z (step_to k f)) u.colour u.kind s f ≡ false) where
  -- for flights that are left
  pub has_one : has_flight rule p ≡ true
  unfolding has_flight is_flight is_open reaches_as
  has_one =
      let z = king_on p.men c k king in
      let step : IsKingStep rule p z.0 k f = grind (arith, z.1, and_from, cases_Bool (captures_are_reborn rule)) in
      let step = step_is rule p z.0 k f step in
      search (rules, some_square_true (is_flight rule p) f small, turn, king, step, nobody_strikes rule _ f c (unreached z.0 z.1))
