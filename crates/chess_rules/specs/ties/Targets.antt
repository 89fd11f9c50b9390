-- Arrival squares, candidate squares, and ranges of triples without a move (own).
use Rattle.std.specs.Prelude.{◌≡◌, ℕ, ◌<◌, Bool, false, true, not, ◌&&◌, ◌||◌, ◌==◌, Option, Some, None, is_some, if◌then◌else◌}
use Rattle.std.specs.Int.{bit_at}
use Rattle.chess_core.specs.Castling.{has_unmoved}
use Rattle.chess_core.specs.Position.{Position, man_on, same_colour, same_kind}
use Rattle.chess_core.specs.Squares.{is_square, rank_of}
use Rattle.chess_core.specs.Steps.{along, step_by}
use Rattle.chess_core.specs.declared.man.Kind.TheVariants.{King, Pawn}
use Rattle.chess_core.specs.declared.man.Man.{Man}
use Rattle.chess_core.specs.declared.man.Move.{Move}
use Rattle.chess_attacks.specs.Attacks.{is_paralysed}
use Rattle.chess_attacks.specs.Reaches.{forward, reaches_as}
use Rattle.chess_rules.specs.Legal.{is_arrival_free, last_rank, is_pawn_step}
use Rattle.chess_attacks.specs.RuleSet.{RuleSet}
use Rattle.chess_rules.specs.declared.listing_moves.move_test.TargetCache.{TargetCache}

-- a pawn goes one or two squares forward, a king two files to either side
unfoldable pub steps_to : Man → ℕ → ℕ → Bool
steps_to x s t =
    if same_kind x.kind Pawn then is_square (along s (forward x.colour) 1) t
    || is_square (along s (forward x.colour) 2) t
    else (if same_kind x.kind King then is_square (along s (step_by 2 0 0 0) 1) t
    || is_square (along s (step_by 0 2 0 0) 1) t else false)

-- a pawn on s steps to t
abbrev pub pawn_steps_to : Position → Man → ℕ → ℕ → Bool
pawn_steps_to p x s t = is_pawn_step p x (record { from = s; to = t; promo = None })

-- x goes from s to t: a pawn captures or steps, another man reaches t, and a king with its castling
-- right goes two files to either side, without further tests of castling
unfoldable pub may_arrive : Position → Man → ℕ → ℕ → Bool
may_arrive p x s t =
    if same_kind x.kind Pawn then (reaches_as p.men x.colour x.kind s t
    && (is_some (man_on p.men t) || is_square p.crossed t)) || pawn_steps_to p x s t
    else reaches_as p.men x.colour x.kind s t || (has_unmoved p.unmoved s && steps_to x s t)

-- this man, if there is one, is the mover's, isn't paralysed and goes to t, which holds no man of the mover
-- and no king
abbrev pub is_arrival_of : RuleSet → Position → Option Man → ℕ → ℕ → Bool
is_arrival_of rule p None s t = false
is_arrival_of rule p (Some x) s t =
    same_colour x.colour p.turn && not (is_paralysed rule p.men s)
    && is_arrival_free p.turn (man_on p.men t) && may_arrive p x s t

-- the man on s may go to t, without the tests of castling and of the promotion
unfoldable pub is_arrival : RuleSet → Position → ℕ → ℕ → Bool
is_arrival rule p s t = is_arrival_of rule p (man_on p.men s) s t

-- a pawn arrives on its last rank
abbrev pub is_promoting : Man → ℕ → Bool
is_promoting x t = same_kind x.kind Pawn && rank_of t == last_rank x.colour

-- the move goes to one of its man's arrival squares, and names a promotion exactly if a pawn arrives on its
-- last rank
pub record IsAimed (rule : RuleSet) (p : Position) (m : Move) : Type 0 where
  pub man : Man
  pub here : man_on p.men m.from ≡ Some man
  pub arrival : is_arrival rule p m.from m.to ≡ true
  pub promotion : is_some m.promo ≡ is_promoting man m.to

-- the man on s may go to each square of w, and no move from s to another square meets the test
pub record AreCandidates (rule : RuleSet) (p : Position) (test : Move → Bool) (s w : ℕ) : Type
    0 where
  pub inside : (t : ℕ) → t < 64 → (bit_at w t == 1) ≡ true → is_arrival rule p s t ≡ true
  pub outside : (m : Move) → m.from ≡ s → m.to < 64 → (bit_at w m.to == 1) ≡ false → test m ≡ false

-- the move goes to a square of w and meets the test
abbrev pub meets_on : ℕ → (Move → Bool) → Move → Bool
meets_on w test m = bit_at w m.to == 1 && test m

-- the kept squares are candidates of the kept origin
pub record IsTargetCacheOf (rule : RuleSet) (p : Position) (test : Move
    → Bool) (k : TargetCache) : Type 0 where
  pub are : (s : ℕ) → k.origin ≡ Some s → AreCandidates rule p test s k.squares

-- no move from a square outside w meets the test
pub record AreOrigins (test : Move → Bool) (w : ℕ) : Type 0 where
  pub elsewhere : (m : Move) → m.from < 64 → m.to < 64 → (bit_at w m.from == 1) ≡ false
      → test m ≡ false
