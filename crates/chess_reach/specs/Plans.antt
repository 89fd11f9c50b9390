-- What a mate needs, and what it costs in moves (own). In the last position of a help mate each square next
-- to the king is guarded by an enemy man or holds a man of the king's side, and an enemy man checks. A plan
-- says where each man ends, and in how many moves it gets there; a man that is captured ends where that happens,
-- but in Circe where it is reborn.
use Rattle.std.specs.Prelude.{◌≡◌, ◌≢◌, ℕ, ◌+◌, ◌≤◌, ◌==◌, Bool, true, false, not, ◌&&◌, ◌||◌, if◌then◌else◌, List, Option, Some, ◌⊎◌}
use Rattle.std.specs.List.{sum_by}
use Rattle.chess_core.specs.Squares.{file_of, rank_of, some_square, squares}
use Rattle.chess_core.specs.SquareNames.{e1, e8}
use Rattle.chess_core.specs.Castling.{has_unmoved}
use Rattle.chess_core.specs.Position.{Position, is_man, is_of_colour, man_on, may_promote, other, same_colour}
use Rattle.chess_core.specs.declared.man.Man.{Man}
use Rattle.chess_core.specs.declared.man.Colour.{Colour}
use Rattle.chess_core.specs.declared.man.Colour.TheVariants.{White, Black}
use Rattle.chess_core.specs.declared.man.Kind.{Kind}
use Rattle.chess_core.specs.declared.man.Kind.TheVariants.{King, Knight, Pawn}
use Rattle.pop_stipulation.specs.declared.stipulation.Goal.{Goal}
use Rattle.pop_stipulation.specs.declared.stipulation.Goal.TheVariants.{Mate}
use Rattle.chess_attacks.specs.RuleSet.{RuleSet, captures_are_reborn, like_men_paralyse}
use Rattle.chess_rules.specs.Play.{rebirth}
use Rattle.chess_reach.specs.Reach.{Gets, guards}

-- where a man ends and of which kind, in how many moves, and whether it is captured there
pub record End : Type 0 where
  pub kind : Kind
  pub square : ℕ
  pub moves : ℕ
  pub taken : Bool

-- the end of each man, by the square on which it is now
abbrev pub Ends : Type 0
Ends = ℕ → End

-- the moves that the men of a colour need to their ends
unfoldable pub price : List (Option Man) → Colour → Ends → ℕ
price men c ends =
    sum_by (λ s. if is_of_colour (man_on men s) c then (ends s).moves else 0) squares

-- a man of colour c guards t from its end, which isn't the square k of the king
pub record IsGuarded (men : List (Option Man)) (c : Colour) (ends : Ends) (k t : ℕ) : Type 0 where
  pub by : ℕ
  pub ours : is_of_colour (man_on men by) c ≡ true
  pub off : (ends by).square ≢ k
  pub guards : guards c (ends by).kind (ends by).square t ≡ true

-- a man of colour c ends on t, and, captured there, guards it from another square, where it is reborn
pub record IsDefended (reborn : Bool) (men : List (Option Man)) (c : Colour) (ends : Ends)
    (t : ℕ) : Type 0 where
  pub by : ℕ
  pub ours : is_of_colour (man_on men by) c ≡ true
  pub there : (ends by).square ≡ t
  pub lives : reborn ≡ true
  pub home : ℕ
  pub rebirth : rebirth c (ends by).kind t ≡ Some home
  pub off : home ≢ t
  pub guards : guards c (ends by).kind home t ≡ true

-- knights and pawns check by a leap: no man can stand between
abbrev pub checks_by_leap : Kind → Bool
checks_by_leap Knight = true
checks_by_leap Pawn = true
checks_by_leap k = false

-- a knight or pawn that checks has made a move: the king wasn't in check before the last move (FIDE Laws
-- 3.9.2), which opens lines of riders alone. If `standing_checks` (Madrasi), that move may also free a man.
-- In Circe any man may check.
abbrev pub Arrives : Bool → End → Type 0
Arrives standing_checks e = standing_checks ≡ false → checks_by_leap e.kind ≡ true → e.moves ≢ 0

abbrev pub standing_checks : RuleSet → Bool
standing_checks rule = like_men_paralyse rule || captures_are_reborn rule

-- a man of colour c checks the king on k from its end
pub record IsChecked (standing_checks : Bool) (men : List (Option Man)) (c : Colour) (ends : Ends)
    (k : ℕ) : Type 0 where
  pub guarded : IsGuarded men c ends k k
  pub arrives : Arrives standing_checks (ends guarded.by)

-- a man of colour c ends on t and isn't captured there
pub record IsBlocked (men : List (Option Man)) (c : Colour) (ends : Ends) (t : ℕ) : Type 0 where
  pub by : ℕ
  pub theirs : is_of_colour (man_on men by) c ≡ true
  pub there : (ends by).square ≡ t
  pub stays : (ends by).taken ≡ false

-- t is the square ahead of s for a pawn of this colour
abbrev pub is_ahead : Colour → ℕ → ℕ → Bool
is_ahead White s t = file_of s == file_of t && rank_of t == rank_of s + 1
is_ahead Black s t = file_of s == file_of t && rank_of s == rank_of t + 1

-- a pawn of colour c that captures a man on s arrives on t: on s, or en passant on the square ahead of it
abbrev pub captures_to : Colour → ℕ → ℕ → Bool
captures_to c s t = s == t || is_ahead c s t

-- the man on s, of the other side and not its king, is captured where a pawn of colour c arrives on t
abbrev pub is_prey : List (Option Man) → Colour → Ends → ℕ → ℕ → Bool
is_prey men c ends t s =
    (is_of_colour (man_on men s) (other c) && not (is_man (man_on men s) (other c) King))
    && ((ends s).taken && captures_to c (ends s).square t)

-- a pawn of colour d may capture on t: where it is of colour c, only a man that ends so, or that is reborn
unfoldable pub may_capture : Bool → List (Option Man) → Colour → Ends → Colour → ℕ → Bool
may_capture reborn men c ends d t =
    reborn || (not (same_colour d c) || some_square (is_prey men c ends t))

-- colour c makes n moves and the other side m; the king of the other side ends on k, not next to the king of
-- colour c; it can't move there, and for mate is in check
pub record IsPlan (goal : Goal) (standing_checks reborn : Bool) (p : Position) (c : Colour)
    (n m k : ℕ) (ends : Ends) : Type 0 where
  pub gets : (s : ℕ) (x : Man) → man_on p.men s ≡ Some x
      → Gets reborn (may_promote p) (may_capture reborn p.men c ends x.colour) x.colour
      (ends s).moves
      x.kind s (ends s).kind (ends s).square
  pub ours : price p.men c ends ≤ n
  pub theirs : price p.men (other c) ends ≤ m
  pub king : (s : ℕ) → is_man (man_on p.men s) (other c) King ≡ true → (ends s).square ≡ k
  pub apart : (s : ℕ) → is_man (man_on p.men s) c King ≡ true
      → guards c King (ends s).square k ≡ false
  pub around : (t : ℕ) → guards (other c) King k t ≡ true
      → IsGuarded p.men c ends k t ⊎ (IsDefended reborn p.men c ends t
      ⊎ IsBlocked p.men (other c) ends t)
  pub check : goal ≡ Mate → IsChecked standing_checks p.men c ends k

-- the square from which a colour's king castles (FIDE Laws 3.8.2)
abbrev pub king_home : Colour → ℕ
king_home White = e1
king_home Black = e8

-- the moves that castling may save a side: two of its king and one of its rook are one, once
abbrev pub saved_moves : Position → Colour → ℕ
saved_moves p c = if has_unmoved p.unmoved (king_home c) then 2 else 0
