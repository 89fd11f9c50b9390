-- Parries by men other than the king, found before the check is given (own).
use Rattle.std.specs.Prelude.{◌≡◌, ⊤, ◌<◌, ◌==◌, ℕ, Bool, true, false, List, Option, None, Some, not, ◌&&◌, ◌||◌, ◌⊎◌}
use Rattle.std.specs.Int.{bit_at, bit_not, w64}
use Rattle.std.specs.Int.Bits.{bit_and, bit_or}
use Rattle.chess_core.specs.Position.{Position, is_man, is_of_colour, man_on, other, same_kind}
use Rattle.chess_core.specs.Squares.{is_square, some_square}
use Rattle.chess_mates.specs.declared.parries.Parries.{Parries}
use Rattle.chess_mates.specs.declared.parries.Parries.TheVariants.{Impossible, Possible, Unknown}
use Rattle.chess_attacks.specs.Attacks.{in_check}
use Rattle.chess_attacks.specs.Reaches.{forward, reaches, reaches_as}
use Rattle.chess_rules.specs.Legal.{is_legal, is_mate}
use Rattle.chess_core.specs.Steps.{along, diagonal_steps, straight_steps}
use Rattle.chess_core.specs.declared.man.Colour.{Colour}
use Rattle.chess_core.specs.declared.man.Colour.TheVariants.{White}
use Rattle.chess_core.specs.declared.man.Kind.TheVariants.{Bishop, King, Pawn, Rook}
use Rattle.chess_core.specs.declared.man.Man.{Man}
use Rattle.chess_core.specs.declared.man.Move.{Move}
use Rattle.chess_core.specs.ties.Words.{word}
use Rattle.chess_attacks.specs.RuleSet.{RuleSet, captures_are_reborn, like_men_paralyse}
use Rattle.chess_attacks.specs.ties.Lines.{is_advance, is_on_some, occupied_squares}
use Rattle.chess_rules.specs.ties.Blockers.{cannot_expose, is_fairy, may_expose, may_be_hurdle}
use Rattle.chess_rules.specs.ties.Filtering.{is_of_others}

-- the parries of the move m of x can be computed: x is no king and doesn't promote, the move opens no
-- line to the enemy king, nobody is reborn, and no man is paralysed
pub record AreParriesKnown (rule : RuleSet) (p : Position) (x : Man) (m : Move) : Type 0 where
  pub mortal : same_kind x.kind King ≡ false
  pub unpromoted : m.promo ≡ None
  pub reborn : captures_are_reborn rule ≡ false
  pub able : like_men_paralyse rule ≡ false
  pub cannot_expose : cannot_expose rule p (other p.turn) m ≡ true

-- s is on a file, rank or diagonal of k
abbrev pub is_on_line : ℕ → ℕ → Bool
is_on_line k s = is_on_some straight_steps k s || is_on_some diagonal_steps k s

-- a man that leaves s after m opens no line to its king on k: it blocks none alone, and none together with
-- the man that m moves away
abbrev pub is_unpinned : Position → Move → ℕ → ℕ → Bool
is_unpinned p m k s =
    not (may_expose p.men (other p.turn) s) && not (is_on_line k m.from && is_on_line k s)

-- a man comes from s to t, to interpose: a piece reaches t, or a pawn steps there
abbrev pub IsWayBetween : List (Option Man) → Position → ℕ → ℕ → Type 0
IsWayBetween men p s t =
    (((is_of_colour (man_on men s) (other p.turn) && reaches men s t) ≡ true)
    × (is_man (man_on men s) (other p.turn) Pawn ≡ false))
    ⊎ ((is_man (man_on men s) (other p.turn) Pawn ≡ true)
    × (is_square (along s (forward (other p.turn)) 1) t ≡ true))

-- after x has arrived by m, an unpinned enemy goes to an empty square on no fairy line, and x then doesn't
-- reach the king on k
pub record IsInterposed (men : List (Option Man)) (p : Position) (x : Man) (m : Move)
    (k : ℕ) : Type 0 where
  pub from : ℕ
  pub square : ℕ
  pub small : square < 64
  pub unpinned : is_unpinned p m k from ≡ true
  pub way : IsWayBetween men p from square
  pub vacant : man_on men square ≡ None
  pub aside : may_be_hurdle p.men (other p.turn) square ≡ false
  pub shut : (l : List (Option Man)) → bit_or (bit_and (occupied_squares men)
      (bit_not w64 (word (is_square (Some from))))) (word (is_square (Some square)))
      ≡ occupied_squares l → reaches_as l x.colour x.kind m.to k ≡ false

-- one of these men goes to t, and x on b then doesn't reach k
pub record IsShutBy (occupied comers : ℕ) (x : Man) (b k t : ℕ) : Type 0 where
  pub from : ℕ
  pub small : from < 64
  pub here : (bit_at comers from == 1) ≡ true
  pub shut : (l : List (Option Man)) → bit_or (bit_and occupied
      (bit_not w64 (word (is_square (Some from))))) (word (is_square (Some t)))
      ≡ occupied_squares l → reaches_as l x.colour x.kind b k ≡ false

-- the side to move is in check, and no man but its king has a legal move
pub record IsParriless (rule : RuleSet) (p : Position) : Type 0 where
  pub check : in_check rule p.men p.turn ≡ true
  pub idle : (m : Move) → is_of_others p m ≡ true → is_legal rule p m ≡ false

-- what is known of the parries of the side to move is true
abbrev pub AreParries : RuleSet → Position → Parries → Type 0
AreParries rule p Possible = is_mate rule p ≡ false
AreParries rule p Impossible = IsParriless rule p
AreParries rule p Unknown = ⊤

-- w holds the squares that rooks on b and k both reach, if b is on a file or rank of k, and the same
-- squares for bishops and diagonals
pub record AreBetween (men : List (Option Man)) (b k w : ℕ) : Type 0 where
  pub straight : is_on_some straight_steps k b ≡ true → (t : ℕ) → t < 64
      → (bit_at w t == 1) ≡ false
      → (reaches_as men White Rook b t && reaches_as men White Rook k t) ≡ false
  pub diagonal : is_on_some diagonal_steps k b ≡ true → (t : ℕ) → t < 64
      → (bit_at w t == 1) ≡ false
      → (reaches_as men White Bishop b t && reaches_as men White Bishop k t) ≡ false

-- a man of colour c other than the king on k goes from s to the empty square t: a piece reaches it, or a
-- pawn goes there by one step or two
abbrev pub comes : List (Option Man) → Colour → ℕ → ℕ → ℕ → Bool
comes men c k t s =
    (is_of_colour (man_on men s) c && reaches men s t && not (is_man (man_on men s) c Pawn)
    && not (is_square (Some k) s))
    || (is_man (man_on men s) c Pawn && is_advance (other c) t s)

-- the squares between b and k are empty, and no man of colour c but the king goes there
pub record NobodyComes (men : List (Option Man)) (c : Colour) (b k : ℕ) : Type 0 where
  pub squares : ℕ
  pub between : AreBetween men b k squares
  pub vacant : (t : ℕ) → t < 64 → (bit_at squares t == 1) ≡ true → man_on men t ≡ None
  pub none : (t : ℕ) → t < 64 → (bit_at squares t == 1) ≡ true
      → some_square (comes men c k t) ≡ false

-- what is known of men that interpose, after x has arrived by m, is true
abbrev pub IsKnownBetween : List (Option Man) → Position → Man → Move → ℕ → Parries → Type 0
IsKnownBetween men p x m k Possible = IsInterposed men p x m k
IsKnownBetween men p x m k Impossible = NobodyComes men (other p.turn) m.to k
IsKnownBetween men p x m k Unknown = ⊤

-- x, no pawn (which might be captured en passant) and no fairy man, gives check from b to the king on k,
-- and nobody but this king captures it
pub record IsUncaptured (occupied capturers : ℕ) (x : Man) (b k : ℕ) : Type 0 where
  pub piece : same_kind x.kind Pawn ≡ false
  pub orthodox : is_fairy x.kind ≡ false
  pub uncaptured : (s : ℕ) → s < 64 → (bit_at capturers s == 1) ≡ true → is_square (Some k) s ≡ true
  pub check : (men : List (Option Man)) → occupied ≡ occupied_squares men
      → reaches_as men x.colour x.kind b k ≡ true
