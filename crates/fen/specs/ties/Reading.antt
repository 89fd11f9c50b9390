-- Parts of a text as they are read (own).
use Rattle.std.specs.Prelude.{ℕ, zero, suc, ◌+◌, ◌-◌, ◌*◌, ◌/◌, ◌%◌, ◌<◌, ◌≤◌, ◌≡◌, ◌==◌, Bool, false, true, not, if◌then◌else◌, ◌&&◌, ◌||◌, ⊤, List, [], ◌∷◌, ◌++◌, length, Option, None, IfSome, Result, MatchResult}
use Rattle.chess_core.specs.Castling.{Unmoved}
use Rattle.chess_core.specs.Diagrams.{Diagram}
use Rattle.chess_core.specs.Position.{man_on}
use Rattle.chess_core.specs.declared.man.Colour.{Colour}
use Rattle.chess_core.specs.declared.man.Kind.{Kind}
use Rattle.chess_core.specs.declared.man.Man.{Man}
use Rattle.fen.specs.Letters.{blank, digit_1, is_bracketed, man_text, slash, small_letter, turn_letter}
use Rattle.fen.specs.Fen.{HasFenRights, castling_letters, crossed_text, is_digit, or_dash, with_square}
use Rattle.fen.specs.declared.not_fen.NotFen.{NotFen}

-- the text is that of x and then the rest, and not that of another value that fits
pub record Finds {X : Type 0} (Fits : X → Type 0) (text_of : X → List ℕ → List ℕ) (text : List ℕ)
    (x : X) (rest : List ℕ) : Type 0 where
  pub fits : Fits x
  pub is : text ≡ text_of x rest
  pub only : (y : X) (other : List ℕ) → Fits y → text ≡ text_of y other → (y ≡ x) × (other ≡ rest)

-- the text doesn't begin with that of a value that fits
abbrev pub FindsNone : {X : Type 0} → (X → Type 0) → (X → List ℕ → List ℕ) → List ℕ → Type 0
FindsNone {X} Fits text_of text = (y : X) (other : List ℕ) → Fits y → text ≡ text_of y other → ⊥

-- the square with this many squares after it in FEN's order, which is from a8 to h8, and at last from a1 to h1
abbrev pub square_before : ℕ → ℕ
square_before after = 8 * (after / 8) + (7 - after % 8)

-- the byte that ends a rank before this many squares: a slash, or a blank after the last rank
abbrev pub mark : ℕ → ℕ
mark after = if after == 0 then blank else slash

-- the text with what comes before this many squares: the mark, at the end of a rank
unfoldable pub with_mark : ℕ → List ℕ → List ℕ
with_mark after text = if after % 8 == 0 then mark after ∷ text else text

-- the text of this many squares, the last ones in FEN's order, with their marks, and what comes after the men
unfoldable pub text_from : List (Option Man) → ℕ → List ℕ → List ℕ
text_from men zero tail = tail
text_from men (suc n) tail =
    with_square (man_on men (square_before n)) (with_mark n (text_from men n tail))

-- the text with the number of empty squares that were announced and are still to come
unfoldable pub with_number : ℕ → List ℕ → List ℕ
with_number zero text = text
with_number (suc n) text = (digit_1 + n) ∷ text

-- the text begins with a digit
abbrev pub begins_with_digit : List ℕ → Bool
begins_with_digit [] = false
begins_with_digit (first ∷ rest) = is_digit first

-- at most eight empty squares are still to come, and no digit comes right after their number
pub record IsLeft (empty : ℕ) (text : List ℕ) : Type 0 where
  pub small : empty ≤ 8
  pub ends : 0 < empty → begins_with_digit text ≡ false

-- the text begins with no number above n, and with no two digits
unfoldable pub IsRow : ℕ → List ℕ → Type 0
IsRow n [] = ⊤
IsRow n (first ∷ rest) = is_digit first ≡ true → (first ≤ 48 + n) × (begins_with_digit rest ≡ false)

-- men of this kind have this small letter, in brackets or not
unfoldable pub is_written : ℕ → Bool → Kind → Bool
is_written small brackets kind =
    small_letter kind == small && (if brackets then is_bracketed kind else not (is_bracketed kind))

-- no man comes first
abbrev pub FindsNoMan : List ℕ → Type 0
FindsNoMan text = (man : Man) (rest : List ℕ) → text ≡ man_text man ++ rest → ⊥

-- the square comes first, and then what is left
pub record FindsSquare (empty : ℕ) (text : List ℕ) (square : Option Man) (announced : ℕ)
    (rest : List ℕ) : Type 0 where
  pub left : IsLeft announced rest
  pub is : with_number empty text ≡ with_square square (with_number announced rest)
  pub only : (other : Option Man) (tail : List ℕ) → with_number empty text ≡ with_square other tail
      → (other ≡ square) × (tail ≡ with_number announced rest)

-- no square comes first
abbrev pub FindsNoSquare : ℕ → List ℕ → Type 0
FindsNoSquare empty text = (square : Option Man) (tail : List ℕ) → IsRow 7 tail
    → with_number empty text ≡ with_square square tail → ⊥

-- the mark comes first, if the square was the last of a rank, and then what is left
pub record SkipsMark (after empty : ℕ) (text : List ℕ) (announced : ℕ)
    (rest : List ℕ) : Type 0 where
  pub left : IsLeft announced rest
  pub is : with_number empty text ≡ with_mark after (with_number announced rest)
  pub only : (tail : List ℕ) → with_number empty text ≡ with_mark after tail
      → tail ≡ with_number announced rest
  pub done : after % 8 ≡ 0 → announced ≡ 0

-- the mark should come first, and doesn't
abbrev pub SkipsNoMark : ℕ → ℕ → List ℕ → Type 0
SkipsNoMark after empty text = (tail : List ℕ) → with_number empty text ≡ with_mark after tail → ⊥

-- the men are the same on all squares but this many, the last ones
abbrev pub IsSameBefore : ℕ → List (Option Man) → List (Option Man) → Type 0
IsSameBefore count men others = (j : ℕ) → count ≤ j → j < 64
    → man_on men (square_before j) ≡ man_on others (square_before j)

-- all squares but this many are read, and no other man is set
pub record IsReadTo (text : List ℕ) (count : ℕ) (men : List (Option Man)) (empty : ℕ)
    (rest : List ℕ) : Type 0 where
  pub size : length men ≡ 64
  pub left : IsLeft empty rest
  pub done : count % 8 ≡ 0 → empty ≡ 0
  pub unset : (j : ℕ) → j < count → man_on men (square_before j) ≡ None
  pub is : (others : List (Option Man)) (tail : List ℕ) → IsSameBefore count others men
      → with_number empty rest ≡ text_from others count tail → text ≡ text_from others 64 tail
  pub only : (others : List (Option Man)) (tail : List ℕ) → text ≡ text_from others 64 tail
      → IsSameBefore count others men × (with_number empty rest ≡ text_from others count tail)

-- 64 squares
abbrev pub HasAll : List (Option Man) → Type 0
HasAll men = length men ≡ 64

-- the text of the men, the blank, and what comes after it
abbrev pub men_before : List (Option Man) → List ℕ → List ℕ
men_before men rest = text_from men 64 rest

-- any colour
abbrev pub IsColour : Colour → Type 0
IsColour colour = ⊤

-- the letter of the side to move, a blank, and what comes after it
abbrev pub turn_before : Colour → List ℕ → List ℕ
turn_before colour rest = turn_letter colour ∷ blank ∷ rest

-- whether the text begins with the letter, and the rest after it
abbrev pub letter_at : ℕ → List ℕ → Bool × List ℕ
letter_at letter [] = (false, [])
letter_at letter (first ∷ rest) = if first == letter then (true, rest) else (false, first ∷ rest)

-- the castling rights with these rooks
abbrev pub rights_of : Bool → Bool → Bool → Bool → Unmoved
rights_of h1 a1 h8 a8 = record { a1 = a1; e1 = a1 || h1; h1 = h1; a8 = a8; e8 = a8 || h8; h8 = h8 }

-- the letters were read one after the other, each if the text had it, and this is left
pub record AreLetters (text : List ℕ) (h1 a1 h8 a8 : Bool) (left : List ℕ) : Type 0 where
  pub short : h1 ≡ (letter_at 75 text).0
  pub long : a1 ≡ (letter_at 81 (letter_at 75 text).1).0
  pub black_short : h8 ≡ (letter_at 107 (letter_at 81 (letter_at 75 text).1).1).0
  pub black_long : a8 ≡ (letter_at 113 (letter_at 107 (letter_at 81 (letter_at 75 text).1).1).1).0
  pub rest : left ≡ (letter_at 113 (letter_at 107 (letter_at 81 (letter_at 75 text).1).1).1).1

-- the castling rights, a blank, and what comes after it
unfoldable pub rights_before : Unmoved → List ℕ → List ℕ
rights_before u rest = or_dash (castling_letters u) ++ blank ∷ rest

-- the square is on the board
abbrev pub IsOnBoard : Option ℕ → Type 0
IsOnBoard crossed = IfSome crossed (λ square. square < 64)

-- the en passant square is read; the error says that the text is none
abbrev pub IsCrossedAs : List ℕ → Result (Option ℕ) NotFen → Type 0
IsCrossedAs text result =
    MatchResult result (λ crossed. IsOnBoard crossed × (text ≡ crossed_text crossed))
    (λ _. (crossed : Option ℕ) → IsOnBoard crossed → text ≡ crossed_text crossed → ⊥)

-- the text of the fields after the men
unfoldable pub fields_text : Diagram → List ℕ
fields_text d = turn_before d.turn (rights_before d.unmoved (crossed_text d.crossed))

-- the text is that of the diagram's fields after the men
pub record HasFields (text : List ℕ) (d : Diagram) : Type 0 where
  pub rights : HasFenRights d.unmoved
  pub crossed : IsOnBoard d.crossed
  pub is : text ≡ fields_text d
