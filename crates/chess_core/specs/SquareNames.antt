-- Names of squares: a letter for the file, a digit for the rank (FIDE Laws, appendix C).
use Rattle.std.specs.Prelude.{ℕ, ◌+◌, ◌-◌, ◌<◌, ◌≡◌, List, [], ◌∷◌, Result, MatchResult}
use Rattle.chess_core.specs.declared.square.NotASquare.{NotASquare}
use Rattle.chess_core.specs.Letters.{digit_0, letter_a}
use Rattle.chess_core.specs.Squares.{file_of, rank_of}

-- the text of a square: the letter of its file, the digit of its rank
abbrev pub square_text : ℕ → List ℕ
square_text s = (letter_a - 1 + file_of s) ∷ (digit_0 + rank_of s) ∷ []

-- a text is read as the square that it names; the error says that it names none
abbrev pub IsReadAs : List ℕ → Result ℕ NotASquare → Type 0
IsReadAs text result = MatchResult result (λ s. text ≡ square_text s)
    (λ _. (s : ℕ) → s < 64 → text ≡ square_text s → ⊥)

-- The squares that definitions and examples name.

abbrev pub a1 : ℕ
a1 = 0

abbrev pub b1 : ℕ
b1 = 1

abbrev pub c1 : ℕ
c1 = 2

abbrev pub d1 : ℕ
d1 = 3

abbrev pub e1 : ℕ
e1 = 4

abbrev pub f1 : ℕ
f1 = 5

abbrev pub g1 : ℕ
g1 = 6

abbrev pub h1 : ℕ
h1 = 7

abbrev pub a2 : ℕ
a2 = 8

abbrev pub b2 : ℕ
b2 = 9

abbrev pub c2 : ℕ
c2 = 10

abbrev pub d2 : ℕ
d2 = 11

abbrev pub e2 : ℕ
e2 = 12

abbrev pub f2 : ℕ
f2 = 13

abbrev pub g2 : ℕ
g2 = 14

abbrev pub h2 : ℕ
h2 = 15

abbrev pub a3 : ℕ
a3 = 16

abbrev pub b3 : ℕ
b3 = 17

abbrev pub c3 : ℕ
c3 = 18

abbrev pub d3 : ℕ
d3 = 19

abbrev pub f3 : ℕ
f3 = 21

abbrev pub h3 : ℕ
h3 = 23

abbrev pub a4 : ℕ
a4 = 24

abbrev pub b4 : ℕ
b4 = 25

abbrev pub e4 : ℕ
e4 = 28

abbrev pub a5 : ℕ
a5 = 32

abbrev pub d5 : ℕ
d5 = 35

abbrev pub e5 : ℕ
e5 = 36

abbrev pub a6 : ℕ
a6 = 40

abbrev pub b6 : ℕ
b6 = 41

abbrev pub d6 : ℕ
d6 = 43

abbrev pub e6 : ℕ
e6 = 44

abbrev pub f6 : ℕ
f6 = 45

abbrev pub g6 : ℕ
g6 = 46

abbrev pub a7 : ℕ
a7 = 48

abbrev pub b7 : ℕ
b7 = 49

abbrev pub c7 : ℕ
c7 = 50

abbrev pub d7 : ℕ
d7 = 51

abbrev pub e7 : ℕ
e7 = 52

abbrev pub f7 : ℕ
f7 = 53

abbrev pub g7 : ℕ
g7 = 54

abbrev pub h7 : ℕ
h7 = 55

abbrev pub a8 : ℕ
a8 = 56

abbrev pub b8 : ℕ
b8 = 57

abbrev pub c8 : ℕ
c8 = 58

abbrev pub d8 : ℕ
d8 = 59

abbrev pub e8 : ℕ
e8 = 60

abbrev pub f8 : ℕ
f8 = 61

abbrev pub g8 : ℕ
g8 = 62

abbrev pub h8 : ℕ
h8 = 63
