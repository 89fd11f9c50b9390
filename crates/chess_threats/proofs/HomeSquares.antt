-- Home squares of captured men, and squares closed to a king.
use Rattle.chess_threats.proofs.Chess.{AreClosed, AreHomes, AreHomesOf, Bishop, Black, Colour, Kind, King, Knight, List, Man, Option, Pawn, Position, Queen, Rook, RuleSet, Some, White, agree_below_at, arith, bit_at, bit_or, captures_are_reborn, cases_Bool, eq-eqb, false, false≢true, file_of, is_man, is_of_colour, is_some, is_square, man_on, not, on_left, on_right, other, rank_of, rebirth, rebirth_small, refl, rules, same_kind, side_of, square_at, square_at-is, squares_of, true, word, word_has, ℕ, ◌<◌, ◌==◌, ◌||◌, ◌≡◌, ◌⊎◌, ByKind, value_for}
use Rattle.chess_flights.proofs.Bitboards.{none_on}

-- the words of `homes_of`
abbrev homes : Colour → Kind → ℕ
homes _ King = 0
homes _ Pawn = 0
homes White Queen = 8
homes Black Queen = 576460752303423488
homes White Rook = 129
homes Black Rook = 9295429630892703744
homes White Bishop = 36
homes Black Bishop = 2594073385365405696
homes White Knight = 66
homes Black Knight = 4755801206503243776
homes White _ = 18374686479671623680
homes Black _ = 255

-- a man that is no pawn is reborn on a square of its word
pub home_on : (c : Colour) (k : Kind) (w : ℕ) → w ≡ homes c k → same_kind k Pawn ≡ false → (t r : ℕ) → rebirth c k t ≡ Some r → (bit_at w r == 1) ≡ true
unfolding rebirth
home_on c k w e piece t r h =
    let last = agree_below_at (λ n. not (rank_of n == 8) || bit_at 18374686479671623680 n == 1) (λ _. true) 64 r refl in
    let first = agree_below_at (λ n. not (rank_of n == 1) || bit_at 255 n == 1) (λ _. true) 64 r refl in
    grind (arith, square_at-is, eq-eqb, last, first, false≢true)

-- a pawn is reborn on a square of its file
pub pawn_home_on : (c : Colour) (s k w : ℕ) → ((t : ℕ) → rebirth c Pawn t ≡ square_at (file_of t) k)
    → w ≡ word (λ q. is_square (square_at (file_of s) k) q) → (t r : ℕ) → file_of t ≡ file_of s → rebirth c Pawn t ≡ Some r → (bit_at w r == 1) ≡ true
pawn_home_on c s k w home only t r file h = search (rules, word_has, rebirth_small, eq-eqb)

-- for `Homes`: pawns
pub pawn_homes_are : (men : List (Option Man)) (c : Colour) (l w : ℕ) → l ≡ squares_of men c Pawn
    → ((s : ℕ) → s < 64 → (bit_at l s == 1) ≡ true → (t r : ℕ) → file_of t ≡ file_of s → rebirth c Pawn t ≡ Some r → (bit_at w r == 1) ≡ true)
    → (k : Kind) → k ≡ Pawn → AreHomesOf men c k w
unfolding squares_of
pawn_homes_are men c l w pawns h k pawn = record {
  homes = λ s r z small here mine own home.
      grind (arith, h s small, word_has (λ q. is_man (man_on men q) c Pawn) l s pawns small, home.file, home.reborn, eq-eqb);
}

-- no men of the kind
pub no_homes_are : (men : List (Option Man)) (c : Colour) (k : Kind) (l w : ℕ) → l ≡ squares_of men c k → (l == 0) ≡ true → AreHomesOf men c k w
unfolding squares_of
no_homes_are men c k l w are none = record {
  homes = λ s r z small here mine kind home.
      grind (arith, none_on l s none, word_has (λ q. is_man (man_on men q) c k) l s are small, eq-eqb);
}

-- for `home_squares`
pub all_homes : (men : List (Option Man)) (c : Colour) (each : ByKind ℕ) (w : ℕ) → ((k : Kind) → AreHomesOf men c k (value_for each k))
    → ((k : Kind) (s : ℕ) → (bit_at (value_for each k) s == 1) ≡ true → (bit_at w s == 1) ≡ true) → AreHomes men c w
all_homes men c each w homes all = record {
  homes = λ s r z small here mine home. all z.kind r ((homes z.kind).homes s r z small here mine refl home);
}

-- for `closed_squares`: without Circe
pub own_closed : (rule : RuleSet) (p : Position) (c : Colour) (w : ℕ) → c ≡ p.turn → w ≡ side_of p.men c → captures_are_reborn rule ≡ false → AreClosed rule p w
unfolding side_of
own_closed rule p c w turn side plain = search (rules, word_has, false≢true)

-- a man is one side's or the other's
pub some_of : (o : Option Man) (c : Colour) → is_some o ≡ true → (is_of_colour o c ≡ true) ⊎ (is_of_colour o (other c) ≡ true)
some_of o c h = grind (arith, cases_Bool (is_of_colour o c))

-- in Circe
pub all_closed : (rule : RuleSet) (p : Position) (c d : Colour) (a e h : ℕ) → c ≡ p.turn → d ≡ other c → a ≡ side_of p.men c → e ≡ side_of p.men d
    → AreHomes p.men c h → AreClosed rule p (bit_or (bit_or a e) h)
unfolding side_of
all_closed rule p c d a e h turn enemy own enemies homes =
    let side = λ (c : Colour). word_has (λ q. is_of_colour (man_on p.men q) c) in
    record {
      own = λ s small mine. grind (arith, on_left, side c a s own small);
      others = λ more s small some. grind (arith, on_left, on_right, some_of (man_on p.men s) c some, side c a s own small, side d e s enemies small);
      homes = λ more. record { homes = λ s r z small here mine home. search (rules, on_right, homes.homes s r z small here) };
    }
