-- The tables of lines and leaps, computed.
use Rattle.chess_attacks.proofs.Chess.{Black, Direction, East, List, None, North, NorthEast, NorthWest, Option, Some, South, SouthEast, SouthWest, Step, West, White, [], along, ap, arith, bit_or, cases_lt, cond-false, cond-true, diagonal_steps, differs, direction_number, false, forward, four, get_or, get_or-map-range_with_len, if◌then◌else◌, is_advance, is_ahead, is_on_some, is_square, is_two_files_aside, le-ltb, list_any, lt-ltb, map, range_with_len, ray, refl, rules, squares_either, step_by, step_of, straight_steps, sym, word, word_empty, word_only, ℕ, ◌%◌, ◌*◌, ◌<◌, ◌^◌, ◌||◌, ◌∙◌, ◌∷◌, ◌≡◌}
use Rattle.chess_attacks.specs.declared.geometry.TheConstants.{DIAGONAL_LINES, RAYS, STRAIGHT_LINES}
use Rattle.chess_attacks.specs.declared.leaps.TheConstants.{ASIDE, BLACK_STEPS, WHITE_STEPS}
use Rattle.std.proofs.Math.Dec.{ltb}

-- the word of a square, if there is one on the board
abbrev pub one : Option ℕ → ℕ
one None = 0
one (Some q) = if ltb q 64 then 1 * 2 ^ q % 2 ^ 64 else 0

one_is : (o : Option ℕ) → one o ≡ word (is_square o)
one_is o = search (rules, word_empty, cases_lt, cond-true, ltb, lt-ltb, word_only, cond-false, le-ltb, differs)

-- the bitboard of a list of squares: each square is computed once, and not tested against all 64
abbrev pub each : List (Option ℕ) → ℕ
each [] = 0
each (o ∷ os) = bit_or (one o) (each os)

each_is : (os : List (Option ℕ)) → each os ≡ word (λ t. list_any (λ o. is_square o t) os)
each_is [] = word_empty (λ t. false) (λ t b. refl)
each_is (o ∷ os) = (λ j. bit_or (one_is o j) (each_is os j)) ∙ squares_either (is_square o) (λ t. list_any (λ o. is_square o t) os)

two_is : (o u : Option ℕ) → bit_or (one o) (one u) ≡ word (λ t. is_square o t || is_square u t)
two_is o u = (λ j. bit_or (one_is o j) (one_is u j)) ∙ squares_either (is_square o) (is_square u)

-- the squares of a line, and those a step away
abbrev line : Step → ℕ → ℕ
line d s = each (map (λ k. along s d k) (range_with_len 1 7))

abbrev pub near : List Step → ℕ → ℕ
near ds s = each (map (λ d. along s d 1) ds)

-- a row of the table holds the lines of its direction from all squares
row : (x : Direction) (none : List ℕ) → get_or RAYS (direction_number x) none ≡ map (line (step_of x)) (range_with_len 0 64)
unfolding along
row East none = refl
row k none = refl

-- an entry of a computed table
entry : (f : ℕ → ℕ) (table : List ℕ) (s i d : ℕ) → table ≡ map f (range_with_len 0 64) → i ≡ s → i < 64 → get_or table i d ≡ f s
entry f table s i d is same small = ap (λ r. get_or r i d) is ∙ get_or-map-range_with_len f 0 64 i i d small (omega arith) ∙ ap f same

-- an entry of the table of lines is the word of that line
pub ray_at : (x : Direction) (s i : ℕ) (none : List ℕ) (d : ℕ) → i ≡ s → i < 64 → get_or (get_or RAYS (direction_number x) none) i d ≡ ray s (step_of x)
unfolding ray is_ahead
ray_at x s i none d same small =
    entry (line (step_of x)) (get_or RAYS (direction_number x) none) s i d (row x none) same small
    ∙ each_is (map (λ k. along s (step_of x) k) (range_with_len 1 7))

-- an entry of a table of steps is the word of the squares a step away
pub near_at : (ds : List Step) (table : List ℕ) (s i d : ℕ) → table ≡ map (near ds) (range_with_len 0 64) → i ≡ s → i < 64
    → get_or table i d ≡ word (λ t. list_any (λ o. is_square o t) (map (λ d. along s d 1) ds))
near_at ds table s i d is same small = entry (near ds) table s i d is same small ∙ each_is (map (λ d. along s d 1) ds)

abbrev nowhere : ℕ → Option ℕ
nowhere s = None

-- no line has an eighth square
off : (x : Direction) → map (λ s. along s (step_of x) 8) (range_with_len 0 64) ≡ map nowhere (range_with_len 0 64)
unfolding along
off East = refl
off k = refl

-- no line has eight steps
pub eighth : (x : Direction) (s : ℕ) → s < 64 → along s (step_of x) 8 ≡ None
eighth x s p =
    sym (get_or-map-range_with_len (λ s. along s (step_of x) 8) 0 64 s s None p (omega arith)) ∙ ap (λ r. get_or r s None) (off x)
    ∙ get_or-map-range_with_len nowhere 0 64 s s None p (omega arith)

-- an entry of a table of the squares on either of two steps
two_at : (f g : ℕ → Option ℕ) (table : List ℕ) (s i d : ℕ) → table ≡ map (λ q. bit_or (one (f q)) (one (g q))) (range_with_len 0 64) → i ≡ s → i < 64
    → get_or table i d ≡ word (λ t. is_square (f s) t || is_square (g s) t)
two_at f g table s i d is same small = entry (λ q. bit_or (one (f q)) (one (g q))) table s i d is same small ∙ two_is (f s) (g s)

-- the table of the one or two squares ahead of a White pawn
pub white_steps_at : (s i d : ℕ) → i ≡ s → i < 64 → get_or WHITE_STEPS i d ≡ word (is_advance White s)
unfolding along
white_steps_at s i d = two_at (λ q. along q (forward White) 1) (λ q. along q (forward White) 2) WHITE_STEPS s i d refl

-- the table of the one or two squares ahead of a Black pawn
pub black_steps_at : (s i d : ℕ) → i ≡ s → i < 64 → get_or BLACK_STEPS i d ≡ word (is_advance Black s)
unfolding along
black_steps_at s i d = two_at (λ q. along q (forward Black) 1) (λ q. along q (forward Black) 2) BLACK_STEPS s i d refl

-- the table of the squares two files aside, for castling
pub aside_at : (s i d : ℕ) → i ≡ s → i < 64 → get_or ASIDE i d ≡ word (is_two_files_aside s)
unfolding along
aside_at s i d = two_at (λ q. along q (step_by 2 0 0 0) 1) (λ q. along q (step_by 0 2 0 0) 1) ASIDE s i d refl

-- the entry of a direction's row
abbrev on : Direction → ℕ → ℕ
on x s = get_or (get_or RAYS (direction_number x) []) s 0

-- the lines of four directions in one bitboard
abbrev joined : Direction → Direction → Direction → Direction → ℕ → ℕ
joined a b c e s = bit_or (bit_or (bit_or (on a s) (on b s)) (on c s)) (on e s)

-- an entry of a table of four lines on the empty board
lines_at : (a b c e : Direction) (table : List ℕ) (s i d : ℕ) → table ≡ map (joined a b c e) (range_with_len 0 64) → i ≡ s → i < 64
    → get_or table i d ≡ word (is_on_some (step_of a ∷ step_of b ∷ step_of c ∷ step_of e ∷ []) s)
unfolding is_on_some ray
lines_at a b c e table s i d is same small =
    let at : (x : Direction) → on x s ≡ word (is_ahead s (step_of x)) = λ x. ray_at x s s [] 0 refl (omega arith) in
    entry (joined a b c e) table s i d is same small
    ∙ four (λ t x. is_ahead s x t) (step_of a) (step_of b) (step_of c) (step_of e) _ _ _ _ (at a) (at b) (at c) (at e)

-- the table of the rook's lines
pub straight_lines_at : (s i d : ℕ) → i ≡ s → i < 64 → get_or STRAIGHT_LINES i d ≡ word (is_on_some straight_steps s)
straight_lines_at s i d = lines_at East West North South STRAIGHT_LINES s i d refl

-- the table of the bishop's lines
pub diagonal_lines_at : (s i d : ℕ) → i ≡ s → i < 64 → get_or DIAGONAL_LINES i d ≡ word (is_on_some diagonal_steps s)
diagonal_lines_at s i d = lines_at NorthEast SouthEast NorthWest SouthWest DIAGONAL_LINES s i d refl
