-- The triples: what they are, their order, and that each legal move is one of them.
use Rattle.chess_rules.proofs.Chess.{AllPairs, Bool, Colour, Contains, Gait, Hopper, Kind, Leaper, List, Man, Move, Option, Position, Rider, RuleSet, Some, Step, [], all_triples, along, agree_below_at, along-is, and_parts, ap, arith, can_castle, false≢true, flat_map, gait_of, get_or-range_with_len, goes_by, hops, is_nil, is_promotion_right, is_pseudo_legal, is_square, kind_steps, leaps, length, length-range_with_len, list_any, man_on, map, may_castle, may_promote, nat_lt, or_cases, per_arrival, per_origin, precedes, promotion_at, promotion_precedes, promotions, range_with_len, reaches, reaches_as, reaches_of, refl, rides, rules, squares, triple_at, triples, true, ℕ, ◌%◌, ◌&&◌, ◌*◌, ◌+◌, ◌/◌, ◌<◌, ◌==◌, ◌||◌, ◌∷◌, ◌≡◌}
use Rattle.chess_rules.specs.ties.Places.{promotion_number}
use Rattle.std.specs.Prelude.{slice_index_or}
use Rattle.std.proofs.lemmas.Bool.Decides.{nat_tests}
use Rattle.chess_rules.proofs.Members.{first_in, none_in_nil, from_flat_map, from_map, from_range, in_flat_map, in_map, in_range, pairs_map}
use Rattle.chess_rules.proofs.Places.{triples_numbered}
use Rattle.chess_rules.proofs.Pseudo.{IsMade, made, pawn_steps_to, ways}
use Rattle.chess_attacks.proofs.rays.OnSquares.{on_board}
use Rattle.chess_rules.proofs.Stays.{maker}

-- each origin, arrival and promotion of the lists make a triple
pub in_triples : (m : Move) → m.from < 64 → m.to < 64 → Contains promotions m.promo → Contains triples m
unfolding triples squares
in_triples m a b c =
    in_flat_map (λ s. flat_map (λ t. map (λ r. record { from = s; to = t; promo = r }) promotions) (range_with_len 0 64)) (range_with_len 0 64) m.from m
    (in_range 0 64 m.from (omega arith) (omega (arith, a)))
    (in_flat_map (λ t. map (λ r. record { from = m.from; to = t; promo = r }) promotions) (range_with_len 0 64) m.to m
    (in_range 0 64 m.to (omega arith) (omega (arith, b)))
    (in_map (λ r. record { from = m.from; to = m.to; promo = r }) promotions m.promo c))

-- every triple has an origin, an arrival and a promotion from the lists
pub from_triples : (m : Move) → Contains triples m → (m.from < 64) × (m.to < 64) × Contains promotions m.promo
unfolding triples squares
from_triples m c =
    let a = from_flat_map (λ s. flat_map (λ t. map (λ r. record { from = s; to = t; promo = r }) promotions) (range_with_len 0 64)) (range_with_len 0 64) m c in
    let b = from_flat_map (λ t. map (λ r. record { from = a.0; to = t; promo = r }) promotions) (range_with_len 0 64) m a.2 in
    let r = from_map (λ r. record { from = a.0; to = b.0; promo = r }) promotions m b.2 in
    let promotion : r.0 ≡ m.promo = ap (λ (n : Move). n.promo) r.2 in
    (grind (arith, from_range 0 64 a.0 a.1, r.2), grind (arith, from_range 0 64 b.0 b.1, r.2), rw promotion at r.1)

-- each triple has a number
pub numbered : (m : Move) → Contains triples m → (n : ℕ) × (n < all_triples) × (triple_at n ≡ m)
numbered m c =
    let w = from_map triple_at (range_with_len 0 all_triples) m (rw triples_numbered at c) in
    (w.0, grind (arith, from_range 0 all_triples w.0 w.1), w.2)

-- A triple's number has its origin, arrival and promotion as digits, so that numbers are in the order of
-- moves.

by_digits : (a b c x y z : ℕ) → b < 64 → y < 64 → c < per_arrival → z < per_arrival
    → (nat_lt a x || a == x && (nat_lt b y || b == y && nat_lt c z))
    ≡ nat_lt (a * per_origin + b * per_arrival + c) (x * per_origin + y * per_arrival + z)
by_digits a b c x y z b_low y_low c_low z_low = grind (arith, nat_tests)

in_digits : (n : ℕ) → n ≡ n / per_origin * per_origin + n / per_arrival % 64 * per_arrival + n % per_arrival
in_digits n = omega arith

-- the promotions of triples are in the order of their numbers
promotions_rise : (a b : ℕ) → a < per_arrival → b < per_arrival → promotion_precedes (promotion_at a) (promotion_at b) ≡ nat_lt a b
unfolding promotion_at
promotions_rise a b low high =
    let all : promotion_precedes (promotion_at ((a * per_arrival + b) / per_arrival)) (promotion_at ((a * per_arrival + b) % per_arrival))
    ≡ nat_lt ((a * per_arrival + b) / per_arrival) ((a * per_arrival + b) % per_arrival) =
    agree_below_at (λ n. promotion_precedes (promotion_at (n / per_arrival)) (promotion_at (n % per_arrival)))
    (λ n. nat_lt (n / per_arrival) (n % per_arrival)) (per_arrival * per_arrival) (a * per_arrival + b) refl (omega arith) in
    let first : (a * per_arrival + b) / per_arrival ≡ a = omega arith in
    let second : (a * per_arrival + b) % per_arrival ≡ b = omega arith in
    rw (first, second) at all

-- one triple precedes another if its number is lower
pub triples_by_number : (j k : ℕ) → j < all_triples → k < all_triples → precedes (triple_at j) (triple_at k) ≡ nat_lt j k
unfolding triple_at
triples_by_number j k low high =
    rw (
      promotions_rise (j % per_arrival) (k % per_arrival) (omega arith) (omega arith),
      by_digits (j / per_origin) (j / per_arrival % 64) (j % per_arrival) (k / per_origin) (k / per_arrival % 64) (k % per_arrival)
          (omega arith) (omega arith) (omega arith) (omega arith),
      ← in_digits j,
      ← in_digits k,
    ) refl

-- the numbers of a range rise
range_rises : (a n : ℕ) → AllPairs (λ j k. (j < k) × (k < a + n)) (range_with_len a n)
range_rises a n i j d low high = search (rules, length-range_with_len, get_or-range_with_len)

-- the triples stand in order
pub triples_rise : AllPairs (λ m n. precedes m n ≡ true) triples
triples_rise =
    rw triples_numbered (pairs_map (λ j k. (j < k) × (k < 0 + all_triples)) (λ m n. precedes m n ≡ true) triple_at (range_with_len 0 all_triples)
    (λ j k w. search (rules, triples_by_number j k)) (range_rises 0 all_triples))

-- Each move that may be made goes from a square to a square, with one of the promotions or none.

some_meets : {X Q : Type 0} (test : X → Bool) (xs : List X) → ((x : X) → test x ≡ true → Q) → list_any test xs ≡ true → Q
some_meets test [] give h = absurd (false≢true h)
some_meets test (x ∷ xs) give h = grind (arith, or_cases (test x) (list_any test xs) h, give x, some_meets test xs give)

stays_on_board : (s : ℕ) (d : Step) (k t : ℕ) → is_square (along s d k) t ≡ true → t < 64
stays_on_board s d k t h = (along-is s d k t h).small

goes_on_board : (g : Gait) (men : List (Option Man)) (s t : ℕ) (d : Step) → goes_by g men s t d ≡ true → t < 64
unfolding leaps rides hops
goes_on_board Leaper men s t d h = stays_on_board s d 1 t h
goes_on_board Rider men s t d h = search (rules, some_meets, stays_on_board)
goes_on_board Hopper men s t d h = search (rules, some_meets, stays_on_board)

reach_as_on_board : (men : List (Option Man)) (c : Colour) (k : Kind) (s t : ℕ) → reaches_as men c k s t ≡ true → t < 64
unfolding reaches_as
reach_as_on_board men c k s t h = some_meets (goes_by (gait_of k) men s t) (kind_steps c k) (λ d. goes_on_board (gait_of k) men s t d) h

reach_of_on_board : (men : List (Option Man)) (o : Option Man) (s t : ℕ) → reaches_of men o s t ≡ true → t < 64
reach_of_on_board men o s t h = grind (arith, false≢true, reach_as_on_board)

reach_on_board : (men : List (Option Man)) (s t : ℕ) → reaches men s t ≡ true → t < 64
unfolding reaches
reach_on_board men s t h = reach_of_on_board men (man_on men s) s t h

castling_on_board : (rule : RuleSet) (p : Position) (x : Man) (m : Move) → m.from < 64 → can_castle rule p x m ≡ true → m.to < 64
unfolding can_castle may_castle
castling_on_board rule p x m from h = search rules

arrival_on_board : (rule : RuleSet) (p : Position) (x : Man) (m : Move) → m.from < 64 → IsMade rule p x m → m.to < 64
arrival_on_board rule p x m from made = search (rules, castling_on_board, pawn_steps_to, reach_on_board, ways)

numbered_low : (p : Position) (k : Kind) → may_promote p k ≡ true → promotion_number (Some k) < per_arrival
numbered_low p k h = grind (arith, false≢true)

numbered_right : (p : Position) (k : Kind) → may_promote p k ≡ true → slice_index_or promotions (promotion_number (Some k)) (Some k) ≡ Some k
numbered_right p k h = grind (arith, false≢true)

may_be_promoted : (p : Position) (k : Kind) → may_promote p k ≡ true → Contains promotions (Some k)
may_be_promoted p k h = (promotion_number (Some k), numbered_low p k h, numbered_right p k h)

promotion_is_one : (p : Position) (x : Man) (m : Move) (r : Option Kind) → is_promotion_right p x m r ≡ true → Contains promotions r
promotion_is_one p x m r h = grind (arith, may_be_promoted, and_parts)

-- a move that may be made is one of the triples
pub made_is_triple : (rule : RuleSet) (p : Position) (m : Move) → length p.men ≡ 64 → is_pseudo_legal rule p m ≡ true
    → (m.from < 64) × (m.to < 64) × Contains promotions m.promo
made_is_triple rule p m size h =
    let x = maker rule p m h in
    let by = made rule p m x.0 h x.1 in
    let from = on_board p.men m.from x.0 size x.1 in
    (from, arrival_on_board rule p x.0 m from by, promotion_is_one p x.0 m m.promo by.promotion)

-- a list without elements
pub nothing_in : (ms : List Move) → is_nil ms ≡ true → (m : Move) → Contains ms m → ⊥
nothing_in ms h m c = grind (arith, none_in_nil, false≢true)

-- a list that contains no move is empty
pub nil_where_nothing : (ms : List Move) → ((m : Move) → Contains ms m → ⊥) → is_nil ms ≡ true
nil_where_nothing [] h = refl
nil_where_nothing (x ∷ ms) h = absurd (h x (first_in x ms))
