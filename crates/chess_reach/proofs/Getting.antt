-- How far a man gets: a superset, move by move.
use Rattle.chess_attacks.proofs.Chess.{Bishop, Black, Bool, Colour, Gait, King, Knight, Queen, Rook, Some, Hopper, Kind, Leaper, List, Man, Option, Rider, gait_of, goes_by, hops, kind_steps, Pawn, Step, White, [], all_at, along, and_from, and_parts, arith, bit_and, bit_at, bit_not, bit_or, cases_Bool, false, false≢true, first_of_and, forward, inl, inr, is_advance, is_square, leaps, list_any, not, on_left, on_right, or_cases, or_left, or_right, pawn_capture_steps, queen_steps, rank_of, reaches_as, refl, rides, rules, second_of_and, subst, suc, sym, true, w64, word, word_has, zero, ℕ, ◌-◌, ◌^◌, ◌&&◌, ◌<◌, ◌==◌, ◌||◌, ◌∙◌, ◌∷◌, ◌≡◌}
use Rattle.std.specs.Prelude.{◌⊎◌}
use Rattle.chess_attacks.specs.ties.Lines.{AreReached}
use Rattle.chess_core.specs.Position.{same_kind}
use Rattle.chess_core.proofs.Boards.{along-is}
use Rattle.chess_rules.specs.Legal.{second_rank}
use Rattle.chess_reach.proofs.Bitboards.{on_both}
unfoldable use Rattle.chess_reach.specs.Reach.{Gets, goes, guards, pawn_goes}
use Rattle.chess_reach.specs.Reach.{Starts, without_hops}
use Rattle.chess_core.specs.Squares.{file_of, square_at}
use Rattle.chess_rules.proofs.Chess.{ap, eq-eqb, square_at-is}
use Rattle.chess_rules.proofs.Stays.{rebirth_small}
use Rattle.chess_rules.specs.Play.{is_light}
unfoldable use Rattle.chess_rules.specs.Play.{rebirth}
use Rattle.chess_reach.specs.ties.Ways.{TakesOn, steps_to}

-- two tests agree
abbrev agree : Bool → Bool → Bool
agree a b = (a && b) || (not a && not b)

agree_is : (a b : Bool) → agree a b ≡ true → a ≡ b
agree_is a b h = grind arith

-- the ranks from which pawns make a double step
pub second_ranks : (s : ℕ) → s < 64 → ((bit_at 65280 s == 1) ≡ (rank_of s == 2)) × ((bit_at 71776119061217280 s == 1) ≡ (rank_of s == 7))
second_ranks s small = (
  agree_is _ _ (all_at (λ s. agree (bit_at 65280 s == 1) (rank_of s == 2)) 0 64 s refl (omega arith) (omega (arith, small))),
  agree_is _ _ (all_at (λ s. agree (bit_at 71776119061217280 s == 1) (rank_of s == 7)) 0 64 s refl (omega arith) (omega (arith, small))),
)

-- the ranks on which pawns promote
pub last_ranks : (s : ℕ) → s < 64 → ((bit_at 18374686479671623680 s == 1) ≡ (rank_of s == 8)) × ((bit_at 255 s == 1) ≡ (rank_of s == 1))
last_ranks s small = (
  agree_is _ _ (all_at (λ s. agree (bit_at 18374686479671623680 s == 1) (rank_of s == 8)) 0 64 s refl (omega arith) (omega (arith, small))),
  agree_is _ _ (all_at (λ s. agree (bit_at 255 s == 1) (rank_of s == 1)) 0 64 s refl (omega arith) (omega (arith, small))),
)

one_ahead : (c : Colour) (s t : ℕ) → is_square (along s (forward c) 1) t ≡ true → list_any (leaps s t) queen_steps ≡ true
unfolding leaps
one_ahead White s t h = search (rules, or_left, or_right)
one_ahead Black s t h = search (rules, or_left, or_right)

-- tests of a step or a double step
ahead_of : (a b r : Bool) → (a || (r && b)) ≡ true → (a || b) ≡ true
ahead_of a b r h = grind arith

single : (a b r : Bool) → r ≡ false → (a || (r && b)) ≡ true → a ≡ true
single a b r off h = grind arith

step_or_capture : (a b g : Bool) → ((a || b) || g) ≡ true → ((a || b) ≡ true) ⊎ (g ≡ true)
step_or_capture a b g h = or_cases (a || b) g h

-- a pawn on its second rank steps to the squares ahead
pub steps_ahead : (c : Colour) (s t w : ℕ) → w ≡ word (is_advance c s) → t < 64 → steps_to c s t ≡ true → (bit_at w t == 1) ≡ true
steps_ahead c s t w h small go =
    word_has (is_advance c s) w t h small ∙ ahead_of (is_square (along s (forward c) 1) t) (is_square (along s (forward c) 2) t) (rank_of s == second_rank c) go

-- another pawn steps to the square right ahead
pub step_ahead : (c : Colour) (s t w k : ℕ) → w ≡ word (is_advance c s) → k ≡ word (λ t. list_any (leaps s t) queen_steps) → t < 64
    → (rank_of s == second_rank c) ≡ false → steps_to c s t ≡ true → (bit_at (bit_and w k) t == 1) ≡ true
step_ahead c s t w k h i small off go =
    let one = single (is_square (along s (forward c) 1) t) (is_square (along s (forward c) 2) t) (rank_of s == second_rank c) off go in
    on_both w k t (word_has (is_advance c s) w t h small ∙ or_left (is_square (along s (forward c) 1) t) (is_square (along s (forward c) 2) t) one)
    (word_has (λ t. list_any (leaps s t) queen_steps) k t i small ∙ one_ahead c s t one)

pawn_guards : (c : Colour) (s t : ℕ) → guards c Pawn s t ≡ list_any (leaps s t) (pawn_capture_steps c)
unfolding guards reaches_as
pawn_guards c s t = refl

-- a pawn goes by a step or by a capture
pub goes_pawn : (takes : ℕ → Bool) (c : Colour) (s t w k prey : ℕ) → TakesOn takes prey → (steps_to c s t ≡ true → (bit_at w t == 1) ≡ true)
    → k ≡ word (λ t. list_any (leaps s t) (pawn_capture_steps c)) → t < 64 → pawn_goes takes c s t ≡ true → (bit_at (bit_or w (bit_and k prey)) t == 1) ≡ true
unfolding pawn_goes
goes_pawn takes c s t w k prey on steps captures small go =
    elim (step_or_capture (is_square (along s (forward c) 1) t) (rank_of s == second_rank c && is_square (along s (forward c) 2) t) (guards c Pawn s t && takes t) go) [
      | inl step ↦ on_left w _ t (steps step)
      | inr capture ↦
          let both = and_parts (guards c Pawn s t) (takes t) capture in
          on_right w _ t (on_both k prey t (word_has (λ t. list_any (leaps s t) (pawn_capture_steps c)) k t captures small ∙ sym (pawn_guards c s t) ∙ both.0)
          (on t small both.1))
    ]

-- every square is one of all
pub every_on : (takes : ℕ → Bool) → TakesOn takes (2 ^ 64 - 1)
every_on takes t small on = all_at (λ t. bit_at (2 ^ 64 - 1) t == 1) 0 64 t refl (omega arith) (omega (arith, small))

pub all_on : (t : ℕ) → t < 64 → (bit_at (bit_not w64 0) t == 1) ≡ true
all_on t small = all_at (λ t. bit_at (bit_not w64 0) t == 1) 0 64 t refl (omega arith) (omega (arith, small))

-- for words that are joined: the first has what it reached
pub reached_left : (x : Man) (s a b : ℕ) → AreReached x s a → AreReached x s (bit_or a b)
reached_left x s a b h = record { inside = λ men t small r. on_left a b t (h.inside men t small r) }

-- the second has
pub reached_right : (x : Man) (s a b : ℕ) → AreReached x s b → AreReached x s (bit_or a b)
reached_right x s a b h = record { inside = λ men t small r. on_right a b t (h.inside men t small r) }

some_meets : {X Q : Type 0} (test : X → Bool) (xs : List X) → ((x : X) → test x ≡ true → Q) → list_any test xs ≡ true → Q
some_meets test [] give h = absurd (false≢true h)
some_meets test (x ∷ xs) give h = grind (arith, or_cases (test x) (list_any test xs) h, give x, some_meets test xs give)

stays_on_board : (s : ℕ) (d : Step) (k t : ℕ) → is_square (along s d k) t ≡ true → t < 64
stays_on_board s d k t h = (along-is s d k t h).small

goes_on_board : (g : Gait) (men : List (Option Man)) (s t : ℕ) (d : Step) → goes_by g men s t d ≡ true → t < 64
unfolding leaps rides hops
goes_on_board Leaper men s t d h = stays_on_board s d 1 t h
goes_on_board Rider men s t d h = search (rules, some_meets, stays_on_board)
goes_on_board Hopper men s t d h = search (rules, some_meets, stays_on_board)

-- what a man guards is on the board
pub guards_small : (c : Colour) (k : Kind) (s t : ℕ) → guards c k s t ≡ true → t < 64
unfolding guards reaches_as
guards_small c k s t h = some_meets (goes_by (gait_of (without_hops k)) [] s t) (kind_steps c (without_hops k)) (λ d. goes_on_board (gait_of (without_hops k)) [] s t d) h

pawn_small : (takes : ℕ → Bool) (c : Colour) (s t : ℕ) → pawn_goes takes c s t ≡ true → t < 64
unfolding pawn_goes
pawn_small takes c s t h = search (rules, or_cases, first_of_and, second_of_and, stays_on_board, guards_small)

-- where a man goes is on the board
pub goes_small : (allowed : Kind → Bool) (takes : ℕ → Bool) (c : Colour) (k : Kind) (s : ℕ) (j : Kind) (t : ℕ) → goes allowed takes c k s j t ≡ true → t < 64
unfolding goes
goes_small allowed takes c k s j t h = elim (cases_Bool (same_kind k Pawn)) [
  | inl y ↦ pawn_small takes c s t (grind (arith, first_of_and, y))
  | inr n ↦ guards_small c k s t (grind (arith, first_of_and, n))
]

-- the square of a rank on the file of a square is that of its own file
file_again : (s h r : ℕ) → square_at (file_of s) r ≡ Some h → square_at (file_of h) r ≡ Some h
file_again s h r at = sym (ap (λ f. square_at f r) (square_at-is (file_of s) r h (rw at (eq-eqb h h refl))).file) ∙ at

-- where a man starts is on the board
pub starts_small : (rb : Bool) (c : Colour) (k : Kind) (s t : ℕ) → s < 64 → Starts rb c k s t → t < 64
starts_small rb c k s t small (inl same) = subst (λ x. x < 64) same small
starts_small rb c k s t small (inr reborn) = rebirth_small c k s t reborn.1

-- where a man gets is on the board
pub gets_small : (rb : Bool) (allowed : Kind → Bool) (takes : ℕ → Bool) (c : Colour) (n : ℕ) (k : Kind) (s : ℕ) (j : Kind) (t : ℕ) → s < 64
    → Gets rb allowed takes c n k s j t → t < 64
unfolding Gets
gets_small rb allowed takes c zero k s j t small (same, there) = starts_small rb c k s t small there
gets_small rb allowed takes c (suc n) k s j t small (h, i, q, start, go, rest) = gets_small rb allowed takes c n i q j t (goes_small allowed takes c k h i q go) rest

-- without a move a man stays what it is
pub gets_none : (rb : Bool) (allowed : Kind → Bool) (takes : ℕ → Bool) (c : Colour) (n : ℕ) (k : Kind) (s : ℕ) (j : Kind) (t : ℕ) → n ≡ 0
    → Gets rb allowed takes c n k s j t → k ≡ j
unfolding Gets
gets_none rb allowed takes c zero k s j t none way = way.0
gets_none rb allowed takes c (suc n) k s j t none way = absurd (omega (arith, none))

-- the last move of a way
pub gets_last : (rb : Bool) (allowed : Kind → Bool) (takes : ℕ → Bool) (c : Colour) (n : ℕ) (k : Kind) (s : ℕ) (j : Kind) (t : ℕ)
    → Gets rb allowed takes c (suc n) k s j t
    → (i : Kind) × (q r : ℕ) × Gets rb allowed takes c n k s i q × (goes allowed takes c i q j r ≡ true) × Starts rb c j r t
unfolding Gets
gets_last rb allowed takes c zero k s j t (h, i, q, start, go, (same, there)) =
    (k, h, q, (refl, start), subst (λ x. goes allowed takes c k h x q ≡ true) same go, subst (λ x. Starts rb c x q t) same there)
gets_last rb allowed takes c (suc n) k s j t (h, i, q, start, go, rest) =
    let (a, b, r, before, last, there) = gets_last rb allowed takes c n i q j t rest in
    (a, b, r, (h, i, q, start, go, before), last, there)

-- a home square is its own
home_again : (c : Colour) (k : Kind) (s h : ℕ) → rebirth c k s ≡ Some h → rebirth c k h ≡ Some h
unfolding rebirth
home_again White King s h at = at
home_again Black King s h at = at
home_again White Queen s h at = at
home_again Black Queen s h at = at
home_again White Rook s h at = grind (arith, cases_Bool (is_light s))
home_again Black Rook s h at = grind (arith, cases_Bool (is_light s))
home_again White Bishop s h at = grind (arith, cases_Bool (is_light s))
home_again Black Bishop s h at = grind (arith, cases_Bool (is_light s))
home_again White Knight s h at = grind (arith, cases_Bool (is_light s))
home_again Black Knight s h at = grind (arith, cases_Bool (is_light s))
home_again White Pawn s h at = file_again s h 2 at
home_again Black Pawn s h at = file_again s h 7 at
home_again White k s h at = file_again s h 8 at
home_again Black k s h at = file_again s h 1 at

-- who is reborn starts where it could start again
pub starts_again : (rb : Bool) (c : Colour) (k : Kind) (s h t : ℕ) → rb ≡ true → rebirth c k s ≡ Some h → Starts rb c k h t → Starts rb c k s t
starts_again rb c k s h t lives home (inl same) = inr (lives, subst (λ x. rebirth c k s ≡ Some x) same home)
starts_again rb c k s h t lives home (inr again) = inr (lives, home ∙ sym (home_again c k s h home) ∙ again.1)

-- who is reborn gets where it gets from its home square
pub gets_reborn : (rb : Bool) (allowed : Kind → Bool) (takes : ℕ → Bool) (c : Colour) (n : ℕ) (k : Kind) (s h : ℕ) (j : Kind) (t : ℕ) → rb ≡ true
    → rebirth c k s ≡ Some h → Gets rb allowed takes c n k h j t → Gets rb allowed takes c n k s j t
unfolding Gets
gets_reborn rb allowed takes c zero k s h j t lives home (same, there) = (same, starts_again rb c k s h t lives home there)
gets_reborn rb allowed takes c (suc n) k s h j t lives home (g, i, q, start, go, rest) = (g, i, q, starts_again rb c k s h g lives home start, go, rest)

-- where a pawn may capture more, it goes too
takes_more : (takes more : ℕ → Bool) (c : Colour) (s t : ℕ) → (takes t ≡ true → more t ≡ true) → pawn_goes takes c s t ≡ true → pawn_goes more c s t ≡ true
unfolding pawn_goes
takes_more takes more c s t grows go =
    elim (or_cases (is_square (along s (forward c) 1) t || (rank_of s == second_rank c && is_square (along s (forward c) 2) t)) (guards c Pawn s t && takes t) go) [
      | inl step ↦ or_left _ _ step
      | inr capture ↦ let both = and_parts (guards c Pawn s t) (takes t) capture in or_right _ _ (and_from _ _ both.0 (grows both.1))
    ]

goes_more : (allowed : Kind → Bool) (takes more : ℕ → Bool) (c : Colour) (k : Kind) (s : ℕ) (j : Kind) (t : ℕ) → (takes t ≡ true → more t ≡ true)
    → goes allowed takes c k s j t ≡ true → goes allowed more c k s j t ≡ true
unfolding goes
goes_more allowed takes more c k s j t grows go = elim (cases_Bool (same_kind k Pawn)) [
  | inl y ↦ grind (arith, y, and_parts, and_from, takes_more takes more c s t grows)
  | inr n ↦ grind (arith, n, and_parts, and_from)
]

pub gets_more : (rb : Bool) (allowed : Kind → Bool) (takes more : ℕ → Bool) (c : Colour) (n : ℕ) (k : Kind) (s : ℕ) (j : Kind) (t : ℕ)
    → ((t : ℕ) → takes t ≡ true → more t ≡ true) → Gets rb allowed takes c n k s j t → Gets rb allowed more c n k s j t
unfolding Gets
gets_more rb allowed takes more c zero k s j t grows way = way
gets_more rb allowed takes more c (suc n) k s j t grows (h, i, q, start, go, rest) =
    (h, i, q, start, goes_more allowed takes more c k h i q (grows q) go, gets_more rb allowed takes more c n i q j t grows rest)
