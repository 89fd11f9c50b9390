-- A check remains if nobody interposes.
use Rattle.chess_mates.proofs.Chess.{Bishop, Black, Colour, IsShift, Kind, King, Knight, List, Man, Move, Option, Pawn, Position, Queen, Rook, White, and_from, and_parts, arith, bit_at, bit_or, diagonal_steps, eq-eqb, false, false≢true, forward, goes_on, is_advance, is_fairy, is_on_some, is_square, is_vacant_at, list_any, list_any-append, off_left, off_right, or_cases, or_left, or_right, other, reaches_as, refl, return_square, rides, rules, straight_steps, subst, sym, true, word, word_has, ℕ, Step, ◌&&◌, ◌<◌, ◌==◌, ◌∙◌, ◌≡◌}
use Rattle.chess_mates.specs.ties.Parries.{AreBetween}
use Rattle.chess_rules.specs.Legal.{is_pawn_step}
use Rattle.chess_attacks.proofs.rays.Flips.{backward, opposed, rides_turned}
use Rattle.chess_attacks.proofs.rays.Parting.{Frees, line_open}

-- once another man has come to b, off the squares between s and k, a man without fairy lines on s reaches k as before
module _ (men after : List (Option Man)) (b k s w : ℕ) (free : Frees men after b) (p : s < 64) (q : k < 64) (lt : b < 64) (between : AreBetween men s k w)
    (off : (bit_at w b == 1) ≡ false) where
  line_after : (ds : List Step) → opposed ds ds ≡ true
      → (is_on_some ds k s ≡ true → (list_any (rides men s b) ds && list_any (rides men k b) ds) ≡ false) → list_any (rides men s k) ds ≡ true
      → list_any (rides after s k) ds ≡ true
  unfolding is_on_some
  line_after ds flat apart h =
      let turned = sym (rides_turned ds men s k flat p q) ∙ h in
      rides_turned ds after s k flat p q ∙ line_open men after b k s ds free turned
      (λ x y. false≢true (sym (apart (goes_on men k s ds turned)) ∙ and_from _ _ (sym (backward ds (rides men s b) flat) ∙ y) x))

  pub reaches_still : (e : Colour) (j : Kind) → is_fairy j ≡ false → reaches_as men e j s k ≡ true → reaches_as after e j s k ≡ true
  unfolding reaches_as
  reaches_still e Queen f h =
      let straight = line_after straight_steps refl (λ on. between.straight on b lt off) in
      let diagonal = line_after diagonal_steps refl (λ on. between.diagonal on b lt off) in
      search (rules, straight, diagonal, list_any-append, or_cases, or_left, or_right, h)
  reaches_still e Rook f h = line_after straight_steps refl (λ on. between.straight on b lt off) h
  reaches_still e Bishop f h = line_after diagonal_steps refl (λ on. between.diagonal on b lt off) h
  reaches_still e King f h = h
  reaches_still e Knight f h = h
  reaches_still e Pawn f h = h
  reaches_still e j f h = absurd (false≢true (sym f))

-- a pawn that goes to t comes from a square to which one of the other colour goes from there
pub advance_back : (c : Colour) (s t : ℕ) → s < 64 → is_advance c s t ≡ true → is_advance (other c) t s ≡ true
advance_back White s t p h = grind (arith, or_cases, or_left, or_right, return_square s t (forward White) 1 p, return_square s t (forward White) 2 p)
advance_back Black s t p h = grind (arith, or_cases, or_left, or_right, return_square s t (forward Black) 1 p, return_square s t (forward Black) 2 p)

-- a pawn that steps goes so
pub advances : (p : Position) (x : Man) (m : Move) → is_pawn_step p x m ≡ true → is_advance x.colour m.from m.to ≡ true
advances p x m h = grind (arith, and_parts, or_cases, or_left, or_right)

-- what was empty before a shift is empty after it, the arrival apart
pub frees_after : (men after : List (Option Man)) (a b : ℕ) (z : Man) → IsShift men after a b z → Frees men after b
frees_after men after a b z i = record { vacant = λ o h ne. stays_vacant o h ne } where
  stays_vacant : (o : Option ℕ) → is_vacant_at men o ≡ true → is_square o b ≡ false → is_vacant_at after o ≡ true
  stays_vacant o h ne = grind (arith, i, eq-eqb)

-- for `squares_between`
pub between_are : (men : List (Option Man)) (b k l d v w n : ℕ) → n ≡ bit_or v w → b < 64 → l ≡ word (is_on_some straight_steps k)
    → d ≡ word (is_on_some diagonal_steps k)
    → ((bit_at l b == 1) ≡ true → v ≡ word (λ t. reaches_as men White Rook b t && reaches_as men White Rook k t))
    → ((bit_at d b == 1) ≡ true → w ≡ word (λ t. reaches_as men White Bishop b t && reaches_as men White Bishop k t)) → AreBetween men b k n
between_are men b k l d v w n both small straight diagonal rooks bishops = subst (AreBetween men b k) (sym both) (record {
  straight = λ on t lt off. sym (word_has _ v t (rooks (word_has _ l b straight small ∙ on)) lt) ∙ off_left v w t off;
  diagonal = λ on t lt off. sym (word_has _ w t (bishops (word_has _ d b diagonal small ∙ on)) lt) ∙ off_right v w t off;
})
