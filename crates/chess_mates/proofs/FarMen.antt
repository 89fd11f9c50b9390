-- Men that could reach no check square give no check.
use Rattle.chess_mates.proofs.Chess.{AreApproaches, AreCheckOrigins, AreCheckTargets, Colour, Kind, King, Man, Move, None, Option, Position, RuleSet, Some, arith, bit_and, bit_at, bit_not, bit_or, cases_Bool, eqb-true, false, false_by, false≢true, is_legal, may_be_made, is_square, man_on, may_arrive, off_second, off_zero, on_first, own_man, own_moves, refl, same_kind, side_of, sym, true, w64, word, word_has, ℕ, ◌<◌, ◌==◌, ◌^◌, ◌∙◌, ◌≡◌}
use Rattle.chess_flights.proofs.Hurdles.{on_either}
use Rattle.chess_mates.proofs.CheckTargets.{targets_lack}
use Rattle.chess_flights.proofs.Bitboards.{off_denied, on_denied}

-- no man on a square of the word gives check by a legal move
pub record AreFar (rule : RuleSet) (p : Position) (w : ℕ) : Type 0 where
  pub far : (s : ℕ) → s < 64 → (bit_at w s == 1) ≡ true → AreCheckTargets rule p s 0

-- to join words of far men
pub far_either : (rule : RuleSet) (p : Position) (a b : ℕ) → AreFar rule p a → AreFar rule p b → AreFar rule p (bit_or a b)
far_either rule p a b x y = grind (arith, cases_Bool, on_either)

-- a man that could go to no target on an empty board
pub far_by : (rule : RuleSet) (p : Position) (x : Man) (s o w : ℕ) → man_on p.men s ≡ Some x → AreCheckTargets rule p s w
    → ((q : Position) (t : ℕ) → t < 64 → may_arrive q x s t ≡ true → (bit_at o t == 1) ≡ true) → (bit_and o w == 0) ≡ true → AreCheckTargets rule p s 0
far_by rule p x s o w here are goes none = grind (arith, eqb-true, off_second o w, off_zero, targets_lack rule p x s w 0, goes p)

-- for one far man
pub far_one : (rule : RuleSet) (p : Position) (s o : ℕ) → o ≡ word (λ t. is_square (Some s) t) → AreCheckTargets rule p s 0
    → (t : ℕ) → t < 64 → (bit_at o t == 1) ≡ true → AreCheckTargets rule p t 0
far_one rule p s o h are t lt on = grind (arith, eqb-true, word_has)

-- targets of the men of this kind that are on no square of the word h; for a king, on its own square
abbrev pub AreTargetsOff : RuleSet → Position → Kind → Option ℕ → ℕ → ℕ → Type 0
AreTargetsOff rule p j king h w = (s : ℕ) (x : Man) → s < 64 → man_on p.men s ≡ Some x → x.kind ≡ j → (same_kind j King ≡ true → king ≡ Some s)
    → (bit_at h s == 1) ≡ false → AreCheckTargets rule p s w

-- men m of the mover, of this kind, on no square of the word h
module _ (rule : RuleSet) (p : Position) (j : Kind) (m h w : ℕ) (stands : (s : ℕ) → s < 64 → (bit_at m s == 1) ≡ true → man_on p.men s ≡ Some (own_man p j))
    (off : (s : ℕ) → s < 64 → (bit_at m s == 1) ≡ true → (bit_at h s == 1) ≡ false) where
  -- men off the squares from which they could come to a target are far
  pub far_apart : (n : ℕ) (c : Colour) → n < 2 ^ 64 → same_kind j King ≡ false → AreTargetsOff rule p j None h w → c ≡ p.turn
      → AreApproaches (record { colour = c; kind = j }) w n → (s : ℕ) → s < 64 → (bit_at (bit_and m (bit_not w64 n)) s == 1) ≡ true → AreCheckTargets rule p s 0
  far_apart n c fits mortal targets turn come s small on =
      let far = targets_lack rule p (own_man p j) s w 0 in
      grind (arith, far, stands s small, off s small, targets s (own_man p j) small, on_first m, off_denied m n s fits small on, come.approach p s, false_by)

  -- one of these men, and its targets
  pub found : (s : ℕ) (king : Option ℕ) (c : Colour) → c ≡ p.turn → (s < 64) × ((bit_at m s == 1) ≡ true) → (same_kind j King ≡ true → king ≡ Some s)
      → AreTargetsOff rule p j king h w → (man_on p.men s ≡ Some (record { colour = c; kind = j })) × AreCheckTargets rule p s w
  found s king c turn here same targets = grind (arith, stands s, off s, targets s (own_man p j))

-- a legal move goes from a square of its side
from_own : (rule : _) (p : Position) (o : ℕ) (m : Move) → o ≡ side_of p.men p.turn → m.from < 64 → is_legal rule p m ≡ true → (bit_at o m.from == 1) ≡ true
unfolding side_of
from_own rule p o m own inside lawful = grind (arith, may_be_made rule p m lawful, cases_Bool, own_moves, word_has)

-- for `check_origins`: each man of the mover, where nothing more is known
pub check_origins_own : (rule : RuleSet) (p : Position) (o : ℕ) → o ≡ side_of p.men p.turn → AreCheckOrigins rule p o
check_origins_own rule p o own = record { elsewhere = λ m inside small lawful off. absurd (false≢true (sym off ∙ from_own rule p o m own inside lawful)) }

-- for `check_origins`: each man of the mover that isn't far
pub check_origins_are : (rule : RuleSet) (p : Position) (o f : ℕ) → o ≡ side_of p.men p.turn → f < 2 ^ 64 → AreFar rule p f
    → AreCheckOrigins rule p (bit_and o (bit_not w64 f))
check_origins_are rule p o f own fits are = record {
  elsewhere = λ m inside small lawful off.
      let on = on_denied f m.from fits inside (off_second o (bit_not w64 f) m.from off (from_own rule p o m own inside lawful)) in
      (are.far m.from inside on).elsewhere m refl small lawful (off_zero m.to);
}
