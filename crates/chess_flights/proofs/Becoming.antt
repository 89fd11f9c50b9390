-- What a man may be after its arrival.
use Rattle.chess_flights.proofs.Chess.{Bishop, Bool, Colour, Grasshopper, IsLeft, Kind, List, Man, Move, None, Option, Pawn, Position, Rook, RuleSet, Some, and_parts, arith, arriving_man, false, false_by, false≢true, is_promoting, is_promotion_right, list_any-append, man_on, not-true, or_left, or_right, position_after, position_after_by, reaches_as, refl, same_kind, sym, true, ℕ, ◌∙◌, ◌≡◌}
use Rattle.chess_flights.proofs.KindByKind.{man_is}
use Rattle.chess_flights.specs.ties.Attackers.{is_promotion}
use Rattle.chess_flights.specs.ties.Approaches.{MayBecome, counts_as}
use Rattle.chess_core.specs.Position.{may_promote}

-- a queen reaches what a rook or a bishop does
pub reaches_counted : (men : List (Option Man)) (c : Colour) (k : Kind) (s t : ℕ) → reaches_as men c k s t ≡ true → reaches_as men c (counts_as k) s t ≡ true
unfolding reaches_as
reaches_counted men c Rook s t h = grind (arith, list_any-append, or_left)
reaches_counted men c Bishop s t h = grind (arith, list_any-append, or_right)
reaches_counted men c k s t h = h

-- a square that is left when the promoted man counts as a queen is left
pub counted_left : (w t f : ℕ) (z : Man) → IsLeft w (record { colour = z.colour; kind = counts_as z.kind }) t f → IsLeft w z t f
counted_left w t f z h = record {
  small = h.small;
  on = h.on;
  off = h.off;
  unreached = λ men. false_by _ (λ r. false≢true (sym (h.unreached men) ∙ reaches_counted men z.colour z.kind t f r));
}

-- a man that isn't promoted keeps its kind
pub unchanged : (b : Bool) (x z : Man) (t : ℕ) → is_promoting x t ≡ false → MayBecome b x t z → z ≡ x
unchanged b x z t stays may = man_is x z.colour z.kind (sym may.mine) (sym (may.same stays))

-- a piece isn't
pub piece_stays : (b : Bool) (x z : Man) (t : ℕ) → same_kind x.kind Pawn ≡ false → MayBecome b x t z → z ≡ x
piece_stays b x z t piece may = unchanged b x z t (rw piece refl) may

-- a grasshopper is a piece
pub hopper_is_no_pawn : (k : Kind) → same_kind k Grasshopper ≡ true → same_kind k Pawn ≡ false
hopper_is_no_pawn k hop = grind arith

-- the man that arrives is the one that its move names
pub becomes : (b : Bool) (p : Position) (x : Man) (m : Move) (o : Option Kind) → is_promotion_right p x m o ≡ true
    → ((k : Kind) → may_promote p k ≡ true → is_promotion b k ≡ true) → MayBecome b x m.to (arriving_man x o)
becomes b p x m None right may = record { mine = refl; same = λ stays. refl; promoted = λ goes. absurd (false≢true (sym (not-true _ right) ∙ goes)) }
becomes b p x m (Some k) right may =
    let parts = and_parts _ _ right in
    record { mine = refl; same = λ stays. absurd (false≢true (sym stays ∙ parts.0)); promoted = λ goes. may k parts.1 }

-- the kinds that pawns may become are those before
diagram_stays : (rule : RuleSet) (p : Position) (m : Move) (x : Man) → man_on p.men m.from ≡ Some x → (position_after rule p m).in_diagram ≡ p.in_diagram
unfolding position_after position_after_by
diagram_stays rule p m x here = rw here refl

pub promotes_still : (rule : RuleSet) (p : Position) (m : Move) (x : Man) → man_on p.men m.from ≡ Some x → (k : Kind)
    → may_promote (position_after rule p m) k ≡ true → may_promote p k ≡ true
promotes_still rule p m x here k h = grind (arith, diagram_stays rule p m x here)
