-- The problem that words pose is sound if no test at its end fails.
use Rattle.std.proofs.Common.{rules}
use Rattle.pop_input.proofs.Words.{ArePut, Bool, Diagram, EnPassantImpossible, IsWellFormed, List, Man, None, Option, Some, Draft, Stipulation, arith, cases_Bool, diagram_fault, diagram_of, false, has_king_to_mate, has_men, has_unmoved, in_check, is_en_passant_square_right, is_home, man_on, mark_unmoved, none_unmoved, other, position_fault, position_of, refl, rule_of, starting_side, true, castling_rights_of, ℕ, ◌≡◌}
use Rattle.chess_core.specs.declared.man.Unmoved.{Unmoved}
use Rattle.pop_stipulation.specs.declared.stipulation.Form.{Form}

module _ (men : List (Option Man)) (castling_forbidden : Unmoved) where
  -- on each square with castling rights is the man that castles from it
  homes : (s : ℕ) → has_unmoved (castling_rights_of men castling_forbidden) s ≡ true → is_home (man_on men s) s ≡ true
  unfolding has_unmoved mark_unmoved none_unmoved castling_rights_of
  homes s h = search rules

-- well formed but for the en passant square
well_formed_by : (draft : Draft) (form : Form) → ArePut draft.men → is_en_passant_square_right draft.men (starting_side form) draft.crossed ≡ true
    → IsWellFormed (position_of (diagram_of draft form))
unfolding position_of
well_formed_by draft form put right =
    record { size = put.size; kings = put.kings; pawns = put.pawns; homes = homes draft.men draft.castling_forbidden; crossed = right }

-- without an en passant square the position is well formed
pub well_formed_without : (draft : Draft) (form : Form) (setup : Diagram) → setup ≡ diagram_of draft form → ArePut draft.men → draft.crossed ≡ None
    → IsWellFormed (position_of setup)
unfolding is_en_passant_square_right
well_formed_without draft form setup is put none = rw is (well_formed_by draft form put (rw none refl))

-- if the position isn't well formed, no pawn can have passed over the en passant square
crossed_wrong : (draft : Draft) (form : Form) → ArePut draft.men → (IsWellFormed (position_of (diagram_of draft form)) → ⊥)
    → is_en_passant_square_right draft.men (starting_side form) draft.crossed ≡ false
crossed_wrong draft form put ill = grind (arith, cases_Bool, well_formed_by)

-- if the position is well formed, a pawn can have passed over the en passant square
crossed_fine : (setup : Diagram) → IsWellFormed (position_of setup) → is_en_passant_square_right setup.men setup.turn setup.crossed ≡ true
unfolding position_of
crossed_fine setup well = well.crossed

-- The faults.

-- a diagram and its position have the same men
pub shown_men : (setup : Diagram) → (position_of setup).men ≡ setup.men
unfolding position_of
shown_men setup = refl

module _ (draft : Draft) (stipulation : Stipulation) (setup : Diagram) (is : setup ≡ diagram_of draft stipulation.form) (put : ArePut draft.men)
    (some : has_men setup.men ≡ true) where
  -- if there are men and the position isn't well formed, the fault is the en passant square's
  pub ill_fault : (IsWellFormed (position_of setup) → ⊥) → Some EnPassantImpossible ≡ diagram_fault draft stipulation setup
  ill_fault ill = grind (arith, crossed_wrong)

  module _ (well : IsWellFormed (position_of setup)) where
    right : is_en_passant_square_right setup.men setup.turn setup.crossed ≡ true
    right = crossed_fine setup well

    -- the faults of the position
    pub position_reported : (king check : Bool) → king ≡ has_king_to_mate stipulation setup.men
        → check ≡ in_check (rule_of draft.condition) setup.men (other (starting_side stipulation.form))
        → position_fault king check ≡ diagram_fault draft stipulation setup
    position_reported king check k at = grind (arith, right)
