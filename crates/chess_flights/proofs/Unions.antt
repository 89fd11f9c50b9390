-- The squares of all kinds together.
use Rattle.chess_core.specs.declared.man.Kind.TheVariants.{King, Queen, Rook, Bishop, Knight, Pawn, Grasshopper, Nightrider}
use Rattle.chess_flights.proofs.Chess.{ByKind, Kind, bit_at, bit_or, inl, inr, true, value_for, ℕ, ◌==◌, ◌≡◌}
use Rattle.chess_flights.proofs.Hurdles.{on_one}

module _ (v : ByKind ℕ) where
  abbrev union : ℕ
  union = bit_or (bit_or (bit_or (bit_or (bit_or (bit_or (bit_or v.kings v.queens) v.rooks) v.bishops) v.knights) v.pawns) v.grasshoppers) v.nightriders

  either : (k : Kind) (w s : ℕ) → ((bit_at w s == 1) ≡ true → (j : Kind) × ((bit_at (value_for v j) s == 1) ≡ true))
      → (bit_at (bit_or w (value_for v k)) s == 1) ≡ true → (j : Kind) × ((bit_at (value_for v j) s == 1) ≡ true)
  either k w s others on = elim (on_one w (value_for v k) s on) [ inl e ↦ others e | inr e ↦ (k, e) ]

  -- for `union_of`: each square is one of a kind's
  pub one_of_union : (s : ℕ) → (bit_at union s == 1) ≡ true → (k : Kind) × ((bit_at (value_for v k) s == 1) ≡ true)
  one_of_union s = either Nightrider _ s (either Grasshopper _ s (either Pawn _ s (either Knight _ s (either Bishop _ s (either Rook _ s (either Queen _ s (λ on. (King, on))))))))
