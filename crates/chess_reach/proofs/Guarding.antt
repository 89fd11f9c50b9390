-- The squares from which a man guards, looked at from the square that it guards.
use Rattle.chess_attacks.proofs.Chess.{Colour, Kind, King, Knight, Pawn, Queen, [], bit_and, bit_at, bit_not, cases_Bool, false, gait_of, inl, inr, is_hopper, other, reaches_as, refl, same_kind-true, subst, sym, true, w64, ℕ, ◌%◌, ◌*◌, ◌<◌, ◌==◌, ◌^◌, ◌∙◌, ◌≡◌, ◌≢◌}
use Rattle.chess_attacks.proofs.rays.Flips.{reaches_back}
use Rattle.chess_attacks.specs.ties.Lines.{AreReached}
use Rattle.chess_core.specs.Position.{same_kind}
use Rattle.chess_reach.proofs.Bitboards.{off_one, on_both}
use Rattle.chess_reach.proofs.Chains.{knight_part, part_has, pawn_part, piece_guards, piece_part, queen_guards, queen_part}
unfoldable use Rattle.chess_reach.specs.Reach.{guards}
use Rattle.chess_reach.specs.Reach.{without_hops}
use Rattle.chess_reach.specs.declared.whereabouts.Whereabouts.{Whereabouts}
use Rattle.chess_reach.specs.ties.Whereabouts.{has}
use Rattle.chess_reach.specs.ties.Ways.{CanBe}

no_hops : (k : Kind) → is_hopper (gait_of (without_hops k)) ≡ false
no_hops King = refl
no_hops k = refl

-- from s a man of colour c and kind k guards z, other than from the king's square
module _ (c e : Colour) (s z king i : ℕ) (enemy : e ≡ other c) (here : i ≡ king) (small : s < 64) (low : z < 64) (least : king < 64) (off : s ≢ king) where
  -- the squares of a bitboard other than the king's
  abbrev but_king : ℕ → ℕ
  but_king l = bit_and l (bit_not w64 (1 * 2 ^ i % 2 ^ 64))

  looked_back : (k : Kind) (l : ℕ) → is_hopper (gait_of k) ≡ false → AreReached (record { colour = e; kind = k }) z l → reaches_as [] c k s z ≡ true
      → (bit_at (but_king l) s == 1) ≡ true
  looked_back k l plain reached h =
      on_both l _ s (reached.inside [] s small (subst (λ x. reaches_as [] x k z s ≡ true) (sym enemy) (sym (reaches_back [] c k s z plain small low) ∙ h)))
      (off_one s i king here small least off)

  -- a piece guards by its lines
  pub piece_guarding : (g j : Kind) (l : ℕ) → same_kind g Pawn ≡ false → CanBe g j → AreReached (record { colour = e; kind = without_hops g }) z l
      → guards c j s z ≡ true → has g j s (record { unpromoted = but_king l; queen = 0; knight = 0 }) ≡ true
  piece_guarding g j l piece be reached h =
      let w : Whereabouts = record { unpromoted = but_king l; queen = 0; knight = 0 } in
      part_has g j s w (but_king l) (piece_part g j w piece)
      (looked_back (without_hops g) l (no_hops g) reached (piece_guards c g s z (subst (λ x. guards c x s z ≡ true) (be.piece piece) h)))

  -- a pawn as what it is and what it becomes
  pub pawn_guarding : (g j : Kind) (l q n : ℕ) → same_kind g Pawn ≡ true → CanBe g j → AreReached (record { colour = e; kind = without_hops g }) z l
      → AreReached (record { colour = e; kind = Queen }) z q → AreReached (record { colour = e; kind = Knight }) z n
      → guards c j s z ≡ true → has g j s (record { unpromoted = but_king l; queen = but_king q; knight = but_king n }) ≡ true
  pawn_guarding g j l q n pawn be lines queens knights h =
      let w : Whereabouts = record { unpromoted = but_king l; queen = but_king q; knight = but_king n } in
      elim (cases_Bool (same_kind j Pawn)) [
        | inl still ↦ part_has g j s w _ (pawn_part g j w still) (looked_back (without_hops g) l (no_hops g) lines
            (piece_guards c g s z (subst (λ x. guards c x s z ≡ true) (same_kind-true j Pawn still ∙ sym (same_kind-true g Pawn pawn)) h)))
        | inr piece ↦ elim (cases_Bool (same_kind j Knight)) [
          | inl too ↦ part_has g j s w _ (knight_part g j w pawn piece too)
              (looked_back Knight n refl knights (piece_guards c Knight s z (subst (λ x. guards c x s z ≡ true) (same_kind-true j Knight too) h)))
          | inr nor ↦ part_has g j s w _ (queen_part g j w pawn piece nor)
              (looked_back Queen q refl queens (queen_guards c j s z piece nor (be.followed pawn) (be.king pawn) h))
        ]
      ]
