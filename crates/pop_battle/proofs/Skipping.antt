-- Moves that are skipped, since no reply to them mates.
use Rattle.pop_battle.proofs.Words.{IfSome, Bool, IsNextKept, IsFirstKept, IsWellFormed, MatchOption, Move, None, Option, Position, RuleSet, Some, [], append-nil, append_assoc, arith, filter, from_map, is_legal, may_be_made, length, min, moves_after, met_after-end, met_after-here, place_of_triple, range_with_len, true, ℕ, ◌+◌, ◌-◌, ◌<◌, ◌^◌, ◌∷◌, ◌≡◌, rules, after_cut, from_range, triples_numbered, all_triples, place_of, triple_at}
use Rattle.chess_rules.proofs.TripleNumbers.{in_triples, made_is_triple}

module _ (rule : RuleSet) (p : Position) where
  -- a legal move is one of the triples
  numbered : (m : Move) → IsWellFormed p → is_legal rule p m ≡ true → (n : ℕ) × (n < all_triples) × (triple_at n ≡ m)
  numbered m sound lawful =
      let t = made_is_triple rule p m sound.size (may_be_made rule p m lawful) in
      let w = from_map triple_at (range_with_len 0 all_triples) m (rw triples_numbered at (in_triples m t.0 t.1 t.2)) in
      (w.0, omega (arith, from_range 0 all_triples w.0 w.1), w.2)

  -- after the cursor right before a move come the move and the moves after it
  pub after_back : (m : Move) → IsWellFormed p → is_legal rule p m ≡ true
      → moves_after rule p (place_of (Some m) - 1) ≡ m ∷ moves_after rule p (place_of (Some m))
  after_back m sound lawful = search (rules, numbered, place_of_triple, met_after-here)

  -- by a filter, which removes the moves that are skipped
  pub with_filter : (test : Move → Bool) (place next n before after : ℕ) (o : Option Move) → IsWellFormed p → next ≡ place_of o
      → IfSome o (λ m. is_legal rule p m ≡ true)
      → MatchOption o ((filter test (moves_after rule p place) ≡ []) × (n ≡ length (moves_after rule p place)))
      (λ m. IsFirstKept rule p test place next n m)
      → IfSome o (λ m. place < next) → after ≡ min (before + n) (2 ^ 64 - 1) → IsNextKept rule p test place next before after o
  with_filter test place next n before after None sound at lawful none onward counted = grind (arith, met_after-end (is_legal rule p) all_triples, append-nil)
  with_filter test place next n before after (Some m) sound at lawful skipped onward counted =
      grind (arith, after_back m sound lawful, after_cut (is_legal rule p) place next (omega (arith, onward)), append_assoc)

  -- without a filter no move is skipped
  pub without_filter : (test : Move → Bool) (place next before : ℕ) (o : Option Move) → before < 2 ^ 64
      → MatchOption o (moves_after rule p place ≡ []) (λ m. (moves_after rule p place ≡ m ∷ moves_after rule p next) × (is_legal rule p m ≡ true))
      → IsNextKept rule p test place next before before o
  without_filter test place next before o range here = search rules
