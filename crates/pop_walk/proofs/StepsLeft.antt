-- How many steps a walk can still take, wherever it started: each step leaves fewer.
use Rattle.pop_walk.proofs.Words.{Frame, List, Move, Position, RuleSet, Undo, [], all_triples, ap, arith, cases_lt, inl, inr, is_legal, length, length-append, met_after-end, moves_after, nil_from_length, opened_frame, refl, suc, zero, ℕ, ◌+◌, ◌-◌, ◌<◌, ◌∙◌, ◌∷◌, ◌≡◌, ◌≤◌}
unfoldable use Rattle.pop_walk.proofs.Words.{walk_work}
unfoldable use Rattle.pop_walk.specs.ties.Walk.{steps_after}
use Rattle.std.proofs.lemmas.Nat.{mul-le, row_fits}
use Rattle.chess_rules.specs.ties.Places.{moves_between}
use Rattle.pop_battle.proofs.Words.{after_cut}
use Rattle.pop_battle.specs.ties.Frames.{moved}
use Rattle.pop_battle.specs.ties.Skipping.{SkipsMoves}

-- the next place is later, and a place with a next move isn't the end
goes_later : (rule : RuleSet) (p : Position) (place next : ℕ) (m : Move) → moves_after rule p place ≡ m ∷ moves_after rule p next
    → (place < next) × (place < all_triples)
goes_later rule p place next m e =
    let long = ap length e in (
      elim (cases_lt place next) [
        | inl less ↦ less
        | inr back ↦
            let cut = ap length (after_cut (is_legal rule p) next place back) in
            absurd (omega (arith, long, cut, length-append (moves_between rule p next place) (moves_after rule p place)))
      ],
      elim (cases_lt place all_triples) [
        | inl inside ↦ inside
        | inr past ↦ absurd (omega (arith, long, ap length (met_after-end (is_legal rule p) place past)))
      ],
    )

-- moves are skipped up to a place that isn't before the first one
pub onward : (rule : RuleSet) (p : Position) (place : ℕ) (rest : List Move) (what : List Move → Type 0) → SkipsMoves rule p place rest what
    → (g : SkipsMoves rule p place rest what) × (place ≤ g.mid)
onward rule p place rest what g = elim (cases_lt g.mid place) [
  | inl back ↦
      let cut = ap length (after_cut (is_legal rule p) g.mid place (omega (arith, back))) in
      let all = ap length g.skipped ∙ length-append g.over (moves_after rule p g.mid) in
      let none = nil_from_length g.over
      (omega (arith, cut, all, length-append (moves_between rule p g.mid place) (moves_after rule p place))) in
      let same = rw none at g.skipped in
      (record { mid = place; over = []; skipped = refl; here = same ∙ g.here; fits = rw none at g.fits }, omega arith)
  | inr le ↦ (g, le)
]

-- after a later place no more steps follow
pub fewer_after : (k place next : ℕ) → place ≤ next → steps_after k next ≤ steps_after k place
unfolding steps_after
fewer_after zero place next le = omega arith
fewer_after (suc k) place next le = mul-le (all_triples - next) (2 + steps_after k 0) (all_triples - place) (2 + steps_after k 0) (omega arith) (omega arith)

-- the top frame has a next move
module _ (rule : RuleSet) (h : ℕ) (P : Position) (f : Frame) (below : List Frame) (next : ℕ) (m : Move) (k : ℕ) (fuel : h - length below ≡ suc k)
    (e : moves_after rule P f.place ≡ m ∷ moves_after rule P next) where
  later : steps_after (suc k) next + (2 + steps_after k 0) ≤ steps_after (suc k) f.place
  unfolding steps_after
  later =
      let at = goes_later rule P f.place next m e in
      row_fits (all_triples - next) (2 + steps_after k 0) (all_triples - f.place) (2 + steps_after k 0) (omega (arith, at.0, at.1)) (omega arith)

  -- a move that isn't followed takes a step
  pub turns-unfollowed : walk_work h (moved f next ∷ below) < walk_work h (f ∷ below)
  unfolding walk_work
  turns-unfollowed = rw fuel (omega (arith, later))

  -- following a move takes a step
  pub turns-enter : (undo : Undo) (tried : ℕ) → walk_work h (opened_frame m undo tried ∷ (moved f next ∷ below)) < walk_work h (f ∷ below)
  unfolding walk_work
  turns-enter undo tried =
      let less : h - suc (length below) ≡ k = omega (arith, fuel) in
      rw (fuel, less) (omega (arith, later))
