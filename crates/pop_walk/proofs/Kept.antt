-- The first solutions of a phase, from the paths that begin them.
use Rattle.pop_walk.proofs.Words.{Battle, Bool, Frame, Game, IsWalking, List, None, Option, Mode, Position, RuleSet, Some, Steps, Walks, [], append-nil, arith, beginning_count, begins_solution, chess, cond, eqb, false, is_none, kept_paths, length, moves_after, nat_tests, is_emitted, path, position, refl, rules, shown_paths, suc, to_come, true, zero, ℕ, ◌&&◌, ◌+◌, ◌-◌, ◌<◌, ◌||◌, ◌∷◌, ◌≡◌, ◌⊎◌, and_parts, map-id, nil_from_length}
use Rattle.pop_walk.proofs.Paths.{path-length}

module _ {M : Type 0} where
  -- the next path is kept, and of the others the paths of the solutions that may still begin
  pub keep-next : (help : Bool) (n : ℕ) (x : List M) (xs : List (List M)) (b : Bool) → begins_solution help x ≡ b → (b ≡ true → 0 < n)
      → kept_paths help n (x ∷ xs) ≡ x ∷ kept_paths help (n - cond b 1 0) xs
  unfolding kept_paths
  keep-next help n x xs b e some = search rules

  -- the solutions that begin with this path and after it
  pub beginning_count-next : (help : Bool) (n : ℕ) (x : List M) (xs : List (List M)) (b : Bool) → begins_solution help x ≡ b → (b ≡ true → 0 < n)
      → beginning_count help n (x ∷ xs) ≡ cond b 1 0 + beginning_count help (n - cond b 1 0) xs
  unfolding beginning_count
  beginning_count-next help n x xs b e some = search rules

  -- where every path begins a solution, none is kept with none to begin
  full-help : (xs : List (List M)) → (kept_paths true 0 xs ≡ []) × (beginning_count true 0 xs ≡ 0)
  unfolding kept_paths beginning_count
  full-help [] = (refl, refl)
  full-help (x ∷ xs) = (refl, refl)

-- the first path by the moves of a root in battle play begins a solution
module _ {P M : Type 0} (mode : Mode) (game : Game P M) (battle : Battle) (fought : mode.battle ≡ Some battle) where
  full-battle : (root : Bool) (k left : ℕ) (p : P) (ms : List M)
      → (kept_paths false 0 (shown_paths mode game root k left p ms) ≡ []) × (beginning_count false 0 (shown_paths mode game root k left p ms) ≡ 0)
  unfolding shown_paths kept_paths beginning_count is_emitted
  full-battle root zero left p ms = search rules
  full-battle root (suc k) zero p ms = search rules
  full-battle root (suc k) (suc t) p [] = search rules
  full-battle root (suc k) (suc t) p (m ∷ ms) = search (rules, full-battle root (suc k) (suc t) p ms)

module _ (rule : RuleSet) (mode : Mode) (h : ℕ) (p : Position) where
  -- the paths to come from the root alone
  pub to_come-root : (f : Frame) → to_come rule mode h p (f ∷ []) ≡ shown_paths mode (chess mode.goal rule) true (h - 0) f.left p (moves_after rule p f.place)
  unfolding to_come path position
  to_come-root f = search (rules, append-nil, map-id)

  -- with none to begin, and none on the way
  full : (battle : Option Battle) → mode.battle ≡ battle → (frames : List Frame) → (is_none battle || eqb (length frames) 1) ≡ true
      → (kept_paths (is_none battle) 0 (to_come rule mode h p frames) ≡ []) × (beginning_count (is_none battle) 0 (to_come rule mode h p frames) ≡ 0)
  full None same frames e = full-help _
  full (Some battle) same [] e = absurd (grind (arith, nat_tests))
  full (Some battle) same (f ∷ []) e = rw (to_come-root f) (full-battle mode (chess mode.goal rule) battle same _ _ _ _ _)
  full (Some battle) same (f ∷ (g ∷ below)) e = absurd (grind (arith, nat_tests))

  module _ (old mid : List Frame) (same : to_come rule mode h p old ≡ to_come rule mode h p mid) where
    -- the walk ends once no frame is left, or where the limit is reached and no solution is on the way
    pub walks_ended : (limit : ℕ) (board : Position) → IsWalking rule h p mid board
        → (length mid ≡ 0) ⊎ ((eqb limit 0 && (is_none mode.battle || eqb (length mid) 1)) ≡ true)
        → Walks rule mode (is_none mode.battle) h p limit old mid board false
    unfolding kept_paths beginning_count to_come
    walks_ended limit board r e = grind (arith, nat_tests, and_parts, full mode.battle refl mid, nil_from_length)

    -- a step that gives a path ends it too
    pub walks_given : (limit : ℕ) (new : List Frame) (board : Position) (given : Bool) → Steps rule mode h p mid new board given
        → given ≡ true → 0 < length mid → (eqb limit 0 && (is_none mode.battle || eqb (length mid) 1)) ≡ false
        → Walks rule mode (is_none mode.battle) h p limit old new board true
    unfolding to_come
    walks_given limit new board given made is some e = grind (arith, path-length, nat_tests, keep-next, beginning_count-next, nil_from_length)
