-- What the moves still to come in a position mean for paths.
use Rattle.pop_walk.proofs.Words.{Bool, List, Mate, Move, None, Mode, Position, RuleSet, [], append_assoc, append-nil, allows_mate, chess, cond, false, filter, is_followed, is_emitted, is_mating, map, map-append, mates_after, refl, rules, seeks_last, shown_paths, suc, true, value, ℕ, ◌++◌, ◌+◌, ◌∙◌, ◌∷◌, ◌≡◌, legal_moves, mates_after-are}
use Rattle.pop_battle.proofs.Boards.{after_start}
use Rattle.pop_walk.proofs.GoingOn.{cases, ways, walk_length-help, follows-help}

-- where the first move counts nothing if it fails a test, all that fail it at the head of a list count nothing
pub skipped-over : {A : Type 0} (f : List Move → A) (test : Move → Bool) → ((m : Move) (ms : List Move) → test m ≡ false → f (m ∷ ms) ≡ f ms)
    → (over ms : List Move) → filter test over ≡ [] → f (over ++ ms) ≡ f ms
skipped-over f test skip [] ms none = refl
skipped-over f test skip (m ∷ over) ms none = search (rules, cases (test m), skip m (over ++ ms), skipped-over f test skip over ms)

-- a path, where it is given
abbrev pub given_path : Bool → List Move → List (List Move)
given_path b L = cond b (L ∷ []) []

-- a line after a path and a move
pub map-path : (L : List Move) (m : Move) (xs : List (List Move)) → map (λ line. L ++ line) (map (λ line. m ∷ line) xs) ≡ map (λ line. (L ++ m ∷ []) ++ line) xs
map-path L m [] = refl
map-path L m (x ∷ xs) = rw (append_assoc L (m ∷ []) x, map-path L m xs)

-- the paths by a move and by the others, seen from the path before them
pub turn : (b : Bool) (L : List Move) (m : Move) (xs ys rest : List (List Move))
    → map (λ line. L ++ line) ((given_path b (m ∷ []) ++ map (λ line. m ∷ line) xs) ++ ys) ++ rest ≡ given_path b (L ++ m ∷ [])
    ++ (map (λ line. (L ++ m ∷ []) ++ line) xs ++ (map (λ line. L ++ line) ys ++ rest))
turn b L m xs ys rest = search (rules, append_assoc, map-append, map-path)

module _ (rule : RuleSet) (mode : Mode) where
  -- moves that have no paths: at the last half-move those that don't mate, by a side that seeks mate
  module _ (P : Position) where
    ends : (low : Bool) (fuel k : ℕ) (m : Move) (q : Position) (qs ms : List Move)
        → map (λ line. m ∷ line) (shown_paths mode (chess mode.goal rule) false k 0 q qs) ++ shown_paths mode (chess mode.goal rule) low (suc fuel) 1 P ms
        ≡ shown_paths mode (chess mode.goal rule) low (suc fuel) 1 P ms
    unfolding shown_paths
    ends low fuel k m q qs ms = search rules

    -- a last move that doesn't mate gives no path, where the side seeks mate
    pub skipped : (low : Bool) (fuel : ℕ) → seeks_last mode.battle ≡ true → mode.goal ≡ Mate → (m : Move) (ms : List Move) → is_mating rule P m ≡ false
        → shown_paths mode (chess mode.goal rule) low fuel 1 P (m ∷ ms) ≡ shown_paths mode (chess mode.goal rule) low fuel 1 P ms
    unfolding shown_paths is_emitted is_followed value
    skipped low fuel last for m ms misses = search (rules, ways, walk_length-help, ends)

  -- the last half-move but one of help play, after moves to which no reply mates
  module _ (help : mode.battle ≡ None) (for : mode.goal ≡ Mate) where
    -- where no move mates no path is left
    mateless : (P : Position) (fuel : ℕ) → mates_after rule P 0 ≡ [] → shown_paths mode (chess mode.goal rule) false fuel 1 P (legal_moves rule P) ≡ []
    unfolding shown_paths
    mateless P fuel none =
        rw (← append-nil (legal_moves rule P)) (skipped-over (shown_paths mode (chess mode.goal rule) false fuel 1 P) (is_mating rule P)
        (skipped P false fuel (rw help refl) for) (legal_moves rule P) [] (rw (← after_start rule P, ← mates_after-are rule P 0) none) ∙ search rules)

    pub is_decided : (P : Position) (low : Bool) (fuel : ℕ) (m : Move) (ms : List Move) → allows_mate rule P m ≡ false
        → shown_paths mode (chess mode.goal rule) low fuel 2 P (m ∷ ms) ≡ shown_paths mode (chess mode.goal rule) low fuel 2 P ms
    unfolding shown_paths is_emitted
    is_decided P low fuel m ms none = search (rules, follows-help, walk_length-help, mateless)
