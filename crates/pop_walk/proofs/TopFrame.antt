-- What is still to come from the top frame once it is closed, by its next move, and after moves that are skipped: paths, turns and counts.
use Rattle.pop_walk.proofs.Words.{Battle, Bool, Frame, GoesTo, List, Mate, Move, None, Mode, Position, RuleSet, Some, Steps, Undo, [], allows_mate, ap, arith, chess, eqb, false, refl, false≢true, is_emitted, is_followed, is_mating, legal_moves, length, length-append, map, moves_after, opened_frame, path, position, position_after, rules, seeks_last, shown_paths, suc, sum_by-cons, sym, to_come, to_open, true, walk_after, walk_count, walk_length, walk_work, ℕ, ◌++◌, ◌+◌, ◌-◌, ◌∙◌, ◌∷◌, ◌≡◌, ◌≤◌, ◌⊎◌}
use Rattle.pop_battle.proofs.Boards.{after_start, each_one}
use Rattle.pop_battle.specs.ties.Frames.{moved}
use Rattle.pop_walk.proofs.Counting.{CountsAll, counts-by, counts-help, fewest-skipped, last-open, open-close, walk_count-start}
use Rattle.pop_walk.proofs.GoingOn.{follows-help, no_zero, walk_length-help, walk_length-keys}
use Rattle.pop_walk.proofs.StepsLeft.{fewer_after}
use Rattle.pop_walk.proofs.ToCome.{given_path, is_decided, skipped-over, skipped, turn}
use Rattle.pop_walk.proofs.OutOfReach.{first-none}
use Rattle.pop_walk.specs.ties.Counts.{Counts, CountsMove, are_whites, fewest_for, fewest_left, fewest_walked, is_walked_once_by, least_if, untried}
use Rattle.chess_reach.specs.Lines.{HoldsEnds}

module _ (rule : RuleSet) (mode : Mode) (h : ℕ) (p : Position) (f : Frame) (below : List Frame) where
  -- the position of the top frame
  abbrev P : Position
  P = position rule p (f ∷ below)

  -- the frame is closed: it has no move
  module _ (none : (f.left ≡ 0) ⊎ (moves_after rule P f.place ≡ [])) where
    -- a frame without moves gives no path
    pub come-close : to_come rule mode h p (f ∷ below) ≡ to_come rule mode h p below
    unfolding to_come shown_paths
    come-close = search rules

    fewest-close : fewest_left rule mode h p (f ∷ below) ≡ fewest_left rule mode h p below
    unfolding fewest_left fewest_walked
    fewest-close = search rules

    -- a frame without moves counts nothing
    pub counts-close : (count : ℕ) → CountsAll rule mode h p (f ∷ below) below count count
    unfolding are_whites
    counts-close count =
        let opens = open-close rule p f below none in
        let tries = fewest-close in
        counts-by rule mode h p (f ∷ below) below count count (omega arith) (λ help. (omega (arith, opens), omega (arith, opens)))
        (λ battle fought. omega (arith, tries)) (λ battle fought single whites. search (rules, opens))

  -- the next move is m
  module _ (next : ℕ) (m : Move) (k t : ℕ) (fuel : h - length below ≡ suc k) (left : f.left ≡ suc t)
      (e : moves_after rule P f.place ≡ m ∷ moves_after rule P next) where
    -- the position after the move
    abbrev q : Position
    q = position_after rule P m

    abbrev root : Bool
    root = eqb (length below) 0

    -- a move that isn't followed has no path
    pub come-unfollowed : is_followed mode.battle (chess mode.goal rule) root t q ≡ false
        → to_come rule mode h p (f ∷ below) ≡ to_come rule mode h p (moved f next ∷ below)
    unfolding to_come position path shown_paths
    come-unfollowed b = search rules

    -- a move that is followed: its path, where that is given, and what stands below it
    pub come-enter : (undo : Undo) → is_followed mode.battle (chess mode.goal rule) root t q ≡ true
        → to_come rule mode h p (f ∷ below) ≡ given_path (is_emitted mode.battle (chess mode.goal rule) t q)
        (path (opened_frame m undo (walk_length mode.battle mode.variation (chess mode.goal rule) t q)
        ∷ (moved f next ∷ below))) ++ to_come rule mode h p (opened_frame m undo (walk_length mode.battle mode.variation (chess mode.goal rule) t q) ∷
        (moved f next ∷ below))
    unfolding to_come position path shown_paths
    come-enter undo b =
        let less : h - suc (length below) ≡ k = omega arith in
        simp (fuel, less, left, e, b, after_start, no_zero) (search (rules, turn))

    -- a move after which the goal is out of reach has no path
    pub come-leave : mode.battle ≡ None → HoldsEnds mode.goal rule t q 0 → to_come rule mode h p (f ∷ below) ≡ to_come rule mode h p (moved f next ∷ below)
    unfolding to_come position path
    come-leave help none = rw (fuel, left, e, first-none rule mode help root (suc k) t P m (moves_after rule P next) none) refl

    -- a move that is not followed has only its test
    tries-unfollowed : is_followed mode.battle (chess mode.goal rule) root t q ≡ false
        → fewest_left rule mode h p (f ∷ below) ≡ fewest_for mode.battle mode.variation (chess mode.goal rule) root t q + fewest_left rule mode h p
        (moved f next ∷ below)
    unfolding fewest_left position fewest_walked
    tries-unfollowed b = simp (fuel, left, e, sum_by-cons, b) (omega arith)

    -- a move that is followed adds what is tried below it
    tries-enter : (undo : Undo) → is_followed mode.battle (chess mode.goal rule) root t q ≡ true → fewest_left rule mode h p (f ∷ below)
        ≡ fewest_for mode.battle mode.variation (chess mode.goal rule) root t q + fewest_left rule mode h p
        (opened_frame m undo (walk_length mode.battle mode.variation (chess mode.goal rule) t q) ∷ (moved f next ∷ below))
    unfolding fewest_left position fewest_walked
    tries-enter undo b =
        let less : h - suc (length below) ≡ k = omega arith in
        simp (fuel, less, left, e, sum_by-cons, b, after_start, no_zero) (omega arith)

    -- the next move opens what it can, and the others theirs
    open-next : to_open rule p (f ∷ below) ≡ walk_count (legal_moves rule) (position_after rule) t q + to_open rule p (moved f next ∷ below)
    unfolding to_open position walk_after
    open-next =
        let counts = λ (x : Move). walk_count (legal_moves rule) (position_after rule) t (position_after rule P x) in
        rw (left, e) (omega (arith, sum_by-cons counts m (moves_after rule P next)))

    -- what a move that is not followed counts
    pub counts-unfollowed : (before after : ℕ) → is_followed mode.battle (chess mode.goal rule) root t q ≡ false → CountsMove rule mode root t q before after
        → CountsAll rule mode h p (f ∷ below) (moved f next ∷ below) before after
    unfolding are_whites
    counts-unfollowed before after b x =
        let tries = tries-unfollowed b in
        let opens = open-next in
        counts-by rule mode h p (f ∷ below) (moved f next ∷ below) before after (omega (arith, x.tries))
        (λ help. absurd (false≢true (sym b ∙ follows-help mode (chess mode.goal rule) root t q help))) (λ battle fought. omega (arith, x.tries, tries))
        (λ battle fought single whites. search (rules, x.keys battle fought single, opens, no_zero))

    -- leaving a move counts nothing, and nothing more than it might have counted is still to come
    pub counts-leave : (count : ℕ) → mode.battle ≡ None
        → Counts (least_if false (untried rule mode h p (f ∷ below))) (untried rule mode h p (moved f next ∷ below)) count count
    unfolding untried is_walked_once_by least_if
    counts-leave count help = let opens = open-next in rw help
        (record { once = λ o. refl; most = λ o. omega (arith, opens); least = omega arith; grows = omega arith })

    -- what a move that is followed counts
    pub counts-enter : (undo : Undo) (before after : ℕ) → is_followed mode.battle (chess mode.goal rule) root t q ≡ true
        → CountsMove rule mode root t q before after
        → CountsAll rule mode h p (f ∷ below) (opened_frame m undo (walk_length mode.battle mode.variation (chess mode.goal rule) t q) ∷
        (moved f next ∷ below)) before after
    unfolding are_whites to_open position walk_after
    counts-enter undo before after b x =
        let tries = tries-enter undo b in
        let opens = open-next in
        let start = walk_count-start rule t q in
        counts-by rule mode h p (f ∷ below) _ before after (omega (arith, x.tries))
        (λ help. let same = walk_length-help mode (chess mode.goal rule) t q help in let one = counts-help rule mode root t q before after help x in
        rw same (omega (arith, one.0, opens, start), omega (arith, one.1, opens, start))) (λ battle fought. omega (arith, x.tries, tries))
        (λ battle fought single whites. search (rules, x.keys battle fought single, opens, no_zero, walk_length-keys))

  -- moves are skipped that have no paths
  module _ (rest : List Move) (before between : ℕ) (g : GoesTo rule mode f.left P f.place rest before between) where
    abbrev later : List Frame
    later = moved f g.mid ∷ below

    -- a count to which these moves add nothing is the same from the later cursor on
    same-later : {A : Type 0} (F : ℕ → List Move → A) → (seeks_last mode.battle ≡ true → mode.goal ≡ Mate → (m : Move) (ms : List Move)
        → is_mating rule P m ≡ false → F 1 (m ∷ ms) ≡ F 1 ms) → (mode.battle ≡ None → mode.goal ≡ Mate → (m : Move) (ms : List Move)
        → allows_mate rule P m ≡ false → F 2 (m ∷ ms) ≡ F 2 ms) → F f.left (moves_after rule P f.place) ≡ F f.left (moves_after rule P g.mid)
    unfolding position
    same-later F skip decide = grind (arith, g.fits, g.skipped, skipped-over (F 1) (is_mating rule P), skipped-over (F 2) (allows_mate rule P))

    come-skip : to_come rule mode h p (f ∷ below) ≡ to_come rule mode h p later
    unfolding to_come position path
    come-skip = ap (λ lines. map (λ line. path (f ∷ below) ++ line) lines ++ to_come rule mode h p below)
        (same-later (λ n ms. shown_paths mode (chess mode.goal rule) (eqb (length below) 0) (h - length below) n P ms) (skipped rule mode P _ _)
        (λ help for. is_decided rule mode help for P _ _))

    -- what follows skipped moves follows from before them
    pub walk-skip : f.place ≤ g.mid → (new : List Frame) (board : Position) (given : Bool) → Steps rule mode h p later new board given
        → Steps rule mode h p (f ∷ below) new board given
    unfolding position walk_work
    walk-skip le new board given s = search (rules, come-skip, fewer_after (h - length below) f.place g.mid le)

    -- with two half-moves left each skipped move would open one frame
    each : (k : ℕ) → k ≡ 2 → walk_after rule k P f.place ≡ length g.over + walk_after rule k P g.mid
    unfolding walk_after
    each k e =
        rw (e, each_one (legal_moves rule) (position_after rule) P, each_one (legal_moves rule) (position_after rule) P) (simp (g.skipped, length-append))

    tries-skip : (battle : Battle) → mode.battle ≡ Some battle → fewest_left rule mode h p (f ∷ below) ≡ fewest_left rule mode h p later
    unfolding fewest_left position
    tries-skip battle fought =
        let fewest = λ (n : ℕ) (ms : List Move). fewest_walked mode (chess mode.goal rule) (eqb (length below) 0) (h - length below) n P ms in
        search (rules, same-later fewest, fewest-skipped rule mode P)

    -- the skipped moves count one each, if two half-moves are left; otherwise nothing
    pub counts-skip : CountsAll rule mode h p (f ∷ below) later before between
    unfolding are_whites to_open position walk_after
    counts-skip = counts-by rule mode h p (f ∷ below) later before between (search rules) (λ help. search (rules, last-open rule P, each))
        (λ battle fought. search (rules, tries-skip battle fought)) (λ battle fought single whites. search (rules, last-open rule P, each))
