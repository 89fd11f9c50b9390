-- How the search of a phase after a beginning of moves begins.
unfoldable use Rattle.pop_walk.specs.ties.Walk.{AreEnds}
use Rattle.pop_walk.proofs.Words.{AreCursors, Bool, Frame, Game, HoldsAtProgress, First, IsLinked, IsRoomy, IsWalking, List, Move, Part, Phase, Mode, Posed, Position, RuleSet, Progress, Within, [], after_well_formed, ap, append-nil, arith, eqb, events_along, false, false≢true, game_of, inl, inr, is_emitted, is_followed, is_for_mate, is_help, is_legal, is_mate, may_be_made, left_of, legal_moves, length, map, nat_tests, opened_frame, path, phase_half_moves, phase_paths, phase_start, mode_of, position, position_after, refl, reverse, rules, seeks_last, shown_paths, sym, to_come, to_open, true, undo_of, walk_count, walk_length, walk_of, ℕ, ◌++◌, ◌+◌, ◌-◌, ◌<◌, ◌∙◌, ◌∷◌, ◌≡◌, ◌≤◌, met_after}
use Rattle.pop_battle.proofs.Boards.{after_start, for_mate}
use Rattle.pop_walk.proofs.GoingOn.{cases, ended-reached, follows-help, walk_length-help, walk_length-most}
use Rattle.pop_walk.proofs.Counting.{at_most_one, counts-help, open-close, walk_count-start}
use Rattle.pop_walk.proofs.Paths.{path-more, position-more}
use Rattle.pop_walk.proofs.Sound.{no-battle}
use Rattle.pop_walk.proofs.ToCome.{given_path, skipped, turn}
use Rattle.pop_walk.proofs.TopFrame.{come-close}
use Rattle.pop_walk.proofs.Walking.{popped}
use Rattle.pop_walk.specs.ties.Beginnings.{IsBeginning, are_idle, paths_by}
use Rattle.pop_walk.specs.ties.Counts.{Counts, CountsMove, exactly, is_walked_once_by, untried, untried_at}

-- from idle frames nothing is to come
idle-parts : (f : Frame) (below : List Frame) → are_idle (f ∷ below) ≡ true → (f.left ≡ 0) × (are_idle below ≡ true)
unfolding are_idle
idle-parts f below e = grind (arith, nat_tests)

module _ (rule : RuleSet) (mode : Mode) (p : Position) where
  idle-come : (h : ℕ) (frames : List Frame) → are_idle frames ≡ true → to_come rule mode h p frames ≡ []
  unfolding to_come
  idle-come h [] e = refl
  idle-come h (f ∷ below) e = let i = idle-parts f below e in come-close rule mode h p f below (inl i.0) ∙ idle-come h below i.1

  idle-open : (frames : List Frame) → are_idle frames ≡ true → to_open rule p frames ≡ 0
  unfolding to_open
  idle-open [] e = refl
  idle-open (f ∷ below) e = let i = idle-parts f below e in open-close rule p f below (inl i.0) ∙ idle-open below i.1

-- a walk with one more move
walking-opened : (rule : RuleSet) (h : ℕ) (p : Position) (frames : List Frame) (board : Position) (m : Move) (tried : ℕ) → 0 < length frames
    → IsWalking rule h p frames board → is_legal rule board m ≡ true → tried + length frames ≤ h
    → IsWalking rule h p (opened_frame m (undo_of rule board m) tried ∷ frames) (position_after rule board m)
unfolding IsLinked IsRoomy AreCursors AreEnds position
walking-opened rule h p frames board m tried some r lawful room =
    grind (arith, after_well_formed rule board m r.sound (may_be_made rule board m lawful), may_be_made rule board m lawful)

-- the progress with which a search after a beginning begins: the path of the beginning is still to be given, or it isn't
abbrev pub begins_at : Posed → Phase → Bool → Progress
begins_at problem phase true = First (walk_of problem phase Part)
begins_at problem phase false = Within (walk_of problem phase Part) 0

-- a search after a beginning has begun: these paths are to come
pub record HasBegun (rule : RuleSet) (problem : Posed) (phase : Phase) (paths : List (List Move)) (walk : ℕ) (progress : Progress) (frames : List Frame)
    (board : Position) (opened : ℕ) : Type 0 where
  pub standing : HoldsAtProgress rule problem progress frames board
  pub left : left_of rule problem progress frames ≡ events_along problem phase 0 paths []
  pub counts : is_help problem.stipulation.form ≡ true → Counts (exactly walk) (untried_at rule problem progress frames) 0 opened

module _ (rule : RuleSet) (problem : Posed) (phase : Phase) (n : ℕ) (frames : List Frame) (board : Position)
    (s : IsBeginning rule problem phase n (reverse frames) board) (m : Move) (lawful : is_legal rule board m ≡ true) where
  -- the frames from the top down
  abbrev old : List Frame
  old = reverse frames

  deep : 0 < length old
  deep = omega (arith, s.long, s.some)

  abbrev h : ℕ
  h = phase_half_moves problem phase

  abbrev p : Position
  p = phase_start problem phase

  abbrev mode : Mode
  mode = mode_of problem

  abbrev game : Game Position Move
  game = game_of rule problem

  -- the half-moves left after the beginning, the position there, and whether it is one move
  abbrev left : ℕ
  left = h - n

  abbrev q : Position
  q = position_after rule board m

  abbrev root : Bool
  root = eqb n 1

  -- what the walk shows by the beginning's last move
  abbrev come : List (List Move)
  come = paths_by rule problem phase n old board m

  -- the positions that it tries there
  abbrev tried : ℕ
  tried = walk_count (legal_moves rule) (position_after rule) left q

  abbrev Begun : Bool → List Frame → Position → ℕ → Type 0
  Begun given new stand opened = HasBegun rule problem phase come tried (begins_at problem phase given) new stand opened

  -- in help play the frames are all that is still to be tried
  counts-on : (given : Bool) (new : List Frame) (opened : ℕ) → is_help problem.stipulation.form ≡ true → opened + to_open rule p new ≡ tried
      → Counts (exactly tried) (untried_at rule problem (begins_at problem phase given) new) 0 opened
  unfolding untried_at untried is_walked_once_by
  counts-on true new opened help e = let helps = no-battle problem.stipulation.form help in rw helps (search rules)
  counts-on false new opened help e = let helps = no-battle problem.stipulation.form help in rw helps (search rules)

  -- none of the paths is to come
  begun-none : (opened : ℕ) → come ≡ [] → (is_help problem.stipulation.form ≡ true → opened ≡ tried) → Begun false old board opened
  unfolding HoldsAtProgress left_of
  begun-none opened none o = record {
    standing = (s.walking, omega arith, refl);
    left = rw (idle-come rule mode p h old s.idle, none) refl;
    counts = λ help. counts-on false old opened help (omega (arith, o help, idle-open rule mode p old s.idle));
  }

  -- the last move doesn't mate where each path ends with it
  come-fails : is_for_mate problem.stipulation.goal ≡ true → seeks_last mode.battle ≡ true → left ≡ 0 → is_mate rule q ≡ false → come ≡ []
  unfolding shown_paths position met_after
  come-fails for last none misses =
      rw none (ap (map (λ line. path old ++ line)) (skipped rule mode board root 1 last (for_mate _ for) m [] misses))

  -- a beginning whose last move doesn't mate where it has to has no path
  pub begun-fails : (opened : ℕ) (after : Position) → opened ≡ 0 → after ≡ board → is_for_mate problem.stipulation.goal ≡ true → seeks_last mode.battle ≡ true
      → left ≡ 0 → is_mate rule q ≡ false → Begun false old after opened
  unfolding walk_count
  begun-fails opened after z stays for last none misses =
      let come = come-fails for last none misses in
      rw stays (begun-none opened come (λ help. search rules))

  -- the move is not followed
  begun-off : (opened : ℕ) → is_followed mode.battle game root left q ≡ false → Begun false old board opened
  unfolding shown_paths
  begun-off opened off = begun-none opened (rw off refl) (λ help.
      absurd (false≢true (sym off ∙ follows-help mode game root left q (no-battle problem.stipulation.form help))))

  -- the move is followed
  abbrev entered : List Frame
  entered = opened_frame m (undo_of rule board m) (walk_length mode.battle mode.variation game left q) ∷ old

  come-entered : is_followed mode.battle game root left q ≡ true
      → come ≡ given_path (is_emitted mode.battle game left q) (path old ++ m ∷ []) ++ to_come rule mode h p entered
  unfolding shown_paths to_come
  come-entered followed =
      let more : eqb (length old) 0 ≡ false = grind (arith, nat_tests, deep) in
      let idle = idle-come rule mode p h old s.idle in
      rw (followed, more, s.long, idle, path-more _ old deep, position-more rule p _ old deep, ← s.walking.board_at, after_start rule q)
      (sym (append-nil _) ∙ turn _ (path old) m _ [] [])

  walking-entered : IsWalking rule h p entered q
  walking-entered = walking-opened rule h p old board m _ deep s.walking lawful
      (omega (arith, walk_length-most game mode.battle mode.variation left q, s.long, s.within))

  opens-entered : (opened : ℕ) → CountsMove rule mode root left q 0 opened → is_help problem.stipulation.form ≡ true
      → opened + to_open rule p entered ≡ tried
  unfolding to_open
  opens-entered opened c help =
      let helps = no-battle problem.stipulation.form help in
      let idle = idle-open rule mode p old s.idle in
      rw (walk_length-help mode game left q helps, idle, position-more rule p _ old deep, ← s.walking.board_at)
      (let one = counts-help rule mode root left q 0 opened helps c in omega (arith, walk_count-start rule left q, at_most_one (eqb left 0), one.0, one.1))

  begun-entered : (opened : ℕ) (given : Bool) → given ≡ is_emitted mode.battle game left q → is_followed mode.battle game root left q ≡ true
      → CountsMove rule mode root left q 0 opened → Begun given entered q opened
  unfolding HoldsAtProgress left_of
  begun-entered opened true g followed c =
      let e : path entered ∷ phase_paths rule problem phase entered ≡ come =
      rw (path-more _ old deep) (sym (come-entered followed ∙ rw (← g) refl)) in
      record {
        standing = (
          walking-entered,
          refl,
          omega (arith, deep),
          ended-reached game mode.battle mode.variation root left q followed (sym g),
        );
        left = ap (λ paths. events_along problem phase 0 paths []) e;
        counts = λ help. counts-on true entered opened help (opens-entered opened c help);
      }
  begun-entered opened false g followed c =
      let e : phase_paths rule problem phase entered ≡ come = sym (come-entered followed ∙ rw (← g) refl) in
      record {
        standing = (walking-entered, omega arith, refl);
        left = ap (λ paths. events_along problem phase 0 paths []) e;
        counts = λ help. counts-on false entered opened help (opens-entered opened c help);
      }

  -- what `enter` leaves
  pub begun-by : (opened opened2 : ℕ) (low given : Bool) (last : List Frame) (after : Position) → opened ≡ 0
      → (is_followed mode.battle game low left q ≡ false → (given ≡ false) × (after ≡ board) × (last ≡ frames))
      → (is_followed mode.battle game low left q ≡ true → (given ≡ is_emitted mode.battle game left q) × (after ≡ q)
      × (last ≡ frames ++ opened_frame m (undo_of rule board m) (walk_length mode.battle mode.variation game left q) ∷ []))
      → CountsMove rule mode low left q opened opened2 → low ≡ root → Begun given (reverse last) after opened2
  begun-by opened opened2 low given last after z unfollowed enters counts lowest =
      elim (cases (is_followed mode.battle game low left q)) [
        | inl off ↦ let x = unfollowed off in rw (x.0, x.1, ap reverse x.2) (begun-off opened2 (rw lowest at off))
        | inr followed ↦
            let x = enters followed in
            rw (x.1, popped _ _ _ x.2) (begun-entered opened2 given x.0 (rw lowest at followed) (rw (z, lowest) at counts))
      ]
