-- What the walks below a first move show: the threats after Black has passed, and the continuations after a reply.
use Rattle.pop_tries.proofs.Words.{Battle, Bool, Game, List, Some, arith, below_reply, false, least_moves, suc, sym, true, zero, ℕ, ◌+◌, ◌<◌, ◌∙◌, ◌≡◌, ◌≤◌, refl}
use Rattle.std.proofs.Common.{◌*◌}
unfoldable use Rattle.pop_battle.specs.ties.Values.{value}
use Rattle.pop_battle.specs.ties.Values.{attacker_to_move}
use Rattle.pop_walk.specs.declared.mode.Mode.{Mode}
unfoldable use Rattle.pop_walk.specs.ties.Walk.{is_followed, shown_length, shown_paths, walk_length}
use Rattle.pop_walk.proofs.GoingOn.{walk_length-most}
use Rattle.pop_walk.proofs.Trees.{as_nodes, by_test, flat-same, halves, nodes_below-set, shown_paths-zero}
use Rattle.pop_tries.proofs.ThreatLengths.{halves-white, walked_length}

module _ {P M : Type 0} (game : Game P M) (mode : Mode) (battle : Battle) (fought : mode.battle ≡ Some battle) where
  -- a walk that begins with a move of White tests it in any frame
  white_first : (k t : ℕ) (p : P) (ms : List M) → attacker_to_move battle (t + 1) ≡ true
      → shown_paths mode game true (suc k) (suc t) p ms ≡ shown_paths mode game false (suc k) (suc t) p ms
  white_first k t p ms s =
      let same : (m : M) → is_followed mode.battle game true t (game.after p m) ≡ is_followed mode.battle game false t (game.after p m) =
      λ m. by_test game mode battle fought true t (game.after p m) refl ∙ sym (by_test game mode battle fought false t (game.after p m) s) in
      as_nodes game mode battle fought true k t p ms ∙ flat-same _ _ ms (λ m. rw (same m) refl) ∙ sym (as_nodes game mode battle fought false k t p ms)

  -- a walk that begins with a move of White, or with none, shows the same in any frame
  any_frame : (h length : ℕ) (p : P) (ms : List M) → (0 < length → attacker_to_move battle length ≡ true)
      → shown_paths mode game true h length p ms ≡ shown_paths mode game false h length p ms
  unfolding shown_paths
  any_frame h zero p ms white = shown_paths-zero game mode true h p ms ∙ sym (shown_paths-zero game mode false h p ms)
  any_frame zero (suc t) p ms white = refl
  any_frame (suc k) (suc t) p ms white =
      let up : suc t ≡ t + 1 = omega arith in
      white_first k t p ms (rw up at (white (omega arith)))

  white_walks : (n h : ℕ) (r : P) → attacker_to_move battle h ≡ true → h ≤ 2 * n → value battle game h r ≡ true → (b : Bool) → game.goal r ≡ b
      → 0 < walk_length mode.battle mode.variation game h r → attacker_to_move battle (walk_length mode.battle mode.variation game h r) ≡ true
  unfolding walk_length shown_length
  white_walks n h r s most v true g some = absurd (grind (arith, fought, g))
  white_walks n h r s most v false g some =
      let room = walk_length-most game mode.battle mode.variation h r in
      let long : walk_length mode.battle mode.variation game h r ≡ halves battle (least_moves battle game n r) =
      rw fought (walked_length game battle mode.variation n h r s (omega (arith, some, room)) most g v) in
      rw long (halves-white battle (least_moves battle game n r) (rw long at some))

  -- The walk below a reply, and the walk where Black has passed, show what stands below a reply.
  pub below_walked : (n h : ℕ) (r : P) → attacker_to_move battle h ≡ true → h ≤ 2 * n → value battle game h r ≡ true
      → shown_paths mode game true h (walk_length mode.battle mode.variation game h r) r (game.moves r) ≡ below_reply battle game n mode.variation h r
  below_walked n h r s most v =
      any_frame h (walk_length mode.battle mode.variation game h r) r (game.moves r) (white_walks n h r s most v (game.goal r) refl)
      ∙ nodes_below-set game mode battle fought n h r s most v
