-- One guard tried in the search for a plan.
use Rattle.chess_attacks.proofs.Chess.{Bool, List, Man, Option, Some, arith, bit_at, cases_eq, [], inl, inr, length, other, refl, subst, suc, sym, true, zero, ap, ℕ, ◌+◌, ◌-◌, ◌<◌, ◌==◌, false, ◌∷◌, ◌≡◌, ◌≢◌, ◌≤◌}
use Rattle.std.proofs.Common.{slice_index_or, slice_set}
use Rattle.chess_core.specs.declared.man.Kind.{Kind}
use Rattle.chess_reach.proofs.Holding.{one_spare, paid_post}
use Rattle.chess_reach.specs.Plans.{Arrives, End, Ends}
use Rattle.chess_reach.specs.Reach.{guards}
use Rattle.chess_rules.specs.Play.{rebirth}
use Rattle.chess_reach.specs.declared.guards.Guard.{Guard}
use Rattle.chess_reach.specs.declared.hold.Post.{Post}
use Rattle.chess_reach.specs.declared.hold.Quest.{Quest}
use Rattle.chess_reach.specs.declared.whereabouts.Whereabouts.{Whereabouts}
use Rattle.chess_reach.specs.ties.Guards.{CanEnd, StaysAway, guard_at, is_blocker}
use Rattle.chess_reach.specs.ties.Hold.{DoesGuard, DoesHold, Holds, IsIn, end_at, post_at}
use Rattle.chess_reach.specs.ties.Whereabouts.{has}
use Rattle.chess_reach.specs.ties.Ways.{CanBe}

-- an element doesn't depend on what a missing one would be
pub found_at : {X : Type 0} (xs : List X) (i : ℕ) (d e : X) → i < length xs → slice_index_or xs i d ≡ slice_index_or xs i e
found_at [] i d e lt = absurd (omega (arith, lt))
found_at (x ∷ xs) zero d e lt = refl
found_at (x ∷ xs) (suc i) d e lt = found_at xs i d e (omega (arith, lt))

-- an element that is replaced twice
pub set_again : {X : Type 0} (xs : List X) (i : ℕ) (a b : X) → slice_set (slice_set xs i a) i b ≡ slice_set xs i b
set_again [] i a b = refl
set_again (x ∷ xs) zero a b = refl
set_again (x ∷ xs) (suc i) a b = ap (λ ys. x ∷ ys) (set_again xs i a b)

module _ (q : Quest) (men : List (Option Man)) (ends : Ends) (left : List Post) (w spare theirs i : ℕ) (g : Guard) (is : guard_at q.guards i ≡ g)
    (lt : i < q.count) (h : Holds q men left w spare theirs ends) where
  -- the end of the guard that is tried is among these squares
  abbrev pub IsAmong : Whereabouts → Type 0
  IsAmong x = has g.kind (end_at q ends i).kind (end_at q ends i).square x ≡ true

  the_end : CanEnd g (end_at q ends i)
  the_end = subst (λ x. CanEnd x (end_at q ends i)) is (h.guards i lt)

  the_way : StaysAway q.ending.are_reborn g (end_at q ends i)
  the_way = subst (λ x. StaysAway q.ending.are_reborn x (end_at q ends i)) is (h.away i lt)

  the_post : IsIn g (post_at left i) (end_at q ends i)
  the_post = subst (λ x. IsIn x (post_at left i) (end_at q ends i)) is (h.inside i lt)

  -- its post has it
  pub in_post : IsAmong (post_at left i).squares
  in_post = the_post.on

  pub on_board : (end_at q ends i).square < 64
  on_board = the_end.small

  -- what is said of ends within the moves is said of its end
  pub within_moves : {Q : Type 0} (x : Whereabouts)
      → ((e : End) → CanEnd g e → (post_at left i).moves ≤ e.moves → e.moves ≤ (post_at left i).moves + spare → has g.kind e.kind e.square x ≡ true → Q) → IsAmong x → Q
  within_moves x kept on = kept (end_at q ends i) the_end the_post.paid (one_spare q men ends left spare i h.paid lt) on

  -- the same of what is said of the end itself
  pub kept_in : (x : Whereabouts) (p : Post)
      → ((e : End) → CanEnd g e → (post_at left i).moves ≤ e.moves → e.moves ≤ (post_at left i).moves + spare → has g.kind e.kind e.square x ≡ true → IsIn g p e)
      → IsAmong x → IsIn (guard_at q.guards i) p (end_at q ends i)
  kept_in x p kept on = subst (λ x. IsIn x p (end_at q ends i)) (sym is)
      (kept (end_at q ends i) the_end the_post.paid (one_spare q men ends left spare i h.paid lt) on)

  -- the same of a guard that checks
  pub arrives_within : {Q : Type 0} (sc : Bool) (x : Whereabouts)
      → ((e : End) → CanEnd g e → StaysAway q.ending.are_reborn g e → (post_at left i).moves ≤ e.moves → e.moves ≤ (post_at left i).moves + spare
      → has g.kind e.kind e.square x ≡ true → Arrives sc e → Q)
      → IsAmong x → Arrives sc (end_at q ends i) → Q
  arrives_within sc x kept on arrives = kept (end_at q ends i) the_end the_way the_post.paid (one_spare q men ends left spare i h.paid lt) on arrives

  pub arrives_in : (sc : Bool) (x : Whereabouts) (p : Post)
      → ((e : End) → CanEnd g e → StaysAway q.ending.are_reborn g e → (post_at left i).moves ≤ e.moves → e.moves ≤ (post_at left i).moves + spare
      → has g.kind e.kind e.square x ≡ true → Arrives sc e
      → IsIn g p e) → IsAmong x → Arrives sc (end_at q ends i) → IsIn (guard_at q.guards i) p (end_at q ends i)
  arrives_in sc x p kept on arrives = subst (λ x. IsIn x p (end_at q ends i)) (sym is)
      (kept (end_at q ends i) the_end the_way the_post.paid (one_spare q men ends left spare i h.paid lt) on arrives)

  -- from where it guards
  pub from_there : (z : ℕ) (x : Whereabouts)
      → ((j : Kind) (s : ℕ) → s < 64 → CanBe g.kind j → s ≢ q.king → guards q.colour j s z ≡ true → has g.kind j s x ≡ true) → DoesGuard q ends z i → IsAmong x
  from_there z x clause (off, does) = clause _ _ the_end.small the_end.be off does

  -- from where it holds
  pub held_there : (z : ℕ) (x : Whereabouts)
      → ((j : Kind) (s : ℕ) → s < 64 → CanBe g.kind j → s ≢ q.king → guards q.colour j s z ≡ true → has g.kind j s x ≡ true)
      → ((j : Kind) (t : ℕ) → CanBe g.kind j → q.ending.are_reborn ≡ true → t ≢ z → rebirth q.colour j z ≡ Some t → guards q.colour j t z ≡ true → has g.kind j z x ≡ true)
      → DoesHold q ends z i → IsAmong x
  held_there z x clause births (inl does) = from_there z x clause does
  held_there z x clause births (inr d) = subst (λ s. has g.kind (end_at q ends i).kind s x ≡ true) (sym d.there)
      (births (end_at q ends i).kind d.home the_end.be d.lives d.off d.rebirth d.guards)

  -- its post is narrowed
  pub narrowed_post : (p : Post) → i < length left → IsIn (guard_at q.guards i) p (end_at q ends i) → (post_at left i).moves ≤ p.moves
      → Holds q men (slice_set left i p) w (spare - (p.moves - (post_at left i).moves)) theirs ends
  narrowed_post p room inside more = paid_post q men ends left w spare theirs i p h lt room inside more

-- one guard more doesn't hold z
pub none_next : (q : Quest) (ends : Ends) (z i : ℕ) → ((m : ℕ) → m < i → DoesHold q ends z m → ⊥) → (DoesHold q ends z i → ⊥)
    → (m : ℕ) → m < i + 1 → DoesHold q ends z m → ⊥
none_next q ends z i before here m lt does = elim (cases_eq m i) [
  | inl same ↦ here (subst (λ k. DoesHold q ends z k) same does)
  | inr off ↦ before m (omega (arith, lt, off)) does
]

-- where no guard holds z, a blocker is there
pub blocker_there : (q : Quest) (men : List (Option Man)) (ends : Ends) (left : List Post) (w spare theirs z : ℕ) → Holds q men left w spare theirs ends
    → z < 64 → (bit_at w z == 1) ≡ true → ((m : ℕ) → m < q.count → DoesHold q ends z m → ⊥)
    → (s : ℕ) × (s < 64) × (is_blocker men (other q.colour) s ≡ true) × ((ends s).square ≡ z) × ((ends s).taken ≡ false)
blocker_there q men ends left w spare theirs z h small on none = elim (h.holds z small on) [
  | inl (m, lt, does) ↦ absurd (none m lt does)
  | inr blocker ↦ blocker
]
