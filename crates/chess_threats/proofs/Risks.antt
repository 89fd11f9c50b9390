-- Bitboards of risks: where a defender's arrival might allow mate.
use Rattle.chess_threats.proofs.Chess.{AreApproached, AreApproaches, AreArrivals, AreGuardsWithout, AreWeak, Colour, KingZone, Grasshopper, IsCheckWord, IsHarmless, IsNoCheck, IsReached, IsUnguarded, IsWeak, Kind, King, List, Man, Option, Pawn, Position, Risk, KingAttack, ap, arith, bit_and, bit_at, bit_or, false, false_by, false≢true, gait_of, inl, is_hopper, king_is_no_pawn, may_arrive, no_pawn_arrives, not, occupied_squares, off_left, off_right, other, reaches_as, refl, rules, same_kind, same_kind-true, squares, sym, true, true_from_ne_false, word, ℕ, IsArrival, ◌<◌, ◌==◌, ◌^◌, ◌∙◌, ◌≡◌, ByKind, value_for}
use Rattle.chess_threats.specs.declared.guards_without.Guards.{Guards}
use Rattle.chess_flights.proofs.Hurdles.{on_one, reached_is}
use Rattle.chess_flights.proofs.KindByKind.{HoldsOf, man_is, of_all}
use Rattle.chess_flights.proofs.Bitboards.{on_both, none_at, none_on}
use Rattle.chess_flights.proofs.Standing.{no_hopper}

-- where a man may go
pub open_arrivals : (d : ℕ) (x : Man) (s w : ℕ) → ((p : Position) (t : ℕ) → t < 64 → may_arrive p x s t ≡ true → (bit_at w t == 1) ≡ true) → AreArrivals d x s w
open_arrivals d x s w ways = record { inside = λ t i. ways i.position t i.small i.goes }

-- a king gives no check off the springboards
pub king_targets : (x : Man) (g : KingZone) (checks t : ℕ) → same_kind x.kind King ≡ true → (bit_at g.springboards t == 1) ≡ false → IsNoCheck g checks x t
king_targets x g checks t king unsprung = search (rules, king_is_no_pawn, no_pawn_arrives)

-- a pawn gives check as a pawn, or as the man to which it promotes
pub pawn_targets : (x : Man) (g : KingZone) (checks t : ℕ) → (bit_at (bit_or (bit_or checks g.promotions) g.springboards) t == 1) ≡ false
    → IsNoCheck g checks x t
pawn_targets x g checks t off = search (rules, off_left, off_right)

-- a piece checks from the check squares
pub piece_targets : (x : Man) (g : KingZone) (checks t : ℕ) → same_kind x.kind Pawn ≡ false → (bit_at (bit_or checks g.springboards) t == 1) ≡ false
    → IsNoCheck g checks x t
piece_targets x g checks t piece off = search (rules, no_pawn_arrives, off_left, off_right)

-- for `risk_of_going`: one attacker goes, and a square next to the king or the king's own isn't guarded
pub unguarded_at : (v : KingAttack) (g : KingZone) (s o : ℕ) (gs : Guards) (a : ℕ) → AreGuardsWithout v s (bit_or (bit_or g.near g.captures) o) gs
    → ((bit_at v.hurdles a == 1) ≡ true → (bit_at gs.ridden a == 1) ≡ false) → (f : ℕ)
    → (bit_at (bit_or (bit_or g.near g.captures) o) f == 1) ≡ true → (bit_at gs.guarded f == 1) ≡ false → IsUnguarded v s a f
unguarded_at v g s o gs a are shut f near unseen = record { region = _; near = near; guards = gs; are = are; shut = shut; off = unseen }

-- a man that never gives check and opens nothing
idly : (v : KingAttack) (g : KingZone) (checks : ℕ) (r : Risk) (x : Man) (s : ℕ) → ((t : ℕ) → IsArrival v.hurdles x s t → IsNoCheck g checks x t)
    → (bit_at g.lines s == 1) ≡ false → IsHarmless v g checks r x s
idly v g checks r x s calm hidden =
    record { mild = λ a b low inside off. record { each = λ t i there. inl (record { check = calm t i; covered = inl hidden }) } }

-- for `risk_from`: a man that goes to no target and opens nothing
pub harmless_quietly : (v : KingAttack) (g : KingZone) (checks : ℕ) (x : Man) (s reached targets : ℕ) → AreArrivals v.hurdles x s reached
    → ((t : ℕ) → t < 64 → (bit_at reached t == 1) ≡ true → (bit_at targets t == 1) ≡ false → IsNoCheck g checks x t)
    → targets ≡ 0 → (bit_at g.lines s == 1) ≡ false → IsHarmless v g checks (record { critical = 0; lines = 0 }) x s
harmless_quietly v g checks x s reached targets are quiet none =
    idly v g checks _ x s (λ t i. quiet t i.small (are.inside t i) (false_by _ (none_at targets t none)))

-- for `suspect_squares`: a man that opens nothing, and a pawn that comes to no target, by the squares from
-- which it might
pub pawn_idly : (v : KingAttack) (g : KingZone) (checks : ℕ) (x : Man) (s w : ℕ) → same_kind x.kind Pawn ≡ true
    → AreApproaches (record { colour = x.colour; kind = Pawn }) (bit_or checks g.promotions) w → s < 64 → (bit_at (bit_or g.lines w) s == 1) ≡ false
    → g.springboards ≡ 0 → IsHarmless v g checks (record { critical = 0; lines = 0 }) x s
pawn_idly v g checks x s w pawn before small off none =
    let come = rw (man_is x x.colour Pawn refl (same_kind-true x.kind Pawn pawn)) at before in
    let idle = off_right g.lines w s off in
    let joined = on_one (bit_or checks g.promotions) g.springboards in
    idly v g checks _ x s (λ t i. pawn_targets x g checks t
    (grind (arith, false_by, joined t, none_at, idle, come.approach i.position s t small i.small i.goes))) (off_left g.lines w s off)

-- for men that are harmless and give no check now
pub weak_is : (v : KingAttack) (g : KingZone) (r : Risk) (x : Man) (checks s : ℕ) → IsCheckWord v.hurdles g.king x checks
    → (is_hopper (gait_of x.kind) ≡ false → (bit_at checks s == 1) ≡ false) → IsHarmless v g checks r x s → IsWeak v g r x s
weak_is v g r x checks s word off harmless = grind (arith, word, off, harmless)

-- for `check_now`
pub none_checks : (checks squares s : ℕ) → not (bit_and checks squares == 0) ≡ false → (bit_at squares s == 1) ≡ true → (bit_at checks s == 1) ≡ false
none_checks checks squares s none on = false_by _ (λ h.
    none_on (bit_and checks squares) s (true_from_ne_false _ (λ some. false≢true (sym none ∙ ap not some))) (on_both checks squares s h on))

-- for check squares computed from the king's square
pub check_word : (d k w : ℕ) (x : Man) → d < 2 ^ 64 → same_kind x.kind Grasshopper ≡ false
    → ((men : List (Option Man)) → d ≡ occupied_squares men → w ≡ word (reaches_as men (other x.colour) x.kind k)) → IsCheckWord d k x w
check_word d k w x fits kind h = record {
  hops = λ hop. absurd (false≢true (sym (no_hopper x.kind kind) ∙ hop));
  inside = λ plain t small reached. (reached_is d (record { colour = other x.colour; kind = x.kind }) k w fits h).inside t small reached;
}

-- for check squares computed from the lines of the king's square
pub check_lines : (d k w : ℕ) (x : Man) (j : Kind) → same_kind x.kind j ≡ true → is_hopper (gait_of j) ≡ false
    → ((c : Colour) → IsReached d (record { colour = c; kind = j }) k w) → IsCheckWord d k x w
check_lines d k w x j kind plain h = record {
  hops = λ hop. absurd (false≢true (sym plain ∙ (rw (same_kind-true x.kind j kind) at hop)));
  inside = λ plain t small reached. (h (other x.colour)).inside t small (rw (same_kind-true x.kind j kind) at reached);
}

-- for a grasshopper's check squares: those from which it might come
pub check_hops : (d k w : ℕ) (x : Man) → same_kind x.kind Grasshopper ≡ true → AreApproached x k w → IsCheckWord d k x w
check_hops d k w x kind are = search (rules, same_kind-true)

module _ (v : KingAttack) (g : KingZone) where
  -- for a greater risk
  pub weak_too : (q r : Risk) (s : ℕ) (x : Man) → ((t : ℕ) → (bit_at r.critical t == 1) ≡ false → (bit_at q.critical t == 1) ≡ false)
      → ((t : ℕ) → (bit_at r.lines t == 1) ≡ false → (bit_at q.lines t == 1) ≡ false) → IsWeak v g q x s → IsWeak v g r x s
  weak_too q r s x critical lines h = record {
    weak = λ a b low small off. h.weak a b low small (record { lines = λ on. lines a (off.lines on); critical = critical b off.critical });
  }

  -- for `risk_of_all`
  pub all_weak : (risks : ByKind Risk) (r : Risk) → ((k : Kind) → HoldsOf v.men (λ x s. IsWeak v g (value_for risks k) x s) k)
      → ((k : Kind) (t : ℕ) → (bit_at (value_for risks k).critical t == 1) ≡ true → (bit_at r.critical t == 1) ≡ true)
      → ((k : Kind) (t : ℕ) → (bit_at (value_for risks k).lines t == 1) ≡ true → (bit_at r.lines t == 1) ≡ true) → AreWeak v g r
  all_weak risks r each critical lines = record {
    weak = of_all v.men (λ x s. IsWeak v g r x s) (λ k s small on. weak_too (value_for risks k) r s _
        (λ t off. false_by _ (λ on. false≢true (sym off ∙ critical k t on))) (λ t off. false_by _ (λ on. false≢true (sym off ∙ lines k t on)))
        (each k s small on));
  }
