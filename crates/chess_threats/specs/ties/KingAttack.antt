-- King attacks: the men around a king, and what they reach over hurdles, the squares of all men but the
-- king (own).
use Rattle.std.specs.Prelude.{◌≡◌, ◌≢◌, ◌<◌, ◌==◌, ◌⊎◌, ◌+◌, ◌-◌, ◌&&◌, ℕ, Bool, true, false, not, List, Option, Some, is_some}
use Rattle.std.specs.Int.{bit_at}
use Rattle.std.specs.Int.Bits.{bit_and}
use Rattle.std.specs.List.{list_any}
use Rattle.chess_core.specs.Castling.{has_unmoved}
use Rattle.chess_core.specs.Position.{Position, is_fairy, is_man, is_of_colour, king_square, man_on, may_promote, other, same_kind}
use Rattle.chess_core.specs.Squares.{file_of}
use Rattle.chess_core.specs.Steps.{gait_of, is_hopper, is_leaper, queen_steps, straight_steps}
use Rattle.chess_core.specs.declared.man.Colour.{Colour}
use Rattle.chess_core.specs.declared.man.Kind.{Kind}
use Rattle.chess_core.specs.declared.man.Kind.TheVariants.{King, Rook, Bishop, Pawn, Nightrider}
use Rattle.chess_core.specs.declared.man.Man.{Man}
use Rattle.chess_core.specs.ties.Words.{side_of}
use Rattle.chess_flights.specs.declared.attackers.Attackers.{Attackers}
use Rattle.chess_threats.specs.declared.king_zone.KingZone.{KingZone}
use Rattle.chess_threats.specs.declared.guards_without.Guards.{Guards}
use Rattle.chess_threats.specs.declared.risk.Risk.{Risk}
use Rattle.chess_threats.specs.declared.risk.RiskPart.{RiskPart}
use Rattle.chess_threats.specs.declared.risk.RiskPart.TheVariants.{Critical, Lines}
use Rattle.chess_threats.specs.declared.king_attack.KingAttack.{KingAttack}
use Rattle.chess_threats.specs.declared.king_zone.HopTargets.{HopTargets}
use Rattle.chess_threats.specs.declared.steps.StepCache.{StepCache}
use Rattle.chess_flights.specs.ties.Attackers.{AreAttackers, IsAttacker, is_promotion}
use Rattle.chess_flights.specs.ties.ByKind.{value_for}
use Rattle.chess_threats.specs.declared.lasting_flights.OpenTargets.{OpenTargets}
use Rattle.chess_flights.specs.ties.Approaches.{AreApproached, IsLeft, MayBecome, ArePromotions}
use Rattle.chess_threats.specs.ties.LastingFlights.{KeepsOne}
use Rattle.chess_rules.specs.Play.{rebirth}
use Rattle.chess_attacks.specs.Reaches.{leaps, reaches_as}
use Rattle.chess_attacks.specs.RuleSet.{RuleSet, captures_are_reborn, like_men_paralyse}
use Rattle.chess_attacks.specs.ties.Lines.{is_on_some}
use Rattle.chess_rules.specs.ties.Targets.{is_promoting, may_arrive}
use Rattle.chess_flights.specs.ties.Guards.{reached_over, IsNear, IsReached, is_rider, IsAttackedOver}

-- the hurdles are men of either side, without the king on k
pub record AreHurdles (own enemies k d : ℕ) : Type 0 where
  pub men : (e : ℕ) → e < 64 → (bit_at d e == 1) ≡ true
      → (((bit_at own e == 1) ≡ true) ⊎ ((bit_at enemies e == 1) ≡ true)) × (k ≢ e)

-- the hurdles of v are men of either side, without its king
pub record IsKingAttack (v : KingAttack) : Type 0 where
  pub hurdles : AreHurdles v.own v.enemies v.king v.hurdles

-- a man on e, if it isn't the king on k, is one of the hurdles
abbrev pub IsHurdle : ℕ → ℕ → ℕ → ℕ → ℕ → Type 0
IsHurdle own enemies k d e =
    ((bit_at own e == 1) ≡ true) ⊎ ((bit_at enemies e == 1) ≡ true) → k ≢ e
    → (bit_at d e == 1) ≡ true

-- all men but the king are hurdles
pub record IsWhole (v : KingAttack) : Type 0 where
  pub hurdles : (e : ℕ) → e < 64 → IsHurdle v.own v.enemies v.king v.hurdles e

-- all men but the king and a man on s are hurdles
pub record IsWholeBut (v : KingAttack) (s : ℕ) : Type 0 where
  pub hurdles : (e : ℕ) → e < 64 → s ≢ e → IsHurdle v.own v.enemies v.king v.hurdles e

-- the rook in the corner has moved, or a man of the colour is on the square beside the king, or w holds
-- that square
abbrev pub IsShut : Position → Colour → ℕ → ℕ → ℕ → Type 0
IsShut p c w corner next =
    (has_unmoved p.unmoved corner ≡ false)
    ⊎ (is_of_colour (man_on p.men next) c ≡ true) ⊎ (next < 64 → (bit_at w next == 1) ≡ true)

-- the colour's king has moved, or w holds the squares to which a rook may castle
pub record AreCastlingSquares (p : Position) (c : Colour) (w : ℕ) : Type 0 where
  pub sides : (s : ℕ) → s < 64 → is_man (man_on p.men s) c King ≡ true
      → (has_unmoved p.unmoved s ≡ false)
      ⊎ (IsShut p c w (s + 3) (s + 1) × IsShut p c w (s - 4) (s - 1))

-- z on s may be captured somewhere and reborn on r; a pawn is captured on its file
pub record IsHome (z : Man) (s r : ℕ) : Type 0 where
  pub square : ℕ
  pub file : same_kind z.kind Pawn ≡ true → file_of square ≡ file_of s
  pub reborn : rebirth z.colour z.kind square ≡ Some r

-- w holds the home squares of the colour's men of this kind
pub record AreHomesOf (men : List (Option Man)) (c : Colour) (k : Kind) (w : ℕ) : Type 0 where
  pub homes : (s r : ℕ) (z : Man) → s < 64 → man_on men s ≡ Some z → z.colour ≡ c → z.kind ≡ k
      → IsHome z s r → (bit_at w r == 1) ≡ true

-- w holds the home squares of all the colour's men
pub record AreHomes (men : List (Option Man)) (c : Colour) (w : ℕ) : Type 0 where
  pub homes : (s r : ℕ) (z : Man) → s < 64 → man_on men s ≡ Some z → z.colour ≡ c → IsHome z s r
      → (bit_at w r == 1) ≡ true

-- w holds the squares of the side to move; in Circe also the squares of all men and the home squares of its
-- own men
pub record AreClosed (rule : RuleSet) (p : Position) (w : ℕ) : Type 0 where
  pub own : (s : ℕ) → s < 64 → is_of_colour (man_on p.men s) p.turn ≡ true
      → (bit_at w s == 1) ≡ true
  pub others : captures_are_reborn rule ≡ true → (s : ℕ) → s < 64
      → is_some (man_on p.men s) ≡ true → (bit_at w s == 1) ≡ true
  pub homes : captures_are_reborn rule ≡ true → AreHomes p.men p.turn w

-- v describes the position, with the defender to move
pub record IsKingAttackOf (rule : RuleSet) (p : Position) (v : KingAttack) : Type 0 where
  pub colour : v.men.colour ≡ other p.turn
  pub men : AreAttackers p.men v.men
  pub own : v.own ≡ side_of p.men p.turn
  pub enemies : v.enemies ≡ side_of p.men (other p.turn)
  pub king : Some v.king ≡ king_square p.men p.turn
  pub kings : (s : ℕ) → s < 64 → is_man (man_on p.men s) (other p.turn) King ≡ true
      → (bit_at v.men.squares.kings s == 1) ≡ true
  pub castled : AreCastlingSquares p (other p.turn) v.castled
  pub closed : AreClosed rule p v.closed
  pub promotions : (k : Kind) → may_promote p k ≡ true
      → is_promotion v.men.fairy_promotions k ≡ true

-- a man is on a square of w other than t
pub record IsHopped (men : List (Option Man)) (t w : ℕ) : Type 0 where
  pub square : ℕ
  pub small : square < 64
  pub on : (bit_at w square == 1) ≡ true
  pub apart : square ≢ t
  pub stands : is_some (man_on men square) ≡ true

-- w holds the springboards of t: on any board, a hopper reaches t only over a man on one of them
pub record AreSpringboards (a : Attackers) (t w : ℕ) : Type 0 where
  pub sprung : (men : List (Option Man)) (q : ℕ) (z : Man) → IsAttacker a z q
      → is_hopper (gait_of z.kind) ≡ true → reaches_as men z.colour z.kind q t ≡ true
      → IsHopped men t w

-- no man but one on k is on a square of w, and none of these squares is closed
pub record AreFree (v : KingAttack) (k w : ℕ) : Type 0 where
  pub own : (h : ℕ) → (bit_at w h == 1) ≡ true → h < 64 → h ≢ k → (bit_at v.own h == 1) ≡ false
  pub enemies : (h : ℕ) → (bit_at w h == 1) ≡ true → h < 64 → h ≢ k
      → (bit_at v.enemies h == 1) ≡ false
  pub closed : (h : ℕ) → (bit_at w h == 1) ≡ true → h < 64 → h ≢ k
      → (bit_at v.closed h == 1) ≡ false

-- w holds the springboards of t, and these are free
pub record IsUnhopped (v : KingAttack) (k t w : ℕ) : Type 0 where
  pub springboards : ℕ
  pub are : AreSpringboards v.men t springboards
  pub free : AreFree v k springboards
  pub within : (h : ℕ) → (bit_at springboards h == 1) ≡ true → (bit_at w h == 1) ≡ true

-- wherever the defender goes, except to critical squares, another square of w remains; if an enemy is on t,
-- x arrives there only as a recapture
pub record LeavesOne (w enemies critical : ℕ) (x : Man) (t : ℕ) : Type 0 where
  pub left : (b : ℕ) → b < 64 → (bit_at critical b == 1) ≡ false
      → ((bit_at enemies t == 1) ≡ true → b ≡ t)
      → (f : ℕ) × IsLeft w x t f × (f ≢ b)

-- after a man has left s and the king has left k, w holds the remaining hurdles, and the closed squares if
-- an enemy is on one
pub record AreLaterHurdles (v : KingAttack) (k s w : ℕ) : Type 0 where
  pub hurdles : (e : ℕ) → e < 64 → (bit_at v.hurdles e == 1) ≡ true → e ≢ s → e ≢ k
      → (bit_at w e == 1) ≡ true
  pub closed : (e : ℕ) → e < 64 → (bit_at v.closed e == 1) ≡ true → e ≢ k
      → bit_and v.closed v.enemies ≢ 0 → (bit_at w e == 1) ≡ true

-- nobody is on k, and apart from f and t men are only on squares of d and on b
pub record AreStanding (men : List (Option Man)) (d k b t f : ℕ) : Type 0 where
  pub stand : (h : ℕ) → h < 64 → h ≢ f → h ≢ t → is_some (man_on men h) ≡ true
      → (h ≢ k) × (((bit_at d h == 1) ≡ true) ⊎ (h ≡ b))

-- f is neither b nor next to b, unless b is k
pub record IsApart (k f b : ℕ) : Type 0 where
  pub elsewhere : f ≢ b
  pub beside : list_any (leaps f b) queen_steps ≡ true → b ≡ k

-- after x has arrived on t and the defender on b, f remains of w: neither is on f, and x doesn't reach it
pub record IsUntaken (d k w : ℕ) (x : Man) (t b f : ℕ) : Type 0 where
  pub small : f < 64
  pub on : (bit_at w f == 1) ≡ true
  pub off : f ≢ t
  pub elsewhere : f ≢ b
  pub unreached : (men : List (Option Man)) → AreStanding men d k b t f
      → reaches_as men x.colour x.kind t f ≡ false

-- wherever the defender goes, except to critical squares, a square of w remains; if an enemy is on t, x
-- arrives there only as a recapture
pub record LeavesUntaken (d k w enemies critical : ℕ) (x : Man) (t : ℕ) : Type 0 where
  pub left : (b : ℕ) → b < 64 → (bit_at critical b == 1) ≡ false
      → ((bit_at enemies t == 1) ≡ true → b ≡ t) → (f : ℕ) × IsUntaken d k w x t b f

-- x may go from s to t; a piece other than a hopper goes over the hurdles
pub record IsArrival (d : ℕ) (x : Man) (s t : ℕ) : Type 0 where
  pub small : t < 64
  pub position : Position
  pub goes : may_arrive position x s t ≡ true
  pub reaches : same_kind x.kind Pawn ≡ false → is_hopper (gait_of x.kind) ≡ false
      → reached_over d x s t ≡ true

-- w holds each arrival square of x from s
pub record AreArrivals (d : ℕ) (x : Man) (s w : ℕ) : Type 0 where
  pub inside : (t : ℕ) → IsArrival d x s t → (bit_at w t == 1) ≡ true

-- x on t gives no check, promoted or not, and is no springboard for a hopper's check; a king itself
-- never gives check
pub record IsNoCheck (g : KingZone) (checks : ℕ) (x : Man) (t : ℕ) : Type 0 where
  pub off : same_kind x.kind King ≡ false → (bit_at checks t == 1) ≡ false
  pub unsprung : (bit_at g.springboards t == 1) ≡ false
  pub promoted : is_promoting x t ≡ true → (bit_at g.promotions t == 1) ≡ false

-- w holds each square from which x checks the king on k: a hopper on some board, other men over the hurdles
pub record IsCheckWord (d k : ℕ) (x : Man) (w : ℕ) : Type 0 where
  pub hops : is_hopper (gait_of x.kind) ≡ true → AreApproached x k w
  pub inside : is_hopper (gait_of x.kind) ≡ false → (t : ℕ) → t < 64
      → reached_over d (record { colour = other x.colour; kind = x.kind }) k t ≡ true
      → (bit_at w t == 1) ≡ true

-- the squares of a risk: its critical squares, or its lines
abbrev pub part_of : RiskPart → Risk → ℕ
part_of Critical r = r.critical
part_of Lines r = r.lines

-- the defender leaves a, which is a hurdle on none of the lines, and goes to b, which isn't critical
pub record IsOff (d : ℕ) (r : Risk) (a b : ℕ) : Type 0 where
  pub lines : (bit_at d a == 1) ≡ true → (bit_at r.lines a == 1) ≡ false
  pub critical : (bit_at r.critical b == 1) ≡ false

-- what attackers near the region reach after the one on s has left
pub record AreGuardsWithout (v : KingAttack) (s region : ℕ) (g : Guards) : Type 0 where
  pub hurdles : ℕ
  pub kept : (e : ℕ) → e < 64 → (bit_at hurdles e == 1) ≡ true
      → ((bit_at v.hurdles e == 1) ≡ true) × (s ≢ e)
  pub rides : (q : ℕ) (z : Man) → IsAttacker v.men z q → s ≢ q → is_rider z.kind ≡ true
      → IsNear z q region → IsReached hurdles z q g.ridden
  pub guards : (q : ℕ) (z : Man) → IsAttacker v.men z q → s ≢ q
      → is_hopper (gait_of z.kind) ≡ false → IsNear z q region → IsReached hurdles z q g.guarded

-- after the attacker on s has left, none of the others reaches t, and the defender that leaves a opens no
-- line to it
pub record IsUnguarded (v : KingAttack) (s a t : ℕ) : Type 0 where
  pub region : ℕ
  pub near : (bit_at region t == 1) ≡ true
  pub guards : Guards
  pub are : AreGuardsWithout v s region guards
  pub shut : (bit_at v.hurdles a == 1) ≡ true → (bit_at guards.ridden a == 1) ≡ false
  pub off : (bit_at guards.guarded t == 1) ≡ false

-- after an attacker goes from s to t, where it is x, and the defender from a to b, a square of the king
-- zone remains, and no other man hops over x
pub record IsFlight (v : KingAttack) (g : KingZone) (x : Man) (s a b t : ℕ) : Type 0 where
  pub unsprung : (q : ℕ) (z : Man) → IsAttacker v.men z q → s ≢ q
      → is_hopper (gait_of z.kind) ≡ true → (bit_at g.hops t == 1) ≡ false
  pub hurdles : ℕ
  pub are : AreLaterHurdles v g.king s hurdles
  pub square : ℕ
  pub left : IsUntaken hurdles g.king g.near x t b square
  pub unguarded : IsUnguarded v s a square

-- the king captures x on t
pub record IsCaptured (v : KingAttack) (g : KingZone) (s a t : ℕ) : Type 0 where
  pub on : (bit_at g.captures t == 1) ≡ true
  pub unguarded : IsUnguarded v s a t

-- x on t checks on no board, is no springboard for a hopper's check, and no other attacker checks
pub record IsCalm (v : KingAttack) (g : KingZone) (x : Man) (s a t : ℕ) : Type 0 where
  pub off : (men : List (Option Man)) → reaches_as men x.colour x.kind t g.king ≡ false
  pub unsprung : (bit_at g.springboards t == 1) ≡ false
  pub covered : IsUnguarded v s a g.king

-- the king captures x on t, or whatever x becomes there, a flight remains or it gives no check
abbrev pub LeavesFlight : KingAttack → KingZone → Man → ℕ → ℕ → ℕ → ℕ → Type 0
LeavesFlight v g x s a b t =
    IsCaptured v g s a t
    ⊎ ((z : Man) → MayBecome v.men.fairy_promotions x t z
    → IsFlight v g z s a b t ⊎ IsCalm v g z s a t)

-- x's arrival on t doesn't mate: t isn't one of the targets and no other attacker checks, or a flight
-- remains, or the king captures x, or x gives no check
abbrev pub IsMet : KingAttack → KingZone → Man → ℕ → ℕ → ℕ → ℕ → ℕ → Type 0
IsMet v g x s targets a b t =
    ((bit_at v.enemies t == 1) ≡ true → b ≡ t)
    → (((bit_at targets t == 1) ≡ false) × IsUnguarded v s a g.king) ⊎ LeavesFlight v g x s a b t

-- x doesn't check from t, lets no hopper check, and uncovers no check
pub record IsQuiet (v : KingAttack) (g : KingZone) (checks : ℕ) (x : Man) (s a t : ℕ) : Type 0 where
  pub check : IsNoCheck g checks x t
  pub covered : ((bit_at g.lines s == 1) ≡ false) ⊎ IsUnguarded v s a g.king

-- wherever x goes from s, it gives no check or leaves a flight
pub record IsMild (v : KingAttack) (g : KingZone) (checks : ℕ) (x : Man) (s a b : ℕ) : Type 0 where
  pub each : (t : ℕ) → IsArrival v.hurdles x s t → ((bit_at v.enemies t == 1) ≡ true → b ≡ t)
      → IsQuiet v g checks x s a t ⊎ LeavesFlight v g x s a b t

-- x gives no check or leaves a flight after each move of the defender outside this risk
pub record IsHarmless (v : KingAttack) (g : KingZone) (checks : ℕ) (r : Risk) (x : Man)
    (s : ℕ) : Type 0 where
  pub mild : (a b : ℕ) → a < 64 → b < 64 → IsOff v.hurdles r a b → IsMild v g checks x s a b

-- x on s, unless it is a hopper, doesn't check now; and wherever it goes, it gives no check or leaves a
-- flight
pub record IsWeakAt (v : KingAttack) (g : KingZone) (x : Man) (s a b : ℕ) : Type 0 where
  pub checks : ℕ
  pub word : IsCheckWord v.hurdles g.king x checks
  pub off : is_hopper (gait_of x.kind) ≡ false → (bit_at checks s == 1) ≡ false
  pub mild : IsMild v g checks x s a b

-- x on s is weak after each move of the defender outside this risk
pub record IsWeak (v : KingAttack) (g : KingZone) (r : Risk) (x : Man) (s : ℕ) : Type 0 where
  pub weak : (a b : ℕ) → a < 64 → b < 64 → IsOff v.hurdles r a b → IsWeakAt v g x s a b

-- each attacker is weak for this risk
pub record AreWeak (v : KingAttack) (g : KingZone) (r : Risk) : Type 0 where
  pub weak : (s : ℕ) (x : Man) → IsAttacker v.men x s → IsWeak v g r x s

-- squares next to k that aren't closed and don't hold the enemy king
pub record AreAdjacent (v : KingAttack) (k w : ℕ) : Type 0 where
  pub next : (f : ℕ) → f < 64 → (bit_at w f == 1) ≡ true → list_any (leaps k f) queen_steps ≡ true
  pub free : (f : ℕ) → f < 64 → (bit_at w f == 1) ≡ true → (bit_at v.closed f == 1) ≡ false
  pub kings : (f : ℕ) → f < 64 → (bit_at w f == 1) ≡ true
      → (bit_at v.men.squares.kings f == 1) ≡ false

-- w holds squares next to k, but none if an attacker is on a closed square or is a hopper
pub record AreCaptureSquares (v : KingAttack) (k w : ℕ) : Type 0 where
  pub next : (f : ℕ) → f < 64 → (bit_at w f == 1) ≡ true → list_any (leaps k f) queen_steps ≡ true
  pub off : (f s : ℕ) → (bit_at w f == 1) ≡ true → s < 64 → (bit_at v.enemies s == 1) ≡ true
      → (bit_at v.closed s == 1) ≡ false
  pub plain : (f s : ℕ) (z : Man) → (bit_at w f == 1) ≡ true → IsAttacker v.men z s
      → is_hopper (gait_of z.kind) ≡ false

-- men of this kind are riders; nightriders only if the attackers have one
abbrev pub MayRide : KingAttack → Kind → Type 0
MayRide v k = (is_rider k ≡ true) × (same_kind k Nightrider ≡ true → v.men.squares.nightriders ≢ 0)

-- squares next to k that hoppers reach only over springboards; the springboards of k, and all springboards
pub record AreHopTargets (v : KingAttack) (k : ℕ) (i : HopTargets) : Type 0 where
  pub near : AreAdjacent v k i.near
  pub unsprung : (f : ℕ) → f < 64 → (bit_at i.near f == 1) ≡ true → IsUnhopped v k f i.all
  pub own : AreSpringboards v.men k i.own
  pub within : (h : ℕ) → (bit_at i.own h == 1) ≡ true → (bit_at i.all h == 1) ≡ true

-- the king zone: the squares next to the king where it may go or capture, its lines, springboards and
-- promotion squares
pub record IsKingZone (v : KingAttack) (g : KingZone) : Type 0 where
  pub hop_targets : AreHopTargets v g.king
      (record { near = g.near; own = g.springboards; all = g.hops })
  pub captures : AreCaptureSquares v g.king g.captures
  pub straight : (c : Colour)
      → IsReached v.hurdles (record { colour = c; kind = Rook }) g.king g.straight
  pub diagonal : (c : Colour)
      → IsReached v.hurdles (record { colour = c; kind = Bishop }) g.king g.diagonal
  pub lines : (c : Colour) (k : Kind) → MayRide v k
      → IsReached v.hurdles (record { colour = c; kind = k }) g.king g.lines
  pub promotions : ArePromotions v.men.colour v.men.fairy_promotions g.king g.promotions

-- fairy men of this kind move along lines
abbrev pub moves_on_fairy_lines : Kind → Bool
moves_on_fairy_lines k = is_fairy k && not (is_leaper (gait_of k))

-- no rook checks from a square to which it may castle, no king leaves a line of the zone, and there is no
-- fairy man but leapers
pub record IsCastlingHarmless (v : KingAttack) (g : KingZone) : Type 0 where
  pub rooks : (h : ℕ) → h < 64 → (bit_at v.castled h == 1) ≡ true
      → is_on_some straight_steps g.king h ≡ false
  pub kings : (h s : ℕ) → s < 64 → (bit_at v.castled h == 1) ≡ true
      → (bit_at v.men.squares.kings s == 1) ≡ true → (bit_at g.lines s == 1) ≡ false
  pub fairies : (h s : ℕ) (x : Man) → (bit_at v.castled h == 1) ≡ true → IsAttacker v.men x s
      → moves_on_fairy_lines x.kind ≡ false

-- the risk of a defender whose king is on k: after each of its moves outside this risk no reply mates
pub record IsRiskAt (v : KingAttack) (k : ℕ) (r : Risk) : Type 0 where
  pub king_zone : KingZone
  pub king : king_zone.king ≡ k
  pub is : IsKingZone v king_zone
  pub castling : (b : ℕ) → b < 64 → (bit_at r.critical b == 1) ≡ false
      → IsCastlingHarmless v king_zone
  pub lines : (a b : ℕ) → b < 64 → (bit_at r.critical b == 1) ≡ false
      → (bit_at r.lines a == 1) ≡ false → (bit_at king_zone.lines a == 1) ≡ false
  pub unsprung : (b : ℕ) → b < 64 → (bit_at r.critical b == 1) ≡ false
      → IsUnhopped v king_zone.king king_zone.king king_zone.springboards
  pub hops : (b : ℕ) → b < 64 → (bit_at r.critical b == 1) ≡ false → b ≢ king_zone.king
      → (bit_at king_zone.hops b == 1) ≡ false
  pub weak : (s : ℕ) (x : Man) → IsAttacker v.men x s → IsWeak v king_zone r x s

-- w has the same men, king and attackers as v
pub record IsLike (v w : KingAttack) : Type 0 where
  pub king_attack : IsKingAttack w
  pub king : w.king ≡ v.king
  pub own : w.own ≡ v.own
  pub enemies : w.enemies ≡ v.enemies
  pub men : w.men ≡ v.men
  pub castled : w.castled ≡ v.castled
  pub closed : w.closed ≡ v.closed

-- w is v without a hurdle on this square
pub record IsLifted (v : KingAttack) (from : ℕ) (w : KingAttack) : Type 0 where
  pub like : IsLike v w
  pub off : (bit_at w.hurdles from == 1) ≡ false
  pub whole : IsWholeBut w from

-- the risk of the king of v without a hurdle on this square
pub record IsRiskAfterLeaving (v : KingAttack) (from : ℕ) (r : Risk) : Type 0 where
  pub king_attack : KingAttack
  pub lifted : IsLifted v from king_attack
  pub risk : IsRiskAt king_attack v.king r

-- the risk of the king of v, with the lines of all riders
pub record AreThreats (v : KingAttack) (r : Risk) : Type 0 where
  pub king_attack : IsKingAttack v
  pub whole : IsWhole v
  pub risk : IsRiskAt v v.king r
  pub rides : (s : ℕ) (x : Man) → IsAttacker v.men x s → is_rider x.kind ≡ true
      → IsReached v.hurdles x s r.lines

-- a defender that leaves a opens no rider's line
pub record IsShutAt (v : KingAttack) (a : ℕ) : Type 0 where
  pub shut : (s : ℕ) (x : Man) → IsAttacker v.men x s → is_rider x.kind ≡ true
      → (bit_at v.hurdles a == 1) ≡ true → reached_over v.hurdles x s a ≡ false

-- a man other than the king may go from s to t without allowing mate: the move is outside a risk of the
-- same men
pub record IsSafeMove (v : KingAttack) (s t : ℕ) : Type 0 where
  pub king_attack : KingAttack
  pub like : IsLike v king_attack
  pub whole : IsWholeBut king_attack s
  pub risk : Risk
  pub at : IsRiskAt king_attack v.king risk
  pub off : IsOff king_attack.hurdles risk s t
  pub shut : IsShutAt king_attack s

-- the king may step to t without allowing mate: nobody is there, and the step is outside the risk there
pub record IsSafeStep (v : KingAttack) (t : ℕ) : Type 0 where
  pub free : (bit_at v.hurdles t == 1) ≡ false
  pub risk : Risk
  pub at : IsRiskAt v t risk
  pub off : (bit_at risk.critical t == 1) ≡ false

-- the king may not step to t, which is empty: an attacker that isn't paralysed reaches it
pub record IsBarred (rule : RuleSet) (v : KingAttack) (t : ℕ) : Type 0 where
  pub able : like_men_paralyse rule ≡ false
  pub free : (bit_at v.hurdles t == 1) ≡ false
  pub attacked : IsAttackedOver v.hurdles v.men t

-- the attackers may not castle and are no hoppers
pub record ArePlainAttackers (v : KingAttack) : Type 0 where
  pub castled : v.castled ≡ 0
  pub grasshoppers : v.men.squares.grasshoppers ≡ 0

-- w holds the squares that the attackers reach over hurdles none of which is an attacker
pub record AreGuardsThrough (v : KingAttack) (w : ℕ) : Type 0 where
  pub hurdles : ℕ
  pub kept : (e : ℕ) → e < 64 → (bit_at hurdles e == 1) ≡ true → (bit_at v.hurdles e == 1) ≡ true
  pub off : (s : ℕ) (x : Man) → IsAttacker v.men x s → (bit_at hurdles s == 1) ≡ false
  pub guards : (s : ℕ) (x : Man) → IsAttacker v.men x s → is_hopper (gait_of x.kind) ≡ false
      → IsReached hurdles x s w

-- x on t checks a king on k on no board, or it leaves a square of w
abbrev pub IsCheckMet : ℕ → Man → ℕ → ℕ → Type 0
IsCheckMet w x t k =
    ((men : List (Option Man)) → reaches_as men x.colour x.kind t k ≡ false)
    ⊎ ((f : ℕ) × IsLeft w x t f)

-- wherever an attacker other than a king arrives on a target, its check to a king on k is met
pub record AreChecksMet (a : Attackers) (o : OpenTargets) (w k : ℕ) : Type 0 where
  pub met : (j : Kind) → same_kind j King ≡ false → (t : ℕ)
      → t < 64 → (bit_at (value_for o.squares j) t == 1) ≡ true
      → IsCheckMet w (record { colour = a.colour; kind = j }) t k

-- except in Circe, the king keeps a flight after its step to t, whatever is played next
pub record KeepsFlight (rule : RuleSet) (v : KingAttack) (t : ℕ) : Type 0 where
  pub captures : captures_are_reborn rule ≡ false
  pub near : ℕ
  pub adjacent : AreAdjacent v t near
  pub keeps : KeepsOne v.men near

-- the king keeps a flight when another man goes to t, whatever is played next; this doesn't hold in
-- Circe
pub record KeepsFlightBeside (v : KingAttack) (t : ℕ) : Type 0 where
  pub near : ℕ
  pub adjacent : AreAdjacent v v.king near
  pub off : (bit_at near t == 1) ≡ false
  pub keeps : KeepsOne v.men near

-- the king keeps a flight for each arrival of another man outside w
pub record AreNeeded (v : KingAttack) (w : ℕ) : Type 0 where
  pub keeps : (t : ℕ) → t < 64 → (bit_at w t == 1) ≡ false → KeepsFlightBeside v t

-- no reply mates after the king's step to t
abbrev pub IsSparedStep : RuleSet → KingAttack → ℕ → Type 0
IsSparedStep rule v t = IsSafeStep v t ⊎ KeepsFlight rule v t

-- no reply mates after the king's step to t, or the step is illegal
abbrev pub IsDecidedStep : RuleSet → KingAttack → ℕ → Type 0
IsDecidedStep rule v t = IsSparedStep rule v t ⊎ IsBarred rule v t

-- a kept step that isn't risky is illegal or allows no mate, under all rules that agree with the kept
-- ones on paralysis and captures
pub record IsStepCacheOf (v : KingAttack) (k : StepCache) : Type 0 where
  pub reported : (rule : RuleSet) → like_men_paralyse rule ≡ k.stand_still
      → captures_are_reborn rule ≡ k.reborn → (t : ℕ) → t < 64
      → (bit_at k.steps t == 1) ≡ true → (bit_at k.risky t == 1) ≡ false
      → IsDecidedStep rule v t

-- the king's step to t is plain: t is next to it, and in Circe empty
pub record IsPlainStep (rule : RuleSet) (v : KingAttack) (t : ℕ) : Type 0 where
  pub near : list_any (leaps v.king t) queen_steps ≡ true
  pub empty : captures_are_reborn rule ≡ true → (bit_at v.hurdles t == 1) ≡ false

-- no attacker is a hopper
pub record AreUnhopping (a : Attackers) : Type 0 where
  pub plain : (s : ℕ) (x : Man) → IsAttacker a x s → is_hopper (gait_of x.kind) ≡ false

-- the king's steps to these squares are plain, attackers can't be paralysed, and w holds exactly the
-- squares that no attacker reaches
pub record AreExactSteps (rule : RuleSet) (v : KingAttack) (squares w : ℕ) : Type 0 where
  pub able : like_men_paralyse rule ≡ false
  pub plain : (t : ℕ) → t < 64 → (bit_at squares t == 1) ≡ true → IsPlainStep rule v t
  pub inside : (t : ℕ) → t < 64 → (bit_at w t == 1) ≡ true → (bit_at squares t == 1) ≡ true
  pub safe : (t : ℕ) → t < 64 → (bit_at w t == 1) ≡ true → (s : ℕ) (x : Man)
      → IsAttacker v.men x s → reached_over v.hurdles x s t ≡ false
  pub barred : (t : ℕ) → t < 64 → (bit_at squares t == 1) ≡ true
      → (bit_at w t == 1) ≡ false
      → IsAttackedOver v.hurdles v.men t
