-- Attackers of a square, found by looking outward from it.
use Rattle.chess_attacks.proofs.Chess.{Bishop, Bool, Colour, Grasshopper, Hopper, Kind, King, Knight, List, Man, Option, Pawn, Queen, Rook, RuleSet, Step, [], and_left, any_kept, any_range_same, any_range_true, arith, bit_and, bit_at, bit_or, diagonal_steps, differs, eq-eqb, like_men_paralyse, attacks_like, is_attacked_by_like, false, false_from_ne_true, false≢true, first_of_and, gait_of, hopped_from, hops, is_ahead, is_attacked, is_attacker, is_fairy_man, is_leaping_man, is_man, is_met, is_of_colour, is_on_some, is_paralysed, is_reached, joined, list_any, list_any-append, man_on, not, other, queen_steps, reaches, reaches_as, reaches_of, refl, rides, rules, same_colour-true, same_kind-true, second_of_and, shared, some_square, some_square_known, squares, squares_of, squares_same, straight_steps, sym, true, word, word_empty, word_has, word_lacks, ℕ, ◌&&◌, ◌<◌, ◌==◌, ◌||◌, ◌∙◌, ◌∷◌, ◌≡◌, bit_not, w64}
use Rattle.chess_attacks.proofs.rays.Flips.{diagonal-back, hops-turned, queen_rides-back, reaches_back, straight-back}
use Rattle.chess_attacks.proofs.rays.Ways.{ride_on-found}
use Rattle.chess_attacks.proofs.Bits.{every_square}

-- tests that agree on the squares
pub some_square_same : (p q : ℕ → Bool) → ((s : ℕ) → s < 64 → p s ≡ q s) → some_square p ≡ some_square q
unfolding some_square squares
some_square_same p q h = any_range_same p q 0 64 (λ k lo hi. h k hi)

-- a man, hoppers apart, reaches t from where its like of the other colour on t reaches
pub comes_back : (men : List (Option Man)) (c e : Colour) (j : Kind) (t w : ℕ) → (gait_of j ≡ Hopper → ⊥) → t < 64 → w ≡ word (reaches_as men e j t)
    → e ≡ other c → w ≡ word (λ s. reaches_as men c j s t)
comes_back men c e j t w plain q h enemy = grind (arith, squares_same, reaches_back)

-- a hopper reaches t from the squares found by looking back from t
pub comes_hopper : (men : List (Option Man)) (c : Colour) (j : Kind) (t : ℕ) → gait_of j ≡ Hopper → t < 64
    → word (λ s. list_any (hopped_from men t s) queen_steps) ≡ word (λ s. reaches_as men c j s t)
unfolding reaches_as
comes_hopper men c j t hops q = grind (arith, squares_same, hops-turned)

-- a man moves as its colour and kind do
reaches_of_man : (men : List (Option Man)) (o : Option Man) (c : Colour) (k : Kind) (s t : ℕ) → is_man o c k ≡ true
    → reaches_of men o s t ≡ reaches_as men c k s t
reaches_of_man men o c k s t h = grind (arith, first_of_and, same_colour-true, same_kind-true, second_of_and)

-- the men of a kind on the squares from which that kind reaches t
pub reached : (men : List (Option Man)) (c : Colour) (k : Kind) (t w n : ℕ) → w ≡ squares_of men c k → n ≡ word (λ s. reaches_as men c k s t)
    → bit_and w n ≡ word (λ s. is_man (man_on men s) c k && reaches men s t)
unfolding reaches squares_of
reached men c k t w n h r =
    shared _ _ _ _ h r ∙ squares_same _ _ (λ s b. grind (arith, reaches_of_man men (man_on men s) c k s t))

-- where no men of the kind stand, none reaches t
pub reached_none : (men : List (Option Man)) (c : Colour) (k : Kind) (t w : ℕ) → w ≡ squares_of men c k → w ≡ 0
    → 0 ≡ word (λ s. is_man (man_on men s) c k && reaches men s t)
unfolding squares_of
reached_none men c k t w h z =
    word_empty _ (λ s b. and_left (is_man (man_on men s) c k) (reaches men s t) (word_lacks (λ s. is_man (man_on men s) c k) (sym h ∙ z) s b))

-- a man of colour b reaches by what its kind says
rook_reaches : (men : List (Option Man)) (c : Colour) (k : Kind) (s t : ℕ) → s < 64 → t < 64 → k ≡ Rook
    → reaches_as men c k s t ≡ list_any (rides men t s) straight_steps
unfolding reaches_as
rook_reaches men c k s t p q e = rw e (straight-back men s t p q)

bishop_reaches : (men : List (Option Man)) (c : Colour) (k : Kind) (s t : ℕ) → s < 64 → t < 64 → k ≡ Bishop
    → reaches_as men c k s t ≡ list_any (rides men t s) diagonal_steps
unfolding reaches_as
bishop_reaches men c k s t p q e = rw e (diagonal-back men s t p q)

-- on one square
at_square : (men : List (Option Man)) (c : Colour) (o : Option Man) (s t : ℕ) → s < 64 → t < 64
    → ((((is_leaping_man o c && reaches_of men o s t) || ((is_man o c Rook || is_man o c Queen) && list_any (rides men t s) straight_steps))
    || ((is_man o c Bishop || is_man o c Queen) && list_any (rides men t s) diagonal_steps)) || (is_fairy_man o c && reaches_of men o s t))
    ≡ (is_of_colour o c && reaches_of men o s t)
unfolding reaches_as
at_square men c o s t p q = search (rules, bishop_reaches, rook_reaches, p, q, list_any-append, queen_rides-back)

-- the riders of a kind and the queens on the squares to which a ride from t gets
pub met : (men : List (Option Man)) (c : Colour) (k : Kind) (t m n w : ℕ) (ds : List Step) → m ≡ squares_of men c k → n ≡ squares_of men c Queen
    → w ≡ word (λ s. list_any (rides men t s) ds) → bit_and (bit_or m n) w ≡ word (is_met men c k ds t)
unfolding squares_of is_met
met men c k t m n w ds h i j = shared _ _ _ _ (joined _ _ _ _ h i) j

-- where a rider gets, a line goes
ahead_of : (men : List (Option Man)) (k s : ℕ) (d : Step) → rides men k s d ≡ true → is_ahead k d s ≡ true
unfolding rides is_ahead
ahead_of men k s d h = search (rules, any_kept, first_of_and)

-- a square to which a ride gets lies on its line
pub goes_on : (men : List (Option Man)) (k s : ℕ) (ds : List Step) → list_any (rides men k s) ds ≡ true → list_any (λ d. is_ahead k d s) ds ≡ true
goes_on men k s ds h = any_kept (rides men k s) (λ d. is_ahead k d s) ds (λ d. ahead_of men k s d) h

rides_some : (men : List (Option Man)) (t s : ℕ) (ds : List Step) → is_on_some ds t s ≡ false → list_any (rides men t s) ds ≡ false
unfolding is_on_some
rides_some men t s ds h = false_from_ne_true _ (λ y. false≢true (sym h ∙ goes_on men t s ds y))

apart : (m l r : Bool) → (m && l) ≡ false → (l ≡ false → r ≡ false) → (m && r) ≡ false
apart m l r p q = grind arith

-- if none of these men is on a line from t, none is met
pub met_none : (men : List (Option Man)) (c : Colour) (k : Kind) (t m n l : ℕ) (ds : List Step) → m ≡ squares_of men c k → n ≡ squares_of men c Queen
    → l ≡ word (is_on_some ds t) → bit_and (bit_or m n) l ≡ 0 → 0 ≡ word (is_met men c k ds t)
unfolding squares_of is_met
met_none men c k t m n l ds h i j z =
    let rider : ℕ → Bool = λ s. is_man (man_on men s) c k || is_man (man_on men s) c Queen in
    let lined : word (λ s. rider s && is_on_some ds t s) ≡ 0 = sym (shared _ _ _ _ (joined _ _ _ _ h i) j) ∙ z in
    word_empty _ (λ s b. apart (rider s) (is_on_some ds t s) (list_any (rides men t s) ds) (word_lacks (λ s. rider s && is_on_some ds t s) lined s b)
    (rides_some men t s ds))

-- the square of a man of this colour and kind from which it reaches t
abbrev pub comer : List (Option Man) → Colour → ℕ → Kind → ℕ → Bool
comer men c t k s = is_man (man_on men s) c k && reaches men s t

-- the square of a fairy man of this colour from which it reaches t
abbrev pub fairy_comer : List (Option Man) → Colour → ℕ → ℕ → Bool
fairy_comer men c t s = is_fairy_man (man_on men s) c && reaches men s t

-- the square of a king, a knight or a pawn of this colour from which it reaches t
abbrev pub leaping_comer : List (Option Man) → Colour → ℕ → ℕ → Bool
leaping_comer men c t s = is_leaping_man (man_on men s) c && reaches men s t

leaping_by_kind : (o : Option Man) (c : Colour) (r : Bool)
    → (((is_man o c King && r) || (is_man o c Knight && r)) || (is_man o c Pawn && r)) ≡ (is_leaping_man o c && r)
leaping_by_kind o c r = grind arith

-- kings, knights and pawns kind by kind
pub leapers_are : (men : List (Option Man)) (c : Colour) (t k n p : ℕ) → k ≡ word (comer men c t King) → n ≡ word (comer men c t Knight)
    → p ≡ word (comer men c t Pawn) → bit_or (bit_or k n) p ≡ word (leaping_comer men c t)
leapers_are men c t k n p hk hn hp = joined _ _ _ _ (joined _ _ _ _ hk hn) hp ∙ squares_same _ _ (λ s b. leaping_by_kind (man_on men s) c (reaches men s t))

-- the men that reach t: leapers, riders on straight lines, on diagonals, and fairy men
pub attackers_are : (men : List (Option Man)) (c : Colour) (t l r b f : ℕ) → t < 64 → l ≡ word (leaping_comer men c t)
    → r ≡ word (is_met men c Rook straight_steps t) → b ≡ word (is_met men c Bishop diagonal_steps t) → f ≡ word (fairy_comer men c t)
    → bit_or (bit_or (bit_or l r) b) f ≡ word (λ s. is_of_colour (man_on men s) c && reaches men s t)
unfolding reaches is_met
attackers_are men c t l r b f q hl hr hb hf = joined _ _ _ _ (joined _ _ _ _ (joined _ _ _ _ hl hr) hb) hf ∙ squares_same _ _ (λ s p. at_square men c _ s t p q)

any_either : (p q : ℕ → Bool) (xs : List ℕ) → (list_any p xs || list_any q xs) ≡ list_any (λ s. p s || q s) xs
any_either p q [] = refl
any_either p q (x ∷ xs) = grind (arith, any_either p q xs)

some_either : (p q : ℕ → Bool) (a b : Bool) → a ≡ some_square p → b ≡ some_square q → (a || b) ≡ some_square (λ s. p s || q s)
unfolding some_square
some_either p q a b h i = (λ j. h j || i j) ∙ any_either p q squares

-- some man reaches t exactly if one of these words isn't 0
pub some_reach : (men : List (Option Man)) (c : Colour) (t l r b f : ℕ) → t < 64 → l ≡ word (leaping_comer men c t)
    → r ≡ word (is_met men c Rook straight_steps t) → b ≡ word (is_met men c Bishop diagonal_steps t) → f ≡ word (fairy_comer men c t)
    → (((not (l == 0) || not (r == 0)) || not (b == 0)) || not (f == 0)) ≡ is_reached men t c
unfolding reaches is_met is_reached
some_reach men c t l r b f q hl hr hb hf =
    some_either _ _ _ _ (some_either _ _ _ _ (some_either _ _ _ _ (some_square_known _ l hl) (some_square_known _ r hr)) (some_square_known _ b hb))
    (some_square_known _ f hf)
    ∙ some_square_same _ _ (λ s p. at_square men c _ s t p q)

-- some leaper reaches t
pub leap_reaches : (men : List (Option Man)) (c : Colour) (t l : ℕ) → t < 64 → l ≡ word (leaping_comer men c t) → (l ≡ 0 → ⊥) → true ≡ is_reached men t c
leap_reaches men c t l q h some = grind (arith, some_reach men c t l _ _ _ q h refl refl refl, differs l 0 some)

-- some rider along a straight line
pub straight_reaches : (men : List (Option Man)) (c : Colour) (t r : ℕ) → t < 64 → r ≡ word (is_met men c Rook straight_steps t) → (r ≡ 0 → ⊥)
    → true ≡ is_reached men t c
straight_reaches men c t r q h some = grind (arith, some_reach men c t _ r _ _ q refl h refl refl, differs r 0 some)

-- some rider along a diagonal
pub diagonal_reaches : (men : List (Option Man)) (c : Colour) (t b : ℕ) → t < 64 → b ≡ word (is_met men c Bishop diagonal_steps t) → (b ≡ 0 → ⊥)
    → true ≡ is_reached men t c
diagonal_reaches men c t b q h some = grind (arith, some_reach men c t _ _ b _ q refl refl h refl, differs b 0 some)

-- where a hopper comes from, a line goes
hopped_ahead : (men : List (Option Man)) (t s : ℕ) (d : Step) → hopped_from men t s d ≡ true → is_ahead t d s ≡ true
unfolding hopped_from is_ahead
hopped_ahead men t s d h = search (rules, any_range_true, eq-eqb, ride_on-found, second_of_and)

-- on the square's file, its rank or its diagonals
abbrev is_near : ℕ → ℕ → Bool
is_near t s = is_on_some straight_steps t s || is_on_some diagonal_steps t s

-- from elsewhere a grasshopper doesn't reach t
hops_near : (men : List (Option Man)) (c : Colour) (t s : ℕ) → t < 64 → s < 64 → is_near t s ≡ false → reaches_as men c Grasshopper s t ≡ false
unfolding reaches_as is_on_some
hops_near men c t s q p h = search (rules, any_kept, false_from_ne_true, false≢true, hopped_ahead, hops-turned, list_any-append)

-- where none stands there, none reaches t
pub hoppers_none : (men : List (Option Man)) (c : Colour) (t g l d : ℕ) → t < 64 → g ≡ squares_of men c Grasshopper → l ≡ word (is_on_some straight_steps t)
    → d ≡ word (is_on_some diagonal_steps t) → bit_and g (bit_or l d) ≡ 0 → 0 ≡ word (comer men c t Grasshopper)
unfolding squares_of reaches
hoppers_none men c t g l d q h i j z =
    let lined : word (λ s. is_man (man_on men s) c Grasshopper && is_near t s) ≡ 0 = sym (shared _ _ _ _ h (joined _ _ _ _ i j)) ∙ z in
    word_empty _ (λ s b. grind (arith, hops_near, reaches_of_man, word_lacks _ lined s b))

-- attack by the men that reach the square and aren't paralysed
pub attacked_by : (rule : RuleSet) (men : List (Option Man)) (t w : ℕ) (c : Colour) → w ≡ word (λ s. is_of_colour (man_on men s) c && reaches men s t)
    → some_square (λ s. bit_at w s == 1 && not (is_paralysed rule men s)) ≡ is_attacked rule men t c
unfolding is_attacked is_attacker
attacked_by rule men t w c h = search (rules, some_square_same, word_has)

-- where nobody is paralysed, a square is attacked if some man reaches it
pub attacked_plainly : (rule : RuleSet) (men : List (Option Man)) (t : ℕ) (c : Colour) (b : Bool) → like_men_paralyse rule ≡ false → b ≡ is_reached men t c
    → b ≡ is_attacked rule men t c
unfolding is_attacked is_attacker is_paralysed is_reached
attacked_plainly rule men t c b off h = search (rules, some_square_same, off, h)

-- an enemy of a man's kind reaches its square exactly if the word of those isn't 0
pub faced : (men : List (Option Man)) (x : Man) (t w : ℕ) → w ≡ word (λ s. is_man (man_on men s) (other x.colour) x.kind && reaches men s t)
    → not (w == 0) ≡ is_attacked_by_like men x t
unfolding is_attacked_by_like attacks_like
faced men x t w h = some_square_known _ w h

-- all men of the board
pub seen_now : (men : List (Option Man)) (c : Colour) (k : Kind) → bit_and (squares_of men c k) (bit_not w64 0) ≡ squares_of men c k
unfolding squares_of
seen_now men c k = shared _ _ _ _ refl (every_square (λ s. true) (λ s b. refl)) ∙ squares_same _ _ (λ s b. grind arith)
