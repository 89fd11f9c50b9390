-- Lists of moves that begin as a part does: each is in one part, and the parts joined are all of them.
use Rattle.pop_parts.proofs.Words.{AllPairs, Bool, Contains, Game, IsPlayable, List, Move, Position, Precedes, StandsBefore, [], ap, append-nil, arith, beginnings, begins_path, begins_so, cond, false, filter, filter-append, first_in, flat_map, flat_map-append, from_flat_map, from_map, in_cases, in_flat_map, in_map, inr, later_in, length, lines_to_goal, map, map-append, map-id, nat_tests, none_in_nil, pairs_flat_map, pairs_map, pairs_nil, pairs_of, path_end, refl, rules, suc, sym, take, true, zero, ℕ, ◌&&◌, ◌++◌, ◌-◌, ◌∙◌, ◌∷◌, ◌≡◌, ◌≤◌}
use Rattle.std.proofs.lemmas.List.Folds.{flat_map-map}
use Rattle.std.proofs.lemmas.Simd.{map-map}
use Rattle.chess_core.specs.Move.{same_move}
use Rattle.chess_rules.proofs.Members.{pairs_first, pairs_later}
use Rattle.pop_walk.proofs.Trees.{flat-same}

-- lists joined
module _ {A B : Type 0} where
  -- a test of what elements become
  pub filter-map : (test : B → Bool) (f : A → B) (xs : List A) → filter test (map f xs) ≡ map f (filter (λ x. test (f x)) xs)
  filter-map test f [] = refl
  filter-map test f (x ∷ xs) = search (rules, filter-map test f xs)

  filter-flat : (test : B → Bool) (F : A → List B) (xs : List A) → filter test (flat_map F xs) ≡ flat_map (λ x. filter test (F x)) xs
  filter-flat test F [] = refl
  filter-flat test F (x ∷ xs) = search (rules, filter-append, filter-flat test F xs)

  -- joined lists that are alike for each element of the list
  pub flat-in : (F G : A → List B) (xs : List A) → ((x : A) → Contains xs x → F x ≡ G x) → flat_map F xs ≡ flat_map G xs
  flat-in F G [] same = refl
  flat-in F G (x ∷ xs) same = rw (same x (first_in x xs), flat-in F G xs (λ y c. same y (later_in x xs y c))) refl

  -- joined lists, each element changed
  pub map-flat : {C : Type 0} (f : B → C) (F : A → List B) (xs : List A) → map f (flat_map F xs) ≡ flat_map (λ x. map f (F x)) xs
  map-flat f F [] = refl
  map-flat f F (x ∷ xs) = search (rules, map-append, map-flat f F xs)

  flat-flat : {C : Type 0} (G : B → List C) (F : A → List B) (xs : List A) → flat_map G (flat_map F xs) ≡ flat_map (λ x. flat_map G (F x)) xs
  flat-flat G F [] = refl
  flat-flat G F (x ∷ xs) = search (rules, flat_map-append, flat-flat G F xs)

  -- elements that become the same one by one
  pub map-each : (f g : A → B) (xs : List A) → ((x : A) → f x ≡ g x) → map f xs ≡ map g xs
  map-each f g [] same = refl
  map-each f g (x ∷ xs) same = rw (same x, map-each f g xs same) refl

-- a list joined over a sorted list is the list of one element, where the lists of those before and after it
-- are empty
module _ {A B : Type 0} (Before : A → A → Type 0) (F : A → List B) (a : A) (later : (x : A) → Before a x → F x ≡ [])
    (earlier : (x : A) → Before x a → F x ≡ []) where
  following-none : (xs : List A) → ((x : A) → Contains xs x → Before a x) → flat_map F xs ≡ []
  following-none [] after = refl
  following-none (x ∷ xs) after = rw (later x (after x (first_in x xs)), following-none xs (λ y c. after y (later_in x xs y c))) refl

  one-of : (xs : List A) → AllPairs Before xs → Contains xs a → flat_map F xs ≡ F a
  one-of [] order c = absurd (none_in_nil a c)
  one-of (x ∷ xs) order c =
      let first = pairs_first Before x xs order in
      let rest = pairs_later Before x xs order in
      grind (arith, in_cases, following-none xs, first, rest, append-nil, earlier x, one-of xs)

-- which moves are the same
same_as_itself : (m : Move) → same_move m m ≡ true
same_as_itself m = search (rules, nat_tests)

differs_either_way : (m n : Move) → same_move m n ≡ false → same_move n m ≡ false
differs_either_way m n differ = search (rules, nat_tests)

differs_from_later : (m n : Move) → Precedes m n → same_move m n ≡ false
differs_from_later m n before = search (rules, nat_tests)

-- a list joined over moves in order is the list of one move, where every other move's is empty
one-move : {B : Type 0} (F : Move → List B) (m : Move) → ((x : Move) → same_move m x ≡ false → F x ≡ [])
    → (ms : List Move) → AllPairs Precedes ms → Contains ms m → flat_map F ms ≡ F m
one-move F m apart =
    one-of Precedes F m (λ x before. apart x (differs_from_later m x before))
    (λ x before. apart x (differs_either_way x m (differs_from_later x m before)))

-- a line after a first move begins as a part does if that move is the part's first and the rest begins as
-- the part goes on
beginnings-under : (m : Move) (beginning : List Move) (x : Move) (b : Bool) → same_move m x ≡ b → (lines : List (List Move))
    → filter (begins_path (m ∷ beginning)) (map (λ line. x ∷ line) lines) ≡ cond b (map (λ line. x ∷ line) (filter (begins_path beginning) lines)) []
unfolding begins_path
beginnings-under m beginning x b e [] = search rules
beginnings-under m beginning x b e (line ∷ lines) = search (rules, beginnings-under m beginning x b e lines)

beginning-all : (lines : List (List Move)) → filter (begins_path []) lines ≡ lines
unfolding begins_path
beginning-all [] = refl
beginning-all (line ∷ lines) = ap (λ ls. line ∷ ls) (beginning-all lines)

module _ (game : Game Position Move) where
  -- the lines that continue each of the lists of first moves
  pub beginnings-lines : (d h : ℕ) (p : Position) → d ≤ h
      → flat_map (λ beginning. map (λ line. beginning ++ line) (lines_to_goal game (h - length beginning) (path_end game.after p beginning))) (beginnings game d p)
      ≡ lines_to_goal game h p
  unfolding lines_to_goal beginnings
  beginnings-lines zero h p most =
      let e : h - 0 ≡ h = omega arith in rw e (append-nil _ ∙ map-id (lines_to_goal game h p))
  beginnings-lines (suc d) zero p most = absurd (omega (arith, most))
  beginnings-lines (suc d) (suc h) p most =
      let F : List Move → List (List Move) =
      λ beginning. map (λ line. beginning ++ line) (lines_to_goal game (suc h - length beginning) (path_end game.after p beginning)) in
      flat-flat F (λ m. map (λ rest. m ∷ rest) (beginnings game d (game.after p m))) (game.moves p)
      ∙ flat-same _ _ (game.moves p) (λ m. flat_map-map F (λ rest. m ∷ rest) (beginnings game d (game.after p m))
      ∙ flat-same _ _ (beginnings game d (game.after p m)) (λ rest. following m rest)
      ∙ sym (map-flat (λ line. m ∷ line) (λ beginning. map (λ line. beginning ++ line) (lines_to_goal game (h - length beginning)
      (path_end game.after (game.after p m) beginning))) (beginnings game d (game.after p m)))
      ∙ ap (map (λ line. m ∷ line)) (beginnings-lines d h (game.after p m) (omega (arith, most))))
    where
      following : (m : Move) (rest : List Move)
          → map (λ line. (m ∷ rest) ++ line) (lines_to_goal game (suc h - length (m ∷ rest)) (path_end game.after p (m ∷ rest)))
          ≡ map (λ line. m ∷ line) (map (λ line. rest ++ line) (lines_to_goal game (h - length rest) (path_end game.after (game.after p m) rest)))
      following m rest =
          let e : suc h - length (m ∷ rest) ≡ h - length rest = omega arith in
          rw e (sym (map-map (λ line. m ∷ line) (λ line. rest ++ line) (lines_to_goal game (h - length rest) (path_end game.after (game.after p m) rest))))

  -- each list of first moves can be played and has this number of moves
  pub beginnings-play : (d : ℕ) (p : Position) (beginning : List Move) → Contains (beginnings game d p) beginning
      → IsPlayable game p beginning × (length beginning ≡ d)
  unfolding beginnings
  beginnings-play zero p beginning c = grind (arith, in_cases, none_in_nil)
  beginnings-play (suc d) p beginning c =
      let w = from_flat_map (λ m. map (λ rest. m ∷ rest) (beginnings game d (game.after p m))) (game.moves p) beginning c in
      grind (arith, from_map (λ rest. w.0 ∷ rest) (beginnings game d (game.after p w.0)) beginning w.2, beginnings-play d (game.after p w.0))

  -- each list of this number of moves that can be played is one of them
  pub in-beginnings : (d : ℕ) (p : Position) (beginning : List Move) → IsPlayable game p beginning → length beginning ≡ d → Contains (beginnings game d p) beginning
  unfolding beginnings
  in-beginnings d p [] are long = grind (arith, first_in)
  in-beginnings zero p (m ∷ beginning) are long = absurd (omega (arith, long))
  in-beginnings (suc d) p (m ∷ beginning) are long =
      in_flat_map (λ m. map (λ rest. m ∷ rest) (beginnings game d (game.after p m))) (game.moves p) m (m ∷ beginning) are.0
      (in_map (λ rest. m ∷ rest) (beginnings game d (game.after p m)) beginning (in-beginnings d (game.after p m) beginning are.1 (omega (arith, long))))

module _ (game : Game Position Move) (order : (p : Position) → AllPairs Precedes (game.moves p)) where
  -- the lines of help play that begin with moves that can be played
  pub beginning-lines : (h : ℕ) (p : Position) (beginning : List Move) → IsPlayable game p beginning → length beginning ≤ h
      → filter (begins_path beginning) (lines_to_goal game h p)
      ≡ map (λ line. beginning ++ line) (lines_to_goal game (h - length beginning) (path_end game.after p beginning))
  unfolding lines_to_goal
  beginning-lines h p [] are most =
      let e : h - 0 ≡ h = omega arith in rw e (beginning-all (lines_to_goal game h p) ∙ sym (map-id (lines_to_goal game h p)))
  beginning-lines zero p (m ∷ beginning) are most = absurd (omega (arith, most))
  beginning-lines (suc h) p (m ∷ beginning) are most =
      let G : Move → List (List Move) = λ x. map (λ line. x ∷ line) (lines_to_goal game h (game.after p x)) in
      let e : suc h - length (m ∷ beginning) ≡ h - length beginning = omega arith in
      let rest = beginning-lines h (game.after p m) beginning are.1 (omega (arith, most)) in
      rw e (filter-flat (begins_path (m ∷ beginning)) G (game.moves p)
      ∙ one-move (λ x. filter (begins_path (m ∷ beginning)) (G x)) m (λ x f. beginnings-under m beginning x false f (lines_to_goal game h (game.after p x))) (game.moves p)
      (order p) are.0
      ∙ beginnings-under m beginning m true (same_as_itself m) (lines_to_goal game h (game.after p m))
      ∙ ap (map (λ line. m ∷ line)) rest
      ∙ map-map (λ line. m ∷ line) (λ line. beginning ++ line) (lines_to_goal game (h - length beginning) (path_end game.after (game.after p m) beginning)))

  -- the beginnings stand in the order of the moves
  pub beginnings-stand : (d : ℕ) (p : Position) → AllPairs (StandsBefore Precedes) (beginnings game d p)
  unfolding beginnings
  beginnings-stand zero p = grind (arith, pairs_of, none_in_nil, pairs_nil)
  beginnings-stand (suc d) p =
      pairs_flat_map Precedes (StandsBefore Precedes) (λ m. map (λ rest. m ∷ rest) (beginnings game d (game.after p m))) (game.moves p) (order p)
      (λ m. pairs_map (StandsBefore Precedes) (StandsBefore Precedes) (λ rest. m ∷ rest) (beginnings game d (game.after p m))
      (λ x y before. inr (refl, before)) (beginnings-stand d (game.after p m)))
      (λ m n less a b c e.
      let x = from_map (λ rest. m ∷ rest) (beginnings game d (game.after p m)) a c in
      let y = from_map (λ rest. n ∷ rest) (beginnings game d (game.after p n)) b e in
      grind (arith, x, y))

  -- a line that can be played begins with exactly one of the beginnings
  pub beginnings-one : (d : ℕ) (p : Position) (line : List Move) → IsPlayable game p line → d ≤ length line
      → filter (λ beginning. begins_path beginning line) (beginnings game d p) ≡ take d line ∷ []
  unfolding beginnings begins_path
  beginnings-one zero p line are most = refl
  beginnings-one (suc d) p [] are most = absurd (omega (arith, most))
  beginnings-one (suc d) p (x ∷ line) are most =
      let T : List Move → Bool = λ beginning. begins_path beginning (x ∷ line) in
      let F : Move → List (List Move) = λ m. map (λ rest. m ∷ rest) (beginnings game d (game.after p m)) in
      filter-flat T F (game.moves p)
      ∙ one-move (λ m. filter T (F m)) x (λ m e. filter-map T (λ rest. m ∷ rest) (beginnings game d (game.after p m)) ∙ none m (differs_either_way x m e)
      (beginnings game d (game.after p m))) (game.moves p) (order p) are.0
      ∙ filter-map T (λ rest. x ∷ rest) (beginnings game d (game.after p x))
      ∙ ap (map (λ rest. x ∷ rest)) (here (beginnings game d (game.after p x)) ∙ beginnings-one d (game.after p x) line are.1 (omega (arith, most)))
    where
      none : (m : Move) → same_move m x ≡ false → (rests : List (List Move))
          → map (λ rest. m ∷ rest) (filter (λ rest. same_move m x && begins_path rest line) rests) ≡ []
      none m e [] = refl
      none m e (r ∷ rests) = search (rules, none m e rests)

      here : (rests : List (List Move))
          → filter (λ rest. same_move x x && begins_path rest line) rests ≡ filter (λ rest. begins_path rest line) rests
      here rests = rw (same_as_itself x) refl

-- solutions of battle play: the solutions that begin with one move of the root
pub root-part : (other : Move → Bool) (G : Move → List (List Move)) (m : Move) (ms : List Move) → AllPairs Precedes ms → Contains ms m
    → filter (begins_so (m ∷ [])) (map (λ x. (x ∷ []) ∷ G x) (filter other ms)) ≡ map (λ x. (x ∷ []) ∷ G x) (filter other (m ∷ []))
unfolding begins_path
root-part other G m ms order c =
    let N : Move → List (List (List Move)) = λ x. cond (other x) (((x ∷ []) ∷ G x) ∷ []) [] in
    let T : List (List Move) → Bool = begins_so (m ∷ []) in
    ap (filter T) (joined ms) ∙ filter-flat T N ms
    ∙ one-move (λ x. filter T (N x)) m (λ x e. apart x (other x) e) ms order c ∙ alone (other m)
    ∙ sym (append-nil (N m)) ∙ sym (joined (m ∷ []))
  where
    joined : (xs : List Move) → map (λ x. (x ∷ []) ∷ G x) (filter other xs) ≡ flat_map (λ x. cond (other x) (((x ∷ []) ∷ G x) ∷ []) []) xs
    joined [] = refl
    joined (x ∷ xs) = search (rules, joined xs)

    apart : (x : Move) (b : Bool) → same_move m x ≡ false
        → filter (begins_so (m ∷ [])) (cond b (((x ∷ []) ∷ G x) ∷ []) []) ≡ []
    apart x b e = search rules

    alone : (b : Bool) → filter (begins_so (m ∷ [])) (cond b (((m ∷ []) ∷ G m) ∷ []) []) ≡ cond b (((m ∷ []) ∷ G m) ∷ []) []
    alone b = search (rules, same_as_itself)

-- the solutions of all moves, one move after another
pub each-own : {B : Type 0} (other : Move → Bool) (N : Move → B) (ms : List Move)
    → flat_map (λ x. map N (filter other (x ∷ []))) ms ≡ map N (filter other ms)
each-own other N [] = refl
each-own other N (x ∷ ms) = search (rules, each-own other N ms)

-- the first of joined lists are the first of their first
module _ {A B : Type 0} (F : A → List B) where
  first-following : (k n : ℕ) → k ≤ n → (xs ys zs : List B) → ((j : ℕ) → j ≤ k → take j ys ≡ take j zs) → take k (take n xs ++ ys) ≡ take k (xs ++ zs)
  first-following k zero most [] ys zs same = same k (omega arith)
  first-following k (suc n) most [] ys zs same = same k (omega arith)
  first-following zero n most (x ∷ xs) ys zs same = refl
  first-following (suc k) zero most (x ∷ xs) ys zs same = absurd (omega (arith, most))
  first-following (suc k) (suc n) most (x ∷ xs) ys zs same =
      ap (λ l. x ∷ l) (first-following k n (omega (arith, most)) xs ys zs (λ j less. same j (omega (arith, less))))

  -- the first of joined beginnings are the first of the whole
  pub first-of-firsts : (k n : ℕ) → k ≤ n → (xs : List A) → take k (flat_map (λ x. take n (F x)) xs) ≡ take k (flat_map F xs)
  first-of-firsts k n most [] = refl
  first-of-firsts k n most (x ∷ xs) =
      first-following k n most (F x) (flat_map (λ x. take n (F x)) xs) (flat_map F xs) (λ j less. first-of-firsts j n (omega (arith, less, most)) xs)
