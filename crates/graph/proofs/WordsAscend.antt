-- On a graph whose runs ascend the words from a node ascend strictly, so that none comes twice. The idea: the words of one node begin
-- with its tile, and those of the nodes after it with higher ones.
use Rattle.std.specs.Prelude.{◌≡◌, true, false, ◌||◌, eqb, length, get_or, drop}
use Rattle.std.proofs.Math.Path.{refl}
use Rattle.std.proofs.Common.{ap, ◌∙◌, subst, arith, drop-cons}
use mathlib.Core.List.{List, [], ◌∷◌, ◌++◌, map, head-eq_of_cons-eq, tail-eq_of_cons-eq, nil≢cons}
use Prim.Native.Nat.{ℕ, zero, suc, zero-le, ◌≤◌, ◌<◌}
use Rattle.std.proofs.Math.Dec.{ltb}
use borrow.Author.Tests.{ltb-true}
use Rattle.laws.specs.Cases.{split, and_left, and_right}
use Rattle.laws.specs.Lists.{All, all_append, all_weaken, all_mem}
use Rattle.laws.specs.NoRepeats.{NoRepeats}
use Rattle.node.specs.Nodes.{BitLayout, tile, arc, accepts, is_end}
use Rattle.graph.specs.Runs.{Graph, node, run, ascends}
use Rattle.graph.specs.Words.{Word, in_order, spelled, words_within, words}
use Rattle.graph.specs.Order.{◌≺◌, prefix, lower, later, Ascending}

pub ≺-differ : {u v : Word} → u ≺ v → u ≡ v → ⊥
≺-differ prefix e = nil≢cons e
≺-differ (lower h) e = let k = head-eq_of_cons-eq e in omega arith
≺-differ (later h) e = ≺-differ h (tail-eq_of_cons-eq e)

pub ascending-once : (ws : List Word) → Ascending ws → NoRepeats ws
ascending-once [] a = tt
ascending-once (w ∷ ws) a = ((λ m. ≺-differ (all_mem (w ≺◌) ws w a.0 m) refl), ascending-once ws a.1)

-- the word has a first tile, and it is at least t
abbrev pub From : ℕ → Word → Type 0
From t [] = ⊥
From t (a ∷ u) = t ≤ a

-- the word has a first tile, and it is t
abbrev pub BeginsWith : ℕ → Word → Type 0
BeginsWith t [] = ⊥
BeginsWith t (a ∷ u) = a ≡ t

begins-map : (t : ℕ) (ws : List Word) → All (BeginsWith t) (map (t ∷◌) ws)
begins-map t [] = tt
begins-map t (w ∷ ws) = (refl, begins-map t ws)

lower-first : (t : ℕ) (x y : Word) → BeginsWith t x → From (suc t) y → x ≺ y
lower-first t (a ∷ u) (b ∷ v) h k = let l : a < b = omega arith in lower l
lower-first t [] y h k = absurd h
lower-first t (a ∷ u) [] h k = absurd k

ascending_append : (t : ℕ) (xs ys : List Word) → All (BeginsWith t) xs → All (From (suc t)) ys → Ascending xs → Ascending ys → Ascending (xs ++ ys)
ascending_append t [] ys h k a b = b
ascending_append t (x ∷ xs) ys h k a b =
    (all_append (x ≺◌) xs ys a.0 (all_weaken (From (suc t)) (x ≺◌) (λ y f. lower-first t x y h.0 f) ys k), ascending_append t xs ys h.1 k a.1 b)

all_under : (t : ℕ) (w : Word) (ws : List Word) → All (w ≺◌) ws → All ((t ∷ w) ≺◌) (map (t ∷◌) ws)
all_under t w [] h = tt
all_under t w (v ∷ vs) h = (later h.0, all_under t w vs h.1)

ascending-map : (t : ℕ) (ws : List Word) → Ascending ws → Ascending (map (t ∷◌) ws)
ascending-map t [] a = tt
ascending-map t (w ∷ ws) a = (all_under t w ws a.0, ascending-map t ws a.1)

alone-first : (t : ℕ) (ws : List Word) → All (From 0) ws → All ((t ∷ []) ≺◌) (map (t ∷◌) ws)
alone-first t [] h = tt
alone-first t ([] ∷ ws) h = absurd h.0
alone-first t ((a ∷ u) ∷ ws) h = (later prefix, alone-first t ws h.1)

module _ (y : BitLayout) where
  pub ascends_tail : (v w : ℕ) (l : Graph) → ascends y (v ∷ w ∷ l) ≡ true → ascends y (w ∷ l) ≡ true
  unfolding ascends
  ascends_tail v w l a = and_right (is_end y v || ltb (tile y v) (tile y w)) (ascends y (w ∷ l)) a

  pub ascends-head : (v w : ℕ) (l : Graph) → ascends y (v ∷ w ∷ l) ≡ true → is_end y v ≡ false → tile y v < tile y w
  unfolding ascends
  ascends-head v w l a e = ltb-true (tile y v) (tile y w) (rw e at (and_left (is_end y v || ltb (tile y v) (tile y w)) (ascends y (w ∷ l)) a))

  module _ (from : ℕ → List Word) where
    pub spelled-begins : (v : ℕ) → All (BeginsWith (tile y v)) (spelled y from v)
    unfolding spelled
    spelled-begins v =
        split (accepts y v)
        (λ a. split (eqb (arc y v) 0) (λ z. rw (a, z, spelled) (refl, tt)) (λ z. rw (a, z, spelled) (refl, begins-map (tile y v) (from (arc y v)))))
        (λ a. split (eqb (arc y v) 0) (λ z. rw (a, z, spelled) tt) (λ z. rw (a, z, spelled) (begins-map (tile y v) (from (arc y v)))))

    at_least : (t : ℕ) (v : ℕ) → t ≤ tile y v → (w : Word) → BeginsWith (tile y v) w → From t w
    at_least t v h [] b = b
    at_least t v h (a ∷ u) b = omega arith

    one-head : (t : ℕ) (v : ℕ) → t ≤ tile y v → All (From t) (spelled y from v)
    one-head t v h = all_weaken (BeginsWith (tile y v)) (From t) (at_least t v h) (spelled y from v) (spelled-begins v)

    -- the words of an ascending run, t at most its first tile
    pub heads : (l : Graph) (t : ℕ) → ascends y l ≡ true → t ≤ tile y (get_or l 0 0) → All (From t) (in_order (spelled y from) (run y l))
    unfolding run in_order ascends
    heads [] t a h = tt
    heads (v ∷ []) t a h =
        split (is_end y v)
        (λ e. rw (e, run) (all_append (From t) (spelled y from v) [] (one-head t v h) tt))
        (λ e. rw (e, run) (all_append (From t) (spelled y from v) [] (one-head t v h) tt))
    heads (v ∷ w ∷ l) t a h =
        split (is_end y v)
        (λ e. rw (e, run) (all_append (From t) (spelled y from v) [] (one-head t v h) tt))
        (λ e.
        let lt : tile y v < tile y w = ascends-head v w l a e in
        rw (e, run) (all_append (From t) (spelled y from v) (in_order (spelled y from) (run y (w ∷ l))) (one-head t v h)
        (heads (w ∷ l) t (ascends_tail v w l a) (omega arith))))

    all-nonempty : (l : List ℕ) → All (From 0) (in_order (spelled y from) l)
    unfolding in_order
    all-nonempty [] = tt
    all-nonempty (v ∷ l) = all_append (From 0) (spelled y from v) (in_order (spelled y from) l) (one-head 0 v zero-le) (all-nonempty l)

    module _ (nonempty : (q : ℕ) → All (From 0) (from q)) (sorted : (q : ℕ) → Ascending (from q)) where
      spelled-ascending : (v : ℕ) → Ascending (spelled y from v)
      unfolding spelled
      spelled-ascending v =
          split (accepts y v)
          (λ a. split (eqb (arc y v) 0)
          (λ z. rw (a, z, spelled) (tt, tt))
          (λ z. rw (a, z, spelled) (alone-first (tile y v) (from (arc y v)) (nonempty (arc y v)), ascending-map (tile y v) (from (arc y v)) (sorted (arc y v)))))
          (λ a. split (eqb (arc y v) 0)
          (λ z. rw (a, z, spelled) tt)
          (λ z. rw (a, z, spelled) (ascending-map (tile y v) (from (arc y v)) (sorted (arc y v)))))

      run-ascending : (l : Graph) → ascends y l ≡ true → Ascending (in_order (spelled y from) (run y l))
      unfolding run in_order ascends
      run-ascending [] a = tt
      run-ascending (v ∷ []) a =
          split (is_end y v)
          (λ e. rw (e, run) (ascending_append (tile y v) (spelled y from v) [] (spelled-begins v) tt (spelled-ascending v) tt))
          (λ e. rw (e, run) (ascending_append (tile y v) (spelled y from v) [] (spelled-begins v) tt (spelled-ascending v) tt))
      run-ascending (v ∷ w ∷ l) a =
          split (is_end y v)
          (λ e. rw (e, run) (ascending_append (tile y v) (spelled y from v) [] (spelled-begins v) tt (spelled-ascending v) tt))
          (λ e.
          let lt : tile y v < tile y w = ascends-head v w l a e in
          rw (e, run) (ascending_append (tile y v) (spelled y from v) (in_order (spelled y from) (run y (w ∷ l))) (spelled-begins v)
          (heads (w ∷ l) (suc (tile y v)) (ascends_tail v w l a) lt) (spelled-ascending v) (run-ascending (w ∷ l) (ascends_tail v w l a))))

  pub ascends-drop : (p : ℕ) (g : Graph) → ascends y g ≡ true → ascends y (drop p g) ≡ true
  unfolding ascends
  ascends-drop zero g a = a
  ascends-drop (suc p) [] a = refl
  ascends-drop (suc p) (v ∷ []) a = ascends-drop p [] refl
  ascends-drop (suc p) (v ∷ w ∷ l) a = ascends-drop p (w ∷ l) (ascends_tail v w l a)

  -- every word has a tile
  pub within-nonempty : (k : ℕ) (g : Graph) (p : ℕ) → All (From 0) (words_within y k g p)
  unfolding words_within
  within-nonempty zero g p = tt
  within-nonempty (suc k) g p = all-nonempty (λ q. words_within y k g q) (run y (drop p g))

  pub words-nonempty : (g : Graph) (p : ℕ) → All (From 0) (words y g p)
  unfolding words
  words-nonempty g p = within-nonempty (length g) g p

  module _ (g : Graph) (a : ascends y g ≡ true) where
    pub ascends-next : (p : ℕ) → suc p < length g → is_end y (node g p) ≡ false → tile y (node g p) < tile y (node g (suc p))
    ascends-next p h e =
        let from : drop p g ≡ node g p ∷ node g (suc p) ∷ drop (suc (suc p)) g
        = drop-cons g p 0 (omega arith) ∙ ap (node g p ∷◌) (drop-cons g (suc p) 0 h) in
        ascends-head (node g p) (node g (suc p)) (drop (suc (suc p)) g) (subst (λ l. ascends y l ≡ true) from (ascends-drop p g a)) e

    within-from-tile : (k p : ℕ) → p < length g → All (From (tile y (node g p))) (words_within y k g p)
    unfolding words_within
    within-from-tile zero p h = tt
    within-from-tile (suc k) p h =
        heads (λ q. words_within y k g q) (drop p g) (tile y (node g p)) (ascends-drop p g a) (rw (drop-cons g p 0 h) (omega arith))

    -- the words from p begin with its tile or later ones
    pub words-from-tile : (p : ℕ) → p < length g → All (From (tile y (node g p))) (words y g p)
    unfolding words
    words-from-tile p h = within-from-tile (length g) p h

    within_ascend : (k p : ℕ) → Ascending (words_within y k g p)
    unfolding words_within
    within_ascend zero p = tt
    within_ascend (suc k) p =
        run-ascending (λ q. words_within y k g q) (within-nonempty k g) (within_ascend k) (drop p g) (ascends-drop p g a)

    pub words_ascend : (p : ℕ) → Ascending (words y g p)
    unfolding words
    words_ascend p = within_ascend (length g) p
