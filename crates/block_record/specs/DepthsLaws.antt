-- Depths of blocks while they are numbered. The idea: each arc followed adds one run to every chain, so an arc to a block that is being
-- followed closes a loop; and the depth of a run is one more than the most of those that its arcs lead to.
use Rattle.std.specs.Prelude.{◌≡◌, ◌≢◌, true, ◌||◌, ltb, eqb, length, get_or, set}
use Rattle.std.proofs.Math.Path.{refl, sym}
use Rattle.std.proofs.Common.{ap, ◌∙◌, subst, true≢false, arith, le-ltb, lt-ltb, eqb-true, length-set, get_or-set_same, get_or-set_other}
use Rattle.std.proofs.Math.Bool.{or-false, or_assoc}
use mathlib.Core.List.{List, [], ◌∷◌, Memᴰ}
use Prim.Native.Nat.{ℕ, zero, suc, ◌+◌, ◌*◌, ◌≤◌, ◌<◌, max}
use Rattle.std.proofs.lemmas.Bool.{eqb-false}
use Rattle.laws.specs.Cases.{split}
use Rattle.laws.specs.Lists.{some_of}
use Rattle.laws.specs.Members.{some_of_lem, of_some}
use Rattle.graph.specs.Runs.{Graph}
use Rattle.export.specs.Starts.{arcs_from, deeper}
use Rattle.export.specs.ChainLaws.{shallow-arc, shallow-more, shallow_over}
use Rattle.laws.specs.Tests.{ltb-max, ltb-suc}
use Rattle.block_record.specs.Depths.{depth_at, Depth, Deepest, Followed, Depths, Below, NoneBut, NoneLeft}
use Rattle.block_record.specs.Record.{block_pushed}
use Rattle.block_record.specs.declared.BlockTally.{BlockTally}

module _ (g : Graph) where
  -- ---- chains by one arc
  pub deep-by-arc : (k p q : ℕ) → Memᴰ q (arcs_from g p) → deeper g k q ≡ true → deeper g (suc k) p ≡ true
  deep-by-arc k p q m e =
      split (deeper g (suc k) p) (λ t. t) (λ t. absurd (true≢false (sym e ∙ shallow-arc g k p q t m)))

  deep-less : (k p : ℕ) → deeper g (suc k) p ≡ true → deeper g k p ≡ true
  deep-less k p e = split (deeper g k p) (λ t. t) (λ t. absurd (true≢false (sym e ∙ shallow-more g k p t)))

  -- a block that is being followed, met again: chains from it have no end
  pub loop-deep : (w : List ℕ) (q : ℕ) → Below g w q → q < length g → Followed g w q → (k : ℕ) → deeper g k q ≡ true
  unfolding deeper
  loop-deep w q h l f zero = refl
  loop-deep w q h l f (suc k) = h q l f k (loop-deep w q h l f k)

  -- what p's arcs lead to, while p is followed
  pub below-arc : (w w' : List ℕ) (p q : ℕ) → Below g w p → NoneBut g p w w' → Memᴰ q (arcs_from g p) → Below g w' q
  below-arc w w' p q h n m o l f k e =
      let d = deep-by-arc k p q m e in
      split (eqb o p)
      (λ t. ap (deeper g (suc k)) (eqb-true o p t) ∙ d)
      (λ t. deep-less (suc k) o (h o l (n o l (eqb-false o p t) f) (suc k) d))

  -- ---- the depth of a run by what its arcs lead to
  module _ (p : ℕ) (children : List ℕ) (down : (q : ℕ) → Memᴰ q children → Memᴰ q (arcs_from g p))
      (up : (q : ℕ) → Memᴰ q (arcs_from g p) → Memᴰ q children) where
    some-child : (k : ℕ) → some_of (deeper g k) children ≡ deeper g (suc k) p
    some-child k =
        split (some_of (deeper g k) children)
        (λ t. let r = some_of_lem (deeper g k) children t in t ∙ sym (deep-by-arc k p r.0 (down r.0 r.1) r.2))
        (λ t. t ∙ sym (shallow_over g k p (λ q m. split (deeper g k q)
        (λ d. absurd (true≢false (sym (of_some (deeper g k) children q (up q m) d) ∙ t))) (λ d. d))))

    pub deepest-none : Deepest g p 0 children
    deepest-none k = ap (λ b. b || some_of (deeper g k) children) (le-ltb k 0 (omega arith)) ∙ some-child k

  pub deepest-next : (p h d q : ℕ) (rest : List ℕ) → Depth g q d → Deepest g p h (q ∷ rest) → Deepest g p (max h d) rest
  deepest-next p h d q rest e a k =
      ap (λ b. b || some_of (deeper g k) rest) (sym (ltb-max k h d) ∙ ap (λ b. ltb k h || b) (sym (e k)))
      ∙ or_assoc (ltb k h) (deeper g k q) (some_of (deeper g k) rest) ∙ a k

  pub deepest-all : (p h : ℕ) → Deepest g p h [] → Depth g p (h + 1)
  unfolding deeper
  deepest-all p h a zero = sym (lt-ltb 0 (h + 1) (omega arith))
  deepest-all p h a (suc k) = sym (a k) ∙ or-false (ltb k h) ∙ ltb-suc k h

-- ---- the entries of the work list
pub depths-none : (g : Graph) (w : List ℕ) → ((q : ℕ) → q < length g → get_or w q 0 ≡ 0) → Depths g w × ((p : ℕ) → Below g w p)
depths-none g w z = ((λ q l e. absurd (e (z q l))), λ p q l f. absurd (f.0 (z q l)))

-- a depth put in, and nothing else
module _ (g : Graph) (w : List ℕ) (p d : ℕ) (l : p < length g) (room : 3 * length g ≤ length w) where
  abbrev after : List ℕ
  after = set w (depth_at (length g) p) d

  place_same : (q : ℕ) → q < length g → get_or after q 0 ≡ get_or w q 0
  place_same q m = get_or-set_other w (depth_at (length g) p) q d 0 (λ e. omega arith)

  depth-other : (q : ℕ) → q ≢ p → get_or after (depth_at (length g) q) 0 ≡ get_or w (depth_at (length g) q) 0
  depth-other q n = get_or-set_other w (depth_at (length g) p) (depth_at (length g) q) d 0 (λ e. n (omega arith))

  depth_same : get_or after (depth_at (length g) p) 0 ≡ d
  depth_same = get_or-set_same w (depth_at (length g) p) d 0 (omega arith)

  none-but : NoneBut g p w after
  none-but q m n f = ((λ e. f.0 (place_same q m ∙ e)), sym (depth-other q n) ∙ f.1)

  -- a block that is numbered and followed from now on, or whose depth is found
  pub depths-kept : (d ≢ 0 → Depth g p d) → Depths g w → Depths g after
  depths-kept own h q m a b =
      split (eqb q p)
      (λ t.
      let i = eqb-true q p t in
      let same = ap (λ x. get_or after (depth_at (length g) x) 0) i ∙ depth_same in
      subst (Depth g q) (sym same) (subst (λ x. Depth g x d) (sym i) (own (λ z. b (same ∙ z)))))
      (λ t.
      let n = eqb-false q p t in
      subst (Depth g q) (sym (depth-other q n)) (h q m (λ e. a (place_same q m ∙ e)) (λ e. b (depth-other q n ∙ e))))

  -- then p is no longer followed
  pub none-left-followed : (w₀ : List ℕ) → d ≢ 0 → NoneBut g p w₀ w → NoneLeft g w₀ after
  none-left-followed w₀ n h q m f =
      let other : q ≢ p = λ i. n (sym (ap (λ x. get_or after (depth_at (length g) x) 0) i ∙ depth_same) ∙ f.1) in
      h q m other (none-but q m other f)

-- an entry past the depths changes nothing of what is followed
pub left-past : (g : Graph) (w₀ w : List ℕ) (i v : ℕ) → 3 * length g ≤ i → NoneLeft g w₀ w → NoneLeft g w₀ (set w i v)
left-past g w₀ w i v b h q m f =
    h q m (
      (λ e. f.0 (get_or-set_other w i q v 0 (λ z. omega arith) ∙ e)),
      sym (get_or-set_other w i (depth_at (length g) q) v 0 (λ z. omega arith)) ∙ f.1,
    )

-- a block put into the record, its depth 0: it is numbered, and followed from now on
module _ (g : Graph) (w : List ℕ) (p : ℕ) (t : BlockTally) (l : p < length g) (few : t.blocks < length g) (room : 3 * length g ≤ length w) where
  abbrev pushed : List ℕ
  pushed = block_pushed (length g) w p t

  abbrev opened : List ℕ
  opened = set pushed (depth_at (length g) p) 0

  pushed_room : 3 * length g ≤ length pushed
  pushed_room = simp length-set room

  place-before : (q : ℕ) → q < length g → q ≢ p → get_or pushed q 0 ≡ get_or w q 0
  place-before q m n =
      get_or-set_other (set w p (t.nodes + 1)) (length g + t.blocks) q p 0 (λ e. omega arith) ∙ get_or-set_other w p q (t.nodes + 1) 0 n

  depth-before : (q : ℕ) → get_or pushed (depth_at (length g) q) 0 ≡ get_or w (depth_at (length g) q) 0
  depth-before q =
      get_or-set_other (set w p (t.nodes + 1)) (length g + t.blocks) (depth_at (length g) q) p 0 (λ e. omega arith)
      ∙ get_or-set_other w p (depth_at (length g) q) (t.nodes + 1) 0 (λ e. omega arith)

  pub opened-but : NoneBut g p w opened
  opened-but q m n f =
      let k = none-but g pushed p 0 l pushed_room q m n f in
      ((λ e. k.0 (place-before q m n ∙ e)), sym (depth-before q) ∙ k.1)

  pub opened-depths : Depths g w → Depths g opened
  opened-depths h q m a d =
      split (eqb q p)
      (λ t. absurd (d (ap (λ x. get_or opened (depth_at (length g) x) 0) (eqb-true q p t) ∙ depth_same g pushed p 0 l pushed_room)))
      (λ t.
      let n = eqb-false q p t in
      let same = depth-other g pushed p 0 l pushed_room q n ∙ depth-before q in
      let place = place_same g pushed p 0 l pushed_room q m ∙ place-before q m n in
      subst (Depth g q) (sym same) (h q m (λ e. a (place ∙ e)) (λ e. d (same ∙ e))))
