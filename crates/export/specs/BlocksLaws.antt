-- What a writer has met, and where its blocks stand. The idea: from a start whose chains end within the turns left, every block met
-- has its children met, and a block that is met again adds nothing, so there are no more blocks than nodes.
use Rattle.std.specs.Prelude.{◌≡◌, Bool, true, false, ◌⊎◌, eqb, length, drop}
use Rattle.std.proofs.Math.Path.{refl, ap}
use Rattle.std.proofs.Common.{◌∙◌, sym, subst, inr, ⊎_elim, add-zero}
use Rattle.std.proofs.Math.Logic.{inl}
use mathlib.Core.List.Memᴰ
use mathlib.Core.List.{List, [], ◌∷◌, ◌++◌, map, Memᴰ}
use Prim.Native.Nat.{ℕ, zero, suc, zero-le, ◌+◌, ◌-◌, ◌≤◌, ◌<◌}
use native.Mathlib.Omega.{arith}
use Rattle.std.proofs.Math.ListN.{length-append}
use Rattle.std.proofs.Math.Seq.{drop-append_seam}
use Rattle.laws.specs.Cases.{split, below?}
use Rattle.laws.specs.Lists.{filtered, member, some_of, join_all, join_map_append}
use Rattle.laws.specs.Same.{Exact}
use Rattle.laws.proofs.SameLaws.{exact-number, exact-apart}
use Rattle.laws.specs.Members.{member_mem, mem_member, some_of_lem, filtered-length, filtered-less}
use Rattle.laws.specs.Without.{below, length-below, in_below}
use Rattle.export.specs.Blocks.{each, met, block_at, total}

module _ {A : Type 0} (children : A → List A) where
  -- every chain of children from p is shorter than k
  abbrev pub Low : ℕ → A → Type 0
  Low zero p = ⊥
  Low (suc k) p = (q : A) → Memᴰ q (children p) → Low k q

module _ {A : Type 0} {same : A → A → Bool} (exact : Exact same) where
  seen_mem : (p : A) (seen : List A) → some_of (same p) seen ≡ true → Memᴰ p seen
  seen_mem p seen e = let r = some_of_lem (same p) seen e in Memᴰ.cast (exact.equal p r.0 r.2) r.1

  -- ---- what holds of the blocks seen, and still holds with one more that was not seen, holds of all that are met
  module _ (children : A → List A) (S : A → Type 0) (stays : (p q : A) → S p → Memᴰ q (children p) → S q)
      (P : List A → Type 0) (more : (seen : List A) (p : A) → P seen → S p → some_of (same p) seen ≡ false → P (seen ++ p ∷ [])) where
    abbrev MeetingHolds : ℕ → Type 0
    MeetingHolds k = (seen : List A) (p : A) → P seen → S p → P (met same children k seen p)

    each_holds : (k : ℕ) → MeetingHolds k → (qs seen : List A) → P seen → ((q : A) → Memᴰ q qs → S q) → P (each (met same children k) seen qs)
    each_holds k f [] seen h s = h
    each_holds k f (q ∷ qs) seen h s =
        each_holds k f qs (met same children k seen q) (f seen q h (s q (Memᴰ.head refl))) (λ r m. s r (Memᴰ.tail m))

    pub met_holds : (k : ℕ) → MeetingHolds k
    unfolding met
    met_holds zero seen p h s = h
    met_holds (suc k) seen p h s =
        split (some_of (same p) seen)
        (λ t. rw (t, met) h)
        (λ t. rw (t, met) (each_holds k (met_holds k) (children p) (seen ++ p ∷ []) (more seen p h s t) (λ q m. stays p q s m)))

    -- the same from nothing seen, where it holds of the first block alone
    met-from-first : (k : ℕ) (p : A) → P (p ∷ []) → S p → P (met same children (suc k) [] p)
    unfolding met
    met-from-first k p h s = each_holds k (met_holds k) (children p) (p ∷ []) h (λ q m. stays p q s m)

  module _ (children : A → List A) where
    -- what holds of the start and goes over to children holds of every block met
    module _ (S : A → Type 0) (stays : (p q : A) → S p → Memᴰ q (children p) → S q) where
      pub every-met : (k : ℕ) (p : A) → S p → (x : A) → Memᴰ x (met same children k [] p) → S x
      every-met k p s =
          met_holds children S stays (λ l. (x : A) → Memᴰ x l → S x)
          (λ seen q h t e x m. ⊎_elim (λ i. h x i) (λ i. subst S (sym (Memᴰ.eq_of_singleton i)) t) (Memᴰ.append_cases seen m))
          k [] p (λ x m. absurd (Memᴰ.not-nil m)) s

    -- the start stands first
    pub first-met : (k : ℕ) (p : A) → (r : List A) × (met same children (suc k) [] p ≡ p ∷ r)
    first-met k p =
        met-from-first children (λ _. Unit) (λ _ _ _ _. tt) (λ l. (r : List A) × (l ≡ p ∷ r))
        (λ seen q h _ e. (h.0 ++ q ∷ [], ap (◌++ q ∷ []) h.1)) k p ([], refl) tt

    -- ---- no child is left out
    -- what was seen stays, and what was not has its children met
    record MetOnward (seen result : List A) : Type 0 where
      keeps : (x : A) → Memᴰ x seen → Memᴰ x result
      closed : (x : A) → Memᴰ x result → Memᴰ x seen ⊎ ((q : A) → Memᴰ q (children x) → Memᴰ q result)

    met-then : (a b c : List A) → MetOnward a b → MetOnward b c → MetOnward a c
    met-then a b c h k =
        record {
          keeps = λ x m. k.keeps x (h.keeps x m);
          closed = λ x m. ⊎_elim
              (λ i. ⊎_elim (λ j. inl j) (λ f. inr (λ q n. k.keeps q (f q n))) (h.closed x i))
              (λ f. inr f)
              (k.closed x m);
        }

    -- a block with its children met
    met-after : (seen result : List A) (p : A) → MetOnward (seen ++ p ∷ []) result → ((q : A) → Memᴰ q (children p) → Memᴰ q result)
        → MetOnward seen result
    met-after seen result p h own =
        record {
          keeps = λ x m. h.keeps x (Memᴰ.append_left (p ∷ []) m);
          closed = λ x m. ⊎_elim
              (λ i. ⊎_elim
              (λ j. inl j)
              (λ j. inr (λ q n. own q (subst (λ z. Memᴰ q (children z)) (Memᴰ.eq_of_singleton j) n)))
              (Memᴰ.append_cases seen i))
              (λ f. inr f)
              (h.closed x m);
        }

    abbrev MetFrom : ℕ → Type 0
    MetFrom k = (seen : List A) (p : A) → Low children k p → MetOnward seen (met same children k seen p) × Memᴰ p (met same children k seen p)

    each-met : (k : ℕ) → MetFrom k → (qs seen : List A) → ((q : A) → Memᴰ q qs → Low children k q)
        → MetOnward seen (each (met same children k) seen qs) × ((q : A) → Memᴰ q qs → Memᴰ q (each (met same children k) seen qs))
    each-met k f [] seen l = (record { keeps = λ x m. m; closed = λ x m. inl m }, λ q m. absurd (Memᴰ.not-nil m))
    each-met k f (q ∷ qs) seen l =
        let a = f seen q (l q (Memᴰ.head refl)) in
        let b = each-met k f qs (met same children k seen q) (λ r m. l r (Memᴰ.tail m)) in (
          met-then seen (met same children k seen q) (each (met same children k) (met same children k seen q) qs) a.0 b.0,
          λ r m. ⊎_elim (λ i. Memᴰ.cast i (b.0.keeps q a.1)) (λ n. b.1 r n) (Memᴰ.cases_cons m),
        )

    met-from : (k : ℕ) → MetFrom k
    unfolding met
    met-from zero seen p l = absurd l
    met-from (suc k) seen p l =
        split (some_of (same p) seen)
        (λ t. rw (t, met) (record { keeps = λ x m. m; closed = λ x m. inl m }, seen_mem p seen t))
        (λ t. rw (t, met) (
        let b = each-met k (met-from k) (children p) (seen ++ p ∷ []) l in
        let here = b.0.keeps p (Memᴰ.append_right seen (Memᴰ.head refl)) in
        (met-after seen (each (met same children k) (seen ++ p ∷ []) (children p)) p b.0 b.1, here)))

    pub start-met : (k : ℕ) (p : A) → Low children k p → Memᴰ p (met same children k [] p)
    start-met k p l = (met-from k [] p l).1

    pub children_met : (k : ℕ) (p : A) → Low children k p
        → (x q : A) → Memᴰ x (met same children k [] p) → Memᴰ q (children x) → Memᴰ q (met same children k [] p)
    children_met k p l x q m n = ⊎_elim (λ i. absurd (Memᴰ.not-nil i)) (λ f. f q n) ((met-from k [] p l).0.closed x m)

-- ---- as many blocks of numbers below n as there are such numbers, or fewer
module _ (children : ℕ → List ℕ) where
  still-member : (seen : List ℕ) (p x : ℕ) → member x seen ≡ true → member x (seen ++ p ∷ []) ≡ true
  still-member seen p x e = mem_member x (seen ++ p ∷ []) (Memᴰ.append_left (p ∷ []) (member_mem x seen e))

  module _ (n : ℕ) (stays : (p q : ℕ) → p < n → Memᴰ q (children p) → q < n) where
    abbrev seen_below : List ℕ → List ℕ
    seen_below seen = filtered (λ x. member x seen) (below n)

    one_more : (seen : List ℕ) (p : ℕ) → length seen ≤ length (seen_below seen) → p < n → member p seen ≡ false
        → length (seen ++ p ∷ []) ≤ length (seen_below (seen ++ p ∷ []))
    one_more seen p h i e =
        let new = mem_member p (seen ++ p ∷ []) (Memᴰ.append_right seen (Memᴰ.head refl)) in
        let a = filtered-less (λ x. member x seen) (λ x. member x (seen ++ p ∷ [])) (still-member seen p) (below n) p (in_below n p i) e new in
        let b = length-append seen (p ∷ []) in
        omega arith

    pub few-met : (k p : ℕ) → p < n → length (met eqb children k [] p) ≤ n
    few-met k p i =
        let a = met_holds exact-number children (λ q. q < n) stays (λ l. length l ≤ length (seen_below l)) one_more k [] p zero-le i in
        let b = filtered-length (λ x. member x (met eqb children k [] p)) (below n) in
        let c = length-below n in
        omega arith

-- ---- where a block stands
pub record Stands {A : Type 0} (l : List A) (p : A) : Type 0 where
  pub before : List A
  pub after : List A
  pub is : l ≡ before ++ p ∷ after

module _ {A : Type 0} (size : A → ℕ) (block : A → List ℕ) (fits : (q : A) → length (block q) ≡ size q) where
  pub blocks-length : (l : List A) → length (join_all (map block l)) ≡ total size l
  unfolding total
  blocks-length [] = refl
  blocks-length (q ∷ l) =
      let a = fits q in
      let b = blocks-length l in
      length-append (block q) (join_all (map block l)) ∙ omega arith

-- blocks of a node or more take as many nodes as there are blocks, or more
pub blocks-most : {A : Type 0} (size : A → ℕ) (l : List A) → ((q : A) → Memᴰ q l → 0 < size q) → length l ≤ total size l
unfolding total
blocks-most size [] h = zero-le
blocks-most size (q ∷ l) h =
    let a = h q (Memᴰ.head refl) in
    let b = blocks-most size l (λ r m. h r (Memᴰ.tail m)) in
    omega arith

module _ {A : Type 0} {same : A → A → Bool} (exact : Exact same) (size : A → ℕ) where
  -- after the blocks of those before it
  pub block-stands : (block : A → List ℕ) → ((q : A) → length (block q) ≡ size q) → (l : List A) (at : ℕ) (p : A) → Memᴰ p l
      → (s : Stands l p) × (block_at same size at l p ≡ at + length (join_all (map block s.before)))
  unfolding block_at
  block-stands block fits [] at p m = absurd (Memᴰ.not-nil m)
  block-stands block fits (q ∷ l) at p m =
      split (same p q)
      (λ t. (record { before = []; after = l; is = ap (◌∷ l) (sym (exact.equal p q t)) }, rw (t, block_at) (sym (add-zero at))))
      (λ t.
      let r = block-stands block fits l (at + size q) p (⊎_elim (λ i. absurd (exact-apart exact p q t i)) (λ n. n) (Memᴰ.cases_cons m)) in
      let n = length-append (block q) (join_all (map block r.0.before)) in
      let f = fits q in
      let e = r.1 in (
        record { before = q ∷ r.0.before; after = r.0.after; is = ap (q ∷◌) r.0.is },
        rw (t, block_at) (e ∙ omega arith),
      ))

  -- so after d nodes
  pub block-at : (block : A → List ℕ) → ((q : A) → length (block q) ≡ size q) → (l : List A) (at : ℕ) (p : A) → Memᴰ p l
      → (d : ℕ) × (rest : List ℕ) × (block_at same size at l p ≡ at + d) × (drop d (join_all (map block l)) ≡ block p ++ rest)
  block-at block fits l at p m =
      let r = block-stands block fits l at p m in
      let first = join_all (map block r.0.before) in
      let rest = join_all (map block r.0.after) in (
        length first,
        rest,
        r.1,
        ap (λ x. drop (length first) (join_all (map block x))) r.0.is
            ∙ ap (drop (length first)) (join_map_append block r.0.before (p ∷ r.0.after))
            ∙ drop-append_seam first (block p ++ rest),
      )

  pub block-first : (at : ℕ) (p : A) (l : List A) → block_at same size at (p ∷ l) p ≡ at
  unfolding block_at
  block-first at p l = rw (exact.itself p, block_at)

  -- a block ends where all do, or before
  pub block_within : (l : List A) (at : ℕ) (p : A) → Memᴰ p l → block_at same size at l p + size p ≤ at + total size l
  unfolding block_at total
  block_within [] at p m = absurd (Memᴰ.not-nil m)
  block_within (q ∷ l) at p m =
      split (same p q)
      (λ t. rw (t, block_at) (let e = ap size (exact.equal p q t) in omega arith))
      (λ t.
      let r = block_within l (at + size q) p (⊎_elim (λ i. absurd (exact-apart exact p q t i)) (λ n. n) (Memᴰ.cases_cons m)) in
      rw (t, block_at) (omega arith))

-- and any number asked for is at most that of the end
module _ {A : Type 0} (same : A → A → Bool) (size : A → ℕ) where
  pub block_upto : (l : List A) (at : ℕ) (p : A) → block_at same size at l p ≤ at + total size l
  unfolding block_at total
  block_upto [] at p = omega arith
  block_upto (q ∷ l) at p =
      split (same p q)
      (λ t. rw (t, block_at) (omega arith))
      (λ t. let r = block_upto l (at + size q) p in rw (t, block_at) (omega arith))

  pub block-from : (l : List A) (at : ℕ) (p : A) → at ≤ block_at same size at l p
  unfolding block_at
  block-from [] at p = omega arith
  block-from (q ∷ l) at p =
      split (same p q)
      (λ t. rw (t, block_at) (omega arith))
      (λ t. let r = block-from l (at + size q) p in rw (t, block_at) (omega arith))

-- ---- every place among the blocks is in one of them
module _ {A : Type 0} (block : A → List ℕ) where
  pub record AmongBlocks (l : List A) (i : ℕ) : Type 0 where
    pub one : A
    pub stands : Stands l one
    pub along : ℕ
    pub within : along < length (block one)
    pub is : i ≡ length (join_all (map block stands.before)) + along

  pub among-blocks : (l : List A) (i : ℕ) → i < length (join_all (map block l)) → AmongBlocks l i
  among-blocks [] i h = absurd (omega arith)
  among-blocks (q ∷ l) i h =
      let n = length-append (block q) (join_all (map block l)) in
      ⊎_elim
      (λ (w : i < length (block q)). record {
        one = q;
        stands = record { before = []; after = l; is = refl };
        along = i;
        within = w;
        is = omega arith;
      })
      (λ (past : length (block q) ≤ i).
      let r = among-blocks l (i - length (block q)) (omega arith) in
      let e = r.is in
      let m = length-append (block q) (join_all (map block r.stands.before)) in
      let s = r.stands in
      record {
        one = r.one;
        stands = record { before = q ∷ s.before; after = s.after; is = ap (q ∷◌) {y = s.before ++ r.one ∷ s.after} s.is };
        along = r.along;
        within = r.within;
        is = omega arith;
      })
      (below? i (length (block q)))
