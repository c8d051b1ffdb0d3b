-- The record of blocks as it grows, for blocks of any sizes and children in any order: what it holds stays, and a block that is pushed
-- stands after the others.
use Rattle.std.specs.Prelude.{◌≡◌, ◌≢◌, Bool, true, false, ◌||◌, length, drop, take, get_or, set}
use Rattle.std.proofs.Math.Path.{refl}
use Rattle.std.proofs.Common.{ap, sym, ◌∙◌, subst, ⊎_elim, true≢false, add-one, eq-or-lt_of_le, length-drop, get_or-set_same, get_or-set_other, drop-set-lt, take-suc-set, eq-eqb, ne_eqb, eqb-true}
use mathlib.Core.List.{List, [], ◌∷◌, ◌++◌}
use Prim.Native.Nat.{ℕ, zero, suc, ◌+◌, ◌-◌, ◌≤◌, ◌<◌}
use native.Mathlib.Omega.{arith}
use Rattle.std.proofs.lemmas.List.{drop-set-add, take-set-le}
use Rattle.std.proofs.Math.Dec.{eqb}
use Rattle.std.proofs.lemmas.Bool.{eqb-false}
use Rattle.laws.specs.Cases.{split, or_false-left, or_false-right}
use Rattle.laws.specs.Lists.{member}
use Rattle.export.specs.Blocks.{each, met, met_by, block_at, total}
use Rattle.block_record.specs.declared.Place.TheVariants.{Numbered, Unnumbered}
use Rattle.block_record.specs.declared.BlockTally.{BlockTally}
use Rattle.block_record.specs.Record.{place_at, child_in, order_in, block_pushed, Pushed, used, HoldsBlocks}

-- ---- entries that are not 0
mark_le : (t : Bool) → elim t [ true ↦ 0 | false ↦ 1 ] ≤ 1
mark_le true = omega arith
mark_le false = omega arith

used_le : (n : ℕ) (w : List ℕ) → used n w ≤ n
unfolding used
used_le zero w = omega arith
used_le (suc n) w = omega (arith, used_le n w, mark_le (eqb (get_or w n 0) 0))

-- where one of the first n entries is 0, fewer than n are not
used_lt : (n : ℕ) (w : List ℕ) (p : ℕ) → p < n → get_or w p 0 ≡ 0 → used n w < n
unfolding used
used_lt zero w p h e = absurd (omega arith)
used_lt (suc n) w p h e =
    ⊎_elim
    (λ (q : p ≡ n). let z = eq-eqb (get_or w n 0) 0 (ap (λ x. get_or w x 0) (sym q) ∙ e) in let l = used_le n w in rw (z, used) (omega arith))
    (λ (q : p < n). omega (arith, used_lt n w p q e, mark_le (eqb (get_or w n 0) 0)))
    (eq-or-lt_of_le (omega arith))

used-above : (n : ℕ) (w : List ℕ) (i v : ℕ) → n ≤ i → used n (set w i v) ≡ used n w
unfolding used
used-above zero w i v h = refl
used-above (suc n) w i v h = rw (used-above n w i v (omega arith), get_or-set_other w i n v 0 (λ q. omega arith))

-- an entry of the first n that was 0 is counted once it is not
used-set : (n : ℕ) (w : List ℕ) (p v : ℕ) → p < n → p < length w → get_or w p 0 ≡ 0 → used n (set w p (v + 1)) ≡ used n w + 1
unfolding used
used-set zero w p v h l e = absurd (omega arith)
used-set (suc n) w p v h l e =
    ⊎_elim
    (λ (q : p ≡ n).
    let a = used-above n w p (v + 1) (omega arith) in
    let same = get_or-set_same w p (v + 1) 0 l in
    let b = ne_eqb (get_or (set w p (v + 1)) n 0) 0 (λ z. let y = ap (λ x. get_or (set w p (v + 1)) x 0) q ∙ z in omega arith) in
    let d = eq-eqb (get_or w n 0) 0 (ap (λ x. get_or w x 0) (sym q) ∙ e) in
    rw (b, d, used) (omega arith))
    (λ (q : p < n).
    let a = used-set n w p v q l e in
    let b = get_or-set_other w p n (v + 1) 0 (λ z. omega arith) in
    rw b (omega arith))
    (eq-or-lt_of_le (omega arith))

-- ---- membership
in_snoc : (x : ℕ) (o : List ℕ) (p : ℕ) → member x (o ++ p ∷ []) ≡ member x o || eqb x p
in_snoc x [] p = split (eqb x p) (λ t. rw t) (λ t. rw t)
in_snoc x (y ∷ o) p = split (eqb x y) (λ t. rw t) (λ t. rw t (in_snoc x o p))

-- ---- what is met
module _ (children : ℕ → List ℕ) where
  pub met-old : (c : ℕ) (o : List ℕ) (p : ℕ) → member p o ≡ true → met eqb children c o p ≡ o
  unfolding met
  met-old zero o p h = refl
  met-old (suc c) o p h = rw (h, met)

  pub met-new : (c : ℕ) (o : List ℕ) (p : ℕ) → c ≢ 0 → member p o ≡ false
      → met eqb children c o p ≡ each (λ s q. met eqb children (c - 1) s q) (o ++ p ∷ []) (children p)
  unfolding met
  met-new zero o p h e = absurd (h refl)
  met-new (suc c) o p h e =
      let z : c ≡ suc c - 1 = omega arith in
      rw (e, met) (ap (λ k. each (λ s q. met eqb children k s q) (o ++ p ∷ []) (children p)) z)

  -- through an arc
  module _ (c : ℕ) (o : List ℕ) (p : ℕ) where
    pub met-by-none : p ≡ 0 → met_by children c o p ≡ o
    unfolding met_by
    met-by-none e = rw (eq-eqb p 0 e, met_by)

    pub met-by-arc : p ≢ 0 → met_by children c o p ≡ met eqb children c o p
    unfolding met_by
    met-by-arc e = rw (ne_eqb p 0 e, met_by)

-- ---- totals and places as the order grows
module _ (size : ℕ → ℕ) where
  pub total_snoc : (o : List ℕ) (p : ℕ) → total size (o ++ p ∷ []) ≡ total size o + size p
  unfolding total
  total_snoc [] p = omega arith
  total_snoc (q ∷ o) p = omega (arith, total_snoc o p)

  each-total : (f : List ℕ → ℕ → List ℕ) → ((o : List ℕ) (p : ℕ) → total size o ≤ total size (f o p))
      → (o ps : List ℕ) → total size o ≤ total size (each f o ps)
  each-total f h o [] = omega arith
  each-total f h o (p ∷ ps) = omega (arith, h o p, each-total f h (f o p) ps)

  met-total : (children : ℕ → List ℕ) (c : ℕ) (o : List ℕ) (p : ℕ) → total size o ≤ total size (met eqb children c o p)
  unfolding met
  met-total children zero o p = omega arith
  met-total children (suc c) o p =
      split (member p o)
      (λ e. rw (e, met) (omega arith))
      (λ e.
      let a = total_snoc o p in
      let b = each-total (λ s q. met eqb children c s q) (met-total children c) (o ++ p ∷ []) (children p) in
      rw (e, met) (omega arith))

  pub all-total : (children : ℕ → List ℕ) (c : ℕ) (o ps : List ℕ) → total size o ≤ total size (each (λ s q. met eqb children c s q) o ps)
  all-total children c o ps = each-total (λ s q. met eqb children c s q) (met-total children c) o ps

  at_old : (base : ℕ) (o : List ℕ) (p q : ℕ) → member q o ≡ true → block_at eqb size base (o ++ p ∷ []) q ≡ block_at eqb size base o q
  unfolding block_at
  at_old base [] p q h = absurd (true≢false (sym h))
  at_old base (x ∷ o) p q h = split (eqb q x) (λ e. rw (e, block_at)) (λ e. rw (e, block_at) (at_old (base + size x) o p q (rw e at h)))

  at_new : (base : ℕ) (o : List ℕ) (p : ℕ) → member p o ≡ false → block_at eqb size base (o ++ p ∷ []) p ≡ base + total size o
  unfolding block_at total
  at_new base [] p h = rw (eq-eqb p p refl, block_at) (omega arith)
  at_new base (x ∷ o) p h =
      split (eqb p x)
      (λ e. absurd (true≢false (sym (rw e) ∙ h)))
      (λ e. let a = at_new (base + size x) o p (rw e at h) in rw (e, block_at) (omega arith))

-- ---- how many blocks there are: one for each node at most, and fewer where a node has none
module _ {n : ℕ} {size : ℕ → ℕ} {base : ℕ} {w : List ℕ} {t : BlockTally} {o : List ℕ} (h : HoldsBlocks n size base w t o) where
  pub holds-most : t.blocks ≤ n
  holds-most = let a = used_le n w in let b = h.many in omega arith

  pub holds-room : (p : ℕ) → p < n → get_or w p 0 ≡ 0 → t.blocks < n
  holds-room p l e = let a = used_lt n w p l e in let b = h.many in omega arith

-- ---- a block pushed
module _ {n : ℕ} {size : ℕ → ℕ} {base : ℕ} {w : List ℕ} {t : BlockTally} {o : List ℕ}
    (p : ℕ) (h : HoldsBlocks n size base w t o) (l : p < n) (room : n + n ≤ length w) (fresh : member p o ≡ false) where
  few : t.blocks < n
  few = holds-room h p l (h.new p l fresh)

  -- the work list with p's place, and with p in the order
  abbrev placed : List ℕ
  placed = set w p (t.nodes + 1)

  abbrev pushed : List ℕ
  pushed = block_pushed n w p t

  pushed-order : take (suc t.blocks) (drop n pushed) ≡ o ++ p ∷ []
  pushed-order =
      ap (take (suc t.blocks))
      (drop-set-add n placed t.blocks p ∙ ap (λ x. set x t.blocks p) (drop-set-lt n w p (t.nodes + 1) l))
      ∙ take-suc-set (drop n w) t.blocks p (let f = few in simp length-drop (omega arith))
      ∙ ap (λ x. x ++ p ∷ []) h.order

  pushed-used : used n pushed ≡ t.blocks + 1
  pushed-used =
      used-above n placed (n + t.blocks) p (omega arith)
      ∙ used-set n w p t.nodes l (omega arith) (h.new p l fresh)
      ∙ ap (λ k. k + 1) h.many

  entry : (q : ℕ) → q < n → get_or pushed q 0 ≡ get_or placed q 0
  entry q m = get_or-set_other placed (n + t.blocks) q p 0 (λ e. omega arith)

  entry_other : (q : ℕ) → q < n → q ≢ p → get_or pushed q 0 ≡ get_or w q 0
  entry_other q m e = entry q m ∙ get_or-set_other w p q (t.nodes + 1) 0 e

  entry-own : get_or pushed p 0 ≡ block_at eqb size base (o ++ p ∷ []) p + 1
  entry-own =
      entry p l ∙ get_or-set_same w p (t.nodes + 1) 0 (omega arith)
      ∙ (let a = at_new size base o p fresh in let b = h.sum in omega arith)

  pub push-holds : {w' : List ℕ} {t' : BlockTally} {s : ℕ} → s ≡ size p → Pushed n w p t s w' t' → HoldsBlocks n size base w' t' (o ++ p ∷ [])
  push-holds {t' = t'} z a =
      subst (λ x. HoldsBlocks n size base x t' (o ++ p ∷ [])) (sym a.list)
      (record {
        order = ap (λ k. take k (drop n pushed)) (a.blocks ∙ add-one t.blocks) ∙ pushed-order;
        many = pushed-used ∙ sym a.blocks;
        sum = let b = h.sum in let x = a.nodes in let y = total_snoc size o p in omega arith;
        new = λ q m e.
            let f : member q o || eqb q p ≡ false = sym (in_snoc q o p) ∙ e in
            let other = eqb-false q p (or_false-right (member q o) (eqb q p) f) in
            entry_other q m other ∙ h.new q m (or_false-left (member q o) (eqb q p) f);
        old = λ q m e. split (eqb q p)
            (λ i. subst (λ x. get_or pushed x 0 ≡ block_at eqb size base (o ++ p ∷ []) x + 1) (sym (eqb-true q p i)) entry-own)
            (λ i.
            let before : member q o ≡ true =
            split (member q o) (λ k. k) (λ k. absurd (true≢false (sym e ∙ in_snoc q o p ∙ ap (λ x. x || eqb q p) k ∙ i))) in
            entry_other q m (eqb-false q p i) ∙ h.old q m before ∙ ap (λ x. x + 1) (sym (at_old size base o p q before)));
      })

-- entries after the record change nothing in it
module _ {n : ℕ} {size : ℕ → ℕ} {base : ℕ} {w : List ℕ} {t : BlockTally} {o : List ℕ} where
  pub holds-past : (i v : ℕ) → n + n ≤ i → HoldsBlocks n size base w t o → HoldsBlocks n size base (set w i v) t o
  holds-past i v b h =
      record {
        order =
            let j : i ≡ n + (i - n) = omega arith in
            let few = holds-most h in
            ap (λ x. take t.blocks (drop n (set w x v))) j ∙ ap (take t.blocks) (drop-set-add n w (i - n) v)
            ∙ take-set-le t.blocks (drop n w) (i - n) v (omega arith) ∙ h.order;
        many = used-above n w i v (omega arith) ∙ h.many;
        sum = h.sum;
        new = λ q m e. get_or-set_other w i q v 0 (λ z. omega arith) ∙ h.new q m e;
        old = λ q m e. get_or-set_other w i q v 0 (λ z. omega arith) ∙ h.old q m e;
      }

  -- the order by another name, and by the entries themselves
  pub holds_at : {o' : List ℕ} → o ≡ o' → HoldsBlocks n size base w t o → HoldsBlocks n size base w t o'
  holds_at e h = subst (HoldsBlocks n size base w t) e h

  pub holds-here : HoldsBlocks n size base w t o → HoldsBlocks n size base w t (order_in n w t)
  holds-here h = holds_at (sym h.order) h

-- an entry says whether its run is numbered
module _ {n : ℕ} {size : ℕ → ℕ} {base : ℕ} {w : List ℕ} {t : BlockTally} {o : List ℕ} (h : HoldsBlocks n size base w t o) (p : ℕ) (l : p < n) where
  pub fresh_of : get_or w p 0 ≡ 0 → member p o ≡ false
  fresh_of e = split (member p o) (λ m. absurd (let a = h.old p l m in omega arith)) (λ m. m)

  pub stale_of : get_or w p 0 ≢ 0 → member p o ≡ true
  stale_of e = split (member p o) (λ m. m) (λ m. absurd (e (h.new p l m)))

-- what place_of says
never : (x : ℕ) → Numbered x ≡ Unnumbered → ⊥
never x e = let z : ◌≡◌ {A = ℕ} 0 1 = cc in omega arith

pub place_none : (w : List ℕ) (p : ℕ) → place_at w p ≡ Unnumbered → get_or w p 0 ≡ 0
place_none w p e = split (eqb (get_or w p 0) 0) (λ t. eqb-true (get_or w p 0) 0 t) (λ t. let n = rw (t, place_at) at e in cc)

pub place-some : (w : List ℕ) (p x : ℕ) → place_at w p ≡ Numbered x → get_or w p 0 ≢ 0
place-some w p x e q = let n = rw (eq-eqb (get_or w p 0) 0 q, place_at) at e in cc

pub place-value : (w : List ℕ) (p x : ℕ) → place_at w p ≡ Numbered x → get_or w p 0 ≡ x + 1
place-value w p x e =
    let z = place-some w p x e in
    let s : Numbered (get_or w p 0 - 1) ≡ Numbered x = rw (ne_eqb (get_or w p 0) 0 z, place_at) at e in
    let y : get_or w p 0 - 1 ≡ x = cc in
    omega arith

-- what child_place says
module _ (w : List ℕ) (p : ℕ) where
  pub child-none : p ≡ 0 → 0 ≡ child_in w p
  unfolding child_in
  child-none e = rw (eq-eqb p 0 e, child_in)

  module _ (some : p ≢ 0) where
    pub child-some : child_in w p ≡ get_or w p 0 - 1
    unfolding child_in
    child-some = rw (ne_eqb p 0 some, child_in)

    pub child-numbered : (x : ℕ) → place_at w p ≡ Numbered x → x ≡ child_in w p
    child-numbered x e = let v = place-value w p x e in let c = child-some in omega arith

    pub child_unnumbered : place_at w p ≡ Unnumbered → 0 ≡ child_in w p
    child_unnumbered e = let v = place_none w p e in let c = child-some in omega arith

-- ---- a record with no block yet
used-none : (n : ℕ) (w : List ℕ) → ((p : ℕ) → p < n → get_or w p 0 ≡ 0) → used n w ≡ 0
unfolding used
used-none zero w h = refl
used-none (suc n) w h =
    let a = used-none n w (λ p l. h p (omega arith)) in
    rw (eq-eqb (get_or w n 0) 0 (h n (omega arith)), used) (omega arith)

pub holds-none : (n : ℕ) (size : ℕ → ℕ) (base : ℕ) (w : List ℕ) (t : BlockTally) → ((p : ℕ) → p < n → get_or w p 0 ≡ 0)
    → t.blocks ≡ 0 → t.nodes ≡ base → HoldsBlocks n size base w t []
unfolding total
holds-none n size base w t h e f = record {
  order = ap (λ k. take k (drop n w)) e;
  many = used-none n w h ∙ sym e;
  sum = omega arith;
  new = λ p l m. h p l;
  old = λ p l m. absurd (true≢false (sym m));
}
