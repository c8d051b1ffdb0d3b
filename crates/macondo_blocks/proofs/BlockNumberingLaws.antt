-- Blocks numbered one after the other: a block pushed and its arcs walked leave the record of what is met from it, and how deep it is;
-- and every number fits.
use Rattle.std.specs.Prelude.{◌≡◌, ◌≢◌, true, List, [], ◌∷◌, ◌++◌, map, ℕ, suc, ◌+◌, ◌-◌, ◌*◌, ◌≤◌, ◌<◌, max, eqb, length, get_or, set, drop, Result, Ok, Err}
use Rattle.std.proofs.Common.{refl, sym, ap, ◌∙◌, subst, arith, add-one, lt-ltb, le-ltb, drop-cons, drop_of_length-le}
use mathlib.Core.List.{Memᴰ}
use Rattle.node.specs.Nodes.{kbwg, arc}
use Rattle.graph.specs.Runs.{Graph}
use Rattle.graph.specs.Lent.{Kept, kept_then, kept_set, kept-further, cleared-kept}
use Rattle.export.specs.Starts.{arcs_from, deeper}
use Rattle.export.specs.Blocks.{each, met}
use Rattle.laws.specs.Cleared.{cleared, cleared_at}
use Rattle.block_record.specs.Record.{blocks_in, order_in, Pushed, HoldsBlocks}
use Rattle.block_record.specs.RecordLaws.{holds-room, met-old, met-new, push-holds, holds-past, fresh_of, stale_of, holds-here, holds_at, holds-none}
use Rattle.block_record.specs.Depths.{depth_at, Depth, Deepest, Depths, Below, NoneBut, NoneLeft}
use Rattle.block_record.specs.DepthsLaws.{deep-by-arc, loop-deep, below-arc, deepest-none, deepest-next, deepest-all}
use Rattle.block_record.specs.DepthsLaws.{depths-none, depths-kept, none-left-followed, opened-depths, opened-but}
use Rattle.block_record.specs.declared.BlockTally.{BlockTally}
use Rattle.macondo_file.specs.File.{arcs_of, children_of, size_of}
use Rattle.macondo_file.proofs.ArcLaws.{in_children, children_in}
use Rattle.macondo_blocks.specs.declared.blocks.Reached.{Reached}
use Rattle.macondo_blocks.specs.declared.blocks.TooDeep.{TooDeep}
use Rattle.macondo_file.specs.RowLaws.{MacondoReady}
use Rattle.macondo_blocks.specs.Blocks.{BlocksRecorded, BlocksNumbered, BlocksReached, NumberingFrom, NumberingIs}
use Rattle.macondo_blocks.proofs.ArcCounts.{size_few, tally-few}

-- a block put into the record, while its arcs are still to be walked
pub record BlockOpened (g : Graph) (labels w : List ℕ) (t : BlockTally) (p : ℕ) (w' : List ℕ) (t' : BlockTally) : Type 0 where
  pub numbered : BlocksNumbered g labels w w' t' (order_in (length g) w t ++ p ∷ [])
  pub depths : Depths g w'
  pub but : NoneBut g p w w'

module _ {g : Graph} {labels w : List ℕ} {t : BlockTally} (r : BlocksRecorded g labels w t) (p : ℕ) (h : p < length g) where
  abbrev seen : List ℕ
  seen = order_in (length g) w t

  -- ---- a block that is numbered: it is being followed, or its depth is known
  module _ (old : get_or w p 0 ≢ 0) (c d : ℕ) (e : d ≡ get_or w (depth_at (length g) p) 0) where
    pub followed-deep : Below g w p → d ≡ 0 → deeper g c p ≡ true
    followed-deep b z = loop-deep g w p b h (old, sym e ∙ z) c

    module _ (known : d ≢ 0) where
      depth-known : Depth g p d
      depth-known = subst (Depth g p) (sym e) (r.depths p h old (λ z. known (e ∙ z)))

      pub known-deep : c < d → deeper g c p ≡ true
      known-deep l = depth-known c ∙ lt-ltb c d l

      pub known-reaches : d ≤ c → BlocksReached g labels w t c p w (record { tally = t; runs = d })
      known-reaches l = record {
        numbered = record {
          holds = holds_at (sym (met-old (children_of g labels) c seen p (stale_of r.holds p h old))) r.holds;
          past = record { size = refl; rest = refl };
        };
        depth = depth-known;
        within = l;
        depths = r.depths;
        left = λ q m f. f;
      }

  -- ---- a new block
  module _ (new : get_or w p 0 ≡ 0) where
    few : t.blocks < length g
    few = holds-room r.holds p h new

    pub push-fits : MacondoReady g labels → (size : ℕ) → size ≤ 51
        → (length g ≤ 16777216) × (length g + length g ≤ length w) × (p < length g) × (t.blocks < length g)
        × (t.nodes + size < 4294967296) × (t.nodes < 4294967295)
    push-fits ready size k =
        let m = ready.fit.most in
        let f = few in
        let n = tally-few r.holds (size_few g labels ready) in
        (m, omega (arith, r.room), h, f, omega arith, omega arith)

    pub opens : (w₁ w₂ : List ℕ) (t₁ : BlockTally) (size : ℕ) → size ≡ size_of g labels p → Pushed (length g) w p t size w₁ t₁
        → w₂ ≡ set w₁ (depth_at (length g) p) 0 → BlockOpened g labels w t p w₂ t₁
    opens w₁ w₂ t₁ size e a b =
        let n = length g in
        let f = few in
        let one = set w p (t.nodes + 1) in
        let two = set one (n + t.blocks) p in
        let holds = push-holds p r.holds h (omega (arith, r.room)) (fresh_of r.holds p h new) e a in
        subst (λ x. BlockOpened g labels w t p x t₁) (sym (b ∙ ap (λ x. set x (depth_at n p) 0) a.list)) (record {
          numbered = record {
            holds = holds-past (depth_at n p) 0 (omega arith) (subst (λ x. HoldsBlocks n (size_of g labels) 0 x t₁ (seen ++ p ∷ [])) a.list holds);
            past = kept_then (kept_set (3 * n) w p (t.nodes + 1) (omega arith))
                (kept_then (kept_set (3 * n) one (n + t.blocks) p (omega arith)) (kept_set (3 * n) two (depth_at n p) 0 (omega arith)));
          };
          depths = opened-depths g w p t h few r.room r.depths;
          but = opened-but g w p t h few r.room;
        })

-- ---- the arcs of a block walked, with c runs left for it
-- what is met once those from place i on are walked
abbrev pub met_from : Graph → List ℕ → ℕ → List ℕ → List ℕ → ℕ → List ℕ
met_from g labels c arcs seen i = each (λ s q. met eqb (children_of g labels) (c - 1) s q) seen (map (arc kbwg) (drop i arcs))

-- those before place i are walked, from the list and the tally after the block of p itself was put in; the longest chain from what they
-- lead to has `runs` runs
pub record ArcWalk (g : Graph) (labels : List ℕ) (c p : ℕ) (arcs : List ℕ) (w₀ : List ℕ) (t₀ : BlockTally)
    (w : List ℕ) (t : BlockTally) (runs i : ℕ) : Type 0 where
  pub past : Kept (3 * length g) w₀ w
  pub holds : HoldsBlocks (length g) (size_of g labels) 0 w t (order_in (length g) w t)
  pub same : met_from g labels c arcs (order_in (length g) w t) i ≡ met_from g labels c arcs (order_in (length g) w₀ t₀) 0
  pub depths : Depths g w
  pub left : NoneLeft g w₀ w
  pub deepest : Deepest g p runs (map (arc kbwg) (drop i arcs))
  pub short : runs ≤ c - 1

pub arc-walk-start : {g : Graph} {labels w : List ℕ} {t : BlockTally} {p : ℕ} {w₀ : List ℕ} {t₀ : BlockTally} → BlockOpened g labels w t p w₀ t₀
    → {arcs : List ℕ} → arcs ≡ arcs_of g labels p → {c : ℕ} → ArcWalk g labels c p arcs w₀ t₀ w₀ t₀ 0 0
arc-walk-start {g} {labels} {p = p} o e = record {
  past = record { size = refl; rest = refl };
  holds = holds-here o.numbered.holds;
  same = refl;
  depths = o.depths;
  left = λ q m f. f;
  deepest = subst (λ l. Deepest g p 0 (map (arc kbwg) l)) (sym e)
      (deepest-none g p (children_of g labels p) (in_children g labels p) (children_in g labels p));
  short = omega arith;
}

module _ {g : Graph} {labels : List ℕ} {c p : ℕ} {arcs : List ℕ} {w₀ : List ℕ} {t₀ : BlockTally} {w : List ℕ} {t : BlockTally} {runs i : ℕ}
    (k : ArcWalk g labels c p arcs w₀ t₀ w t runs i) where
  pub walk-recorded : 3 * length g ≤ length w₀ → BlocksRecorded g labels w t
  walk-recorded room = record { room = omega (arith, k.past.size); holds = k.holds; depths = k.depths }

  -- ---- the next arc
  module _ (q : ℕ) (h : i < length arcs) (e : q ≡ arc kbwg (get_or arcs i 0)) where
    pub walk-next : (w' : List ℕ) (r : Reached) (m : ℕ) → m ≡ max runs r.runs → BlocksReached g labels w t (c - 1) q w' r
        → ArcWalk g labels c p arcs w₀ t₀ w' r.tally m (i + 1)
    walk-next w' r m z n =
        let on : drop i arcs ≡ get_or arcs i 0 ∷ drop (i + 1) arcs = rw add-one (drop-cons arcs i 0 h) in
        record {
          past = kept_then k.past n.numbered.past;
          holds = holds-here n.numbered.holds;
          same = ap (λ o. met_from g labels c arcs o (i + 1))
              (n.numbered.holds.order ∙ ap (met eqb (children_of g labels) (c - 1) (order_in (length g) w t)) e)
              ∙ ap (λ l. each (λ s q. met eqb (children_of g labels) (c - 1) s q) (order_in (length g) w t) (map (arc kbwg) l)) (sym on) ∙ k.same;
          depths = n.depths;
          left = λ x l f. k.left x l (n.left x l f);
          deepest = subst (λ x. Deepest g p x (map (arc kbwg) (drop (i + 1) arcs))) (sym z)
              (deepest-next g p runs r.runs q (map (arc kbwg) (drop (i + 1) arcs)) n.depth
              (subst (Deepest g p runs) (ap (map (arc kbwg)) on ∙ ap (◌∷ map (arc kbwg) (drop (i + 1) arcs)) (sym e)) k.deepest));
          short = let a = k.short in let b = n.within in omega arith;
        }

  -- ---- of the block itself
  module _ {v : List ℕ} {u : BlockTally} (o : BlockOpened g labels v u p w₀ t₀) where
    still-but : NoneBut g p v w
    still-but q l n f = o.but q l n (k.left q l f)

    pub walk-below : Below g v p → (q : ℕ) → Memᴰ q (arcs_from g p) → Below g w q
    walk-below b q m = below-arc g v w p q b still-but m

    -- all arcs walked, and its depth put in: what is met from the block
    module _ (r : BlocksRecorded g labels v u) (h : p < length g) (new : get_or v p 0 ≡ 0) (z : c ≢ 0) (e : arcs ≡ arcs_of g labels p)
        (done : length arcs ≤ i) where
      none-to_come : drop i arcs ≡ []
      none-to_come = drop_of_length-le arcs done

      all-met : order_in (length g) w t ≡ met eqb (children_of g labels) c (order_in (length g) v u) p
      all-met =
          sym (ap (λ l. each (λ s q. met eqb (children_of g labels) (c - 1) s q) (order_in (length g) w t) (map (arc kbwg) l)) none-to_come)
          ∙ k.same ∙ ap (λ o. met_from g labels c arcs o 0) o.numbered.holds.order
          ∙ ap (λ l. each (λ s q. met eqb (children_of g labels) (c - 1) s q) (order_in (length g) v u ++ p ∷ []) (map (arc kbwg) l)) e
          ∙ sym (met-new (children_of g labels) c (order_in (length g) v u) p z (fresh_of r.holds p h new))

      depth-found : Depth g p (runs + 1)
      depth-found = deepest-all g p runs (subst (λ l. Deepest g p runs (map (arc kbwg) l)) none-to_come k.deepest)

      pub walk-done : (w' : List ℕ) → w' ≡ set w (depth_at (length g) p) (runs + 1)
          → BlocksReached g labels v u c p w' (record { tally = t; runs = runs + 1 })
      walk-done w' a =
          let n = length g in
          let room : 3 * n ≤ length w = omega (arith, r.room, k.past.size, o.numbered.past.size) in
          let some : runs + 1 ≢ 0 = λ y. omega arith in
          subst (λ x. BlocksReached g labels v u c p x (record { tally = t; runs = runs + 1 })) (sym a) (record {
            numbered = record {
              holds = holds-past (depth_at n p) (runs + 1) (omega arith) (holds_at all-met k.holds);
              past = kept_then o.numbered.past (kept_then k.past (kept_set (3 * n) w (depth_at n p) (runs + 1) (omega arith)));
            };
            depth = depth-found;
            within = let s = k.short in omega arith;
            depths = depths-kept g w p (runs + 1) h room (λ y. depth-found) k.depths;
            left = none-left-followed g w p (runs + 1) h room v some still-but;
          })

-- an arc that leads to a chain too long
pub walk-deep : (g : Graph) (c p : ℕ) → c ≢ 0 → (q : ℕ) → Memᴰ q (arcs_from g p) → deeper g (c - 1) q ≡ true → deeper g c p ≡ true
walk-deep g c p z q m d = let s : c ≡ suc (c - 1) = omega arith in ap (λ x. deeper g x p) s ∙ deep-by-arc g (c - 1) p q m d

-- ---- from a cleared list on
module _ (w w' : List ℕ) (g : Graph) (room : 3 * length g ≤ length w) (e : w' ≡ cleared (length g) w) where
  pub clear_at : (p : ℕ) → p < length g → get_or w' p 0 ≡ 0
  clear_at p h = ap (λ l. get_or l p 0) e ∙ cleared_at (length g) w p h

  clear-past : Kept (3 * length g) w w'
  clear-past =
      let n = length g in
      subst (Kept (3 * n) w) (sym e) (kept-further (3 * n) n w (cleared n w) (omega arith) (cleared-kept n w (omega arith)))

  pub clear-recorded : (labels : List ℕ) (t : BlockTally) → t.blocks ≡ 0 → t.nodes ≡ 0 → BlocksRecorded g labels w' t
  clear-recorded labels t b n =
      record {
        room = omega (arith, clear-past.size);
        holds = holds-here (holds-none (length g) (size_of g labels) 0 w' t clear_at b n);
        depths = (depths-none g w' clear_at).0;
      }

  pub cleared-below : (p : ℕ) → Below g w' p
  cleared-below p = (depths-none g w' clear_at).1 p

  pub clear-numbering : (labels : List ℕ) (t : BlockTally) → t.blocks ≡ 0 → (s : ℕ) (v : List ℕ) (r : Result Reached TooDeep) → NumberingFrom g labels w' t 64 s v r
      → NumberingIs g labels s w v r
  clear-numbering labels t z s v (Ok r) n = (
    record {
      holds = holds_at (ap (λ o. met eqb (children_of g labels) 64 (blocks_in (length g) w' o) s) z) n.numbered.holds;
      past = kept_then clear-past n.numbered.past;
    },
    n.depth,
    n.depth 64 ∙ le-ltb 64 r.runs n.within,
  )
  clear-numbering labels t z s v (Err e) d = d
