-- A search in the trees of the keys, step by step; and that it goes the same way in another list whose links lead where they led.
use mathlib.Core.Path.{◌≡◌, ap, ◌∙◌}
use mathlib.Core.Logic.{◌≢◌}
use mathlib.Core.List.{List}
use Prim.Native.Nat.{ℕ, ◌+◌, ◌*◌, ◌/◌, ◌<◌}
use native.Mathlib.Nat.{mod-lt}
use native.Mathlib.Omega.{arith}
use lib.ListN.{get_or}
use Rattle.dictionary.specs.Keys.{key_at}
use Rattle.dictionary.specs.Tree.{tree_of, link_place, LinkAt, Path, here, on, PathTo, Tree}

-- ---- one step more
module _ {n : ℕ} {d : List ℕ} where
  path-more : {p bits q rest : ℕ} → Path n d p bits q rest → (i : ℕ) → get_or d q 0 ≡ i + 1 → Path n d p bits (link_place n i rest) (rest / 2)
  path-more here i e = on i e here
  path-more (on j f w) i e = on j f (path-more w i e)

  goes_on : {p bits q rest : ℕ} → Path n d p bits q rest → (j : ℕ) → get_or d q 0 ≡ j + 1 → (i : ℕ) → get_or d p 0 ≡ i + 1 → i ≢ j
      → PathTo n d (link_place n i bits) (bits / 2) j
  goes_on here j f i e other = absurd (other (omega arith))
  goes_on {bits = bits} {q} {rest} (on h g w) j f i e other =
      let same : h ≡ i = omega arith in
      let r : PathTo n d (link_place n h bits) (bits / 2) j = record { last = q; rest = rest; way = w; leads = f } in
      rw same at r

  no_way : {p bits q rest : ℕ} → Path n d p bits q rest → (j : ℕ) → get_or d q 0 ≡ j + 1 → get_or d p 0 ≢ 0
  no_way here j f z = omega arith
  no_way (on i e w) j f z = omega arith

-- ---- the search is at a link with some bits left, and the key that it looks for, if it is there, is still ahead
pub record Seeking (n : ℕ) (d : List ℕ) (k key place bits : ℕ) : Type 0 where
  pub inside : place < n + 4 * k
  pub linking : LinkAt n place
  pub way : Path n d (tree_of n key) key place bits
  pub ahead : (j : ℕ) → j < k → key_at n d j ≡ key → PathTo n d place bits j

pub tree-below : (n key : ℕ) → 0 < n → tree_of n key < n
unfolding tree_of
tree-below n key h = mod-lt _ h

module _ {n : ℕ} {d : List ℕ} {k : ℕ} (t : Tree n d k) where
  pub seek-start : (key : ℕ) → 0 < n → Seeking n d k key (tree_of n key) key
  seek-start key h =
      let b = tree-below n key h in
      record {
        inside = omega arith;
        linking = λ l. absurd (omega arith);
        way = here;
        ahead = λ j l e. rw e at (t.reached j l);
      }

  module _ {key place bits : ℕ} (q : Seeking n d k key place bits) where
    -- the link leads nowhere
    pub seek-none : get_or d place 0 ≡ 0 → (j : ℕ) → j < k → key_at n d j ≢ key
    seek-none z j l e = let r = q.ahead j l e in no_way r.way j r.leads z

    -- it leads to key i
    module _ (i : ℕ) (e : get_or d place 0 ≡ i + 1) where
      pub seek-below : i < k
      seek-below = (t.later place i q.inside q.linking e).0

      pub seek-later : place < n + 4 * i
      seek-later = (t.later place i q.inside q.linking e).1

      pub seek-next : key_at n d i ≢ key → Seeking n d k key (link_place n i bits) (bits / 2)
      seek-next other =
          let b = seek-below in
          record {
            inside = omega arith;
            linking = λ l. omega arith;
            way = path-more q.way i e;
            ahead = λ j l f. let r = q.ahead j l f in goes_on r.way j r.leads i e (λ h. other (ap (key_at n d) h ∙ f));
          }

-- ---- in another list
module _ {n : ℕ} {d : List ℕ} {k : ℕ} (t : Tree n d k) (v : List ℕ)
    (same : (p j : ℕ) → p < n + 4 * k → get_or d p 0 ≡ j + 1 → get_or v p 0 ≡ j + 1) where
  pub path-kept : {p bits q rest : ℕ} → p < n + 4 * k → LinkAt n p → Path n d p bits q rest → Path n v p bits q rest
  path-kept l a here = here
  path-kept {p} l a (on i e w) = let h = t.later p i l a e in on i (same p i l e) (path-kept (omega arith) (λ m. omega arith) w)

  end_kept : {p bits q rest : ℕ} → p < n + 4 * k → LinkAt n p → Path n d p bits q rest → (j : ℕ) → get_or d q 0 ≡ j + 1 → get_or v q 0 ≡ j + 1
  end_kept {p} l a here j e = same p j l e
  end_kept {p} l a (on i f w) j e = let h = t.later p i l a f in end_kept (omega arith) (λ m. omega arith) w j e

  -- and comes to the same keys
  pub path-to-kept : {p bits j : ℕ} → p < n + 4 * k → LinkAt n p → PathTo n d p bits j → PathTo n v p bits j
  path-to-kept {j = j} l a r =
      record { last = r.last; rest = r.rest; way = path-kept l a r.way; leads = end_kept l a r.way j r.leads }
