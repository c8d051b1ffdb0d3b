-- What stands where once a key is added: its halves, its links, the link that leads to it, and all before it as it was.
use mathlib.Core.Path.{◌≡◌, ◌∙◌}
use mathlib.Core.Logic.{◌≢◌, ⊎_elim}
use mathlib.Core.List.{List}
use Prim.Native.Nat.{ℕ, ◌+◌, ◌*◌, ◌/◌, ◌%◌, ◌≤◌, ◌<◌}
use native.Mathlib.Omega.{arith}
use lib.ListN.{length, get_or, set, length-set}
use lib.Seq.{get_or-set_same, get_or-set_other}
use Rattle.laws.specs.Cases.{same?}
use Rattle.dictionary.specs.Keys.{key_at}
use Rattle.dictionary.specs.Tree.{LinkAt, added}

module _ (n : ℕ) (d : List ℕ) (place k key : ℕ) where
  -- the list after each store
  abbrev with_link : List ℕ
  with_link = set d place (k + 1)

  abbrev with_low : List ℕ
  with_low = set with_link (n + 4 * k) (key % 0x100000000)

  abbrev with_halves : List ℕ
  with_halves = set with_low (n + 4 * k + 1) (key / 0x100000000)

  abbrev with_first : List ℕ
  with_first = set with_halves (n + 4 * k + 2) 0

  pub added-length : length (added n d place k key) ≡ length d
  added-length = simp length-set

  -- ---- what the stores leave
  past_links : (p : ℕ) → p < n + 4 * k + 2 → get_or (added n d place k key) p 0 ≡ get_or with_halves p 0
  past_links p l =
      get_or-set_other with_first (n + 4 * k + 3) p 0 0 (λ e. omega arith) ∙ get_or-set_other with_halves (n + 4 * k + 2) p 0 0 (λ e. omega arith)

  past-key : (p : ℕ) → p < n + 4 * k → get_or (added n d place k key) p 0 ≡ get_or with_link p 0
  past-key p l =
      past_links p (omega arith) ∙ get_or-set_other with_low (n + 4 * k + 1) p (key / 0x100000000) 0 (λ e. omega arith)
      ∙ get_or-set_other with_link (n + 4 * k) p (key % 0x100000000) 0 (λ e. omega arith)

  pub kept-below : (p : ℕ) → p < n + 4 * k → p ≢ place → get_or (added n d place k key) p 0 ≡ get_or d p 0
  kept-below p l o = past-key p l ∙ get_or-set_other d place p (k + 1) 0 o

  module _ (few : k < n) (room : 5 * n ≤ length d) where
    -- ---- what they store
    pub leads-there : place < n + 4 * k → get_or (added n d place k key) place 0 ≡ k + 1
    leads-there l = past-key place l ∙ get_or-set_same d place (k + 1) 0 (omega arith)

    pub low-is : get_or (added n d place k key) (n + 4 * k) 0 ≡ key % 0x100000000
    low-is =
        past_links (n + 4 * k) (omega arith)
        ∙ get_or-set_other with_low (n + 4 * k + 1) (n + 4 * k) (key / 0x100000000) 0 (λ e. omega arith)
        ∙ get_or-set_same with_link (n + 4 * k) (key % 0x100000000) 0 (simp length-set (omega arith))

    pub key-is : key_at n (added n d place k key) k ≡ key
    key-is =
        let high = past_links (n + 4 * k + 1) (omega arith)
        ∙ get_or-set_same with_low (n + 4 * k + 1) (key / 0x100000000) 0 (simp length-set (omega arith)) in
        let low = low-is in
        omega arith

    pub leads_nowhere : (p : ℕ) → LinkAt n p → n + 4 * k ≤ p → p < n + 4 * k + 4 → get_or (added n d place k key) p 0 ≡ 0
    leads_nowhere p a l m =
        let h = a (omega arith) in
        ⊎_elim
        (λ (e : p ≡ n + 4 * k + 3). rw e (get_or-set_same with_first (n + 4 * k + 3) 0 0 (simp length-set (omega arith))))
        (λ o. let e : p ≡ n + 4 * k + 2 = omega arith in
        rw e (get_or-set_other with_first (n + 4 * k + 3) (n + 4 * k + 2) 0 0 (λ i. omega arith)
        ∙ get_or-set_same with_halves (n + 4 * k + 2) 0 0 (simp length-set (omega arith))))
        (same? p (n + 4 * k + 3))
