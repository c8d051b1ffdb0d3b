-- The labels of tiles that pass the checks are there, and are bytes.
use mathlib.Core.Path.{◌≡◌, subst}
use mathlib.Core.Bool.{Bool, false}
use mathlib.Core.List.Memᴰ
use mathlib.Core.List.{List, Memᴰ}
use Prim.Native.Nat.{ℕ, ◌<◌}
use native.Mathlib.Omega.{arith}
use lib.Dec.{leb}
use borrow.Author.Tests.{leb-false}
use lib.ListN.{length, take, drop, take-append-drop}
use Rattle.laws.specs.Lists.{some_of, all_mem, all_members}
use Rattle.laws.specs.Members.{in_drop, none_of}
use Rattle.graph.specs.Words.{Word}
use Rattle.page.specs.Rows.{label_of}
use Rattle.page.specs.Page.{outside}
use Rattle.page.proofs.ColumnsLaws.{inside}
use Rattle.page.specs.Said.{Labelled}

-- the two checks
abbrev pub lacks_label : List ℕ → ℕ → Bool
lacks_label labels t = leb (length labels) t

abbrev pub unshown : List ℕ → ℕ → Bool
unshown labels t = outside (label_of labels t)

module _ (labels : List ℕ) (tiles : Word) where
  module _ (passed : some_of (lacks_label labels) tiles ≡ false) where
    pub there : (t : ℕ) → Memᴰ t tiles → t < length labels
    there t m = let h = leb-false (length labels) t (none_of (lacks_label labels) tiles passed t m) in omega arith

    pub all-labelled : some_of (unshown labels) tiles ≡ false → Labelled labels tiles
    all-labelled e =
        all_members _ tiles (λ t m.
        let shown = inside (label_of labels t) (none_of (unshown labels) tiles e t m) in
        (there t m, omega (arith, shown.1)))

  -- a part of them
  pub part-labelled : (from n : ℕ) → Labelled labels tiles → Labelled labels (take n (drop from tiles))
  part-labelled from n l =
      let part = drop from tiles in
      let whole = take-append-drop n part in
      all_members _ (take n part) (λ t m. all_mem _ tiles t l
      (in_drop t from tiles (subst (Memᴰ t) whole (Memᴰ.append_left (drop n part) m))))
