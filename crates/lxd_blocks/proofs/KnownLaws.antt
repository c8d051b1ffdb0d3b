-- What the walk knows of numbered runs: as it reads the entries of one, and as it changes them, where the others stay as they were.
use mathlib.Core.Path.{◌≡◌, refl, ◌∙◌}
use mathlib.Core.Logic.{◌≢◌}
use mathlib.Core.Bool.{true}
use mathlib.Core.List.{List}
use Prim.Native.Nat.{ℕ, ◌+◌, ◌*◌, ◌≤◌, ◌<◌}
use native.Mathlib.Omega.{arith}
use lib.Dec.{eqb}
use lib.ListN.{length, get_or, set, length-set}
use lib.Seq.{get_or-set_same, get_or-set_other}
use borrow.Author.Tests.{eqb-true, eqb-false}
use Rattle.laws.specs.Cases.{split}
use Rattle.graph.specs.Runs.{Graph}
use Rattle.block_record.specs.declared.BlockTally.{BlockTally}
use Rattle.block_record.specs.Record.{block_pushed}
use Rattle.block_record.specs.Depths.{depth_at, NoneBut, NoneLeft}
use Rattle.block_record.specs.DepthsLaws.{none-left-followed, left-past, opened-but}
use Rattle.survey.specs.RunCounted.{RunCounted}
use Rattle.lxd_blocks.specs.RunsNumbered.{words_at, Known}

-- ---- the entries of one run changed
module _ (g : Graph) where
  -- the entries of runs other than p's are in w' as in w
  record Others (p : ℕ) (w w' : List ℕ) : Type 0 where
    place : (q : ℕ) → q < length g → q ≢ p → get_or w' q 0 ≡ get_or w q 0
    depth : (q : ℕ) → q < length g → q ≢ p → get_or w' (depth_at (length g) q) 0 ≡ get_or w (depth_at (length g) q) 0
    words : (q : ℕ) → q < length g → q ≢ p → get_or w' (words_at (length g) q) 0 ≡ get_or w (words_at (length g) q) 0

  others_same : (p : ℕ) (w : List ℕ) → Others p w w
  others_same p w = record { place = λ q l n. refl; depth = λ q l n. refl; words = λ q l n. refl }

  -- one entry more put in, which is no such entry
  others-set : {p : ℕ} {w w' : List ℕ} (i v : ℕ)
      → ((q : ℕ) → q < length g → q ≢ p → (q ≢ i) × (depth_at (length g) q ≢ i) × (words_at (length g) q ≢ i))
      → Others p w w' → Others p w (set w' i v)
  others-set {p} {w} {w'} i v apart h =
      record {
        place = λ q l n. get_or-set_other w' i q v 0 (apart q l n).0 ∙ h.place q l n;
        depth = λ q l n. get_or-set_other w' i (depth_at (length g) q) v 0 (apart q l n).1 ∙ h.depth q l n;
        words = λ q l n. get_or-set_other w' i (words_at (length g) q) v 0 (apart q l n).2 ∙ h.words q l n;
      }

  module _ {p : ℕ} {w w' : List ℕ} (others : Others p w w') where
    known-but : (get_or w' (depth_at (length g) p) 0 ≢ 0
        → RunCounted g true p (get_or w' (depth_at (length g) p) 0) (get_or w' (words_at (length g) p) 0)) → Known g w → Known g w'
    known-but own h q l a b =
        split (eqb q p)
        (λ t. let e = eqb-true q p t in rw e (own (rw e at b)))
        (λ t.
        let n = eqb-false q p t in
        rw (others.depth q l n, others.words q l n) (h q l (λ z. a (others.place q l n ∙ z)) (λ z. b (others.depth q l n ∙ z))))

  module _ (w : List ℕ) (p : ℕ) (l : p < length g) (room : 4 * length g ≤ length w) where
    -- p's run numbered, with a place, an entry in the order, and no chain yet: from now on it is followed
    module _ (t : BlockTally) (few : t.blocks < length g) where
      abbrev begun : List ℕ
      begun = set (block_pushed (length g) w p t) (depth_at (length g) p) 0

      begun-others : Others p w begun
      begun-others =
          others-set (depth_at (length g) p) 0 (λ q m n. ((λ e. n (omega arith)), (λ e. n (omega arith)), (λ e. n (omega arith))))
          (others-set (length g + t.blocks) p (λ q m n. ((λ e. n (omega arith)), (λ e. n (omega arith)), (λ e. n (omega arith))))
          (others-set p (t.nodes + 1) (λ q m n. ((λ e. n (omega arith)), (λ e. n (omega arith)), (λ e. n (omega arith))))
          (others_same p w)))

      pub begun-known : Known g w → Known g begun
      begun-known =
          known-but begun-others
          (λ n. absurd (n (get_or-set_same (block_pushed (length g) w p t) (depth_at (length g) p) 0 0 (simp length-set (omega arith)))))

      pub begun-followed : NoneBut g p w begun
      begun-followed = opened-but g w p t l few (omega arith)

    -- its chain and words put in: it is no longer followed
    module _ (d words : ℕ) (some : d ≢ 0) where
      abbrev ended : List ℕ
      ended = set (set w (depth_at (length g) p) d) (words_at (length g) p) words

      ended-others : Others p w ended
      ended-others =
          others-set (words_at (length g) p) words (λ q m n. ((λ e. n (omega arith)), (λ e. n (omega arith)), (λ e. n (omega arith))))
          (others-set (depth_at (length g) p) d (λ q m n. ((λ e. n (omega arith)), (λ e. n (omega arith)), (λ e. n (omega arith))))
          (others_same p w))

      ended-depth : get_or ended (depth_at (length g) p) 0 ≡ d
      ended-depth =
          get_or-set_other (set w (depth_at (length g) p) d) (words_at (length g) p) (depth_at (length g) p) words 0 (λ e. omega arith)
          ∙ get_or-set_same w (depth_at (length g) p) d 0 (omega arith)

      ended-words : get_or ended (words_at (length g) p) 0 ≡ words
      ended-words = get_or-set_same (set w (depth_at (length g) p) d) (words_at (length g) p) words 0 (simp length-set (omega arith))

      pub ended-known : RunCounted g true p d words → Known g w → Known g ended
      ended-known c = known-but ended-others (λ n. rw (ended-depth, ended-words) c)

      pub ended-followed : (w₀ : List ℕ) → NoneBut g p w₀ w → NoneLeft g w₀ ended
      ended-followed w₀ h =
          left-past g w₀ (set w (depth_at (length g) p) d) (words_at (length g) p) words (omega arith)
          (none-left-followed g w p d l (omega arith) w₀ some h)
