-- Repacking by the first node: it fits and the rest follows, or it is the first misfit.
use Rattle.std.specs.Prelude.{◌≡◌, true, false, length}
use Rattle.std.proofs.Math.Path.{sym, ap}
use Rattle.std.proofs.Common.{◌∙◌, arith}
use mathlib.Core.List.{List, [], ◌∷◌}
use Rattle.std.proofs.Math.Option.{Option, none, some}
use Prim.Native.Nat.{ℕ, suc, ◌+◌, ◌<◌}
use Rattle.laws.specs.Cases.{split, some≢none}
use Rattle.node.specs.Nodes.{BitLayout, Tile, Arc, fields, fits, packed}
use Rattle.load.specs.Repacking.{misfit, first_misfit, fitting}
use Rattle.load.specs.declared.repack.Misfit.{Misfit}

module _ (old new : BitLayout) where
  module _ (v : ℕ) (vs : List ℕ) where
    pub fitting-next : fits new (fields old v) ≡ true → fitting old new (v ∷ vs) ≡ packed new (fields old v) ∷ fitting old new vs
    unfolding fitting
    fitting-next e = rw (e, fitting)

    pub fitting-stops : fits new (fields old v) ≡ false → fitting old new (v ∷ vs) ≡ []
    unfolding fitting
    fitting-stops e = rw (e, fitting)

    pub misfit-later : (k : ℕ) → fits new (fields old v) ≡ true → first_misfit old new k (v ∷ vs) ≡ first_misfit old new (suc k) vs
    unfolding first_misfit
    misfit-later k e = rw (e, first_misfit)

    pub misfit-here : (k : ℕ) → fits new (fields old v) ≡ false
        → first_misfit old new k (v ∷ vs) ≡ some (misfit k (fields old v Tile) (fields old v Arc))
    unfolding first_misfit
    misfit-here k e = rw (e, first_misfit)

  pub misfit-within : (vs : List ℕ) (k : ℕ) {m : Misfit} → first_misfit old new k vs ≡ some m → m.node < k + length vs
  unfolding first_misfit
  misfit-within [] k e = some≢none (sym e)
  misfit-within (v ∷ vs) k {m} e =
      split (fits new (fields old v))
      (λ f. let h = misfit-within vs (suc k) (sym (misfit-later v vs k f) ∙ e) in omega arith)
      (λ f. let h : some (misfit k (fields old v Tile) (fields old v Arc)) ≡ some m = sym (misfit-here v vs k f) ∙ e in
      let n : k ≡ m.node = ap node_of h in omega arith)
    where
      node_of : Option Misfit → ℕ
      node_of none = 0
      node_of (some x) = x.node
