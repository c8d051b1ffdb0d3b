-- What the arcs of a run lead to.
use Rattle.std.specs.Prelude.{◌≡◌, List, ℕ, ◌≤◌, ◌<◌, length, get_or, take}
use Rattle.std.proofs.Common.{subst, get_or-take, length-take-le}
use mathlib.Core.List.{Memᴰ}
use Rattle.laws.specs.Members.{at_in}
use Rattle.node.specs.Nodes.{kbwg, arc}
use Rattle.graph.specs.Runs.{Graph}
use Rattle.export.specs.Starts.{arcs_from}
use Rattle.export.specs.ChainLaws.{arc-from, arcs-inside}
use Rattle.macondo_file.proofs.ArcLaws.{in_arcs}
use Rattle.macondo_file.specs.File.{arcs_of}
use Rattle.macondo_file.specs.RowLaws.{MacondoReady}

module _ (g : Graph) (labels : List ℕ) (p : ℕ) (arcs : List ℕ) (e : arcs ≡ arcs_of g labels p) (i : ℕ) (h : i < length arcs) where
  pub child-held : Memᴰ (arc kbwg (get_or arcs i 0)) (arcs_from g p)
  child-held =
      let a = in_arcs g labels p (get_or arcs i 0) (subst (Memᴰ (get_or arcs i 0)) e (at_in arcs i 0 h)) in
      arc-from g p (get_or arcs i 0) a.0 a.1

  pub child-inside : MacondoReady g labels → arc kbwg (get_or arcs i 0) < length g
  child-inside ready = arcs-inside g ready.fit.steps p (arc kbwg (get_or arcs i 0)) child-held

-- the same of a list whose first entries are the arcs
module _ (g : Graph) (labels : List ℕ) (p count : ℕ) (arcs : List ℕ) (i : ℕ)
    (e : take count arcs ≡ arcs_of g labels p) (h : i < count) (fits : count ≤ length arcs) where
  arc-held : Memᴰ (get_or arcs i 0) (arcs_of g labels p)
  arc-held = rw get_or-take at (subst (Memᴰ (get_or (take count arcs) i 0)) e (at_in (take count arcs) i 0 (rw length-take-le h)))

  pub first-child-held : Memᴰ (arc kbwg (get_or arcs i 0)) (arcs_from g p)
  first-child-held = let a = in_arcs g labels p (get_or arcs i 0) arc-held in arc-from g p (get_or arcs i 0) a.0 a.1

  pub first-child-inside : MacondoReady g labels → arc kbwg (get_or arcs i 0) < length g
  first-child-inside ready = arcs-inside g ready.fit.steps p (arc kbwg (get_or arcs i 0)) first-child-held
