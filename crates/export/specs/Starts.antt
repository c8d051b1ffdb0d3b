-- What both writers read of a graph, from document 01, "Files for other programs".
use Rattle.std.specs.Prelude.{Bool, true, ◌&&◌, not, List, map, ℕ, zero, suc, eqb, leb, length, drop}
use Rattle.laws.specs.Lists.{filtered, some_of}
use Rattle.node.specs.Nodes.{kbwg, tile, arc}
use Rattle.graph.specs.Runs.{Graph, run}

-- "The run from node p"
abbrev pub run_of : Graph → ℕ → List ℕ
run_of g p = run kbwg (drop p g)

-- "Arc 0 means no arc."
abbrev pub has_arc : ℕ → Bool
has_arc v = not (eqb (arc kbwg v) 0)

-- the nodes that the arcs of the run from p lead to
abbrev pub arcs_from : Graph → ℕ → List ℕ
arcs_from g p = map (arc kbwg) (filtered has_arc (run_of g p))

-- "21+ tile not below the label count", of any node
abbrev pub unlabelled : Graph → List ℕ → Bool
unlabelled g labels = some_of (λ v. leb (length labels) (tile kbwg v)) g

-- "over 64 runs, each reached by an arc of the one before, from the start": more than k runs in a chain from p
unfoldable pub deeper : Graph → ℕ → ℕ → Bool
deeper g zero p = true
deeper g (suc k) p = some_of (λ v. has_arc v && deeper g k (arc kbwg v)) (run_of g p)
