-- `build_empty` meets its contract: the graph of no words is the two roots.
use native.Mathlib.Omega.{arith}
use mathlib.Core.Path.{◌≡◌, sym, ap, ◌∙◌}
use mathlib.Core.List.{[]}
use lib.ListN.{length}
use lib.Seq.{sets}
use Rattle.built.specs.Built.{built}
use Rattle.built.proofs.ClaimLaws.{built-none}
use Rattle.build.proofs.BuildLaws.{too_short, all-written}
use Rattle.build.proofs.build_empty.Goals as goal

two : length (built []) ≡ 2
two = ap length built-none

pub returns-then-nodes-lt2 : goal.returns-then-nodes-lt2
returns-then-nodes-lt2 c = let l = two in too_short (built []) _ (omega arith) (omega (arith, c.if-nodes-lt2.true))

pub returns : goal.returns
returns c =
    let l = two in
    all-written (built []) c.args.nodes.now (omega arith) 2 (sym two) (omega (arith, c.if-nodes-lt2.false))
    (c.write_roots.ensures ∙ ap (sets c.args.nodes.now 0) (sym built-none))
