-- `write_roots` meets its contract: the two numbers are the two nodes.
use native.Mathlib.Omega.{arith}
use mathlib.Core.Path.{◌≡◌, ap}
use mathlib.Core.Bool.{true, false}
use Prim.Native.Nat.{◌+◌, ◌*◌}
use lib.ListN.{set}
use Rattle.built.specs.Built.{node_of}
use Rattle.build.proofs.write_roots.Goals as goal

pub returns : goal.returns
returns c =
    let root : c.args.arc * 256 + 64 ≡ node_of 0 false true c.args.arc = omega arith in
    ap (λ v. set (set c.args.nodes.now 0 v) 1 64) root
