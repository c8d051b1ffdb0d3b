-- What building replies over the lists that are lent, of which only so much matters.
use mathlib.Core.Path.{◌≡◌, ap, ◌∙◌}
use mathlib.Core.List.{List, ◌++◌}
use Prim.Native.Nat.{ℕ, min}
use native.Mathlib.Omega.{arith}
use lib.ListN.{length, get_or, take, replicate}
use Rattle.built.specs.Build.{build_as}
use Rattle.flat.specs.FlatBuilds.{built_of, building_of, flat_built}
use Rattle.flat.specs.declared.building.FlatBuilt.{FlatBuilt}
use Rattle.replay.specs.Builds.{built_fields, built_reply, build_reply_in, build_reply}
use Rattle.replay.proofs.RoomLaws.{take_same, lent-size}

pub build-replies : (list : List ℕ) (work : ℕ) (lent : List ℕ) (r : FlatBuilt) (after : List ℕ) → building_of r after ≡ build_as list work lent
    → r ≡ flat_built (built_of r) → built_fields r ++ take r.nodes after ≡ build_reply_in list work lent
unfolding build_reply_in
build-replies list work lent r after e flat =
    ap (λ (x : FlatBuilt). built_fields x ++ take x.nodes after) flat ∙ ap built_reply e

-- so much of the lists that a case has is lent
pub build-reply : (ws list : List ℕ) (work nodes : ℕ) → work ≡ min (get_or ws 0 0) 4096 → nodes ≡ min (get_or ws 1 0) 512
    → build_reply_in list (length {A = ℕ} (take work (replicate 4096 0))) (take nodes (replicate 512 0)) ≡ build_reply ws list
unfolding build_reply
build-reply ws list work nodes e f =
    rw (lent-size work 4096 0 (omega arith), take_same nodes 512 0 (omega arith), e, f)
