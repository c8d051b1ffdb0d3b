-- What building replies to the words and the bytes of a case: the fields of the flat answer, and then the nodes.
use Rattle.std.specs.Prelude.{List, [], ◌∷◌, ◌++◌, ℕ, min, get_or, take, replicate}
use Rattle.built.specs.Build.{Building, build_as}
use Rattle.flat.specs.FlatBuilds.{flat_built}
use Rattle.flat.specs.declared.building.FlatBuilt.{FlatBuilt}

abbrev pub built_fields : FlatBuilt → List ℕ
built_fields r = r.refusal ∷ r.nodes ∷ []

abbrev pub built_reply : Building → List ℕ
built_reply b = built_fields (flat_built b.answer) ++ take (flat_built b.answer).nodes b.nodes

-- over a work list of so many numbers and the lent nodes
unfoldable pub build_reply_in : List ℕ → ℕ → List ℕ → List ℕ
build_reply_in list work lent = built_reply (build_as list work lent)

-- WORK NODES, 4096 and 512 at most; the list
unfoldable pub build_reply : List ℕ → List ℕ → List ℕ
build_reply ws list = build_reply_in list (min (get_or ws 0 0) 4096) (replicate (min (get_or ws 1 0) 512) 0)
