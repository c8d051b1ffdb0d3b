-- A list of numbers is the list of their values.
use Rattle.std.specs.Prelude.{◌≡◌, ℕ, List, map}
use Rattle.std.proofs.Common.{sym}
use Rattle.std.proofs.lemmas.List.{map-id}

pub map_same : (list : List ℕ) → list ≡ map (λ n. n) list
map_same list = sym (map-id list)
