-- The inputs of a case: lists of numbers, each with its length before it.
use Rattle.std.specs.Prelude.{Bool, true, false, ◌&&◌, List, [], ◌∷◌, ◌++◌, ℕ, leb, length, take, drop, Some, None}
use Rattle.std.specs.Prelude.{Option as Optional}
use Rattle.std.specs.List.{list_all}
use Rattle.std.proofs.Math.Option.{Option, none, some}

abbrev pub pick : {A : Type 0} → Bool → A → A → A
pick true a b = a
pick false a b = b

abbrev pub all_within : ℕ → List ℕ → Bool
all_within most ns = list_all (λ n. leb n most) ns

-- the list that a case starts with, where the case has all of it, there is room for it and no number in it is above the most
unfoldable pub list_in : ℕ → ℕ → List ℕ → Option (List ℕ)
list_in most room [] = none
list_in most room (n ∷ ns) = pick (leb n (length ns) && (leb n room && all_within most (take n ns))) (some (take n ns)) none

abbrev pub count_of : Option (List ℕ) → Optional ℕ
count_of none = None
count_of (some list) = Some (length list)

-- what a lent list holds once the list read, if there is one, is copied to its front
abbrev pub copied_to : List ℕ → Option (List ℕ) → List ℕ
copied_to lent none = lent
copied_to lent (some list) = list ++ drop (length list) lent
