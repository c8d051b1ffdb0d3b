-- Runs one after the other: they ascend where each does and has an end, and the last node is an end.
use Rattle.std.specs.Prelude.{◌≡◌, refl, Bool, true, false, ◌||◌, ℕ, ◌<◌, ltb}
use Rattle.std.proofs.Common.{sym, subst, arith, lt-ltb}
use Rattle.std.proofs.Math.Bool.{or-true}
use mathlib.Core.List.{List, [], ◌∷◌, ◌++◌, map, Memᴰ}
use Rattle.laws.specs.Cases.{and_left, and_right}
use Rattle.laws.specs.Lists.{is_empty, join_all}
use Rattle.node.specs.Nodes.{kbwg, arc, is_end, tile}
use Rattle.graph.specs.Runs.{Graph, ascends, largest_arc, last_ends}
use Rattle.graph.specs.Words.{Word}
use Rattle.built.specs.BranchLaws.{Climbing}
use Rattle.built.specs.Branches.{Branch}
use Rattle.built.specs.Built.{run_nodes}
use Rattle.built.proofs.RunNodeLaws.{branch_node}
use Rattle.built.proofs.RunsLaws.{run_block}

-- nodes that ascend and have an end last, or none
pub record Ended (l : Graph) : Type 0 where
  pub rising : ascends kbwg l ≡ true
  pub last : (v : ℕ) → is_end kbwg v ≡ true → last_ends kbwg (v ∷ l) ≡ true

pub ended-none : Ended []
unfolding ascends last_ends
ended-none = record { rising = refl; last = λ v e. e }

last_join : (x : ℕ) (xs ys : Graph) → last_ends kbwg (x ∷ xs) ≡ true → Ended ys → last_ends kbwg (x ∷ (xs ++ ys)) ≡ true
unfolding last_ends
last_join x [] ys e k = k.last x e
last_join x (y ∷ xs) ys e k = last_join y xs ys e k

rising-after : (x : ℕ) (ys : Graph) → is_end kbwg x ≡ true → ascends kbwg ys ≡ true → ascends kbwg (x ∷ ys) ≡ true
unfolding ascends
rising-after x [] e a = refl
rising-after x (y ∷ ys) e a = rw e a

rising_join : (x : ℕ) (xs ys : Graph) → ascends kbwg (x ∷ xs) ≡ true → last_ends kbwg (x ∷ xs) ≡ true → ascends kbwg ys ≡ true
    → ascends kbwg (x ∷ (xs ++ ys)) ≡ true
unfolding ascends last_ends
rising_join x [] ys a e k = rising-after x ys e k
rising_join x (y ∷ xs) ys a e k =
    let t = is_end kbwg x || ltb (tile kbwg x) (tile kbwg y) in
    rw (and_left t (ascends kbwg (y ∷ xs)) a) (rising_join y xs ys (and_right t (ascends kbwg (y ∷ xs)) a) e k)

-- a run before others
pub ended-run : (xs ys : Graph) → ascends kbwg xs ≡ true → last_ends kbwg xs ≡ true → Ended ys → Ended (xs ++ ys)
unfolding last_ends
ended-run [] ys a e k = k
ended-run (x ∷ xs) ys a e k = record { rising = rising_join x xs ys a e k.rising; last = λ v _. last_join x xs ys e k }

pub ended-node : (v : ℕ) (ys : Graph) → is_end kbwg v ≡ true → Ended ys → Ended (v ∷ ys)
unfolding last_ends
ended-node v ys e k = record { rising = rising-after v ys e k.rising; last = λ w _. k.last v e }

pub ended-all : {A : Type 0} (run_block : A → Graph) (l : List A) → ((x : A) → Memᴰ x l → (ys : Graph) → Ended ys → Ended (run_block x ++ ys))
    → Ended (join_all (map run_block l))
ended-all run_block [] h = ended-none
ended-all run_block (x ∷ l) h = h x (Memᴰ.head refl) (join_all (map run_block l)) (ended-all run_block l (λ y m. h y (Memᴰ.tail m)))

-- ---- the nodes of a run ascend
rising-next : (v w : ℕ) (l : Graph) → tile kbwg v < tile kbwg w → ascends kbwg (w ∷ l) ≡ true → ascends kbwg (v ∷ w ∷ l) ≡ true
unfolding ascends
rising-next v w l h a = rw (lt-ltb (tile kbwg v) (tile kbwg w) h, or-true (is_end kbwg v)) a

pub run-ascends : (to : List Word → ℕ) (bs : List Branch) → ((b : Branch) → Memᴰ b bs → (e : Bool) → tile kbwg (branch_node to b e) ≡ b.first)
    → Climbing bs → ascends kbwg (run_nodes to bs) ≡ true
unfolding run_nodes ascends
run-ascends to [] t c = refl
run-ascends to (b ∷ []) t c = refl
run-ascends to (b ∷ d ∷ bs) t c =
    let x = t b (Memᴰ.head refl) false in
    let y = t d (Memᴰ.tail (Memᴰ.head refl)) (is_empty bs) in
    let l = c.0 in
    rising-next (branch_node to b false) (branch_node to d (is_empty bs)) (run_nodes to bs)
    (subst (λ n. n < tile kbwg (branch_node to d (is_empty bs))) (sym x) (subst (λ n. b.first < n) (sym y) l))
    (run-ascends to (d ∷ bs) (λ a m. t a (Memᴰ.tail m)) c.1)

-- ---- the largest arc
pub largest-below : (g : Graph) (n : ℕ) → 0 < n → ((v : ℕ) → Memᴰ v g → arc kbwg v < n) → largest_arc kbwg g < n
unfolding largest_arc
largest-below [] n z h = z
largest-below (v ∷ g) n z h =
    let a = h v (Memᴰ.head refl) in
    let b = largest-below g n z (λ w m. h w (Memᴰ.tail m)) in
    omega arith
