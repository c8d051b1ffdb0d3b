-- The next node of a byte string; and numbers of four bytes each, one after the other: how many bytes they take, and that they are read back.
use Rattle.std.specs.Prelude.{◌≡◌, refl, ℕ, suc, ◌+◌, ◌-◌, ◌*◌, ◌/◌, ◌%◌, ◌^◌, ◌<◌, ◌≤◌, length, get_or, drop}
use Rattle.std.proofs.Common.{sym, ap, ap₂, ◌∙◌, arith, add-one, length-drop, drop-cons}
use mathlib.Core.List.{List, [], ◌∷◌, ◌++◌, append_assoc, Memᴰ}
use Rattle.std.proofs.Math.Nat.{div-div-eq-div-mul}
use Rattle.std.proofs.Math.Numerals.{add-two, add-three, add-four}
use Rattle.endian.specs.Bytes.{from_bytes, to_bytes, node_at, node_bytes, whole_nodes, part_node}

drop_four : (s : List ℕ) (i : ℕ) → i + 4 ≤ length s
    → drop i s ≡ get_or s i 0 ∷ get_or s (i + 1) 0 ∷ get_or s (i + 2) 0 ∷ get_or s (i + 3) 0 ∷ drop (i + 4) s
drop_four s i h =
    simp (add-one, add-two, add-three, add-four)
    (drop-cons s i 0 (omega arith)
    ∙ ap (λ l. get_or s i 0 ∷ l) (drop-cons s (suc i) 0 (omega arith))
    ∙ ap (λ l. get_or s i 0 ∷ get_or s (suc i) 0 ∷ l) (drop-cons s (suc (suc i)) 0 (omega arith))
    ∙ ap (λ l. get_or s i 0 ∷ get_or s (suc i) 0 ∷ get_or s (suc (suc i)) 0 ∷ l) (drop-cons s (suc (suc (suc i))) 0 (omega arith)))

pub whole-next : (s : List ℕ) (i : ℕ) → i + 4 ≤ length s → whole_nodes (drop i s) ≡ node_at s i ∷ whole_nodes (drop (i + 4) s)
unfolding whole_nodes
whole-next s i h = ap whole_nodes (drop_four s i h)

pub whole-none : (s : List ℕ) → length s < 4 → whole_nodes s ≡ []
unfolding whole_nodes
whole-none [] h = refl
whole-none (a ∷ []) h = refl
whole-none (a ∷ b ∷ []) h = refl
whole-none (a ∷ b ∷ c ∷ []) h = refl
whole-none (a ∷ b ∷ c ∷ d ∷ r) h = absurd (omega arith)

-- ---- how many whole nodes, and what is left over
pub length_whole : (s : List ℕ) → length (whole_nodes s) ≡ length s / 4
unfolding whole_nodes
length_whole [] = refl
length_whole (a ∷ []) = refl
length_whole (a ∷ b ∷ []) = refl
length_whole (a ∷ b ∷ c ∷ []) = refl
length_whole (a ∷ b ∷ c ∷ d ∷ r) = omega (arith, length_whole r)

pub part-drop : (s : List ℕ) → part_node s ≡ drop (length s - length s % 4) s
unfolding part_node
part-drop [] = refl
part-drop (a ∷ []) = refl
part-drop (a ∷ b ∷ []) = refl
part-drop (a ∷ b ∷ c ∷ []) = refl
part-drop (a ∷ b ∷ c ∷ d ∷ r) =
    let n = length r in
    let e : suc (suc (suc (suc n))) - suc (suc (suc (suc n))) % 4 ≡ suc (suc (suc (suc (n - n % 4)))) = omega arith in
    rw e (part-drop r)

pub length_part : (s : List ℕ) → length (part_node s) ≡ length s % 4
length_part s = rw (part-drop s) (simp length-drop (omega arith))

pub part-whole : (s : List ℕ) → length s < 4 → part_node s ≡ s
part-whole s h = let e : length s - length s % 4 ≡ 0 = omega arith in rw (part-drop s, e)

pub part-next : (s : List ℕ) → 4 ≤ length s → part_node s ≡ part_node (drop 4 s)
unfolding part_node
part-next [] h = absurd (omega arith)
part-next (a ∷ []) h = absurd (omega arith)
part-next (a ∷ b ∷ []) h = absurd (omega arith)
part-next (a ∷ b ∷ c ∷ []) h = absurd (omega arith)
part-next (a ∷ b ∷ c ∷ d ∷ r) h = refl

-- ---- numbers written, and read back
bytes_whole : (v : ℕ) → v < 2 ^ 32
    → from_bytes (v % 2 ^ 8) (v / 2 ^ 8 % 2 ^ 8) (v / 2 ^ 8 / 2 ^ 8 % 2 ^ 8) (v / 2 ^ 8 / 2 ^ 8 / 2 ^ 8 % 2 ^ 8) ≡ v
bytes_whole v h = omega arith

pub number_read : (v : ℕ) (r : List ℕ) → v < 2 ^ 32 → whole_nodes (to_bytes v ++ r) ≡ v ∷ whole_nodes r
unfolding whole_nodes
number_read v r h =
    let a : v / 2 ^ 8 / 2 ^ 8 ≡ v / 2 ^ 16 = div-div-eq-div-mul v (2 ^ 8) (2 ^ 8) in
    let b : v / 2 ^ 8 / 2 ^ 8 / 2 ^ 8 ≡ v / 2 ^ 24 = ap (λ (w : ℕ). w / 2 ^ 8) a ∙ div-div-eq-div-mul v (2 ^ 16) (2 ^ 8) in
    ap (λ k. k ∷ whole_nodes r)
    (ap₂ (λ c d. from_bytes (v % 2 ^ 8) (v / 2 ^ 8 % 2 ^ 8) (c % 2 ^ 8) (d % 2 ^ 8)) (sym a) (sym b) ∙ bytes_whole v h)

pub numbers-read : (l : List ℕ) → ((v : ℕ) → Memᴰ v l → v < 2 ^ 32) → whole_nodes (node_bytes l) ≡ l
unfolding whole_nodes node_bytes
numbers-read [] h = refl
numbers-read (v ∷ l) h =
    number_read v (node_bytes l) (h v (Memᴰ.head refl)) ∙ ap (v ∷◌) (numbers-read l (λ u m. h u (Memᴰ.tail m)))

pub length-numbers : (l : List ℕ) → length (node_bytes l) ≡ 4 * length l
unfolding node_bytes
length-numbers [] = refl
length-numbers (v ∷ l) = let h = length-numbers l in omega arith

pub numbers_append : (a b : List ℕ) → node_bytes (a ++ b) ≡ node_bytes a ++ node_bytes b
unfolding node_bytes
numbers_append [] b = refl
numbers_append (v ∷ a) b = ap (to_bytes v ++◌) (numbers_append a b) ∙ sym (append_assoc (to_bytes v) (node_bytes a) (node_bytes b))
