-- A key tells its entry: the node is what lies below 32 bits, and a node's fields give back what it was packed from.
use Rattle.std.specs.Prelude.{◌≡◌, refl, ℕ, ◌+◌, ◌*◌, ◌≤◌, ◌<◌, eqb, length}
use Rattle.std.proofs.Common.{sym, ap, ◌∙◌, ⊎_elim, arith, length-append}
use mathlib.Core.List.{[], ◌∷◌, Memᴰ}
use Rattle.laws.specs.Cases.{below?}
use Rattle.node.specs.Nodes.{kbwg, tile, accepts, arc}
use Rattle.node.specs.PackedLaws.{Fields}
use Rattle.built.proofs.FieldLaws.{kbwg-fields}
use Rattle.shelf.specs.Shelf.{ShelfEntry, Shelf}
use Rattle.tails.specs.Tails.{tail_node, key_of, keys_of, Narrow}

-- ---- a node's fields
pub node-fields : (e : ShelfEntry) → Narrow e → Fields kbwg (tail_node e) e.tile e.accepts (eqb e.next 0) e.child
node-fields e h = kbwg-fields e.tile e.accepts (eqb e.next 0) e.child h.tile h.child

-- ---- halves
pub halves_same : (a b c d : ℕ) → b < 0x100000000 → d < 0x100000000 → a * 0x100000000 + b ≡ c * 0x100000000 + d → (a ≡ c) × (b ≡ d)
halves_same a b c d h k e =
    let same : a ≡ c = ⊎_elim
    (λ (l : a < c). absurd (omega arith))
    (λ (l : c ≤ a). ⊎_elim (λ (m : c < a). absurd (omega arith)) (λ (m : a ≤ c). omega arith) (below? c a))
    (below? a c) in
    (same, omega arith)

-- ---- the entry of a key
pub key-entry : (e f : ShelfEntry) → Narrow e → Narrow f → key_of e ≡ key_of f → e ≡ f
unfolding key_of
key-entry e f h k same =
    let x = node-fields e h in
    let y = node-fields f k in
    let s = halves_same e.next (tail_node e) f.next (tail_node f) x.below y.below same in
    let t = sym x.tile-is ∙ ap (tile kbwg) s.1 ∙ y.tile-is in
    let a = sym x.accepts-is ∙ ap (accepts kbwg) s.1 ∙ y.accepts-is in
    let c = sym x.arc-is ∙ ap (arc kbwg) s.1 ∙ y.arc-is in
    let n = s.0 in
    λ i. record { tile = t i; accepts = a i; child = c i; next = n i }

-- ---- the keys of a shelf
pub keys_count : (sh : Shelf) → length (keys_of sh) ≡ length sh
unfolding keys_of
keys_count [] = refl
keys_count (e ∷ d) = let h = keys_count d in let l = length-append (keys_of d) (key_of e ∷ []) in omega arith

pub in_keys : (sh : Shelf) (e : ShelfEntry) → Memᴰ e sh → Memᴰ (key_of e) (keys_of sh)
unfolding keys_of
in_keys [] e m = absurd (mathlib.Core.List.Memᴰ.not-nil m)
in_keys (f ∷ d) e m =
    ⊎_elim
    (λ (i : e ≡ f). mathlib.Core.List.Memᴰ.append_right (keys_of d) (mathlib.Core.List.Memᴰ.head (ap key_of i)))
    (λ (k : Memᴰ e d). mathlib.Core.List.Memᴰ.append_left (key_of f ∷ []) (in_keys d e k))
    (mathlib.Core.List.Memᴰ.cases_cons m)

pub keys_in_lem : (sh : Shelf) (x : ℕ) → Memᴰ x (keys_of sh) → (f : ShelfEntry) × Memᴰ f sh × (x ≡ key_of f)
unfolding keys_of
keys_in_lem [] x m = absurd (mathlib.Core.List.Memᴰ.not-nil m)
keys_in_lem (f ∷ d) x m =
    ⊎_elim
    (λ (k : Memᴰ x (keys_of d)). let r = keys_in_lem d x k in (r.0, mathlib.Core.List.Memᴰ.tail r.1, r.2))
    (λ (k : Memᴰ x (key_of f ∷ [])). (f, mathlib.Core.List.Memᴰ.head refl, mathlib.Core.List.Memᴰ.eq_of_singleton k))
    (mathlib.Core.List.Memᴰ.append_cases (keys_of d) m)
