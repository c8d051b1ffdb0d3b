-- The buffer of `get_word_by_index`, tile by tile: what each turn of the walk leaves of it.
use Rattle.std.proofs.Common.{◌≡◌, ◌∙◌, List, [], ◌∷◌, ℕ, ◌+◌, ◌-◌, ◌≤◌, ◌<◌, length, drop, set, arith, length-set}
use Rattle.laws.specs.Buffers.{Filled, Left, left_is, left-put, left-done}
use Rattle.answers.specs.Answers.{Answer, gives, refused}
use Rattle.lookup.specs.Steps.{on, stop}
use Rattle.node.specs.Nodes.{kbwg, tile, arc}
use Rattle.graph.specs.Runs.{Graph}
use Rattle.graph.specs.Words.{Word}
use Rattle.lookup.specs.Walks.{Turn, last, down, turn_in, word_from}
use Rattle.lookup.proofs.WordByIndexLaws.{word-stop, word-full, word-last, word-down, word_next}

module _ {whole : List ℕ × Answer} {w₀ : List ℕ} {n : ℕ} {w : List ℕ} (counts : List ℕ) (g : Graph) (p idx : ℕ)
    (l : Left whole w₀ n w (word_from counts g (length w - n) n p idx)) where
  pub by-stop : {r : Answer} → turn_in counts (drop p g) p idx ≡ stop r → Filled whole w₀ w r
  by-stop {r} e = left-done r (left_is (word-stop counts g (length w - n) n p idx e) l)

  pub by-full : {t : Turn} → turn_in counts (drop p g) p idx ≡ on t → length w ≤ n → Filled whole w₀ w (refused 16 [])
  by-full e h = left-done (refused 16 []) (left_is (word-full counts g (length w - n) n p idx e (omega arith)) l)

  pub by_last : {v t : ℕ} → turn_in counts (drop p g) p idx ≡ on (last v) → t ≡ tile kbwg v → n < length w
      → Filled whole w₀ (set w n t) (gives ((n + 1) ∷ []))
  by_last {v} {t} e k h =
      left-done (gives ((n + 1) ∷ []))
      (left-put t [] (gives ((n + 1) ∷ [])) h (left_is (word-last counts g (length w - n) n p idx e (omega arith) ∙ rw (← k)) l))

  pub by_down : {v k t q : ℕ} → turn_in counts (drop p g) p idx ≡ on (down v k) → t ≡ tile kbwg v → q ≡ arc kbwg v → n < length w
      → Left whole w₀ (n + 1) (set w n t) (word_from counts g (length (set w n t) - (n + 1)) (n + 1) q k)
  by_down {v} {k} {t} {q} e x y h =
      let r : ℕ → Word × Answer = λ m. word_from counts g m (n + 1) q k in
      let o : length w - n - 1 ≡ length (set w n t) - (n + 1) = rw length-set (omega arith) in
      left-put t (r (length (set w n t) - (n + 1))).0 (r (length (set w n t) - (n + 1))).1 h
      (left_is (word-down counts g (length w - n) n p idx e (omega arith) ∙ rw (← x, ← y, o)) l)

  pub by_next : (q k : ℕ) → turn_in counts (drop p g) p idx ≡ turn_in counts (drop q g) q k
      → Left whole w₀ n w (word_from counts g (length w - n) n q k)
  by_next q k e = left_is (word_next counts g (length w - n) n p idx q k e) l
