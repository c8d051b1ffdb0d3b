-- No word is read twice from a Macondo file, and no two words are renamed alike. The idea: the nodes of a run have letters of their own,
-- so the words of a block differ in their first letter, or in what follows it.
use Rattle.std.specs.Prelude.{◌≡◌, refl, true, false, length}
use Rattle.std.proofs.Common.{sym, ap, ap₂, ◌∙◌, arith}
use Rattle.std.proofs.Math.Path.{subst}
use Rattle.std.proofs.Math.Logic.{⊎_elim}
use mathlib.Core.List.{List, [], ◌∷◌, map, map-map, head-eq_of_cons-eq, tail-eq_of_cons-eq, nil≢cons}
use mathlib.Core.List.Memᴰ
use mathlib.Core.List.{Memᴰ}
use Prim.Native.Nat.{ℕ, zero, suc, ◌/◌, ◌%◌, ◌^◌, ◌≤◌, ◌<◌}
use Rattle.laws.specs.Bits.{has_bit}
use Rattle.laws.specs.Cases.{split}
use Rattle.laws.specs.Lists.{All}
use Rattle.laws.specs.Members.{in_map, map_in, in_filtered}
use Rattle.laws.specs.NoRepeats.{NoRepeats, no_repeats_append, no_repeats_filtered, no_repeats_map}
use Rattle.node.specs.Nodes.{kbwg, arc}
use Rattle.graph.specs.Runs.{Graph, start_node}
use Rattle.graph.specs.Words.{Word, in_order, words_within, words}
use Rattle.graph.proofs.WordsAscend.{ascending-once, words_ascend}
use Rattle.graph.specs.RunLaws.{in_graph}
use Rattle.export.specs.Starts.{deeper}
use Rattle.export.specs.LabelLaws.{labelled_in}
use Rattle.export.specs.ChainLaws.{arc-from}
use Rattle.macondo_file.proofs.AlphabetLaws.{letter-apart}
use Rattle.macondo_file.specs.File.{Format, marks, arcs_of, set_of, blocks, block_number, arc_node, arc_nodes, macondo_nodes, macondo_file}
use Rattle.macondo_file.specs.Reading.{set_words, arc_words, block_words, macondo_words}
use Rattle.macondo_file.specs.RowLaws.{MacondoReady}
use Rattle.macondo_file.proofs.ArcLaws.{in_arcs, arcs-once, letters-apart}
use Rattle.macondo_file.proofs.SetLaws.{in_set-words}
use Rattle.macondo_file.proofs.BlockLaws.{start-block, child-block}
use Rattle.macondo_file.specs.Spelling.{word_ends_in_letter, renamed_to_letters, ending_in_letters}
use Rattle.macondo_file.proofs.WordLaws.{in_in_order, in_spelled, MadeOf, ends, goes, word-node}
use Rattle.macondo_file.proofs.WordLaws.{block_words_in, arc-read, block_words_lem, read_made, start-read}

-- ---- the letters of a set, and the words along arcs
abbrev top_word : ℕ → ℕ → List Word
top_word n set = elim (has_bit set n) [ true ↦ (n ∷ []) ∷ [] | false ↦ [] ]

set-words-once : (n set : ℕ) → NoRepeats (set_words n set)
set-words-once zero set = tt
set-words-once (suc n) set =
    no_repeats_append (set_words n set) (top_word n set) (set-words-once n set)
    (split (has_bit set n) (λ t. rw (t, top_word) ((λ m. Memᴰ.not-nil m), tt)) (λ t. rw (t, top_word) tt))
    (λ w m k. split (has_bit set n)
    (λ t.
    let a = in_set-words n set w m in
    let h = a.1 in
    let e = head-eq_of_cons-eq (sym a.3 ∙ Memᴰ.eq_of_singleton (rw (t, top_word) at k)) in
    omega arith)
    (λ t. Memᴰ.not-nil (rw (t, top_word) at k)))

arc-words-once : (from : ℕ → List Word) (l : List ℕ) → NoRepeats (map (◌/ 2 ^ 24) l)
    → ((e : ℕ) → Memᴰ e l → NoRepeats (from (e % 2 ^ 24))) → NoRepeats (in_order (arc_words from) l)
unfolding in_order
arc-words-once from [] a h = tt
arc-words-once from (e ∷ l) a h =
    no_repeats_append (arc_words from e) (in_order (arc_words from) l)
    (no_repeats_map ((e / 2 ^ 24) ∷◌) (from (e % 2 ^ 24)) (λ u v m n i. tail-eq_of_cons-eq i) (h e (Memᴰ.head refl)))
    (arc-words-once from l a.1 (λ d m. h d (Memᴰ.tail m)))
    (λ w m n.
    let x = in_map ((e / 2 ^ 24) ∷◌) (from (e % 2 ^ 24)) w m in
    let r = in_in_order (arc_words from) l w n in
    let y = in_map ((r.0 / 2 ^ 24) ∷◌) (from (r.0 % 2 ^ 24)) w r.2 in
    a.0 (Memᴰ.cast (head-eq_of_cons-eq (sym x.2 ∙ y.2)) (map_in (◌/ 2 ^ 24) l r.0 r.1)))

made_some : {g : Graph} {labels : List ℕ} {from : ℕ → Word → Type 0} {p : ℕ} → MadeOf g labels from p [] → ⊥
made_some (ends v m e i) = nil≢cons i
made_some (goes v u m h n i) = nil≢cons i

-- ---- the words of a block
module _ {g : Graph} {labels : List ℕ} (c : MacondoReady g labels) (f : Format)
    (few : length (macondo_nodes g labels f) ≤ 2 ^ 24) (shallow : deeper g 64 (start_node g (marks f).root) ≡ false) where
  -- the block that an arc's node leads to
  entry-child : (p e : ℕ) → Memᴰ p (blocks g labels f) → Memᴰ e (arc_nodes g labels f p)
      → (q : ℕ) × Memᴰ q (blocks g labels f) × (e % 2 ^ 24 ≡ block_number g labels f q)
  entry-child p e m i =
      let x = in_map (arc_node g labels f) (arcs_of g labels p) e i in
      let s = in_arcs g labels p x.0 x.1 in
      let r = arc-read c f few shallow p x.0 m s.0 s.1 in
      let q = arc kbwg x.0 in
      (q, child-block c f shallow p q m (arc-from g p x.0 s.0 s.1), ap (◌% 2 ^ 24) x.2 ∙ r.1)

  entry-apart : (p v w : ℕ) → Memᴰ p (blocks g labels f) → Memᴰ v (arcs_of g labels p) → Memᴰ w (arcs_of g labels p)
      → arc_node g labels f v / 2 ^ 24 ≡ arc_node g labels f w / 2 ^ 24 → v ≡ w
  entry-apart p v w m i j e =
      let a = in_arcs g labels p v i in
      let b = in_arcs g labels p w j in
      let x = (arc-read c f few shallow p v m a.0 a.1).0 in
      let y = (arc-read c f few shallow p w m b.0 b.1).0 in
      letters-apart c p v w a.0 b.0 (sym x ∙ e ∙ y)

  entries-once : (p : ℕ) → Memᴰ p (blocks g labels f) → NoRepeats (map (◌/ 2 ^ 24) (arc_nodes g labels f p))
  entries-once p m =
      subst NoRepeats (sym (map-map (◌/ 2 ^ 24) (arc_node g labels f) (arcs_of g labels p)))
      (no_repeats_map (λ v. arc_node g labels f v / 2 ^ 24) (arcs_of g labels p) (λ v w i j e. entry-apart p v w m i j e) (arcs-once c p))

  -- a word has a letter
  read_some : (k p : ℕ) → Memᴰ p (blocks g labels f) → Memᴰ [] (block_words_in g labels f k (block_number g labels f p)) → ⊥
  unfolding block_words
  read_some zero p m n = Memᴰ.not-nil n
  read_some (suc k) p m n = made_some (read_made c f few shallow k p m [] n)

  -- a set's word is one letter, an arc's is longer
  set-arc-apart : (k p : ℕ) → Memᴰ p (blocks g labels f) → (w : Word) → Memᴰ w (set_words 64 (set_of g labels p))
      → Memᴰ w (in_order (arc_words (block_words_in g labels f k)) (arc_nodes g labels f p)) → ⊥
  set-arc-apart k p m w i j =
      let a = in_set-words 64 (set_of g labels p) w i in
      let r = in_in_order (arc_words (block_words_in g labels f k)) (arc_nodes g labels f p) w j in
      let y = in_map ((r.0 / 2 ^ 24) ∷◌) (block_words_in g labels f k (r.0 % 2 ^ 24)) w r.2 in
      let x = entry-child p r.0 m r.1 in
      let none_left = Memᴰ.cast (tail-eq_of_cons-eq (sym a.3 ∙ y.2)) y.1 in
      read_some k x.0 x.1 (subst (λ b. Memᴰ [] (block_words_in g labels f k b)) x.2 none_left)

  read-once : (k p : ℕ) → Memᴰ p (blocks g labels f) → NoRepeats (block_words_in g labels f k (block_number g labels f p))
  unfolding block_words
  read-once zero p m = tt
  read-once (suc k) p m =
      subst NoRepeats (sym (block_words_lem c f few shallow k p m))
      (no_repeats_append (set_words 64 (set_of g labels p)) (in_order (arc_words (block_words_in g labels f k)) (arc_nodes g labels f p))
      (set-words-once 64 (set_of g labels p))
      (arc-words-once (block_words_in g labels f k) (arc_nodes g labels f p) (entries-once p m)
      (λ e i. let x = entry-child p e m i in subst (λ b. NoRepeats (block_words_in g labels f k b)) (sym x.2) (read-once k x.0 x.1)))
      (set-arc-apart k p m))

  pub words-once : (name : List ℕ) → NoRepeats (macondo_words (macondo_file g labels f name))
  words-once name =
      subst NoRepeats (sym (start-read c f few shallow name))
      (read-once (length (macondo_nodes g labels f)) (start_node g (marks f).root) (start-block c f shallow))

-- ---- the words of a graph
module _ {g : Graph} {labels : List ℕ} (c : MacondoReady g labels) where
  abbrev LabelledWord : Word → Type 0
  LabelledWord = All (λ t. t < length labels)

  tiles-labelled : (k p : ℕ) (w : Word) → Memᴰ w (words_within kbwg k g p) → LabelledWord w
  unfolding words_within
  tiles-labelled zero p w m = absurd (Memᴰ.not-nil m)
  tiles-labelled (suc k) p w m =
      let j = word-node g labels k p w m in
      let here = labelled_in g labels c.labelled j.0 (in_graph kbwg g p j.0 j.1) in
      ⊎_elim
      (λ i. rw i.1 (here, tt))
      (λ i. rw i.3 (here, tiles-labelled k (arc kbwg j.0) i.0 i.2))
      (in_spelled (λ q. words_within kbwg k g q) j.0 w j.2)

  pub spelled-labelled : (f : Format) (w : Word) → Memᴰ w (ending_in_letters g f) → All (λ t. t < length labels) w
  unfolding words
  spelled-labelled f w m =
      let s = start_node g (marks f).root in
      tiles-labelled (length g) s w (in_filtered word_ends_in_letter (words kbwg g s) w m).0

  renamed_apart : (u v : Word) → LabelledWord u → LabelledWord v → renamed_to_letters labels u ≡ renamed_to_letters labels v → u ≡ v
  renamed_apart [] [] a b e = refl
  renamed_apart [] (x ∷ v) a b e = absurd (nil≢cons e)
  renamed_apart (t ∷ u) [] a b e = absurd (nil≢cons (sym e))
  renamed_apart (t ∷ u) (x ∷ v) a b e =
      ap₂ ◌∷◌ (letter-apart labels c.fifty t x a.0 b.0 (head-eq_of_cons-eq e)) (renamed_apart u v a.1 b.1 (tail-eq_of_cons-eq e))

  pub renamed_once : (f : Format) → NoRepeats (map (renamed_to_letters labels) (ending_in_letters g f))
  renamed_once f =
      let ws = words kbwg g (start_node g (marks f).root) in
      no_repeats_map (renamed_to_letters labels) (ending_in_letters g f)
      (λ u v m n. renamed_apart u v (spelled-labelled f u m) (spelled-labelled f v n))
      (no_repeats_filtered word_ends_in_letter ws (ascending-once ws (words_ascend kbwg g c.ascending (start_node g (marks f).root))))
